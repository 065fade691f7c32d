-- Words for the contracts of the private functions that read a request. They are no part of its definition.
use Rattle.std.specs.Prelude.{◌≡◌, ℕ, List, Option, Some, None}
use Rattle.std.specs.List.{AllByRecursion}
use Rattle.wire_format.specs.Reading.{Value, IsRow}
use Rattle.reflect_requests.specs.declared.request.Said.{Said}
use Rattle.reflect_requests.specs.declared.request.Said.TheVariants.{Host, Member, Unknown}
use Rattle.reflect_requests.specs.Request.{Ask, host_of, GivesMember, IsContainingTypeUtf8, IsWellFormed, extension_asked}
use Rattle.reflect_requests.specs.ProgramFrames.{ask_of}

abbrev pub host_in : Said → Option (List ℕ)
host_in (Host host) = Some host.now
host_in (Member asked) = None
host_in Unknown = None

abbrev pub member_in : Said → Option Ask
member_in (Host host) = None
member_in (Member asked) = Some (ask_of asked)
member_in Unknown = None

-- what a well-formed field says
pub record Says (field : ℕ × Value) (said : Said) : Type 0 where
  pub known : IsWellFormed field
  pub host : host_in said ≡ host_of field
  pub member : GivesMember field (member_in said)

-- what a well-formed request for an extension asks for
pub record AsksExtension (message : List ℕ) (asked : Ask) : Type 0 where
  pub fields : List (ℕ × Value)
  pub row : IsRow message fields
  pub known : AllByRecursion IsContainingTypeUtf8 fields
  pub asked_is : asked ≡ extension_asked fields
