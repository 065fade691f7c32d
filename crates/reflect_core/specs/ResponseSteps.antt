-- Words for the contracts of the private functions that answer a body. They are no part of its definition.
use Rattle.std.specs.Prelude.{◌≡◌, ℕ, ◌+◌, ◌*◌, ◌<◌, ◌^◌, List, length, slice_index_or, Option, Contains, Vec}
use Rattle.std.specs.Option.{ForSome}
use Rattle.std.specs.declared.alloc.Global.{Global}
use Rattle.proto_compilation.specs.Compilation.{Compilation}
use Rattle.proto_links.specs.Linked.{count_of}
use Rattle.reflect_core.specs.Answer as answers
use Rattle.reflect_core.specs.Answer.{Answer}
use Rattle.reflect_core.specs.ProgramAnswers.{answer_of}
use Rattle.reflect_core.specs.Reply.{Asked, contents_of, host_field, member_of, reply, services_bytes}
use Rattle.reflect_core.specs.declared.asked.Asked as rust
use Rattle.wire_format.specs.Field.{bytes_field}
use Rattle.wire_format.specs.Varint.{varint_bytes}

-- a request of the program
abbrev pub asked_of : rust.Asked → Asked
asked_of asked = record { message = asked.message.now; host = asked.host.now; answer = answer_of asked.answer }

-- a file is one of so many
abbrev pub IsRootWithin : ℕ → Option ℕ → Type 0
IsRootWithin count root = ForSome root (λ a. a < count)

-- the services are at hand where the answer is of them, its files are of the compilation, and what it holds has room in
-- a reply
pub record HasContents (c : Compilation) (services : List ℕ) (answer : Answer) (files : List ℕ) : Type 0 where
  pub listed : answer ≡ answers.services → services ≡ services_bytes c
  pub inside : (a : ℕ) → Contains files a → a < count_of c.links
  pub short : length (contents_of c files answer) < 2 ^ 32

-- how long a reply is whose member holds so many bytes
abbrev pub reply_size : Asked → ℕ → ℕ
reply_size asked contents =
    length (host_field asked.host) + (length (bytes_field 2 asked.message)
    + (length (varint_bytes (member_of asked.answer * 8 + 2)) + (length (varint_bytes contents) + contents)))

-- the same of a reply, which has room in a frame
pub record IsReplyable (c : Compilation) (services : List ℕ) (asked : Asked) (files : List ℕ) : Type 0 where
  pub listed : asked.answer ≡ answers.services → services ≡ services_bytes c
  pub inside : (a : ℕ) → Contains files a → a < count_of c.links
  pub short : length (reply c asked files) < 2 ^ 32

-- each of some requests of the program, with the files of its reply
pub record AreReplyable (c : Compilation) (services : List ℕ) (asked : List rust.Asked)
    (carried : List (Vec ℕ Global)) : Type 0 where
  pub size : length carried ≡ length asked
  pub each : (k : ℕ) (a : rust.Asked) (files : Vec ℕ Global) → k < length asked
      → IsReplyable c services (asked_of (slice_index_or asked k a)) (slice_index_or carried k files).items

-- how long is what the member of a reply holds
abbrev pub contents_length : Compilation → rust.Asked → Vec ℕ Global → ℕ
contents_length c asked files = length (contents_of c files.items (asked_of asked).answer)

-- so long is what the members of the first so many replies hold
pub record AreContentsLengths (c : Compilation) (asked : List rust.Asked) (carried : List (Vec ℕ Global))
    (lengths : List ℕ) (count : ℕ) : Type 0 where
  pub size : length lengths ≡ count
  pub each : (k n : ℕ) (a : rust.Asked) (files : Vec ℕ Global) → k < count
      → slice_index_or lengths k n ≡ contents_length c (slice_index_or asked k a) (slice_index_or carried k files)

-- the bytes are those of the services, where one of the requests asks for them
abbrev pub AreServicesFor : Compilation → List rust.Asked → List ℕ → Type 0
AreServicesFor c asked bytes = (k : ℕ) (a : rust.Asked) → k < length asked
    → (asked_of (slice_index_or asked k a)).answer ≡ answers.services → bytes ≡ services_bytes c

abbrev pub files_of : Vec ℕ Global → List ℕ
files_of files = files.items
