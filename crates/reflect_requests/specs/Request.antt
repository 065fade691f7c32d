-- Requests of a reflection stream, by `ServerReflectionRequest` of `grpc.reflection.v1`, `reflection.proto`.
use Rattle.std.specs.Prelude.{◌≡◌, ℕ, ◌%◌, ◌^◌, List, [], ◌∷◌, Bool, ◌||◌, ◌==◌, IsTrue, if◌then◌else◌, MatchBool, Option, Some, None, IsUtf8}
use Rattle.std.specs.List.{AllByRecursion, AllZip, filter_map}
use Rattle.wire_format.specs.Reading.{Value, number, bytes, IsRow}

-- what a request asks for
pub data Ask : Type 0 where
  file_by_name : List ℕ → Ask
  file_by_symbol : List ℕ → Ask
  file_by_extension : (containing_type : List ℕ) (number : ℕ) → Ask
  extension_numbers : List ℕ → Ask
  list_services : Ask
  nothing : Ask

-- the host that a field gives, where its number and wire type are those of `host`
abbrev pub host_of : ℕ × Value → Option (List ℕ)
host_of (n, number value) = None
host_of (n, bytes text) = if n == 1 then Some text else None

-- the last of a list, or what stands for none
abbrev pub last_of : {A : Type 0} → A → List A → A
last_of none [] = none
last_of none (x ∷ xs) = last_of x xs

-- the string `containing_type` of a request for an extension is UTF-8; with another wire type its number counts as
-- unknown
abbrev pub IsContainingTypeUtf8 : ℕ × Value → Type 0
IsContainingTypeUtf8 (n, number value) = Unit {0}
IsContainingTypeUtf8 (n, bytes text) = n ≡ 1 → IsUtf8 text

-- in a request for an extension: `containing_type` = 1, a string, and `extension_number` = 2, an `int32`
abbrev pub containing_type_of : ℕ × Value → Option (List ℕ)
containing_type_of (n, number value) = None
containing_type_of (n, bytes text) = if n == 1 then Some text else None

abbrev pub extension_number_of : ℕ × Value → Option ℕ
extension_number_of (n, number value) = if n == 2 then Some (value % 2 ^ 32) else None
extension_number_of (n, bytes text) = None

-- what its fields ask for: of each the last counts
abbrev pub extension_asked : List (ℕ × Value) → Ask
extension_asked fields = file_by_extension (last_of [] (filter_map containing_type_of fields))
    (last_of 0 (filter_map extension_number_of fields))

-- the member of the oneof that a string gives, by the number of its field
abbrev pub string_member : ℕ → List ℕ → Option Ask
string_member n text =
    if n == 3 then Some (file_by_name text)
    else if n == 4 then Some (file_by_symbol text)
    else if n == 6 then Some (extension_numbers text)
    else if n == 7 then Some list_services
    else None

-- what a request for an extension gives
abbrev pub GivesExtension : List ℕ → Option Ask → Type 0
GivesExtension message member =
    (fields : List (ℕ × Value)) × IsRow message fields × (member ≡ Some (extension_asked fields))

-- the member of the oneof that a field gives, where its number and wire type are those of one
abbrev pub GivesMember : ℕ × Value → Option Ask → Type 0
GivesMember (n, number value) member = member ≡ None
GivesMember (n, bytes text) member = MatchBool (n == 5) (GivesExtension text member) (member ≡ string_member n text)

-- the members that are given
abbrev pub given_of : Option Ask → Option Ask
given_of member = member

-- a well-formed request for an extension
pub record IsExtensionRequest (message : List ℕ) : Type 0 where
  pub fields : List (ℕ × Value)
  pub row : IsRow message fields
  pub known : AllByRecursion IsContainingTypeUtf8 fields

-- the numbers of the strings of a request
abbrev pub is_string : ℕ → Bool
is_string n = n == 1 || n == 3 || n == 4 || n == 6 || n == 7

-- a string is UTF-8, and a field 5 is a well-formed request for an extension; with another wire type their numbers
-- count as unknown
abbrev pub IsWellFormed : ℕ × Value → Type 0
IsWellFormed (n, number value) = Unit {0}
IsWellFormed (n, bytes text) = (IsTrue (is_string n) → IsUtf8 text) × (n ≡ 5 → IsExtensionRequest text)

-- the message is a well-formed request with this host and this ask: of each the last counts
pub record ReadsRequest (message host : List ℕ) (asked : Ask) : Type 0 where
  pub fields : List (ℕ × Value)
  pub row : IsRow message fields
  pub known : AllByRecursion IsWellFormed fields
  pub host_is : host ≡ last_of [] (filter_map host_of fields)
  pub members : List (Option Ask)
  pub given : AllZip GivesMember fields members
  pub asked_is : asked ≡ last_of nothing (filter_map given_of members)

-- a well-formed request
abbrev pub IsRequest : List ℕ → Type 0
IsRequest message = (host : List ℕ) × (asked : Ask) × ReadsRequest message host asked
