-- Words of private contracts: what the entries of an index stand for. An entry has a name of its own, a part of the
-- text of all own names. It stands in the scope that an entry before it names, or in none.
use Rattle.std.specs.Prelude.{◌≡◌, ◌≢◌, ℕ, ◌+◌, ◌<◌, ◌≤◌, List, [], ◌∷◌, ◌++◌, fold, length, map, take, drop, IsUtf8, IfSome, Option, None, Some, slice_index_or}
use Rattle.proto_desc.specs.DeclaredNames.{scoped}
use Rattle.proto_desc.specs.declared.name_kind.NameKind.{NameKind}
use Rattle.proto_names.specs.Hashes.{rolling_hash}
use Rattle.proto_names.specs.Occurrences.{Occurrence}
use Rattle.proto_names.specs.Runs.{at}
use Rattle.proto_names.specs.declared.entry.Entry.{Entry}
use Rattle.proto_names.specs.declared.entry.Location.{Location}

-- within the text of all own names
abbrev pub own_name : List ℕ → Entry → List ℕ
own_name text e = take e.len (drop e.start text)

-- an entry with its own name
pub record NamedEntry : Type 0 where
  pub name : List ℕ
  pub scope : ℕ
  pub location : Location
  pub kind : Option NameKind

abbrev pub named_entry : List ℕ → Entry → NamedEntry
named_entry text e = record { name = own_name text e; scope = e.scope; location = e.location; kind = e.kind }

-- what an entry stands for behind others: its scope is the name at a position among these, or none
abbrev pub occurrence_behind : List Occurrence → NamedEntry → Occurrence
occurrence_behind os e =
    record {
      name = scoped (at os e.scope).name e.name;
      file = e.location.file;
      place = e.location.place;
      kind = e.kind;
    }

-- what entries stand for, each behind those before it
unfoldable pub occurrences_of_named : List NamedEntry → List Occurrence
occurrences_of_named es = fold (λ os e. os ++ occurrence_behind os e ∷ []) [] es

-- with the text of all own names
abbrev pub occurrences_of_entries : List ℕ → List Entry → List Occurrence
occurrences_of_entries text es = occurrences_of_named (map (named_entry text) es)

-- at a position: the own name stands within the text, the full name is UTF-8 and has the rolling hash, and the name of
-- the scope, where there is one, is not empty
pub record IsEntryAt (text : List ℕ) (os : List Occurrence) (k : ℕ) (e : Entry) : Type 0 where
  pub within : e.start + e.len ≤ length text
  pub is_text : IsUtf8 (at os k).name
  pub hashed : e.rolling ≡ rolling_hash (at os k).name
  pub named : e.scope < k → (at os e.scope).name ≢ []

abbrev pub AreEntriesOf : List ℕ → List Entry → Type 0
AreEntriesOf text es =
    (k : ℕ) (d : Entry) → k < length es → IsEntryAt text (occurrences_of_entries text es) k (slice_index_or es k d)

-- ---- scopes in which names are put

-- the name of the scope that stands at a position; of none it is empty
abbrev pub scope_name : List Occurrence → Option ℕ → List ℕ
scope_name os None = []
scope_name os (Some k) = (at os k).name

-- what stands there is a scope: it has a name that is not empty
abbrev pub IsScopeAmong : List Occurrence → Option ℕ → Type 0
IsScopeAmong os scope = IfSome scope (λ k. (k < length os) × ((at os k).name ≢ []))

-- ---- names that are too long

-- at a position, the first name of more bytes than this
pub record IsFirstLonger (most : ℕ) (os : List Occurrence) (k : ℕ) : Type 0 where
  pub below : k < length os
  pub long : most < length (at os k).name
  pub before : (j : ℕ) → j < k → length (at os j).name ≤ most
