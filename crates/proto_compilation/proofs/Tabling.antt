-- The table of files.
use Rattle.std.proofs.Common.{◌≡◌, sym, refl, ℕ, zero, suc, ◌<◌, ◌≤◌, Bool, List, [], ◌∷◌, ◌++◌, map, length, get_or, Option, Some, None, arith, String, Vec, string_bytes, string_eq, position, MatchOption, slice_get, Global}
use Rattle.std.specs.List.{position_or_len}
use Rattle.std.proofs.lemmas.List.{length-map}
use Rattle.std.proofs.lemmas.List.Sums.{fails_before_first}
use Rattle.proto_compilation.specs.Compilation.{IsNamed, bytes_at, file_name}
use Rattle.proto_compilation.specs.Parts.{compiled_file}
use Rattle.std.specs.Str.{bytes_eq}
use Rattle.std.specs.Map.{keys_of}
use Rattle.std.proofs.lemmas.Bool.Decides.{nat_tests}
use Rattle.std.proofs.lemmas.List.Quantifiers.{position-Some}
use Rattle.std.proofs.lemmas.Slice.Eq.{bytes_eq-Decides}
use Rattle.indexmap.specs.IndexMap.{insert_entry}

abbrev Entry : Type 0
Entry = String Global × Vec ℕ Global

abbrev key_of : Entry → String Global
key_of entry = entry.0

abbrev has_name : List ℕ → String Global → Bool
has_name name key = bytes_eq name (string_bytes key)

-- ---- a file that is added

pub pushed : (es : List Entry) (key : String Global) (value : Vec ℕ Global)
    → ((a : ℕ) → IsNamed (map compiled_file es) (string_bytes key) a → ⊥)
    → map compiled_file (insert_entry string_eq es key value) ≡ map compiled_file es ++ compiled_file (key, value) ∷ []
pushed [] key value none = refl
pushed (e ∷ es) key value none = grind (
  arith,
  bytes_eq-Decides,
  none 0,
  pushed es key value (λ a named. none (suc a) (omega (arith, named.0), named.1)),
)

-- ---- a file that is looked up

name_is : (es : List Entry) (a : ℕ) (e : Entry) → a < length es
    → get_or (map file_name (map compiled_file es)) a [] ≡ string_bytes (get_or (keys_of es) a e.0)
name_is [] a e h = absurd (omega arith)
name_is (x ∷ es) zero e h = refl
name_is (x ∷ es) (suc a) e h = name_is es a e (omega arith)

-- a name has its position, or no file has it
pub positioned : (es : List Entry) (name : List ℕ) (o : Option ℕ) → o ≡ position (has_name name) (keys_of es)
    → MatchOption o ((a : ℕ) → IsNamed (map compiled_file es) name a → ⊥) (IsNamed (map compiled_file es) name)
positioned [] name None is = λ a named. omega (arith, named.0)
positioned [] name (Some a) is = absurd (cc is)
positioned (e ∷ es) name None is = λ a named. (
    let keys = keys_of (e ∷ es) in
    let past : length keys ≤ position_or_len (has_name name) keys = grind (arith, nat_tests) in
    let here : a < length (e ∷ es) = omega (arith, named.0, length-map (e ∷ es) compiled_file) in
    let fails = fails_before_first (has_name name) keys a e.0 (omega (arith, past, here, length-map (e ∷ es) key_of)) in
    grind (arith, fails, name_is (e ∷ es) a e here, bytes_eq-Decides name (string_bytes (get_or keys a e.0))))
positioned (e ∷ es) name (Some a) is =
    let keys = keys_of (e ∷ es) in
    let first = position-Some (has_name name) keys a e.0 (sym is) in
    let below : a < length (e ∷ es) = omega (arith, length-map (e ∷ es) key_of, first.0) in (
      omega (arith, length-map (e ∷ es) compiled_file, below),
      grind (arith, name_is (e ∷ es) a e below, bytes_eq-Decides name (string_bytes (get_or keys a e.0)), first.1),
    )

-- ---- the bytes of a file

pub bytes_are : (es : List Entry) (a : ℕ) (e : Entry) → slice_get es a ≡ Some e
    → e.1.items ≡ bytes_at (map compiled_file es) a
bytes_are [] a e some = cc
bytes_are (x ∷ es) zero e some = cc
bytes_are (x ∷ es) (suc a) e some = bytes_are es a e some
