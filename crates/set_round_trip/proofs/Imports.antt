-- The imports of a file, as they are read: the path of each, and whether it is public.
use Rattle.std.proofs.Common.{◌≡◌, ◌≢◌, ◌∙◌, sym, ap, ap₂, refl, ℕ, ◌+◌, ◌<◌, ◌≤◌, ◌==◌, ◌||◌, inl, inr, Bool, true, false, List, [], ◌∷◌, ◌++◌, map, filter_map, Contains, arith, append_assoc}
use Rattle.std.proofs.lemmas.Bool.{eq-eqb, ne_eqb}
use Rattle.std.proofs.lemmas.List.Elements.{Contains-append_cases}
use Rattle.std.proofs.lemmas.List.Folds.{list_any-append}
use Rattle.std.specs.List.{list_any}
use Rattle.proto_desc.specs.declared.file.FileDesc.{FileDesc}
use Rattle.proto_desc.specs.declared.file.ImportDescriptor.{ImportDescriptor}
use Rattle.proto_links.proofs.Rising.{behind, front, front_or_behind, none_in}
use Rattle.proto_sets.specs.Elements.{number_in}
use Rattle.proto_sets.specs.Heads.{imports_from, paths_of}
use Rattle.wire_format.specs.Reading.{Value}
use Rattle.set_round_trip.proofs.Entries.{file_entries, import_path, paths_are, position_of, positions_from, publics_are}

abbrev pub import_mark : ImportDescriptor → List ℕ × Bool
import_mark i = (i.path, i.is_public)

abbrev pub import_marks : FileDesc → List (List ℕ × Bool)
import_marks f = map import_mark f.imports

-- ---- a position among others

none_any : (k : ℕ) (xs : List ℕ) → ((a : ℕ) → Contains xs a → a ≢ k) → list_any (λ p. p == k) xs ≡ false
none_any k [] none = refl
none_any k (x ∷ xs) none =
    let here : (x == k) ≡ false = ne_eqb x k (none x (front x xs)) in
    rw (here, none_any k xs (λ a has. none a (behind x xs a has))) refl

later : (k : ℕ) (is : List ImportDescriptor) (a : ℕ) → Contains (positions_from k is) a → k ≤ a
later k [] a has = absurd (none_in a has)
later k (i ∷ is) a has =
    later_by i.is_public k (positions_from (k + 1) is) a (λ there. omega (arith, later (k + 1) is a there)) has where
      later_by : (b : Bool) (k : ℕ) (qs : List ℕ) (a : ℕ) → (Contains qs a → k ≤ a) → Contains (position_of b k ++ qs) a
          → k ≤ a
      later_by true k qs a rest has = elim (front_or_behind k qs a has) [
        | inl same ↦ omega (arith, same)
        | inr there ↦ rest there
      ]
      later_by false k qs a rest has = rest has

flag_of : (b : Bool) (k : ℕ) (qs : List ℕ) → ((a : ℕ) → Contains qs a → a ≢ k)
    → list_any (λ p. p == k) (position_of b k ++ qs) ≡ b
flag_of true k qs none = rw (eq-eqb k k refl) refl
flag_of false k qs none = none_any k qs none

flag : (pre : List ℕ) (k : ℕ) (i : ImportDescriptor) (is : List ImportDescriptor)
    → ((a : ℕ) → Contains pre a → a < k)
    → list_any (λ p. p == k) (pre ++ positions_from k (i ∷ is)) ≡ i.is_public
flag pre k i is below =
    let before = none_any k pre (λ a has same. omega (arith, below a has, same)) in
    let own = flag_of i.is_public k (positions_from (k + 1) is)
    (λ a has same. omega (arith, later (k + 1) is a has, same)) in
    list_any-append (λ p. p == k) pre (positions_from k (i ∷ is)) ∙ ap₂ (λ (x y : Bool). x || y) before own

-- ---- the imports that are read

below_next : (pre : List ℕ) (k : ℕ) (b : Bool) → ((a : ℕ) → Contains pre a → a < k) → (a : ℕ)
    → Contains (pre ++ position_of b k) a → a < k + 1
below_next pre k b below a has = elim (Contains-append_cases pre (position_of b k) a has) [
  | inl before ↦ omega (arith, below a before)
  | inr own ↦ own_below b own
] where
  own_below : (b : Bool) → Contains (position_of b k) a → a < k + 1
  own_below true own = elim (front_or_behind k [] a own) [
    | inl same ↦ omega (arith, same)
    | inr there ↦ absurd (none_in a there)
  ]
  own_below false own = absurd (none_in a own)

marks_from : (pre : List ℕ) (k : ℕ) (is : List ImportDescriptor) → ((a : ℕ) → Contains pre a → a < k)
    → map import_mark (imports_from (pre ++ positions_from k is) k (map import_path is)) ≡ map import_mark is
marks_from pre k [] below = refl
marks_from pre k (i ∷ is) below =
    let own = position_of i.is_public k in
    let rest = positions_from (k + 1) is in
    let next = marks_from (pre ++ own) (k + 1) is (below_next pre k i.is_public below) in
    let split : pre ++ (own ++ rest) ≡ (pre ++ own) ++ rest = sym (append_assoc pre own rest) in
    let more : map import_mark (imports_from (pre ++ (own ++ rest)) (k + 1) (map import_path is)) ≡ map import_mark is =
    ap (λ (ps : List ℕ). map import_mark (imports_from ps (k + 1) (map import_path is))) split ∙ next in
    ap₂ (λ (b : Bool) (ms : List (List ℕ × Bool)). (i.path, b) ∷ ms) (flag pre k i is below) more

pub read_marks : (f : FileDesc) (fields : List (ℕ × Value)) → fields ≡ file_entries f
    → map import_mark (imports_from (filter_map (number_in 10) fields) 0 (paths_of fields)) ≡ import_marks f
read_marks f fields same =
    ap (λ (fs : List (ℕ × Value)). map import_mark (imports_from (filter_map (number_in 10) fs) 0 (paths_of fs))) same
    ∙ ap₂ (λ (ns : List ℕ) (ps : List (List ℕ)). map import_mark (imports_from ns 0 ps)) (publics_are f) (paths_are f)
    ∙ marks_from [] 0 f.imports (λ a has. absurd (none_in a has))
