-- Names in the order of their bytes, rows of names that rise, and files in the order of their names.
use Rattle.proto_links.proofs.Common.{◌≡◌, ◌≢◌, ℕ, ◌-◌, ◌<◌, List, [], length, get_or, subst, arith, Ordering, Less, Equal, nat_cmp, ◌∙◌, sym, ◌≤◌, ◌∷◌, Greater, map, ◌↔◌, IsSortedByKey, slice_cmp, cases_order, get_or-map, length-map, far, FileDesc, name_of, name_at, IsNamed}
use Rattle.std.proofs.lemmas.Cmp.{nat_list_cmp_total, tied_itself}
use Rattle.proto_base.specs.NameOrder.{NamesRise}
use Rattle.std.proofs.lemmas.Map.Lookups.{exact_bytes}

pub less_not_equal : (o : Ordering) → o ≡ Less → o ≡ Equal → ⊥
less_not_equal o h k = cc

pub not_less_itself : (xs : List ℕ) → slice_cmp nat_cmp xs xs ≡ Less → ⊥
not_less_itself xs h = less_not_equal _ h (tied_itself nat_list_cmp_total xs)

pub equal_itself : (xs ys : List ℕ) → xs ≡ ys → slice_cmp nat_cmp xs ys ≡ Equal
equal_itself xs ys e = rw e (tied_itself nat_list_cmp_total ys)

-- ---- names that rise

module _ (names : List (List ℕ)) (rise : NamesRise names) where
  abbrev name : ℕ → List ℕ
  name i = get_or names i []

  -- any two of them
  pub rise_far : (i j : ℕ) → i < j → j < length names → slice_cmp nat_cmp (name i) (name j) ≡ Less
  rise_far = far (λ x y. slice_cmp nat_cmp x y ≡ Less) nat_list_cmp_total.trans names [] rise

  -- no name comes back
  pub names_differ : (i j : ℕ) → i < j → j < length names → name i ≢ name j
  names_differ i j less h e =
      not_less_itself (name j) (subst (λ xs. slice_cmp nat_cmp xs (name j) ≡ Less) e (rise_far i j less h))

  pub one_position : (i j : ℕ) → i < length names → j < length names → name i ≡ name j → i ≡ j
  one_position i j hi hj e = grind (arith, cases_order, names_differ)

-- at most one file has a name
pub named_once : (files : List FileDesc) (name : List ℕ) → NamesRise (map name_of files) → (b c : ℕ)
    → IsNamed files name b → IsNamed files name c → b ≡ c
named_once files name order b c nb nc = grind (arith, length-map, one_position)

pub name_is : (files : List FileDesc) (k : ℕ) (d : FileDesc) → k < length files
    → name_at files k ≡ name_of (get_or files k d)
name_is files k d h = get_or-map name_of files k d [] h

-- the order that a search asks for
pub sorted_names : (files : List FileDesc) → NamesRise (map name_of files)
    → IsSortedByKey name_of (slice_cmp nat_cmp) files
sorted_names files order k d low h = grind (arith, length-map, name_is, nat_list_cmp_total)

-- names of neighbours as an index gives them
pub pair_names : (files : List FileDesc) (n : ℕ) (f g : FileDesc) → 0 < n → n < length files
    → f ≡ get_or files (n - 1) f → g ≡ get_or files n g
    → (slice_cmp nat_cmp (name_of f) (name_of g) ≡ Less)
    ↔ (slice_cmp nat_cmp (name_at files (n - 1)) (name_at files n) ≡ Less)
pair_names files n f g some h ef eg = grind (arith, name_is)

-- ---- what a search finds

pub found_name : (files : List FileDesc) (k : ℕ) (name : List ℕ) → k < length files
    → ((d : FileDesc) → slice_cmp nat_cmp (name_of (get_or files k d)) name ≡ Equal) → IsNamed files name k
found_name [] k name h found = absurd (omega arith)
found_name (f ∷ fs) k name h found = (h, name_is (f ∷ fs) k f h ∙ exact_bytes _ _ (found f))

pub no_name : (files : List FileDesc) (at : ℕ) (name : List ℕ)
    → ((k : ℕ) (d : FileDesc) → 0 ≤ k → k < at → slice_cmp nat_cmp (name_of (get_or files k d)) name ≡ Less)
    → ((k : ℕ) (d : FileDesc) → at ≤ k → k < length files
    → slice_cmp nat_cmp (name_of (get_or files k d)) name ≡ Greater) → (b : ℕ) → IsNamed files name b → ⊥
no_name [] at name left right b (h, same) = omega arith
no_name (f ∷ fs) at name left right b (h, same) =
    let equal = equal_itself (name_of (get_or (f ∷ fs) b f)) name (sym (name_is (f ∷ fs) b f h) ∙ same) in
    grind (arith, left b f, right b f)
