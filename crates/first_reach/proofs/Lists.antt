-- Members of lists, tested by a Bool.
use Rattle.std.proofs.Common.{arith, ◌≡◌, ℕ, ◌&&◌, Bool, true, false, Option, Some, List, [], ◌∷◌, filter, refl, eq-eqb, eqb-true, eqb, slice_get, All, subst, Contains, ◌↔◌, IsTrue, ◌==◌}
use Rattle.std.specs.Set.{is_member}
use Rattle.std.proofs.lemmas.Bool.{or_right}
use Rattle.std.proofs.lemmas.Option.{slice_get_within, get_or_from_slice_get}
use Rattle.share_work.proofs.Sums.{none_in, front, behind, front_or_behind}
use Rattle.first_reach.specs.Carried.{root_first, reached}

-- the list has the file
abbrev pub has : ℕ → List ℕ → Bool
has g files = is_member ◌==◌ files g

pub has_is : (g : ℕ) (files : List ℕ) → IsTrue (has g files) ↔ Contains files g
has_is g [] = (λ h. let bad : false ≡ true = h in cc, λ h. absurd (none_in g h))
has_is g (x ∷ xs) = grind (arith, behind, eqb-true, front, front_or_behind, has_is g xs)

-- two tests that agree on the members keep the same
pub filter_on : (p q : ℕ → Bool) (xs : List ℕ) → ((x : ℕ) → has x xs ≡ true → p x ≡ q x) → filter p xs ≡ filter q xs
filter_on p q [] h = refl
filter_on p q (x ∷ xs) h =
    grind (arith, eq-eqb, filter_on p q xs (λ y e. h y (or_right (eqb y x) (has y xs) e)))

pub filter_filter : (p q : ℕ → Bool) (xs : List ℕ) → filter p (filter q xs) ≡ filter (λ x. q x && p x) xs
filter_filter p q [] = refl
filter_filter p q (x ∷ xs) = grind (arith, filter_filter p q xs)

-- a test that no member passes keeps none
pub filter_none : (p : ℕ → Bool) (xs : List ℕ) → ((x : ℕ) → has x xs ≡ true → p x ≡ false) → filter p xs ≡ []
filter_none p [] h = refl
filter_none p (x ∷ xs) h =
    grind (arith, eq-eqb, filter_none p xs (λ y e. h y (or_right (eqb y x) (has y xs) e)))

pub has_filter : (p : ℕ → Bool) (g : ℕ) (xs : List ℕ) → has g (filter p xs) ≡ (has g xs && p g)
has_filter p g [] = refl
has_filter p g (x ∷ xs) = grind (arith, eqb-true, has_filter p g xs)

-- root_first has the files that the root reaches
pub has_root_first : (reach : ℕ → List ℕ) (root : Option ℕ) → ((r : ℕ) → root ≡ Some r → has r (reach r) ≡ true)
    → (g : ℕ)
    → has g (root_first reach root) ≡ has g (reached reach root)
has_root_first reach root own g = grind (arith, eqb-true, has_filter)

pub all_get : {X : Type 0} (P : X → Type 0) (xs : List X) (j : ℕ) (x : X) → All P xs → slice_get xs j ≡ Some x → P x
all_get P xs j x h e = subst P (get_or_from_slice_get xs j x x e) (h j x (slice_get_within xs j x e))
