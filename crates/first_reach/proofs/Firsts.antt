-- The first root that reaches a file.
use Rattle.std.proofs.Common.{◌≡◌, ℕ, zero, suc, ◌+◌, ◌<◌, ◌≤◌, ◌⊎◌, inl, inr, true, Option, Some, None, List, [], ◌∷◌, length, refl, arith, rules, slice_get, IsTrue}
use Rattle.std.proofs.lemmas.Bool.{cases_Bool}
use Rattle.share_work.specs.Posts.{NONE, least_at}
use Rattle.share_work.proofs.Legal.{least_at-le-NONE, least_at-above, least_at-below}
use Rattle.first_reach.specs.Carried.{reached}
use Rattle.first_reach.specs.First.{first_from, first_reach}
use Rattle.first_reach.specs.Laws.{LeastIsFirst}
use Rattle.first_reach.proofs.Lists.{has, has_is}

first_between : (reach : ℕ → List ℕ) (roots : List (Option ℕ)) (i g : ℕ) → i + length roots ≤ NONE
    → (i ≤ first_from reach i roots g) × (first_from reach i roots g ≤ NONE)
first_between reach [] i g top = (omega arith, omega arith)
first_between reach (r ∷ roots) i g top = grind (arith, first_between reach roots (i + 1) g (omega arith))

-- root k reaches the file where it is the first
pub first_hits : (reach : ℕ → List ℕ) (roots : List (Option ℕ)) (i g k : ℕ) (root : Option ℕ) → i + length roots ≤ NONE
    → slice_get roots k ≡ Some root
    → first_from reach i roots g ≡ i + k → has g (reached reach root) ≡ true
first_hits reach [] i g k root top e is = let bad : None ≡ Some root = e in absurd (search rules)
first_hits reach (r ∷ roots) i g zero root top e is = grind (arith, first_between)
first_hits reach (r ∷ roots) i g (suc k) root top e is =
    grind (arith, first_hits reach roots (i + 1) g k root (omega arith) e)

-- no root before the first one reaches the file
pub first_below : (reach : ℕ → List ℕ) (roots : List (Option ℕ)) (i g k : ℕ) (root : Option ℕ) → i + length roots ≤ NONE
    → slice_get roots k ≡ Some root
    → has g (reached reach root) ≡ true → first_from reach i roots g ≤ i + k
first_below reach [] i g k root top e h = let bad : None ≡ Some root = e in absurd (search rules)
first_below reach (r ∷ roots) i g zero root top e h = grind arith
first_below reach (r ∷ roots) i g (suc k) root top e h =
    grind (arith, first_below reach roots (i + 1) g k root (omega arith) e h)

-- the first root is one of them
pub first_found : (reach : ℕ → List ℕ) (roots : List (Option ℕ)) (i g : ℕ)
    → (first_from reach i roots g ≡ NONE) ⊎ ((k : ℕ) × (first_from reach i roots g ≡ i + k)
    × ((root : Option ℕ) × (slice_get roots k ≡ Some root) × IsTrue (has g (reached reach root))))
first_found reach [] i g = inl refl
first_found reach (r ∷ roots) i g = elim (cases_Bool (has g (reached reach r))) [
  | inl t ↦ inr (0, rw t (omega arith), (r, refl, t))
  | inr f ↦ elim (first_found reach roots (i + 1) g) [
    | inl none ↦ inl (rw f none)
    | inr at ↦ inr (suc at.0, rw f (omega (arith, at.1)), at.2)
  ]
]

-- where root i reaches a file that no root before it reaches, none before it reaches what reaches that file
pub first_spreads : (reach : ℕ → List ℕ) (roots : List (Option ℕ)) (i r g : ℕ) → length roots ≤ NONE
    → slice_get roots i ≡ Some (Some r)
    → ((k : ℕ) (root : Option ℕ) → slice_get roots k ≡ Some root → has r (reached reach root) ≡ true
    → has g (reached reach root) ≡ true)
    → has r (reach r) ≡ true → i < NONE → first_reach reach roots g ≡ i → first_reach reach roots r ≡ i
first_spreads reach roots i r g top at joins own under is =
    let below = first_below reach roots 0 r i (Some r) (omega arith) at own in
    grind (arith, first_below reach roots 0 g, first_found reach roots 0 r, joins)

pub least_is : LeastIsFirst
least_is reach roots top pairs same g =
    let F = first_from reach 0 roots g in
    let above : F ≤ least_at g pairs = least_at-above g F pairs (first_between reach roots 0 g (omega arith)).1
    (λ x h.
    let r = (same g x).0 h in
    let low = first_below reach roots 0 g x r.0 (omega arith) r.1 ((has_is g (reached reach r.0)).1 r.2) in
    omega arith) in
    elim (first_found reach roots 0 g) [
      | inl none ↦ omega (arith, least_at-le-NONE g pairs)
      | inr (k, e, (r, at, h)) ↦
          omega (arith, least_at-below g k pairs ((same g k).1 (r, at, (has_is g (reached reach r)).0 h)))
    ]
