-- The files of a reply: files of the compilation, and no more bytes than the set.
use Rattle.reflect_core.proofs.Common.{ℕ, zero, suc, ◌+◌, ◌≤◌, List, ◌∷◌, length, ap, arith, length-append, refl, Bool, not, eqb, eq-eqb, filter, Some, flat_map, Contains, length-flat_map, get_or-le-sum_by, root_first}
use Rattle.std.proofs.lemmas.List.Filters.{sum_by-filter_both}
use Rattle.proto_compilation.proofs.Within.{some_of}
use Rattle.proto_links.proofs.Whole.{kept_from, kept_to}

module _ (f : ℕ → List ℕ) where
  moved_short : (r : ℕ) (xs : List ℕ) → Contains xs r
      → length (f r) + length (flat_map f (filter (λ g. not (eqb g r)) xs)) ≤ length (flat_map f xs)
  moved_short r xs w =
      let own = λ (g : ℕ). not (not (eqb g r)) in
      let parts = sum_by-filter_both (λ g. not (eqb g r)) own (λ b. refl) (λ b. length (f b)) xs in
      let kept = kept_from own xs r (ap (λ b. not (not b)) (eq-eqb r r refl)) w in
      grind (arith, length-flat_map, get_or-le-sum_by, parts, kept)

  -- what a reply carries is no longer than what its root reaches
  pub carried_short : (p : ℕ → Bool) (reach : ℕ → List ℕ) (r : ℕ) → Contains (reach r) r
      → length (flat_map f (filter p (root_first reach (Some r)))) ≤ length (flat_map f (reach r))
  carried_short p reach r own =
      let rest = filter (λ g. not (eqb g r)) (reach r) in
      omega (arith, some_of f p (r ∷ rest), length-append (f r) (flat_map f rest), moved_short r (reach r) own)

-- what a reply carries is reached by its root
pub carried_inside : (p : ℕ → Bool) (reach : ℕ → List ℕ) (r a : ℕ) → Contains (reach r) r
    → Contains (filter p (root_first reach (Some r))) a → Contains (reach r) a
carried_inside p reach r a own w = of (kept_to p (root_first reach (Some r)) a w).0 where
  of : Contains (r ∷ filter (λ g. not (eqb g r)) (reach r)) a → Contains (reach r) a
  of (zero, below, is) = rw (← is) own
  of (suc k, below, is) = (kept_to (λ g. not (eqb g r)) (reach r) a (k, omega (arith, below), is)).0
