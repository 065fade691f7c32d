-- The earliest of a list of spots.
use Rattle.proto_checks.proofs.Common.{◌≡◌, sym, inl, inr, List, [], ◌∷◌, ◌++◌, Option, Some, Contains, Contains-append_left, Contains-push, Contains-push_cases, Spot, spot}
use Rattle.proto_base.specs.declared.kind.Kind.TheVariants as kind
use Rattle.proto_base.specs.Least.{IsLeast}
use Rattle.proto_base.specs.Lesser.{IsLesser}
use Rattle.proto_base.proofs.Sets.{least_one, least_or}

-- what a list reads as past its end
abbrev pub no_spot : Spot
no_spot = spot (record { offset = 0 }) kind.NotUtf8

-- one spot more
pub least_push : (xs : List Spot) (s : Spot) (p r : Option Spot) → IsLeast (Contains xs) p → IsLesser p (Some s) r
    → IsLeast (Contains (xs ++ s ∷ [])) r
least_push xs s p r h w = least_or (Contains xs) (λ x. x ≡ s) (Contains (xs ++ s ∷ [])) p (Some s) r
    (λ x v. elim (Contains-push_cases xs s x v) [ inl old ↦ inl old | inr is ↦ inr (sym is) ])
    (λ x old. Contains-append_left xs (s ∷ []) x old) (λ x is. rw is (Contains-push xs s)) h (least_one s) w
