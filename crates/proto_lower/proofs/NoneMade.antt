-- Fields none of which is `optional` make no oneof.
use Rattle.proto_lower.proofs.Common.{◌≡◌, ℕ, List, [], ◌∷◌, refl, false, arith, list_any, nat_tests, FieldDesc, OneofDesc, with_made}

pub none_made : (names : List (List ℕ)) (so_far : List OneofDesc) (fs : List FieldDesc)
    → list_any (λ f. f.proto3_optional) fs ≡ false
    → with_made names so_far fs ≡ so_far
none_made names so_far [] none = refl
none_made names so_far (f ∷ fs) none = grind (arith, nat_tests, none_made names so_far fs)
