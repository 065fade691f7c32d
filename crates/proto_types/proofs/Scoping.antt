-- What stands in a scope stands in what is around it.
use Rattle.proto_types.proofs.Common.{inl, inr, refl, List, ℕ, [], ◌∷◌, scoped, IsCandidate}
use Rattle.proto_names.proofs.Unique.{candidate_trans}

pub candidate_inside : (outside scope name : List ℕ) → IsCandidate outside scope
    → IsCandidate outside (scoped scope name)
candidate_inside [] scope name is = inl refl
candidate_inside (x ∷ xs) [] name (inl e) = inl e
candidate_inside (x ∷ xs) [] name (inr (inl e)) = inl e
candidate_inside (x ∷ xs) [] name (inr (inr (rest, e))) = cc
candidate_inside (x ∷ xs) (c ∷ cs) name is =
    candidate_trans (x ∷ xs) (c ∷ cs) (scoped (c ∷ cs) name) is (inr (inr (name, refl)))
