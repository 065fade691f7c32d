use Rattle.proto_checks.proofs.Common.{arith, ◌≡◌, ℕ, ◌+◌, ◌<◌, List, [], ◌∷◌, ◌++◌, length, get_or, take, true, is_eq, take_more, Contains-append_left, Contains-push, Contains-push_cases, text_cmp, exact_text, cond_or, cond_right}
use Rattle.std.specs.BTreeSet.{BTreeSet, Updates}
use denote.Ref.{Bor}
use Rattle.proto_checks.specs.NameSets.{HoldsJust}
use Rattle.proto_checks.proofs.reserved_names.set_of.Goals as goal

set_push : (names : List (List ℕ)) (s t : BTreeSet (Bor (List ℕ))) (k : Bor (List ℕ)) → Updates text_cmp s t k true
    → HoldsJust names s
    → HoldsJust (names ++ k.now ∷ []) t
set_push names s t k new set name =
    let q : Bor (List ℕ) = record k { now = name } in (
      λ h. grind (
        arith,
        cond_or (is_eq (text_cmp k q)),
        new.0 q,
        exact_text k q,
        set name,
        Contains-push names k.now,
        Contains-append_left names (k.now ∷ []) name,
      ),
      λ w. grind (
        arith,
        cond_right (is_eq (text_cmp k q)),
        new.0 q,
        exact_text k q,
        set name,
        Contains-push_cases names k.now name w,
      ),
    )

set_more : (names : List (List ℕ)) (n : ℕ) (s t : BTreeSet (Bor (List ℕ))) (k : Bor (List ℕ)) → n < length names
    → k.now ≡ get_or names n k.now
    → Updates text_cmp s t k true → HoldsJust (take n names) s → HoldsJust (take (n + 1) names) t
set_more names n s t k below is new set =
    rw (take_more names n k.now below, ← is) (set_push (take n names) s t k new set)

pub loop-name-preserved : goal.loop-name-preserved
loop-name-preserved c = grind (arith, set_more)
