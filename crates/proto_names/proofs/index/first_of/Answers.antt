use Rattle.proto_names.proofs.Common.{arith, inl, inr, map_more, Contains-append_left, Contains-push, Contains-push_cases, none-some, same_Some, twice_of}
use Rattle.std.proofs.lemmas.List.{take_all}
use Rattle.proto_names.proofs.Once.{first_kept, first_listed, first_more}
use Rattle.proto_names.proofs.index.first_of.Goals as goal
use Rattle.proto_names.proofs.index.first_of.Goals.{in-Some, in_default}

pub loop-share-preserved : goal.loop-share-preserved
loop-share-preserved c =
    let more = map_more twice_of c.args.shares.now c.loop-share.share-index c.share-item.result (omega arith) in
    elim c.match-share.branch [
      | in-Some w ↦ rw (w.first-is, more, ← c.share-item.is, w.in-Some.is)
          (first_more c.loop-share.invariant _ _ (λ l. Contains-append_left _ _ _) _ _ w.lesser.ensures
          (Contains-push _ _)
          (λ l within. elim (Contains-push_cases _ _ _ within) [ inl old ↦ inl old | inr e ↦ inr (same_Some _ _ e) ]))
      | in_default w ↦ rw (w.first-is, more, ← c.share-item.is, w.in_default.is)
          (first_kept c.loop-share.invariant _ _ (λ l. Contains-append_left _ _ _)
          (λ l within. elim (Contains-push_cases _ _ _ within) [ inl old ↦ old | inr e ↦ absurd (none-some l e) ]))
    ]

pub returns : goal.returns
returns c = let all = take_all c.loop-share.share-index c.args.shares.now (omega arith) in
    first_listed _ _ (rw all at c.loop-share.invariant)
