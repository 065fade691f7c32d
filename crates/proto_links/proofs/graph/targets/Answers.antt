use Rattle.proto_links.proofs.Common.{take_all, ◌∙◌, sym, arith, common_steps, inl, inr, false≢true, joined_if}
use Rattle.proto_links.proofs.Faulting.{nothing_more, one_more, prefix_more, targeting_more}
use Rattle.proto_links.proofs.graph.targets.Goals as goal
use Rattle.proto_links.proofs.graph.targets.Goals.{in-Some+in_ok-push-in-Some+then-import+in_ok-push-in-Some-2, in-Some+in_ok-push-in-Some+else-import, in-None}

pub loop-import-preserved : goal.loop-import-preserved
loop-import-preserved c =
    rw (prefix_more c.args.imports.now c.loop-import.import-index c.import-item.result (omega arith) c.import-item.is)
    (elim c.match-file_named.branch [
      | in-Some+in_ok-push-in-Some+then-import+in_ok-push-in-Some-2 w ↦
          let named = rw c.as_str.ensures at w.in-Some.ensures in
          targeting_more c.import-item.result
          (λ b. one_more _ _ _ b c.requires named (cc w.in_ok-push-in-Some.ensures.items))
          (λ b. joined_if (one_more _ _ _ b c.requires named
          (cc w.in_ok-push-in-Some-2.ensures.items)) w.if-import.true)
          (inl (w.is_whole-is, (w.in-Some.target, named))) c.loop-import.invariant
      | in-Some+in_ok-push-in-Some+else-import w ↦
          let named = rw c.as_str.ensures at w.in-Some.ensures in
          targeting_more c.import-item.result
          (λ b. one_more _ _ _ b c.requires named (cc w.in_ok-push-in-Some.ensures.items))
          (λ b. nothing_more b (cc) (λ p. false≢true (sym w.if-import.false ∙ p.0)))
          (inl (w.is_whole-is, (w.in-Some.target, named))) c.loop-import.invariant
      | in-None w ↦
          let none = rw c.as_str.ensures at w.in-None.ensures in
          targeting_more c.import-item.result (λ b. nothing_more b (cc) (none b))
          (λ b. nothing_more b (cc) (λ p. none b p.1)) (inr (w.is_whole-is, none))
          c.loop-import.invariant
    ])

pub returns-clause-all : goal.returns-clause-all
returns-clause-all c =
    rw (take_all c.loop-import.import-index c.args.imports.now (omega arith)) at c.loop-import.invariant.all_are

pub returns-clause-public : goal.returns-clause-public
returns-clause-public c =
    rw (take_all c.loop-import.import-index c.args.imports.now (omega arith)) at c.loop-import.invariant.public_are

pub returns-clause-whole : goal.returns-clause-whole
returns-clause-whole c = grind (arith, common_steps)

pub returns-clause-part : goal.returns-clause-part
returns-clause-part c = grind (arith, common_steps)
