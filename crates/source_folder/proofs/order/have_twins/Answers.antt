use Rattle.std.proofs.Common.{◌∙◌, sym, refl, arith}
use Rattle.source_folder.proofs.Neighbours.{apart_at, apart_more, twins_at}
use Rattle.source_folder.proofs.order.have_twins.Goals as goal

pub returns-then-eq : goal.returns-then-eq
returns-then-eq c = (
  λ _. twins_at c.args.sources.now c.loop-next.next _ _ c.loop-next.invariant.some (omega arith)
      (sym c.eq.ensures ∙ c.if-eq.true),
  λ _. refl,
)

pub loop-next-preserved : goal.loop-next-preserved
loop-next-preserved c = record {
  some = omega arith;
  apart = apart_more c.args.sources.now c.loop-next.next
      (apart_at c.args.sources.now c.loop-next.next _ _ c.loop-next.invariant.some (omega arith)
      (sym c.eq.ensures ∙ c.if-eq.false)) c.loop-next.invariant.some c.loop-next.invariant.apart;
}
