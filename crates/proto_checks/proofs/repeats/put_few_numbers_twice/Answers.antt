use Rattle.proto_checks.proofs.Common.{◌≡◌, get_or, arith, ◌∙◌, sym, Decides-eqb, clashes_all, clashes_hit, clashes_skip, clashes_start, item_at, MarkedNumber}
use Rattle.proto_checks.proofs.Clashes.{few_has, few_lacks}
use Rattle.proto_checks.proofs.Elements.{no_number}
use Rattle.proto_checks.proofs.repeats.put_few_numbers_twice.Goals.{then-number_stands_in+in_ok-put_fault, else-number_stands_in}
use Rattle.proto_checks.proofs.repeats.put_few_numbers_twice.Goals as goal

pub loop-index-init : goal.loop-index-init
loop-index-init c = clashes_start

pub loop-index-preserved : goal.loop-index-preserved
loop-index-preserved c =
    let here = get_or c.args.numbers.now c.loop-index.index no_number in
    let same = λ (a b : MarkedNumber). a.number ≡ b.number in
    let told = λ (a : MarkedNumber). Decides-eqb a.number here.number in
    let stands = item_at c.args.numbers.now c.loop-index.index no_number (omega arith) in
    elim c.if-number_stands_in.branch [
      | then-number_stands_in+in_ok-put_fault w ↦ rw w.faults-is (clashes_hit here stands
          (few_has _ same _ _ here told stands (sym c.number_stands_in.ensures ∙ w.if-number_stands_in.true))
          c.loop-index.invariant w.in_ok-put_fault.ensures)
      | else-number_stands_in w ↦ rw w.faults-is (clashes_skip here stands
          (few_lacks _ same _ _ here told stands (sym c.number_stands_in.ensures ∙ w.if-number_stands_in.false))
          c.loop-index.invariant)
    ]

pub returns : goal.returns
returns c = clashes_all (omega arith) c.loop-index.invariant
