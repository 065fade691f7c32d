use Rattle.proto_checks.proofs.Common.{◌≡◌, length, map, ClashesTo, spot, Marked}
use Rattle.proto_checks.proofs.Clashes.{AreTaken}
use Rattle.proto_checks.proofs.repeats.put_few_texts_twice.Given as goal

abbrev pub invariant-loop-index : goal.invariant-loop-index
invariant-loop-index g l = record {
  clashes : ClashesTo (map g.T.HasText.mark l.items) (λ (a b : Marked). a.text ≡ b.text)
      (λ (b : Marked). spot b.place l.kind) l.index l.initial.faults.items l.faults.items;
  size : length l.is_taken ≡ 64;
  taken : AreTaken (map g.T.HasText.mark l.items) l.index l.is_taken;
}
