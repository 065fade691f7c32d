use Rattle.proto_checks.proofs.Common.{◌≡◌, refl, ◌%◌, length, arith, true, ◌∙◌, sym, length-map, length-set, take-map, clashes_all, clashes_hit, clashes_skip, clashes_start, Marked}
use Rattle.std.proofs.lemmas.Slice.Eq.{bytes_eq-Decides}
use Rattle.proto_checks.proofs.Clashes.{few_has, few_lacks, stands_made, taken_more, untaken_lacks}
use Rattle.proto_checks.proofs.repeats.put_few_texts_twice.Goals.{
  then-is_taken-slot+then-text_stands_in+in_ok-put_fault,
  else-is_taken-slot,
  else-is_taken-slot-via-then-is_taken-slot+else-text_stands_in,
  else-is_taken-slot-via-else-is_taken-slot,
}
use Rattle.proto_checks.proofs.repeats.put_few_texts_twice.Goals as goal

pub loop-index-init : goal.loop-index-init
loop-index-init g c = record {
  clashes = clashes_start;
  size = refl;
  taken = λ i a less. absurd (omega (arith, less));
}

pub loop-index-preserved : goal.loop-index-preserved
loop-index-preserved g c =
    let text = c.marked.inside.text.now in
    let same = λ (a b : Marked). a.text ≡ b.text in
    let told = λ (a : Marked). bytes_eq-Decides a.text text in
    let stands = rw (sym (c.marked.view_is ∙ c.marked_text-marked.ensures)) at
    (stands_made g.T.HasText.mark c.args.items.now c.loop-index.index _ (omega arith) c.index-items-index.is) in
    let kept = c.loop-index.invariant in
    let first = take-map g.T.HasText.mark c.loop-index.index c.args.items.now in
    record {
      clashes = elim c.if-is_taken-slot.branch [
        | then-is_taken-slot+then-text_stands_in+in_ok-put_fault w ↦ rw w.faults-is (clashes_hit _ stands
            (few_has _ same _ _ _ told stands (rw first (sym w.text_stands_in.ensures ∙ w.if-text_stands_in.true)))
            kept.clashes w.in_ok-put_fault.ensures)
        | else-is_taken-slot w ↦ rw w.faults-is (clashes_skip _ stands (elim w.else-is_taken-slot.branch [
          | else-is_taken-slot-via-then-is_taken-slot+else-text_stands_in v ↦ few_lacks _ same _ _ _ told stands
              (rw first (sym v.text_stands_in.ensures ∙ v.if-text_stands_in.false))
          | else-is_taken-slot-via-else-is_taken-slot v ↦ untaken_lacks _ _ _ _ stands kept.taken
              v.if-is_taken-slot.false
        ]) kept.clashes)
      ];
      size = length-set c.loop-index.is_taken (length text % 64) true ∙ kept.size;
      taken = taken_more _ _ _ _ kept.size stands kept.taken;
    }

pub returns : goal.returns
returns g c = clashes_all (omega (arith, length-map c.args.items.now g.T.HasText.mark))
    c.loop-index.invariant.clashes
