use Rattle.proto_links.proofs.Common.{slice_cmp, ◌≡◌, ◌-◌, Less, arith, nat_cmp, length-map, common_steps, name_at}
use Rattle.proto_links.proofs.NameRows.{pair_names}
use Rattle.proto_links.proofs.order.in_name_order.Goals as goal

pub returns-then-not-is_before : goal.returns-then-not-is_before
returns-then-not-is_before c = grind (arith, length-map, pair_names)

pub loop-next-preserved : goal.loop-next-preserved
loop-next-preserved c =
    let names = name_at c.args.files.now in
    let n = c.loop-next.next in
    let pair : slice_cmp nat_cmp (names (n - 1)) (names n) ≡ Less = grind (arith, pair_names) in
    record {
      some = omega arith;
      pairs = λ k h. grind (arith, pair, common_steps);
    }
