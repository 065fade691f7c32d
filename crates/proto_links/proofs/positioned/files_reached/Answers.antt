use Rattle.proto_links.proofs.Common.{◌<◌, arith, length, leads_le}
use Rattle.std.proofs.lemmas.Result.{IfOk-weaker}
use Rattle.proto_links.proofs.positioned.files_reached.Goals as goal

pub reach_lists-requires : goal.reach_lists-requires
reach_lists-requires c = rw c.deref.ensures.value c.requires.falls

pub with_nodes-requires : goal.with_nodes-requires
with_nodes-requires c a k h inside =
    let reaches = rw c.deref.ensures.value at c.in_ok-reach.ensures.reaches in
    let row : a < length c.args.positioned.now.imports.items = omega (arith, c.in_ok-reach.ensures.size) in
    omega (arith, leads_le _ (λ x. x) c.requires.falls k a (((reaches a row).members k).0 inside))

pub returns : goal.returns
returns c = IfOk-weaker c.with_nodes.result _ _ (λ reach named. record {
  lists = c.in_ok-reach.reach;
  size = rw c.deref.ensures.value at c.in_ok-reach.ensures.size;
  reaches = rw c.deref.ensures.value at c.in_ok-reach.ensures.reaches;
  named = rw c.deref-2.ensures.value at named;
}) c.with_nodes.ensures
