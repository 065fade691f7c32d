use Rattle.proto_links.proofs.Common.{arith, get_or_default}
use Rattle.digraph.proofs.Renumbering.{renumbered_falls}
use Rattle.proto_links.proofs.Positions.{public_imports, rows_size, public_size, rows_fall, laid_out, linked_of}
use Rattle.proto_links.proofs.linking.link_files.Goals as goal

pub files_reached-requires : goal.files_reached-requires
files_reached-requires c = let m = c.in_ok-positioned.ensures in record { falls = rows_fall m; size = rows_size m }

pub files_seen-requires : goal.files_seen-requires
files_seen-requires c =
    let m = c.in_ok-positioned.ensures in record {
      imports = rows_fall m;
      public = renumbered_falls _ _ _ _ _ m.ranked.ranks m.ranked.order (λ a b edge. (m.ranked.imports.edges a b).1
          (public_imports c.args.files.now a b ((m.ranked.public_imports.edges a b).0 edge))) m.public_imports;
      size = rows_size m;
      public_size = omega (arith, public_size m, rows_size m);
      files = λ k d h. rw (get_or_default c.args.ranking.order.items k d 0 h) (m.positions.position k h).0;
    }

pub invariant_of-result : goal.invariant_of-result
invariant_of-result c =
    let m = c.in_ok-positioned.ensures in
    let r = c.in_ok-reach.ensures in
    let s = c.in_ok-seen.ensures in
    (laid_out m r s, (c.args.files.now, linked_of m r s))

pub returns : goal.returns
returns c = linked_of c.in_ok-positioned.ensures c.in_ok-reach.ensures c.in_ok-seen.ensures
