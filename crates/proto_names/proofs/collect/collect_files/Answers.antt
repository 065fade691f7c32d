use Rattle.std.proofs.Common.{ap, ◌+◌, length, arith}
use Rattle.proto_names.proofs.Built.{occurrences_more, occurrences_prefix}
use Rattle.proto_names.proofs.collect.collect_files.Goals as goal

pub returns-then-len-limit : goal.returns-then-len-limit
returns-then-len-limit c =
    let so_far = occurrences_more c.args.first c.args.files.now c.loop-k.k _ _ _ (omega arith) c.index-files-k.is
    c.loop-k.invariant.all (rw c.in_ok-narrow.ensures.same at c.in_ok-put_file.ensures) in
    omega (arith, ap length so_far, occurrences_prefix c.args.first c.args.files.now (c.loop-k.k + 1))

pub loop-k-preserved : goal.loop-k-preserved
loop-k-preserved c = record {
  all = occurrences_more c.args.first c.args.files.now c.loop-k.k _ _ _ (omega arith) c.index-files-k.is
      c.loop-k.invariant.all (rw c.in_ok-narrow.ensures.same at c.in_ok-put_file.ensures);
  within = omega arith;
}
