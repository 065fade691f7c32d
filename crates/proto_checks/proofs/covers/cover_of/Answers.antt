use Rattle.proto_checks.proofs.Common.{◌≡◌, ◌∙◌, length, take_at}
use Rattle.proto_checks.proofs.Intervals.{cover_is}
use Rattle.proto_checks.proofs.covers.cover_of.Goals as goal

pub returns : goal.returns
returns c =
    let xs = c.in_ok-cover.cover.items in
    let raised = c.raise_ends.new.intervals in
    let size : length raised ≡ c.in_ok-cover.cover.len = c.raise_ends.auto.intervals ∙ c.deref_mut.ensures.len in
    let told = rw c.deref_mut.ensures.value at c.raise_ends.ensures in
    rw (take_at raised _ c.in_ok-cover.cover.len size)
    (cover_is c.args.ranges.now xs raised c.in_ok-cover.ensures.members told)
