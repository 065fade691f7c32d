use Rattle.std.proofs.Common.{◌≡◌, ap, arith, length, take, take_all}
use Rattle.skipped_sources.proofs.Losses.{strings_flat}
use Rattle.skipped_sources.proofs.finding.put_strings.Goals as goal

pub returns : goal.returns
returns c =
    let literals = c.args.value.now.rest in
    let listed = c.as_slice-literal-items.ensures in
    let all : take c.loop-literal.literal-index literals ≡ literals =
    take_all _ literals (omega (arith, ap length listed)) in
    rw (strings_flat literals) (rw all at c.loop-literal.invariant)
