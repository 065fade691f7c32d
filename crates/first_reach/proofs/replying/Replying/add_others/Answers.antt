use Rattle.std.proofs.Common.{append_assoc, append-nil, ◌≡◌, Some, length, sym, ◌∙◌, arith, slice_get}
use Rattle.std.proofs.lemmas.Option.{slice_get_within}
use Rattle.std.proofs.Math.Seq.{take-length}
use Rattle.first_reach.proofs.Replies.{others_more}
use Rattle.first_reach.proofs.replying.Replying.add_others.Goals as goal
use Rattle.first_reach.proofs.replying.Replying.add_others.Goals.{then-file-root+then-get-position+in_ok-push, else-file-root, else-file-root-via-then-file-root+else-get-position, else-file-root-via-else-file-root}
use Rattle.share_work.proofs.Paying.{none_past}
use Rattle.share_work.proofs.Sums.{contains_at}

pub get-requires : goal.get-requires
get-requires g c =
    let at = sym c.reached.ensures ∙ c.in-Some.is in
    let inside = g.met.F.Reach.within _ _ _ c.requires.root (contains_at _ _ _ at) in omega (arith, inside)

pub loop-file-smaller : goal.loop-file-smaller
loop-file-smaller g c = grind (arith, slice_get_within)

pub loop-file-preserved : goal.loop-file-preserved
loop-file-preserved g c =
    let list = g.F.Reach.list c.args.self.now.reach.now c.args.root in
    let at : slice_get list c.loop-file.k ≡ Some c.in-Some.file = sym c.reached.ensures ∙ c.in-Some.is in
    let inside = slice_get_within list _ _ at in
    let more = others_more c.args.self.now.least.now c.args.position c.args.root _ _ list at in
    grind (arith, append_assoc, append-nil, more, inside)

pub returns : goal.returns
returns g c =
    let list = g.F.Reach.list c.args.self.now.reach.now c.args.root in
    let past = none_past list c.loop-file.k (sym c.reached.ensures ∙ c.in_default.is) in
    let e : c.loop-file.k ≡ length list = omega arith in rw (e, take-length) at c.loop-file.invariant.1
