use Rattle.std.proofs.Common.{ℕ, ◌<◌, ◌≤◌, ◌^◌, Option, length, arith, refl, ap, ◌∙◌}
use Rattle.std.specs.Option.{ForSome}
use Rattle.std.proofs.lemmas.Option.{slice_get_within}
use Rattle.share_work.specs.Posts.{NONE}
use Rattle.share_work.specs.Marks.{MarkSeatValue, marked_posts}
use Rattle.share_work.proofs.Together.{held_together}
use Rattle.first_reach.specs.First.{first_reach}
use Rattle.first_reach.specs.Seats.{HasPosted, Posts}
use Rattle.first_reach.proofs.Lists.{all_get}
use Rattle.first_reach.proofs.Marks.{all_posted, same_sums, written}
use Rattle.first_reach.proofs.Firsts.{least_is}
use Rattle.first_reach.proofs.marking.firsts.Goals as goal

pub in_shares-requires-clause-takes : goal.in_shares-requires-clause-takes
in_shares-requires-clause-takes g c = λ κs lives i root at.
    let inside = slice_get_within _ i root at in
    let Below : Option ℕ → Type 0 = λ x. ForSome x (λ r. r < g.F.Reach.files c.args.reach.now) in
    (omega arith, λ r is. rw c.in_ok-table.ensures.0 (all_get Below _ i root c.requires at r is))

pub unreachable-requires-in_default-close : goal.unreachable-requires-in_default-close
unreachable-requires-in_default-close g c =
    let slice = c.as_mut_slice.ensures in
    let all = same_sums (λ (s : MarkSeatValue). s.view.least.parts) _ _ c.in_shares.ensures.numbers in
    let back = written _ _ _ _ slice.value slice.len c.in_shares.ensures.gains.len in
    let few : c.in-Some.seat.view.least.parts < 2 ^ 32 = c.in_default-close.ensures.refused.0 refl in
    grind arith

pub returns-clause-first : goal.returns-clause-first
returns-clause-first g c = λ w below.
    let roots = c.args.roots.now in let top : length roots ≤ NONE = omega arith in
    let list = g.F.Reach.list c.in_ok-table.table.reach in let slice = c.as_mut_slice.ensures in
    let back = written _ _ _ _ slice.value slice.len c.in_shares.ensures.gains.len in
    let together = held_together (λ s x n. HasPosted list s x n) (Posts list) _ _ roots _ _
    c.args.plan.some_workers c.args.plan.some_items (rw slice.value (c.in_ok-seats.ensures.len ∙ c.workers.ensures))
    c.in_shares.ensures.gains c.in_ok-in_shares.ensures.have in
    let same = all_posted list roots _ _ c.in-Some.seat.view.marks together (rw slice.value c.in_ok-seats.ensures.marks)
    (rw back at c.in-Some.ensures.marks) in
    let inside : w < g.F.Reach.files c.in_ok-table.table.reach = rw c.in_ok-table.ensures.0 below in
    c.in-Ok.ensures.least w inside ∙ least_is list roots top (marked_posts list c.in-Some.seat.view.marks) same w
    ∙ ap (λ (s : g.row.F.Denot). first_reach (g.F.Reach.list s) roots w) c.in_ok-table.ensures.0
