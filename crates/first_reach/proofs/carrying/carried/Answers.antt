use Rattle.std.proofs.Common.{◌≡◌, ℕ, ◌+◌, ◌≤◌, length, arith, sym, ◌∙◌, Vec, Global}
use Rattle.share_work.specs.Posts.{NONE}
use Rattle.std.proofs.lemmas.Result.{IfOk-weaker}
use Rattle.first_reach.proofs.Replies.{root_first_too, carried_all}
use Rattle.first_reach.proofs.carrying.carried.Goals as goal

pub each_in_shares-requires-clause-takes : goal.each_in_shares-requires-clause-takes
each_in_shares-requires-clause-takes g c = λ κs lives i root at.
    let reach = c.args.reach.now in let few : length c.args.roots.now ≤ NONE = omega arith in
    let laws = g.met.F.Reach g.world.𝓛 g.world.𝓜 g.world.𝓡 ((λ s x. x), (λ x. x), (λ x. x), λ x. x) in
    let position : 0 + i ≡ i = omega arith in
    λ r is.
    let too = root_first_too _ _ (laws.within reach) (laws.reflexive reach) (laws.transitive reach) _ few
    c.requires _ c.in_ok-least.ensures.first i root r at is in
    (c.in_ok-least.ensures.count, too.0, λ x h e. too.1 x h (e ∙ position) ∙ sym position)

pub returns : goal.returns
returns g c =
    let reach = c.args.reach.now in let few : length c.args.roots.now ≤ NONE = omega arith in
    let laws = g.met.F.Reach g.world.𝓛 g.world.𝓜 g.world.𝓡 ((λ s x. x), (λ x. x), (λ x. x), λ x. x) in
    IfOk-weaker c.each_in_shares.result _ _ (λ lists gives. carried_all _ _ (laws.within reach) (laws.reflexive reach)
    (laws.transitive reach) _ few c.requires _ c.in_ok-least.ensures.first (λ (v : Vec ℕ Global). v.items) _ _ gives)
    c.each_in_shares.ensures.outs
