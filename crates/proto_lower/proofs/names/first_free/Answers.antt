use Rattle.proto_lower.proofs.Common.{◌≡◌, ◌-◌, ◌∷◌, suc, sym, ◌∙◌, arith, false, true, string_bytes, contains_text, common_steps}
use Rattle.proto_lower.proofs.Free.{free_stops, free_goes}
use Rattle.proto_lower.proofs.names.first_free.Goals as goal

pub returns-then-not-contains : goal.returns-then-not-contains
returns-then-not-contains c =
    let free : contains_text c.args.taken.now (string_bytes c.loop.name) ≡ false = grind (arith, common_steps) in
    sym (free_stops (contains_text c.args.taken.now) (c.args.most - c.loop.counter) (string_bytes c.loop.name) free)
    ∙ c.loop.invariant (c.args.most - c.loop.counter) (omega arith)

pub loop-preserved : goal.loop-preserved
loop-preserved c = λ left here.
    let met : contains_text c.args.taken.now (string_bytes c.loop.name) ≡ true = grind (arith, common_steps) in
    let made : string_bytes c.in_ok-name.name ≡ 88 ∷ string_bytes c.loop.name = grind (arith, common_steps) in
    sym (free_goes (contains_text c.args.taken.now) left (string_bytes c.loop.name) (string_bytes c.in_ok-name.name)
    met made)
    ∙ c.loop.invariant (suc left) (omega arith)

pub returns : goal.returns
returns c = c.loop.invariant 0 (omega arith)
