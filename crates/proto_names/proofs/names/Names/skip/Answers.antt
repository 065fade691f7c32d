use Rattle.proto_names.proofs.Common.{arith, drop-map, take_rest, All-drop, IsKeyAmong}
use Rattle.proto_names.proofs.names.Names.skip.Goals as goal

pub invariant_of-result : goal.invariant_of-result
invariant_of-result c = rw (take_rest c.self.inside.keys.now c.args.count)
    (All-drop (IsKeyAmong c.self.inside.collected.now) _ _ c.self.invariant)

pub returns : goal.returns
returns c = grind (arith, drop-map, take_rest)
