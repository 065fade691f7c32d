use Rattle.proto_names.proofs.Common.{arith, take-map, All-take, IsKeyAmong}
use Rattle.proto_names.proofs.names.Names.take.Goals as goal

pub invariant_of-result : goal.invariant_of-result
invariant_of-result c = All-take (IsKeyAmong c.self.inside.collected.now) _ _ c.self.invariant

pub returns : goal.returns
returns c = grind (arith, take-map)
