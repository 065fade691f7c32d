use Rattle.proto_names.proofs.Common.{arith, common_steps}
use Rattle.proto_names.proofs.Starting.{scoped_hash}
use Rattle.proto_names.proofs.scope.Scope.hash_with.Goals as goal

pub returns : goal.returns
returns c = grind (arith, common_steps, c.args.self.hashed, scoped_hash c.args.self.text.now c.args.name.text.now)
