use Rattle.proto_names.proofs.Common.{arith, common_steps}
use Rattle.proto_names.proofs.Searching.{part_few}
use Rattle.proto_names.proofs.keys.keys_of.Goals as goal

pub put_keys-requires-clause-few : goal.put_keys-requires-clause-few
put_keys-requires-clause-few c =
    omega (arith, part_few c.args.collected.now c.loop-part.part, c.requires.few)

pub loop-part-preserved : goal.loop-part-preserved
loop-part-preserved c = grind (arith, common_steps)
