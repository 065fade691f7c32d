use Rattle.std.proofs.Common.{arith, map}
use Rattle.proto_compilation.specs.Parts.{declared_extension, extended}
use Rattle.proto_sets.proofs.Making.{coherent}
use Rattle.proto_sets.proofs.Within.{set_within}
use Rattle.proto_sets.proofs.set.compilation_of.Goals as goal

pub with_extensions-requires : goal.with_extensions-requires
with_extensions-requires c = coherent c.args.limits.now c.requires.0
    (extended c.args.limits.now c.args.files c.args.links c.args.index (map declared_extension c.args.extensions.items))
    c.requires.1

pub unreachable-requires : goal.unreachable-requires
unreachable-requires c =
    let (set, is) = c.requires in
    let within = set_within c.args.limits.now set (extended c.args.limits.now c.args.files c.args.links c.args.index
    (map declared_extension c.args.extensions.items)) is in
    omega (arith, within, c.in-None.ensures, is.says.by_name.are.short)
