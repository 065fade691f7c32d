use Rattle.proto_compile.proofs.Common.{◌≡◌, map, Untyped}
use Rattle.proto_compile.proofs.pass.filling.descriptors.Given as goal

abbrev pub invariant-loop-file : goal.invariant-loop-file
invariant-loop-file l = l.descs.items ≡ map (λ (f : Untyped). f.desc) l.yielded
