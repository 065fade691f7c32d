use Rattle.proto_compile.proofs.Common.{◌≡◌, ◌++◌, map, Untyped}
use Rattle.proto_compile.proofs.pass.filling.with_types.Given as goal

abbrev pub invariant-loop-desc : goal.invariant-loop-desc
invariant-loop-desc l = record {
  descs : map (λ (f : Untyped). f.desc) l.files.items ++ l.desc-iterator.a.rest.items ≡ l.fn.descs.items;
  types : map (λ (f : Untyped). f.types) l.files.items ++ l.desc-iterator.b.rest.items ≡ l.fn.types.items;
}
