use Rattle.std.proofs.Common.{refl}
use Rattle.proto_types.proofs.filling.FieldDescFill.fill.Goals as goal

pub returns : goal.returns
returns c = record {
  puts = λ os seen scope types rest all is.
      let put = (c.fill_kind.ensures c.args.self.now.options).puts os seen scope types rest all is in
      (put.0, (c.fill_kind.new.kind, put.1, refl));
}
