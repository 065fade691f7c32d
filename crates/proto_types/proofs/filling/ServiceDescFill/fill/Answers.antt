use Rattle.proto_types.proofs.Common.{refl, scoped}
use Rattle.proto_types.proofs.filling.ServiceDescFill.fill.Goals as goal

pub returns : goal.returns
returns c = record {
  puts = λ os seen scope types rest all is.
      let put = c.fill_row.ensures.puts os seen (scoped scope c.args.self.now.name) types rest all is in
      (put.0, record { methods_typed = put.1; same = refl });
}
