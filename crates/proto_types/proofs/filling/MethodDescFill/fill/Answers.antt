use Rattle.std.proofs.Common.{[], refl}
use Rattle.proto_names.specs.declared.resolve.Want.TheVariants as want
use Rattle.proto_types.proofs.Walking.{puts_both}
use Rattle.proto_types.proofs.filling.MethodDescFill.fill.Goals as goal

pub returns : goal.returns
returns c =
    record {
      puts = λ os seen scope types rest all is.
          let put = puts_both _ _ _ _ ((c.fill_reference.ensures want.MessageOnly []).puts os seen scope)
          ((c.fill_reference-2.ensures want.MessageOnly []).puts os seen scope) types rest all is in
          (put.0, record { input_typed = put.1.0; output_typed = put.1.1; same = refl });
    }
