use Rattle.std.proofs.Common.{refl}
use Rattle.proto_names.specs.declared.resolve.Want.TheVariants as want
use Rattle.proto_types.proofs.filling.fill_kind.Goals as goal

pub returns-in-Named : goal.returns-in-Named
returns-in-Named c = λ options.
    rw c.in-Named.is
    (record {
      puts = λ os seen scope types rest all is.
          let put = (c.fill_reference.ensures want.AnyType options).puts os seen scope types rest all is in
          (put.0, (c.fill_reference.new.reference, put.1, refl));
    })
