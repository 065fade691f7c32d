use Rattle.proto_compile.proofs.Common.{sees}
use Rattle.proto_compile.proofs.pass.filling.fill.Goals as goal

pub returns : goal.returns
returns c = λ links index a are.
    let means = rw (← c.replace-types.ensures.value) at are.1 in (
      record { whole = are.0; resolved = c.fill_types.ensures.typed index.occurrences (sees links a) means },
      c.fill_types.ensures.resolved index.occurrences (sees links a) means,
    )
