use Rattle.std.proofs.Common.{[], ◌∷◌}
use Rattle.proto_compile.specs.declared.source.Source.{Source}
use Rattle.schema_headline.specs.Describe.{IsDescribedBy}
use Rattle.schema_headline.proofs.EveryAnswer.{every_answer, every_fault}
use Rattle.schema_headline.proofs.OneAnswer.{described_from, one_descriptor}
use Rattle.schema_headline.proofs.one_source.describe.Goals as goal

pub returns : goal.returns
returns g c =
    let s : Source = record { name = c.args.name; text = c.args.text } in
    let limits = c.args.limits.now in
    let described = c.first_answer.ensures.described in
    let first = c.first_answer.ensures.first in
    record {
      described = described;
      first = first;
      placed = c.first_answer.ensures.placed;
      every_descriptor = every_answer limits (s ∷ []) (IsDescribedBy limits s) (described_from limits s)
          (one_descriptor limits s) c.first_answer.result
          described first;
      every_fault = every_fault limits (s ∷ []) (IsDescribedBy limits s)
          (described_from limits s) c.first_answer.result described first;
    }
