use Rattle.std.proofs.Common.{◌∙◌, ap, rules}
use Rattle.std.proofs.lemmas.Iterator.{YieldsList-from_slice}
use Rattle.std.proofs.lemmas.Iterator.Search.{find_from_yields_List}
use Rattle.std.specs.Prelude.{find}
use borrow.Author.Tests.{tests}
use Rattle.schema_explanation.specs.Topics.{is_named_by}
use Rattle.schema_explanation.proofs.topic.Topic.named.Goals as goal

pub returns : goal.returns
returns c =
    let names = is_named_by c.args.text.now in
    c.copied.ensures ∙ find_from_yields_List names _ _ c.find.result c.find.ensures.ran
    (YieldsList-from_slice c.topics.result.now cc) (λ topic b q k. search (rules, tests))
    ∙ ap (find names) c.topics.ensures
