use Rattle.proto_checks.proofs.Common.{◌∙◌, rules, tests, bytes_eq, any_from_yields_List, Marked}
use Rattle.std.proofs.lemmas.Iterator.{YieldsList-from_slice}
use Rattle.proto_checks.proofs.Clashes.{any_made}
use Rattle.proto_checks.proofs.repeats.text_stands_in.Goals as goal

pub returns : goal.returns
returns g c =
    any_from_yields_List (λ a. bytes_eq (g.T.HasText.mark a).text c.args.text.now) _ _ _ c.any.ensures.ran
    (YieldsList-from_slice c.args.items.now cc) (λ a b q k. search (rules, tests))
    ∙ any_made (λ (t : Marked). bytes_eq t.text c.args.text.now) g.T.HasText.mark c.args.items.now
