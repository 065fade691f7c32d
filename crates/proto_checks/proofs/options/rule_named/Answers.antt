use Rattle.proto_checks.proofs.Common.{◌∙◌, ap, rules, tests, find, option_map, find_from_yields_List, is_known_by}
use Rattle.std.proofs.lemmas.Iterator.{YieldsList-from_slice}
use Rattle.proto_desc.specs.Rules.{rule_of}
use Rattle.proto_checks.proofs.Settling.{found_made}
use Rattle.proto_checks.proofs.options.rule_named.Goals as goal

pub returns : goal.returns
returns c =
    let rows = c.rules.result.now in
    let by_name = is_known_by c.args.setting.now in
    ap (option_map rule_of) (find_from_yields_List (λ row. by_name (rule_of row)) _ _ c.find.result c.find.ensures.ran
    (YieldsList-from_slice rows cc) (λ row b q k. search (rules, tests)))
    ∙ found_made by_name rule_of rows ∙ ap (find by_name) c.rules.ensures
