-- What the rows of the table give is what its rules give.
use Rattle.proto_lower.proofs.Common.{arith, ◌≡◌, ◌∙◌, [], ap, sym, ℕ, ◌≤◌, List, map, length, take, take_all, flat_map, flat_map-map, option_under}
use Rattle.proto_tree.specs.declared.option.Setting.{Setting}
use Rattle.proto_desc.specs.declared.options.OptionDescriptor.{OptionDescriptor}
use Rattle.proto_desc.specs.declared.rules.Element.{Element}
use Rattle.proto_desc.specs.declared.rules.OptionRule.{OptionRule}
use Rattle.proto_desc.specs.Rules.{rule_of, rules_of}
use Rattle.proto_lower.specs.Options.{options_of}

-- what a row gives
abbrev pub option_by_row : List Setting → OptionRule → List OptionDescriptor
option_by_row settings row = option_under settings (rule_of row)

pub rows_give : (settings : List Setting) (e : Element) (rows : List OptionRule) (count : ℕ)
    (made : List OptionDescriptor)
    → length rows ≤ count → made ≡ flat_map (option_by_row settings) (take count rows) → map rule_of rows ≡ rules_of e
    → made ≡ options_of e settings
unfolding options_of
rows_give settings e rows count made all by_rows table =
    by_rows ∙ ap (flat_map (option_by_row settings)) (take_all count rows all)
    ∙ sym (flat_map-map (option_under settings) rule_of rows) ∙ ap (flat_map (option_under settings)) table

-- an element without settings has no options
pub no_options : (e : Element) → options_of e [] ≡ []
unfolding options_of
no_options e = grind arith
