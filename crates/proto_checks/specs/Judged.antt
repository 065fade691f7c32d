-- A setting, judged by itself.
use Rattle.std.specs.Prelude.{◌≡◌, Bool, List, Option, Some, None, if◌then◌else◌}
use Rattle.std.specs.List.{find}
use Rattle.std.specs.Option.{is_some}
use Rattle.proto_base.specs.declared.kind.Kind.TheVariants as kind
use Rattle.proto_tree.specs.declared.option.Setting.{Setting}
use Rattle.proto_desc.specs.declared.rules.Element.{Element}
use Rattle.proto_options.specs.Options.{is_setting, value_of}
use Rattle.proto_tree.specs.Text.{dotted}
use Rattle.proto_desc.specs.Rules.{Rule, rules_of}
use Rattle.proto_base.specs.Least.{spot}
use Rattle.proto_checks.specs.Marks.{Marked}
use Rattle.proto_checks.specs.Options.{name_place, value_place}
use Rattle.proto_base.specs.Sets.{Later}
use Rattle.proto_checks.specs.declared.options.Judged.{Judged}
use Rattle.proto_base.specs.declared.spot.Spot.{Spot}

abbrev pub is_known_by : Setting → Rule → Bool
is_known_by s r = is_setting r.word s

-- the rule of its name
abbrev pub rule_named : Element → Setting → Option Rule
rule_named e s = find (is_known_by s) (rules_of e)

-- what it breaks under this rule
abbrev pub fault_under : Setting → Option Rule → Option Spot
fault_under s None = Some (spot (name_place s) kind.UnknownOption)
fault_under s (Some r) =
    if is_some (value_of r.kind s.value) then None else Some (spot (value_place s.value) kind.BadOptionValue)

-- what it breaks
unfoldable pub setting_fault : Element → Setting → Option Spot
setting_fault e s = fault_under s (rule_named e s)

abbrev pub judged : Element → Setting → Judged
judged e s = record { name = dotted s.name; place = name_place s; fault = setting_fault e s }

abbrev pub judged_name : Judged → Marked
judged_name j = record { text = j.name; place = j.place }

abbrev pub IsFaultOf : Judged → Spot → Type 0
IsFaultOf j x = j.fault ≡ Some x

abbrev pub JudgedTwice : List Judged → Spot → Type 0
JudgedTwice js = Later js (λ a b. a.name ≡ b.name) (λ b. spot b.place kind.OptionTwice)
