-- The options of an element rise by their number, as the rules do.
use Rattle.proto_lower.proofs.Common.{◌≤◌, ◌<◌, ◌+◌, ◌++◌, ℕ, zero, suc, List, [], ◌∷◌, map, length, arith, add-one, Option, Some, flat_map, slice_index, option_to_list, option_map, option_at, option_by, option_under}
use Rattle.std.specs.Prelude.{⊤}
use Rattle.std.specs.List.Sorted.{IsStrictlyIncreasing}
use Rattle.proto_tree.specs.declared.option.Setting.{Setting}
use Rattle.proto_desc.specs.declared.options.OptionDescriptor.{OptionDescriptor}
use Rattle.proto_desc.specs.declared.options.OptionValue.{OptionValue}
use Rattle.proto_desc.specs.declared.rules.Element.{Element}
use Rattle.proto_desc.specs.declared.rules.ValueKind.{ValueKind}
use Rattle.proto_desc.specs.Rules.{Rule, rules_of}
use Rattle.proto_lower.specs.Options.{options_of}

-- each number is above the one before it, and the first at least `least`
abbrev RisesFrom : (least : ℕ) → List ℕ → Type 0
RisesFrom least [] = ⊤
RisesFrom least (n ∷ ns) = (least ≤ n) × RisesFrom (n + 1) ns

rises_below : (low least : ℕ) (ns : List ℕ) → low ≤ least → RisesFrom least ns → RisesFrom low ns
rises_below low least [] below rises = tt
rises_below low least (n ∷ ns) below rises = (omega (arith, below, rises.0), rises.1)

rises_at : (least : ℕ) (ns : List ℕ) (k : ℕ) → RisesFrom least ns → suc k < length ns
    → slice_index ns k < slice_index ns (suc k)
rises_at least [] k rises within = absurd (omega arith)
rises_at least (n ∷ []) k rises within = absurd (omega arith)
rises_at least (n ∷ m ∷ ns) zero rises within = omega (arith, rises.1.0)
rises_at least (n ∷ m ∷ ns) (suc k) rises within = rises_at (n + 1) (m ∷ ns) k rises.1 (omega arith)

-- the number of a rule's option, if it has one
abbrev rule_number : Rule → List ℕ
rule_number r = option_to_list r.number

abbrev numbers : List OptionDescriptor → List ℕ
numbers options = map (λ o. o.number) options

-- an option in front of those with numbers above its own
with_value : (least n : ℕ) (s : Setting) (value : Option OptionValue) (rest : List OptionDescriptor) → least ≤ n
    → RisesFrom (n + 1) (numbers rest)
    → RisesFrom least (numbers (option_to_list (option_map (option_at n s) value) ++ rest))
with_value least n s value rest h i = grind (arith, rises_below)

with_setting : (least n : ℕ) (kind : ValueKind) (found : Option Setting) (rest : List OptionDescriptor) → least ≤ n
    → RisesFrom (n + 1) (numbers rest)
    → RisesFrom least (numbers (option_to_list (option_by (Some n) kind found) ++ rest))
with_setting least n kind found rest h i = grind (arith, rises_below, with_value)

with_number : (least : ℕ) (number : Option ℕ) (kind : ValueKind) (found : Option Setting) (rest : List OptionDescriptor)
    (after : List ℕ)
    → ((m : ℕ) → RisesFrom m after → RisesFrom m (numbers rest)) → RisesFrom least (option_to_list number ++ after)
    → RisesFrom least (numbers (option_to_list (option_by number kind found) ++ rest))
with_number least number kind found rest after h i = grind (arith, with_setting)

under_rules : (settings : List Setting) (rs : List Rule) (least : ℕ) → RisesFrom least (flat_map rule_number rs)
    → RisesFrom least (numbers (flat_map (option_under settings) rs))
under_rules settings [] least rises = tt
under_rules settings (r ∷ rs) least rises = grind (arith, with_number, under_rules settings rs)

-- the tables' numbers rise
rules_rise : (e : Element) → RisesFrom 0 (flat_map rule_number (rules_of e))
rules_rise e = grind arith

pub options_of-rise : (e : Element) (settings : List Setting)
    → IsStrictlyIncreasing (map (λ o. o.number) (options_of e settings))
unfolding options_of
options_of-rise e settings = λ k within.
    let rises : RisesFrom 0 (numbers (flat_map (option_under settings) (rules_of e))) =
    under_rules settings (rules_of e) 0 (rules_rise e) in
    rw add-one (rises_at 0 (numbers (flat_map (option_under settings) (rules_of e))) k rises (omega (arith, within)))
