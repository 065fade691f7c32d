-- The options that each element may have.
use Rattle.std.specs.Prelude.{ℕ, List, [], ◌∷◌, Option, None, Some, codes, cond, bytes_eq}
use Rattle.proto_desc.specs.declared.rules.Element.{Element}
use Rattle.proto_desc.specs.declared.rules.Element.TheVariants as element
use Rattle.proto_desc.specs.declared.rules.ValueKind.{ValueKind}
use Rattle.proto_desc.specs.declared.rules.ValueKind.TheVariants as kind
use Rattle.proto_desc.specs.declared.rules.OptionRule.{OptionRule}

-- an identifier, and the number for which it stands
abbrev pub choice : List ℕ → ℕ → (List ℕ → Option ℕ) → List ℕ → Option ℕ
choice word number others given = cond (bytes_eq given word) (Some number) (others given)

abbrev pub no_choice : List ℕ → Option ℕ
no_choice given = None

-- the number that an identifier stands for as a value of this kind
abbrev pub choice_number : ValueKind → List ℕ → Option ℕ
choice_number kind.Text = no_choice
choice_number kind.Bool = choice (codes "false") 0 (choice (codes "true") 1 no_choice)
choice_number kind.OptimizeMode =
    choice (codes "SPEED") 1 (choice (codes "CODE_SIZE") 2 (choice (codes "LITE_RUNTIME") 3 no_choice))
choice_number kind.JsType =
    choice (codes "JS_NORMAL") 0 (choice (codes "JS_STRING") 1 (choice (codes "JS_NUMBER") 2 no_choice))
choice_number kind.IdempotencyLevel = choice (codes "IDEMPOTENCY_UNKNOWN") 0
    (choice (codes "NO_SIDE_EFFECTS") 1 (choice (codes "IDEMPOTENT") 2 no_choice))

-- an option of an element: its name as sources spell it, its number in the element's message of options, its values
pub record Rule : Type 0 where
  pub word : List ℕ
  pub number : Option ℕ
  pub kind : ValueKind

abbrev pub rule : List ℕ → Option ℕ → ValueKind → Rule
rule word number takes = record { word = word; number = number; kind = takes }

-- a row of the program's tables
abbrev pub rule_of : OptionRule → Rule
rule_of row = rule row.word.now row.number row.kind

-- the options that rules and descriptors name by themselves
abbrev pub packed : List ℕ
packed = codes "packed"

abbrev pub jstype : List ℕ
jstype = codes "jstype"

abbrev pub json_name : List ℕ
json_name = codes "json_name"

abbrev pub allow_alias : List ℕ
allow_alias = codes "allow_alias"

-- the options that an element may have, by rising number; `json_name` sets a field of the descriptor and no option
abbrev pub rules_of : Element → List Rule
rules_of element.File =
    rule (codes "java_package") (Some 1) kind.Text ∷
    rule (codes "java_outer_classname") (Some 8) kind.Text ∷
    rule (codes "optimize_for") (Some 9) kind.OptimizeMode ∷
    rule (codes "java_multiple_files") (Some 10) kind.Bool ∷
    rule (codes "go_package") (Some 11) kind.Text ∷
    rule (codes "deprecated") (Some 23) kind.Bool ∷
    rule (codes "cc_enable_arenas") (Some 31) kind.Bool ∷
    rule (codes "objc_class_prefix") (Some 36) kind.Text ∷
    rule (codes "csharp_namespace") (Some 37) kind.Text ∷
    rule (codes "swift_prefix") (Some 39) kind.Text ∷
    rule (codes "php_class_prefix") (Some 40) kind.Text ∷
    rule (codes "php_namespace") (Some 41) kind.Text ∷
    rule (codes "php_metadata_namespace") (Some 44) kind.Text ∷
    rule (codes "ruby_package") (Some 45) kind.Text ∷ []
rules_of element.Message =
    rule (codes "deprecated") (Some 3) kind.Bool ∷ []
rules_of element.Field =
    rule packed (Some 2) kind.Bool ∷
    rule (codes "deprecated") (Some 3) kind.Bool ∷
    rule jstype (Some 6) kind.JsType ∷
    rule json_name None kind.Text ∷ []
rules_of element.Oneof = []
rules_of element.Enum =
    rule allow_alias (Some 2) kind.Bool ∷
    rule (codes "deprecated") (Some 3) kind.Bool ∷ []
rules_of element.EnumValue =
    rule (codes "deprecated") (Some 1) kind.Bool ∷ []
rules_of element.Service =
    rule (codes "deprecated") (Some 33) kind.Bool ∷ []
rules_of element.Method =
    rule (codes "deprecated") (Some 33) kind.Bool ∷
    rule (codes "idempotency_level") (Some 34) kind.IdempotencyLevel ∷ []
