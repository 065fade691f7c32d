-- The rules of a file that its own source can break.
use Rattle.std.specs.Prelude.{◌≡◌, ◌≢◌, ℕ, ◌<◌, ◌⊎◌, List, ◌∷◌, map, flat_map, length, codes}
use Rattle.proto_base.specs.Limits.{limit_of}
use Rattle.proto_base.specs.declared.kind.Kind.TheVariants as kind
use Rattle.proto_base.specs.declared.limits.Limit.TheVariants as limit
use Rattle.proto_base.specs.declared.limits.Limits.{Limits}
use Rattle.proto_base.specs.declared.place.Place.{Place}
use Rattle.proto_tree.specs.declared.file.FileTree.{FileTree}
use Rattle.proto_tree.specs.declared.file.Package.{Package}
use Rattle.proto_tree.specs.declared.file.Statement.{Statement}
use Rattle.proto_tree.specs.declared.file.Syntax.{Syntax}
use Rattle.proto_tree.specs.declared.name.FullName.{FullName}
use Rattle.proto_desc.specs.DeclaredNames.{Declared, full_name, declared_by}
use Rattle.proto_desc.specs.declared.enumeration.EnumDesc.{EnumDesc}
use Rattle.proto_desc.specs.declared.enumeration.ValueDesc.{ValueDesc}
use Rattle.proto_desc.specs.declared.field.FieldDesc.{FieldDesc}
use Rattle.proto_desc.specs.declared.file.FileDesc.{FileDesc}
use Rattle.proto_desc.specs.declared.file.ImportDescriptor.{ImportDescriptor}
use Rattle.proto_desc.specs.declared.message.MessageDesc.{MessageDesc}
use Rattle.proto_desc.specs.declared.message.MessageDesc.TheOpen.{MessageDesc-F}
use Rattle.proto_desc.specs.declared.message.MessageDesc.TheFolds.{fold-MessageDesc}
use Rattle.proto_desc.specs.declared.rules.Element.TheVariants as element
use Rattle.proto_options.specs.Options.{file_setting}
use Rattle.proto_tree.specs.Text.{dotted, joined}
use Rattle.proto_options.specs.Statements.{file_package, file_message, file_enum, file_service}
use Rattle.proto_checks.specs.Elements.{MessageBreaks, EnumBreaks, ServiceBreaks}
use Rattle.proto_base.specs.Least.{spot}
use Rattle.proto_checks.specs.Marks.{Marked, TextTwice, ReservedNameUsed}
use Rattle.proto_checks.specs.Options.{SettingsBreak}
use Rattle.proto_base.specs.Sets.{◌∪◌, Each, Later}
use Rattle.proto_base.specs.declared.spot.Spot.{Spot}

-- the syntax is named first
abbrev pub NotProto3Syntax : Syntax → Spot → Type 0
NotProto3Syntax s x = (joined s.version ≢ codes "proto3") × (x ≡ spot s.version.first.span.start kind.NotProto3Syntax)

abbrev pub PackageTwice : List Package → Spot → Type 0
PackageTwice ps = Later ps (λ p q. Unit {0}) (λ q. spot q.keyword.start kind.PackageTwice)

abbrev pub import_mark : ImportDescriptor → Marked
import_mark i = record { text = i.path; place = i.place }

abbrev pub ImportTwice : List ImportDescriptor → Spot → Type 0
ImportTwice is = TextTwice kind.ImportTwice (map import_mark is)

-- names and full names
abbrev pub IsTooLong : Limits → Declared → Spot → Type 0
IsTooLong limits d x =
    ((limit_of limits limit.NameBytes < length d.name) ⊎ (limit_of limits limit.FullNameBytes < length (full_name d)))
    × (x ≡ spot d.place kind.NameTooLong)

abbrev pub parts_of : FullName → List (List ℕ)
parts_of n = n.first.text ∷ map (λ part. part.name.text) n.rest

-- a package's parts, and the whole of it
abbrev pub IsPartTooLong : Limits → Place → List ℕ → Spot → Type 0
IsPartTooLong limits at part x = (limit_of limits limit.NameBytes < length part) × (x ≡ spot at kind.NameTooLong)

abbrev pub IsWholeTooLong : Limits → Place → FullName → Spot → Type 0
IsWholeTooLong limits at name x =
    (limit_of limits limit.FullNameBytes < length (dotted name)) × (x ≡ spot at kind.NameTooLong)

abbrev pub PackageTooLong : Limits → Package → Spot → Type 0
PackageTooLong limits p = Each (parts_of p.name) (IsPartTooLong limits p.name.first.span.start)
    ∪ IsWholeTooLong limits p.name.first.span.start p.name

-- the names of a message's fields, and of an enum's values
abbrev pub json_mark : FieldDesc → Marked
json_mark f = record { text = f.json_name; place = f.place }

abbrev pub field_mark : FieldDesc → Marked
field_mark f = record { text = f.name; place = f.place }

abbrev pub value_mark : ValueDesc → Marked
value_mark v = record { text = v.name; place = v.place }

abbrev pub EnumNamesBreak : EnumDesc → Spot → Type 0
EnumNamesBreak e = ReservedNameUsed e.reserved_names (map value_mark e.values)

-- the names of one message, without those of the messages within it
pub record MessageNames : Type 0 where
  pub fields : List FieldDesc
  pub reserved_names : List (List ℕ)
  pub enums : List EnumDesc

abbrev pub MessageNamesBreak : MessageNames → Spot → Type 0
MessageNamesBreak m = TextTwice kind.JsonNameTwice (map json_mark m.fields)
    ∪ ReservedNameUsed m.reserved_names (map field_mark m.fields) ∪ Each m.enums EnumNamesBreak

-- a message, and then those within it, at each depth
abbrev pub names_step : MessageDesc-F (List MessageNames) → List MessageNames
names_step m = record { fields = m.fields; reserved_names = m.reserved_names; enums = m.enums }
    ∷ flat_map (λ names. names) m.nested

abbrev pub names_of : MessageDesc → List MessageNames
names_of = fold-MessageDesc (List MessageNames) names_step

-- what stands once for a file: its syntax, its package, its imports and its options
abbrev pub HeadBreaks : FileTree → FileDesc → Spot → Type 0
HeadBreaks tree desc = NotProto3Syntax tree.syntax ∪ PackageTwice (flat_map file_package tree.statements)
    ∪ ImportTwice desc.imports ∪ SettingsBreak element.File (flat_map file_setting tree.statements)

-- its messages, enums and services
abbrev pub ElementsBreak : List Statement → Spot → Type 0
ElementsBreak statements = Each (flat_map file_message statements) MessageBreaks
    ∪ Each (flat_map file_enum statements) EnumBreaks ∪ Each (flat_map file_service statements) ServiceBreaks

-- names that its messages and enums declare
abbrev pub NamesBreak : FileDesc → Spot → Type 0
NamesBreak desc = Each (flat_map names_of desc.messages) MessageNamesBreak ∪ Each desc.enums EnumNamesBreak

-- names that are too long
abbrev pub LengthsBreak : Limits → List Statement → FileDesc → Spot → Type 0
LengthsBreak limits statements desc =
    Each (flat_map file_package statements) (PackageTooLong limits) ∪ Each (declared_by desc) (IsTooLong limits)

-- the rules that a file breaks, by its tree and by the descriptor that the tree is lowered to
unfoldable pub FileBreaks : Limits → FileTree → FileDesc → Spot → Type 0
FileBreaks limits tree desc = HeadBreaks tree desc ∪ ElementsBreak tree.statements ∪ NamesBreak desc
    ∪ LengthsBreak limits tree.statements desc
