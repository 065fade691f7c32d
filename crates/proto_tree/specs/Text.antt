-- Texts of names and strings.
use Rattle.std.specs.Prelude.{ℕ, List, [], ◌∷◌, ◌++◌, flat_map, Option, Some, None}
use Rattle.proto_base.specs.declared.place.Span.{Span}
use Rattle.proto_tree.specs.Name.{Identifier}
use Rattle.proto_tree.specs.declared.literal.StringLiteral.{StringLiteral}
use Rattle.proto_tree.specs.declared.literal.StringValue.{StringValue}
use Rattle.proto_tree.specs.declared.name.FullName.{FullName}
use Rattle.proto_tree.specs.declared.name.NamePart.{NamePart}

abbrev pub literal_text : StringLiteral → List ℕ
literal_text l = l.value

-- the value of strings side by side
abbrev pub joined : StringValue → List ℕ
joined s = s.first.value ++ flat_map literal_text s.rest

abbrev pub part_text : NamePart → List ℕ
part_text p = 46 ∷ p.name.text

-- a name with dots between its parts
abbrev pub dotted : FullName → List ℕ
dotted n = n.first.text ++ flat_map part_text n.rest

-- the name of a type, which may begin with a dot
abbrev pub spelled : Option Span → FullName → List ℕ
spelled None n = dotted n
spelled (Some dot) n = 46 ∷ dotted n

-- the identifier that a name of one part is
abbrev pub simple_name : List NamePart → Identifier → Option (List ℕ)
simple_name [] first = Some first.text
simple_name (p ∷ ps) first = None
