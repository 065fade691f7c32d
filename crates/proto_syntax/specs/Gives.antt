-- Words of private contracts: what a method of the parser promises.
use Rattle.std.specs.Prelude.{◌≡◌, Bool, codes, true, false, List, [], ◌∷◌, map, Result, Ok, Err, ℕ, slice_get, Option, None, Some}
use Rattle.proto_base.specs.declared.place.Span.{Span}
use Rattle.proto_tokens.specs.declared.token.Token.{Token}
use Rattle.proto_tokens.specs.Token.{Spelled}
use Rattle.proto_tokens.specs.ProgramTokens.{spelled, tokens_of}
use Rattle.proto_syntax.specs.declared.parser.item.ItemKind.{ItemKind}
use Rattle.proto_syntax.specs.declared.parser.item.ItemKind.TheVariants as kind
use Rattle.proto_syntax.specs.declared.parser.stop.Stop.{Stop}
use Rattle.proto_syntax.specs.declared.parser.stop.Stop.TheVariants as stop
use Rattle.proto_syntax.specs.Grammar.{Class, OneOf, Symbol, Grammar, ◌∣◌, Tree, Pair}
use Rattle.proto_syntax.specs.Language.{enum, option, oneof, reserved, map_or_field, symbol, field}
use Rattle.std.specs.Str.{byte}
use Prim.Native.String.{String}
use Rattle.proto_syntax.specs.Trees.{row, symbol_tree}
use Rattle.proto_syntax.specs.Reading.{Outcome, Read, Stops, begins, read, next_fits}
use Rattle.proto_tokens.specs.declared.token.Tokens.{Tokens}
use Rattle.proto_base.specs.declared.kind.Kind.{Kind}
use Rattle.proto_base.specs.declared.kind.Kind.TheVariants.{UnexpectedEnd}
use Rattle.proto_syntax.specs.declared.error.ParseError.{ParseError}
use Rattle.proto_syntax.specs.declared.error.ParseError.TheVariants.{NoMemory, At}
use Rattle.proto_syntax.specs.Told.{place_of_token}
use Rattle.proto_syntax.specs.Fault.{token_before, kind_of}

abbrev pub spellings : List Token → List Spelled
spellings = map spelled

abbrev pub Fails : Stop → List Token → Outcome → Type 0
Fails stop.NoMemory rest o = Unit {0}
Fails stop.Unexpected rest o = o ≡ Stops false (spellings rest)
Fails stop.TooDeep rest o = o ≡ Stops true (spellings rest)

-- What a method returned, seen by tree, and the tokens that it left are what reading gives, unless memory ran out.
-- After a fault it left the tokens from the fault on.
abbrev pub Gives : {X : Type 0} → (X → Tree) → Result X Stop → List Token → Outcome → Type 0
Gives tree (Ok x) rest o = o ≡ Read (tree x) (spellings rest)
Gives tree (Err e) rest o = Fails e rest o

-- A method took a tree of that grammar from the front of the tokens, or stopped at their fault.
abbrev pub Reads : {X : Type 0} → (X → Tree) → Grammar → Result X Stop → List Token → List Token → Type 0
Reads tree g result old new = Gives tree result new (read g (spellings old))

-- A method took a tree of that grammar, which is of one token, or nothing, where the next token does not begin it.
abbrev pub TakesIf : {X : Type 0} → (X → Tree) → Grammar → Option X → List Token → List Token → Type 0
TakesIf tree g None old new = (next_fits (begins g) (spellings old) ≡ false) × (new ≡ old)
TakesIf tree g (Some x) old new =
    (next_fits (begins g) (spellings old) ≡ true) × (read g (spellings old) ≡ Read (tree x) (spellings new))

-- a statement of a message that is no message
abbrev pub flat_item : Grammar
flat_item = enum ∣ option ∣ oneof ∣ reserved ∣ map_or_field ∣ symbol ";" ∣ field

-- A token is that word, or is not, where `at` tells whether it is of a class.
abbrev pub IsAt : (Class → Bool) → String → Type 0
IsAt at w = at (OneOf (codes w ∷ [])) ≡ true

abbrev pub IsPast : (Class → Bool) → String → Type 0
IsPast at w = at (OneOf (codes w ∷ [])) ≡ false

-- it begins none of the first four parts of `flat_item`
abbrev pub IsPastWords : (Class → Bool) → Type 0
IsPastWords at = IsPast at "enum" × IsPast at "option" × IsPast at "oneof" × IsPast at "reserved"

-- it begins that part of `flat_item`, and none before it
abbrev pub BeginsItem : ItemKind → (Class → Bool) → Type 0
BeginsItem kind.Enum at = IsAt at "enum"
BeginsItem kind.Option at = IsPast at "enum" × IsAt at "option"
BeginsItem kind.Oneof at = IsPast at "enum" × IsPast at "option" × IsAt at "oneof"
BeginsItem kind.Reserved at = IsPast at "enum" × IsPast at "option" × IsPast at "oneof" × IsAt at "reserved"
BeginsItem kind.Map at = IsPastWords at × IsAt at "map"
BeginsItem kind.Empty at = IsPastWords at × IsPast at "map" × (at (Symbol (byte ";")) ≡ true)
BeginsItem kind.Field at = IsPastWords at × IsPast at "map" × (at (Symbol (byte ";")) ≡ false)

-- the kind that the token at k shows, where it is not the depth
abbrev pub kind_here : Option Spelled → Option Spelled → Kind
kind_here before None = UnexpectedEnd
kind_here before (Some t) = kind_of before t

abbrev pub kind_at : List Spelled → ℕ → Kind
kind_at ts k = kind_here (token_before ts k) (slice_get ts k)

-- the error is for want of memory, or tells that fault
abbrev pub TellsFault : Tokens → ℕ → Kind → ParseError → Type 0
TellsFault tokens k kind NoMemory = Unit {0}
TellsFault tokens k kind (At place told) =
    (place.offset ≡ place_of_token (tokens_of tokens) k tokens.end.offset) × (told ≡ kind)

-- the number of an element and what stands behind it, from the sign `=` up to the semicolon
abbrev pub numbered_tree : {N O : Type 0} → (N → Tree) → (O → Tree) → Span → N → O → Span → Tree
numbered_tree f g equals number options semicolon =
    Pair (symbol_tree (byte "=") equals) (Pair (f number) (Pair (g options) (symbol_tree (byte ";") semicolon)))

-- the statements of a block, and the brace that closes it
abbrev pub body_tree : {A : Type 0} → (A → Tree) → List A → Span → Tree
body_tree f xs close_brace = Pair (row f xs) (symbol_tree (byte "}") close_brace)
