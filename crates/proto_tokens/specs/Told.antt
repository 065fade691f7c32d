-- What an error of `tokenize` tells.
use Rattle.std.specs.Prelude.{◌≡◌, ℕ, ◌≤◌, List}
use Rattle.proto_base.specs.declared.kind.Kind.{Kind}
use Rattle.proto_tokens.specs.declared.token.TokenError.{TokenError}
use Rattle.proto_tokens.specs.declared.token.TokenError.TheVariants as errors
use Rattle.proto_tokens.specs.Spelling.{IsFault}

-- the fault that an error names; want of memory is none
abbrev pub IsFaultOf : ℕ → List ℕ → TokenError → Type 0
IsFaultOf limit s (errors.At place kind) = IsFault limit s place.offset kind
IsFaultOf limit s errors.NoMemory = Unit {0}

-- the error is for want of memory, or names this fault
abbrev pub TellsFault : ℕ → Kind → TokenError → Type 0
TellsFault place kind (errors.At there other) = (there.offset ≡ place) × (other ≡ kind)
TellsFault place kind errors.NoMemory = Unit {0}

-- the error's place is one of a text of this length
abbrev pub IsPlacedWithin : ℕ → TokenError → Type 0
IsPlacedWithin len (errors.At place kind) = place.offset ≤ len
IsPlacedWithin len errors.NoMemory = Unit {0}
