-- What a shelf has: texts under names.
use Rattle.std.specs.Prelude.{◌≡◌, ℕ, List, Option, IfSome, Vec}
use Rattle.std.specs.Option.{option_map}
use Rattle.std.specs.declared.alloc.Global.{Global}

-- the text under each name, if there is one
abbrev pub Lookup : Type 0
Lookup = List ℕ → Option (List ℕ)

-- the same, where it is known
abbrev pub Known : Type 0
Known = Option Lookup

abbrev pub bytes_in : Vec ℕ Global → List ℕ
bytes_in text = text.items

-- what was found under a name: what is there, where that is known
abbrev pub IsFoundOn : Known → List ℕ → Option (Vec ℕ Global) → Type 0
IsFoundOn known name found = IfSome known (λ lookup. option_map bytes_in found ≡ lookup name)
