-- Which of several folders has a file.
use Rattle.std.specs.Prelude.{◌≡◌, ℕ, Bool, List, [], ◌∷◌, Option, IfSome, None, Vec, find}
use Rattle.std.specs.Borrow.{Bor}
use Rattle.std.specs.Option.{is_some, option_map, option_or}
use Rattle.std.specs.declared.alloc.Global.{Global}
use Rattle.source_search.specs.Shelves.{Lookup, bytes_in}

-- the texts below each folder
abbrev pub Contents : Type 0
Contents = List ℕ → Lookup

-- the text under a name in the first of the folders that has one
abbrev pub first_in : Contents → List (List ℕ) → Lookup
first_in contents [] name = None
first_in contents (folder ∷ folders) name = option_or (contents folder name) (first_in contents folders name)

-- whether a folder has a text under a name
abbrev pub has_text : Contents → List ℕ → List ℕ → Bool
has_text contents name folder = is_some (contents folder name)

-- what was found below a folder: what is there, where that is known
abbrev pub IsTextBelow : Option Contents → (folder name : List ℕ) → Option (Vec ℕ Global) → Type 0
IsTextBelow known folder name found = IfSome known (λ contents. option_map bytes_in found ≡ contents folder name)

-- whether there is a text, where that is known
abbrev pub IsThere : Option Contents → (folder name : List ℕ) → Bool → Type 0
IsThere known folder name answer = IfSome known (λ contents. answer ≡ has_text contents name folder)

-- the text in the first of the folders that has the name, where that is known
abbrev pub IsFirstText : Option Contents → List (List ℕ) → List ℕ → Option (Vec ℕ Global) → Type 0
IsFirstText known folders name found =
    IfSome known (λ contents. option_map bytes_in found ≡ first_in contents folders name)

-- the first of the folders that has the name, where that is known
abbrev pub IsFirstFolder : Option Contents → List (List ℕ) → List ℕ → Option (Bor (List ℕ)) → Type 0
IsFirstFolder known folders name found =
    IfSome known (λ contents. option_map (λ folder. folder.now) found ≡ find (has_text contents name) folders)
