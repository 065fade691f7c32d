-- Names and paths as bytes.
use Rattle.std.specs.Prelude.{ℕ, ◌==◌, ◌||◌, Bool, not, List, [], ◌∷◌, ◌++◌, bytes_eq, length, nat_eq, codes}
use Rattle.std.specs.List.{ends_with, list_all, slice_split}

-- whether a name ends in the bytes of `.proto`
abbrev pub ends_in_proto : List ℕ → Bool
ends_in_proto name = ends_with nat_eq name (codes ".proto")

-- a path and a name below it, with a slash between the two unless one is empty
abbrev pub joined_path : List ℕ → List ℕ → List ℕ
joined_path [] name = name
joined_path (x ∷ path) [] = x ∷ path
joined_path (x ∷ path) (y ∷ name) = (x ∷ path) ++ 47 ∷ y ∷ name

-- a part of a path names what is in a folder: not the folder itself, and not the one around it
abbrev pub is_entry : List ℕ → Bool
is_entry part = not (length part == 0 || bytes_eq part (codes ".") || bytes_eq part (codes ".."))

-- each part of the name does, as slashes divide it
abbrev pub is_below : List ℕ → Bool
is_below name = list_all is_entry (slice_split (λ b. b == 47) name)
