-- Names that are made of the names of fields.
use Rattle.std.specs.Prelude.{ℕ, Bool, List, [], ◌∷◌, ◌++◌, if◌then◌else◌, ◌==◌, codes, length, replicate}
use Rattle.std.specs.List.{prefix_len, range_with_len}
use Rattle.std.specs.Set.{is_member}
use Rattle.std.specs.Str.{bytes_eq}
use Rattle.proto_desc.specs.JsonNames.{raised}

-- an entry's name begins as if `_` stood before it
abbrev pub entry_name_of : List ℕ → List ℕ
entry_name_of name = raised 95 name ++ codes "Entry"

-- a field's name with `_` put in front, unless it begins with `_`
abbrev pub with_underscore : List ℕ → List ℕ
with_underscore [] = 95 ∷ []
with_underscore (c ∷ cs) = if c == 95 then c ∷ cs else 95 ∷ c ∷ cs

-- a name with `X` in front this many times
abbrev pub behind_letters : (count : ℕ) → List ℕ → List ℕ
behind_letters count name = replicate count 88 ++ name

-- the first name that is free, of this one and it with `X` in front once, twice and so on, `most` times at most: as
-- many
-- are in front as names are taken before it
abbrev pub first_free : (is_taken : List ℕ → Bool) → (most : ℕ) → List ℕ → List ℕ
first_free is_taken most name =
    behind_letters (prefix_len (λ count. is_taken (behind_letters count name)) (range_with_len 0 most)) name

-- the name of the oneof that an `optional` field makes: the first that is free. Of one name more than are taken one is
abbrev pub oneof_name_of : List (List ℕ) → List ℕ → List ℕ
oneof_name_of taken field = first_free (is_member bytes_eq taken) (length taken) (with_underscore field)
