-- Words of private contracts: sets of the names that are taken.
use Rattle.std.specs.Prelude.{◌≡◌, ℕ, Bool, true, false, List, [], ◌∷◌, ◌==◌, ◌||◌, String}
use Rattle.std.specs.BTreeSet.{BTreeSet, contains_text}
use Rattle.std.specs.Set.{is_member}
use Rattle.std.specs.Str.{bytes_eq}
use Rattle.std.specs.declared.alloc.Global.{Global}

-- as all names do that are tried for a oneof
abbrev pub begins_as_made : List ℕ → Bool
begins_as_made [] = false
begins_as_made (c ∷ cs) = c == 95 || c == 88

-- a set that has, of what can be tried, just these names
pub record HoldsTaken (names : List (List ℕ)) (set : BTreeSet (String Global)) : Type 0 where
  pub members : (name : List ℕ) → begins_as_made name ≡ true → contains_text set name ≡ is_member bytes_eq names name
