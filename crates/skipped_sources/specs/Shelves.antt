-- What stands on a shelf, as if custom options were not there.
use Rattle.std.specs.Prelude.{ℕ, List, Option, None, Some, cond, option_map}
use Rattle.source_search.specs.Shelves.{Known, Lookup}
use Rattle.source_skip.specs.Languages.{begins_other}
use Rattle.source_skip.specs.Pieces.{loose_tokens}
use Rattle.source_skip.specs.Skipped.{skipped}

-- what is found under a name; a text of another language is not found
abbrev pub found_skipped : Option (List ℕ) → Option (List ℕ)
found_skipped None = None
found_skipped (Some text) = cond (begins_other (loose_tokens text)) None (Some (skipped text))

abbrev pub shelf_skipped : Lookup → Lookup
shelf_skipped lookup name = found_skipped (lookup name)

-- the same, where it is known what the shelf has
abbrev pub known_skipped : Known → Known
known_skipped known = option_map shelf_skipped known
