-- What is left of a list's items.
use Rattle.std.specs.Prelude.{List, ◌∷◌, map, Option, Some, None}
use Rattle.std.specs.Option.{option_copied}
use Rattle.proto_tree.specs.Lists.{next_item}
use Rattle.proto_tree.specs.declared.list.Items.{Items}

-- a list with an item before it, if there is one
abbrev behind : {A : Type 0} → Option A → List A → List A
behind None items = items
behind (Some first) items = first ∷ items

abbrev pub items_left : {A : Type 0} → Items A → List A
items_left items = behind (option_copied items.first) (map next_item items.rest.now)
