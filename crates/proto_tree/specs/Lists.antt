-- Items with commas between them.
use Rattle.std.specs.Prelude.{List, ◌∷◌, map}
use Rattle.proto_tree.specs.declared.list.Next.{Next}
use Rattle.proto_tree.specs.declared.list.Separated.{Separated}

abbrev pub next_item : {A : Type 0} → Next A → A
next_item n = n.item

-- what stands with commas between
abbrev pub separated : {A : Type 0} → Separated A → List A
separated s = s.first ∷ map next_item s.rest
