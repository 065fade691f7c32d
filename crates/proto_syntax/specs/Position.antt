-- With which words the name of a type does not begin.
use Rattle.std.specs.Prelude.{ℕ, List, [], ◌∷◌, codes}
use Rattle.proto_syntax.specs.declared.parser.position.Position.{Position}
use Rattle.proto_syntax.specs.declared.parser.position.Position.TheVariants.{Statement, Member, Labelled, Streamable, Free}
use Rattle.proto_syntax.specs.Language.{statement_words}

abbrev pub excluded_words : Position → List (List ℕ)
excluded_words Statement = codes "map" ∷ statement_words
excluded_words Member = statement_words
excluded_words Labelled = codes "group" ∷ []
excluded_words Streamable = codes "stream" ∷ []
excluded_words Free = []
