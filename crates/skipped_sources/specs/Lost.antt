-- Sources without imports of what is not among them.
use Rattle.std.specs.Prelude.{◌≡◌, ℕ, List, [], cond, flat_map, map}
use Rattle.std.specs.List.{AllZip}
use Rattle.proto_base.specs.declared.limits.Limits.{Limits}
use Rattle.proto_file.specs.Local.{IsFile}
use Rattle.proto_syntax.specs.Grammar.{among, flatten}
use Rattle.proto_syntax.specs.Trees.{import_tree}
use Rattle.proto_tokens.specs.Token.{Spelled}
use Rattle.proto_tree.specs.Text.{joined}
use Rattle.proto_tree.specs.declared.file.FileTree.{FileTree}
use Rattle.proto_tree.specs.declared.file.Statement.{Statement}
use Rattle.proto_tree.specs.declared.file.Statement.TheVariants as statement
use Rattle.source_folder.specs.Folder.{NamedBytes}
use Rattle.source_search.specs.Wanted.{name_in}
use Rattle.source_skip.specs.Skipped.{without}

-- the tokens of an import that names none of these
abbrev pub lost_of : List (List ℕ) → Statement → List Spelled
lost_of names (statement.Import i) = cond (among (joined i.path) names) [] (flatten (import_tree i))
lost_of names s = []

-- what a text loses: where it is a file, the tokens of its imports that name none of these
pub data Loses (limits : Limits) (names : List (List ℕ)) (text : List ℕ) : List Spelled → Type 0 where
  a_file : (file : FileTree) → IsFile limits text file
      → Loses limits names text (flat_map (lost_of names) file.statements)
  no_file : ((file : FileTree) → IsFile limits text file → ⊥) → Loses limits names text []

-- the text with spaces in place of these tokens
abbrev pub IsWithoutLost : Limits → (names : List (List ℕ)) → (text new : List ℕ) → Type 0
IsWithoutLost limits names text new =
    (gone : List Spelled) × Loses limits names text gone × (new ≡ without 0 gone text)

-- each source under its name, without the imports that name none of all
abbrev pub AreWithoutLost : Limits → (sources new : List NamedBytes) → Type 0
AreWithoutLost limits sources new =
    AllZip (λ old now. (now.0 ≡ old.0) × IsWithoutLost limits (map name_in sources) old.1 now.1) sources new
