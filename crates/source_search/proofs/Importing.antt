-- What a text imports.
use Rattle.source_search.proofs.Common.{◌≡◌, sym, subst, ℕ, List, [], map, arith, flat_map, filter, Contains, Limits, in_filter, of_filter}
use Rattle.proto_base.specs.Limits.{limit_of}
use Rattle.proto_base.specs.declared.limits.Limit.TheVariants as limit
use Rattle.proto_file.specs.Local.{IsFile}
use Rattle.proto_lower.specs.Files.{import_of}
use Rattle.proto_syntax.proofs.SameFiles.{same_file}
use Rattle.proto_syntax.specs.Fault.{IsTreeOf}
use Rattle.proto_syntax.specs.Grammar.{Tree}
use Rattle.proto_syntax.specs.Trees.{file_tree}
use Rattle.proto_tokens.specs.Spelling.{IsTokenList}
use Rattle.proto_tokens.specs.Token.{Spelled}
use Rattle.proto_tree.specs.declared.file.FileTree.{FileTree}
use Rattle.proto_tree.specs.declared.file.Statement.{Statement}
use Rattle.source_folder.specs.Paths.{is_below}
use Rattle.source_search.specs.Imports.{AreImportsOf, imported, path_of}

-- the paths that statements import, as far as they can be paths below a folder
abbrev pub below_of : List Statement → List (List ℕ)
below_of ss = filter is_below (map path_of (flat_map import_of ss))

-- a text that is no file imports nothing
pub no_imports : (limits : Limits) (text : List ℕ) → ((file : FileTree) → IsFile limits text file → ⊥)
    → AreImportsOf limits text []
no_imports limits text none name = (λ there. absurd (omega (arith, there.1)), λ both. absurd (none both.0.0 both.0.1))

-- a text that these tokens alone spell
module _ (limits : Limits) (text : List ℕ) (tokens : List Spelled)
    (only : (ts : List Spelled) → IsTokenList (limit_of limits limit.FileBytes) text ts → tokens ≡ ts) where
  of_tokens : (file : FileTree) → IsFile limits text file
      → IsTreeOf (limit_of limits limit.Depth) tokens (file_tree file)
  of_tokens file is =
      subst (λ ts. IsTreeOf (limit_of limits limit.Depth) ts (file_tree file)) (sym (only is.0 is.1)) is.2

  pub no_tree : ((x : Tree) → IsTreeOf (limit_of limits limit.Depth) tokens x → ⊥) → AreImportsOf limits text []
  no_tree none = grind (arith, no_imports, of_tokens)

  -- a file imports what its statements say
  pub file_imports : IsTokenList (limit_of limits limit.FileBytes) text tokens
      → (file : FileTree) → IsTreeOf (limit_of limits limit.Depth) tokens (file_tree file)
      → ((x : Tree) → IsTreeOf (limit_of limits limit.Depth) tokens x → file_tree file ≡ x)
      → (names : List (List ℕ)) → names ≡ filter is_below (imported file) → AreImportsOf limits text names
  file_imports spelled file tree one names is name = rw is (
    λ there. let both = of_filter is_below (imported file) name there in
        ((file, (tokens, spelled, tree), both.0), both.1),
    λ both. let other = both.0.0 in
        let same = same_file file other (one (file_tree other) (of_tokens other both.0.1)) in
        in_filter is_below (imported file) name (subst (λ f. Contains (imported f) name) (sym same) both.0.2) both.1,
  )
