-- What a text loses.
use Rattle.std.proofs.Common.{◌≡◌, sym, ap, refl, subst, ℕ, List, [], ◌∷◌, map, flat_map}
use Rattle.proto_base.specs.Limits.{limit_of}
use Rattle.proto_base.specs.declared.limits.Limit.TheVariants as limit
use Rattle.proto_base.specs.declared.limits.Limits.{Limits}
use Rattle.proto_base.specs.declared.place.Span.{Span}
use Rattle.proto_file.specs.Local.{IsFile}
use Rattle.proto_syntax.specs.Fault.{IsTreeOf}
use Rattle.proto_syntax.specs.Grammar.{Tree, flatten}
use Rattle.proto_syntax.specs.Trees.{file_tree, row, string_tree}
use Rattle.proto_tokens.specs.Spelling.{IsTokenList}
use Rattle.proto_tokens.specs.Token.{Spelled, string_literal}
use Rattle.proto_tree.specs.declared.file.FileTree.{FileTree}
use Rattle.proto_tree.specs.declared.literal.StringLiteral.{StringLiteral}
use Rattle.skipped_sources.specs.Losing.{LosesSpans, extent_of, extents}
use Rattle.skipped_sources.specs.Lost.{a_file, lost_of, no_file}

abbrev pub literal_token : StringLiteral → Spelled
literal_token s = record { start = s.span.start.offset; end = s.span.end.offset; lexeme = string_literal s.value }

-- the tokens of strings in a row
pub strings_flat : (ss : List StringLiteral) → flatten (row string_tree ss) ≡ map literal_token ss
strings_flat [] = refl
strings_flat (s ∷ ss) = ap (λ (ts : List Spelled). literal_token s ∷ ts) (strings_flat ss)

pub no_file_loses : (limits : Limits) (text : List ℕ) → ((file : FileTree) → IsFile limits text file → ⊥)
    → (names : List (List ℕ)) → LosesSpans limits names text []
no_file_loses limits text none names = ([], no_file none, refl)

-- a text that these tokens alone spell
module _ (limits : Limits) (text : List ℕ) (tokens : List Spelled)
    (only : (ts : List Spelled) → IsTokenList (limit_of limits limit.FileBytes) text ts → tokens ≡ ts) where
  of_tokens : (file : FileTree) → IsFile limits text file
      → IsTreeOf (limit_of limits limit.Depth) tokens (file_tree file)
  of_tokens file is =
      subst (λ ts. IsTreeOf (limit_of limits limit.Depth) ts (file_tree file)) (sym (only is.0 is.1)) is.2

  pub no_tree_loses : ((x : Tree) → IsTreeOf (limit_of limits limit.Depth) tokens x → ⊥)
      → (names : List (List ℕ)) → LosesSpans limits names text []
  no_tree_loses none = no_file_loses limits text (λ file is. none (file_tree file) (of_tokens file is))

-- a file loses what its statements do
pub file_loses : (limits : Limits) (text : List ℕ) (tokens : List Spelled) (file : FileTree)
    → IsTokenList (limit_of limits limit.FileBytes) text tokens
    → IsTreeOf (limit_of limits limit.Depth) tokens (file_tree file) → (names : List (List ℕ)) (spans : List Span)
    → extents spans ≡ map extent_of (flat_map (lost_of names) file.statements) → LosesSpans limits names text spans
file_loses limits text tokens file spelled tree names spans same =
    (flat_map (lost_of names) file.statements, a_file file (tokens, spelled, tree), same)
