-- What one source is by itself.
use Rattle.std.specs.Prelude.{◌≡◌, ℕ, List, length}
use Rattle.proto_base.specs.Limits.{limit_of}
use Rattle.proto_tokens.specs.Spelling.{IsTokenList, IsFault}
use Rattle.proto_tokens.specs.Token.{Spelled}
use Rattle.proto_base.specs.declared.file_fault.FileFault.{FileFault}
use Rattle.proto_base.specs.declared.kind.Kind.{Kind}
use Rattle.proto_base.specs.declared.limits.Limit.TheVariants as limit
use Rattle.proto_base.specs.declared.limits.Limits.{Limits}
use Rattle.proto_syntax.specs.Fault.{IsTreeOf, IsFaultAt, IsKindOf}
use Rattle.proto_syntax.specs.Told.{place_of_token}
use Rattle.proto_syntax.specs.Trees.{file_tree}
use Rattle.proto_tree.specs.declared.file.FileTree.{FileTree}
use Rattle.proto_lower.specs.Files.{lowered}
use Rattle.proto_desc.specs.declared.file.FileDesc.{FileDesc}
use Rattle.proto_checks.specs.Checks.{FileBreaks}
use Rattle.proto_base.specs.FileFaults.{IsNoLater}
use Rattle.proto_base.specs.Least.{IsLeastBy}
use Rattle.proto_base.specs.declared.spot.Spot.{Spot}

-- the text is a file within the limits, with this tree
abbrev pub IsFile : Limits → List ℕ → FileTree → Type 0
IsFile limits text file = (ts : List Spelled) × IsTokenList (limit_of limits limit.FileBytes) text ts
    × IsTreeOf (limit_of limits limit.Depth) ts (file_tree file)

-- the file breaks no rule of the language that it alone can break
abbrev pub IsUnbroken : Limits → List ℕ → FileTree → Type 0
IsUnbroken limits name file = (x : Spot) → FileBreaks limits file (lowered name file) x → ⊥

-- the text is a file that breaks no rule by itself, and this is what it describes
abbrev pub Describes : Limits → (name text : List ℕ) → FileDesc → Type 0
Describes limits name text desc =
    (file : FileTree) × IsFile limits text file × IsUnbroken limits name file × (desc ≡ lowered name file)

-- the tokens of the text are no file: this is the first that cannot stand where it stands, and why
abbrev pub IsGrammarFault : Limits → List ℕ → ℕ → Kind → Type 0
IsGrammarFault limits text place kind =
    (ts : List Spelled) × (k : ℕ) × IsTokenList (limit_of limits limit.FileBytes) text ts
    × IsFaultAt (limit_of limits limit.Depth) ts k
    × IsKindOf ts k kind × (place ≡ place_of_token ts k (length text))

-- why the text is no file: the first fault of its tokens, or else of the grammar
pub data IsTextFault (limits : Limits) (text : List ℕ) (f : FileFault) : Type 0 where
  of_tokens : f.step ≡ 0 → IsFault (limit_of limits limit.FileBytes) text f.spot.place.offset f.spot.kind
      → IsTextFault limits text f
  of_grammar : f.step ≡ 1 → IsGrammarFault limits text f.spot.place.offset f.spot.kind → IsTextFault limits text f

-- a fault of one source by itself: why it is no file, or else each rule that it breaks
pub data IsOwnFault (limits : Limits) (name text : List ℕ) (f : FileFault) : Type 0 where
  of_text : IsTextFault limits text f → IsOwnFault limits name text f
  of_rules : (file : FileTree) → IsFile limits text file → f.step ≡ 2
      → FileBreaks limits file (lowered name file) f.spot → IsOwnFault limits name text f

-- the first of these faults, by step, place and the kind's number
abbrev pub IsLocalFault : Limits → (name text : List ℕ) → FileFault → Type 0
IsLocalFault limits name text = IsLeastBy IsNoLater (IsOwnFault limits name text)
