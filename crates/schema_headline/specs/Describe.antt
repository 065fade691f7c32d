-- What one source is described by.
use Rattle.std.specs.Prelude.{◌≡◌, ℕ, List, [], ◌∷◌, Result, Vec, IfOk, IfErr, IsErrAnd, MatchResult}
use Rattle.std.specs.declared.alloc.Global.{Global}
use Rattle.proto_base.specs.declared.limits.Limits.{Limits}
use Rattle.proto_compilation.specs.Compilation.{Compilation, IsNamed, bytes_at}
use Rattle.proto_compile.specs.Compiled.{IsCompiled}
use Rattle.proto_compile.specs.FaultSet.{IsLeastFault, IsPlaced, SourceFault, TellsOf}
use Rattle.proto_compile.specs.Sources.{name_of}
use Rattle.proto_compile.specs.declared.error.CompileError.{CompileError}
use Rattle.proto_compile.specs.declared.error.CompileError.TheVariants as errors
use Rattle.proto_compile.specs.declared.source.Source.{Source}

-- the source by itself is compiled, and these are the bytes of the file of its name
abbrev pub IsDescribedBy : Limits → Source → List ℕ → Type 0
IsDescribedBy limits source bytes =
    (c : Compilation) × IsCompiled limits (source ∷ []) c × (a : ℕ) × IsNamed c.files (name_of source) a
    × (bytes ≡ bytes_at c.files a)

-- an answer about a source: its descriptor, or its first fault, which lies within it; and a source with a descriptor
-- gives it, and one with a fault tells it, unless memory runs out
pub record IsDescription (limits : Limits) (source : Source) (answer : Result (Vec ℕ Global) CompileError)
    : Type 0 where
  pub described : IfOk answer (λ bytes. IsDescribedBy limits source bytes.items)
  pub first : IfErr answer (TellsOf (IsLeastFault limits (source ∷ [])))
  pub placed : IfErr answer (TellsOf (λ x. IsPlaced limits (source ∷ []) x.file x.place))
  pub every_descriptor : (descriptor : List ℕ) → IsDescribedBy limits source descriptor
      → MatchResult answer (λ bytes. bytes.items ≡ descriptor) (λ e. e ≡ errors.NoMemory)
  pub every_fault : (x : SourceFault) → IsLeastFault limits (source ∷ []) x → IsErrAnd answer (TellsOf (λ y. y ≡ x))
