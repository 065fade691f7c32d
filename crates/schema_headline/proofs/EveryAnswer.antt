-- What sources give is one thing, or their first fault.
use Rattle.std.proofs.Common.{◌≡◌, refl, ℕ, List, Result, Ok, Err, IfErr, IfOk, IsErrAnd, MatchResult, Vec, Global}
use Rattle.proto_base.specs.declared.limits.Limits.{Limits}
use Rattle.proto_compilation.specs.Compilation.{Compilation}
use Rattle.proto_compile.specs.Compiled.{IsCompiled}
use Rattle.proto_compile.specs.FaultSet.{IsLeastFault, SourceFault, TellsOf, told_by}
use Rattle.proto_compile.specs.declared.error.CompileError.{CompileError}
use Rattle.proto_compile.specs.declared.error.CompileError.TheVariants as errors
use Rattle.proto_compile.specs.declared.source.Source.{Source}
use Rattle.proto_compile.proofs.LeastFault.{no_fault_at_all, one_least}

-- P is what compiled sources give, and they give one thing
module _ (limits : Limits) (sources : List Source) (P : List ℕ → Type 0)
    (compiled : (a : List ℕ) → P a → (c : Compilation) × IsCompiled limits sources c) where
  pub every_answer : ((a b : List ℕ) → P a → P b → a ≡ b) → (r : Result (Vec ℕ Global) CompileError)
      → IfOk r (λ bytes. P bytes.items)
      → IfErr r (TellsOf (IsLeastFault limits sources))
      → (answer : List ℕ) → P answer → MatchResult r (λ bytes. bytes.items ≡ answer) (λ e. e ≡ errors.NoMemory)
  every_answer one (Ok bytes) gives first answer is = one bytes.items answer gives is
  every_answer one (Err (errors.First fault)) gives first answer is = let w = compiled answer is in
      absurd (no_fault_at_all limits sources w.0 (told_by fault) w.1 first.among.breaks)
  every_answer one (Err errors.NoMemory) gives first answer is = refl

  pub every_fault : (r : Result (Vec ℕ Global) CompileError) → IfOk r (λ bytes. P bytes.items)
      → IfErr r (TellsOf (IsLeastFault limits sources))
      → (x : SourceFault) → IsLeastFault limits sources x → IsErrAnd r (TellsOf (λ y. y ≡ x))
  every_fault (Ok bytes) gives first x fault = let w = compiled bytes.items gives in
      absurd (no_fault_at_all limits sources w.0 x w.1 fault.among.breaks)
  every_fault (Err (errors.First found)) gives first x fault = one_least limits sources (told_by found) x first fault
  every_fault (Err errors.NoMemory) gives first x fault = tt
