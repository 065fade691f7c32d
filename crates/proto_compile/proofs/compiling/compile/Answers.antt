use Rattle.proto_compile.proofs.Common.{arith, ◌≡◌, refl, List, Result, Ok, Err, IfErr, IfOk, IsErrAnd, MatchResult, IfOk-weaker, Limits, Compilation, IsCompiled, IsLeastFault, IsPlaced, SourceFault, TellsOf, told_by, CompileError, Source}
use Rattle.proto_compile.specs.declared.error.CompileError.TheVariants as errors
use Rattle.proto_compile.proofs.LeastFault.{err_tells, no_fault_at_all, one_least}
use Rattle.proto_compile.proofs.OneCompilation.{one_compilation}
use Rattle.proto_compile.proofs.Placing.{placed}
use Rattle.proto_compile.proofs.compiling.compile.Goals as goal

module _ (limits : Limits) (sources : List Source) where
  every_compilation : (r : Result Compilation CompileError) → IfOk r (IsCompiled limits sources)
      → IfErr r (TellsOf (IsLeastFault limits sources)) → (c : Compilation) → IsCompiled limits sources c
      → MatchResult r (λ d. (d.files ≡ c.files) × (d.links.set_order ≡ c.links.set_order)) (λ e. e ≡ errors.NoMemory)
  every_compilation (Ok d) compiled first c is = one_compilation limits sources d c compiled is
  every_compilation (Err (errors.First f)) compiled first c is =
      absurd (no_fault_at_all limits sources c (told_by f) is first.among.breaks)
  every_compilation (Err errors.NoMemory) compiled first c is = refl

  every_fault : (r : Result Compilation CompileError) → IfOk r (IsCompiled limits sources)
      → IfErr r (TellsOf (IsLeastFault limits sources)) → (x : SourceFault) → IsLeastFault limits sources x
      → IsErrAnd r (TellsOf (λ y. y ≡ x))
  every_fault (Ok c) compiled first x fault = absurd (no_fault_at_all limits sources c x compiled fault.among.breaks)
  every_fault (Err (errors.First found)) compiled first x fault = one_least limits sources (told_by found) x first fault
  every_fault (Err errors.NoMemory) compiled first x fault = tt

pub returns-clause-whole : goal.returns-clause-whole
returns-clause-whole g c = IfOk-weaker c.compile_by.result (IsCompiled c.args.limits.now c.args.sources.now) _
    (λ d is x fault. no_fault_at_all c.args.limits.now c.args.sources.now d x is fault.breaks)
    c.compile_by.ensures.compiled

pub returns-clause-placed : goal.returns-clause-placed
returns-clause-placed g c =
    let least = IsLeastFault c.args.limits.now c.args.sources.now in
    err_tells least (λ x. IsPlaced c.args.limits.now c.args.sources.now x.file x.place) c.compile_by.result
    (λ x is. placed c.args.limits.now c.args.sources.now x is.among.breaks is.among.judged) c.compile_by.ensures.first

pub returns-clause-every_compilation : goal.returns-clause-every_compilation
returns-clause-every_compilation g c = every_compilation c.args.limits.now c.args.sources.now c.compile_by.result
    c.compile_by.ensures.compiled c.compile_by.ensures.first

pub returns-clause-every_fault : goal.returns-clause-every_fault
returns-clause-every_fault g c = grind (arith, every_fault)
