-- A set is read in one way.
use Rattle.std.proofs.Common.{◌≡◌, refl, List, ℕ, Result, Ok, Err, IfErr, IfOk, IsErrAnd, MatchResult}
use Rattle.proto_base.specs.declared.limits.Limits.{Limits}
use Rattle.proto_compilation.specs.Alike.{AreAlike}
use Rattle.proto_compilation.specs.Compilation.{Compilation}
use Rattle.proto_sets.specs.SetFaults.{Fault, IsLeastFault, TellsOf, told_by}
use Rattle.proto_sets.specs.Sets.{IsOfSet}
use Rattle.proto_sets.specs.declared.fault.SetError.{SetError}
use Rattle.proto_sets.specs.declared.fault.SetError.TheVariants as errors
use Rattle.proto_sets.proofs.Alike.{alike}
use Rattle.proto_sets.proofs.LeastFault.{one_least}
use Rattle.proto_sets.proofs.PassLeast.{no_fault_at_all}

module _ (limits : Limits) (set : List ℕ) where
  pub every_compilation : (r : Result Compilation SetError) → IfOk r (IsOfSet limits set)
      → IfErr r (TellsOf (IsLeastFault limits set)) → (c : Compilation) → IsOfSet limits set c
      → MatchResult r (λ s. AreAlike s c)
      (λ e. e ≡ errors.NoMemory)
  every_compilation (Ok s) read first c is = alike limits set s c read is
  every_compilation (Err (errors.First f)) read first c is =
      absurd (no_fault_at_all limits set c (told_by f) is first.among.breaks)
  every_compilation (Err errors.NoMemory) read first c is = refl

  pub every_fault : (r : Result Compilation SetError) → IfOk r (IsOfSet limits set)
      → IfErr r (TellsOf (IsLeastFault limits set)) → (x : Fault) → IsLeastFault limits set x
      → IsErrAnd r (TellsOf (λ y. y ≡ x))
  every_fault (Ok s) read first x fault = absurd (no_fault_at_all limits set s x read fault.among.breaks)
  every_fault (Err (errors.First found)) read first x fault = one_least limits set (told_by found) x first fault
  every_fault (Err errors.NoMemory) read first x fault = tt
