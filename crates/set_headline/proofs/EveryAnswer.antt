-- What a set gives is one thing, or its first fault.
use Rattle.std.proofs.Common.{◌≡◌, refl, ℕ, List, Result, Ok, Err, IfErr, IfOk, IsErrAnd, MatchResult, Vec, Global}
use Rattle.first_reach.specs.declared.mode.Mode.{Mode}
use Rattle.proto_base.specs.declared.limits.Limits.{Limits}
use Rattle.proto_sets.proofs.Alike.{alike, sound}
use Rattle.proto_sets.proofs.LeastFault.{one_least}
use Rattle.proto_sets.proofs.PassLeast.{no_fault_at_all}
use Rattle.proto_sets.specs.SetFaults.{Fault, IsLeastFault, TellsOf, told_by}
use Rattle.proto_sets.specs.declared.fault.SetError.{SetError}
use Rattle.proto_sets.specs.declared.fault.SetError.TheVariants as errors
use Rattle.reflect_core.proofs.OneResponse.{one_response}
use Rattle.set_headline.specs.Headline.{IsResponseOfSet}

module _ (mode : Mode) (limits : Limits) (set body : List ℕ) where
  pub every_response : (r : Result (Vec ℕ Global) SetError)
      → IfOk r (λ bytes. IsResponseOfSet mode limits set body bytes.items)
      → IfErr r (TellsOf (IsLeastFault limits set))
      → (answer : List ℕ) → IsResponseOfSet mode limits set body answer
      → MatchResult r (λ bytes. bytes.items ≡ answer) (λ e. e ≡ errors.NoMemory)
  every_response (Ok bytes) (c, is, gives) first answer (d, other, so) =
      one_response c d (sound limits set c is) (alike limits set c d is other) mode body bytes.items answer gives so
  every_response (Err (errors.First fault)) gives first answer (d, other, so) =
      absurd (no_fault_at_all limits set d (told_by fault) other first.among.breaks)
  every_response (Err errors.NoMemory) gives first answer so = refl

  pub every_fault : (r : Result (Vec ℕ Global) SetError)
      → IfOk r (λ bytes. IsResponseOfSet mode limits set body bytes.items)
      → IfErr r (TellsOf (IsLeastFault limits set))
      → (x : Fault) → IsLeastFault limits set x → IsErrAnd r (TellsOf (λ y. y ≡ x))
  every_fault (Ok bytes) (c, is, gives) first x fault = absurd (no_fault_at_all limits set c x is fault.among.breaks)
  every_fault (Err (errors.First found)) gives first x fault = one_least limits set (told_by found) x first fault
  every_fault (Err errors.NoMemory) gives first x fault = tt
