-- From the first fault of sources to those that are told.
use Rattle.std.proofs.Common.{◌≡◌, sym, subst, List, [], ◌∷◌, Option, Some, map, arith, Contains}
use Rattle.file_faults.specs.PassFaults.{AreFaultsFrom}
use Rattle.proto_base.specs.declared.fault.Fault.{Fault}
use Rattle.proto_base.specs.declared.limits.Limits.{Limits}
use Rattle.proto_compile.specs.FaultSet.{IsLeastFault, IsPlaced, SourceFault, TellsOf, told_by}
use Rattle.proto_compile.proofs.Placing.{placed}
use Rattle.proto_compile.specs.declared.error.CompileError.{CompileError}
use Rattle.proto_compile.specs.declared.error.CompileError.TheVariants as errors
use Rattle.proto_compile.specs.declared.source.Source.{Source}
use Rattle.schema_check.specs.Told.{ArePlaced, AreTold, IsFirst}
use Rattle.share_work.proofs.Sums.{in_map}

pub first_told : (limits : Limits) (sources : List Source) (e : CompileError) (first : Fault) → e ≡ errors.First first
    → TellsOf (IsLeastFault limits sources) e → TellsOf (λ x. IsPlaced limits sources x.file x.place) e
    → IsFirst limits sources (Some first)
first_told limits sources e first same least placed =
    let P : CompileError → Type 0 = λ x. TellsOf (IsLeastFault limits sources) x in
    let Q : CompileError → Type 0 = λ x. TellsOf (λ y. IsPlaced limits sources y.file y.place) x in
    (subst P same least, subst Q same placed)

-- what was found, where something was
pub first_is : (limits : Limits) (sources : List Source) (found : Option Fault) (first : Fault)
    → IsFirst limits sources found → found ≡ Some first → IsFirst limits sources (Some first)
first_is limits sources found first is some =
    let P : Option Fault → Type 0 = λ o. IsFirst limits sources o in subst P some is

module _ (limits : Limits) (sources : List Source) (first : Fault) where
  -- the first that is told is the first of all
  pub all_told : (faults : List Fault) → IsLeastFault limits sources (told_by first)
      → AreFaultsFrom limits sources (told_by first) (map told_by faults) → AreTold limits sources faults
  all_told [] least from = absurd (grind (arith, from.begins))
  all_told (f ∷ faults) least from =
      let same : told_by first ≡ told_by f = grind (arith, from.begins) in
      let P : SourceFault → Type 0 = λ x. AreFaultsFrom limits sources x (map told_by (f ∷ faults)) in
      (subst (IsLeastFault limits sources) same least, subst P same from)

  pub all_placed : (faults : List Fault) → AreFaultsFrom limits sources (told_by first) (map told_by faults)
      → ArePlaced sources faults
  all_placed faults from f inside =
      let is = from.are (told_by f) (in_map told_by faults f inside) in
      let at = placed limits sources (told_by f) is.breaks is.judged in
      let bound = limits.file_bytes_bound in
      record { within = at.within; short = omega (arith, at.short, bound) }
