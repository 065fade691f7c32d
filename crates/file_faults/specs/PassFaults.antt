-- All faults of sources of which one is the first.
use Rattle.std.specs.Prelude.{◌≡◌, ◌⊎◌, ◌↔◌, List, [], ◌∷◌, AllPairs, Contains}
use Rattle.proto_base.specs.declared.kind.Kind.TheVariants as kind
use Rattle.proto_base.specs.declared.limits.Limits.{Limits}
use Rattle.proto_compile.specs.FaultSet.{IsEarlier, IsFault, SourceFault}
use Rattle.proto_compile.specs.declared.source.Source.{Source}

-- exactly all faults of sources
abbrev pub AreAllFaults : Limits → List Source → List SourceFault → Type 0
AreAllFaults limits sources faults = (x : SourceFault) → Contains faults x ↔ IsFault limits sources x

-- a fault of the list of sources, that there are too many names, or the length of a descriptor: no other is looked for
-- beside it
abbrev pub IsToldAlone : SourceFault → Type 0
IsToldAlone x = (x.pass ≡ 0) ⊎ ((x.pass ≡ 3) × (x.kind ≡ kind.TooManyNames)) ⊎ (x.pass ≡ 5)

-- the first fault, with all others, in their order, each once
pub record AreFaultsFrom (limits : Limits) (sources : List Source) (first : SourceFault) (faults : List SourceFault)
    : Type 0 where
  pub rest : List SourceFault
  pub begins : faults ≡ first ∷ rest
  pub are : (x : SourceFault) → Contains faults x → IsFault limits sources x
  pub alone : IsToldAlone first → rest ≡ []
  pub all : (IsToldAlone first → ⊥) → AreAllFaults limits sources faults
  pub order : AllPairs IsEarlier faults
