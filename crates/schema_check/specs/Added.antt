-- Words of private contracts: what is put behind a report.
use Rattle.std.specs.Prelude.{◌≡◌, ℕ, List, ◌++◌}
use Rattle.std.specs.List.{AllZip, concat}
use Rattle.fault_report.specs.declared.form.Form.{Form}
use Rattle.proto_base.specs.declared.fault.Fault.{Fault}
use Rattle.proto_base.specs.declared.limits.Limits.{Limits}
use Rattle.proto_compile.specs.declared.source.Source.{Source}
use Rattle.schema_check.specs.Reports.{IsBlock, IsMore}
use Rattle.schema_sources.specs.declared.places.Places.{Places}

-- what is said of a fault was put behind the old text
abbrev pub AddsBlock : Form → Limits → Places → List Source → Fault → List ℕ → List ℕ → Type 0
AddsBlock form limits places sources f old new =
    (said : List ℕ) × IsBlock form limits places sources f said × (new ≡ old ++ said)

-- and of each of some faults, in their order
abbrev pub AddsBlocks : Form → Limits → Places → List Source → List Fault → List ℕ → List ℕ → Type 0
AddsBlocks form limits places sources faults old new = (blocks : List (List ℕ))
    × AllZip (IsBlock form limits places sources) faults blocks × (new ≡ old ++ concat blocks)

-- what may follow what is said
abbrev pub AddsMore : Form → List ℕ → List ℕ → Type 0
AddsMore form old new = (more : List ℕ) × IsMore form more × (new ≡ old ++ more)
