-- What an index finds, as what a compilation declares.
use Rattle.reflect_core.proofs.Common.{◌≡◌, ◌∙◌, ℕ, List, Some, sym, Contains, none-some, Compilation, Declares}
use Rattle.proto_desc.specs.declared.name_kind.NameKind.{NameKind}
use Rattle.proto_names.specs.Index.{Index}
use Rattle.proto_names.specs.Occurrences.{Occurrence}

pub declares_of : (c : Compilation) (index : Index) (name : List ℕ) (o : Occurrence) (kind : NameKind) → index ≡ c.index
    → Contains index.occurrences o → o.name ≡ name → o.kind ≡ Some kind → Declares c name o
declares_of c index name o kind is has same known =
    record { declared = rw (← is) has; named = same; element = λ none. none-some kind (sym none ∙ known) }
