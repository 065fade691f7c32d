use Rattle.proto_names.specs.SeenAlike.{IsSeen}
use Rattle.proto_names.proofs.Unique.{resolves_alike, resolves_same}
use Rattle.proto_names.proofs.resolve.resolution_is_unique.Goals as goal

pub returns-clause-one : goal.returns-clause-one
returns-clause-one c os ps seen sees scope spelled full other what kind alike r s =
    resolves_same os ps (IsSeen seen) (IsSeen sees) alike scope spelled full other what kind r s

pub returns-clause-same : goal.returns-clause-same
returns-clause-same c os ps seen sees scope spelled full what alike r =
    resolves_alike os ps (IsSeen seen) (IsSeen sees) alike scope spelled full what r
