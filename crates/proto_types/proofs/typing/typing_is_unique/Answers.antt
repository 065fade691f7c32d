use Rattle.proto_types.proofs.Common.{file_scope, IsSeen}
use Rattle.proto_types.proofs.Unique.{file_same, breaks_alike}
use Rattle.proto_types.proofs.typing.typing_is_unique.Goals as goal

pub returns-clause-one : goal.returns-clause-one
returns-clause-one c os ps seen sees f g h alike a b =
    file_same os ps (IsSeen seen) (IsSeen sees) alike (file_scope f.«package») f g h a b

pub returns-clause-breaks : goal.returns-clause-breaks
returns-clause-breaks c os ps seen sees f x alike broken =
    breaks_alike os ps (IsSeen seen) (IsSeen sees) alike f x broken
