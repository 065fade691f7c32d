use Rattle.proto_names.proofs.Ordered.{ends_equal}
use Rattle.proto_names.proofs.name_bytes.is_same_name.Goals as goal

pub returns : goal.returns
returns c = rw (c.is_eq.ensures, c.compare_names.ensures) (ends_equal c.args.first c.args.second)
