use Rattle.proto_checks.proofs.Common.{map-id}
use Rattle.proto_checks.proofs.names.put_json_names_twice.Goals as goal

pub returns : goal.returns
returns c = rw (c.deref.ensures.value, c.in_ok-names.ensures, map-id) at c.put_texts_twice.ensures
