use Rattle.std.proofs.Common.{rules}
use Rattle.proto_desc.proofs.declared_name.OneofDescDeclares.declared_name.Goals as goal

pub returns : goal.returns
returns c = search rules
