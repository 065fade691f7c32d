use Rattle.proto_tokens.proofs.Searches.{close_found}
use Rattle.proto_tokens.proofs.piece.close_position.Goals as goal

pub returns : goal.returns
returns c = close_found c.args.bytes.now c.find.result c.find.ensures
