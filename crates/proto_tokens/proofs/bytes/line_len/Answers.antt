use Rattle.std.proofs.Common.{◌∙◌}
use Rattle.proto_tokens.proofs.Searches.{line_ends}
use Rattle.proto_tokens.proofs.bytes.line_len.Goals as goal

pub returns-clause-run : goal.returns-clause-run
returns-clause-run c = c.unwrap_or.ensures ∙ line_ends c.args.bytes.now c.memchr.result c.memchr.ensures
