use Rattle.std.proofs.Common.{inr}
use Rattle.schema_compile.proofs.compile.compile_texts.Goals as goal

pub returns-clause-refused : goal.returns-clause-refused
returns-clause-refused g c = inr (
  c.as_slice-listed.result.now,
  rw c.as_slice-listed.ensures.value c.in_ok-sources.ensures,
  c.told.ensures c.args.limits.now c.in-Err.ensures.first,
)
