use Rattle.std.proofs.Common.{inl, inr, refl}
use Rattle.schema_commands.proofs.whole_file.write_whole.Goals as goal

pub returns-in-Err-written : goal.returns-in-Err-written
returns-in-Err-written g c = elim c.of_error.ensures.either [
  | inl output ↦ inl (inl output, refl)
  | inr memory ↦ inl (inr (inr memory), refl)
]
