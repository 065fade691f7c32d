use Rattle.reflect_core.proofs.Common.{◌≡◌, ℕ, ◌<◌, get_or}
use Rattle.std.proofs.Common.{string_bytes}
use Rattle.proto_compilation.specs.declared.extension.Extension.{Extension}
use Rattle.reflect_core.proofs.answer.extending_file.Given as goal

abbrev pub invariant-loop-extension : goal.invariant-loop-extension
invariant-loop-extension l = (k : ℕ) (d : Extension) → k < l.extension-index
    → (get_or l.extension-items k d).number ≡ l.number
    → string_bytes (get_or l.extension-items k d).message ≡ l.message → ⊥
