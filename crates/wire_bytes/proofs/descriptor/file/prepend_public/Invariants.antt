use Rattle.std.proofs.Common.{◌≡◌, ◌++◌, drop}
use Rattle.wire_bytes.specs.Descriptor.{public_fields}
use Rattle.wire_bytes.proofs.descriptor.file.prepend_public.Given as goal

abbrev pub invariant-loop-position : goal.invariant-loop-position
invariant-loop-position l = l.out ≡ public_fields l.position (drop l.position l.imports) ++ l.initial.out
