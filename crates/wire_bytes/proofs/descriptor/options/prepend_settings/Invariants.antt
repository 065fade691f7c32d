use Rattle.std.proofs.Common.{◌≡◌, ◌++◌}
use Rattle.std.specs.Prelude.{flat_map}
use Rattle.std.specs.Slice.Iter.{iter_rest}
use Rattle.wire_bytes.specs.Descriptor.{option_bytes}
use Rattle.wire_bytes.proofs.descriptor.options.prepend_settings.Given as goal

abbrev pub invariant-loop-option : goal.invariant-loop-option
invariant-loop-option l = flat_map option_bytes (iter_rest l.option-iterator.iter)
    ++ l.out ≡ flat_map option_bytes l.options ++ l.initial.out
