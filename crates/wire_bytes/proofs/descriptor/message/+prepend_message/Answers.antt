use Rattle.std.proofs.Common.{arith, refl}
use Rattle.std.proofs.lemmas.Grind.{common_steps}
use Rattle.std.proofs.lemmas.Result.{IfOk-equal}
use Rattle.wire_bytes.specs.Descriptor.{message_desc_bytes}
use Rattle.wire_format.specs.Field.{bytes_field}
use Rattle.wire_bytes.proofs.Messages.{message_desc_bytes_out, all_written}
use Rattle.wire_bytes.proofs.Parts.{eight_parts}
use Rattle.wire_bytes.proofs.descriptor.message.+prepend_message.Goals as goal

pub returns : goal.returns
returns t c = let nested = all_written (λ m. bytes_field 3 (message_desc_bytes m)) _ c.loop-nested.out _
    c.in-None.ensures.steps.0 c.loop-nested.invariant in
    IfOk-equal c.prepend_field.result _ _ _ c.prepend_field.ensures
    (rw (
      c.in_ok-prepend_fields-5.ensures,
      nested,
      c.in_ok-prepend_fields-4.ensures,
      c.in_ok-prepend_message_options.ensures,
      c.in_ok-prepend_fields-3.ensures,
      c.in_ok-prepend_fields-2.ensures,
      c.in_ok-prepend_fields.ensures,
      message_desc_bytes_out c.args.message.now,
      eight_parts,
    ) refl)

pub loop-nested-preserved : goal.loop-nested-preserved
loop-nested-preserved t c = grind (arith, common_steps)
