use Rattle.std.proofs.Common.{refl}
use Rattle.std.proofs.lemmas.Result.{IfOk-equal}
use Rattle.wire_bytes.proofs.Parts.{nine_parts}
use Rattle.wire_bytes.proofs.descriptor.file.prepend_file.Goals as goal

pub returns : goal.returns
returns c = IfOk-equal c.prepend_field.result _ _ _ c.prepend_field.ensures
    (rw (
      c.in_ok-prepend_package.ensures,
      c.in_ok-prepend_fields-4.ensures,
      c.in_ok-prepend_fields-3.ensures,
      c.in_ok-prepend_fields-2.ensures,
      c.in_ok-prepend_fields.ensures,
      c.in_ok-prepend_options.ensures,
      c.in_ok-prepend_public.ensures,
      c.in_ok-prepend_syntax.ensures,
      nine_parts,
    ) refl)
