use Rattle.schema_compile.proofs.Telling.{handed_on, unread_folder}
use Rattle.std.proofs.Common.{inl, inr, refl}
use Rattle.proto_compilation.specs.Compilation.{set_of}
use Rattle.schema_commands.proofs.commands.run_compile.Goals as goal

pub returns-in_err-chunk : goal.returns-in_err-chunk
returns-in_err-chunk g c =
    rw (handed_on c.from_residual.result _ c.from_residual.ensures.1)
    (c.standard-limits.result, c.standard-limits.ensures, inl (inr (inl refl), refl))

pub returns-in_err-texts : goal.returns-in_err-texts
returns-in_err-texts g c =
    rw (handed_on c.from_residual-in_err-texts.result _ c.from_residual-in_err-texts.ensures.1)
    (c.standard-limits.result, c.standard-limits.ensures, inl (unread_folder _ _ c.in_err-texts.field-0.0, refl))

pub returns-in_err-compiled : goal.returns-in_err-compiled
returns-in_err-compiled g c =
    let limits = c.standard-limits in
    let refused = c.in_err-compiled.ensures.refused in
    rw (handed_on c.from_residual-in_err-compiled.result _ c.from_residual-in_err-compiled.ensures.1) (
      limits.result,
      limits.ensures,
      inl (inr (inr (c.deref.result.now, rw c.deref.ensures.value c.in_ok-texts.ensures, refused)), refl),
    )

pub returns : goal.returns
returns g c =
    let compiled = c.in_ok-compiled.compiled in
    let of = c.in_ok-compiled.ensures.compiled in (
      c.standard-limits.result,
      c.standard-limits.ensures,
      inr (
        c.deref.result.now,
        rw c.deref.ensures.value c.in_ok-texts.ensures,
        set_of compiled.files compiled.links,
        (of.0, of.1, (compiled, of.2, refl)),
        rw c.new-set.ensures at c.write_files-written.ensures,
      ),
    )
