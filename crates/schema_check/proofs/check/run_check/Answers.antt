use Rattle.std.proofs.Common.{List, inl, inr, refl, subst, sym}
use Rattle.source_folder.specs.declared.folder.NamedText.{NamedText}
use Rattle.schema_sources.specs.Texts.{AreTextsOf}
use Rattle.schema_check.proofs.Running.{short, unread}
use Rattle.schema_check.proofs.check.run_check.Goals as goal

pub returns-in_err-texts : goal.returns-in_err-texts
returns-in_err-texts g c = (
  c.standard-limits.result,
  c.standard-limits.ensures,
  inl (unread (g.O.CountedWrite.writes c.args.output.now) c.in_err-texts.field-0.0 c.from_residual.result
      c.from_residual.ensures.1),
)

pub returns-in_err-elsewhere : goal.returns-in_err-elsewhere
returns-in_err-elsewhere g c = (
  c.standard-limits.result,
  c.standard-limits.ensures,
  inl (short (g.O.CountedWrite.writes c.args.output.now) c.from_residual-in_err-elsewhere.result
      c.from_residual-in_err-elsewhere.ensures.1),
)

pub returns : goal.returns
returns g c =
    let P : List NamedText → Type 0 =
    λ texts. AreTextsOf c.standard-limits.result (g.F.SourceFolder.sources c.args.folder.now) texts in (
      c.standard-limits.result,
      c.standard-limits.ensures,
      inr (
        c.deref-3.result.now,
        subst P (sym c.deref-3.ensures.value) c.in_ok-texts.ensures,
        record { root = c.args.root; elsewhere = c.deref-2.result },
        refl,
        c.check_texts.ensures,
      ),
    )
