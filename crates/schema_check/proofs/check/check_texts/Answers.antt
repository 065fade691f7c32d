use Rattle.std.proofs.Common.{ℕ, List, subst, sym}
use Rattle.proto_compile.specs.declared.source.Source.{Source}
use Rattle.schema_check.specs.Runs.{IsFound}
use Rattle.schema_compile.specs.Sources.{AreSourcesOf}
use Rattle.schema_check.proofs.Running.{unwritten}
use Rattle.schema_check.proofs.check.check_texts.Goals as goal

pub returns-in_err-write_bytes : goal.returns-in_err-write_bytes
returns-in_err-write_bytes g c =
    let writes = g.O.CountedWrite.writes in
    let options = (g.F.SourceFolder.sources c.args.folder.now).custom_options in
    let judged = c.in_ok-found.found.verdict in
    let P : List Source → Type 0 = λ sources. AreSourcesOf c.args.texts.now sources in
    let Q : List ℕ → Type 0 = λ report.
    IsFound options c.args.form c.args.limits.now c.args.places.now c.args.texts.now judged report in
    unwritten options c.args.form c.args.limits.now c.args.places.now c.args.texts.now (writes c.args.output.now)
    (writes c.write_bytes.new.writer)
    judged c.as_bytes.result.now c.in_err-write_bytes.field-0.0 c.from_residual-in_err-write_bytes.result
    c.from_residual-in_err-write_bytes.ensures.1
    (subst Q (sym c.as_bytes.ensures.value)
    (c.deref.result.now, subst P (sym c.deref.ensures.value) c.in_ok-sources.ensures, c.in_ok-found.ensures))
    c.in_err-write_bytes.ensures

pub returns : goal.returns
returns g c =
    let options = (g.F.SourceFolder.sources c.args.folder.now).custom_options in
    let judged = c.in_ok-found.found.verdict in
    let P : List Source → Type 0 = λ sources. AreSourcesOf c.args.texts.now sources in
    let Q : List ℕ → Type 0 = λ report.
    IsFound options c.args.form c.args.limits.now c.args.places.now c.args.texts.now judged report in (
      c.as_bytes.result.now,
      subst Q (sym c.as_bytes.ensures.value)
          (c.deref.result.now, subst P (sym c.deref.ensures.value) c.in_ok-sources.ensures, c.in_ok-found.ensures),
      c.in_ok-write_bytes.ensures,
    )
