use Rattle.std.proofs.Common.{◌∙◌, sym, string_bytes}
use Rattle.schema_check.proofs.Showing.{shown_lines, shown_names, shown_so, still_placed}
use Rattle.schema_check.proofs.check.shown_report.Goals as goal

pub report_of-requires-in-Skip-clause-placed : goal.report_of-requires-in-Skip-clause-placed
report_of-requires-in-Skip-clause-placed g c =
    let texts = c.in_ok-texts-in-Skip.texts.items in
    let shown = c.in_ok-shown-in-Skip.shown.items in
    let are = rw c.deref.ensures.value at c.in_ok-shown-in-Skip.ensures in
    let for = c.in_ok-texts-in-Skip.ensures in
    rw c.deref-in-Skip.ensures.value
    (still_placed c.args.sources.now shown c.args.faults.now (shown_names c.args.sources.now shown texts are for)
    (shown_lines c.args.sources.now shown texts are for) c.requires.placed)

pub returns-in_ok-shown-in-Skip : goal.returns-in_ok-shown-in-Skip
returns-in_ok-shown-in-Skip g c =
    let texts = c.in_ok-texts-in-Skip.texts.items in
    let shown = c.in_ok-shown-in-Skip.shown.items in
    let are = rw c.deref.ensures.value at c.in_ok-shown-in-Skip.ensures in
    let for = c.in_ok-texts-in-Skip.ensures in
    shown_so string_bytes _ c.args.form c.args.limits.now c.args.places.now c.args.sources.now shown c.args.faults.now
    c.report_of-in-Skip.result (sym c.custom_options.ensures ∙ c.in-Skip.is)
    (shown_names c.args.sources.now shown texts are for) (shown_lines c.args.sources.now shown texts are for)
    (rw c.deref-in-Skip.ensures.value at c.report_of-in-Skip.ensures)
