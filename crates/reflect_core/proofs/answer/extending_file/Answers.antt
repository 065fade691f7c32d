use Rattle.reflect_core.proofs.Common.{◌≡◌, ◌∙◌, ap, arith, common_steps, get_or, same_Some, extended, not_extended}
use Rattle.std.proofs.Common.{bytes_eq, true, string_bytes}
use Rattle.std.proofs.lemmas.List.{get_or_default}
use Rattle.std.proofs.lemmas.Slice.Eq.{bytes_eq-Decides}
use Rattle.proto_compilation.specs.Parts.{declared_extension}
use Rattle.reflect_core.proofs.Extending.{contains_declared, held_by}
use Rattle.reflect_core.proofs.answer.extending_file.Goals as goal

pub returns-then-eq-clause-answer : goal.returns-then-eq-clause-answer
returns-then-eq-clause-answer c =
    let items = c.extensions-extension-items.result.now in
    let item = c.extension-item.result in
    let here : get_or items c.loop-extension.extension-index item ≡ item =
    grind (arith, common_steps, get_or_default) in
    let held = contains_declared items c.loop-extension.extension-index item c.loop-extension-test.true here in
    let same : bytes_eq (string_bytes item.message) c.args.message.now ≡ true = cc in
    extended _ _ (declared_extension item) (record {
      declared = rw c.extensions-extension-items.ensures at held;
      message = (bytes_eq-Decides (string_bytes item.message) c.args.message.now).0 same;
      numbered = c.if-extension-number.true;
    })

pub returns-then-eq-clause-within : goal.returns-then-eq-clause-within
returns-then-eq-clause-within c = λ a is.
    let items = c.extensions-extension-items.result.now in
    let item = c.extension-item.result in
    let here : get_or items c.loop-extension.extension-index item ≡ item =
    grind (arith, common_steps, get_or_default) in
    let held = contains_declared items c.loop-extension.extension-index item c.loop-extension-test.true here in
    let within = c.is_sound.ensures.coherent.extensions_within (declared_extension item)
    (rw c.extensions-extension-items.ensures at held) in
    omega (arith, within.inside, same_Some _ a is, c.is_sound.ensures.coherent.linked)

pub returns-clause-answer : goal.returns-clause-answer
returns-clause-answer c = not_extended _ _ (λ e is.
    let items = c.extensions-extension-items.result.now in
    let held = held_by items e (rw (← c.extensions-extension-items.ensures) at is.declared) in
    c.loop-extension.invariant held.0 held.1 (omega (arith, held.2, c.loop-extension-test.false))
    (ap (λ x. x.number) held.3 ∙ is.numbered) (ap (λ x. x.message) held.3 ∙ is.message))
