use Rattle.reflect_core.proofs.Common.{◌≡◌, Some, sym, ap, ◌∙◌, same_Some, message, no_message}
use Rattle.std.proofs.lemmas.Bool.{false≢true}
use Rattle.proto_desc.specs.declared.name_kind.NameKind.TheVariants.{Message}
use Rattle.reflect_core.proofs.Declaring.{declares_of}
use Rattle.reflect_core.proofs.answer.extensions_of.Goals as goal
use Rattle.reflect_core.proofs.answer.extensions_of.Goals.{in_default-via-in-Some+else-is_message, in_default-via-in_default}

pub returns-in-Some-clause-answer : goal.returns-in-Some-clause-answer
returns-in-Some-clause-answer c =
    let w = c.find.ensures.found c.in-Some.defined c.in-Some.is in
    message _ w.0 (declares_of c.args.compiled.now _ _ w.0 _ c.names-2.ensures w.1 w.2 w.3)
    (w.3 ∙ ap Some (c.is_message.ensures.0 c.if-is_message.true))

pub returns-in_default-clause-answer : goal.returns-in_default-clause-answer
returns-in_default-clause-answer c = elim c.in_default.branch [
  | in_default-via-in-Some+else-is_message w ↦ no_message _ (λ o d k.
      let f = c.find.ensures.found w.in-Some.defined w.in-Some.is in
      let found = declares_of c.args.compiled.now _ c.args.name.now f.0 _ c.names-2.ensures f.1 f.2 f.3 in
      let same = c.names_are_declared_once.ensures.one o f.0 (rw c.names.ensures d.declared)
      (rw c.names.ensures found.declared) (d.named ∙ sym f.2) d.element in
      let kind : Some w.in-Some.defined.kind ≡ Some Message = cc (f.3, same, k) in
      false≢true (sym w.if-is_message.false ∙ w.is_message.ensures.1 (same_Some _ _ kind)))
  | in_default-via-in_default w ↦ no_message _
      (λ o d k. d.element (c.find.ensures.none w.in_default.is o (rw c.names-2.ensures d.declared) d.named))
]
