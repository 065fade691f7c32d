use Rattle.std.proofs.Common.{◌≡◌, arith, List, refl, ℕ}
use Rattle.std.proofs.lemmas.Grind.{common_steps}
use Rattle.proto_names.specs.Entries.{scope_name}
use Rattle.proto_desc.specs.DeclaredNames.{scoped}
use Rattle.proto_sets.specs.Elements.{scope_inside}
use Rattle.proto_sets.specs.declared.element.Element.{Element}
use Rattle.proto_sets.specs.declared.element.Element.TheVariants.{Message, Enumeration, Service, Method, Field, Extension, Oneof, Value as EnumValue}
use Rattle.proto_sets.proofs.walking.Found.push.Goals as goal
use Rattle.proto_sets.proofs.walking.Found.push.Goals.{in-Some+in_ok-push, in_default}

pub returns-in-Enumeration-clause-extensions : goal.returns-in-Enumeration-clause-extensions
returns-in-Enumeration-clause-extensions c =
    let scope = scope_name c.args.self.now.names c.args.scope in
    let by = c.extension_by.ensures scope in
    elim c.match-extension_by.branch [
      | in-Some+in_ok-push w ↦
          let it = rw w.in-Some.is at by in
          rw (w.self-is, ← it) (grind (arith, common_steps))
      | in_default w ↦ grind (arith, common_steps, by)
    ]

other_inside : (e : Element) (scope name : List ℕ) → (e ≡ Enumeration → ⊥) → scope_inside e scope name ≡ scoped scope name
other_inside Enumeration scope name other = absurd (other refl)
other_inside Message scope name other = refl
other_inside Service scope name other = refl
other_inside Method scope name other = refl
other_inside Field scope name other = refl
other_inside Extension scope name other = refl
other_inside Oneof scope name other = refl
other_inside EnumValue scope name other = refl

pub returns-in_default-element-clause-extensions : goal.returns-in_default-element-clause-extensions
returns-in_default-element-clause-extensions c =
    let scope = scope_name c.args.self.now.names c.args.scope in
    let by = c.extension_by.ensures scope in
    elim c.match-extension_by.branch [
      | in-Some+in_ok-push w ↦
          let it = rw w.in-Some.is at by in
          rw (w.self-is, ← it) (grind (arith, common_steps))
      | in_default w ↦ grind (arith, common_steps, by)
    ]

pub returns-in_default-element-clause-inside : goal.returns-in_default-element-clause-inside
returns-in_default-element-clause-inside c =
    let other = other_inside c.args.element.now.element (scope_name c.args.self.now.names c.args.scope)
    c.args.element.now.name.now c.in_default-element.not-Enumeration in
    rw other (elim c.match-extension_by.branch [
      | in-Some+in_ok-push w ↦ grind (arith, common_steps)
      | in_default w ↦ grind (arith, common_steps)
    ])
