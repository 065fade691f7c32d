use Rattle.std.proofs.Common.{◌≡◌, ◌∙◌, sym, ap, List, ℕ, map, arith}
use Rattle.std.proofs.lemmas.Grind.{common_steps}
use Rattle.proto_desc.specs.DeclaredNames.{file_scope}
use Rattle.wire_format.specs.ProgramFields.{field_of}
use Rattle.wire_format.specs.Reading.{Value}
use Rattle.wire_format.proofs.ReadingRows.{one_list}
use Rattle.proto_sets.specs.Elements.{text_of}
use Rattle.proto_sets.specs.Heads.{package_by}
use Rattle.proto_sets.proofs.file.put_file.Goals as goal

pub returns-in_err-fields-clause-malformed : goal.returns-in_err-fields-clause-malformed
returns-in_err-fields-clause-malformed c e contents says =
    c.in_err-fields.ensures.malformed (grind (arith, common_steps, c.from_residual.ensures, e)) says.fields says.row

pub returns-in_err-head-clause-malformed : goal.returns-in_err-head-clause-malformed
returns-in_err-head-clause-malformed c e contents says =
    let fields = map field_of c.in_ok-fields.fields.items in
    let same : says.fields ≡ fields = one_list _ says.fields fields says.row c.in_ok-fields.ensures.found in
    c.in_err-head.ensures.malformed (grind (arith, common_steps, c.from_residual-in_err-head.ensures, e)) contents.head
    (rw c.deref.ensures.value (rw same at says.of_head))

pub returns-in_err-put_all-clause-malformed : goal.returns-in_err-put_all-clause-malformed
returns-in_err-put_all-clause-malformed c e contents says =
    let fields = map field_of c.in_ok-fields.fields.items in
    let same : says.fields ≡ fields = one_list _ says.fields fields says.row c.in_ok-fields.ensures.found in
    let mine = rw c.deref.ensures.value at c.in_ok-head.ensures.head in
    let scope : file_scope contents.head.«package» ≡ file_scope c.in_ok-head.head.«package» =
    ap file_scope (says.of_head.of_package ∙ ap (λ (fs : List (ℕ × Value)). package_by (text_of 2 fs)) same
    ∙ sym mine.of_package) in
    c.in_err-put_all.ensures.malformed (grind (arith, common_steps, c.from_residual-in_err-put_all.ensures, e)) contents.said
    (rw (c.deref-2.ensures.value, c.in_ok-scope.ensures.named, ← scope) (rw same at says.all))
