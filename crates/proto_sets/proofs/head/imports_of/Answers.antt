use Rattle.std.proofs.Common.{◌≡◌, ◌++◌, ◌∷◌, [], ℕ, ◌+◌, ◌<◌, ◌∙◌, List, arith, drop, get_or, length, map, refl, None}
use Rattle.std.proofs.lemmas.Grind.{common_steps}
use Rattle.std.proofs.lemmas.List.{drop_more, length_push}
use Rattle.proto_desc.specs.declared.file.ImportDescriptor.{ImportDescriptor}
use Rattle.wire_format.specs.Reading.{bytes}
use Rattle.wire_format.specs.ProgramFields.{field_of, value_of}
use Rattle.wire_format.specs.declared.field.FieldValue.{FieldValue}
use Rattle.wire_format.specs.declared.field.FieldValue.TheVariants as rust
use Rattle.std.specs.Borrow.{Bor}
use Rattle.proto_sets.specs.Elements.{text_in}
use Rattle.wire_format.specs.declared.reading.Field.{Field}
use Rattle.proto_sets.specs.Heads.{imports_from, paths_of}
use Rattle.proto_sets.proofs.head.imports_of.Goals as goal
use Rattle.proto_sets.proofs.head.imports_of.Goals.{in-Delimited+then-field-eq3+in_ok-utf8+in_ok-push, in-Delimited+else-field-eq3, in_default}

-- one import more
imports_more : (publics : List ℕ) (done : List ImportDescriptor) (path : List ℕ) (paths : List (List ℕ))
    (more : List ImportDescriptor) (i : ImportDescriptor) → imports_from publics (length done) (path ∷ []) ≡ i ∷ []
    → more ≡ done ++ i ∷ []
    → more ++ imports_from publics (length more) paths ≡ done ++ imports_from publics (length done) (path ∷ paths)
imports_more publics done path paths more i is e =
    let size : length more ≡ length done + 1 = rw e (length_push done i) in
    grind (arith, common_steps, size)

-- the paths of fields of which the first is an import
paths_here : (xs : List Field) (i : ℕ) (d : Field) (path : FieldValue) (text : List ℕ) → i < length xs
    → (get_or xs i d).value ≡ path → value_of path ≡ bytes text → (get_or xs i d).number ≡ 3
    → paths_of (map field_of (drop i xs)) ≡ text ∷ paths_of (map field_of (drop (i + 1) xs))
paths_here xs i d path text below is held three = rw (drop_more xs i d below, is, held, three) refl

-- of fields of which the first is none
paths_skip : (xs : List Field) (i : ℕ) (d : Field) → i < length xs → text_in 3 (field_of (get_or xs i d)) ≡ None
    → paths_of (map field_of (drop i xs)) ≡ paths_of (map field_of (drop (i + 1) xs))
paths_skip xs i d below none = rw (drop_more xs i d below, none) refl

no_text : (f : Field) (n : ℕ) → f.value ≡ rust.Varint n → text_in 3 (field_of f) ≡ None
no_text f n is = rw is refl

other_text : (f : Field) (text : Bor (List ℕ)) → f.value ≡ rust.Delimited text → (f.number ≡ 3 → ⊥)
    → text_in 3 (field_of f) ≡ None
other_text f text is other = rw is (grind (arith, common_steps))

pub loop-field-preserved : goal.loop-field-preserved
loop-field-preserved c = elim c.match-field.branch [
  | in-Delimited+then-field-eq3+in_ok-utf8+in_ok-push w ↦
      let paths = paths_here c.args.fields.now c.loop-field.field-index _ _ w.in-Delimited.bytes.now
      c.loop-field-test.true w.in-Delimited.is refl w.if-field-eq3.true in
      let utf8 = w.in_ok-utf8.ensures.utf8 in
      let held = c.loop-field.imports.items in
      let room : length held < length c.args.flags.now =
      omega (arith, c.loop-field.invariant.few, c.loop-field-test.true, c.requires) in
      record {
        few = rw (w.imports-is, w.in_ok-push.ensures.items, length_push) (omega (arith, c.loop-field.invariant.few));
        imports = λ publics told.
            (let more = imports_more publics held w.in-Delimited.bytes.now
            (paths_of (map field_of (drop (c.loop-field.field-index + 1) c.args.fields.now))) w.push.new.self.items _
            (grind (arith, common_steps, told (length held) room, w.borrowed-path.ensures, utf8.0, w.len.ensures))
            w.in_ok-push.ensures.items in
            rw w.imports-is (more ∙ (rw paths at (c.loop-field.invariant.imports publics told))));
        ahead = λ rest. c.loop-field.invariant.ahead (rw paths (utf8.1, rest));
        back = λ all. (rw paths at (c.loop-field.invariant.back all)).1;
      }
  | in-Delimited+else-field-eq3 w ↦ (
      let skip = paths_skip c.args.fields.now c.loop-field.field-index _ c.loop-field-test.true
      (other_text _ w.in-Delimited.bytes w.in-Delimited.is w.if-field-eq3.false) in
      record {
        few = rw w.imports-is (omega (arith, c.loop-field.invariant.few));
        imports = λ publics told. rw (w.imports-is, ← skip) (c.loop-field.invariant.imports publics told);
        ahead = λ rest. c.loop-field.invariant.ahead (rw skip rest);
        back = λ all. rw skip at (c.loop-field.invariant.back all);
      })
  | in_default w ↦ (
      let skip = paths_skip c.args.fields.now c.loop-field.field-index _ c.loop-field-test.true
      (no_text _ w.in_default.field-0 w.in_default.is) in
      record {
        few = rw w.imports-is (omega (arith, c.loop-field.invariant.few));
        imports = λ publics told. rw (w.imports-is, ← skip) (c.loop-field.invariant.imports publics told);
        ahead = λ rest. c.loop-field.invariant.ahead (rw skip rest);
        back = λ all. rw skip at (c.loop-field.invariant.back all);
      })
]
