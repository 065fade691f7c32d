use Rattle.std.proofs.Common.{◌≡◌, ◌++◌, ◌∷◌, [], List, map, arith, ℕ, ◌-◌, refl, append_assoc, Option, Some, None}
use Rattle.std.proofs.lemmas.Grind.{common_steps}
use Rattle.std.proofs.lemmas.List.{drop_all}
use Rattle.std.specs.List.{filter_map}
use Rattle.proto_names.specs.Occurrences.{Occurrence}
use Rattle.std.proofs.lemmas.List.Elements.{filter_map-append}
use Rattle.proto_names.specs.Entries.{IsScopeAmong, scope_name}
use Rattle.wire_format.specs.ProgramFields.{field_of}
use Rattle.proto_sets.specs.Says.{ExtensionAt, Inside, Said, said_by, said_extension, said_occurrence}
use Rattle.proto_sets.proofs.Walked.{element_here, inside_here, inside_say, none_here, readable_here, say_inside, so_far_all}
use Rattle.proto_sets.proofs.walking.+put_all.Goals as goal
use Rattle.proto_sets.proofs.walking.+put_all.Goals.{in-Some+else-depth-eq0+in_ok-inside+in_ok-put_all, in_default}

pub returns-in_err-element-clause-malformed : goal.returns-in_err-element-clause-malformed
returns-in_err-element-clause-malformed t c e said says =
    c.in_err-element.ensures.malformed (grind (arith, common_steps, c.from_residual.ensures, e))
    (readable_here (Inside c.args.depth) c.args.holder (scope_name c.args.found.now.names c.args.scope) field_of
    (map field_of c.args.fields.now) c.args.fields.now c.loop-field.field-index _ c.loop-field.invariant.0
    c.loop-field-test.true c.loop-field.invariant.1 said says)

pub returns-in_err-put_all-clause-malformed : goal.returns-in_err-put_all-clause-malformed
returns-in_err-put_all-clause-malformed t c e said says =
    let scope = scope_name c.args.found.now.names c.args.scope in
    let read = rw c.in-Some.is at c.in_ok-element.ensures.found in
    let named = c.loop-field.invariant.5 in
    let inner = inside_here (Inside c.args.depth) c.args.holder scope field_of (map field_of c.args.fields.now)
    c.args.fields.now c.loop-field.field-index _ c.loop-field.invariant.0 c.loop-field-test.true
    c.loop-field.invariant.1 said says c.in-Some.element.element _ read.0 in
    let say = inside_say c.args.depth (c.args.depth - 1) _ _ _ _ (omega (arith, c.if-depth-eq0.false)) inner.1 in
    c.in_err-put_all.ensures.malformed
    (grind (arith, common_steps, c.from_residual-in_err-put_all.ensures, e)) inner.0
    (rw (c.deref.ensures.value, c.in_ok-inside.ensures.inside, named, read.1) say)

-- what was put so far, an element, and what stands in it
put_names : (old now pushed new : List Occurrence) (file : ℕ) (said : List Said) (first : Said) (inner : List Said)
    → now ≡ old ++ map (said_occurrence file) said → pushed ≡ now ++ said_occurrence file first ∷ []
    → new ≡ pushed ++ map (said_occurrence file) inner → new ≡ old ++ map (said_occurrence file) (said ++ first ∷ inner)
put_names old now pushed new file said first inner a b d = grind (arith, common_steps)

put_extensions : (old now pushed new : List ExtensionAt) (file : ℕ) (said : List Said) (first : Said) (inner : List Said)
    → now ≡ old ++ filter_map (said_extension file) said
    → pushed ≡ now ++ filter_map (said_extension file) (first ∷ [])
    → new ≡ pushed ++ filter_map (said_extension file) inner
    → new ≡ old ++ filter_map (said_extension file) (said ++ first ∷ inner)
put_extensions old now pushed new file said first inner a b d =
    let f = said_extension file in
    rw (
      d,
      b,
      a,
      filter_map-append f said (first ∷ inner),
      append_assoc,
      append_assoc,
      ← filter_map-append f (first ∷ []) inner,
    ) refl

still_among : (os pushed new : List Occurrence) (scope : Option ℕ) (x : Occurrence) (more : List Occurrence)
    → pushed ≡ os ++ x ∷ [] → new ≡ pushed ++ more → IsScopeAmong os scope
    → IsScopeAmong new scope × (scope_name new scope ≡ scope_name os scope)
still_among os pushed new None x more a b among = (tt, refl)
still_among os pushed new (Some k) x more a b among = grind (arith, common_steps)

pub loop-field-preserved : goal.loop-field-preserved
loop-field-preserved t c =
    let scope = scope_name c.args.found.now.names c.args.scope in
    let (said, so, names, extensions, among, named) = c.loop-field.invariant in
    elim c.match-branch-2.branch [
      | in-Some+else-depth-eq0+in_ok-inside+in_ok-put_all w ↦
          let read = rw w.in-Some.is at c.in_ok-element.ensures.found in
          let (inner, say, more_names, more_extensions) = w.in_ok-put_all.ensures.said in
          let at = rw (w.deref.ensures.value, w.in_ok-inside.ensures.inside, named, read.1) at say in
          let inside = say_inside c.args.depth (c.args.depth - 1) _ _ _ _ (omega (arith, w.if-depth-eq0.false)) at in
          let first = said_by w.in-Some.element.element scope (map field_of w.in-Some.element.fields.items) in
          let pushed = rw named at w.in_ok-inside.ensures.names in
          let extended = w.in_ok-inside.ensures.extensions in
          let still = still_among c.loop-field.found.names _ _ c.args.scope _ _ pushed more_names among in (
            said ++ first ∷ inner,
            element_here (Inside c.args.depth) c.args.holder scope field_of (map field_of c.args.fields.now)
                c.args.fields.now c.loop-field.field-index _ said c.loop-field-test.true so w.in-Some.element.element _
                inner read.0 inside,
            rw w.found-is (put_names _ _ _ _ c.args.file said first inner names pushed more_names),
            rw w.found-is (put_extensions _ _ _ _ c.args.file said first inner extensions extended more_extensions),
            rw w.found-is still.0,
            rw (w.found-is, still.1) named,
          )
      | in_default w ↦
          let none = rw w.in_default.is at c.in_ok-element.ensures.found in (
            said,
            none_here (Inside c.args.depth) c.args.holder scope field_of (map field_of c.args.fields.now)
                c.args.fields.now c.loop-field.field-index _ said c.loop-field-test.true so none,
            rw w.found-is names,
            rw w.found-is extensions,
            rw w.found-is among,
            rw w.found-is named,
          )
    ]

pub returns-clause-said : goal.returns-clause-said
returns-clause-said t c =
    let (said, so, names, extensions, among, named) = c.loop-field.invariant in
    let end = drop_all c.loop-field.field-index c.args.fields.now (c.loop-field-test.false) in (
      said,
      so_far_all _ (map field_of c.args.fields.now) said (rw end at so),
      names,
      extensions,
    )
