use Rattle.proto_compile.proofs.Common.{arith, ◌≡◌, ℕ, ◌+◌, List, [], ◌∷◌, All, rules, true, All-cons, All-nil, FileDesc, Linked, Index, AllZipFrom, AreTypedFrom, IsLeastFault, IsFirstFound, IsResolved, IsTypedWhole, gives_well}
use Rattle.proto_desc.specs.Resolved.{file_resolved}
use Rattle.proto_compile.proofs.LeastFault.{tells_more, first_break}
use Rattle.proto_compile.proofs.pass.types.resolve_all.Goals as goal

-- descriptors with their types, all of them resolved
all_typed : (links : Linked) (index : Index) (a : ℕ) (descs typed : List FileDesc)
    → AllZipFrom (IsTypedWhole links index) a descs typed
    → AreTypedFrom links index a descs typed × All (λ desc. file_resolved desc ≡ true) typed
all_typed links index a [] [] all = (tt, All-nil (λ desc. file_resolved desc ≡ true))
all_typed links index a (f ∷ fs) (g ∷ gs) all =
    grind (arith, All-cons (λ desc. file_resolved desc ≡ true) g gs, all_typed links index (a + 1) fs gs all.1)
all_typed links index a descs typed all = absurd all

pub returns-in_err-types-clause-first : goal.returns-in_err-types-clause-first
returns-in_err-types-clause-first g c limits sources analysed =
    let files = c.args.files.now in
    let outcomes = c.in_ok-outcomes.outcomes.items in
    let given = rw c.as_slice.ensures.value at c.in_ok-outcomes.ensures in
    let refused = tells_more (IsFirstFound 4 files outcomes) (IsLeastFault limits sources)
    (first_break limits sources files c.args.descs.items c.args.links.now c.args.index.now outcomes analysed given)
    c.in_err-types.field-0.0 c.in_err-types.ensures.first in
    search (rules, refused)

pub returns : goal.returns
returns g c =
    let links = c.args.links.now in
    let index = c.args.index.now in
    let descs = c.args.descs.items in
    let given = rw c.as_slice.ensures.value at c.in_ok-outcomes.ensures in
    let types = gives_well (IsResolved links index) descs c.in_ok-types.types.items c.in_ok-outcomes.outcomes.items
    c.in_ok-types.ensures.well given in
    let typed = all_typed links index 0 descs c.in_ok-typed.typed.items (c.in_ok-typed.ensures links index types) in
    record { typed = typed.0; whole = typed.1; first = λ limits sources analysed. tt }
