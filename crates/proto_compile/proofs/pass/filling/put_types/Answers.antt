use Rattle.proto_compile.proofs.Common.{Global, Vec, ◌≡◌, ◌∙◌, ℕ, suc, ◌+◌, ◌<◌, ◌++◌, List, [], ◌∷◌, ap, drop, get_or, length, map, sym, take, arith, append-nil, take_all, drop_all, IfOk-weaker, FileDesc, AllZipFrom, AreTypesOf, IsTypedWhole, Untyped, gives_each}
use Rattle.proto_types.specs.declared.meaning.NamedType.{NamedType}
use Rattle.proto_compile.proofs.pass.filling.put_types.Goals as goal

abbrev desc_in : Untyped → FileDesc
desc_in f = f.desc

abbrev types_in : Untyped → Vec NamedType Global
types_in f = f.types

-- descriptors at their positions, filled with the types that are given for them
filled : (P : ℕ → FileDesc → Vec NamedType Global → Type 0) (Q : ℕ → FileDesc → FileDesc → Type 0) (a : ℕ)
    (old new : List Untyped) → length new ≡ length old
    → ((i : ℕ) (d : Untyped) → i < length old → (b : ℕ) → P b (get_or old i d).desc (get_or old i d).types
    → Q b (get_or old i d).desc (get_or new i d).desc) → AllZipFrom P a (map desc_in old) (map types_in old)
    → AllZipFrom Q a (map desc_in old) (map desc_in new)
filled P Q a [] [] size each all = tt
filled P Q a [] (n ∷ new) size each all = absurd (omega (arith, size))
filled P Q a (o ∷ old) [] size each all = absurd (omega (arith, size))
filled P Q a (o ∷ old) (n ∷ new) size each all = (
  each 0 o (omega arith) a all.0,
  filled P Q (a + 1) old new (omega (arith, size)) (λ i d h. each (suc i) d (omega (arith, h))) all.1,
)

-- what a slice of all items of a vector leaves there
written : {X : Type 0} (n : ℕ) (old new : List X) → length new ≡ n → length old ≡ length new
    → take n (new ++ drop (length new) old) ≡ new
written n old new size same = grind (arith, append-nil, drop_all, take_all)

pub returns : goal.returns
returns g c = IfOk-weaker c.descriptors.result _ _ (λ typed are links index gives.
    let old = c.in_ok-files.files.items in
    let new = c.fill_all.new.files in
    let files = c.in_ok-files.ensures gives.0 in
    let is = c.as_mut_slice.ensures.value in
    let size = c.fill_all.ensures.size ∙ ap length is in
    let all = written c.in_ok-files.files.len old new (c.fill_all.ensures.size ∙ c.as_mut_slice.ensures.len)
    (sym size) in
    let each = c.fill_all.ensures.each in
    let P = AreTypesOf links index in
    let given = gives_each P (AllZipFrom P) (λ a. tt) (λ a x y xs ys here rest. (here, rest)) 0 c.args.descs.items
    c.args.types.items gives in
    let typed_are : typed.items ≡ map desc_in new = are ∙ ap (map desc_in) all in
    rw (← files.0, typed_are) (filled P (IsTypedWhole links index) 0 old new size
    (λ i d h a w. rw is at (each i d (rw (sym is) at h) links index a (rw (sym is) at w)))
    (rw (files.0, files.1) given))) c.descriptors.ensures
