-- The faults of one reference, by what its name means.
use Rattle.proto_types.proofs.Common.{arith, ◌≡◌, ◌∙◌, ◌↔◌, ◌⊎◌, ℕ, List, inl, inr, sym, ap, gains_same, Occurrence, IsType, Resolves, Reference, ReferenceBreaks, Adds, IsMeaning, IsNaming, OptionsBreak, type_kind_of, Meaning, named_by, scoped, behind_dot, refl, [], ◌∷◌, ◌++◌}
use Rattle.proto_desc.specs.declared.name_kind.NameKind.{NameKind}
use Rattle.proto_desc.specs.declared.name_kind.NameKind.TheVariants as name_kind
use Rattle.proto_base.specs.Sets.{Gains}
use Rattle.proto_base.specs.declared.spot.Spot.{Spot}
use Rattle.proto_desc.specs.declared.type_name.TypeKind.{TypeKind}
use Rattle.proto_desc.specs.declared.type_name.TypeKind.TheVariants as type_kind
use Rattle.proto_names.specs.declared.resolve.Want.TheVariants as want
use Rattle.proto_names.proofs.Unique.{resolves_one}
use Rattle.proto_types.specs.References.{TypeNotFound, TypeNotMessage}
use Rattle.proto_types.specs.declared.found.Found.{Found}
use Rattle.proto_types.specs.declared.meaning.Meaning.TheVariants.{Named, Wrong}

-- a name in a scope behind a leading dot is the full name behind one
pub scoped_behind_dot : (scope name : List ℕ) → behind_dot scope ++ 46 ∷ name ≡ 46 ∷ scoped scope name
scoped_behind_dot [] name = refl
scoped_behind_dot (c ∷ cs) name = refl

module _ (os : List Occurrence) (Seen : ℕ → Type 0) where
  -- a name of a message names no enum
  pub apart : (scope spelled a b : List ℕ) → Resolves os Seen scope spelled a name_kind.Message
      → Resolves os Seen scope spelled b name_kind.Enum → ⊥
  apart scope spelled a b h k =
      let same = (resolves_one os Seen scope spelled a b name_kind.Message name_kind.Enum h k).1 in cc

  -- what a name of a type is declared for
  pub kind_named : (full : List ℕ) (k : NameKind) → IsType os Seen full k → named_by (type_kind_of k) ≡ k
  kind_named full k type = grind arith

  -- ---- of one reference

  -- where no type is found, or not one that is wanted, nothing else is wrong
  pub wrong_breaks : (r : Reference) (x y : Spot) → TypeNotFound os Seen r x ⊎ TypeNotMessage os Seen r x
      → (y ≡ x) ↔ ReferenceBreaks os Seen r y
  wrong_breaks r x y (inl (none, at)) = (
    λ is. inl (none, is ∙ at),
    λ w. elim w [
      | inl missing ↦ missing.1 ∙ sym at
      | inr (inl enum) ↦ absurd (none enum.1.0 name_kind.Enum enum.1.1)
      | inr (inr packed) ↦ absurd (none packed.0.0 name_kind.Message packed.0.1)
    ],
  )
  wrong_breaks r x y (inr (only, (full, found), at)) = (
    λ is. inr (inl (only, (full, found), is ∙ at)),
    λ w. elim w [
      | inl missing ↦ absurd (missing.0 full name_kind.Enum found)
      | inr (inl enum) ↦ enum.2 ∙ sym at
      | inr (inr packed) ↦ absurd (apart r.scope r.text packed.0.0 full packed.0.1 found)
    ],
  )

  -- else what is wrong with its options
  options_break : (r : Reference) (full : List ℕ) (what : TypeKind) (x : Spot)
      → Resolves os Seen r.scope r.text full (named_by what)
      → (r.wanted ≡ want.MessageOnly → what ≡ type_kind.Message)
      → OptionsBreak what r.options x ↔ ReferenceBreaks os Seen r x
  options_break r full type_kind.Message x found only = (
    λ w. inr (inr ((full, found), w.1, (w.0, w.2.0, w.2.1), w.3.0, w.3.1)),
    λ w. elim w [
      | inl missing ↦ absurd (missing.0 full name_kind.Message found)
      | inr (inl enum) ↦ absurd (apart r.scope r.text full enum.1.0 found enum.1.1)
      | inr (inr packed) ↦ (packed.2.0, packed.1, (packed.2.1, packed.2.2), (packed.3, packed.4))
    ],
  )
  options_break r full type_kind.Enum x found only = (
    λ w. absurd w,
    λ w. elim w [
      | inl missing ↦ absurd (missing.0 full name_kind.Enum found)
      | inr (inl enum) ↦ cc (only enum.0)
      | inr (inr packed) ↦ absurd (apart r.scope r.text packed.0.0 full packed.0.1 found)
    ],
  )

  -- what is added of a reference is what is wrong with it
  pub meaning_gains : (r : Reference) (m : Meaning) (old new : Found) → IsMeaning os Seen r m → Adds m r.options old new
      → Gains (ReferenceBreaks os Seen r) old.faults.items new.faults.items
  meaning_gains r (Named t) old new ((full, found, same), only) adds =
      gains_same adds.1 (λ x. options_break r full t.kind x found only)
  meaning_gains r (Wrong x) old new wrong adds = gains_same adds (λ y. wrong_breaks r x y wrong)

  -- ---- what one name means

  -- what is found of a full name is what a reference to it means
  pub naming_means : (r : Reference) (full : List ℕ) (k : NameKind) (m : Meaning)
      → Resolves os Seen r.scope r.text full k → (r.wanted ≡ want.MessageOnly → k ≡ name_kind.Message)
      → IsNaming full (type_kind_of k) m
      → IsMeaning os Seen r m
  naming_means r full k (Named t) found only naming = (
    (full, rw naming.1 (rw (kind_named full k found.type) found), naming.0),
    λ e. naming.1 ∙ ap type_kind_of (only e),
  )
  naming_means r full k (Wrong x) found only naming = absurd naming
