-- The same occurrences, as far as they are seen, give one file with its types resolved.
use Rattle.proto_types.proofs.Common.{arith, ◌≡◌, ℕ, List, ◌∷◌, refl, inl, inr, AllZip, out-MessageDesc, roll-out-MessageDesc, Occurrence, AreSeenAlike, Reference, ReferenceBreaks, TypesBreak, field_scope, named_by, IsTyped, IsTypedField, IsTypedBody, IsTypedMessage, AreTypedMessages, IsTypedMethod, IsTypedService, IsTypedIn}
use Rattle.proto_base.specs.declared.spot.Spot.{Spot}
use Rattle.proto_desc.specs.declared.field.FieldDesc.{FieldDesc}
use Rattle.proto_desc.specs.declared.file.FileDesc.{FileDesc}
use Rattle.proto_desc.specs.declared.message.MessageDesc.{MessageDesc}
use Rattle.proto_desc.specs.declared.message.MessageDesc.TheOpen.{MessageDesc-F}
use Rattle.proto_desc.specs.declared.name_kind.NameKind.TheVariants as name_kind
use Rattle.proto_desc.specs.declared.service.MethodDesc.{MethodDesc}
use Rattle.proto_desc.specs.declared.service.ServiceDesc.{ServiceDesc}
use Rattle.proto_desc.specs.declared.type_name.TypeKind.{TypeKind}
use Rattle.proto_desc.specs.declared.type_name.TypeReference.{TypeReference}
use Rattle.proto_desc.specs.declared.type_name.TypeReference.TheVariants.{Spelled, Resolved}
use Rattle.proto_names.proofs.Unique.{resolves_alike, resolves_same, nowhere_alike}
use Rattle.proto_types.specs.Typed.IsTypedMessage.{message}
use Rattle.proto_types.specs.Typed.AreTypedMessages.{none, more}

-- ---- one thing is made

named_same : (a b : TypeKind) → named_by a ≡ named_by b → a ≡ b
named_same a b e = grind arith

-- lists of what one list is made into
pub zip_same : {X Y : Type 0} (R S : X → Y → Type 0) → ((x : X) (y z : Y) → R x y → S x z → y ≡ z) → (xs : List X)
    (ys zs : List Y) → AllZip R xs ys → AllZip S xs zs → ys ≡ zs
zip_same R S one (x ∷ xs) (y ∷ ys) (z ∷ zs) h k = cc (one x y z h.0 k.0, zip_same R S one xs ys zs h.1 k.1)
zip_same R S one xs ys zs h k = grind arith

-- messages that are the same outside are the same
out_same : (m n : MessageDesc) → out-MessageDesc m ≡ out-MessageDesc n → m ≡ n
out_same m n e = cc (roll-out-MessageDesc m, roll-out-MessageDesc n)

module _ (os ps : List Occurrence) (Seen Sees : ℕ → Type 0) (alike : AreSeenAlike os Seen ps Sees) where
  reference_same : (scope : List ℕ) (r g h : TypeReference)
      → IsTyped os Seen scope r g → IsTyped ps Sees scope r h → g ≡ h
  reference_same scope (Spelled place text) g h (full, what, found, made) (other, kind, found_too, made_too) =
      let one = resolves_same os ps Seen Sees alike scope text full other _ _ found found_too in
      cc (one.0, named_same what kind one.1)
  reference_same scope (Resolved what full_name) g h made made_too = cc

  field_same : (scope : List ℕ) (f g h : FieldDesc)
      → IsTypedField os Seen scope f g → IsTypedField ps Sees scope f h → g ≡ h
  field_same scope f g h made made_too = grind (arith, reference_same)

  -- what is made of a message, where what is made of those within it is the same
  body_same : (scope : List ℕ) (m g h : MessageDesc-F MessageDesc)
      → IsTypedBody os Seen scope m g → IsTypedBody ps Sees scope m h → g.nested ≡ h.nested → g ≡ h
  body_same scope m g h a b nested =
      let fields = zip_same _ _ (field_same (field_scope scope m)) _ _ _ a.fields_typed b.fields_typed in grind arith

  mutual
    message_same : (scope : List ℕ) (m g h : MessageDesc)
        → IsTypedMessage os Seen scope m g → IsTypedMessage ps Sees scope m h → g ≡ h
    message_same scope m g h (message s n o body nested) (message s2 n2 o2 body_too nested_too) =
        out_same g h (body_same scope _ _ _ body body_too (messages_same _ _ _ _ nested nested_too))

    messages_same : (scope : List ℕ) (ms gs hs : List MessageDesc)
        → AreTypedMessages os Seen scope ms gs → AreTypedMessages ps Sees scope ms hs → gs ≡ hs
    messages_same scope ms gs hs (none s) (none t) = refl
    messages_same scope ms gs hs (more s m g rest made one others) (more t n h remaining made_too one_too others_too) =
        cc (message_same scope m g h one one_too, messages_same scope rest made made_too others others_too)

  method_same : (scope : List ℕ) (m g h : MethodDesc)
      → IsTypedMethod os Seen scope m g → IsTypedMethod ps Sees scope m h → g ≡ h
  method_same scope m g h a b = grind (arith, reference_same)

  service_same : (scope : List ℕ) (s g h : ServiceDesc)
      → IsTypedService os Seen scope s g → IsTypedService ps Sees scope s h → g ≡ h
  service_same scope s g h a b = grind (arith, zip_same, method_same)

  pub file_same : (scope : List ℕ) (f g h : FileDesc)
      → IsTypedIn os Seen scope f g → IsTypedIn ps Sees scope f h → g ≡ h
  file_same scope f g h a b = grind (arith, messages_same, zip_same, service_same)

  -- ---- the same rules are broken

  reference_alike : (r : Reference) (x : Spot) → ReferenceBreaks os Seen r x → ReferenceBreaks ps Sees r x
  reference_alike r x (inl missing) =
      inl (nowhere_alike os ps Seen Sees alike r.scope r.text missing.0, missing.1)
  reference_alike r x (inr (inl (only, (full, found), at))) =
      inr (inl (only, (full, resolves_alike os ps Seen Sees alike r.scope r.text full name_kind.Enum found), at))
  reference_alike r x (inr (inr ((full, found), o, there, packed, at))) =
      inr (inr (
        (full, resolves_alike os ps Seen Sees alike r.scope r.text full name_kind.Message found),
        o,
        there,
        packed,
        at,
      ))

  pub breaks_alike : (f : FileDesc) (x : Spot) → TypesBreak os Seen f x → TypesBreak ps Sees f x
  breaks_alike f x (i, r, there, broken) = (i, r, there, reference_alike r x broken)
