-- Trees of messages.
use Rattle.proto_types.proofs.Common.{arith, ◌≡◌, ◌∙◌, ap, ℕ, List, [], ◌∷◌, ◌++◌, Bool, true, refl, flat_map, AllZip, list_all, out-MessageDesc, roll-MessageDesc, out-roll-MessageDesc, Occurrence, scope_in, Reference, field_scope, references_of_field, references_step, references_by_message, IsTypedField, IsTypedMessage, AreTypedMessages, IsTypedMethod, IsTypedService, IsTypedIn}
use Rattle.std.proofs.lemmas.List.Folds.{flat_map-map}
use Rattle.proto_desc.specs.Resolved.{field_resolved, message_resolved, method_resolved, service_resolved, file_resolved}
use Rattle.proto_desc.specs.declared.field.FieldDesc.{FieldDesc}
use Rattle.proto_desc.specs.declared.file.FileDesc.{FileDesc}
use Rattle.proto_desc.specs.declared.message.MessageDesc.{MessageDesc}
use Rattle.proto_desc.specs.declared.message.MessageDesc.TheOpen.{MessageDesc-F}
use Rattle.proto_desc.specs.declared.message.MessageDesc.TheFolds.{fold_out-MessageDesc}
use Rattle.proto_desc.specs.declared.service.MethodDesc.{MethodDesc}
use Rattle.proto_desc.specs.declared.service.ServiceDesc.{ServiceDesc}
use Rattle.proto_desc.proofs.Resolves.{message_resolved_out}
use Rattle.proto_types.specs.Typed.IsTypedMessage.{message}
use Rattle.proto_types.specs.Typed.AreTypedMessages.{none, more}

-- those of a message's own fields
abbrev pub own_references : MessageDesc → List ℕ → List Reference
own_references m scope = flat_map (references_of_field (field_scope scope (out-MessageDesc m)))
    (out-MessageDesc m).fields

pub references_out : (m : MessageDesc) (scope : List ℕ) → references_by_message m scope ≡ own_references m scope
    ++ flat_map (λ n. references_by_message n (scope_in m scope)) (out-MessageDesc m).nested
references_out m scope =
    ap (λ (f : List ℕ → List Reference). f scope) (fold_out-MessageDesc (List ℕ → List Reference) references_step m)
    ∙ ap (λ xs. own_references m scope ++ xs)
    (flat_map-map (λ (g : List ℕ → List Reference). g (scope_in m scope)) references_by_message
    (out-MessageDesc m).nested)

pub messages_typed : (os : List Occurrence) (Seen : ℕ → Type 0) (scope : List ℕ) (ms gs : List MessageDesc)
    → AllZip (IsTypedMessage os Seen scope) ms gs
    → AreTypedMessages os Seen scope ms gs
messages_typed os Seen scope [] [] h = none scope
messages_typed os Seen scope (m ∷ ms) (g ∷ gs) h = more scope m g ms gs h.0 (messages_typed os Seen scope ms gs h.1)
messages_typed os Seen scope ms gs h = absurd h

-- a message of which the fields and the messages within it are made
pub remade_typed : (os : List Occurrence) (Seen : ℕ → Type 0) (scope : List ℕ) (m : MessageDesc)
    (x : MessageDesc-F MessageDesc) (fields : List FieldDesc)
    (nested : List MessageDesc) → x ≡ record (out-MessageDesc m) { fields = fields; nested = nested }
    → AllZip (IsTypedField os Seen (field_scope scope (out-MessageDesc m))) (out-MessageDesc m).fields fields
    → AllZip (IsTypedMessage os Seen (scope_in m scope)) (out-MessageDesc m).nested nested
    → IsTypedMessage os Seen scope m (roll-MessageDesc x)
remade_typed os Seen scope m x fields nested e own inside =
    let r : MessageDesc-F MessageDesc = record (out-MessageDesc m) { fields = fields; nested = nested } in
    let at : out-MessageDesc (roll-MessageDesc r) ≡ r = out-roll-MessageDesc r in
    rw e (message scope m (roll-MessageDesc r) (grind arith)
    (rw at (messages_typed os Seen (scope_in m scope) (out-MessageDesc m).nested nested inside)))

-- ---- what is typed is resolved

-- all of a list, where each is what another is typed as
zip_all : {X : Type 0} (R : X → X → Type 0) (p : X → Bool) → ((x y : X) → R x y → p y ≡ true) → (xs ys : List X)
    → AllZip R xs ys → list_all p ys ≡ true
zip_all R p turn (x ∷ xs) (y ∷ ys) h = grind (arith, turn x y h.0, zip_all R p turn xs ys h.1)
zip_all R p turn xs ys h = grind arith

module _ (os : List Occurrence) (Seen : ℕ → Type 0) where
  field_typed : (scope : List ℕ) (f g : FieldDesc) → IsTypedField os Seen scope f g → field_resolved g ≡ true
  field_typed scope f g h = grind arith

  method_typed : (scope : List ℕ) (m g : MethodDesc) → IsTypedMethod os Seen scope m g → method_resolved g ≡ true
  method_typed scope m g h = grind arith

  service_typed : (scope : List ℕ) (s g : ServiceDesc) → IsTypedService os Seen scope s g → service_resolved g ≡ true
  service_typed scope s g h = grind (arith, zip_all, method_typed)

  mutual
    message_typed : (scope : List ℕ) (m g : MessageDesc) → IsTypedMessage os Seen scope m g → message_resolved g ≡ true
    message_typed scope m g (message s n o body nested) =
        grind (arith, message_resolved_out, zip_all, field_typed, all_typed _ _ _ nested)

    all_typed : (scope : List ℕ) (ms gs : List MessageDesc) → AreTypedMessages os Seen scope ms gs
        → list_all message_resolved gs ≡ true
    all_typed scope ms gs (none s) = refl
    all_typed scope ms gs (more s m g rest made one others) =
        grind (arith, message_typed scope m g one, all_typed scope rest made others)

  pub typed_resolved : (scope : List ℕ) (f g : FileDesc) → IsTypedIn os Seen scope f g → file_resolved g ≡ true
  typed_resolved scope f g h = grind (arith, all_typed, zip_all, service_typed)
