-- Types resolved, a file declares what it declared.
use Rattle.std.proofs.Common.{◌≡◌, ◌∙◌, sym, ap, ap₂, refl, ℕ, List, [], ◌∷◌, ◌++◌, map, flat_map, arith}
use Rattle.std.specs.List.{AllZip}
use Rattle.proto_desc.proofs.Declared.{declared_before, declared_out, scope_in}
use Rattle.proto_desc.specs.DeclaredNames.{Declared, declared_by, declared_by_message, declared_by_service, declared_field, declared_in, declared_method, file_scope, scoped}
use Rattle.proto_desc.specs.declared.field.FieldDesc.{FieldDesc}
use Rattle.proto_desc.specs.declared.file.FileDesc.{FileDesc}
use Rattle.proto_desc.specs.declared.message.MessageDesc.{MessageDesc}
use Rattle.proto_desc.specs.declared.message.MessageDesc.TheViews.{out-MessageDesc}
use Rattle.proto_desc.specs.declared.service.MethodDesc.{MethodDesc}
use Rattle.proto_desc.specs.declared.service.ServiceDesc.{ServiceDesc}
use Rattle.proto_names.specs.Occurrences.{Occurrence}
use Rattle.proto_types.specs.Typed.{AreTypedMessages, IsTypedBody, IsTypedField, IsTypedFile, IsTypedIn, IsTypedMessage, IsTypedMethod, IsTypedService}
use Rattle.proto_types.specs.Typed.IsTypedMessage.{message}
use Rattle.proto_types.specs.Typed.AreTypedMessages.{none, more}

-- what each of two lists is mapped to
zip_map : {X A : Type 0} (R : X → X → Type 0) (f : X → A) → ((x y : X) → R x y → f y ≡ f x) → (xs ys : List X)
    → AllZip R xs ys → map f ys ≡ map f xs
zip_map R f one [] [] all = refl
zip_map R f one (x ∷ xs) (y ∷ ys) all = ap₂ ◌∷◌ (one x y all.0) (zip_map R f one xs ys all.1)
zip_map R f one xs ys all = grind arith

zip_flat : {X A : Type 0} (R : X → X → Type 0) (f : X → List A) → ((x y : X) → R x y → f y ≡ f x) → (xs ys : List X)
    → AllZip R xs ys → flat_map f ys ≡ flat_map f xs
zip_flat R f one [] [] all = refl
zip_flat R f one (x ∷ xs) (y ∷ ys) all = ap₂ ◌++◌ (one x y all.0) (zip_flat R f one xs ys all.1)
zip_flat R f one xs ys all = grind arith

module _ (os : List Occurrence) (Seen : ℕ → Type 0) where
  field_kept : (at scope : List ℕ) (f g : FieldDesc) → IsTypedField os Seen at f g
      → declared_field scope g ≡ declared_field scope f
  field_kept at scope f g (t, typed, is) = ap (declared_field scope) is

  method_kept : (at scope : List ℕ) (m g : MethodDesc) → IsTypedMethod os Seen at m g
      → declared_method scope g ≡ declared_method scope m
  method_kept at scope m g is = ap (declared_method scope) is.same

  service_kept : (at scope : List ℕ) (s g : ServiceDesc) → IsTypedService os Seen at s g
      → declared_by_service scope g ≡ declared_by_service scope s
  service_kept at scope s g is =
      let methods = zip_map (IsTypedMethod os Seen (scoped at s.name)) (declared_method (scoped scope s.name))
      (method_kept (scoped at s.name) (scoped scope s.name)) s.methods g.methods is.methods_typed in
      ap (declared_by_service scope) is.same
      ∙ ap (λ (ds : List Declared). declared_by_service scope (record s { methods = [] }) ++ ds) methods

  -- a message, where those in it declare what they declared
  body_kept : (at scope : List ℕ) (m g : MessageDesc) → IsTypedBody os Seen at (out-MessageDesc m) (out-MessageDesc g)
      → declared_before g scope ≡ declared_before m scope
  body_kept at scope m g is = grind (arith, zip_map, field_kept)

  mutual
    message_kept : (at scope : List ℕ) (m g : MessageDesc) → IsTypedMessage os Seen at m g
        → declared_by_message g scope ≡ declared_by_message m scope
    message_kept at scope m g (message s n o body nested) =
        let name : scope_in g scope ≡ scope_in m scope = ap (scoped scope) body.same_name in
        let own = body_kept at scope m g body in
        let others = messages_kept _ (scope_in m scope) _ _ nested in
        declared_out g scope ∙ (λ i. own i ++ flat_map (λ n. declared_by_message n (name i)) (out-MessageDesc g).nested)
        ∙ ap (λ (ds : List Declared). declared_before m scope ++ ds) others ∙ sym (declared_out m scope)

    messages_kept : (at scope : List ℕ) (ms gs : List MessageDesc) → AreTypedMessages os Seen at ms gs
        → flat_map (λ n. declared_by_message n scope) gs ≡ flat_map (λ n. declared_by_message n scope) ms
    messages_kept at scope ms gs (none s) = refl
    messages_kept at scope ms gs (more s m g rest made one others) =
        ap₂ ◌++◌ (message_kept at scope m g one) (messages_kept at scope rest made others)

  file_kept : (at scope : List ℕ) (f g : FileDesc) → IsTypedIn os Seen at f g
      → declared_in scope g ≡ declared_in scope f
  file_kept at scope f g is =
      let messages = messages_kept at scope f.messages g.messages is.messages_typed in
      let services = zip_flat (IsTypedService os Seen at) (declared_by_service scope) (service_kept at scope)
      f.services g.services is.services_typed in
      ap (declared_in scope) is.same ∙ grind (arith, messages, services)

  pub declares_same : (f g : FileDesc) → IsTypedFile os Seen f g → declared_by g ≡ declared_by f
  declares_same f g is =
      let scope : file_scope g.«package» ≡ file_scope f.«package» =
      ap (λ (h : FileDesc). file_scope h.«package») is.same in
      ap (λ (s : List ℕ). declared_in s g) scope
      ∙ file_kept (file_scope f.«package») (file_scope f.«package») f g is
