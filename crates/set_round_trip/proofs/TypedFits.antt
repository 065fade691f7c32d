-- Types resolved, a descriptor fits where it fitted.
use Rattle.std.proofs.Common.{sym, subst, ℕ, zero, suc, List, [], ◌∷◌, IsUtf8}
use Rattle.std.specs.List.{AllByRecursion, AllZip}
use Rattle.proto_desc.specs.DeclaredNames.{file_scope, scoped}
use Rattle.proto_desc.specs.declared.enumeration.EnumDesc.{EnumDesc}
use Rattle.proto_desc.specs.declared.field.FieldDesc.{FieldDesc}
use Rattle.proto_desc.specs.declared.file.FileDesc.{FileDesc}
use Rattle.proto_desc.specs.declared.message.MessageDesc.{MessageDesc}
use Rattle.proto_desc.specs.declared.message.MessageDesc.TheViews.{out-MessageDesc}
use Rattle.proto_desc.specs.declared.oneof.OneofDesc.{OneofDesc}
use Rattle.proto_desc.specs.declared.service.MethodDesc.{MethodDesc}
use Rattle.proto_desc.specs.declared.service.ServiceDesc.{ServiceDesc}
use Rattle.proto_names.specs.Occurrences.{Occurrence}
use Rattle.proto_types.specs.References.{field_scope}
use Rattle.proto_types.specs.Typed.{AreTypedMessages, IsTypedField, IsTypedFile, IsTypedMessage, IsTypedMethod, IsTypedService}
use Rattle.proto_types.specs.Typed.IsTypedMessage.{message}
use Rattle.proto_types.specs.Typed.AreTypedMessages.{none, more}
use Rattle.set_round_trip.specs.Fits.{EnumFits, FieldFits, FileFits, MessageFits, MethodFits, OneofFits, ServiceBodyFits, ServiceFits}

zip_fits : {X : Type 0} (R : X → X → Type 0) (P : X → Type 0) → ((x y : X) → R x y → P x → P y) → (xs ys : List X)
    → AllZip R xs ys → AllByRecursion P xs → AllByRecursion P ys
zip_fits R P one [] [] all fits = tt
zip_fits R P one (x ∷ xs) (y ∷ ys) all fits = (one x y all.0 fits.0, zip_fits R P one xs ys all.1 fits.1)
zip_fits R P one xs ys all fits = absurd all

module _ (os : List Occurrence) (Seen : ℕ → Type 0) where
  field_fits : (room : ℕ) (at : List ℕ) (f g : FieldDesc) → IsTypedField os Seen at f g → FieldFits room f
      → FieldFits room g
  field_fits room at f g (t, typed, is) fits = subst (FieldFits room) (sym is)
      (record { some = fits.some; name = fits.name; number = fits.number; index = fits.index })

  method_fits : (room : ℕ) (at : List ℕ) (m g : MethodDesc) → IsTypedMethod os Seen at m g → MethodFits room m
      → MethodFits room g
  method_fits room at m g is fits = subst (MethodFits room) (sym is.same)
      (record { some = fits.some; name = fits.name })

  service_fits : (room : ℕ) (at : List ℕ) (s g : ServiceDesc) → IsTypedService os Seen at s g → ServiceFits room s
      → ServiceFits room g
  service_fits zero at s g is fits = absurd fits
  service_fits (suc room) at s g is fits = subst (ServiceBodyFits room) (sym is.same) (record {
    name = fits.name;
    methods = zip_fits (IsTypedMethod os Seen (scoped at s.name)) (MethodFits room)
        (method_fits room (scoped at s.name)) s.methods g.methods is.methods_typed fits.methods;
  })

  mutual
    message_fits : (room : ℕ) (at : List ℕ) (m g : MessageDesc) → IsTypedMessage os Seen at m g → MessageFits room m
        → MessageFits room g
    message_fits zero at m g (message s n o body nested) fits = absurd fits
    message_fits (suc room) at m g (message s n o body nested) fits = record {
      name = subst IsUtf8 (sym body.same_name) fits.name;
      fields = zip_fits (IsTypedField os Seen (field_scope at (out-MessageDesc m))) (FieldFits room)
          (field_fits room (field_scope at (out-MessageDesc m))) (out-MessageDesc m).fields (out-MessageDesc g).fields
          body.fields_typed fits.fields;
      nested = messages_fit room _ _ _ nested fits.nested;
      enums = subst (λ (es : List EnumDesc). AllByRecursion (EnumFits room) es) (sym body.same_enums) fits.enums;
      oneofs = subst (λ (os : List OneofDesc). AllByRecursion (OneofFits room) os) (sym body.same_oneofs) fits.oneofs;
    }

    messages_fit : (room : ℕ) (at : List ℕ) (ms gs : List MessageDesc) → AreTypedMessages os Seen at ms gs
        → AllByRecursion (MessageFits room) ms → AllByRecursion (MessageFits room) gs
    messages_fit room at ms gs (none s) fits = tt
    messages_fit room at ms gs (more s m g rest made one others) fits =
        (message_fits room at m g one fits.0, messages_fit room at rest made others fits.1)

  pub typed_fits : (depth : ℕ) (f g : FileDesc) → IsTypedFile os Seen f g → FileFits depth f → FileFits depth g
  typed_fits depth f g is fits =
      let scope = file_scope f.«package» in
      subst (FileFits depth) (sym is.same) (record {
        name = fits.name;
        own = fits.own;
        imports = fits.imports;
        messages = messages_fit depth scope f.messages g.messages is.messages_typed fits.messages;
        enums = fits.enums;
        services = zip_fits (IsTypedService os Seen scope) (ServiceFits depth) (service_fits depth scope) f.services
            g.services is.services_typed fits.services;
      })
