-- What a message declares: first by itself, then by the messages within it.
use Rattle.std.proofs.Common.{◌≡◌, ◌∙◌, ap, ℕ, List, ◌∷◌, ◌++◌, map}
use Rattle.std.specs.Prelude.{flat_map}
use Rattle.std.proofs.lemmas.List.Folds.{flat_map-map}
use Rattle.proto_desc.specs.DeclaredNames.{Declared, scoped, declared_field, declared_oneof, declared_by_enum, declared_by_message, declared_step}
use Rattle.proto_desc.specs.declared.message.MessageDesc.{MessageDesc}
use Rattle.proto_desc.specs.declared.message.MessageDesc.TheViews.{out-MessageDesc}
use Rattle.proto_desc.specs.declared.message.MessageDesc.TheFolds.{fold_out-MessageDesc}
use Rattle.proto_desc.specs.declared.name_kind.NameKind.TheVariants as kind

abbrev pub own_declared : MessageDesc → List ℕ → Declared
own_declared m scope = record {
  scope = scope;
  name = (out-MessageDesc m).name;
  kind = kind.Message;
  place = (out-MessageDesc m).place;
}

-- the scope of what stands in a message
abbrev pub scope_in : MessageDesc → List ℕ → List ℕ
scope_in m scope = scoped scope (out-MessageDesc m).name

-- what a message declares, but for the messages within it
abbrev pub declared_before : MessageDesc → List ℕ → List Declared
declared_before m scope =
    own_declared m scope ∷ (map (declared_field (scope_in m scope)) (out-MessageDesc m).fields
    ++ map (declared_oneof (scope_in m scope)) (out-MessageDesc m).oneofs
    ++ flat_map (declared_by_enum (scope_in m scope)) (out-MessageDesc m).enums)

pub declared_out : (m : MessageDesc) (scope : List ℕ) → declared_by_message m scope ≡ declared_before m scope
    ++ flat_map (λ n. declared_by_message n (scope_in m scope)) (out-MessageDesc m).nested
declared_out m scope =
    ap (λ (f : List ℕ → List Declared). f scope) (fold_out-MessageDesc (List ℕ → List Declared) declared_step m)
    ∙ ap (λ xs. declared_before m scope ++ xs)
    (flat_map-map (λ (g : List ℕ → List Declared). g (scope_in m scope)) declared_by_message
    (out-MessageDesc m).nested)
