-- What many proofs of this crate cite, passed on from one place.
pub use Rattle.std.proofs.Common.{arith, string_bytes, zero, suc, subst, Contains, ◌⊎◌, ◌≡◌, ◌≢◌, ◌↔◌, ℕ, List, inl, inr, Option, Some, None, [], ◌∷◌, Bool, true, refl, All, bytes_eq, find, ◌∙◌, ap, ◌++◌, flat_map, sym, ◌+◌, ◌<◌, ◌≤◌, append_assoc, get_or, get_or-set_other, le_refl, length, length-set, set, take, append-nil, rules, take_all}
pub use Rattle.std.proofs.lemmas.Result.{on_ok_weaker, IfOk-weaker}
pub use Rattle.std.specs.List.{AllZip, list_all}
pub use Rattle.proto_base.proofs.Gains.{gains_each, gains_hit, gains_one, gains_pass, gains_same, gains_start, GainsTo}
pub use Rattle.proto_base.proofs.Sets.{least_same}
pub use Rattle.proto_desc.proofs.Declared.{scope_in}
pub use Rattle.proto_desc.specs.DeclaredNames.{scoped, file_scope}
pub use Rattle.proto_desc.specs.declared.message.MessageDesc.TheViews.{out-MessageDesc, roll-MessageDesc, out-roll-MessageDesc, roll-out-MessageDesc}
pub use Rattle.proto_names.specs.Occurrences.{Occurrence}
pub use Rattle.proto_names.specs.Resolution.{IsType, Resolves, ResolvesNowhere, SeenBy}
pub use Rattle.proto_names.specs.Found.{IsFound}
pub use Rattle.proto_names.specs.Scopes.{IsCandidate}
pub use Rattle.proto_names.specs.SeenAlike.{AreSeenAlike, IsSeen}
pub use Rattle.proto_types.specs.Recalling.{AreKept, AreRecalled, IsMeaningBy, IsSpelling, Remembers}
pub use Rattle.proto_types.specs.References.{Reference, ReferenceBreaks, reference_to, field_scope, references_of_field, references_step, references_by_message, TypesBreak, references_of_method, references_of_service}
pub use Rattle.proto_types.specs.Sight.{Sight}
pub use Rattle.proto_types.specs.Steps.{FindsIn, IsMeaning, IsNaming, MeansIn, OptionsBreak, SetsPacked, type_kind_of, behind_dot, Adds, AreFilled, AreFound, Finds, IsFilled, Puts}
pub use Rattle.proto_types.specs.Typed.{named_by, IsTypedField, IsTypedMessage, AreTypedMessages, IsTypedMethod, IsTypedService, IsTypedIn, IsTyped, IsTypedBody, Means}
pub use Rattle.proto_types.specs.declared.meaning.Meaning.{Meaning}
