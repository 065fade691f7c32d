-- What is recalled of a scope, and what it says of a field's type.
use Rattle.proto_types.proofs.Common.{arith, ◌≡◌, ◌≢◌, ◌∙◌, ◌↔◌, sym, ap, set, length-set, get_or, get_or-set_other, AreKept, inl, inr, ℕ, List, [], ◌∷◌, Option, Some, None, Bool, true, refl, All, bytes_eq, find, Occurrence, IsType, Resolves, scoped, AreRecalled, IsMeaningBy, IsFound, Remembers, reference_to, IsMeaning, Meaning}
use Rattle.std.proofs.lemmas.List.Elements.{All-cons, All-head, All-nil, All-push, All-tail}
use Rattle.std.proofs.lemmas.Slice.Eq.{bytes_eq-Decides}
use Rattle.std.proofs.lemmas.Bool.{cases_order}
use Rattle.std.proofs.lemmas.List.{get_or-set_same}
use Rattle.std.proofs.lemmas.Option.{none-some}
use Rattle.proto_names.specs.declared.resolve.FoundType.{FoundType}
use Rattle.proto_names.specs.Resolution.IsType.{message, enumeration}
use Rattle.proto_names.specs.declared.resolve.Want.{Want}
use Rattle.proto_names.specs.declared.resolve.Want.TheVariants as want
use Rattle.proto_desc.specs.declared.name_kind.NameKind.{NameKind}
use Rattle.proto_desc.specs.declared.options.OptionDescriptor.{OptionDescriptor}
use Rattle.proto_base.specs.declared.place.Place.{Place}
use Rattle.proto_types.specs.declared.recalled.Recalled.{Recalled}
use Rattle.proto_types.proofs.Meanings.{naming_means}

-- what holds of all holds of the one that is found, which passes
found_one : {X : Type 0} (P : X → Type 0) (test : X → Bool) (xs : List X) (x : X) → All P xs
    → find test xs ≡ Some x → P x × (test x ≡ true)
found_one P test [] x all is = absurd (none-some x is)
found_one P test (y ∷ ys) x all is =
    grind (arith, All-head P y ys all, found_one P test ys x (All-tail P y ys all))

module _ (os : List Occurrence) (Seen : ℕ → Type 0) where
  by_kind : (scope text : List ℕ) (place : Place) (wanted : Want)
      (options : List OptionDescriptor) (t : FoundType) (m : Meaning) (what : NameKind) → t.kind ≡ what
      → IsType os Seen (scoped t.scope.now t.name.now) what
      → Resolves os Seen scope text (scoped t.scope.now t.name.now) t.kind → IsMeaningBy wanted (Some t) place m
      → IsMeaning os Seen (reference_to scope text place wanted options) m
  by_kind scope text place want.AnyType options t m what same type named is =
      naming_means os Seen (reference_to scope text place want.AnyType options) _ t.kind m named (λ e. cc)
      (is.0 (λ e. cc))
  by_kind scope text place want.MessageOnly options t m what same (message seen) named is =
      naming_means os Seen (reference_to scope text place want.MessageOnly options) _ t.kind m named (λ e. same)
      (is.0 (λ e. same))
  by_kind scope text place want.MessageOnly options t m what same (enumeration seen none) named is =
      rw (is.1 (λ fits. cc (fits refl))) (inr (refl, (_, rw same at named), refl))

  -- what is made of what a name means is what a reference to it means
  pub meaning_by : (scope text : List ℕ) (place : Place) (wanted : Want)
      (options : List OptionDescriptor) (found : Option FoundType) (m : Meaning)
      → IsFound os Seen scope text found → IsMeaningBy wanted found place m
      → IsMeaning os Seen (reference_to scope text place wanted options) m
  meaning_by scope text place wanted options None m none is = rw is (inl (none, refl))
  meaning_by scope text place wanted options (Some t) m named is =
      by_kind scope text place wanted options t m t.kind refl named.type named is

  -- the one that is recalled of a name says what it means
  pub recalled_type : (scope text : List ℕ) (recalled : List Recalled) (one : Recalled)
      → AreRecalled os Seen scope recalled → find (λ r. bytes_eq r.spelled.now text) recalled ≡ Some one
      → IsFound os Seen scope text one.found
  recalled_type scope text recalled one all is =
      let found = found_one (λ r. IsFound os Seen scope r.spelled.now r.found) (λ r. bytes_eq r.spelled.now text)
      recalled one all is in
      rw (← (bytes_eq-Decides one.spelled.now text).0 found.1) found.0

  -- what is recalled after one more name
  pub recalled_more : (scope : List ℕ) (one : Recalled) (old new : List Recalled)
      → AreRecalled os Seen scope old → IsFound os Seen scope one.spelled.now one.found → Remembers one old new
      → AreRecalled os Seen scope new
  recalled_more scope one old new all is remembers =
      let P : Recalled → Type 0 = λ r. IsFound os Seen scope r.spelled.now r.found in
      elim remembers [
        | inl alone ↦ rw alone (All-cons P one [] is (All-nil P))
        | inr more ↦ rw more (All-push P old one all is)
      ]

  -- what is kept after one more name
  pub kept_more : (scope : List ℕ) (slots : List (Option Recalled)) (k : ℕ) (one : Recalled)
      → AreKept os Seen scope slots → IsFound os Seen scope one.spelled.now one.found
      → AreKept os Seen scope (set slots k (Some one))
  kept_more scope slots k one kept is r (j, low, at) = elim (cases_order j k) [
    | inl same ↦ (let here : Some r ≡ Some one = sym at ∙ ap (λ i. get_or (set slots k (Some one)) i (Some r)) same
        ∙ get_or-set_same slots k (Some one) (Some r) (omega (arith, low, same, length-set slots k (Some one))) in
        let is_one : r ≡ one = cc in
        rw is_one is)
    | inr other ↦ (let apart : j ≢ k =
        (λ e. elim other [ inl l ↦ omega (arith, l, e) | inr l ↦ omega (arith, l, e) ]) in
        kept r (
          j,
          omega (arith, low, length-set slots k (Some one)),
          sym (get_or-set_other slots k j (Some one) (Some r) apart) ∙ at,
        ))
  ]

-- a name that means the same in another scope is found there
pub found_outside : (os : List Occurrence) (Seen : ℕ → Type 0) (scope outside spelled : List ℕ)
    (found : Option FoundType) → ((full : List ℕ) (what : NameKind)
    → Resolves os Seen outside spelled full what ↔ Resolves os Seen scope spelled full what)
    → IsFound os Seen outside spelled found → IsFound os Seen scope spelled found
found_outside os Seen scope outside spelled None same none = λ full what r. none full what ((same full what).1 r)
found_outside os Seen scope outside spelled (Some t) same is = (same _ _).0 is
