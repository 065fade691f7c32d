-- Bytes say one thing.
use Rattle.std.proofs.Common.{◌≡◌, ◌∙◌, sym, ap₂, subst, ℕ, zero, suc, List, [], ◌∷◌, ◌++◌, Option, None, Some, MatchOption}
use Rattle.wire_format.proofs.ReadingRows.{one_list}
use Rattle.wire_format.specs.Reading.{Value, number, bytes}
use Rattle.proto_sets.specs.Elements.{element_in, scope_inside, text_of}
use Rattle.proto_sets.specs.Says.{AllSay, FieldSays, Inside, IsElement, Said, Say, said_by}
use Rattle.proto_sets.specs.declared.element.Element.{Element}

all_one : (Says : ℕ × Value → List Said → Type 0)
    → ((field : ℕ × Value) (a b : List Said) → Says field a → Says field b → a ≡ b)
    → (fields : List (ℕ × Value)) (a b : List Said) → AllSay Says fields a → AllSay Says fields b → a ≡ b
all_one Says one [] a b x y = x ∙ sym y
all_one Says one (f ∷ fs) a b (first, rest, here, more, is) (first', rest', here', more', is') =
    let same = one f first first' here here' in
    let others = all_one Says one fs rest rest' more more' in
    is ∙ ap₂ (λ (p q : List Said). p ++ q) same others ∙ sym is'

module _ (Within : Option Element → List ℕ → List (ℕ × Value) → List Said → Type 0)
    (one : (h : Option Element) (s : List ℕ) (fs : List (ℕ × Value)) (a b : List Said) → Within h s fs a
    → Within h s fs b → a ≡ b) (scope : List ℕ) where
  element_one : (held : Option Element) (text : List ℕ) (a b : List Said)
      → MatchOption held (a ≡ []) (λ element. IsElement Within element scope text a)
      → MatchOption held (b ≡ []) (λ element. IsElement Within element scope text b) → a ≡ b
  element_one None text a b x y = x ∙ sym y
  element_one (Some e) text a b x y =
      let same = one_list text x.fields y.fields x.row y.row in
      let moved = subst (λ (fs : List (ℕ × Value)). Within (Some e) (scope_inside e scope (text_of 1 fs)) fs x.inner) same
      x.inside in
      let inner = one (Some e) (scope_inside e scope (text_of 1 y.fields)) y.fields x.inner y.inner moved y.inside in
      x.all ∙ ap₂ (λ (fs : List (ℕ × Value)) (more : List Said). said_by e scope fs ∷ more) same inner ∙ sym y.all

  field_one : (holder : Option Element) (field : ℕ × Value) (a b : List Said) → FieldSays Within holder scope field a
      → FieldSays Within holder scope field b → a ≡ b
  field_one holder (n, number value) a b x y = x ∙ sym y
  field_one holder (n, bytes text) a b x y = element_one (element_in holder n) text a b x y

inside_one : (k : ℕ) (h : Option Element) (s : List ℕ) (fs : List (ℕ × Value)) (a b : List Said) → Inside k h s fs a
    → Inside k h s fs b → a ≡ b
inside_one zero h s fs a b x y = absurd x
inside_one (suc k) h s fs a b x y =
    all_one (FieldSays (Inside k) h s) (λ f. field_one (Inside k) (inside_one k) s h f) fs a b x y

pub said_once : (k : ℕ) (h : Option Element) (s : List ℕ) (fs : List (ℕ × Value)) (a b : List Said) → Say k h s fs a
    → Say k h s fs b → a ≡ b
said_once k h s fs a b x y =
    all_one (FieldSays (Inside k) h s) (λ f. field_one (Inside k) (inside_one k) s h f) fs a b x y
