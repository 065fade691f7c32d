-- Extensions that rise: of each message and number there is one.
use Rattle.std.proofs.Common.{◌≡◌, ◌∙◌, sym, ap, ℕ, ◌<◌, ◌⊎◌, List, length, Contains, get_or, arith, inl, inr}
use Rattle.std.proofs.lemmas.Bool.{cases_order}
use Rattle.std.proofs.lemmas.List.{get_or_default}
use Rattle.proto_compilation.specs.Extensions.{DeclaredExtension, ExtensionsRise, Precedes}
use Rattle.proto_links.proofs.NameRows.{not_less_itself}

apart : (e f : DeclaredExtension) → e.message ≡ f.message → e.number ≡ f.number → Precedes e f → ⊥
apart e f message number (inl less) = not_less_itself f.message (rw message at less)
apart e f message number (inr (same, below)) = omega (arith, number, below)

module _ (es : List DeclaredExtension) (rise : ExtensionsRise es) where
  in_order : (e f : DeclaredExtension) (k j : ℕ) → k < j → j < length es → get_or es k e ≡ e → get_or es j f ≡ f
      → Precedes e f
  in_order e f k j before within here there =
      let at = get_or_default es j e f within ∙ there in
      rw (here, at) at (rise k j e before within)

  pub one_extension : (e f : DeclaredExtension) → Contains es e → Contains es f → e.message ≡ f.message
      → e.number ≡ f.number → e ≡ f
  one_extension e f (k, below, here) (j, within, there) message number = elim (cases_order k j) [
    | inl same ↦ sym here ∙ ap (λ (i : ℕ). get_or es i e) same ∙ get_or_default es j e f within ∙ there
    | inr (inl before) ↦ absurd (apart e f message number (in_order e f k j before within here there))
    | inr (inr behind) ↦ absurd (apart f e (sym message) (sym number) (in_order f e j k behind below there here))
  ]
