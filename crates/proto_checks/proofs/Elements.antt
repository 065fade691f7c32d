-- What the elements of lists and of statements break.
use Rattle.proto_checks.proofs.Common.{ℕ, ◌≡◌, List, [], ◌∷◌, arith, false, inl, inr, ◌↔◌, flat_map, list_any, ◌∪◌, Each, Gains, Spot, each_flat, each_nil, each_single, gains_none, gains_same, gains_union, oneof_field, enum_value, is_oneof_member, is_value, MarkedNumber, MarkedRange}
use Rattle.proto_tree.specs.declared.enumeration.EnumItem.{EnumItem}
use Rattle.proto_tree.specs.declared.oneof.OneofItem.{OneofItem}
use Rattle.proto_checks.specs.Lengths.{capped}

-- at each scope of this length
abbrev pub InScope : ℕ → (List ℕ → Type 0) → Type 0
InScope len P = (scope : List ℕ) → len ≡ capped scope → P scope

-- what a list reads as past its end
abbrev pub no_number : MarkedNumber
no_number = record { number = 0; place = record { offset = 0 } }

abbrev pub no_range : MarkedRange
no_range = record { start = 0; end = 0; place = record { offset = 0 } }

-- a statement of one kind breaks nothing of the others
module _ {X Y Z : Type 0} {S : X → Spot → Type 0} {T : Y → Spot → Type 0} {U : Z → Spot → Type 0}
    {old new : List Spot} where
  pub of_first : (a : X) → Gains (S a) old new → Gains (Each (a ∷ []) S ∪ Each [] T ∪ Each [] U) old new
  of_first a h = gains_union (gains_union (gains_same h (each_single S a)) (gains_none (each_nil T)))
      (gains_none (each_nil U))

  pub of_second : (b : Y) → Gains (T b) old new → Gains (Each [] S ∪ Each (b ∷ []) T ∪ Each [] U) old new
  of_second b h = gains_union (gains_union (gains_none (each_nil S)) (gains_same h (each_single T b)))
      (gains_none (each_nil U))

  pub of_third : (c : Z) → Gains (U c) old new → Gains (Each [] S ∪ Each [] T ∪ Each (c ∷ []) U) old new
  of_third c h = gains_union (gains_union (gains_none (each_nil S)) (gains_none (each_nil T)))
      (gains_same h (each_single U c))

-- statements of three kinds
module _ {X A B C : Type 0} (S : A → Spot → Type 0) (T : B → Spot → Type 0) (U : C → Spot → Type 0) (f : X → List A)
    (g : X → List B) (h : X → List C) (xs : List X) where
  abbrev InParts : Spot → Type 0
  InParts = Each xs (λ a. Each (f a) S ∪ Each (g a) T ∪ Each (h a) U)

  abbrev Whole : Spot → Type 0
  Whole = Each (flat_map f xs) S ∪ Each (flat_map g xs) T ∪ Each (flat_map h xs) U

  pub each_three : (x : Spot) → InParts x ↔ Whole x
  each_three x =
      let fs = each_flat S f xs x in
      let gs = each_flat T g xs x in
      let hs = each_flat U h xs x in (
        λ w. elim w.3 [
          | inl (inl s) ↦ inl (inl (fs.0 (w.0, w.1, w.2, s)))
          | inl (inr t) ↦ inl (inr (gs.0 (w.0, w.1, w.2, t)))
          | inr u ↦ inr (hs.0 (w.0, w.1, w.2, u))
        ],
        λ v. elim v [
          | inl (inl s) ↦ (let at = fs.1 s in (at.0, at.1, at.2, inl (inl at.3)))
          | inl (inr t) ↦ (let at = gs.1 t in (at.0, at.1, at.2, inl (inr at.3)))
          | inr u ↦ (let at = hs.1 u in (at.0, at.1, at.2, inr at.3))
        ],
      )

-- oneofs without members and enums without values
pub members_told : (is : List OneofItem) → (list_any is_oneof_member is ≡ false) ↔ (flat_map oneof_field is ≡ [])
members_told [] = grind arith
members_told (i ∷ is) = grind (arith, members_told is)

pub values_told : (is : List EnumItem) → (list_any is_value is ≡ false) ↔ (flat_map enum_value is ≡ [])
values_told [] = grind arith
values_told (i ∷ is) = grind (arith, values_told is)
