-- The places at which lines end, and the numbers of lines.
use Rattle.std.proofs.Common.{◌≡◌, ◌∙◌, sym, ap, refl, ℕ, ◌+◌, ◌≤◌, zero, suc, Bool, true, false, cond, eqb, ltb, List, [], ◌∷◌, arith, length, map, take, filter}
use Rattle.std.proofs.lemmas.Bool.{lt-ltb, le-ltb}
use Rattle.std.proofs.lemmas.List.{length-take}
use Rattle.std.proofs.lemmas.List.Sorted.{IsPartitionedBy-ltb}
use Rattle.std.proofs.lemmas.List.Sums.{count_by-le-length, sum_by-cons}
use Rattle.std.specs.List.{count_by, enumerate_from, sum_by}
use Rattle.std.specs.List.Sorted.{IsNonDecreasingBy, IsPartitionedBy}
use Rattle.fault_report.proofs.Rising.{PartsAt, Rises, count_parted, rises_from, rises_more, rises_none}

-- the places of the LFs of a text that begins at this place
abbrev pub ends_from : ℕ → List ℕ → List ℕ
ends_from base text = map (λ e. e.0) (filter (λ e. eqb e.1 10) (enumerate_from base text))

-- those of a text that begins with this byte
abbrev ends_behind : ℕ → ℕ → List ℕ → Bool → List ℕ
ends_behind base b text is = map (λ e. e.0) (cond is ((base, b) ∷ filter (λ e. eqb e.1 10) (enumerate_from (base + 1) text))
    (filter (λ e. eqb e.1 10) (enumerate_from (base + 1) text)))

abbrev same : ℕ → ℕ
same n = n

pub ends_rise : (base : ℕ) (text : List ℕ) → Rises same base (ends_from base text)
ends_rise base [] = rises_none same base
ends_rise base (b ∷ text) =
    let rest : Rises same base (ends_from (base + 1) text) = rises_from same base (base + 1) _ (omega arith) (ends_rise (base + 1) text) in
    elim (eqb b 10) as (λ v. Rises same base (ends_behind base b text v)) [
      | true ↦ rises_more same base base (ends_from (base + 1) text) (omega arith) rest
      | false ↦ rest
    ]

module _ (top : ℕ) where
  abbrev below : ℕ → ℕ
  below e = cond (ltb e top) 1 0

  none_below : (base : ℕ) (text : List ℕ) → top ≤ base → sum_by below (ends_from base text) ≡ 0
  none_below base [] le = refl
  none_below base (b ∷ text) le =
      let rest : sum_by below (ends_from (base + 1) text) ≡ 0 = none_below (base + 1) text (omega arith) in
      elim (eqb b 10) as (λ is. sum_by below (ends_behind base b text is) ≡ 0) [
        | true ↦ sum_by-cons below base (ends_from (base + 1) text) ∙ rw (le-ltb base top le) (omega arith)
        | false ↦ rest
      ]

  -- before a place stand as many of them as LFs
  count_before : (base place : ℕ) (text : List ℕ) → top ≡ base + place
      → sum_by below (ends_from base text) ≡ sum_by (λ b. cond (eqb b 10) 1 0) (take place text)
  count_before base zero text is = none_below base text (omega arith)
  count_before base (suc place) [] is = refl
  count_before base (suc place) (b ∷ text) is =
      let rest : sum_by below (ends_from (base + 1) text) ≡ sum_by (λ c. cond (eqb c 10) 1 0) (take place text) =
      count_before (base + 1) place text (omega arith) in
      elim (eqb b 10) as (λ v. sum_by below (ends_behind base b text v)
      ≡ cond v 1 0 + sum_by (λ c. cond (eqb c 10) 1 0) (take place text)) [
        | true ↦ sum_by-cons below base (ends_from (base + 1) text) ∙ rw (lt-ltb base top (omega arith)) (omega arith)
        | false ↦ omega arith
      ] ∙ sym (sum_by-cons (λ c. cond (eqb c 10) 1 0) b (take place text))

-- a place stands behind so many lines' ends
module _ (ends text : List ℕ) (place at : ℕ) (is : ends ≡ ends_from 0 text) (within : at ≤ length ends)
    (parts : IsPartitionedBy (λ e. ltb e place) ends → PartsAt (λ e. ltb e place) ends at) where
  order : IsNonDecreasingBy same ends
  order = rw is (ends_rise 0 text).order

  pub ends_before : at ≡ count_by (λ b. eqb b 10) (take place text)
  ends_before = sym (count_parted (λ e. ltb e place) ends at within (parts (IsPartitionedBy-ltb same ends place order)))
      ∙ ap (λ es. count_by (λ e. ltb e place) es) is ∙ count_before place 0 place text (omega arith)

  pub few_before : at ≤ place
  few_before = omega (arith, ends_before, count_by-le-length (λ b. eqb b 10) (take place text), length-take place text)
