-- Settings by the rules of their element.
use Rattle.proto_checks.proofs.Common.{◌≡◌, ◌∙◌, refl, inl, inr, ◌⊎◌, arith, rules, ℕ, Bool, true, false, List, [], ◌∷◌, map, Option, Some, None, Contains, All, bytes_eq, find, option_map, unwrap_or, All-contains, find_at, position_or_len, ◌↔◌, spot, name_place, SettingBreaks, SettingsBreak, is_known_by, judged, IsFaultOf, JudgedTwice, Each, Gains, Spot, each_as, each_map, each_single, gains_none, gains_same, gains_union, later_map, later_short}
use Rattle.std.proofs.lemmas.List.Sums.{fails_before_first, passes_at_first}
use Rattle.std.proofs.lemmas.Option.{slice_get_cases}
use Rattle.std.proofs.lemmas.Slice.Eq.{bytes_eq-Decides}
use Rattle.proto_base.specs.declared.kind.Kind.TheVariants as kind
use Rattle.proto_tree.specs.declared.option.Setting.{Setting}
use Rattle.proto_desc.specs.declared.rules.Element.{Element}
use Rattle.proto_tree.specs.Text.{simple_name}
use Rattle.proto_desc.specs.Rules.{Rule, rules_of}
use Rattle.proto_checks.specs.Judged.{setting_fault}
use Rattle.proto_checks.specs.declared.options.Judged.{Judged}

-- what is found is the first that passes, or none passes
find_told : {X : Type 0} (p : X → Bool) (xs : List X)
    → ((a : X) × Contains xs a × (p a ≡ true) × (find p xs ≡ Some a))
    ⊎ (((a : X) → Contains xs a → p a ≡ false) × (find p xs ≡ None))
find_told p xs =
    let k = position_or_len p xs in
    elim (slice_get_cases xs k).1 [
      | inl (a, inside, got, is) ↦
          inl (a, (k, inside, is), rw is at (passes_at_first p xs a inside), find_at p xs ∙ got)
      | inr (past, none) ↦ inr (
        λ a held. rw held.2 at (fails_before_first p xs held.0 a (omega (arith, held.1))),
        find_at p xs ∙ none,
      )
    ]

-- what is found of elements, and of what is made of them
pub found_made : {A B : Type 0} (test : B → Bool) (view : A → B) (xs : List A)
    → option_map view (find (λ x. test (view x)) xs) ≡ find test (map view xs)
found_made test view [] = refl
found_made test view (x ∷ xs) = grind (arith, found_made test view xs)

-- a rule is the first of its word
abbrev IsFirst : List Rule → Rule → Type 0
IsFirst rs q = find (λ r. bytes_eq q.word r.word) rs ≡ Some q

first_of_word : (e : Element) → All (IsFirst (rules_of e)) (rules_of e)
first_of_word e = search rules

-- so a rule of the name is the one that is found
found_only : (name : Option (List ℕ)) (e : Element) (q : Rule) → Contains (rules_of e) q
    → unwrap_or (option_map (λ n. bytes_eq n q.word) name) false ≡ true
    → find (λ r. unwrap_or (option_map (λ n. bytes_eq n r.word) name) false) (rules_of e) ≡ Some q
found_only None e q held named = absurd (cc)
found_only (Some n) e q held named =
    rw ((bytes_eq-Decides n q.word).0 named) (All-contains (IsFirst (rules_of e)) (rules_of e) q (first_of_word e) held)

breaks_by : (e : Element) (s : Setting) (x : Spot) → setting_fault e s ≡ Some x → SettingBreaks e s x
unfolding setting_fault
breaks_by e s x f = grind (arith, find_told (is_known_by s) (rules_of e))

fault_of : (e : Element) (s : Setting) (x : Spot) → SettingBreaks e s x → setting_fault e s ≡ Some x
unfolding setting_fault
fault_of e s x (inl w) = grind (arith, find_told (is_known_by s) (rules_of e))
fault_of e s x (inr ((r, held, named, bad), is)) =
    rw (found_only (simple_name s.name.rest s.name.first) e r held named, bad, is) refl

-- settings, and what is judged of them
setting_same : (e : Element) (ss : List Setting) (x : Spot) → Each (map (judged e) ss) IsFaultOf x
    ↔ Each ss (SettingBreaks e) x
setting_same e ss x =
    let made = each_map IsFaultOf (judged e) ss x in
    let each = each_as (λ s. IsFaultOf (judged e s)) (SettingBreaks e) ss
    (λ s y. (breaks_by e s y, fault_of e s y)) x in
    (λ w. each.0 (made.1 w), λ w. made.0 (each.1 w))

pub judged_break : {js : List Judged} {old mid new : List Spot} → Gains (Each js IsFaultOf) old mid
    → Gains (JudgedTwice js) mid new
    → (e : Element) (ss : List Setting) → js ≡ map (judged e) ss → Gains (SettingsBreak e ss) old new
judged_break h k e ss made = gains_union (gains_same (rw made at h) (setting_same e ss))
    (gains_same (rw made at k) (later_map (λ (a b : Judged). a.name ≡ b.name)
    (λ b. spot b.place kind.OptionTwice) (judged e) ss))

pub one_breaks : (e : Element) (s : Setting) {old new : List Spot} → Gains (λ x. setting_fault e s ≡ Some x) old new
    → Gains (SettingsBreak e (s ∷ [])) old new
one_breaks e s h = gains_union
    (gains_same (gains_same h (λ x. (breaks_by e s x, fault_of e s x))) (each_single (SettingBreaks e) s))
    (gains_none (later_short (s ∷ []) _ (λ t. spot (name_place t) kind.OptionTwice) (omega arith)))
