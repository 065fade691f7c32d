-- The least number at a word, and calls that stay legal.
use Rattle.share_work.proofs.Common.{◌≡◌, ◌≢◌, ℕ, suc, ◌<◌, ◌≤◌, ◌⊎◌, ◌↔◌, inl, inr, Bool, true, cond, ◌==◌, ◌&&◌, ltb, List, [], ◌∷◌, sym, refl, ◌∙◌, subst, arith, min, AllPairs, Contains, sum_by, count_by, eq-eqb, ne_eqb, cases_Bool, cases_lt, cases_eq, sum_by-cons, Call, NONE, least_at, call, posts_of, FallsAt, IsLegalAt, IsLegal}
use Rattle.share_work.proofs.Sums.{none_in, front, behind, front_or_behind, pairs_cons, pairs_first, in_map, of_map, count_by-no, count_by-yes, count_in, count_of, calls_in}

-- least_at at a pair of that word, and of another
pub least_here : (w : ℕ) (p : ℕ × ℕ) (ps : List (ℕ × ℕ)) → p.0 ≡ w → least_at w (p ∷ ps) ≡ min p.1 (least_at w ps)
least_here w p ps e = grind (arith, eq-eqb)

pub least_else : (w : ℕ) (p : ℕ × ℕ) (ps : List (ℕ × ℕ)) → (p.0 ≡ w → ⊥) → least_at w (p ∷ ps) ≡ least_at w ps
least_else w p ps n = grind (arith, ne_eqb)

pub least_at-le-NONE : (w : ℕ) (ps : List (ℕ × ℕ)) → least_at w ps ≤ NONE
least_at-le-NONE w [] = omega arith
least_at-le-NONE w (p ∷ ps) = grind (arith, least_else, least_here, least_at-le-NONE w ps)

-- a bound of all the numbers at the word bounds the least
pub least_at-above : (w m : ℕ) (ps : List (ℕ × ℕ)) → m ≤ NONE → ((x : ℕ) → Contains ps (w, x) → m ≤ x)
    → m ≤ least_at w ps
least_at-above w m [] top each = top
least_at-above w m (p ∷ ps) top each =
    let ih = least_at-above w m ps top (λ x h. each x (behind p ps (w, x) h)) in
    let here : p.0 ≡ w → m ≤ p.1 = λ e. each p.1 (rw (← e) (front p ps)) in
    grind (arith, least_else, least_here, ih, here)

pub least_at-below : (w x : ℕ) (ps : List (ℕ × ℕ)) → Contains ps (w, x) → least_at w ps ≤ x
least_at-below w x [] h = absurd (none_in (w, x) h)
least_at-below w x (p ∷ ps) h =
    grind (arith, least_else, least_here, front_or_behind p ps, least_at-below w x ps)

pub least_at-reached : (w : ℕ) (ps : List (ℕ × ℕ)) → (least_at w ps ≡ NONE) ⊎ Contains ps (w, least_at w ps)
least_at-reached w [] = inl refl
least_at-reached w (p ∷ ps) =
    let m : ℕ = least_at w ps in
    let rest : (m ≡ NONE) ⊎ Contains (p ∷ ps) (w, m) = grind (arith, least_at-reached w ps, behind p ps (w, m)) in
    elim (cases_eq p.0 w) [
      | inl e ↦ rw (least_here w p ps e) (elim (cases_lt p.1 m) [
        | inl lt ↦ let q : min p.1 m ≡ p.1 = omega arith in rw q (inr (rw (← e) (front p ps)))
        | inr ge ↦ let q : min p.1 m ≡ m = omega arith in rw q rest
      ])
      | inr n ↦ rw (least_else w p ps n) rest
    ]

pub least_le : (w : ℕ) (ps qs : List (ℕ × ℕ)) → ((x : ℕ) → Contains qs (w, x) → Contains ps (w, x))
    → least_at w ps ≤ least_at w qs
least_le w ps qs here = least_at-above w (least_at w ps) qs (least_at-le-NONE w ps)
    (λ x h. least_at-below w x ps (here x h))

-- ---- calls

-- the same calls, each as often: they weigh the same, however calls are weighed
abbrev pub SameCalls : List Call → List Call → Type 0
SameCalls xs ys = (h : Call → ℕ) → sum_by h xs ≡ sum_by h ys

same_in : (xs ys : List Call) → SameCalls xs ys → (c : Call) → Contains xs c → Contains ys c
same_in xs ys same = calls_in xs ys (λ h. omega (arith, same h))

pub post_in : (w : ℕ) (xs : List Call) (c : Call) → Contains xs c → c.word ≡ w → Contains (posts_of xs) (w, c.number)
post_in w xs c h e = rw (← e) (in_map (λ d. (d.word, d.number)) xs c h)

pub posts_same : (xs ys : List Call) → SameCalls xs ys → (p : ℕ × ℕ) → Contains (posts_of xs) p
    → Contains (posts_of ys) p
posts_same xs ys same p h = let r = of_map (λ (c : Call). (c.word, c.number)) xs p h in
    subst (Contains (posts_of ys)) r.2 (in_map (λ c. (c.word, c.number)) ys r.0 (same_in xs ys same r.0 r.1))

pub least_at-same : (w : ℕ) (xs ys : List Call) → SameCalls xs ys → least_at w (posts_of xs) ≡ least_at w (posts_of ys)
least_at-same w xs ys same =
    let ps : List (ℕ × ℕ) = posts_of xs in let qs : List (ℕ × ℕ) = posts_of ys in
    let low = least_le w ps qs (λ x. posts_same ys xs (λ h. sym (same h)) (w, x)) in
    let high = least_le w qs ps (λ x. posts_same xs ys same (w, x)) in omega arith

-- if both fell, they found different numbers
abbrev pub Apart : ℕ → Call → Call → Type 0
Apart w c d = FallsAt w c → FallsAt w d → c.found ≢ d.found

abbrev falls_from : ℕ → ℕ → Call → Bool
falls_from w x c = (c.word == w) && ((c.found == x) && ltb c.number c.found)

from_is : (w x : ℕ) (c : Call) → (falls_from w x c ≡ true) ↔ (FallsAt w c × (c.found ≡ x))
from_is w x c = grind arith

-- at most one call that fell found x, where all are apart
once_of : (w x : ℕ) (cs : List Call) → AllPairs (Apart w) cs → count_by (falls_from w x) cs ≤ 1
once_of w x [] apart = omega arith
once_of w x (c ∷ cs) apart =
    let ih = once_of w x cs (λ i j d a b. apart (suc i) (suc j) d (omega arith) (omega arith)) in
    elim (cases_Bool (falls_from w x c)) [
      | inl t ↦
          let none : 0 < count_by (falls_from w x) cs → ⊥ = λ some_other.
          let r = count_of (falls_from w x) cs some_other in
          grind (arith, t, r.2, pairs_first (Apart w) c cs apart r.0 r.1) in
          grind (arith, none, count_by-yes (falls_from w x) c cs t)
      | inr f ↦ omega (arith, count_by-no (falls_from w x) c cs f)
    ]

once_from : (w : ℕ) (cs : List Call) → ((x : ℕ) → count_by (falls_from w x) cs ≤ 1) → AllPairs (Apart w) cs
once_from w [] once = λ i j d a b. absurd (omega arith)
once_from w (c ∷ cs) once = pairs_cons (Apart w) c cs
    (λ d k mine its e. let p : Call → Bool = falls_from w c.found in
    let yes = count_by-yes p c cs ((from_is w c.found c).1 (mine, refl)) in
    let in_rest = count_in p cs d k ((from_is w c.found d).1 (its, sym e)) in absurd (omega (arith, once c.found)))
    (once_from w cs (λ x. omega (arith, once x, sum_by-cons (λ d. cond (falls_from w x d) 1 0) c cs)))

pub IsLegal-same : (xs ys : List Call) → SameCalls xs ys → IsLegal xs → IsLegal ys
IsLegal-same xs ys same l = λ w. let back : SameCalls ys xs = λ f. sym (same f) in record {
  under = λ c h. (l w).under c (same_in ys xs back c h);
  once = once_from w ys (λ x. omega (arith, same (λ c. cond (falls_from w x c) 1 0), once_of w x xs (l w).once));
  linked = λ c h at. grind (arith, (l w).linked c (same_in ys xs back c h) at, same_in xs ys same);
}

-- some call fell to x
abbrev pub FellTo : ℕ → List Call → ℕ → Type 0
FellTo w xs x = (d : Call) × Contains xs d × FallsAt w d × (d.number ≡ x)

-- what a word holds is NONE or the number of a call that fell
pub least_falls : (w : ℕ) (xs : List Call) → IsLegalAt w xs
    → (least_at w (posts_of xs) ≡ NONE) ⊎ FellTo w xs (least_at w (posts_of xs))
least_falls w xs l = let m : ℕ = least_at w (posts_of xs) in elim (least_at-reached w (posts_of xs)) [
  | inl e ↦ inl e
  | inr h ↦
      let r = of_map (λ (c : Call). (c.word, c.number)) xs (w, m) h in let d : Call = r.0 in
      let at_w : d.word ≡ w = λ i. (r.2 i).0 in let is_m : d.number ≡ m = λ i. (r.2 i).1 in
      let top = least_at-le-NONE w (posts_of xs) in elim (cases_lt d.number d.found) [
        | inl lt ↦ inr (d, r.1, (at_w, lt), is_m)
        | inr ge ↦ elim (l.linked d r.1 at_w) [
          | inl e ↦ inl (omega arith)
          | inr f ↦ let low = least_at-below w f.0.number (posts_of xs) (post_in w xs f.0 f.1 f.2.0) in
              inr (f.0, f.1, f.2, omega (arith, f.3))
        ]
      ]
]

falls_more : (w y : ℕ) (c : Call) (xs : List Call) → (y ≡ NONE) ⊎ FellTo w xs y → (y ≡ NONE) ⊎ FellTo w (c ∷ xs) y
falls_more w y c xs f = grind (arith, behind)

-- a call that finds what the word holds
pub IsLegal-post : (w n : ℕ) (xs : List Call) → n < NONE → IsLegal xs
    → IsLegal (call w (least_at w (posts_of xs)) n ∷ xs)
IsLegal-post w n xs lt l = λ v. let m : ℕ = least_at w (posts_of xs) in let c : Call = call w m n in record {
  under = λ d h at. grind (arith, front_or_behind c xs d h, (l v).under d);
  once = pairs_cons (Apart v) c xs
      (λ d k mine its e.
      let low = least_at-below w d.number (posts_of xs) (post_in w xs d k (its.0 ∙ sym mine.0)) in
      absurd (omega (arith, e, its.1)))
      (l v).once;
  linked = λ d h at.
      grind (arith, front_or_behind c xs d h, least_falls w xs (l w), falls_more v d.found c xs, (l v).linked d);
}
