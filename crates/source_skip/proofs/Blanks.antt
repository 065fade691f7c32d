-- Spaces in place of spans.
use Rattle.std.specs.Prelude.{◌≡◌, ℕ, zero, suc, ◌+◌, ◌-◌, ◌≤◌, ◌<◌, Bool, true, false, cond, not, ◌&&◌, ◌||◌, ◌==◌, List, [], ◌∷◌, ◌++◌, map, length, take, drop, replicate}
use Prim.Native.Nat.{min}
use Rattle.std.proofs.Common.{refl, arith, ap, ◌∙◌, get_or, length-drop}
use Rattle.std.proofs.lemmas.Bool.Decides.{nat_tests}
use Rattle.std.proofs.lemmas.Grind.{common_steps}
use Rattle.std.proofs.lemmas.List.{get_or-map, length-map, take_more}
use Rattle.std.specs.Int.{is_in_range}
use Rattle.proto_tokens.specs.Token.{Spelled, punctuation}
use Rattle.source_skip.specs.ProgramTokens.{blanked, span_of}
use Rattle.source_skip.specs.Skipped.{is_of, without}
use Rattle.source_skip.specs.declared.token.Span.{Span}

-- ---- one span

abbrev covers : Span → ℕ → Bool
covers w at = is_in_range w.start w.end at && not (at == w.end)

covers_later : (w : Span) (at : ℕ) → at < w.start → covers w at ≡ false
covers_later w at h = grind (arith, nat_tests)

covers_now : (w : Span) (at : ℕ) → w.start ≤ at → at < w.end → covers w at ≡ true
covers_now w at h l = grind (arith, nat_tests)

covers_earlier : (w : Span) (at : ℕ) → w.end ≤ at → covers w at ≡ false
covers_earlier w at h = grind (arith, nat_tests)

none_more : (at : ℕ) (w : Span) (bs : List ℕ) → blanked at w bs ≡ blanked (at + 0) w bs
none_more at w bs = let e : at ≡ at + 0 = omega arith in ap (λ k. blanked k w bs) e

one_more : (n at : ℕ) (w : Span) (bs : List ℕ) → blanked (suc at + n) w bs ≡ blanked (at + suc n) w bs
one_more n at w bs = let e : suc at + n ≡ at + suc n = omega arith in ap (λ k. blanked k w bs) e

blanked_before : (n at : ℕ) (w : Span) (bs : List ℕ) → at + n ≤ w.start
    → blanked at w bs ≡ take n bs ++ blanked (at + n) w (drop n bs)
blanked_before zero at w bs h = none_more at w bs
blanked_before (suc n) at w [] h = refl
blanked_before (suc n) at w (b ∷ bs) h =
    let o : covers w at ≡ false = covers_later w at (omega (arith, h)) in
    let i = blanked_before n (suc at) w bs (omega (arith, h)) in
    rw (o, i, one_more n at w (drop n bs)) refl

blanked_within : (n at : ℕ) (w : Span) (bs : List ℕ) → (0 < n → w.start ≤ at) → at + n ≤ w.end → n ≤ length bs
    → blanked at w bs ≡ replicate n 32 ++ blanked (at + n) w (drop n bs)
blanked_within zero at w bs s h l = none_more at w bs
blanked_within (suc n) at w [] s h l = absurd (omega (arith, l))
blanked_within (suc n) at w (b ∷ bs) s h l =
    let o : covers w at ≡ true = covers_now w at (s (omega arith)) (omega (arith, h)) in
    let i = blanked_within n (suc at) w bs (λ p. omega (arith, s (omega arith))) (omega (arith, h))
    (omega (arith, l)) in
    rw (o, i, one_more n at w (drop n bs)) refl

blanked_behind : (at : ℕ) (w : Span) (bs : List ℕ) → (0 < length bs → w.end ≤ at) → blanked at w bs ≡ bs
blanked_behind at w [] h = refl
blanked_behind at w (b ∷ bs) h =
    let o : covers w at ≡ false = covers_earlier w at (h (omega arith)) in
    let i = blanked_behind (suc at) w bs (λ p. omega (arith, h (omega arith))) in
    rw (o, i) refl

pub blanked_part : (text ys : List ℕ) (w : Span) (s e : ℕ) → e ≡ min w.end (length text) → s ≡ min w.start e
    → ys ≡ replicate (length (take (e - s) (drop s text))) 32
    → take s text ++ (ys ++ drop (e - s) (drop s text)) ≡ blanked 0 w text
blanked_part text ys w s e h k y =
    let len : length (take (e - s) (drop s text)) ≡ e - s = grind (arith, common_steps) in
    let first = blanked_before s 0 w text (omega arith) in
    let then = blanked_within (e - s) (0 + s) w (drop s text) (λ p. omega arith) (omega arith)
    (grind (arith, common_steps)) in
    let last = blanked_behind (0 + s + (e - s)) w (drop (e - s) (drop s text))
    (λ p. omega (arith, p, h, k, length-drop {A = ℕ})) in
    rw (y, len, first, then, last) refl

-- ---- one span after the other

pub without_none : (at : ℕ) (bs : List ℕ) → without at [] bs ≡ bs
without_none at [] = refl
without_none at (b ∷ bs) = rw (without_none (suc at) bs) refl

is_of_push : (at : ℕ) (ts : List Spelled) (t : Spelled)
    → is_of (ts ++ t ∷ []) at ≡ (covers (span_of t) at || is_of ts at)
is_of_push at [] t = refl
is_of_push at (s ∷ ts) t = grind (arith, is_of_push at ts t)

cond_both : (a b : Bool) (x y : ℕ) → cond a x (cond b x y) ≡ cond (a || b) x y
cond_both true b x y = refl
cond_both false b x y = refl

without_push : (at : ℕ) (ts : List Spelled) (t : Spelled) (bs : List ℕ)
    → blanked at (span_of t) (without at ts bs) ≡ without at (ts ++ t ∷ []) bs
without_push at ts t [] = refl
without_push at ts t (b ∷ bs) =
    rw (without_push (suc at) ts t bs, is_of_push at ts t, cond_both (covers (span_of t) at) (is_of ts at) 32 b) refl

pub without_more : (gone : List Spelled) (spans : List Span) (i : ℕ) (d : Span) (old now new : List ℕ)
    → spans ≡ map span_of gone → i < length spans → now ≡ without 0 (take i gone) old
    → new ≡ blanked 0 (get_or spans i d) now → new ≡ without 0 (take (i + 1) gone) old
without_more gone spans i d old now new same within so_far next =
    let t : Spelled = record { start = d.start; end = d.end; lexeme = punctuation 0 } in
    let l : i < length gone = omega (arith, within, ap length same, length-map gone span_of) in
    let g : get_or spans i d ≡ span_of (get_or gone i t) =
    ap (λ xs. get_or xs i d) same ∙ get_or-map span_of gone i t d l in
    rw (next, so_far, g, take_more gone i t l) (without_push 0 (take i gone) (get_or gone i t) old)
