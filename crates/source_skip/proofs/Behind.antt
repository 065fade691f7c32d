-- What stands behind a rule's tokens is a tail of the list.
use Rattle.std.specs.Prelude.{◌≡◌, ℕ, map, zero, suc, ◌-◌, ◌≤◌, ◌<◌, Bool, true, false, cond, List, [], ◌∷◌, length, drop, Option, None, Some, option_map, option_and_then, unwrap_or}
use Rattle.std.proofs.Common.{refl, arith, sym, ap, ◌∙◌}
use Rattle.std.proofs.lemmas.List.{length-map}
use Rattle.std.specs.Option.{option_or}
use Rattle.std.specs.Str.{byte}
use Rattle.proto_tokens.specs.Token.{Spelled}
use Rattle.proto_syntax.specs.Grammar.{fits}
use Rattle.source_skip.specs.ProgramTokens.{IsClosing}
use Rattle.source_skip.specs.Shapes.{Shape, One, Nothing, ◌⨾◌, ◌∣◌, Many, Braces, behind, behind_all, closed, is_symbol}

pub data IsTail : List Spelled → List Spelled → Type 0 where
  here : {ts : List Spelled} → IsTail ts ts
  later : {t : Spelled} {ts us : List Spelled} → IsTail us ts → IsTail us (t ∷ ts)

pub tail_tail : (us ts ss : List Spelled) → IsTail us ts → IsTail ts ss → IsTail us ss
tail_tail us ts _ k here = k
tail_tail us ts (s ∷ ss) k (later l) = later (tail_tail us ts ss k l)

pub tail_within : (us ts : List Spelled) → IsTail us ts → length us ≤ length ts
tail_within us _ here = omega arith
tail_within us (t ∷ ts) (later k) = omega (arith, tail_within us ts k)

drop_less : (n m : ℕ) (t : Spelled) (ts : List Spelled) → m ≤ n → drop (suc n - m) (t ∷ ts) ≡ drop (n - m) ts
drop_less n m t ts l = let e : suc n - m ≡ suc (n - m) = omega arith in rw e refl

drop_none : (ts : List Spelled) → drop (length ts - length ts) ts ≡ ts
drop_none ts = let e : length ts - length ts ≡ 0 = omega arith in rw e refl

pub tail_dropped : (us ts : List Spelled) → IsTail us ts → us ≡ drop (length ts - length us) ts
tail_dropped us _ here = sym (drop_none us)
tail_dropped us (t ∷ ts) (later k) =
    tail_dropped us ts k ∙ sym (drop_less (length ts) (length us) t ts (tail_within us ts k))

-- what stands behind, if anything does, is a tail, or a shorter one
abbrev pub TailOf : List Spelled → Option (List Spelled) → Type 0
TailOf ts None = Unit {0}
TailOf ts (Some us) = IsTail us ts

abbrev pub ShorterOf : List Spelled → Option (List Spelled) → Type 0
ShorterOf ts None = Unit {0}
ShorterOf ts (Some us) = length us < length ts

module _ (t : Spelled) (ts : List Spelled) where
  later_of : (o : Option (List Spelled)) → TailOf ts o → TailOf (t ∷ ts) o
  later_of None k = tt
  later_of (Some us) k = later k

  cond_of : (b : Bool) (o p : Option (List Spelled)) → TailOf (t ∷ ts) o → TailOf (t ∷ ts) p
      → TailOf (t ∷ ts) (cond b o p)
  cond_of true o p k l = k
  cond_of false o p k l = l

pub closed_tail : (levels : ℕ) (ts : List Spelled) → TailOf ts (closed levels ts)
closed_tail levels [] = tt
closed_tail zero (t ∷ ts) = cond_of t ts (is_symbol (byte "{") t) (closed 1 ts)
    (cond (is_symbol (byte "}") t) (Some ts) (closed zero ts))
    (later_of t ts (closed 1 ts) (closed_tail 1 ts))
    (cond_of t ts (is_symbol (byte "}") t) (Some ts) (closed zero ts) (later here)
    (later_of t ts (closed zero ts) (closed_tail zero ts)))
closed_tail (suc levels) (t ∷ ts) = cond_of t ts (is_symbol (byte "{") t) (closed (suc (suc levels)) ts)
    (cond (is_symbol (byte "}") t) (closed levels ts) (closed (suc levels) ts))
    (later_of t ts (closed (suc (suc levels)) ts) (closed_tail (suc (suc levels)) ts))
    (cond_of t ts (is_symbol (byte "}") t) (closed levels ts) (closed (suc levels) ts)
    (later_of t ts (closed levels ts) (closed_tail levels ts))
    (later_of t ts (closed (suc levels) ts) (closed_tail (suc levels) ts)))

then_tail : (ts : List Spelled) (f : List Spelled → Option (List Spelled)) (o : Option (List Spelled)) → TailOf ts o
    → ((us : List Spelled) → TailOf us (f us)) → TailOf ts (option_and_then f o)
then_tail ts f None k l = tt
then_tail ts f (Some us) k l = further (f us) (l us)
  where
    further : (p : Option (List Spelled)) → TailOf us p → TailOf ts p
    further None m = tt
    further (Some vs) m = tail_tail vs us ts m k

or_tail : (ts : List Spelled) (o p : Option (List Spelled)) → TailOf ts o → TailOf ts p → TailOf ts (option_or o p)
or_tail ts None p k l = l
or_tail ts (Some us) p k l = k

next_tail : (g : List Spelled → List Spelled) (o : Option (List Spelled)) (ts : List Spelled)
    → ((us : List Spelled) → IsTail (g us) us) → TailOf ts o → IsTail (unwrap_or (option_map g o) ts) ts
next_tail g None ts k l = here
next_tail g (Some us) ts k l = tail_tail (g us) us ts (k us) l

all_tail : (most : ℕ) (f : List Spelled → Option (List Spelled)) → ((us : List Spelled) → TailOf us (f us))
    → (ts : List Spelled) → IsTail (behind_all most f ts) ts
all_tail zero f k ts = here
all_tail (suc most) f k ts = next_tail (behind_all most f) (f ts) ts (all_tail most f k) (k ts)

pub behind_tail : (a : Shape) (ts : List Spelled) → TailOf ts (behind a ts)
behind_tail (One c) [] = tt
behind_tail (One c) (t ∷ ts) = cond_of t ts (fits c t.lexeme) (Some ts) None (later here) tt
behind_tail Nothing ts = here
behind_tail (a ⨾ b) ts = then_tail ts (behind b) (behind a ts) (behind_tail a ts) (behind_tail b)
behind_tail (a ∣ b) ts = or_tail ts (behind a ts) (behind b ts) (behind_tail a ts) (behind_tail b ts)
behind_tail (Many a) ts = all_tail (length ts) (behind a) (behind_tail a) ts
behind_tail Braces [] = tt
behind_tail Braces (t ∷ ts) =
    cond_of t ts (is_symbol (byte "{") t) (closed 0 ts) None (later_of t ts (closed 0 ts) (closed_tail 0 ts)) tt

pub tail_behind : (a : Shape) (ts us : List Spelled) → Some us ≡ behind a ts → IsTail us ts
tail_behind a ts us h = rw (sym h) at (behind_tail a ts)

pub closing_tail : (closes : List (Option ℕ)) (us ts : List Spelled) → IsTail us ts → IsClosing closes ts
    → IsClosing closes us
closing_tail closes us _ here k = k
closing_tail closes us (t ∷ ts) (later l) (_, _, k) = closing_tail closes us ts l k

pub closing_behind : (closes : List (Option ℕ)) (a : Shape) (ts us : List Spelled) → Some us ≡ behind a ts
    → IsClosing closes ts → IsClosing closes us
closing_behind closes a ts us h = closing_tail closes us ts (tail_behind a ts us h)

-- ---- rules that take a token at least

abbrev pub TakesOne : Shape → Type 0
TakesOne (One c) = Unit {0}
TakesOne Nothing = ⊥
TakesOne (a ⨾ b) = TakesOne a
TakesOne (a ∣ b) = TakesOne a × TakesOne b
TakesOne (Many a) = ⊥
TakesOne Braces = Unit {0}

shorter_by : (t : Spelled) (ts : List Spelled) (b : Bool) (o : Option (List Spelled)) → TailOf ts o
    → ShorterOf (t ∷ ts) (cond b o None)
shorter_by t ts false o k = tt
shorter_by t ts true None k = tt
shorter_by t ts true (Some us) k = omega (arith, tail_within us ts k)

then_shorter : (ts : List Spelled) (f : List Spelled → Option (List Spelled)) (o : Option (List Spelled))
    → ShorterOf ts o → ((us : List Spelled) → TailOf us (f us)) → ShorterOf ts (option_and_then f o)
then_shorter ts f None k l = tt
then_shorter ts f (Some us) k l = further (f us) (l us)
  where
    further : (p : Option (List Spelled)) → TailOf us p → ShorterOf ts p
    further None m = tt
    further (Some vs) m = omega (arith, tail_within vs us m, k)

or_shorter : (ts : List Spelled) (o p : Option (List Spelled)) → ShorterOf ts o → ShorterOf ts p
    → ShorterOf ts (option_or o p)
or_shorter ts None p k l = l
or_shorter ts (Some us) p k l = k

pub behind_shorter : (a : Shape) → TakesOne a → (ts : List Spelled) → ShorterOf ts (behind a ts)
behind_shorter (One c) k [] = tt
behind_shorter (One c) k (t ∷ ts) = shorter_by t ts (fits c t.lexeme) (Some ts) here
behind_shorter Nothing k ts = absurd k
behind_shorter (a ⨾ b) k ts = then_shorter ts (behind b) (behind a ts) (behind_shorter a k ts) (behind_tail b)
behind_shorter (a ∣ b) (k, l) ts =
    or_shorter ts (behind a ts) (behind b ts) (behind_shorter a k ts) (behind_shorter b l ts)
behind_shorter (Many a) k ts = absurd k
behind_shorter Braces k [] = tt
behind_shorter Braces k (t ∷ ts) = shorter_by t ts (is_symbol (byte "{") t) (closed 0 ts) (closed_tail 0 ts)

pub shorter_behind : (a : Shape) (ts us : List Spelled) → TakesOne a → Some us ≡ behind a ts → length us < length ts
shorter_behind a ts us k h = rw (sym h) at (behind_shorter a k ts)

-- ---- as many as stand there

module _ (f : List Spelled → Option (List Spelled)) (shorter : (us : List Spelled) → ShorterOf us (f us)) where
  no_more : (k : ℕ) (ts : List Spelled) (o : Option (List Spelled)) → ShorterOf ts o → length ts ≤ 0
      → unwrap_or (option_map (behind_all k f) o) ts ≡ ts
  no_more k ts None s l = refl
  no_more k ts (Some us) s l = absurd (omega (arith, s, l))

  both_more : (m k : ℕ) (ts : List Spelled) (o : Option (List Spelled)) → ShorterOf ts o → length ts ≤ suc m
      → length ts ≤ suc k
      → ((us : List Spelled) → length us ≤ m → length us ≤ k → behind_all m f us ≡ behind_all k f us)
      → unwrap_or (option_map (behind_all m f) o) ts ≡ unwrap_or (option_map (behind_all k f) o) ts
  both_more m k ts None s l n e = refl
  both_more m k ts (Some us) s l n e = e us (omega (arith, s, l)) (omega (arith, s, n))

  all_enough : (m k : ℕ) (ts : List Spelled) → length ts ≤ m → length ts ≤ k → behind_all m f ts ≡ behind_all k f ts
  all_enough zero zero ts l n = refl
  all_enough zero (suc k) ts l n = sym (no_more k ts (f ts) (shorter ts) l)
  all_enough (suc m) zero ts l n = no_more m ts (f ts) (shorter ts) n
  all_enough (suc m) (suc k) ts l n = both_more m k ts (f ts) (shorter ts) l n (all_enough m k)

  step_more : (m : ℕ) (ts us : List Spelled) → Some us ≡ f ts → behind_all (suc m) f ts ≡ behind_all m f us
  step_more m ts us h = rw (sym h) refl

  all_more : (ts us : List Spelled) → Some us ≡ f ts → length us < length ts
      → behind_all (length us) f us ≡ behind_all (length ts) f ts
  all_more ts us h s = all_enough (length us) (length ts) us (omega arith) (omega (arith, s))
      ∙ (sym (step_more (length ts) ts us h) ∙ all_enough (suc (length ts)) (length ts) ts (omega arith) (omega arith))

pub many_more : (a : Shape) (ts us : List Spelled) → TakesOne a → Some us ≡ behind a ts
    → behind (Many a) us ≡ behind (Many a) ts
many_more a ts us k h = ap (λ (x : List Spelled). Some x)
    (all_more (behind a) (behind_shorter a k) ts us h (shorter_behind a ts us k h))

none_more : (m : ℕ) (f : List Spelled → Option (List Spelled)) (ts : List Spelled) → None ≡ f ts
    → behind_all m f ts ≡ ts
none_more zero f ts h = refl
none_more (suc m) f ts h = rw (sym h) refl

pub many_none : (a : Shape) (ts : List Spelled) → None ≡ behind a ts → Some ts ≡ behind (Many a) ts
many_none a ts h = ap (λ (x : List Spelled). Some x) (sym (none_more (length ts) (behind a) ts h))

-- ---- a part and then another

pub then_some : (a b : Shape) (ts us : List Spelled) → Some us ≡ behind a ts → behind b us ≡ behind (a ⨾ b) ts
then_some a b ts us h = rw (sym h) refl

-- ---- of the program's tokens

pub shorter_before : {A : Type 0} (f : A → Spelled) (xs ys : List A) → length (map f xs) < length (map f ys)
    → length xs < length ys
shorter_before f xs ys h = simp length-map at h
