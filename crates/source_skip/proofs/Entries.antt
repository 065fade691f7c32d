-- The settings between brackets, one after the other.
use Rattle.std.specs.Prelude.{◌≡◌, ℕ, zero, suc, ◌+◌, ◌≤◌, ◌<◌, Bool, true, false, cond, not, ◌||◌, List, [], ◌∷◌, ◌++◌, map, length, drop, Option, None, Some, option_map}
use Rattle.std.proofs.Common.{refl, arith, sym, ap, ◌∙◌, append_assoc, get_or, add-one}
use Rattle.std.proofs.lemmas.List.{get_or-map, length-map, map-append}
use Rattle.std.proofs.Math.Seq.{drop-cons}
use Rattle.std.specs.List.{IsFirstAndRest}
use Rattle.std.specs.Option.{MatchOption, option_map_or, option_or}
use denote.Ref.{Bor}
use Rattle.proto_tokens.specs.Token.{Spelled}
use Rattle.source_skip.specs.ProgramTokens.{IsClosing, span_of}
use Rattle.source_skip.specs.declared.token.Span.{Span}
use Rattle.source_skip.specs.Shapes.{behind, is_symbol, leaving, staying, symbol, unwritten_of_fields}
use Rattle.source_skip.specs.Skipped.{Brackets, Entry, before, brackets, entry_by, entry_of, gone_later, gone_of, with_entry}
use Rattle.source_skip.proofs.Behind.{IsTail, TailOf, behind_tail, closing_tail, tail_within}

-- ---- what stands behind a setting is a tail

abbrev pub EntryTail : List Spelled → Option Entry → Type 0
EntryTail ts None = Unit {0}
EntryTail ts (Some e) = IsTail e.rest ts

entry_by_tail : (goes : Bool) (s : Spelled) (ts : List Spelled) (o : Option (List Spelled)) → TailOf ts o
    → EntryTail ts
    (option_map (λ rest. record { separator = s; setting = before ts rest; goes = goes; rest = rest }) o)
entry_by_tail goes s ts None k = tt
entry_by_tail goes s ts (Some us) k = k

or_entry_tail : (ts : List Spelled) (o p : Option Entry) → EntryTail ts o → EntryTail ts p
    → EntryTail ts (option_or o p)
or_entry_tail ts None p k l = l
or_entry_tail ts (Some e) p k l = k

pub entry_tail : (s : Spelled) (ts : List Spelled) → EntryTail ts (entry_of s ts)
entry_tail s ts = or_entry_tail ts (entry_by (leaving unwritten_of_fields) true s ts)
    (entry_by (staying unwritten_of_fields) false s ts)
    (entry_by_tail true s ts (behind (leaving unwritten_of_fields) ts) (behind_tail (leaving unwritten_of_fields) ts))
    (entry_by_tail false s ts (behind (staying unwritten_of_fields) ts) (behind_tail (staying unwritten_of_fields) ts))

pub tail_entry : (s : Spelled) (ts : List Spelled) (e : Entry) → Some e ≡ entry_of s ts → IsTail e.rest ts
tail_entry s ts e h = rw (sym h) at (entry_tail s ts)

-- ---- settings so far, and those that are still to come

abbrev joined : List Entry → Brackets → Brackets
joined es b = record { entries = es ++ b.entries; rest = b.rest }

pub record SettingsGoOn (closes : List (Option ℕ)) (all : List Spelled) (es : List Entry) (mark : ℕ)
    (now : List Spelled) : Type 0 where
  pub table : IsClosing closes now
  pub most : ℕ
  pub enough : length now ≤ most
  pub same : brackets (length all) 91 all ≡ option_map (joined es) (brackets most mark now)

none_joined : (o : Option Brackets) → o ≡ option_map (joined []) o
none_joined None = refl
none_joined (Some b) = refl

pub settings_start : (closes : List (Option ℕ)) (all : List Spelled) → IsClosing closes all
    → SettingsGoOn closes all [] 91 all
settings_start closes all k = record {
  table = k;
  most = length all;
  enough = omega arith;
  same = none_joined (brackets (length all) 91 all);
}

no_brackets : (most mark : ℕ) → brackets most mark [] ≡ None
no_brackets zero mark = refl
no_brackets (suc most) mark = refl

pub settings_end : (closes : List (Option ℕ)) (all : List Spelled) (es : List Entry) (mark : ℕ)
    → SettingsGoOn closes all es mark [] → None ≡ brackets (length all) 91 all
settings_end closes all es mark g = sym (g.same ∙ ap (option_map (joined es)) (no_brackets g.most mark))

unmarked : (most mark : ℕ) (s : Spelled) (ts : List Spelled) → is_symbol mark s ≡ false
    → brackets most mark (s ∷ ts) ≡ None
unmarked zero mark s ts h = refl
unmarked (suc most) mark s ts h = rw h refl

none_cond : (b : Bool) (o : Option Brackets) → o ≡ None → cond b o None ≡ None
none_cond true o h = h
none_cond false o h = refl

no_setting : (most mark : ℕ) (s : Spelled) (ts : List Spelled) → None ≡ entry_of s ts
    → brackets most mark (s ∷ ts) ≡ None
no_setting zero mark s ts h = refl
no_setting (suc most) mark s ts h = rw (sym h) (none_cond (is_symbol mark s) None refl)

one_joined : (es : List Entry) (e : Entry) (o : Option Brackets)
    → option_map (joined es) (option_map (joined (e ∷ [])) o) ≡ option_map (joined (es ++ e ∷ [])) o
one_joined es e None = refl
one_joined es e (Some b) = ap (λ (x : List Entry). Some record { entries = x; rest = b.rest })
    (sym (append_assoc es (e ∷ []) b.entries))

setting_by : (most mark : ℕ) (s : Spelled) (ts : List Spelled) (e : Entry) → is_symbol mark s ≡ true
    → Some e ≡ entry_of s ts → brackets (suc most) mark (s ∷ ts) ≡ with_entry e (brackets most 44 e.rest)
setting_by most mark s ts e m h = rw (m, sym h) refl

module _ (closes : List (Option ℕ)) (all : List Spelled) (es : List Entry) (mark : ℕ) (s : Spelled) (ts : List Spelled)
    (g : SettingsGoOn closes all es mark (s ∷ ts)) where
  pub settings_unmarked : is_symbol mark s ≡ false → None ≡ brackets (length all) 91 all
  settings_unmarked h = sym (g.same ∙ ap (option_map (joined es)) (unmarked g.most mark s ts h))

  pub settings_stop : None ≡ entry_of s ts → None ≡ brackets (length all) 91 all
  settings_stop h = sym (g.same ∙ ap (option_map (joined es)) (no_setting g.most mark s ts h))

  module _ (e : Entry) (marked : is_symbol mark s ≡ true) (found : Some e ≡ entry_of s ts) where
    closed_by : (most : ℕ) (us : List Spelled) → length (s ∷ ts) ≤ most → Some us ≡ behind (symbol "]") e.rest
        → brackets (length all) 91 all ≡ option_map (joined es) (brackets most mark (s ∷ ts))
        → Some record { entries = es ++ e ∷ []; rest = us } ≡ brackets (length all) 91 all
    closed_by zero us l h same = absurd (omega (arith, l))
    closed_by (suc most) us l h same = sym (same ∙ rw (setting_by most mark s ts e marked found, sym h) refl)

    pub settings_close : (us : List Spelled) → Some us ≡ behind (symbol "]") e.rest
        → Some record { entries = es ++ e ∷ []; rest = us } ≡ brackets (length all) 91 all
    settings_close us h = closed_by g.most us g.enough h g.same

    more_by : (most : ℕ) → length (s ∷ ts) ≤ most → None ≡ behind (symbol "]") e.rest
        → brackets (length all) 91 all ≡ option_map (joined es) (brackets most mark (s ∷ ts))
        → SettingsGoOn closes all (es ++ e ∷ []) 44 e.rest
    more_by zero l h same = absurd (omega (arith, l))
    more_by (suc most) l h same = record {
      table = closing_tail closes e.rest ts (tail_entry s ts e found) g.table.2;
      most = most;
      enough = omega (arith, l, tail_within e.rest ts (tail_entry s ts e found));
      same = same ∙ rw (setting_by most mark s ts e marked found, sym h) (one_joined es e (brackets most 44 e.rest));
    }

    pub settings_more : None ≡ behind (symbol "]") e.rest → SettingsGoOn closes all (es ++ e ∷ []) 44 e.rest
    settings_more h = more_by g.most g.enough h g.same

-- ---- what goes of settings behind others

later_more : (stands : Bool) (es : List Entry) (i : ℕ) (d : Entry) → i < length es
    → gone_later stands (drop i es) ≡ gone_of ((get_or es i d).goes || not stands) (get_or es i d)
    ++ gone_later (stands || not (get_or es i d).goes) (drop (i + 1) es)
later_more stands es i d h = rw (add-one, drop-cons es i d) refl

module _ {A : Type 0} (f : A → Entry) (es : List A) (i : ℕ) (d : A) (within : i < length es) (stands : Bool)
    (spans new total : List Span) where
  pub later_pushed : new ≡ spans ++ map span_of (gone_of ((f (get_or es i d)).goes || not stands) (f (get_or es i d)))
      → spans ++ map span_of (gone_later stands (drop i (map f es))) ≡ total
      → new ++ map span_of (gone_later (stands || not (f (get_or es i d)).goes) (drop (i + 1) (map f es))) ≡ total
  later_pushed pushed so_far =
      let l : i < length (map f es) = omega (arith, length-map es f, within) in
      let m = later_more stands (map f es) i (f d) l in
      let g = get_or-map f es i d (f d) within in
      rw (pushed, append_assoc, ← map-append) (sym (rw (m, g) at (sym so_far)))

-- ---- the next token of the program, and those behind it

module _ {A : Type 0} (f : A → Spelled) where
  pub next_tokens : (xs : List A) (o : Option (Bor A × Bor (List A)))
      → MatchOption o (length xs ≡ 0) (λ p. IsFirstAndRest xs p.0.now p.1.now)
      → option_map_or (λ p. f p.0.now ∷ map f p.1.now) o [] ≡ map f xs
  next_tokens [] None h = refl
  next_tokens (x ∷ xs) None h = absurd (omega (arith, h))
  next_tokens xs (Some p) h = rw h.0 refl

next_len : {A : Type 0} (xs : List A) (o : Option (Bor A × Bor (List A)))
    → MatchOption o (length xs ≡ 0) (λ p. IsFirstAndRest xs p.0.now p.1.now)
    → option_map_or (λ p. length p.1.now + 1) o 0 ≡ length xs
next_len xs None h = sym h
next_len xs (Some p) h = h.1

pub next_shorter : {A : Type 0} (f : A → Spelled) (xs setting : List A) (s : Bor A)
    (o p : Option (Bor A × Bor (List A)))
    (ts : Bor (List A)) → MatchOption o (length xs ≡ 0) (λ p. IsFirstAndRest xs p.0.now p.1.now)
    → p ≡ Some (s, ts) → IsTail (map f xs) (map f ts.now)
    → option_map_or (λ p. length p.1.now + 1) o 0 < option_map_or (λ p. length p.1.now + 1) p 0
next_shorter f xs setting s o p ts h e k = rw e (omega (
  arith,
  next_len xs o h,
  tail_within (map f xs) (map f ts.now) k,
  length-map xs f,
  length-map ts.now f,
))

pub push_mapped : {A B : Type 0} (f : A → B) (xs new : List A) (x : A) → new ≡ xs ++ x ∷ []
    → map f new ≡ map f xs ++ f x ∷ []
push_mapped f xs new x h = rw (h, map-append) refl
