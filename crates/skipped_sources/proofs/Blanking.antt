-- Spaces in place of tokens.
use Rattle.std.proofs.Common.{◌↔◌, ◌≤◌, ◌-◌, true, false, inl, inr, min, replicate, ◌≡◌, ◌∙◌, sym, ap, refl, ℕ, zero, suc, ◌+◌, ◌<◌, ◌||◌, Bool, cond, List, [], ◌∷◌, ◌++◌, length, get_or, map, take, drop, set, arith, append_assoc, Global, Vec}
use Rattle.std.specs.BTreeSet.{BTreeSet}
use Rattle.std.specs.List.{AllZip}
use denote.Ref.{Bor}
use borrow.Rule.Slice.PartMut.{put_mid}
use Rattle.std.proofs.lemmas.Bool.{cases_lt, false_from_ne_true}
use Rattle.std.proofs.lemmas.Bool.Decides.{nat_tests}
use Rattle.std.proofs.lemmas.List.{get_or-map, length-map, map-set, places, same_lists, drop-set-lt, drop_more, take_more_set}
use Rattle.proto_base.specs.declared.limits.Limits.{Limits}
use Rattle.proto_base.specs.declared.place.Span.{Span}
use Rattle.proto_tokens.specs.Token.{Spelled}
use Rattle.source_folder.specs.Folder.{NamedBytes, name_of, named_bytes, names_of}
use Rattle.source_folder.specs.declared.folder.NamedText.{NamedText}
use Rattle.source_skip.specs.Skipped.{is_of, without}
use Rattle.source_search.specs.Wanted.{name_in}
use Rattle.skipped_sources.specs.Losing.{HoldsNames, LosesAmong, SourceLoses, all_blanked, blanked, extent_of, token_at}
use Rattle.skipped_sources.specs.Lost.{AreWithoutLost, IsWithoutLost}

-- ---- one text

pub keeps_length : (at : ℕ) (gone : List Spelled) (text : List ℕ) → length (without at gone text) ≡ length text
keeps_length at gone [] = refl
keeps_length at gone (b ∷ text) = ap suc (keeps_length (suc at) gone text)

pub none_gone : (at : ℕ) (text : List ℕ) → without at [] text ≡ text
none_gone at [] = refl
none_gone at (b ∷ text) = ap (λ (bs : List ℕ). b ∷ bs) (none_gone (suc at) text)

is_of-append : (a b : List Spelled) (at : ℕ) → is_of (a ++ b) at ≡ (is_of a at || is_of b at)
is_of-append [] b at = refl
is_of-append (t ∷ a) b at = grind (arith, is_of-append a b at)

cond_twice : (x y : Bool) (n b : ℕ) → cond y n (cond x n b) ≡ cond (x || y) n b
cond_twice x y n b = grind arith

-- some tokens, and then others
pub more_gone : (at : ℕ) (a b : List Spelled) (text : List ℕ)
    → without at b (without at a text) ≡ without at (a ++ b) text
more_gone at a b [] = refl
more_gone at a b (x ∷ text) =
    rw (more_gone (suc at) a b text, is_of-append a b at, cond_twice (is_of a at) (is_of b at) 32 x) refl

-- tokens that are the same bytes
same_cover : (a b : List Spelled) (at : ℕ) → map extent_of a ≡ map extent_of b → is_of a at ≡ is_of b at
same_cover [] [] at e = refl
same_cover [] (u ∷ b) at e = cc
same_cover (t ∷ a) [] at e = cc
same_cover (t ∷ a) (u ∷ b) at e =
    let first : extent_of t ≡ extent_of u = cc in
    let start : t.start ≡ u.start = ap (λ (x : ℕ × ℕ). x.0) first in
    let end : t.end ≡ u.end = ap (λ (x : ℕ × ℕ). x.1) first in
    let rest : map extent_of a ≡ map extent_of b = cc in
    rw (start, end, same_cover a b at rest) refl

same_gone : (at : ℕ) (a b : List Spelled) (text : List ℕ) → map extent_of a ≡ map extent_of b
    → without at a text ≡ without at b text
same_gone at a b [] e = refl
same_gone at a b (x ∷ text) e = rw (same_cover a b at e, same_gone (suc at) a b text e) refl

-- each byte
pub at_without : (at : ℕ) (gone : List Spelled) (text : List ℕ) (k d : ℕ) → k < length text
    → get_or (without at gone text) k d ≡ cond (is_of gone (at + k)) 32 (get_or text k d)
at_without at gone [] k d h = absurd (omega (arith, h))
at_without at gone (b ∷ text) zero d h = let same : at + zero ≡ at = omega arith in rw same refl
at_without at gone (b ∷ text) (suc k) d h =
    let next : at + suc k ≡ suc at + k = omega arith in
    rw next (at_without (suc at) gone text k d (omega (arith, h)))

-- ---- the bytes of one token

is_within : (t : Spelled) (k : ℕ) → (is_of (t ∷ []) k ≡ true) ↔ ((t.start ≤ k) × (k < t.end))
is_within t k = grind (arith, nat_tests)

-- the bytes before, of and behind it
before_it : (start len : ℕ) (text spaces : List ℕ) (k d : ℕ) → start ≤ length text → k < start
    → get_or (put_mid start len text spaces) k d ≡ get_or text k d
before_it start len text spaces k d inside h = grind (arith, places)

of_it : (start len : ℕ) (text : List ℕ) (k d : ℕ) → start ≤ length text → start ≤ k → k < start + len
    → get_or (put_mid start len text (replicate len 32)) k d ≡ 32
of_it start len text k d inside h g = grind (arith, places)

behind_it : (start len : ℕ) (text : List ℕ) (k d : ℕ) → start ≤ length text → start + len ≤ k
    → get_or (put_mid start len text (replicate len 32)) k d ≡ get_or text k d
behind_it start len text k d inside h = grind (arith, places)

covered : (text : List ℕ) (t : Spelled) (k d : ℕ) → k < length text → t.start ≤ k → k < t.end
    → 32 ≡ get_or (without 0 (t ∷ []) text) k d
covered text t k d h low high =
    let told = at_without 0 (t ∷ []) text k d h in
    let at : 0 + k ≡ k = omega arith in
    let is : is_of (t ∷ []) k ≡ true = (is_within t k).1 (low, high) in
    sym (rw (at, is) at told)

uncovered : (text : List ℕ) (t : Spelled) (k d : ℕ) → k < length text → (t.start ≤ k → k < t.end → ⊥)
    → get_or text k d ≡ get_or (without 0 (t ∷ []) text) k d
uncovered text t k d h out =
    let told = at_without 0 (t ∷ []) text k d h in
    let at : 0 + k ≡ k = omega arith in
    let is : is_of (t ∷ []) k ≡ false =
    false_from_ne_true _ (λ yes. let both = (is_within t k).0 yes in out both.0 both.1) in
    sym (rw (at, is) at told)

pub one_gone : (text : List ℕ) (t : Spelled) (start end : ℕ) → end ≡ min (length text) t.end → start ≡ min end t.start
    → put_mid start (end - start) text (replicate (end - start) 32) ≡ without 0 (t ∷ []) text
one_gone text t start end last first =
    let len : length (put_mid start (end - start) text (replicate (end - start) 32)) ≡ length text =
    grind (arith, places) in
    let inside : start ≤ length text = omega arith in
    same_lists _ _ (len ∙ sym (keeps_length 0 (t ∷ []) text)) (λ k d h. elim (cases_lt k start) [
      | inl before ↦ before_it start (end - start) text (replicate (end - start) 32) k d inside before
          ∙ uncovered text t k d (omega (arith, len)) (λ low high. omega arith)
      | inr from ↦ elim (cases_lt k end) [
        | inl within ↦ of_it start (end - start) text k d inside from (omega arith)
            ∙ covered text t k d (omega (arith, len)) (omega arith) (omega arith)
        | inr behind ↦ behind_it start (end - start) text k d inside (omega arith)
            ∙ uncovered text t k d (omega (arith, len)) (λ low high. omega (arith, len))
      ]
    ])

-- ---- sources

all_blanked_at : (xs : List NamedBytes) (lists : List (Vec Span Global)) (k : ℕ) (d : NamedBytes) (l : Vec Span Global)
    → k < length xs → k < length lists → l ≡ get_or lists k l
    → all_blanked (drop k xs) (drop k lists)
    ≡ blanked (get_or xs k d) l.items ∷ all_blanked (drop (k + 1) xs) (drop (k + 1) lists)
all_blanked_at xs lists k d l inside listed is =
    rw (drop_more xs k d inside, drop_more lists k l listed, ← is) refl

-- one more
pub all_blanked_more : (xs all : List NamedBytes) (lists : List (Vec Span Global)) (k : ℕ) (d : NamedBytes)
    (l : Vec Span Global) → k < length xs → k < length lists → l ≡ get_or lists k l
    → take k xs ++ all_blanked (drop k xs) (drop k lists) ≡ all
    → take (k + 1) (set xs k (blanked (get_or xs k d) l.items))
    ++ all_blanked (drop (k + 1) (set xs k (blanked (get_or xs k d) l.items))) (drop (k + 1) lists) ≡ all
all_blanked_more xs all lists k d l inside listed is so_far =
    grind (arith, append_assoc, take_more_set, drop-set-lt, all_blanked_at)

-- one more, in place
pub sources_more : (xs : List NamedText) (all : List NamedBytes) (lists : List (Vec Span Global)) (k : ℕ)
    (d new : NamedText) (l : Vec Span Global) → k < length xs → k < length lists → l ≡ get_or lists k l
    → named_bytes new ≡ blanked (named_bytes (get_or xs k d)) l.items
    → take k (map named_bytes xs) ++ all_blanked (drop k (map named_bytes xs)) (drop k lists) ≡ all
    → take (k + 1) (map named_bytes (set xs k new))
    ++ all_blanked (drop (k + 1) (map named_bytes (set xs k new))) (drop (k + 1) lists) ≡ all
sources_more xs all lists k d new l inside listed is same so_far =
    let there = get_or-map named_bytes xs k d (named_bytes d) inside in
    let more = all_blanked_more (map named_bytes xs) all lists k (named_bytes d) l
    (omega (arith, inside, length-map xs named_bytes)) listed is so_far in
    rw (map-set named_bytes xs k new, same) (rw there at more)

pub same_names : (sources : List NamedText) → map name_in (map named_bytes sources) ≡ names_of sources
same_names [] = refl
same_names (s ∷ sources) = ap (λ names. name_of s ∷ names) (same_names sources)

blanked_without : (limits : Limits) (names : List (List ℕ)) (sources : List NamedText)
    (lists : List (Vec Span Global)) → AllZip (LosesAmong limits names) sources lists
    → AllZip (λ old now. (now.0 ≡ old.0) × IsWithoutLost limits names old.1 now.1) (map named_bytes sources)
    (all_blanked (map named_bytes sources) lists)
blanked_without limits names [] lists all = tt
blanked_without limits names (s ∷ sources) [] all = absurd all
blanked_without limits names (s ∷ sources) (l ∷ lists) all = (
  (refl, (all.0.0, all.0.1, same_gone 0 (map token_at l.items) all.0.0 s.text.items all.0.2)),
  blanked_without limits names sources lists all.1,
)

-- what each loses by the names that a set holds
pub by_names : (limits : Limits) (names : List (List ℕ)) (set : BTreeSet (Bor (List ℕ))) → HoldsNames names set
    → (sources : List NamedText) (lists : List (Vec Span Global)) → AllZip (SourceLoses limits set) sources lists
    → AllZip (LosesAmong limits names) sources lists
by_names limits names set holds [] [] all = tt
by_names limits names set holds [] (l ∷ lists) all = absurd all
by_names limits names set holds (s ∷ sources) [] all = absurd all
by_names limits names set holds (s ∷ sources) (l ∷ lists) all =
    (all.0 names holds, by_names limits names set holds sources lists all.1)

pub as_many : (R : NamedText → Vec Span Global → Type 0) (sources : List NamedText) (lists : List (Vec Span Global))
    → AllZip R sources lists → length lists ≡ length sources
as_many R [] [] all = refl
as_many R [] (l ∷ lists) all = absurd all
as_many R (s ∷ sources) [] all = absurd all
as_many R (s ∷ sources) (l ∷ lists) all = ap suc (as_many R sources lists all.1)

-- sources with spaces in place of what they lose
pub without_lost : (limits : Limits) (sources : List NamedText) (lists : List (Vec Span Global))
    → AllZip (LosesAmong limits (names_of sources)) sources lists
    → AreWithoutLost limits (map named_bytes sources) (all_blanked (map named_bytes sources) lists)
without_lost limits sources lists all =
    rw (same_names sources) (blanked_without limits (names_of sources) sources lists all)
