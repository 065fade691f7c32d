-- The files in set order are the files, in another order.
use Rattle.std.proofs.Common.{◌≡◌, ◌≢◌, ◌∙◌, sym, ap, subst, refl, ℕ, zero, suc, ◌+◌, ◌<◌, ◌≤◌, ◌==◌, ◌↔◌, inl, inr, Bool, true, false, not, List, [], ◌∷◌, ◌++◌, length, get_or, map, filter, take, take_all, Contains, IsPermutation, arith}
use Rattle.std.proofs.lemmas.Bool.{eq-eqb, eqb-false, eqb-true, ne_eqb}
use Rattle.std.proofs.lemmas.List.{map-append, take_more}
use Rattle.std.proofs.lemmas.List.Sorted.{IsPermutation-append_left, IsPermutation-filter_both, IsPermutation-map, IsPermutation-refl, IsPermutation-trans}
use Rattle.proto_compilation.specs.Compilation.{CompiledFile, bytes_at, file_bytes}
use Rattle.proto_links.proofs.Rising.{IsStrict, Rises, front, front_or_behind, none_in, one_rising}
use Rattle.proto_links.proofs.Whole.{kept_from, kept_rises, kept_to}

abbrev pub no_file : CompiledFile
no_file = record { name = []; bytes = [] }

-- the file at a position
abbrev pub file_at : List CompiledFile → ℕ → CompiledFile
file_at files a = get_or files a no_file

bytes_there : (files : List CompiledFile) (a : ℕ) → file_bytes (file_at files a) ≡ bytes_at files a
bytes_there [] a = refl
bytes_there (f ∷ files) zero = refl
bytes_there (f ∷ files) (suc a) = bytes_there files a

pub all_bytes : (files : List CompiledFile) (xs : List ℕ)
    → map file_bytes (map (file_at files) xs) ≡ map (bytes_at files) xs
all_bytes files [] = refl
all_bytes files (x ∷ xs) =
    ap (λ (b : List ℕ). b ∷ map file_bytes (map (file_at files) xs)) (bytes_there files x)
    ∙ ap (λ (bs : List (List ℕ)). bytes_at files x ∷ bs) (all_bytes files xs)

-- ---- positions that rise by some order

twice_not : (b : Bool) → b ≡ not (not b)
twice_not true = refl
twice_not false = refl

differs : (a n : ℕ) → not (a == n) ≡ true → a ≢ n
differs a n other = eqb-false a n (twice_not (a == n) ∙ ap not other)

is_other : (a n : ℕ) → a ≢ n → not (a == n) ≡ true
is_other a n other = ap not (ne_eqb a n other)

module _ (R : ℕ → ℕ → Type 0) (strict : IsStrict R) (files : List CompiledFile) where
  -- of all positions up to one, this one stands by itself
  last_one : (n : ℕ) (xs : List ℕ) → Rises R xs → Contains xs n → filter (λ a. a == n) xs ≡ n ∷ []
  last_one n xs up has =
      let same : ℕ → Bool = λ a. a == n in
      one_rising R strict (filter same xs) (n ∷ []) (kept_rises R strict same xs up)
      (λ k d below. absurd (omega (arith, below)))
      (λ a kept. subst (λ b. Contains (n ∷ []) b) (sym (eqb-true a n (kept_to same xs a kept).1)) (front n []))
      (λ a one. elim (front_or_behind n [] a one) [
        | inl here ↦ subst (λ b. Contains (filter same xs) b) here (kept_from same xs n (eq-eqb n n refl) has)
        | inr there ↦ absurd (none_in a there)
      ])

  -- the files at all positions below a number, in any order, are the first files
  pub first_files : (n : ℕ) (xs : List ℕ) → n ≤ length files → Rises R xs → ((a : ℕ) → Contains xs a ↔ (a < n))
      → IsPermutation (map (file_at files) xs) (take n files)
  first_files zero [] most up members = IsPermutation-refl []
  first_files zero (x ∷ xs) most up members = absurd (omega (arith, (members x).0 (front x xs)))
  first_files (suc n) xs most up members =
      let same : ℕ → Bool = λ a. a == n in
      let other : ℕ → Bool = λ a. not (a == n) in
      let at = file_at files in
      let below = filter other xs in
      let rest = first_files n below (omega (arith, most)) (kept_rises R strict other xs up) (λ a. (
        λ has. (let (in_xs, passes) = kept_to other xs a has in
            omega (arith, (members a).0 in_xs, differs a n passes)),
        λ low. kept_from other xs a (is_other a n (omega (arith, low))) ((members a).1 (omega (arith, low))),
      )) in
      let one = last_one n xs up ((members n).1 (omega arith)) in
      let next : suc n ≡ n + 1 = omega arith in
      let apart = IsPermutation-map at xs (below ++ filter same xs)
      (IsPermutation-filter_both other same (λ a. twice_not (a == n)) xs) in
      let parts : map at (below ++ filter same xs) ≡ map at below ++ at n ∷ [] =
      map-append at below (filter same xs) ∙ ap (λ (ys : List ℕ). map at below ++ map at ys) one in
      let whole : take n files ++ at n ∷ [] ≡ take (suc n) files =
      sym (take_more files n no_file (omega (arith, most))) ∙ ap (λ (k : ℕ). take k files) (sym next) in
      IsPermutation-trans (map at xs) (map at below ++ at n ∷ []) (take (suc n) files)
      (subst (λ fs. IsPermutation (map at xs) fs) parts apart)
      (subst (λ fs. IsPermutation (map at below ++ at n ∷ []) fs) whole
      (IsPermutation-append_left (at n ∷ []) (map at below) (take n files) rest))

  pub all_files : (xs : List ℕ) → Rises R xs → ((a : ℕ) → Contains xs a ↔ (a < length files))
      → IsPermutation (map (file_at files) xs) files
  all_files xs up members = subst (λ fs. IsPermutation (map (file_at files) xs) fs)
      (take_all (length files) files (omega arith)) (first_files (length files) xs (omega arith) up members)
