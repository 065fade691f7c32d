-- Names without underscores are their own JSON names.
use Rattle.std.proofs.Common.{length, ◌⊎◌, ◌≢◌, ◌≡◌, ◌∙◌, ℕ, List, [], ◌∷◌, ◌++◌, append_assoc, sym, refl, true, false, arith, if◌then◌else◌, ◌==◌, encode_utf8, encode_utf8_all}
use Rattle.std.proofs.lemmas.Bool.Decides.{nat_tests}
use Rattle.std.proofs.lemmas.List.{append-nil}
use Rattle.std.proofs.lemmas.List.Folds.{list_any-append}
use Rattle.std.specs.List.{list_any}
use Rattle.std.specs.Str.{chars, IsUtf8}
use Rattle.proto_desc.specs.JsonNames.{letters_behind, raised, json_name_of}
use Rattle.std.specs.Char.{to_ascii_uppercase}
use Rattle.std.proofs.lemmas.Str.{encodes-chars, cons_from_encodes, encodes_same}

letters_unchanged : (before : ℕ) (cs : List ℕ) → (before == 95) ≡ false → list_any (λ c. c == 95) cs ≡ false
    → letters_behind before cs ≡ cs
letters_unchanged before [] apart none = refl
letters_unchanged before (c ∷ cs) apart none = grind (arith, nat_tests, letters_unchanged c cs)

-- an underscore among the characters is one of the bytes
none_of_letters : (cs : List ℕ) → list_any (λ c. c == 95) (encode_utf8_all cs) ≡ false
    → list_any (λ c. c == 95) cs ≡ false
unfolding lib.Utf8.encode
none_of_letters [] none = refl
none_of_letters (c ∷ cs) none =
    let parts = sym (list_any-append (λ b. b == 95) (encode_utf8 c) (encode_utf8_all cs)) ∙ none in
    let byte : c ≡ 95 → list_any (λ b. b == 95) (encode_utf8 c) ≡ true = λ same. rw same refl in
    let rest : list_any (λ b. b == 95) (encode_utf8_all cs) ≡ false = grind (arith, nat_tests) in
    let others = none_of_letters cs rest in
    grind (arith, nat_tests)

pub json_name_unchanged : (name : List ℕ) → IsUtf8 name → list_any (λ c. c == 95) name ≡ false
    → json_name_of name ≡ name
json_name_unchanged name utf8 none = grind (arith, encodes-chars, letters_unchanged, none_of_letters)

-- what was made, and what becomes of the rest of the name behind the character `before`, is all that is to be made
pub record IsSoFar (made : List ℕ) (before : ℕ) (rest all : List ℕ) : Type 0 where
  pub letters : List ℕ
  pub spelled : encode_utf8_all letters ≡ rest
  pub whole : made ++ encode_utf8_all (letters_behind before letters) ≡ all

pub so_far_start : (old name : List ℕ) (first : ℕ) → IsUtf8 name → IsSoFar old first name (old ++ raised first name)
so_far_start old name first utf8 = record { letters = chars name; spelled = encodes-chars name utf8; whole = refl }

pub so_far_dropped : (made : List ℕ) (before : ℕ) (rest all : List ℕ) (c : ℕ) (more : List ℕ)
    → IsSoFar made before rest all → rest ≡ encode_utf8 c ++ more → c ≡ 95 → IsSoFar made c more all
so_far_dropped made before rest all c more so_far next underscore = grind (arith, cons_from_encodes, nat_tests)

pub so_far_pushed : (made : List ℕ) (before : ℕ) (rest all : List ℕ) (c d : ℕ) (pushed more : List ℕ)
    → IsSoFar made before rest all → rest ≡ encode_utf8 c ++ more → (c == 95) ≡ false
    → d ≡ (if before == 95 then to_ascii_uppercase c else c) → pushed ≡ made ++ encode_utf8 d
    → IsSoFar pushed c more all
so_far_pushed made before rest all c d pushed more so_far next test raised_by pushed_is =
    grind (arith, cons_from_encodes, append_assoc)

pub raised_as : (before c pushed : ℕ) → ((before ≡ 95) × (pushed ≡ to_ascii_uppercase c))
    ⊎ ((before ≢ 95) × (pushed ≡ c))
    → pushed ≡ (if before == 95 then to_ascii_uppercase c else c)
raised_as before c pushed h = grind (arith, nat_tests)

pub so_far_end : (made : List ℕ) (before : ℕ) (rest all : List ℕ) → IsSoFar made before rest all → length rest ≡ 0
    → made ≡ all
so_far_end made before [] all so_far done =
    let none : so_far.letters ≡ [] = encodes_same so_far.letters [] so_far.spelled in
    sym (append-nil made) ∙ (rw none at so_far.whole)
so_far_end made before (b ∷ rest) all so_far done = grind arith
