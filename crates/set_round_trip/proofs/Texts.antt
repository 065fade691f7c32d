-- The names that are made of others are UTF-8, as these are.
use Rattle.std.proofs.Common.{◌≡◌, refl, ℕ, zero, suc, ◌<◌, Bool, true, false, if◌then◌else◌, ◌==◌, List, [], ◌∷◌, ◌++◌, codes, flat_map, length, IsTrue, IsUtf8, arith}
use Rattle.std.proofs.lemmas.Bool.Decides.{nat_tests}
use Rattle.std.proofs.lemmas.Grind.{common_steps}
use Rattle.std.proofs.lemmas.List.Elements.{All-head, All-tail}
use Rattle.std.proofs.lemmas.List.Sums.{AllPass-from_list_all}
use Rattle.std.proofs.lemmas.Str.{IsUtf8-append, IsUtf8-from_ascii, IsUtf8-nil, scalars-chars}
use Rattle.std.specs.Char.{IsScalar, to_ascii_uppercase}
use Rattle.std.specs.List.{AllByRecursion, AllPass, prefix_len, range_with_len}
use Rattle.std.specs.Set.{is_member}
use Rattle.std.specs.Str.{all_scalars, bytes_eq, chars}
use Rattle.proto_desc.specs.JsonNames.{letters_behind, raised}
use Rattle.proto_lower.specs.Names.{behind_letters, entry_name_of, oneof_name_of, with_underscore}
use Rattle.proto_tokens.specs.Bytes.{is_word}

-- ---- ASCII

byte_text : (b : ℕ) → b < 128 → IsUtf8 (b ∷ [])
byte_text b small = IsUtf8-from_ascii (b ∷ []) (λ i. grind (arith, common_steps))

pub more_text : (b : ℕ) (bs : List ℕ) → b < 128 → IsUtf8 bs → IsUtf8 (b ∷ bs)
more_text b bs small utf8 = IsUtf8-append (b ∷ []) bs (byte_text b small) utf8

word_small : (b : ℕ) → IsTrue (is_word b) → b < 128
word_small b word = grind (arith, nat_tests)

-- letters, digits and `_`
pub words_text : (bs : List ℕ) → AllPass is_word bs → IsUtf8 bs
words_text [] words = IsUtf8-nil
words_text (b ∷ bs) words = more_text b bs (word_small b (All-head (λ c. is_word c ≡ true) b bs words))
    (words_text bs (All-tail (λ c. is_word c ≡ true) b bs words))

pub key_text : IsUtf8 (codes "key")
key_text = words_text (codes "key") (AllPass-from_list_all is_word (codes "key") refl)

pub value_text : IsUtf8 (codes "value")
value_text = words_text (codes "value") (AllPass-from_list_all is_word (codes "value") refl)

-- ---- texts side by side

pub flat_text : {A : Type 0} (f : A → List ℕ) (xs : List A) → AllByRecursion (λ x. IsUtf8 (f x)) xs
    → IsUtf8 (flat_map f xs)
flat_text f [] all = IsUtf8-nil
flat_text f (x ∷ xs) all = IsUtf8-append (f x) (flat_map f xs) all.0 (flat_text f xs all.1)

-- ---- entries

both_scalar : (c : ℕ) (cs : List ℕ) → all_scalars (c ∷ cs) ≡ true → IsScalar c × (all_scalars cs ≡ true)
both_scalar c cs scalars = grind arith

upper_scalar : (c : ℕ) → IsScalar c → IsScalar (to_ascii_uppercase c)
upper_scalar c scalar = grind (arith, nat_tests)

raised_scalar : (is_raised : Bool) (c : ℕ) → IsScalar c → IsScalar (if is_raised then to_ascii_uppercase c else c)
raised_scalar true c scalar = upper_scalar c scalar
raised_scalar false c scalar = scalar

letter_scalar : (is_dropped is_raised : Bool) (c : ℕ) (rest : List ℕ) → IsScalar c → all_scalars rest ≡ true
    → all_scalars ((if is_dropped then [] else ((if is_raised then to_ascii_uppercase c else c) ∷ [])) ++ rest) ≡ true
letter_scalar true is_raised c rest scalar others = others
letter_scalar false is_raised c rest scalar others = rw (raised_scalar is_raised c scalar) others

letters_scalar : (before : ℕ) (cs : List ℕ) → all_scalars cs ≡ true → all_scalars (letters_behind before cs) ≡ true
letters_scalar before [] scalars = refl
letters_scalar before (c ∷ cs) scalars =
    let (first, others) = both_scalar c cs scalars in
    letter_scalar (c == 95) (before == 95) c (letters_behind c cs) first (letters_scalar c cs others)

raised_text : (first : ℕ) (name : List ℕ) → IsUtf8 name → IsUtf8 (raised first name)
raised_text first name utf8 =
    (letters_behind first (chars name), (letters_scalar first (chars name) (scalars-chars name utf8), refl))

pub entry_text : (name : List ℕ) → IsUtf8 name → IsUtf8 (entry_name_of name)
entry_text name utf8 = IsUtf8-append (raised 95 name) (codes "Entry") (raised_text 95 name utf8)
    (words_text (codes "Entry") (AllPass-from_list_all is_word (codes "Entry") refl))

-- ---- oneofs

behind_text : (count : ℕ) (name : List ℕ) → IsUtf8 name → IsUtf8 (behind_letters count name)
behind_text zero name utf8 = utf8
behind_text (suc count) name utf8 = more_text 88 (behind_letters count name) (omega arith) (behind_text count name utf8)

either_text : (is_there : Bool) (name : List ℕ) → IsUtf8 name → IsUtf8 (if is_there then name else 95 ∷ name)
either_text true name utf8 = utf8
either_text false name utf8 = more_text 95 name (omega arith) utf8

underscore_text : (name : List ℕ) → IsUtf8 name → IsUtf8 (with_underscore name)
underscore_text [] utf8 = byte_text 95 (omega arith)
underscore_text (c ∷ cs) utf8 = either_text (c == 95) (c ∷ cs) utf8

pub oneof_text : (taken : List (List ℕ)) (name : List ℕ) → IsUtf8 name → IsUtf8 (oneof_name_of taken name)
oneof_text taken name utf8 =
    let spelled = with_underscore name in
    behind_text (prefix_len (λ count. is_member bytes_eq taken (behind_letters count spelled))
    (range_with_len 0 (length taken))) spelled (underscore_text name utf8)
