-- The oneofs that `optional` fields make.
use Rattle.proto_lower.proofs.Common.{◌≡◌, ◌∙◌, ap, sym, refl, ◌+◌, ◌++◌, ℕ, zero, suc, Bool, true, false, List, [], ◌∷◌, length, take, arith, append_assoc, append-nil, Some, slice_get, count_by, cond, FieldDesc, OneofDesc, names_of_oneofs, made_named, with_one, with_made}
use Rattle.std.proofs.Math.ListN.{length-append}
use Rattle.std.proofs.Math.Seq.{take-append_seam}
use Rattle.std.proofs.lemmas.List.Sums.{sum_by-cons}

-- how many oneofs fields make
abbrev pub made_count : List FieldDesc → ℕ
made_count fs = count_by (λ f. f.proto3_optional) fs

pub made_count-cons : (f : FieldDesc) (fs : List FieldDesc)
    → made_count (f ∷ fs) ≡ cond f.proto3_optional 1 0 + made_count fs
made_count-cons f fs = sum_by-cons (λ (g : FieldDesc). cond g.proto3_optional 1 0) f fs

with_made-append : (names : List (List ℕ)) (so_far : List OneofDesc) (xs ys : List FieldDesc)
    → with_made names so_far (xs ++ ys) ≡ with_made names (with_made names so_far xs) ys
with_made-append names so_far [] ys = refl
with_made-append names so_far (x ∷ xs) ys = with_made-append names (with_one names so_far x x.proto3_optional) xs ys

length-with_one : (names : List (List ℕ)) (so_far : List OneofDesc) (f : FieldDesc) (b : Bool)
    → length (with_one names so_far f b) ≡ length so_far + cond b 1 0
length-with_one names so_far f b = grind (arith, length-append)

pub length-with_made : (names : List (List ℕ)) (so_far : List OneofDesc) (fs : List FieldDesc)
    → length (with_made names so_far fs) ≡ length so_far + made_count fs
length-with_made names so_far [] = omega arith
length-with_made names so_far (f ∷ fs) =
    let rest : length (with_made names so_far (f ∷ fs))
    ≡ length (with_one names so_far f f.proto3_optional) + made_count fs =
    length-with_made names (with_one names so_far f f.proto3_optional) fs in
    omega (arith, rest, length-with_one names so_far f f.proto3_optional, made_count-cons f fs)

-- oneofs are only added at the end
with_one-start : (names : List (List ℕ)) (so_far : List OneofDesc) (f : FieldDesc) (b : Bool)
    → (more : List OneofDesc) × (with_one names so_far f b ≡ so_far ++ more)
with_one-start names so_far f true = (made_named (names ++ names_of_oneofs so_far) f ∷ [], refl)
with_one-start names so_far f false = ([], sym (append-nil so_far))

pub with_made-start : (names : List (List ℕ)) (so_far : List OneofDesc) (fs : List FieldDesc)
    → (more : List OneofDesc) × (with_made names so_far fs ≡ so_far ++ more)
with_made-start names so_far [] = ([], sym (append-nil so_far))
with_made-start names so_far (f ∷ fs) =
    let one = with_one-start names so_far f f.proto3_optional in
    let rest = with_made-start names (with_one names so_far f f.proto3_optional) fs in
    (one.0 ++ rest.0, rest.1 ∙ ap (λ xs. xs ++ rest.0) one.1 ∙ append_assoc so_far one.0 rest.0)

-- the element behind a list
get_seam : {A : Type 0} (xs : List A) (y : A) (ys : List A) → slice_get (xs ++ y ∷ ys) (length xs) ≡ Some y
get_seam [] y ys = refl
get_seam (x ∷ xs) y ys = get_seam xs y ys

pub get_start : {A : Type 0} (xs ys : List A) (n : ℕ) (x : A) → slice_get xs n ≡ Some x
    → slice_get (xs ++ ys) n ≡ Some x
get_start [] ys n x at = cc
get_start (y ∷ xs) ys zero x at = at
get_start (y ∷ xs) ys (suc n) x at = get_start xs ys n x at

-- with the oneof of one field, where it is `optional`
with_one-made : (names : List (List ℕ)) (so_far : List OneofDesc) (f : FieldDesc) (b : Bool) → b ≡ true
    → with_one names so_far f b ≡ so_far ++ made_named (names ++ names_of_oneofs so_far) f ∷ []
with_one-made names so_far f b h = grind arith

pub with_made-seam : (names : List (List ℕ)) (so_far : List OneofDesc) (before : List FieldDesc) (f : FieldDesc)
    (after : List FieldDesc)
    → f.proto3_optional ≡ true
    → (more : List OneofDesc) × (with_made names so_far (before ++ f ∷ after)
    ≡ with_made names so_far before ++ made_named (names ++ names_of_oneofs (with_made names so_far before)) f ∷ more)
with_made-seam names so_far before f after optional =
    let done = with_made names so_far before in
    let made = made_named (names ++ names_of_oneofs done) f in
    let rest = with_made-start names (with_one names done f f.proto3_optional) after in (
      rest.0,
      with_made-append names so_far before (f ∷ after) ∙ rest.1
          ∙ ap (λ xs. xs ++ rest.0) (with_one-made names done f f.proto3_optional optional)
          ∙ append_assoc done (made ∷ []) rest.0,
    )

-- the oneof of an `optional` field stands behind those so far and those of the fields before it
pub slice_get-with_made : (names : List (List ℕ)) (so_far : List OneofDesc) (before : List FieldDesc) (f : FieldDesc)
    (after : List FieldDesc) (index : ℕ)
    → f.proto3_optional ≡ true → index ≡ length so_far + made_count before
    → slice_get (with_made names so_far (before ++ f ∷ after)) index
    ≡ Some (made_named (names ++ names_of_oneofs (take index (with_made names so_far (before ++ f ∷ after)))) f)
slice_get-with_made names so_far before f after index optional is =
    let done = with_made names so_far before in
    let made = made_named (names ++ names_of_oneofs done) f in
    let seam = with_made-seam names so_far before f after optional in
    let at : index ≡ length done = omega (arith, is, length-with_made names so_far before) in
    rw (seam.1, at, take-append_seam) (get_seam done made seam.0)
