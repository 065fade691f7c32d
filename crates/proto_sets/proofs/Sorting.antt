-- Files in the order of their names, which is one; names that stand twice among them; and sorted names.
use Rattle.std.proofs.Common.{◌≡◌, ◌≢◌, ◌∙◌, sym, ℕ, suc, ◌+◌, ◌<◌, ◌≤◌, ◌⊎◌, inl, inr, List, [], ◌∷◌, length, take, get_or, map, ap, refl, arith, Ordering, Less, Equal, Greater, false, Bool, Contains, IsPermutation, IsSorted, sum_by, nat_cmp, is_lt, get_or-take, length-take}
use Rattle.std.proofs.lemmas.List.{length-map, get_or_default, get_or-map}
use Rattle.std.proofs.lemmas.List.Sorted.{sum_by-IsPermutation, Contains-permutation, IsPermutation-sym, IsPermutation-map, sorted_far}
use Rattle.std.proofs.lemmas.List.Sums.{sum_by-cons, get_or-le-sum_by, sum_by_more_le}
use Rattle.std.specs.Cmp.Lexicographic.{slice_cmp}
use Rattle.std.specs.Cmp.{IsStrictWeakOrder}
use Rattle.std.proofs.lemmas.Cmp.{nat_list_cmp_total, tied_itself}
use Rattle.std.proofs.lemmas.List.MinMax.{ranks_by}
use Rattle.std.proofs.lemmas.Map.Lookups.{exact_bytes}
use Rattle.proto_base.specs.NameOrder.{NamesRise}
use Rattle.proto_compilation.specs.Compilation.{CompiledFile, file_name}
use Rattle.proto_links.proofs.NameRows.{not_less_itself}
use Rattle.proto_links.proofs.Rising.{IsStrict, Rises, one_rising, rest_rises}
use Rattle.proto_sets.specs.SetFaults.{name_at}
use Rattle.proto_sets.specs.SetSteps.{AreSorted}

-- the first of a list that has one
pub first_of : {X : Type 0} (xs : List X) (k : ℕ) → k < length xs → X
first_of [] k h = absurd (omega (arith, h))
first_of (x ∷ xs) k h = x

pub name_is : (files : List CompiledFile) (k : ℕ) (d : CompiledFile) → k < length files
    → name_at files k ≡ file_name (get_or files k d)
name_is files k d h = get_or-map file_name files k d [] h

pub name_of_item : (files : List CompiledFile) (k : ℕ) (s : CompiledFile) → k < length files → s ≡ get_or files k s
    → name_at files k ≡ file_name s
name_of_item files k s h is = name_is files k s h ∙ ap file_name (sym is)

-- ---- files by name

abbrev IsNameBefore : CompiledFile → CompiledFile → Type 0
IsNameBefore a b = slice_cmp nat_cmp (file_name a) (file_name b) ≡ Less

names_strict : IsStrict IsNameBefore
names_strict = grind (arith, nat_list_cmp_total, not_less_itself)

files_rise : (files : List CompiledFile) → NamesRise (map file_name files) → Rises IsNameBefore files
files_rise files up k d h = grind (arith, length-map, name_is)

-- members of one order of a list are members of another one
pub moved : {X : Type 0} {xs ys zs : List X} → IsPermutation xs ys → IsPermutation xs zs → (x : X) → Contains ys x
    → Contains zs x
moved {xs = xs} {ys = ys} {zs = zs} first second x w =
    Contains-permutation xs zs x second (Contains-permutation ys xs x (IsPermutation-sym xs ys first) w)

-- files have one order by name
pub one_order : (placed f g : List CompiledFile) → IsPermutation placed f → NamesRise (map file_name f)
    → IsPermutation placed g → NamesRise (map file_name g) → f ≡ g
one_order placed f g first rises second rise =
    one_rising IsNameBefore names_strict f g (files_rise f rises) (files_rise g rise) (moved first second)
    (moved second first)

-- ---- sorted names

abbrev is_less : List ℕ → List ℕ → Bool
is_less x y = is_lt (slice_cmp nat_cmp x y)

less_order : IsStrictWeakOrder is_less
less_order = ranks_by nat_list_cmp_total (λ n. n)

-- no name is less than the one before it
pub not_greater : (xs ys : List ℕ) → is_less ys xs ≡ false → slice_cmp nat_cmp xs ys ≢ Greater
not_greater xs ys h g = grind (arith, nat_list_cmp_total)

not_less : (xs ys : List ℕ) → slice_cmp nat_cmp xs ys ≢ Greater → is_less ys xs ≡ false
not_less xs ys h = grind (arith, nat_list_cmp_total)

same_name : (x y : List ℕ) → is_less x y ≡ false → is_less y x ≡ false → x ≡ y
same_name x y h k = grind (arith, nat_list_cmp_total, exact_bytes)

-- sorted names that differ rise
pub strictly : (placed files : List CompiledFile) → AreSorted placed files
    → ((k : ℕ) → k + 1 < length files → name_at files k ≢ name_at files (k + 1)) → NamesRise (map file_name files)
strictly placed files sorted differ =
    λ k h. grind (arith, length-map, exact_bytes, sorted.rises k, differ k)

-- the name of what stands at a position, as a file
pub name_by : {X : Type 0} (file_by : X → CompiledFile) (xs : List X) (k : ℕ) (d : X) → k < length xs
    → name_at (map file_by xs) k ≡ file_name (file_by (get_or xs k d))
name_by file_by xs k d h =
    name_is (map file_by xs) k (file_by d) (omega (arith, h, length-map xs file_by))
    ∙ ap file_name (get_or-map file_by xs k d (file_by d) h)

-- in an order that begins with the names
pub sorted_names : {X : Type 0} (file_by : X → CompiledFile) (cmp : X → X → Ordering) (xs : List X)
    → ((a b : X) → is_lt (cmp a b) ≡ false → is_less (file_name (file_by a)) (file_name (file_by b)) ≡ false)
    → IsSorted cmp xs → (k : ℕ) → k + 1 < length (map file_by xs)
    → slice_cmp nat_cmp (name_at (map file_by xs) k) (name_at (map file_by xs) (k + 1)) ≢ Greater
sorted_names file_by cmp xs finer up k h =
    let below : k + 1 < length xs = omega (arith, h, length-map xs file_by) in
    let d = first_of xs (k + 1) below in
    let before : k < length xs = omega (arith, below) in
    let one = name_by file_by xs k d before in
    let two = name_by file_by xs (k + 1) d below in
    let name : ℕ → List ℕ = λ i. file_name (file_by (get_or xs i d)) in
    rw (one, two) (not_greater (name k) (name (k + 1)) (finer (get_or xs (k + 1) d) (get_or xs k d)
    (up k d (omega arith) below)))

-- of sorted files, none has a name less than that of one before it
pub not_before : (placed files : List CompiledFile) (k j : ℕ) → AreSorted placed files → k ≤ j → j < length files
    → is_less (name_at files j) (name_at files k) ≡ false
not_before placed files k j sorted most h =
    let size = length-map files file_name in
    sorted_far is_less less_order (map file_name files)
    (λ i d low inside. grind (arith, length-map, get_or_default, not_less, sorted.rises i))
    k j [] most (omega (arith, h, size))

-- ---- names are counted

abbrev one_where : Ordering → ℕ
one_where Less = 0
one_where Equal = 1
one_where Greater = 0

-- 1 for the name n
abbrev hits : List ℕ → List ℕ → ℕ
hits n x = one_where (slice_cmp nat_cmp x n)

hit : (n x : List ℕ) → x ≡ n → hits n x ≡ 1
hit n x e = grind (arith, nat_list_cmp_total, tied_itself)

hit_or_none : (n x : List ℕ) → ((x ≡ n) × (hits n x ≡ 1)) ⊎ (hits n x ≡ 0)
hit_or_none n x = grind (arith, exact_bytes)

find : (ns : List (List ℕ)) (n : List ℕ) → 1 ≤ sum_by (hits n) ns → (i : ℕ) × (i < length ns) × (get_or ns i [] ≡ n)
find [] n h = absurd (omega (arith, h))
find (x ∷ ns) n h = elim (hit_or_none n x) [
  | inl found ↦ (0, omega arith, found.0)
  | inr none ↦ (
      let r = find ns n (omega (arith, h, sum_by-cons (hits n) x ns, none)) in
      (suc r.0, omega (arith, r.1), r.2))
]

-- ---- names that stand twice

abbrev pub Two : List (List ℕ) → List ℕ → Type 0
Two ns n = (i : ℕ) × (j : ℕ) × (i < j) × (j < length ns) × (get_or ns i [] ≡ n) × (get_or ns j [] ≡ n)

counted : (ns : List (List ℕ)) (n : List ℕ) → Two ns n → 2 ≤ sum_by (hits n) ns
counted ns n (i, j, less, below, first, second) = grind (
  arith,
  length-take j ns,
  get_or-take j ns i [] less,
  hit n (get_or ns i []) first,
  hit n (get_or ns j []) second,
  get_or-le-sum_by (hits n) (take j ns) i [],
  sum_by_more_le (hits n) ns j [] below,
)

find_two : (ns : List (List ℕ)) (n : List ℕ) → 2 ≤ sum_by (hits n) ns → Two ns n
find_two [] n h = absurd (omega (arith, h))
find_two (x ∷ ns) n h = elim (hit_or_none n x) [
  | inl found ↦ (
      let r = find ns n (omega (arith, h, sum_by-cons (hits n) x ns, found.1)) in
      (0, suc r.0, omega arith, omega (arith, r.1), found.0, r.2))
  | inr none ↦ (
      let r = find_two ns n (omega (arith, h, sum_by-cons (hits n) x ns, none)) in
      (suc r.0, suc r.1, omega (arith, r.2), omega (arith, r.3), r.4, r.5))
]

-- two of one name in one order of files, two of it in another one
pub two_moved : (xs ys : List CompiledFile) (n : List ℕ) → IsPermutation xs ys → Two (map file_name xs) n
    → Two (map file_name ys) n
two_moved xs ys n order two =
    let here = counted (map file_name xs) n two in
    let same = sum_by-IsPermutation (hits n) (map file_name xs) (map file_name ys)
    (IsPermutation-map file_name xs ys order) in
    find_two (map file_name ys) n (omega (arith, here, same))

pub two_at : (placed : List CompiledFile) (i j : ℕ) → i < j → j < length placed → name_at placed i ≡ name_at placed j
    → Two (map file_name placed) (name_at placed i)
two_at placed i j less below same = (i, j, less, omega (arith, below, length-map placed file_name), refl, sym same)

-- two neighbours have the name that two of them have
pub neighbours : (placed files : List CompiledFile) (n : List ℕ) → AreSorted placed files → Two (map file_name placed) n
    → (k : ℕ) × (k + 1 < length files) × (name_at files k ≡ n) × (name_at files k ≡ name_at files (k + 1))
neighbours placed files n sorted two =
    let (i, j, less, below, first, second) = two_moved placed files n sorted.all two in
    let size = length-map files file_name in
    let left = not_before placed files i (i + 1) sorted (omega arith) (omega (arith, less, below, size)) in
    let right = not_before placed files (i + 1) j sorted (omega (arith, less)) (omega (arith, below, size)) in
    let up = rw (second ∙ sym first) at right in
    (i, omega (arith, less, below, size), first, same_name (name_at files i) (name_at files (i + 1)) up left)

-- ---- sorted names that each sum counts alike

abbrev pub IsNoLess : List ℕ → List ℕ → Type 0
IsNoLess x y = is_less y x ≡ false

-- none is less than the first of them
none_less : (x y : List ℕ) (xs ys : List (List ℕ)) → Rises IsNoLess (y ∷ ys)
    → sum_by (hits x) (x ∷ xs) ≡ sum_by (hits x) (y ∷ ys) → is_less x y ≡ false
none_less x y xs ys up alike =
    let (j, below, is) = find (y ∷ ys) x (omega (arith, alike, sum_by-cons (hits x) x xs, hit x x refl)) in
    rw is at (sorted_far is_less less_order (y ∷ ys) (λ k d low h. up k d h) 0 j [] (omega arith) below)

pub one_sorted : (xs ys : List (List ℕ)) → Rises IsNoLess xs → Rises IsNoLess ys
    → ((f : List ℕ → ℕ) → sum_by f xs ≡ sum_by f ys) → xs ≡ ys
one_sorted [] [] up over alike = refl
one_sorted [] (y ∷ ys) up over alike = absurd (omega (arith, alike (λ z. 1), sum_by-cons (λ z. 1) y ys))
one_sorted (x ∷ xs) [] up over alike = absurd (omega (arith, alike (λ z. 1), sum_by-cons (λ z. 1) x xs))
one_sorted (x ∷ xs) (y ∷ ys) up over alike =
    let same : x ≡ y = same_name x y (none_less x y xs ys over (alike (hits x)))
    (none_less y x ys xs up (sym (alike (hits y)))) in
    let rest : xs ≡ ys = one_sorted xs ys (rest_rises IsNoLess x xs up) (rest_rises IsNoLess y ys over)
    (λ f. omega (arith, alike f, ap f same, sum_by-cons f x xs, sum_by-cons f y ys)) in
    cc (same, rest)
