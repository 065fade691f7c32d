-- What occurs in files: of which file it is, what a walk over them has put so far, and what is twice in another order.
use Rattle.proto_names.proofs.Common.{◌≤◌, ◌≡◌, ◌≢◌, ℕ, ◌+◌, ◌<◌, List, [], ◌∷◌, length, refl, arith, cond, ◌==◌, All, Contains, IsPermutation, Option, None, Some, slice_get, swap, ◌++◌, map, take, drop, get_or, append_assoc, length-append, nat_tests, All-append, All-contains, All-map, All-nil, Contains-permutation, IsPermutation-keeps, IsPermutation-sym, gets, slice_get_within, declared_by, Occurrence, IsTwice, declared_occurrence, package_occurrence, package_occurrences, occurrences_of, occurrences_from, occurrences, prefixes, common_steps, flat_map-append, drop-append_seam, take-add, take-append_seam, length-map, take-append-le, take_more, take-append-drop, ArePlaced, IsCollected, files_in, each_push, get_drop}
use Rattle.std.proofs.lemmas.List.Edits.{length-swap, swapped_from_swap}
use Rattle.proto_desc.specs.declared.file.FileDesc.{FileDesc}
use Rattle.proto_desc.specs.declared.file.PackageDescriptor.{PackageDescriptor}
use Rattle.std.proofs.lemmas.List.{append-nil}
use Rattle.share_work.specs.Shares.{GivesItems}
use Rattle.share_work.proofs.Together.{get_there}
use Rattle.proto_names.specs.declared.part.Part.{Part}

-- ---- the files of occurrences

abbrev AreBelow : ℕ → List Occurrence → Type 0
AreBelow n = All (λ o. o.file < n)

packages_below : (n file : ℕ) (declared : Option PackageDescriptor) → file < n
    → AreBelow n (package_occurrences file declared)
packages_below n file None below = All-nil (λ (o : Occurrence). o.file < n)
packages_below n file (Some p) below =
    All-map (λ o. o.file < n) (package_occurrence file p.place) (prefixes p.name) (λ k d h. below)

files_below : (n first : ℕ) (files : List FileDesc) → first + length files ≤ n
    → AreBelow n (occurrences_from first files)
files_below n first [] within = All-nil (λ (o : Occurrence). o.file < n)
files_below n first (f ∷ files) within =
    let below : first < n = omega arith in
    let declared = All-map (λ o. o.file < n) (declared_occurrence first) (declared_by f) (λ k d h. below) in
    let here = All-append (λ o. o.file < n) (package_occurrences first f.«package») _
    (packages_below n first f.«package» below) declared in
    All-append (λ o. o.file < n) (occurrences_of first f) _ here (files_below n (first + 1) files (omega arith))

pub below_from : (first : ℕ) (files : List FileDesc) (o : Occurrence) → Contains (occurrences_from first files) o
    → o.file < first + length files
below_from first files o within =
    All-contains (λ o. o.file < first + length files) _ o (files_below _ first files (omega arith)) within

-- each occurrence is of one of the files
pub below_files : (files : List FileDesc) (os : List Occurrence) → IsPermutation (occurrences files) os
    → (o : Occurrence) → Contains os o
    → o.file < length files
below_files files os same o within =
    let here = Contains-permutation os (occurrences files) o (IsPermutation-sym (occurrences files) os same) within in
    omega (arith, below_from 0 files o here)

pub all_below : (files : List FileDesc) (os : List Occurrence) → os ≡ occurrences files
    → All (λ (o : Occurrence). o.file < length files) os
all_below files os same = rw same (files_below (length files) 0 files (omega arith))

-- ---- what a walk over files has put so far

occurrences_from-append : (first : ℕ) (xs ys : List FileDesc)
    → occurrences_from first (xs ++ ys) ≡ occurrences_from first xs ++ occurrences_from (first + length xs) ys
occurrences_from-append first [] ys = grind (arith, common_steps)
occurrences_from-append first (x ∷ xs) ys =
    grind (arith, common_steps, append_assoc, (occurrences_from-append (first + 1) xs ys))

-- the first files have no more than all
pub occurrences_prefix : (first : ℕ) (files : List FileDesc) (k : ℕ)
    → length (occurrences_from first (take k files)) ≤ length (occurrences_from first files)
occurrences_prefix first files k =
    let whole = occurrences_from-append first (take k files) (drop k files) in
    grind (arith, whole, take-append-drop k files, length-append)

-- those of one more file
pub occurrences_more : (first : ℕ) (files : List FileDesc) (k : ℕ) (f : FileDesc) (now next : List Occurrence)
    → k < length files → f ≡ get_or files k f
    → now ≡ occurrences_from first (take k files) → next ≡ now ++ occurrences_of (first + k) f
    → next ≡ occurrences_from first (take (k + 1) files)
occurrences_more first files k f now next within at so_far put =
    grind (arith, common_steps, take_more files k f within, occurrences_from-append, append-nil)

-- ---- parts of files, collected one after the other

-- the occurrences of a part and of those before it are no more than all
module _ (parts : List Part) (k : ℕ) (p : Part) (stands : slice_get parts k ≡ Some p) (placed : ArePlaced parts) where
  pub all_next : occurrences_from 0 (files_in (take (k + 1) parts))
      ≡ occurrences_from 0 (files_in (take k parts)) ++ occurrences_from p.first p.files.now
  all_next =
      let more = take_more parts k p in
      grind (arith, common_steps, gets, more, flat_map-append, append-nil, stands, occurrences_from-append)

  pub few_next : length (occurrences_from 0 (files_in (take k parts))) + length (occurrences_from p.first p.files.now)
      ≤ length (occurrences_from 0 (files_in parts))
  few_next =
      let whole = flat_map-append (λ (p : Part). p.files.now) (take (k + 1) parts) (drop (k + 1) parts) in
      let all = occurrences_from-append 0 (files_in (take (k + 1) parts)) (files_in (drop (k + 1) parts)) in
      grind (arith, common_steps, whole, take-append-drop (k + 1) parts, all, all_next, length-append)

-- what was collected in the next part
pub collected_next : (limit : ℕ) (parts : List Part) (outs rest : List (Option (List Occurrence)))
    (all : List (List Occurrence))
    (out : Option (List Occurrence)) → GivesItems (λ i part. IsCollected limit part.first part.files.now) 0 parts outs
    → map Some all ++ out ∷ rest ≡ outs
    → (p : Part) × (slice_get parts (length all) ≡ Some p) × IsCollected limit p.first p.files.now out
collected_next limit parts outs rest all out given whole =
    let behind = rw (drop-append_seam (map Some all) (out ∷ rest))
    at (get_drop (length (map Some all)) (map Some all ++ out ∷ rest) 0) in
    let at : slice_get outs (length all) ≡ Some out = grind (arith, whole, behind, length-map) in
    let (p, here) = get_there parts (length all) (omega (arith, given.0, slice_get_within outs (length all) out at)) in
    (p, here, given.1 (length all) p out here at)

-- ---- cutting files into parts

-- one more part
pub placed_more : (parts : List Part) (p : Part) → ArePlaced parts → p.first ≡ length (files_in parts)
    → ArePlaced (parts ++ p ∷ [])
placed_more parts p placed here =
    each_push (λ k q. q.first ≡ length (files_in (take k (parts ++ p ∷ [])))) parts p
    (λ k q at. (let inside = slice_get_within parts k q at in
    rw (take-append-le k parts (p ∷ []) (omega arith)) (placed k q at)))
    (rw (take-append_seam parts (p ∷ [])) here)

pub files_more : (files : List FileDesc) (parts : List Part) (p : Part) (first count : ℕ)
    → files_in parts ≡ take first files
    → p.files.now ≡ take count (drop first files) → files_in (parts ++ p ∷ []) ≡ take (first + count) files
files_more files parts p first count so_far is = grind (arith, common_steps, take-add, append-nil, flat_map-append)

-- ---- in another order

-- where what stood at i stands once m and n are exchanged
unfoldable moved : ℕ → ℕ → ℕ → ℕ
moved m n i = cond (i == m) n (cond (i == n) m i)

moved_apart : (m n i j : ℕ) → i ≢ j → moved m n i ≢ moved m n j
unfolding moved
moved_apart m n i j apart same = grind (arith, nat_tests)

stands_moved : (os : List Occurrence) (m n i : ℕ) (o : Occurrence) → m < length os → n < length os
    → slice_get os i ≡ Some o → slice_get (swap os m n) (moved m n i) ≡ Some o
unfolding moved
stands_moved os m n i o low high stands =
    let swapped = swapped_from_swap os (swap os m n) m n o low high refl in
    grind (arith, nat_tests, gets, length-swap os m n, swapped, slice_get_within os i o stands)

pub twice_moved : (xs ys : List Occurrence) → IsPermutation xs ys → (b : Occurrence) → IsTwice xs b → IsTwice ys b
twice_moved xs ys same b twice = IsPermutation-keeps xs (λ os. IsTwice os b) twice step ys same where
  step : (os : List Occurrence) (m n : ℕ) → m < length os → n < length os → IsTwice os b → IsTwice (swap os m n) b
  step os m n low high (a, (i, j, apart, first, second), clash) =
      let one = stands_moved os m n i a low high first in
      let other = stands_moved os m n j b low high second in
      grind (arith, moved_apart m n i j apart, one, other)
