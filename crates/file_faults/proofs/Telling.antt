-- The faults of sources by themselves: there is one list of them, in the order of faults, and which faults it tells.
use Rattle.std.proofs.Common.{◌≡◌, ◌≢◌, ◌∙◌, sym, subst, ap, refl, ℕ, zero, suc, ◌<◌, ◌≤◌, ◌+◌, inl, inr, List, [], ◌∷◌, ◌++◌, length, map, arith, Contains}
use Rattle.std.specs.Prelude.{AllPairs, ◌↔◌}
use Rattle.std.proofs.lemmas.Bool.{cases_order}
use Rattle.std.proofs.lemmas.Bool.Decides.{nat_tests}
use Rattle.std.proofs.lemmas.List.{length-map}
use Rattle.std.proofs.lemmas.List.Elements.{Contains-append_cases, Contains-append_left, Contains-append_right}
use Rattle.std.proofs.lemmas.Cmp.{nat_list_cmp_total, tied_itself}
use Rattle.std.proofs.lemmas.List.Sorted.{IsPermutation-refl}
use Rattle.proto_base.specs.FileFaults as file_faults
use Rattle.proto_base.specs.Limits.{limit_of}
use Rattle.proto_base.specs.NameOrder.{NamesRise}
use Rattle.proto_base.specs.declared.fault.Fault.{Fault}
use Rattle.proto_base.specs.declared.file_fault.FileFault.{FileFault}
use Rattle.proto_base.specs.declared.limits.Limit.TheVariants as limit
use Rattle.proto_base.specs.declared.limits.Limits.{Limits}
use Rattle.proto_compile.specs.FaultSet.{Breaks, IsEarlier, IsFault, IsLeastFault, IsNoLater, SourceFault, bad_import, bad_type, fault, file_fault, long_descriptor, long_set, many_files, many_names, repeated_file_name, repeated_name, told_by}
use Rattle.proto_compile.specs.Sources.{AreByName, name_of, text_of}
use Rattle.proto_compile.specs.declared.source.Source.{Source}
use Rattle.proto_compile.proofs.LeastFault.{no_later_itself, none_of_list}
use Rattle.proto_compile.proofs.Placing.{NoneBefore}
use Rattle.proto_compile.proofs.Sorting.{moved, name_of_item}
use Rattle.proto_links.proofs.NameRows.{rise_far}
use Rattle.proto_file.specs.Local.{IsOwnFault}
use Rattle.file_faults.specs.OwnFaults.{AreFileFaults, AreOwnFaults, HasFault, none, more}
use Rattle.file_faults.specs.PassFaults.{AreAllFaults}
use Rattle.share_work.proofs.Sums.{behind, front, front_or_behind, in_map, none_in, of_map, pairs_cons, pairs_first}

-- ---- which faults are told

pub every_fault : (limits : Limits) (files : List Source) (xs : List SourceFault) (s : Source) (x : SourceFault)
    → AreFileFaults limits files xs → Contains files s → HasFault limits s x → Contains xs x
every_fault limits _ _ s x none inside has = absurd (none_in s inside)
every_fault limits _ _ s x (more t own files xs is all) inside (f, has, told) =
    elim (front_or_behind t files s inside) [
      | inl here ↦ Contains-append_left (map (fault 1 (name_of t)) own) xs x
          (rw (told, ← here) (in_map (fault 1 (name_of t)) own f ((is.all f).1 (rw here has))))
      | inr later ↦ Contains-append_right (map (fault 1 (name_of t)) own) xs x
          (every_fault limits files xs s x all later (f, has, told))
    ]

pub no_other : (limits : Limits) (files : List Source) (xs : List SourceFault) (x : SourceFault)
    → AreFileFaults limits files xs → Contains xs x → (s : Source) × Contains files s × HasFault limits s x
no_other limits _ _ x none inside = absurd (none_in x inside)
no_other limits _ _ x (more t own files xs is all) inside =
    elim (Contains-append_cases (map (fault 1 (name_of t)) own) xs x inside) [
      | inl here ↦ (let (f, has, told) = of_map (fault 1 (name_of t)) own x here in
          (t, front t files, (f, (is.all f).0 has, sym told)))
      | inr later ↦ (let (s, there, has) = no_other limits files xs x all later in (s, behind t files s there, has))
    ]

-- ---- all faults of sources

-- what is broken in the pass over each source by itself is a source's own fault
own_fault : (limits : Limits) (sources : List Source) (x : SourceFault) → Breaks limits sources x → x.pass ≡ 1
    → (s : Source) × Contains sources s × HasFault limits s x
own_fault limits sources _ (many_files over) pass = absurd (omega (arith, pass))
own_fault limits sources _ (repeated_file_name i j less below same) pass = absurd (omega (arith, pass))
own_fault limits sources _ (file_fault s f inside fault) pass = (s, inside, (f, fault, refl))
own_fault limits sources _ (bad_import descs a place what described bad) pass = absurd (omega (arith, pass))
own_fault limits sources _ (many_names descs described over) pass = absurd (omega (arith, pass))
own_fault limits sources _ (repeated_name descs o described twice) pass = absurd (omega (arith, pass))
own_fault limits sources _ (bad_type descs a desc place what described stands breaks) pass = absurd (omega
    (arith, pass))
own_fault limits sources _ (long_descriptor files typed links index a desc resolved stands over) pass = absurd
    (omega (arith, pass))
own_fault limits sources _ (long_set c written over) pass = absurd (omega (arith, pass))

-- files are these sources, in whatever order
module _ (limits : Limits) (sources files : List Source) (xs : List SourceFault)
    (same : (s : Source) → Contains files s ↔ Contains sources s) (all : AreFileFaults limits files xs) where
  told_breaks : (x : SourceFault) → Contains xs x → Breaks limits sources x × (x.pass ≡ 1)
  told_breaks x inside =
      let (s, there, (f, own, told)) = no_other limits files xs x all inside in
      rw told (file_fault s f ((same s).0 there) own, refl)

  pub own_told : (x : SourceFault) → Breaks limits sources x → x.pass ≡ 1 → Contains xs x
  own_told x breaks pass =
      let (s, there, has) = own_fault limits sources x breaks pass in
      every_fault limits files xs s x all ((same s).1 there) has

  -- where there is one, and none of the list of sources, they are all
  pub all_faults : NoneBefore limits sources 1 → (some : SourceFault) → Contains xs some
      → AreAllFaults limits sources xs
  all_faults early some there x = (told, told_by_all)
    where
      told : Contains xs x → IsFault limits sources x
      told inside =
          let (breaks, pass) = told_breaks x inside in
          record { breaks = breaks; judged = λ y also less. early y also (omega (arith, less, pass)) }

      told_by_all : IsFault limits sources x → Contains xs x
      told_by_all is = elim (cases_order x.pass 1) [
        | inl one ↦ own_told x is.breaks one
        | inr (inl less) ↦ absurd (early x is.breaks less)
        | inr (inr over) ↦ (let (breaks, pass) = told_breaks some there in
            absurd (is.judged some breaks (omega (arith, pass, over))))
      ]

-- ---- one list

pub pairs_behind : {X : Type 0} (R : X → X → Type 0) (x : X) (xs : List X) → AllPairs R (x ∷ xs) → AllPairs R xs
pairs_behind R x xs up i j d before below = up (suc i) (suc j) d (omega (arith, before)) (omega (arith, below))

module _ {X : Type 0} (R : X → X → Type 0) (apart : (x y : X) → R x y → R y x → ⊥) where
  -- what stands behind an element stands behind it in another list
  still_behind : (x : X) (xs ys : List X) → AllPairs R (x ∷ xs)
      → ((y : X) → Contains (x ∷ xs) y → Contains (x ∷ ys) y) → (y : X) → Contains xs y → Contains ys y
  still_behind x xs ys up moved y inside = elim (front_or_behind x ys y (moved y (behind x xs y inside))) [
    | inl is ↦ (let itself = rw is at (pairs_first R x xs up y inside) in absurd (apart y y itself itself))
    | inr later ↦ later
  ]

  -- two lists of the same elements, in which each comes before those behind it, are one
  same_lists : (xs ys : List X) → AllPairs R xs → AllPairs R ys → ((x : X) → Contains xs x ↔ Contains ys x) → xs ≡ ys
  same_lists [] [] up rise same = refl
  same_lists [] (y ∷ ys) up rise same = absurd (none_in y ((same y).1 (front y ys)))
  same_lists (x ∷ xs) [] up rise same = absurd (none_in x ((same x).0 (front x xs)))
  same_lists (x ∷ xs) (y ∷ ys) up rise same =
      let first : x ≡ y = elim (front_or_behind y ys x ((same x).0 (front x xs))) [
        | inl is ↦ sym is
        | inr later ↦ elim (front_or_behind x xs y ((same y).1 (front y ys))) [
          | inl is ↦ is
          | inr also ↦ absurd (apart x y (pairs_first R x xs up y also) (pairs_first R y ys rise x later))
        ]
      ] in
      let rest = same_lists xs ys (pairs_behind R x xs up) (pairs_behind R y ys rise) (λ z. (
        still_behind x xs ys up (λ w h. rw first ((same w).0 h)) z,
        still_behind y ys xs rise (λ w h. rw (sym first) ((same w).1 h)) z,
      )) in
      cc (first, rest)

apart : (f g : FileFault) → file_faults.IsEarlier f g → file_faults.IsEarlier g f → ⊥
apart f g less over = grind arith

pub one_list : (limits : Limits) (files : List Source) (xs ys : List SourceFault) → AreFileFaults limits files xs
    → AreFileFaults limits files ys → xs ≡ ys
one_list limits _ _ _ none none = refl
one_list limits _ _ _ (more s own files xs is all) (more _ other _ ys also rest) =
    let first = same_lists file_faults.IsEarlier apart own other is.order also.order
    (λ f. (λ h. (also.all f).1 ((is.all f).0 h), λ h. (is.all f).1 ((also.all f).0 h))) in
    cc (first, one_list limits files xs ys all rest)

-- ---- their order

-- one fault of a source before another
earlier_in : (file : List ℕ) (f g : FileFault) → file_faults.IsEarlier f g
    → IsEarlier (fault 1 file f) (fault 1 file g)
earlier_in file f g less = let same = tied_itself nat_list_cmp_total file in grind (arith, nat_tests, same)

-- the faults of a source before those of later ones
in_front : (file : List ℕ) (own : List FileFault) (later : List SourceFault) → AllPairs file_faults.IsEarlier own
    → AllPairs IsEarlier later → ((f : FileFault) (y : SourceFault) → Contains later y → IsEarlier (fault 1 file f) y)
    → AllPairs IsEarlier (map (fault 1 file) own ++ later)
in_front file [] later order up before = up
in_front file (f ∷ own) later order up before = pairs_cons IsEarlier (fault 1 file f) (map (fault 1 file) own ++ later)
    (λ y inside. elim (Contains-append_cases (map (fault 1 file) own) later y inside) [
      | inl here ↦ (let (g, there, is) = of_map (fault 1 file) own y here in
          rw (sym is) (earlier_in file f g (pairs_first file_faults.IsEarlier f own order g there)))
      | inr there ↦ before f y there
    ])
    (in_front file own later (pairs_behind file_faults.IsEarlier f own order) up before)

rises_on : (name : List ℕ) (names : List (List ℕ)) → NamesRise (name ∷ names) → NamesRise names
rises_on name names rises k below = let up = rises (suc k) (omega (arith, below)) in grind (arith, up)

-- the faults of sources in the order of their names
pub in_order : (limits : Limits) (files : List Source) (xs : List SourceFault) → NamesRise (map name_of files)
    → AreFileFaults limits files xs → AllPairs IsEarlier xs
in_order limits _ _ rises none = λ i j d before below. absurd (omega (arith, below))
in_order limits _ _ rises (more s own files xs is all) = in_front (name_of s) own xs is.order
    (in_order limits files xs (rises_on (name_of s) (map name_of files) rises) all)
    (λ f y inside. let (t, (k, below, there), (g, has, told)) = no_other limits files xs y all inside in
    let rise = rise_far (map name_of (s ∷ files)) rises 0 (suc k) (omega arith)
    (omega (arith, below, length-map files name_of)) in
    let name = name_of_item files k t below (sym there) in
    rw told (grind (arith, nat_tests, rise, name)))

-- ---- the sources by their names

pub both_hold : (sources files : List Source) → AreByName sources files → (s : Source)
    → Contains files s ↔ Contains sources s
both_hold sources files order s =
    (moved order.all (IsPermutation-refl sources) s, moved (IsPermutation-refl sources) order.all s)

pub least_of_files : (limits : Limits) (sources files : List Source) (faults : List Fault)
    → length sources ≤ limit_of limits limit.Files → AreByName sources files
    → AreFileFaults limits files (map told_by faults) → (f : Fault) (rest : List Fault) → faults ≡ f ∷ rest
    → IsLeastFault limits sources (told_by f)
least_of_files limits sources files faults few order all f rest e =
    let list : map told_by faults ≡ told_by f ∷ map told_by rest = ap (map told_by) e in
    let inside : Contains (map told_by faults) (told_by f) = rw list (front (told_by f) (map told_by rest)) in
    let are = all_faults limits sources files (map told_by faults) (both_hold sources files order) all
    (none_of_list limits sources files few order) (told_by f) inside in
    let up = rw list at (in_order limits files (map told_by faults) order.rises all) in
    record {
      among = (are (told_by f)).0 inside;
      least = λ y is. elim (front_or_behind (told_by f) (map told_by rest) y (rw list at ((are y).1 is))) [
        | inl here ↦ subst (λ (x : SourceFault). IsNoLater x y) (sym here) (no_later_itself y)
        | inr later ↦ (let less = pairs_first IsEarlier (told_by f) (map told_by rest) up y later in λ greater. (cc))
      ];
    }

-- where there is any, all are told
pub all_of_files : (limits : Limits) (sources files : List Source) (faults : List Fault)
    → length sources ≤ limit_of limits limit.Files → AreByName sources files
    → AreFileFaults limits files (map told_by faults) → faults ≢ [] → AreAllFaults limits sources (map told_by faults)
all_of_files limits sources files [] few order all some = absurd (some refl)
all_of_files limits sources files (f ∷ faults) few order all some =
    all_faults limits sources files (map told_by (f ∷ faults)) (both_hold sources files order) all
    (none_of_list limits sources files few order) (told_by f) (front (told_by f) (map told_by faults))
