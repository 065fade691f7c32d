-- What walks over references find and put, one behind another.
use Rattle.proto_types.proofs.Common.{inr, ◌≡◌, ◌∙◌, sym, ℕ, ◌+◌, ◌<◌, ◌≤◌, List, [], ◌∷◌, ◌++◌, append_assoc, ap, arith, get_or, get_or-set_other, le_refl, length, length-set, refl, set, take, append-nil, flat_map, AllZip, Contains, ◌↔◌, ◌⊎◌, inl, zero, suc, subst, Option, least_same, Occurrence, IsSeen, Reference, ReferenceBreaks, Adds, AreFilled, AreFound, Finds, IsFilled, IsMeaning, Puts, Means, Meaning}
use Rattle.std.proofs.lemmas.List.{take_more, take_more_set}
use Rattle.std.specs.Prelude.{AllPairs, slice_get}
use Rattle.std.proofs.lemmas.List.Concat.{flat_map-append}
use Rattle.std.proofs.lemmas.Slice.Zip.{all_zipped_more}
use Rattle.proto_base.proofs.Among.{each_append, each_nil, each_single}
use Rattle.proto_base.proofs.Sets.{least_none, least_some}
use Rattle.proto_base.specs.Least.{AtMost, IsLeast, Precedes}
use Rattle.proto_base.specs.Sets.{Each}
use Rattle.proto_base.specs.declared.spot.Spot.{Spot}
use Rattle.proto_types.proofs.Meanings.{meaning_gains, wrong_breaks}
use Rattle.proto_types.specs.declared.found.Found.{Found}
use Rattle.proto_types.specs.declared.meaning.Meaning.TheVariants.{Named, Wrong}
use Rattle.proto_types.specs.declared.meaning.NamedType.{NamedType}

-- ---- what is found

pub finds_both : {os : List Occurrence} {Seen : ℕ → Type 0} {rs qs : List Reference} {a b c : Found}
    → Finds os Seen rs a b → Finds os Seen qs b c → Finds os Seen (rs ++ qs) a c
finds_both {rs = rs} {qs = qs} h k before old = rw (← append_assoc before rs qs) (k (before ++ rs) (h before old))

-- what the next of some items names is found behind what those before it name
pub finds_next : {X : Type 0} {os : List Occurrence} {Seen : ℕ → Type 0} {a b c : Found} (f : X → List Reference)
    (xs : List X) (i : ℕ) (x : X) → i < length xs → x ≡ get_or xs i x → Finds os Seen (flat_map f (take i xs)) a b
    → Finds os Seen (f x) b c → Finds os Seen (flat_map f (take (i + 1) xs)) a c
finds_next f xs i x low at h k =
    rw (take_more xs i x low ∙ ap (λ z. take i xs ++ z ∷ []) (sym at))
    (rw flat_map-append (rw append-nil (finds_both h k)))

added : {A B C D P Q : Type 0} → B ↔ (A ⊎ Q) → A ↔ P → Q ↔ C → (P ⊎ C) ↔ D → B ↔ D
added h k l m = grind arith

-- where several references break nothing, those before do not
module _ (os : List Occurrence) (Seen : ℕ → Type 0) (before : List Reference) (r : Reference) where
  abbrev Breaks : List Reference → Spot → Type 0
  Breaks rs = Each rs (ReferenceBreaks os Seen)

  own_break : (x : Spot) → ReferenceBreaks os Seen r x → Breaks (before ++ r ∷ []) x
  own_break x w = (each_append (ReferenceBreaks os Seen) before (r ∷ []) x).0
      (inr ((each_single (ReferenceBreaks os Seen) r x).0 w))

  old_break : (x : Spot) → Breaks before x → Breaks (before ++ r ∷ []) x
  old_break x w = (each_append (ReferenceBreaks os Seen) before (r ∷ []) x).0 (inl w)

  means_more : (m : Meaning) (old new : Found) → IsMeaning os Seen r m → Adds m r.options old new
      → AreFound os Seen before old → ((x : Spot) → Breaks (before ++ r ∷ []) x → ⊥)
      → AllZip (Means os Seen) (before ++ r ∷ []) new.types.items
  means_more (Named t) old new h adds so_far none = rw adds.0
      (all_zipped_more (Means os Seen) before old.types.items r t (so_far.means (λ x w. none x (old_break x w))) h.0)
  means_more (Wrong x) old new h adds so_far none =
      absurd (none x (own_break x ((wrong_breaks os Seen r x x h).0 refl)))

pub finds_one : (os : List Occurrence) (Seen : ℕ → Type 0) (r : Reference) (m : Meaning) (old new : Found)
    → IsMeaning os Seen r m → Adds m r.options old new → Finds os Seen (r ∷ []) old new
finds_one os Seen r m old new h adds before so_far = record {
  faults = λ x. added ((meaning_gains os Seen r m old new h adds).are x) (so_far.faults x)
      (each_single (ReferenceBreaks os Seen) r x) (each_append (ReferenceBreaks os Seen) before (r ∷ []) x);
  means = means_more os Seen before r m old new h adds so_far;
}

-- all that is found, where nothing was before
pub found_all : {os : List Occurrence} {Seen : ℕ → Type 0} {rs : List Reference} {old new : Found}
    → old.types.items ≡ [] → old.faults.items ≡ [] → Finds os Seen rs old new → AreFound os Seen rs new
found_all {os} {Seen} types faults h = h [] (record {
  faults = λ x. rw faults (
    λ (k, below, is). absurd (omega (arith, below)),
    λ w. absurd (each_nil (ReferenceBreaks os Seen) x w),
  );
  means = λ none. rw types tt;
})

-- ---- the first of what is wrong

first_at_most : (a : Spot) (rest : List Spot) → AllPairs Precedes (a ∷ rest) → (x : Spot) (k : ℕ)
    → k < length (a ∷ rest) → get_or (a ∷ rest) k x ≡ x → AtMost a x
first_at_most a rest order x zero below is = subst (AtMost a) is (inr (refl, omega arith))
first_at_most a rest order x (suc k) below is = elim (rw is at (order 0 (suc k) x (omega arith) below)) [
  | inl less ↦ inl less
  | inr same ↦ inr (same.0, omega (arith, same.1))
]

-- the first of a list in order is its least
first_least : (xs : List Spot) → AllPairs Precedes xs → IsLeast (Contains xs) (slice_get xs 0)
first_least [] order = least_none _ (λ x (k, below, is). absurd (omega (arith, below)))
first_least (a ∷ rest) order =
    least_some _ a (0, omega arith, refl) (λ x (k, below, is). first_at_most a rest order x k below is)

-- so it is where what is found is sorted
module _ {os : List Occurrence} {Seen : ℕ → Type 0} {rs : List Reference} {found : Found}
    (are : AreFound os Seen rs found) (sorted : List Spot)
    (same : (x : Spot) → Contains sorted x ↔ Contains found.faults.items x) where
  pub sorted_are : (x : Spot) → Contains sorted x ↔ Each rs (ReferenceBreaks os Seen) x
  sorted_are x = (λ h. (are.faults x).0 ((same x).0 h), λ w. (same x).1 ((are.faults x).1 w))

  pub sorted_least : AllPairs Precedes sorted → (first : Option Spot) → first ≡ slice_get sorted 0
      → IsLeast (Each rs (ReferenceBreaks os Seen)) first
  sorted_least order first is = rw is (least_same _ _ _ (λ x. (sorted_are x).1) (λ x. (sorted_are x).0)
      (first_least sorted order))

-- ---- what is put

-- what two lists mean, one behind the other
zip_split : (os : List Occurrence) (Seen : ℕ → Type 0) (rs qs : List Reference) (types : List NamedType)
    → AllZip (Means os Seen) (rs ++ qs) types
    → (ts : List NamedType) × (us : List NamedType) × (types ≡ ts ++ us) × AllZip (Means os Seen) rs ts
    × AllZip (Means os Seen) qs us
zip_split os Seen [] qs types all = ([], types, refl, tt, all)
zip_split os Seen (r ∷ rs) qs [] all = absurd all
zip_split os Seen (r ∷ rs) qs (t ∷ types) all =
    let (ts, us, parts, first, second) = zip_split os Seen rs qs types all.1 in
    (t ∷ ts, us, cc parts, (all.0, first), second)

pub puts_both : {P Q : Type 0} {a b c : List NamedType} (os : List Occurrence) (Seen : ℕ → Type 0)
    (rs qs : List Reference) → Puts os Seen rs P a b → Puts os Seen qs Q b c
    → Puts os Seen (rs ++ qs) (P × Q) a c
puts_both os Seen rs qs h k types rest all is =
    let two = zip_split os Seen rs qs types all in
    let first = h two.0 (two.1 ++ rest) two.3 (cc (append_assoc two.0 two.1 rest)) in
    let second = k two.1 rest two.4 first.0 in
    (second.0, (first.1, second.1))

-- ---- what is filled where it is

-- items of a list are filled as far as one of them, and from it on they are as they were
pub record AreFilledTo {X : Type 0} (refs : List ℕ → X → List Reference)
    (Typed : List Occurrence → (ℕ → Type 0) → List ℕ → X → X → Type 0) (before now : List X) (k : ℕ)
    (old new : List NamedType) : Type 0 where
  pub size : length now ≡ length before
  pub rest : (j : ℕ) (d : X) → k ≤ j → get_or now j d ≡ get_or before j d
  pub filled : AreFilled refs Typed (take k before) (take k now) old new

-- one more item of a list
pub filled_next : {X : Type 0} {refs : List ℕ → X → List Reference}
    {Typed : List Occurrence → (ℕ → Type 0) → List ℕ → X → X → Type 0}
    {before now : List X} {k : ℕ} {x y : X} {a b c : List NamedType} → AreFilledTo refs Typed before now k a b
    → k < length now → x ≡ get_or now k x → IsFilled refs Typed x y b c
    → AreFilledTo refs Typed before (set now k y) (k + 1) a c
filled_next {X} {refs} {Typed} {before} {now} {k} {x} {y} {a} {b} {c} so_far below at one = record {
  size = length-set now k y ∙ so_far.size;
  rest = λ j d behind. get_or-set_other now k j y d (omega arith) ∙ so_far.rest j d (omega arith);
  filled =
      let same : get_or before k x ≡ x = cc (so_far.rest k x (le_refl k)) in
      let longer : take (k + 1) before ≡ take k before ++ x ∷ [] =
      take_more before k x (omega arith) ∙ ap (λ z. take k before ++ z ∷ []) same in
      rw (longer, take_more_set now k y below) (record {
        puts = λ os seen scope.
            rw flat_map-append (rw append-nil (λ types rest all is.
            let put = puts_both _ _ _ _ (so_far.filled.puts os seen scope) (one.puts os seen scope) types rest all is in
            (put.0, all_zipped_more (Typed os (IsSeen seen) scope) (take k before) (take k now) x y put.1.0 put.1.1)));
      });
}
