-- From the writing of each file to that of a set.
use Rattle.std.proofs.Common.{◌≡◌, ℕ, ◌+◌, ◌≤◌, List, [], ◌∷◌, ◌++◌, ◌<◌, length, get_or, arith, refl, take, drop, flat_map, Result, Ok, Err, OnOk, OnErr, Contains, append_assoc, append-nil, length-append, take-append-drop}
use Rattle.std.proofs.lemmas.Grind.{flat_map-append}
use Rattle.std.proofs.KnownBytes.{Appends-trans}
use Rattle.std.proofs.lemmas.List.{take-append-le, take_more}
use Rattle.std.proofs.lemmas.List.Elements.{Contains-get_or}
use Rattle.std.proofs.Math.Seq.{take-append-add}
use Rattle.counted_io.specs.Streams.{Writes}
use Rattle.schema_commands.specs.Gathered.{IsGathered, IsTaken}
use Rattle.schema_commands.specs.Runs.{IsOutput}
use Rattle.schema_failure.specs.declared.failure.Failure.{Failure}
use Rattle.wire_format.specs.Varint.{groups, varint_bytes}

-- what is written after all of these bytes
pub output_after : {B : Type 0} (old now new : Writes) (xs ys : List ℕ) (done : Result B Failure) → IsTaken old now xs
    → IsOutput now new ys done → IsOutput old new (xs ++ ys) done
output_after old now new xs ys (Ok b) first w = record {
  taken = cc (append_assoc old.bytes xs ys);
  flushed = w.flushed;
  failures = (cc);
  contents = Appends-trans old.contents now.contents new.contents xs ys first.contents w.contents;
}
output_after old now new xs ys (Err f) first (e, n, p) = (
  e,
  length xs + n,
  record {
    within = omega (arith, length-append xs ys, p.within);
    taken = cc (take-append-add xs ys n, append_assoc old.bytes xs (take n ys));
    failures = (cc);
    contents = rw (take-append-add xs ys n)
        (Appends-trans old.contents now.contents new.contents xs (take n ys) first.contents p.contents);
  },
)

-- where a call fails, more that was to follow changes nothing
pub output_cut : (old new : Writes) (xs ys : List ℕ) (f : Failure) → IsOutput {B = Unit {0}} old new xs (Err f)
    → IsOutput {B = Unit {0}} old new (xs ++ ys) (Err f)
output_cut old new xs ys f (e, n, p) = (
  e,
  n,
  record {
    within = omega (arith, length-append xs ys, p.within);
    taken = rw (take-append-le n xs ys p.within) p.taken;
    failures = p.failures;
    contents = rw (take-append-le n xs ys p.within) p.contents;
  },
)

-- ---- bytes that wait

-- all that waits is written
pub all_out : {B : Type 0} (old new : Writes) (waiting waiting' bytes all : List ℕ) (done : Result B Failure)
    → all ≡ waiting ++ bytes → IsOutput old new all done → OnOk done (waiting' ≡ [])
    → IsGathered old new waiting waiting' bytes done
all_out old new waiting waiting' bytes all (Ok b) put w none =
    (all, record { taken = w.taken; failures = w.failures; contents = w.contents }, cc (append-nil all))
all_out old new waiting waiting' bytes all (Err f) put out none = rw (← put) out

-- bytes that are written where none wait
pub straight_out : {B : Type 0} (old new : Writes) (waiting bytes : List ℕ) (done : Result B Failure) → waiting ≡ []
    → IsOutput old new bytes done → IsGathered old new waiting waiting bytes done
straight_out old new waiting bytes (Ok b) none out = all_out old new waiting waiting bytes bytes (Ok b) (cc) out none
straight_out old new waiting bytes (Err f) none out = rw none out

-- one after the other
pub gathered_after : {A B : Type 0} (old now new : Writes) (first second third xs ys : List ℕ) (a : A)
    (done : Result B Failure) → IsGathered old now first second xs (Ok a) → IsGathered now new second third ys done
    → IsGathered old new first third (xs ++ ys) done
gathered_after old now new first second third xs ys a (Ok b) (t, before, is) (u, after, next) = (
  t ++ u,
  record {
    taken = cc (append_assoc old.bytes t u);
    failures = (cc);
    contents = Appends-trans old.contents now.contents new.contents t u before.contents after.contents;
  },
  cc (append_assoc t u third, append_assoc t second ys, append_assoc first xs ys),
)
gathered_after old now new first second third xs ys a (Err f) (t, before, is) out =
    let whole : t ++ (second ++ ys) ≡ first ++ (xs ++ ys) = cc (append_assoc t second ys, append_assoc first xs ys) in
    rw (← whole) (output_after {B = Unit {0}} old now new t (second ++ ys) (Err f) before out)

-- where a call fails, more that was to follow changes nothing
pub gathered_cut : (old new : Writes) (first second third xs ys : List ℕ) (f : Failure)
    → IsGathered {B = Unit {0}} old new first second xs (Err f)
    → IsGathered {B = Unit {0}} old new first third (xs ++ ys) (Err f)
gathered_cut old new first second third xs ys f out =
    rw (← append_assoc first xs ys) (output_cut old new (first ++ xs) ys f out)

-- ---- the files of a set

-- those before one of them, and this one
pub set_more : (f : ℕ → List ℕ) (xs : List ℕ) (k : ℕ) → k < length xs
    → flat_map f (take (k + 1) xs) ≡ flat_map f (take k xs) ++ f (get_or xs k 0)
set_more f xs k h =
    rw (take_more xs k 0 h, flat_map-append f (take k xs) (get_or xs k 0 ∷ []), append-nil (f (get_or xs k 0)))

-- and those after it
pub set_split : (f : ℕ → List ℕ) (xs : List ℕ) (k : ℕ) → k < length xs
    → flat_map f xs ≡ (flat_map f (take k xs) ++ f (get_or xs k 0)) ++ flat_map f (drop (k + 1) xs)
set_split f xs k h =
    cc (set_more f xs k h, flat_map-append f (take (k + 1) xs) (drop (k + 1) xs), take-append-drop (k + 1) xs)

-- each is one of the files
pub file_below : (order all : List ℕ) (k n : ℕ) → order ≡ all → ((a : ℕ) → Contains all a → a < n) → k < length order
    → get_or order k 0 < n
file_below order all k n same below h = rw same (below _ (Contains-get_or all k 0 (rw same at h)))

-- ---- room

pub one_byte : length (varint_bytes 10) ≡ 1
unfolding varint_bytes groups
one_byte = refl

-- what fails only where there is less room than is needed does not fail where there is as much
pub with_room : {A B : Type 0} (done : Result A B) (P : Type 0) (room need : ℕ) → OnOk done P
    → OnErr done (room < need) → need ≤ room → P
with_room (Ok a) P room need ok err enough = ok
with_room (Err e) P room need ok err enough = absurd (omega (arith, err, enough))
