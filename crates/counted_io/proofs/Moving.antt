-- Bytes that are read or written piece by piece.
use Rattle.std.proofs.Common.{◌≡◌, ℕ, ◌+◌, ◌-◌, ◌<◌, ◌≤◌, List, [], ◌∷◌, ◌++◌, length, ap, arith, take, drop, Some, append_assoc, append-nil, length-append, length-drop, length-take-le}
use Rattle.std.specs.Io.KnownBytes.{Appends, Consumes}
use Rattle.std.proofs.lemmas.List.{drop_all}
use Rattle.std.proofs.lemmas.Bool.Decides.{nat_tests}
use Rattle.std.proofs.KnownBytes.{Appends-trans, Consumes-trans}
use Rattle.std.proofs.Math.Seq.{take-add, take-append-add}
use borrow.Rule.Slice.PartMut.{put_mid}
use Rattle.counted_io.specs.Streams.{Call, Reads, Writes}
use Rattle.counted_io.specs.Calls.{IsGiven, IsTaken}

-- ---- reading

-- so many bytes of a room were read, one piece after another
pub record IsReading (old now : Reads) (room : List ℕ) (filled : ℕ) : Type 0 where
  pub own : List Call
  pub made : now.calls ≡ old.calls ++ own
  pub within : filled ≤ length room
  pub bytes : now.bytes ≡ old.bytes ++ take filled room
  pub calls : length now.calls ≤ length old.calls + filled
  pub failures : now.failures ≡ old.failures
  pub left : Consumes old.left now.left (take filled room)

pub read_more : (old now new : Reads) (room sub : List ℕ) (filled n : ℕ) → IsReading old now room filled
    → n ≤ length sub → 0 < n → IsGiven now new sub n → IsReading old new (take filled room ++ sub) (filled + n)
read_more old now new room sub filled n so short some once =
    let call : Call = record { room = length sub; given = Some n } in
    let prefix = rw (length-take-le filled room so.within) at (take-append-add (take filled room) sub n) in
    record {
      own = so.own ++ call ∷ [];
      made = cc (append_assoc old.calls so.own (call ∷ []));
      within = omega (arith, length-append (take filled room) sub, length-take-le filled room so.within);
      bytes = cc (prefix, append_assoc old.bytes (take filled room) (take n sub));
      calls = omega (arith, ap length once.calls, length-append now.calls (call ∷ []));
      failures = (cc);
      left = rw prefix (Consumes-trans old.left now.left new.left _ _ so.left once.left);
    }

-- a room whose end was written anew
pub put_end : (room sub : List ℕ) (filled : ℕ) → filled ≤ length room
    → put_mid filled (length room - filled) room sub ≡ take filled room ++ sub
put_end room sub filled within =
    let none = drop_all (length room - filled) (drop filled room) (omega (arith, length-drop filled room)) in
    rw (none, append-nil sub)

-- ---- writing

-- so many bytes of a response were written, one piece after another
pub record IsWriting (old now : Writes) (response : List ℕ) (written : ℕ) : Type 0 where
  pub within : written ≤ length response
  pub taken : now.bytes ≡ old.bytes ++ take written response
  pub failures : now.failures ≡ old.failures
  pub contents : Appends old.contents now.contents (take written response)

pub written_some : (old now new : Writes) (response : List ℕ) (written n : ℕ) {rest : List ℕ}
    → IsWriting old now response written → 0 < n → rest ≡ drop written response → n ≤ length rest
    → IsTaken now new rest n → IsWriting old new response (written + n)
written_some old now new response written n {rest = rest} so some is short once =
    let more = rw (← is) at (take-add written n response) in
    record {
      within = omega (arith, length-drop written response, ap length is);
      taken = cc (more, append_assoc old.bytes (take written response) (take n rest));
      failures = grind (arith, nat_tests, so.failures, once.failures);
      contents = rw more (Appends-trans old.contents now.contents new.contents _ _ so.contents once.contents);
    }
