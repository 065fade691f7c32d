-- A frame at the front of a list, and rows of frames.
use Rattle.std.proofs.Common.{◌≡◌, ℕ, zero, suc, ◌+◌, ◌-◌, ◌<◌, ◌≤◌, List, [], ◌∷◌, ◌++◌, length, take, drop, refl, sym, ap, subst, ◌∙◌, arith, length-append, append_assoc, All, get_or, inl, inr}
use Rattle.std.specs.List.{flat_map}
use Rattle.std.specs.Int.{w32, to_be_bytes, from_be_bytes}
use Rattle.std.proofs.lemmas.Nat.{from_be_bytes-to_be_bytes_4, be_bytes_4}
use Rattle.std.proofs.lemmas.Bool.{cases_lt, lt-ltb, le-ltb}
use Rattle.std.proofs.lemmas.List.{take-append-drop, length-take-le}
use Rattle.std.proofs.Math.Seq.{take-append_seam, drop-append_seam}
use Rattle.proto_base.specs.Limits.{limit_of}
use Rattle.proto_base.specs.declared.limits.Limits.{Limits}
use Rattle.proto_base.specs.declared.limits.Limit.TheVariants.{BodyBytes, MessageBytes, Requests}
use Rattle.reflect_requests.specs.declared.frames.Status.TheVariants.{InvalidArgument}
use Rattle.reflect_requests.specs.Request.{IsRequest}
use Rattle.reflect_requests.specs.FramesSteps.{IsCut, IsEnd}
use Rattle.reflect_requests.specs.Frames.{frame, IsAllowed, status_of, status_of_size}
use Rattle.reflect_requests.specs.Laws.{HasOneRow, HasOneReading}

pub record Cut (more message after : List ℕ) : Type 0 where
  pub size : from_be_bytes w32 (take 4 more) ≡ length message
  pub four : take 4 more ≡ to_be_bytes w32 (length message)
  pub back : drop 4 more ≡ message ++ after
  pub len : length more ≡ 4 + (length message + length after)

pub cut : (more message after : List ℕ) → length message < 4294967296
    → more ≡ (to_be_bytes w32 (length message) ++ message) ++ after → Cut more message after
cut more message after small is = grind (arith, from_be_bytes-to_be_bytes_4, length-append)

get_take_bound : (n : ℕ) (xs : List ℕ) → ((i : ℕ) → get_or xs i 0 < 256) → (i : ℕ) → get_or (take n xs) i 0 < 256
get_take_bound zero xs h i = omega arith
get_take_bound (suc n) [] h i = omega arith
get_take_bound (suc n) (x ∷ xs) h zero = h 0
get_take_bound (suc n) (x ∷ xs) h (suc i) = get_take_bound n xs (λ j. h (suc j)) i

pub frame_is : (rest more size after m z : List ℕ) (flag n : ℕ) → rest ≡ flag ∷ more → flag ≡ 0 → size ≡ take 4 more
    → after ≡ drop 4 more → 4 ≤ length more
    → ((i : ℕ) → get_or rest i 0 < 256) → n ≡ from_be_bytes w32 size → m ≡ take n after → z ≡ drop n after
    → length m ≡ n → rest ≡ frame 0 m ++ z
frame_is rest more size after m z flag n is zero_flag size_is after_is long bytes n_is m_is z_is len =
    let below : (i : ℕ) → get_or more i 0 < 256 = λ i. subst (λ l. get_or l (suc i) 0 < 256) is (bytes (suc i)) in
    let four : length size ≡ 4 = ap (λ (l : List ℕ). length l) size_is ∙ length-take-le 4 more long in
    let spelled : to_be_bytes w32 (length m) ≡ take 4 more =
    ap (λ k. to_be_bytes w32 k) len ∙ be_bytes_4 size n four
    (subst (λ l. (i : ℕ) → get_or l i 0 < 256) (sym size_is) (get_take_bound 4 more below)) n_is
    ∙ size_is in
    is ∙ (λ i. zero_flag i ∷ more)
    ∙ sym ((λ i. 0 ∷ ((spelled i ++ m_is i) ++ z_is i))
    ∙ ap (λ l. 0 ∷ l) (append_assoc (take 4 more) (take n after) (drop n after)
    ∙ ap (λ l. take 4 more ++ l) (take-append-drop n after ∙ after_is)
    ∙ take-append-drop 4 more))

pub one_frame : (m n X Y : List ℕ) → length m < 4294967296 → length n < 4294967296 → frame 0 m ++ X ≡ frame 0 n ++ Y
    → (m ≡ n) × (X ≡ Y)
one_frame m n X Y short_m short_n both =
    let more = (to_be_bytes w32 (length m) ++ m) ++ X in
    let is : more ≡ (to_be_bytes w32 (length n) ++ n) ++ Y = cc in
    let cm = cut more m X short_m refl in let cn = cut more n Y short_n is in
    let len : length m ≡ length n = cc in
    let same : m ++ X ≡ n ++ Y = cc in
    let front = take-append_seam in let back = drop-append_seam in
    (cc (front m X, front n Y), cc (back m X, back n Y))

module _ (limits : Limits) (small : limit_of limits MessageBytes < 4294967296) where
  unique_from : (k : ℕ) (ms ns : List (List ℕ)) (a b : List ℕ) → All (IsAllowed limits) ms → All (IsAllowed limits) ns
      → length ms ≤ k → length ns ≤ k
      → (length ms < k → (message after : List ℕ) → IsAllowed limits message → a ≡ frame 0 message ++ after → ⊥)
      → (length ns < k → (message after : List ℕ) → IsAllowed limits message → b ≡ frame 0 message ++ after → ⊥)
      → flat_map (frame 0) ms ++ a ≡ flat_map (frame 0) ns ++ b → (ms ≡ ns) × (a ≡ b)
  unique_from k [] [] a b pm pn fm fn la lb e = (refl, e)
  unique_from k [] (n ∷ ns) a b pm pn fm fn la lb e = absurd (la (omega arith) n (flat_map (frame 0) ns ++ b)
      (pn 0 n (omega arith)) (e ∙ append_assoc (frame 0 n) (flat_map (frame 0) ns) b))
  unique_from k (m ∷ ms) [] a b pm pn fm fn la lb e = absurd (lb (omega arith) m (flat_map (frame 0) ms ++ a)
      (pm 0 m (omega arith)) (sym e ∙ append_assoc (frame 0 m) (flat_map (frame 0) ms) a))
  unique_from k (m ∷ ms) (n ∷ ns) a b pm pn fm fn la lb e =
      let X = flat_map (frame 0) ms ++ a in let Y = flat_map (frame 0) ns ++ b in
      let both : frame 0 m ++ X ≡ frame 0 n ++ Y = simp append_assoc at e in
      let short_m = (pm 0 m (omega arith)).short in let short_n = (pn 0 n (omega arith)).short in
      let head = one_frame m n X Y (omega arith) (omega arith) both in
      let r = unique_from (k - 1) ms ns a b (λ j d h. pm (suc j) d (omega arith)) (λ j d h. pn (suc j) d (omega arith))
      (omega arith) (omega arith) (λ h. la (omega arith)) (λ h. lb (omega arith)) head.1 in
      (cc, r.1)

pub one_row : (limits : Limits) → limit_of limits MessageBytes < 4294967296 → HasOneRow limits
one_row limits small body ms ns a b f g =
    unique_from limits small (limit_of limits Requests) ms ns a b f.allowed g.allowed f.few g.few f.longest g.longest
    (sym f.row ∙ g.row)

pub one_reading : (limits : Limits) → limit_of limits MessageBytes < 4294967296 → HasOneReading limits
one_reading limits small body ms ns s t f g = elim (cases_lt (limit_of limits BodyBytes) (length body)) [
  | inl over ↦ (let first = f.over over in let second = g.over over in (cc, cc))
  | inr within ↦ (let first = f.within within in let second = g.within within in
      let same = one_row limits small body ms ns first.0 second.0 first.1 second.1 in (same.0, cc))
]

-- ---- a frame whose message is no request

size_status : (limits : Limits) (more message after : List ℕ) → Cut more message after
    → length message ≤ limit_of limits MessageBytes
    → status_of_size limits more ≡ 3
size_status limits more message after cut short = grind (arith, length-append, le-ltb)

status_at : (limits : Limits) (count : ℕ) (more : List ℕ) → count < limit_of limits Requests
    → status_of limits count (0 ∷ more) ≡ status_of_size limits more
status_at limits count more room = grind (arith, lt-ltb)

pub other_message : (limits : Limits) (count : ℕ) (rest message after : List ℕ)
    → limit_of limits MessageBytes < 4294967296
    → IsCut limits count rest message after → (IsRequest message → ⊥) → IsEnd limits count rest InvalidArgument
other_message limits count rest message after small is other =
    let short : length message < 4294967296 = (let h = is.short in omega (arith, h, small)) in
    let more = (to_be_bytes w32 (length message) ++ message) ++ after in
    record {
      status_is = rw (
        is.row,
        status_at limits count more is.room,
        size_status limits more message after (cut more message after short refl) is.short,
      ) refl;
      none = λ room m z allowed row.
          let same = one_frame message m after z short (let h = allowed.short in omega (arith, h, small)) (cc) in
          other (rw same.0 allowed.request);
    }
