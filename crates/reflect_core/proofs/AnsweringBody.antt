-- What the steps of an answer give, as the response to a body.
use Rattle.reflect_core.proofs.Common.{◌≡◌, ℕ, zero, suc, ◌<◌, ◌≤◌, List, [], ◌∷◌, ◌++◌, length, map, get_or, ap, arith, refl, All, Bool, filter, inl, inr, not, ◌||◌, Option, Some, None, Contains, Vec, ◌==◌, Global, AllZip, All-head, All-map, All-tail, AllZip-long, carried, carried_from, reached, repeats, root_first, Mode, Compilation, bytes_at, bytes_field, count_of, reach_of, IsAllowed, ReadsBody, Asked, files_bytes, services_bytes, IsAsked, root, AreReplyable, AreServicesFor, IsReplyable, IsRootWithin, asked_of, files_of}
use Rattle.std.specs.Set.{is_member}
use Rattle.std.proofs.lemmas.List.{length-map}
use Rattle.std.proofs.lemmas.Bool.{cases_lt}
use Rattle.proto_base.specs.Limits.{limit_of}
use Rattle.proto_base.specs.declared.limits.Limit.TheVariants as limit
use Rattle.proto_compilation.specs.Sound.{IsSound}
use Rattle.proto_compilation.proofs.Within.{reached_within}
use Rattle.reflect_core.specs.declared.asked.Asked as rust
use Rattle.reflect_core.proofs.Carrying.{carried_short, carried_inside}
use Rattle.reflect_core.proofs.ReadBounds.{read_bounds}
use Rattle.reflect_core.proofs.Short.{answer_bound, reply_short}

abbrev pub IsGood : Compilation → Asked → List ℕ → Type 0
IsGood c = IsReplyable c (services_bytes c)

good_at : (c : Compilation) (xs : List rust.Asked) (ys : List (Vec ℕ Global)) (k : ℕ) (a : rust.Asked)
    (f : Vec ℕ Global) → AllZip (IsGood c) (map asked_of xs) (map files_of ys) → k < length xs
    → IsGood c (asked_of (get_or xs k a)) (get_or ys k f).items
good_at c (x ∷ xs) (y ∷ ys) zero a f good below = good.0
good_at c (x ∷ xs) (y ∷ ys) (suc k) a f good below = good_at c xs ys k a f good.1 (omega arith)
good_at c [] ys k a f good below = absurd (omega arith)
good_at c (x ∷ xs) [] k a f good below = absurd good

module _ (c : Compilation) (sound : IsSound c) where
  files_good : (kept : ℕ → Bool) (root : Option ℕ) → IsRootWithin (count_of c.links) root
      → ((a : ℕ) → Contains (filter kept (root_first (reach_of c.links) root)) a → a < count_of c.links)
      × (length (files_bytes c (filter kept (root_first (reach_of c.links) root))) ≤ 1073741824)
  files_good kept None within = ((λ a w. absurd (let h = w.1 in omega arith)), omega arith)
  files_good kept (Some r) within =
      let below = within r refl in
      let reaches = sound.coherent.reaches in
      let own = reaches.itself r below in
      let most = carried_short (λ a. bytes_field 1 (bytes_at c.files a)) kept (reach_of c.links) r own in (
        (λ a w. reaches.within r a below (carried_inside kept (reach_of c.links) r a own w)),
        omega (arith, most, reached_within c reaches r below, sound.within, c.limits.set_bytes_bound),
      )

  good_one : (message : List ℕ) (x : Asked) (kept : ℕ → Bool) → IsAllowed c.limits message → IsAsked c message x
      → IsRootWithin (count_of c.links) (root x) → IsGood c x (filter kept (root_first (reach_of c.links) (root x)))
  good_one message x kept allowed asked within =
      let bounds = read_bounds message x.host asked.ask asked.reads in
      let most = c.limits.message_bytes_bound in let short = allowed.short in
      let same = ap length asked.same in
      let name = answer_bound c asked.ask x.answer asked.answered in
      let files = files_good kept (root x) within in
      record {
        listed = λ e. refl;
        inside = files.0;
        short = reply_short c x _ sound (omega arith) (omega arith) (omega arith) files.1;
      }

  pub all_good : (mode : Mode) (sent : List ℕ) (messages : List (List ℕ)) (xs : List Asked)
      → All (λ x. IsRootWithin (count_of c.links) (root x)) xs → All (IsAllowed c.limits) messages
      → AllZip (IsAsked c) messages xs → AllZip (IsGood c) xs (carried_from mode (reach_of c.links) sent (map root xs))
  all_good mode sent [] [] within allowed asked = tt
  all_good mode sent (m ∷ ms) (x ∷ xs) within allowed asked = (
    good_one m x (λ g. repeats mode (root x) g || not (is_member ◌==◌ sent g))
        (All-head (IsAllowed c.limits) m ms allowed) asked.0 (within 0 x (omega arith)),
    all_good mode (sent ++ reached (reach_of c.links) (root x)) ms xs
        (All-tail (λ x. IsRootWithin (count_of c.links) (root x)) x xs within)
        (All-tail (IsAllowed c.limits) m ms allowed) asked.1,
  )
  all_good mode sent ms xs within allowed asked = absurd asked

  pub replyable : (messages : List (List ℕ)) (xs : List rust.Asked) (ys : List (Vec ℕ Global)) (services : List ℕ)
      (mode : Mode) → All (IsAllowed c.limits) messages → AllZip (IsAsked c) messages (map asked_of xs)
      → All (λ a. IsRootWithin (count_of c.links) (root (asked_of a))) xs
      → map files_of ys ≡ carried mode (reach_of c.links) (map root (map asked_of xs)) → AreServicesFor c xs services
      → AreReplyable c services xs ys
  replyable messages xs ys services mode allowed asked within lists listed =
      let good : AllZip (IsGood c) (map asked_of xs) (map files_of ys) = rw lists (all_good mode [] messages _
      (All-map (λ x. IsRootWithin (count_of c.links) (root x)) asked_of xs within) allowed asked) in
      record {
        size = omega (arith, AllZip-long (IsGood c) _ _ good, length-map ys files_of, length-map xs asked_of);
        each = λ k a f below.
            let here = good_at c xs ys k a f good below in
            record { listed = listed k a below; inside = here.inside; short = here.short };
      }

-- the messages of a body are allowed
pub allowed_of : (c : Compilation) (body : List ℕ) (messages : List (List ℕ)) (status : ℕ)
    → ReadsBody c.limits body messages status → All (IsAllowed c.limits) messages
allowed_of c body messages status reads = elim (cases_lt (limit_of c.limits limit.BodyBytes) (length body)) [
  | inl over ↦ rw (reads.over over).0 (λ k d below. absurd (omega arith))
  | inr within ↦ (reads.within within).1.allowed
]
