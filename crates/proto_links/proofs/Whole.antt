-- What the links of any files reach.
use Rattle.std.proofs.lemmas.List.Kept.{AllPairs-filter}
use Rattle.proto_links.proofs.Common.{cond_both, ◌+◌, ◌≡◌, sym, ℕ, ◌<◌, Bool, true, List, [], ◌∷◌, arith, Contains, filter, ◌==◌, ◌↔◌, All-contains, All-contains_itself, All-filter, filter_passes, here, leads_trans, far, once, few, many, FileDesc, Imports, IsReach, Linked, AreLinked, IsBefore, count_of, rank_of, reach_of}
use Rattle.std.specs.Set.{is_member}
use Rattle.std.specs.List.{IsDistinct}
use Rattle.proto_links.specs.Whole.{AreReachesWhole}
use Rattle.proto_links.proofs.Positions.{has_is, leads_inside}
use Rattle.proto_links.proofs.Rising.{IsStrict, Rises, behind, front, front_or_behind, none_in, one_rising}
use Rattle.proto_links.proofs.Unique.{before_strict, order_rises}

-- ---- lists that rise

-- a member of what a test keeps is a member that passes it, and the other way round
pub kept_to : (p : ℕ → Bool) (xs : List ℕ) (z : ℕ) → Contains (filter p xs) z → Contains xs z × (p z ≡ true)
kept_to p xs z w = (
  All-contains (Contains xs) (filter p xs) z (All-filter p (Contains xs) xs (All-contains_itself xs)) w,
  All-contains (λ y. p y ≡ true) (filter p xs) z (filter_passes p xs) w,
)

pub kept_from : (p : ℕ → Bool) (xs : List ℕ) (z : ℕ) → p z ≡ true → Contains xs z → Contains (filter p xs) z
kept_from p [] z passes w = absurd (none_in z w)
kept_from p (x ∷ xs) z passes w =
    let rest = kept_from p xs z passes in
    let cases = front_or_behind x xs z w in
    cond_both (p x) (x ∷ filter p xs) (filter p xs) (λ ys. Contains ys z)
    (λ e. grind (arith, behind, front, cases, rest)) (λ e. grind (arith, cases, rest))

pub kept_rises : (R : ℕ → ℕ → Type 0) → IsStrict R → (p : ℕ → Bool) (xs : List ℕ) → Rises R xs → Rises R (filter p xs)
kept_rises R strict p xs up k d h = AllPairs-filter R p xs
    (λ i j e less inside. far R strict.trans xs e (λ n. up n e) i j less inside) k (k + 1) d (omega arith) h

-- ---- the links of files

pub whole_of : (files : List FileDesc) (links : Linked) → AreLinked files links → AreReachesWhole links
whole_of files links is =
    let rank = rank_of links in
    let R = IsBefore rank in
    let strict = before_strict rank in
    let order = order_rises rank links.set_order is.order.rises in
    let at : (a : ℕ) → a < count_of links → IsReach files rank a (reach_of links a) = λ a h. is.reach a (omega arith) in
    let within : (a b : ℕ) → a < count_of links → Contains (reach_of links a) b → b < count_of links =
    λ a b h w. omega (arith, leads_inside files b a (omega arith) (((at a h).members b).0 w)) in
    let every : (a : ℕ) → Contains links.set_order a ↔ (a < count_of links) =
    λ a. rw (sym is.count) at (is.order.every a) in
    let each : IsDistinct ◌==◌ links.set_order = once R strict.trans strict.never links.set_order is.order.rises in
    record {
      within = within;
      itself = λ a h. ((at a h).members a).1 here;
      closed = λ a b c h w v. ((at a h).members c).1 (leads_trans (Imports files) b c a
          (((at a h).members b).0 w) (((at b (within a b h w)).members c).0 v));
      once = λ a h. once R strict.trans strict.never (reach_of links a) (at a h).rises;
      part = λ a h. (
          let test = is_member ◌==◌ (reach_of links a) in
          one_rising R strict (reach_of links a) (filter test links.set_order)
          (order_rises rank (reach_of links a) (at a h).rises) (kept_rises R strict test links.set_order order)
          (λ b w. kept_from test links.set_order b ((has_is b (reach_of links a)).1 w)
          ((every b).1 (within a b h w)))
          (λ b w. (has_is b (reach_of links a)).0 (kept_to test links.set_order b w).1));
      every = every;
      each_once = each;
      size = omega (
        arith,
        few links.set_order (count_of links) each (λ q. (every q).0),
        many links.set_order (count_of links) (λ q. (every q).1),
      );
    }
