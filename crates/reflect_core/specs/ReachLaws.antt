-- What a table of marks asks of the files that files reach follows from what is so of all links.
use Rattle.std.proofs.Common.{ℕ, ◌<◌, true}
use Rattle.std.specs.Set.{is_member}
use Rattle.std.specs.Prelude.{Contains, ◌==◌}
use Rattle.std.proofs.Math.Bool.{Bool-set}
use Rattle.std.proofs.Math.Bridge.{le_prop}
use Rattle.std.proofs.Math.Logic.{∥∥₁_elim}
use Rattle.first_reach.proofs.Lists.{has_is}
use Rattle.proto_links.specs.Linked.{Linked, count_of, reach_of}
use Rattle.proto_links.specs.Whole.{AreReachesWhole}

module _ (links : Linked) (whole : ∥ AreReachesWhole links ∥₁) where
  -- a test of the list holds in one way alone, and so follows from what is known to hold
  reached : (a b : ℕ) → (AreReachesWhole links → Contains (reach_of links a) b) → Contains (reach_of links a) b
  reached a b so =
      let is = has_is b (reach_of links a) in
      is.0 (∥∥₁_elim whole (Bool-set (is_member ◌==◌ (reach_of links a) b) true) (λ w. is.1 (so w)))

  pub within : (a b : ℕ) → a < count_of links → Contains (reach_of links a) b → b < count_of links
  within a b h r = ∥∥₁_elim whole le_prop (λ w. w.within a b h r)

  pub reflexive : (a : ℕ) → a < count_of links → Contains (reach_of links a) a
  reflexive a h = reached a a (λ w. w.itself a h)

  pub transitive : (a b c : ℕ) → a < count_of links → Contains (reach_of links a) b → Contains (reach_of links b) c
      → Contains (reach_of links a) c
  transitive a b c h r s = reached a c (λ w. w.closed a b c h r s)
