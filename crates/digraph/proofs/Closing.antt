-- What the loops keep that search over edges, and those that gather lists.
use Rattle.digraph.proofs.Common.{◌≡◌, ℕ, ◌+◌, ◌<◌, ◌≤◌, List, [], length, get_or, refl, arith, inl, inr, ◌⊎◌, Bool, Contains, ◌↔◌, ◌∷◌, ◌++◌, lit<, cases_lt, Contains-get_or, Graph, Edge, successors, IsFalling, Leads, here, through, AreMarked, IsFrontOf, NoneMarked, IsStrictlyIncreasing, common_steps, IsReach, AreReaches, InLists, IsUnion, AreClosed}
use Rattle.std.proofs.Math.ListN.{get_or-append}
use Rattle.digraph.proofs.Rows.{IsDistinct_none, among_all, push_iff, rises_push, one_only, leads_last, leads_trans, leads_le, joined_both}

pub no_member : (xs : List ℕ) (c : ℕ) → xs ≡ [] → Contains xs c → ⊥
no_member xs c e w = let here' = rw e at w in omega (arith, here'.1)

-- no node is marked, and none is in the list
pub none_are : (marks : List Bool) (nodes : List ℕ) → NoneMarked marks → nodes ≡ [] → AreMarked marks nodes
none_are marks nodes none e = grind (arith, IsDistinct_none, no_member)

-- all that was found is led to, and what the first `next` of it go to was found
pub record Searching (g : Graph) (n start : ℕ) (marks : List Bool) (found : List ℕ) (next : ℕ) : Type 0 where
  pub room : length marks ≡ n
  pub are : AreMarked marks found
  pub first : Contains found start
  pub sound : (c : ℕ) → Contains found c → Leads (Edge g) c start
  pub done : (k b : ℕ) → k < next → Edge g (get_or found k 0) b → Contains found b

pub searching_next : (g : Graph) (n start : ℕ) (marks new : List Bool) (found ys xs : List ℕ) (next : ℕ)
    → next < length found → xs ≡ successors g (get_or found next 0) → length new ≡ n → AreMarked new ys
    → IsFrontOf found ys → ((c : ℕ) → Contains ys c ↔ (Contains found c ⊎ Contains xs c))
    → Searching g n start marks found next → Searching g n start new ys (next + 1)
searching_next g n start marks new found ys xs next h e room are prefix added r =
    let added' = rw e at added in
    record {
      room = room;
      are = are;
      first = (added' start).1 (inl r.first);
      sound = λ c w. elim ((added' c).0 w) [
        | inl old ↦ r.sound c old
        | inr edge ↦ leads_last (Edge g) _ c start (r.sound _ (Contains-get_or found next 0 h)) edge
      ];
      done = λ k b below w. (
          let edge = rw (prefix.1, get_or-append found prefix.0 0 k (omega arith)) at w in
          (added' b).1 (elim (cases_lt k next) [
            | inl old ↦ inl (r.done k b old edge)
            | inr last ↦ (let is : k ≡ next = omega arith in inr (rw is at edge))
          ]));
    }

pub closed : (g : Graph) (found : List ℕ) (next c : ℕ) → length found ≤ next
    → ((k b : ℕ) → k < next → Edge g (get_or found k 0) b → Contains found b) → (a : ℕ)
    → Leads (Edge g) c a → Contains found a → Contains found c
closed g found next c h done _ here w = w
closed g found next c h done _ (through a b edge more) w =
    let at = (among_all found (length found) a refl).0 w in
    closed g found next c h done b more (done at.0 b (omega arith) (rw at.2 edge))

-- ---- lists, one after the other

pub reach_closed : (g : Graph) (lists : List (List ℕ)) (n : ℕ) → IsFalling g → AreReaches g lists n → AreClosed lists n
reach_closed g lists n falling all = record {
  own = λ a h. ((all a h).members a).1 here;
  within = λ a b h w. omega (arith, leads_le (Edge g) (λ x. x) falling b a (((all a h).members b).0 w));
  closed = λ a b c h w v. (
      let ab = ((all a h).members b).0 w in
      let le = leads_le (Edge g) (λ x. x) falling b a ab in
      ((all a h).members c).1 (leads_trans (Edge g) b c a ab (((all b (omega arith)).members c).0 v)));
}

union_from : (g : Graph) (lists : List (List ℕ)) (a c : ℕ) → IsFalling g → AreReaches g lists a → Leads (Edge g) c a
    → InLists lists (successors g a) c ⊎ (a ≡ c)
union_from g lists _ c falling all here = inr refl
union_from g lists _ c falling all (through a b edge more) =
    inl (b, edge, ((all b (falling a b edge)).members c).1 more)

pub union_reach : (g : Graph) (lists : List (List ℕ)) (a : ℕ) (xs : List ℕ) → IsFalling g → AreReaches g lists a
    → IsUnion lists (successors g a) a xs → IsReach g a xs
union_reach g lists a xs falling all u = record {
  rises = u.rises;
  members = λ c. (
    λ w. elim ((u.members c).0 w) [
      | inl (b, edge, v) ↦ through a b edge (((all b (falling a b edge)).members c).0 v)
      | inr e ↦ rw e here
    ],
    λ r. (u.members c).1 (union_from g lists a c falling all r),
  );
}

-- what holds of each list holds with one more
pub each_push : (P : ℕ → List ℕ → Type 0) (lists new : List (List ℕ)) (xs : List ℕ) (n : ℕ) → new ≡ lists ++ xs ∷ []
    → length lists ≡ n
    → ((a : ℕ) → a < n → P a (get_or lists a [])) → P n xs → (a : ℕ) → a < n + 1 → P a (get_or new a [])
each_push P lists new xs n e len all last a h = grind (arith, common_steps)

pub one_long : (xs : List ℕ) → 1 ≤ length xs → length xs < 2 → xs ≡ get_or xs 0 0 ∷ []
one_long xs more less = grind (arith, common_steps)

-- the union of one list with a number above it
pub union_of_one : (lists : List (List ℕ)) (nodes : List ℕ) (b a : ℕ) (xs : List ℕ) → nodes ≡ b ∷ []
    → xs ≡ get_or lists b [] ++ a ∷ [] → IsStrictlyIncreasing (get_or lists b [])
    → ((c : ℕ) → Contains (get_or lists b []) c → c < a) → IsUnion lists nodes a xs
union_of_one lists nodes b a xs one is up below = rw (one, is) (record {
  rises = rises_push (get_or lists b []) a up below;
  members = λ c. joined_both (push_iff (get_or lists b []) a c)
      (λ w. (b, (0, lit< tt, refl), w), λ (d, is, w). rw (one_only b d is) w) (λ e. e, λ e. e);
})
