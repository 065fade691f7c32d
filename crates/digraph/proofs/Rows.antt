-- What loops over rows of nodes keep: members, marks, edges and ways, whatever they gather.
use Rattle.digraph.proofs.Common.{ℕ, zero, suc, ne_eqb, ◌≤◌, arith, ◌≡◌, ◌⊎◌, ◌+◌, ◌<◌, ◌↔◌, rules, sym, subst, List, length, get_or, Bool, true, Contains, set, IsPermutation, length-append, get_or_default, [], ◌∷◌, ◌++◌, ◌∙◌, append_assoc, false, length-set, eqb, take, drop, Vec, Global, Graph, Edge, graph_of, successors, Leads, here, through, common_steps, cases_eq, cases_lt, true≢false, eqb-true, false_from_ne_true, IsMarked, Among, AreMarked, IsFrontOf, list_any, IsStrictlyIncreasing, Contains-get_or, Contains-append_cases, Contains-append_right, Contains-push, Contains-push_cases, Contains-append_left, IsDistinct-push, IsDistinct-from_apart, map-set, map-append}
use Rattle.std.proofs.lemmas.List.Sorted.{Contains-permutation, IsPermutation-sym}
use Rattle.std.proofs.Math.Seq.{get_or-append_right}
use Rattle.std.specs.List.{IsDistinct}
use Rattle.std.proofs.Math.ListN.{get_or-append}
use Rattle.std.proofs.lemmas.Map.Views.{Contains-from_any, list_any-from_Contains}
use Rattle.std.proofs.lemmas.Map.Steps.{length-le_from_distinct_below, le-length_from_below}
use Rattle.std.specs.Cmp.{nat_eq_equiv}

-- ---- ways over a relation

pub leads_trans : (R : ℕ → ℕ → Type 0) (b c a : ℕ) → Leads R b a → Leads R c b → Leads R c a
leads_trans R b c _ here k = k
leads_trans R b c _ (through a m edge more) k = through a m edge (leads_trans R b c m more k)

-- where f takes edges to edges it takes ways to ways
pub leads_map : (R S : ℕ → ℕ → Type 0) (f : ℕ → ℕ) → ((a b : ℕ) → R a b → S (f a) (f b)) → (c a : ℕ) → Leads R c a
    → Leads S (f c) (f a)
leads_map R S f steps c _ here = here
leads_map R S f steps c _ (through a m edge more) =
    through (f a) (f m) (steps a m edge) (leads_map R S f steps c m more)

-- one edge more at the end
pub leads_last : (R : ℕ → ℕ → Type 0) (b c a : ℕ) → Leads R b a → R b c → Leads R c a
leads_last R b c a way edge = leads_trans R b c a way (through b c edge here)

-- the same ways, the other way round
pub leads_turned : (R S : ℕ → ℕ → Type 0) → ((a b : ℕ) → R a b → S b a) → (c a : ℕ) → Leads R c a → Leads S a c
leads_turned R S f c _ here = here
leads_turned R S f c _ (through a m edge more) = leads_last S m a c (leads_turned R S f c m more) (f a m edge)

-- what falls at each edge doesn't rise over a way
pub leads_le : (R : ℕ → ℕ → Type 0) (f : ℕ → ℕ) → ((a b : ℕ) → R a b → f b < f a) → (c a : ℕ) → Leads R c a → f c ≤ f a
leads_le R f falls c _ here = omega arith
leads_le R f falls c _ (through a m edge more) =
    let below = falls a m edge in let rest = leads_le R f falls c m more in omega arith

-- ---- steps of loops that gather, whatever they gather

-- nothing is met yet
pub joined_none : {I M : Type 0} → (M → ⊥) → I ↔ (I ⊎ M)
joined_none out = grind arith

pub joined_by : {A B C : Type 0} → (A → B ⊎ C) → (B → A) → (C → A) → A ↔ (B ⊎ C)
joined_by f g h = grind arith

-- what a step meets is joined to what the loop has
pub joined_step : {A B I M N P : Type 0} → A ↔ (B ⊎ P) → B ↔ (I ⊎ M) → N ↔ (M ⊎ P) → A ↔ (I ⊎ N)
joined_step f g h = grind arith

-- the same, where the loop began with nothing
pub joined_more : {A B M N P : Type 0} → A ↔ (B ⊎ P) → B ↔ M → N ↔ (M ⊎ P) → A ↔ N
joined_more f g h = grind arith

-- the same of those of which Q holds
pub joined_where : {A B M N O P Q : Type 0} → A ↔ (B ⊎ (O × Q)) → B ↔ (M × Q) → O ↔ P → N ↔ (M ⊎ P) → A ↔ (N × Q)
joined_where f g e h = grind arith

pub joined_all_where : {A B C Q : Type 0} → A ↔ (B × Q) → C ↔ B → A ↔ (C × Q)
joined_all_where f g = grind arith

pub joined_both : {A B C P Q : Type 0} → A ↔ (B ⊎ P) → B ↔ C → P ↔ Q → A ↔ (C ⊎ Q)
joined_both f g h = grind arith

pub joined_fresh : {A B C M P Q : Type 0} → A ↔ (B ⊎ P) → B ↔ (C ⊎ M) → (C → ⊥) → P ↔ Q → A ↔ (M ⊎ Q)
joined_fresh f g out h = grind arith

pub joined_two : {A B C : Type 0} → A ↔ B → B ↔ C → A ↔ C
joined_two f g = grind arith

-- one more of what holds where S does
pub joined_if : {A B P S : Type 0} → A ↔ (B ⊎ P) → S → A ↔ (B ⊎ (S × P))
joined_if f s = grind arith

-- what is met is there already
pub joined_there : {A M N P : Type 0} → A ↔ M → N ↔ (M ⊎ P) → (P → A) → A ↔ N
joined_there f g h = grind arith

pub joined_again : {A I M N P : Type 0} → A ↔ (I ⊎ M) → N ↔ (M ⊎ P) → (P → A) → A ↔ (I ⊎ N)
joined_again f g h = grind arith

pub joined_end : {A I M N : Type 0} → A ↔ (I ⊎ M) → N ↔ M → A ↔ (I ⊎ N)
joined_end f h = grind arith

-- what is met is p, of which Q holds, or does not
pub where_more : {M N : Type 0} (Q : ℕ → Type 0) (p a : ℕ) → N ↔ (M ⊎ (p ≡ a)) → Q p → (N × Q a) ↔ ((M × Q a) ⊎ (p ≡ a))
where_more Q p a h q = (λ w. grind arith, λ w. grind arith)

pub where_skip : {M N : Type 0} (Q : ℕ → Type 0) (p a : ℕ) → N ↔ (M ⊎ (p ≡ a)) → (Q p → ⊥) → (N × Q a) ↔ (M × Q a)
where_skip Q p a h out = (λ w. grind arith, λ w. grind arith)

-- a loop over the numbers below n, whose step meets n
pub below_more : {A B P : Type 0} (Q : ℕ → Type 0) (n a : ℕ) → A ↔ (B ⊎ ((a ≡ n) × P)) → B ↔ ((a < n) × Q a) → P ↔ Q n
    → A ↔ ((a < n + 1) × Q a)
below_more Q n a f g h = (λ w. grind arith, λ w. grind arith)

pub below_skip : {A : Type 0} (Q : ℕ → Type 0) (n a : ℕ) → A ↔ ((a < n) × Q a) → (Q n → ⊥) → A ↔ ((a < n + 1) × Q a)
below_skip Q n a f out = (λ w. grind arith, λ w. grind arith)

pub below_push : {A B : Type 0} (Q : ℕ → Type 0) (n a : ℕ) → A ↔ (B ⊎ (n ≡ a)) → B ↔ ((a < n) × Q a) → Q n
    → A ↔ ((a < n + 1) × Q a)
below_push Q n a f g q = (λ w. grind arith, λ w. grind arith)

-- ---- lists of nodes

pub among_more : (xs : List ℕ) (n c : ℕ) → Among xs (n + 1) c ↔ (Among xs n c ⊎ (get_or xs n 0 ≡ c))
among_more xs n c = grind arith

pub among_all : (xs : List ℕ) (n c : ℕ) → n ≡ length xs → Contains xs c ↔ Among xs n c
among_all xs n c e = grind (arith, common_steps)

pub mark_one : (marks : List Bool) (p c : ℕ) → p < length marks
    → IsMarked (set marks p true) c ↔ (IsMarked marks c ⊎ (p ≡ c))
mark_one marks p c h = grind (arith, common_steps, cases_eq)

-- what holds of one of the first n
pub among_some : (Q : ℕ → Type 0) (xs : List ℕ) (n : ℕ)
    → ((c : ℕ) × Among xs (n + 1) c × Q c) ↔ (((c : ℕ) × Among xs n c × Q c) ⊎ Q (get_or xs n 0))
among_some Q xs n = grind (arith, common_steps, among_more)

pub among_some_all : (Q : ℕ → Type 0) (xs : List ℕ) (n : ℕ) → n ≡ length xs
    → ((c : ℕ) × Contains xs c × Q c) ↔ ((c : ℕ) × Among xs n c × Q c)
among_some_all Q xs n e = grind (arith, common_steps, among_all)

pub same_members : (xs ys : List ℕ) (c : ℕ) → IsPermutation xs ys → Contains ys c ↔ Contains xs c
same_members xs ys c moved =
    (Contains-permutation ys xs c (IsPermutation-sym xs ys moved), Contains-permutation xs ys c moved)

-- from each element of the list to the next
abbrev pub Steps : (ℕ → ℕ → Type 0) → List ℕ → Type 0
Steps R xs = (k : ℕ) → k + 1 < length xs → R (get_or xs k 0) (get_or xs (k + 1) 0)

pub steps_append : (R : ℕ → ℕ → Type 0) (xs ys : List ℕ) → Steps R xs → Steps R ys
    → ((a b : ℕ) → Contains xs a → Contains ys b → R a b) → Steps R (xs ++ ys)
steps_append R xs ys first second between k h =
    search (rules, Contains-get_or, cases_lt, get_or-append, get_or-append_right, length-append)

-- where each comes before the next one, it comes before all behind it, and none stands there twice
module _ {X : Type 0} (R : X → X → Type 0) (trans : (x y z : X) → R x y → R y z → R x z) (xs : List X) (d : X)
    (rises : (k : ℕ) → k + 1 < length xs → R (get_or xs k d) (get_or xs (k + 1) d)) where
  pub far : (i j : ℕ) → i < j → j < length xs → R (get_or xs i d) (get_or xs j d)
  far i zero h inside = absurd (omega arith)
  far i (suc j) h inside =
      let before = far i j in
      grind (arith, before, rises j, trans (get_or xs i d) (get_or xs j d) (get_or xs (j + 1) d))

pub once : (R : ℕ → ℕ → Type 0) → ((x y z : ℕ) → R x y → R y z → R x z) → ((x : ℕ) → R x x → ⊥) → (xs : List ℕ)
    → ((k : ℕ) → k + 1 < length xs → R (get_or xs k 0) (get_or xs (k + 1) 0)) → IsDistinct eqb xs
once R trans never xs rises = IsDistinct-from_apart eqb xs (λ i j d less inside. ne_eqb _ _ (λ same. never _
    (rw (get_or_default xs i 0 d (omega arith), get_or_default xs j 0 d inside, same) at
    (far R trans xs 0 rises i j less inside))))

-- numbers below n with no two equal are at most n, and all numbers below n are at least n
pub few : (xs : List ℕ) (n : ℕ) → IsDistinct eqb xs → ((c : ℕ) → Contains xs c → c < n) → length xs ≤ n
few xs n distinct below =
    length-le_from_distinct_below xs n distinct (λ q e. below q (Contains-from_any eqb-true q xs e))

pub many : (xs : List ℕ) (n : ℕ) → ((c : ℕ) → c < n → Contains xs c) → n ≤ length xs
many xs n all = le-length_from_below xs n (λ q h. list_any-from_Contains nat_eq_equiv q xs (all q h))

pub one_only : (s c : ℕ) → Contains (s ∷ []) c → s ≡ c
one_only s c w = grind arith

-- one more number, above those before it
pub rises_push : (xs : List ℕ) (p : ℕ) → IsStrictlyIncreasing xs → ((c : ℕ) → Contains xs c → c < p)
    → IsStrictlyIncreasing (xs ++ p ∷ [])
rises_push xs p up below = steps_append (λ a b. a < b) xs (p ∷ []) up (λ k h. absurd (omega arith))
    (λ a b w v. let is = one_only p b v in let less = below a w in omega arith)

-- ---- marking

-- what a loop over nodes keeps, of the marked ones before it
pub record Visited (old nodes : List ℕ) (n : ℕ) (marks : List Bool) (marked : List ℕ) : Type 0 where
  pub room : (k : ℕ) → k < length nodes → get_or nodes k 0 < length marks
  pub are : AreMarked marks marked
  pub prefix : IsFrontOf old marked
  pub added : (c : ℕ) → Contains marked c ↔ (Contains old c ⊎ Among nodes n c)

pub IsDistinct_none : IsDistinct eqb []
unfolding IsDistinct
IsDistinct_none = tt

pub distinct_push : (xs : List ℕ) (x : ℕ) → IsDistinct eqb xs → (Contains xs x → ⊥) → IsDistinct eqb (xs ++ x ∷ [])
distinct_push xs x d out = IsDistinct-push nat_eq_equiv xs x d
    (false_from_ne_true (list_any (eqb x) xs) (λ e. out (Contains-from_any eqb-true x xs e)))

pub append_iff : (xs ys : List ℕ) (c : ℕ) → Contains (xs ++ ys) c ↔ (Contains xs c ⊎ Contains ys c)
append_iff xs ys c =
    joined_by (Contains-append_cases xs ys c) (Contains-append_left xs ys c) (Contains-append_right xs ys c)

pub push_iff : (xs : List ℕ) (p c : ℕ) → Contains (xs ++ p ∷ []) c ↔ (Contains xs c ⊎ (p ≡ c))
push_iff xs p c = joined_by (Contains-push_cases xs p c) (Contains-append_left xs (p ∷ []) c)
    (λ e. subst (Contains (xs ++ p ∷ [])) e (Contains-push xs p))

module _ (old nodes : List ℕ) (n : ℕ) (marks : List Bool) (marked : List ℕ) (h : n < length nodes)
    (v : Visited old nodes n marks marked) where
  pub visited_push : get_or marks (get_or nodes n 0) false ≡ false
      → Visited old nodes (n + 1) (set marks (get_or nodes n 0) true) (marked ++ get_or nodes n 0 ∷ [])
  visited_push out =
      let p = get_or nodes n 0 in
      record {
        room = λ k inside. rw length-set (v.room k inside);
        are = record {
          same = λ c. joined_more (mark_one marks p c (v.room n h)) (v.are.same c) (push_iff marked p c);
          once = distinct_push marked p v.are.once (λ w. true≢false (sym ((v.are.same p).1 w).1 ∙ out));
        };
        prefix = (v.prefix.0 ++ p ∷ [], cc (v.prefix.1, append_assoc old v.prefix.0 (p ∷ [])));
        added = λ c. joined_step (push_iff marked p c) (v.added c) (among_more nodes n c);
      }

  pub visited_skip : get_or marks (get_or nodes n 0) false ≡ true → Visited old nodes (n + 1) marks marked
  visited_skip inside = record {
    room = v.room;
    are = v.are;
    prefix = v.prefix;
    added = λ c. joined_again (v.added c) (among_more nodes n c)
        (λ e. rw e at ((v.are.same (get_or nodes n 0)).0 (v.room n h, inside)));
  }

-- ---- rows that are appended, and rows that get one node more

pub row_items : (rows : List (Vec ℕ Global)) (k : ℕ) (v : Vec ℕ Global) → v ≡ get_or rows k v → k < length rows
    → v.items ≡ successors (graph_of rows) k
row_items rows k v e h = grind (arith, common_steps)

pub no_items : (b : ℕ) → Contains {X = ℕ} [] b → ⊥
no_items b (k, h, e) = omega arith

pub edge_below : (g : Graph) (a b : ℕ) → Edge g a b → a < length g
edge_below g a b edge = grind (arith, common_steps)

-- what holds of a row where one more row is behind the others, and where one is replaced
at_push : (P : List ℕ → Type 0) (g : Graph) (xs : List ℕ) (a : ℕ) → (P [] → ⊥)
    → P (successors (g ++ xs ∷ []) a) ↔ (P (successors g a) ⊎ ((a ≡ length g) × P xs))
at_push P g xs a none = grind (arith, common_steps)

at_set : (P : List ℕ → Type 0) (Q : Type 0) (g : Graph) (s a : ℕ) (xs : List ℕ) → s < length g
    → P xs ↔ (P (successors g s) ⊎ Q) → P (successors (set g s xs) a) ↔ (P (successors g a) ⊎ ((a ≡ s) × Q))
at_set P Q g s a xs h both = grind (arith, common_steps, cases_eq)

pub edge_push : (g : Graph) (xs : List ℕ) (a b : ℕ)
    → Edge (g ++ xs ∷ []) a b ↔ (Edge g a b ⊎ ((a ≡ length g) × Contains xs b))
edge_push g xs a b = at_push (λ row. Contains row b) g xs a (no_items b)

pub graph_push : (rows : List (Vec ℕ Global)) (v : Vec ℕ Global) → graph_of (rows ++ v ∷ []) ≡ graph_of rows
    ++ v.items ∷ []
graph_push rows v = map-append (λ (x : Vec ℕ Global). x.items) rows (v ∷ [])

pub length_graph : (rows : List (Vec ℕ Global)) → length (graph_of rows) ≡ length rows
length_graph rows = grind (arith, common_steps)

-- a node is pushed to a row
pub row_pushed : (rows : List (Vec ℕ Global)) (s node : ℕ) (v w : Vec ℕ Global) → v ≡ get_or rows s v → s < length rows
    → w.items ≡ v.items ++ node ∷ []
    → (b a : ℕ) → Edge (graph_of (set rows s w)) b a ↔ (Edge (graph_of rows) b a ⊎ ((b ≡ s) × (node ≡ a)))
row_pushed rows s node v w e h items b a =
    rw (map-set (λ (x : Vec ℕ Global). x.items) rows s w, items, row_items rows s v e h)
    (at_set (λ row. Contains row a) (node ≡ a) (graph_of rows) s b _ (omega (arith, length_graph rows))
    (push_iff _ node a))

-- what a loop keeps that pushes one node to the rows of others
pub record Turning (nodes : List ℕ) (node : ℕ) (old : Graph) (n : ℕ) (rows : List (Vec ℕ Global)) : Type 0 where
  pub room : (k : ℕ) → k < length nodes → get_or nodes k 0 < length rows
  pub edges : (b a : ℕ) → Edge (graph_of rows) b a ↔ (Edge old b a ⊎ ((a ≡ node) × Among nodes n b))

pub turning_more : (nodes : List ℕ) (node : ℕ) (old : Graph) (n : ℕ) (rows : List (Vec ℕ Global)) (v w : Vec ℕ Global)
    → n < length nodes → v ≡ get_or rows (get_or nodes n 0) v
    → w.items ≡ (get_or rows (get_or nodes n 0) v).items ++ node ∷ [] → Turning nodes node old n rows
    → Turning nodes node old (n + 1) (set rows (get_or nodes n 0) w)
turning_more nodes node old n rows v w h e items t = record {
  room = λ k inside. rw length-set (t.room k inside);
  edges = λ b a. joined_step (row_pushed rows _ node v w e (t.room n h) (rw (sym e) at items) b a) (t.edges b a)
      (λ w. grind (arith, among_more), λ w. grind (arith, among_more));
}

-- what is written to all of a list replaces it
pub written : {X : Type 0} (new items : List X) (n : ℕ) → n ≡ length items → length new ≡ length items
    → take n (new ++ drop (length new) items) ≡ new
written new items n e len = grind (arith, common_steps)
