-- Each kind of step keeps the rule of the marks.
use Rattle.share_work.proofs.Sums.{only_one, sum_by-map, none_in, front, behind, front_or_behind, in_map, of_map, in_flat, of_flat, pairs_both, flat_set, flat_split, flat_join, EachAt, each_set, each_split, sum_by-at}
use Rattle.share_work.proofs.Common.{common_steps, ◌≡◌, ℕ, ◌+◌, ◌-◌, ◌^◌, ◌<◌, ◌≤◌, ◌⊎◌, inl, inr, ⊎_elim, Bool, cond, ltb, List, [], ◌∷◌, ◌++◌, length, set, slice_index, sym, refl, ap, ◌∙◌, subst, arith, min, get_or-set_same, Option, None, Contains, sum_by, lt-ltb, set-get_or, map-set, map-append, Contains-append_left, Contains-append_right, Contains-append_cases, sum_by-cons, sum_by-append, sum_by_push, some, get_elem?, at_map, set_again, Call, NONE, least_at, call, posts_of, known, with_call, all_calls, IsKept, MarkSeatValue, MarkTableValue, at_each, marked_posts, owed_by, owed_of, mark_left, mark_right, mark_both, spent, make_debt, next_debt, with_root, with_paid, mark_spent}
use Rattle.std.specs.Prelude.{Some as just}
use Rattle.atomic_table.specs.Table.{State, keeps, Allows}
use Rattle.share_work.specs.declared.views.View.{View}
use Rattle.share_work.specs.declared.mark_view.Debt.{Debt}
use Rattle.share_work.specs.declared.mark_view.MarkView.{MarkView}
use Rattle.share_work.specs.MarkRule.{all_views, all_marks, all_owed, IsMarked}
use Rattle.share_work.proofs.Steps.{calls_split, calls_join, IsKept-post, IsKept-split, IsKept-join, held-le-known, back, IsClosed, closes}
use Rattle.share_work.proofs.Legal.{SameCalls, posts_same, least_at-le-NONE, least_at-above, least_le}

at_view : (views : List MarkView) (id : ℕ) (v : MarkView) → get_elem? views id ≡ some v
    → get_elem? (all_views views) id ≡ some v.least
at_view views id v e = at_map (λ (u : MarkView). u.least) views id v e

-- the pairs of one mark
pub each_to : (n : ℕ) (files : List ℕ) (g x : ℕ) → Contains (at_each n files) (g, x) → (n ≡ x) × Contains files g
each_to n files g x h = let r = of_map (λ f. (f, n)) files (g, x) h in
    ((λ i. (r.2 i).1), subst (Contains files) (λ i. (r.2 i).0) r.1)

module _ (list : ℕ → List ℕ) where
  -- a post of the marks is one of a mark whose root reaches the file
  pub marked_from : (marks : List (ℕ × ℕ)) (r g x : ℕ) → Contains marks (r, x) → Contains (list r) g
      → Contains (marked_posts list marks) (g, x)
  marked_from marks r g x h reach = in_flat (λ (m : ℕ × ℕ). at_each m.1 (list m.0)) marks (r, x) (g, x) h
      (in_map (λ f. (f, x)) (list r) g reach)

  pub marked_to : (marks : List (ℕ × ℕ)) (g x : ℕ) → Contains (marked_posts list marks) (g, x)
      → (r : ℕ) × Contains marks (r, x) × Contains (list r) g
  marked_to marks g x h =
      let t = of_flat (λ (m : ℕ × ℕ). at_each m.1 (list m.0)) marks (g, x) h in
      let u = each_to t.0.1 (list t.0.0) g x t.2 in
      (t.0.0, subst (λ y. Contains marks (t.0.0, y)) u.0 t.1, u.1)

  -- more marks have more posts
  marked_more : (ms ns : List (ℕ × ℕ)) → ((p : ℕ × ℕ) → Contains ms p → Contains ns p) → (g x : ℕ)
      → Contains (marked_posts list ms) (g, x) → Contains (marked_posts list ns) (g, x)
  marked_more ms ns more g x h = let t = marked_to ms g x h in marked_from ns t.0 g x (more (t.0, x) t.1) t.2

abbrev pub Empty : MarkView → Type 0
Empty v = v.least.parts ≡ 0 → (v.marks ≡ []) × (v.debt ≡ None)

-- what a root's post leaves owed
owed_new : (list : ℕ → List ℕ) (r n : ℕ) (b : Bool) (g x : ℕ)
    → Contains (owed_by list (cond b (just (make_debt r n 0)) None)) (g, x) → (n ≡ x) × Contains (list r) g
owed_new list r n b g x h = grind (arith, each_to n (list r) g x, none_in)

-- a word after a post
module _ (words : List ℕ) (g n : ℕ) (inside : g + 1 < length words) where
  abbrev after : List ℕ
  after = set words (g + 1) (min (slice_index words (g + 1)) n)

  word_here : slice_index after (g + 1) ≡ min (slice_index words (g + 1)) n
  word_here = rw get_or-set_same refl

  word_falls : (h : ℕ) → slice_index after (h + 1) ≤ slice_index words (h + 1)
  word_falls h = grind (arith, common_steps)

  -- it fell to n, or stayed
  word_cases : (h : ℕ) → ((h ≡ g) × (n < slice_index words (g + 1)) × (slice_index after (h + 1) ≡ n))
      ⊎ (slice_index after (h + 1) ≡ slice_index words (h + 1))
  word_cases h = grind (arith, common_steps)

-- the file's word is at most y, or the file is owed at most y
abbrev Settled : List ℕ → List (ℕ × ℕ) → ℕ → ℕ → Type 0
Settled words os g y = (slice_index words (g + 1) ≤ y) ⊎ ((x : ℕ) × Contains os (g, x) × (x ≤ y))

-- no word rises, and what was owed is owed still, or its word holds no more
record Falls (words words' : List ℕ) (os os' : List (ℕ × ℕ)) : Type 0 where
  fall : (g : ℕ) → slice_index words' (g + 1) ≤ slice_index words (g + 1)
  still : (g x : ℕ) → Contains os (g, x) → Contains os' (g, x) ⊎ (slice_index words' (g + 1) ≤ x)

settled : (words words' : List ℕ) (os os' : List (ℕ × ℕ)) → Falls words words' os os' → (g y z : ℕ) → y ≤ z
    → Settled words os g y → Settled words' os' g z
settled words words' os os' f g y z le (inl at_most) = inl (omega (arith, f.fall g, at_most, le))
settled words words' os os' f g y z le (inr (x, owed, low)) =
    elim (f.still g x owed) [ inl h ↦ inr (x, h, omega arith) | inr h ↦ inl (omega arith) ]

module _ (count : ℕ) (list : ℕ → List ℕ) (words : List ℕ) (views : List MarkView)
    (k : IsMarked count list words views) (words' : List ℕ) (views' : List MarkView) where
  -- what is posted, owed or a mark was so before, or is as it is to be
  record Follows : Type 0 where
    falls : Falls words words' (all_owed list views) (all_owed list views')
    more : (p : ℕ × ℕ) → Contains (all_marks views) p → Contains (all_marks views') p
    posts : (p : ℕ × ℕ) → Contains (posts_of (all_calls (all_views views'))) p
        → Contains (marked_posts list (all_marks views')) p ⊎ Contains (posts_of (all_calls (all_views views))) p
    owes : (p : ℕ × ℕ) → Contains (all_owed list views') p
        → Contains (marked_posts list (all_marks views')) p ⊎ Contains (all_owed list views) p
    marks : (s x : ℕ) → Contains (all_marks views') (s, x)
        → ((s < count) × (x < NONE) × (slice_index words' (s + 1) ≤ x)) ⊎ Contains (all_marks views) (s, x)
    fell : (s g : ℕ) → s < count → Contains (list s) g → Settled words' (all_owed list views') g
        (slice_index words' (s + 1)) ⊎ (slice_index words' (s + 1) ≡ slice_index words (s + 1))

  IsMarked-next : IsKept count words' (all_views views') → EachAt Empty views' → Follows
      → IsMarked count list words' views'
  IsMarked-next kept empty f = record {
    kept = kept;
    posted = λ g x h. ⊎_elim (λ m. m) (λ o. marked_more list _ _ f.more g x (k.posted g x o)) (f.posts (g, x) h);
    owed = λ g x h. ⊎_elim (λ m. m) (λ o. marked_more list _ _ f.more g x (k.owed g x o)) (f.owes (g, x) h);
    marks = λ s x h. grind (arith, f.marks s x h, k.marks s x, f.falls.fall s);
    spread = λ s g in_s reach less. elim (f.fell s g in_s reach) [
      | inl d ↦ d
      | inr e ↦ settled _ _ _ _ f.falls g _ _ (omega (arith, e)) (k.spread s g in_s reach (omega (arith, e, less)))
    ];
    empty = empty;
  }

module _ (count : ℕ) (list : ℕ → List ℕ) (words : List ℕ) (views : List MarkView) (id : ℕ) (v : MarkView)
    (at : get_elem? views id ≡ some v)
    (some_part : 0 < v.least.parts) (k : IsMarked count list words views) where
  -- the least table's part of a post, whose call is an old one or the new one
  kept_post : (w : MarkView) (g n : ℕ) → g < count → n < NONE
      → w.least ≡ with_call v.least (call g (slice_index words (g + 1)) n)
      → IsKept count (set words (g + 1) (min (slice_index words (g + 1)) n)) (all_views (set views id w))
  kept_post w g n inside lt is = rw (map-set (λ (u : MarkView). u.least) views id w, is)
      (IsKept-post count words (all_views views) id v.least (at_view views id v at) some_part k.kept g inside n lt)

  posted_set : (w : MarkView) (c : Call) → w.least ≡ with_call v.least c → (ps : List (ℕ × ℕ))
      → Contains ps (c.word, c.number) → (p : ℕ × ℕ) → Contains (posts_of (all_calls (all_views (set views id w)))) p
      → Contains ps p ⊎ Contains (posts_of (all_calls (all_views views))) p
  posted_set w c is ps mine p h =
      let old : List View = all_views views in let us : List View = set old id (with_call v.least c) in
      elim (front_or_behind (c.word, c.number) (posts_of (all_calls old)) p
      (posts_same (all_calls us) (c ∷ all_calls old) (λ f.
      let a = flat_set f (λ (u : View). u.calls) old id v.least (at_view views id v at) (with_call v.least c) in
      omega (arith, sum_by_push f v.least.calls c, sum_by-cons f c (all_calls old))) p
      (rw (map-set (λ (u : MarkView). u.least) views id w, is) at h))) [ inl e ↦ inl (rw e at mine) | inr o ↦ inr o ]

  pub IsMarked-root : ((r : ℕ) → r < count → Contains (list r) r) → v.debt ≡ None → (r n : ℕ) → r < count → n < NONE
      → IsMarked count list (set words (r + 1) (min (slice_index words (r + 1)) n))
      (set views id (with_root r (slice_index words (r + 1)) n v))
  IsMarked-root refl_ none r n inside lt =
      let m : ℕ = slice_index words (r + 1) in let w : MarkView = with_root r m n v in
      let views' : List MarkView = set views id w in let room : r + 1 < length words = omega (arith, k.kept.size) in
      let ms : List (ℕ × ℕ) = all_marks views in let os : List (ℕ × ℕ) = all_owed list views in
      let ow : List (ℕ × ℕ) = owed_of list w in
      let mark = pairs_both (all_marks views') ((r, n) ∷ ms) (λ h.
      let a = flat_set h (λ (u : MarkView). u.marks) views id v at w in
      omega (arith, sum_by-cons h (r, n) ms, sum_by-cons h (r, n) v.marks)) in
      let owe = pairs_both (all_owed list views') (os ++ ow) (λ h.
      let a = flat_set h (owed_of list) views id v at w in let b = sum_by-append h os ow in
      omega (arith, ap (λ (o : Option Debt). sum_by h (owed_by list o)) none)) in
      let posts : (g : ℕ) → Contains (list r) g → Contains (marked_posts list (all_marks views')) (g, n) =
      λ g h. marked_from list (all_marks views') r g n (mark.1 (r, n) (front (r, n) ms)) h in
      IsMarked-next count list words views k (after words r n room) views' (kept_post w r n inside lt refl)
      (each_set Empty views id w (λ (z : w.least.parts ≡ 0). absurd (omega arith)) k.empty)
      record {
        falls = record {
          fall = word_falls words r n room;
          still = λ g x o. inl (owe.1 (g, x) (Contains-append_left os ow (g, x) o));
        };
        more = λ p h. mark.1 p (behind (r, n) ms p h);
        posts = posted_set w (call r m n) refl (marked_posts list (all_marks views')) (posts r (refl_ r inside));
        owes = λ p h. elim (Contains-append_cases os ow p (owe.0 p h)) [
          | inl o ↦ inr o
          | inr o ↦ let t = owed_new list r n (ltb n m) p.0 p.1 o in
              inl (subst (λ b. Contains (marked_posts list (all_marks views')) (p.0, b)) t.0 (posts p.0 t.1))
        ];
        marks = λ s x h. elim (front_or_behind (r, n) ms (s, x) (mark.0 (s, x) h))
            [ inl e ↦ inl (grind (arith, word_here words r n room)) | inr o ↦ inr o ];
        fell = λ s g in_s reach. elim (word_cases words r n room s) [
          | inl e ↦
              let there : Contains ow (g, n) = rw (lt-ltb n m e.1)
              (in_map (λ f. (f, n)) (list r) g (subst (λ a. Contains (list a) g) e.0 reach)) in
              inl (inr (n, owe.1 (g, n) (Contains-append_right os ow (g, n) there), omega (arith, e.2)))
          | inr e ↦ inr e
        ];
      }

  pub IsMarked-paid : ((r g h : ℕ) → r < count → Contains (list r) g → Contains (list g) h → Contains (list r) h)
      → (last : Bool) (g n : ℕ) (rest : List (ℕ × ℕ)) → owed_of list v ≡ (g, n) ∷ rest
      → owed_by list (next_debt last v.debt) ≡ rest → g < count
      → IsMarked count list (set words (g + 1) (min (slice_index words (g + 1)) n))
      (set views id (with_paid last g (slice_index words (g + 1)) n v))
  IsMarked-paid trans last g n rest is rest_is inside =
      let m : ℕ = slice_index words (g + 1) in let w : MarkView = with_paid last g m n v in
      let views' : List MarkView = set views id w in let room : g + 1 < length words = omega (arith, k.kept.size) in
      let ms : List (ℕ × ℕ) = all_marks views in let ms' : List (ℕ × ℕ) = all_marks views' in
      let os : List (ℕ × ℕ) = all_owed list views in let os' : List (ℕ × ℕ) = all_owed list views' in
      let mark = pairs_both ms' ms (λ h. let e = flat_set h (λ u. u.marks) views id v at w in omega arith) in
      let owe = pairs_both ((g, n) ∷ os') os (λ h.
      let a = flat_set h (owed_of list) views id v at w in let b = ap (sum_by h) is in let c = ap (sum_by h) rest_is in
      omega (arith, sum_by-cons h (g, n) rest, sum_by-cons h (g, n) os')) in
      let was = k.owed g n (owe.0 (g, n) (front (g, n) os')) in
      let of = marked_to list ms g n was in let root : ℕ = of.0 in let its = k.marks root n of.1 in
      let falls : Falls words (after words g n room) os os' = record {
        fall = word_falls words g n room;
        still = λ a x o. elim (front_or_behind (g, n) os' (a, x) (owe.1 (a, x) o))
            [ inl q ↦ inr (grind (arith, word_here words g n room)) | inr p ↦ inl p ];
      } in
      IsMarked-next count list words views k (after words g n room) views' (kept_post w g n inside its.1 refl)
      (each_set Empty views id w (λ (z : w.least.parts ≡ 0). absurd (omega arith)) k.empty)
      record {
        falls = falls;
        more = mark.1;
        posts = posted_set w (call g m n) refl (marked_posts list ms') (marked_more list ms ms' mark.1 g n was);
        owes = λ p h. inr (owe.0 p (behind (g, n) os' p h));
        marks = λ s x h. inr (mark.0 (s, x) h);
        fell = λ s a in_s reach. elim (word_cases words g n room s) [
          | inl e ↦
              let through = trans root g a its.0 of.2 (subst (λ b. Contains (list b) a) e.0 reach) in
              inl (settled _ _ _ _ falls a _ _ (omega (arith, its.2, e.2))
              (k.spread root a its.0 through (omega (arith, its.1, its.2))))
          | inr e ↦ inr e
        ];
      }

  -- the same words, calls, marks and debts
  IsMarked-views : (views' : List MarkView) (us : List View) → all_views views' ≡ us → IsKept count words us
      → SameCalls (all_calls (all_views views)) (all_calls us)
      → ((h : ℕ × ℕ → ℕ) → sum_by h (all_marks views') ≡ sum_by h (all_marks views))
      → ((h : ℕ × ℕ → ℕ) → sum_by h (all_owed list views') ≡ sum_by h (all_owed list views))
      → EachAt Empty views' → IsMarked count list words views'
  IsMarked-views views' us is kept calls marks owed empty =
      let mark = pairs_both (all_marks views') (all_marks views) marks in
      let owe = pairs_both (all_owed list views') (all_owed list views) owed in
      IsMarked-next count list words views k words views' (rw is kept) empty record {
        falls = record { fall = λ g. omega arith; still = λ g x h. inl (owe.1 (g, x) h) };
        more = mark.1;
        posts = λ p h. inr (posts_same (all_calls us) _ (λ f. sym (calls f)) p (rw is at h));
        owes = λ p h. inr (owe.0 p h);
        marks = λ s x h. inr (mark.0 (s, x) h);
        fell = λ s g in_s reach. inr refl;
      }

  module _ (none : v.debt ≡ None) where
    pub IsMarked-split : (j : ℕ) → 0 < j → j < v.least.parts
        → IsMarked count list words (set views id (mark_left j v) ++ mark_right j v ∷ [])
    IsMarked-split j pos lt =
        let l : MarkView = mark_left j v in let r : MarkView = mark_right j v in
        let old : List View = all_views views in
        IsMarked-views _ (set old id l.least ++ r.least ∷ []) (simp (map-append, map-set))
        (IsKept-split _ _ _ _ _ (at_view views id v at) some_part k.kept j pos lt)
        (calls_split old id v.least (at_view views id v at) j)
        (λ h. let e = flat_split h (λ (u : MarkView). u.marks) views id v at l r in omega arith)
        (λ h. let a = flat_split h (owed_of list) views id v at l r in
        omega (arith, ap (λ (y : Option Debt). sum_by h (owed_by list y)) none))
        (each_split Empty views id l r (λ (z : l.least.parts ≡ 0). absurd (omega arith))
        (λ (z : r.least.parts ≡ 0). absurd (omega arith)) k.empty)

    pub IsMarked-join : (other : ℕ) (w : MarkView) → w.debt ≡ None
        → get_elem? (set views id (mark_both v w)) other ≡ some w
        → (¬ (other ≡ id)) → IsMarked count list words (set (set views id (mark_both v w)) other mark_spent)
    IsMarked-join other w none' at' apart =
        let b : MarkView = mark_both v w in let vs : List MarkView = set views id b in
        let old : List View = all_views views in
        let at_w : get_elem? (set old id b.least) other ≡ some w.least =
        rw (map-set (λ (u : MarkView). u.least) views id b) at (at_view vs other w at') in
        IsMarked-views (set vs other mark_spent) (set (set old id b.least) other spent) (simp map-set)
        (IsKept-join count words old id v.least (at_view views id v at) some_part k.kept other w.least at_w)
        (calls_join old id v.least (at_view views id v at) other w.least at_w)
        (λ h. let a = flat_join h (λ (u : MarkView). u.marks) views id v at b other w mark_spent at' in
        omega (arith, sum_by-append h v.marks w.marks))
        (λ h. let a = flat_join h (owed_of list) views id v at b other w mark_spent at' in
        let owes = λ (y : Option Debt). sum_by h (owed_by list y) in omega (arith, ap owes none, ap owes none'))
        (each_set Empty vs other mark_spent (λ z. (refl, refl))
        (each_set Empty views id b (λ (z : b.least.parts ≡ 0). absurd (omega arith)) k.empty))

abbrev pub mark_holds : ℕ → (ℕ → List ℕ) → State (Unit {0}) MarkView → Type 0
mark_holds count list s = IsMarked count list s.words s.views

module _ (count : ℕ) (list : ℕ → List ℕ) (slots id : ℕ) (v : MarkView) (cs : List (ℕ × Unit {0}))
    (pos : 0 < v.least.parts) where
  pub root_allows : ((r : ℕ) → r < count → Contains (list r) r) → v.debt ≡ None → (r n : ℕ) → r < count → n < NONE
      → Allows (mark_holds count list) slots id (v, cs) (r + 1) (λ x. min x n)
      (λ found after. (found ≤ known (r + 1 - 1) v.least) × (after ≡ (with_root (r + 1 - 1) found n v, cs)))
  root_allows refl_ none r n inside lt s k homes at small =
      let e = back r in let now = IsMarked-root _ _ _ _ _ _ at pos k refl_ none r n inside lt in
      let low = held-le-known _ _ _ _ _ (at_view s.views id v at) pos k.kept r inside in
      (_, keeps, tt, rw e now, (rw e low, refl))

  pub paid_allows : ((r g h : ℕ) → r < count → Contains (list r) g → Contains (list g) h → Contains (list r) h)
      → (last : Bool) (g n : ℕ) (rest : List (ℕ × ℕ)) → owed_of list v ≡ (g, n) ∷ rest
      → owed_by list (next_debt last v.debt) ≡ rest → g < count
      → Allows (mark_holds count list) slots id (v, cs) (g + 1) (λ x. min x n)
      (λ found after. after ≡ (with_paid last (g + 1 - 1) found n v, cs))
  paid_allows trans last g n rest is rest_is inside s k homes at small =
      (_, keeps, tt, rw (back g) (IsMarked-paid _ _ _ _ _ _ at pos k trans last g n rest is rest_is inside), refl)

module _ (count : ℕ) (list : ℕ → List ℕ) (slots id : ℕ) (v : MarkView) (cs : List (ℕ × Unit {0})) where
  pub mark_count_allows : Allows (mark_holds count list) slots id (v, cs) 0 (λ x. x)
      (λ found after. (v.least.parts ≤ 2 ^ 32) × (after ≡ (v, cs)))
  mark_count_allows s k homes at small =
      let part = sum_by-at (λ (u : View). u.parts) (all_views s.views) id v.least (at_view s.views id v at) in
      let all = k.kept.parts in
      (v, keeps, tt, rw (set-get_or s.words 0 0, set_again s.views id v at) k, (omega arith, refl))

-- what is of one table has its identity
pub one_table : {R : Type 0} {a b : MarkSeatValue} {s t : MarkTableValue R} → a ≡ b → s ≡ t → b.table ≡ t.table
    → a.table ≡ s.table
one_table seat self same = (λ i. (seat i).table) ∙ same ∙ (λ i. (sym self i).table)

pub record IsMarkClosed (count : ℕ) (list : ℕ → List ℕ) (words : List ℕ) (v : MarkView) : Type 0 where
  pub base : IsClosed count words v.least
  pub least : (w : ℕ) → w < count → slice_index words (w + 1) ≡ least_at w (marked_posts list v.marks)

pub mark_closes : (count : ℕ) (list : ℕ → List ℕ) (id : ℕ) (v : MarkView) (ws : List ℕ) → v.least.parts ≡ 2 ^ 32
    → v.debt ≡ None → (words : List ℕ) (views : List MarkView) → IsMarked count list words views
    → get_elem? views id ≡ some v → words ≡ ws → IsMarkClosed count list ws v
mark_closes count list id v ws all none words views k at ws_is =
    let parts = sum_by-map (λ (u : View). u.parts) (λ (u : MarkView). u.least) views in
    let marks = only_one (λ (u : MarkView). u.least.parts) (λ u. u.marks) views id v at
    (λ i u a z. (k.empty i u a z).0) (omega (arith, k.kept.parts)) in
    let owed = only_one (λ (u : MarkView). u.least.parts) (owed_of list) views id v at
    (λ i u a z. ap (owed_by list) (k.empty i u a z).1) (omega (arith, k.kept.parts)) in record {
      base = closes count id v.least ws all words (all_views views) k.kept (at_view views id v at) ws_is;
      least = λ w inside.
          let ps : List (ℕ × ℕ) = marked_posts list (all_marks views) in
          let qs : List (ℕ × ℕ) = posts_of (all_calls (all_views views)) in
          let is = k.kept.least w inside in let low = least_le w ps qs (k.posted w) in
          let high : slice_index words (w + 1) ≤ least_at w ps = least_at-above w _ ps
          (omega (arith, least_at-le-NONE w qs)) (λ x h.
          let t = marked_to list (all_marks views) w x h in let m = k.marks t.0 x t.1 in
          elim (k.spread t.0 w m.0 t.2 (omega (arith, m.1, m.2)))
          [ inl le ↦ omega (arith, m.2, le) | inr o ↦ absurd (none_in (w, o.0) (rw (owed, none) at o.1)) ]) in
          rw (← ws_is, ← marks) (omega arith);
    }
