-- Each kind of step keeps the rule.
use Rattle.share_work.proofs.Sums.{only_one, flat_set, flat_split, flat_join, EachAt, each_set, each_split, sum_by-at_set, sum_by-at, at_in, behind, front_or_behind, in_flat, of_map, pairs_in}
use Rattle.share_work.proofs.Common.{common_steps, ◌≡◌, ◌≢◌, ℕ, ◌+◌, ◌-◌, ◌^◌, ◌<◌, ◌≤◌, ◌⊎◌, inl, inr, ⊎_elim, List, [], ◌∷◌, ◌++◌, length, set, slice_index, sym, refl, ◌∙◌, subst, arith, min, length-set, get_or-set_other, Contains, sum_by, set-get_or, Contains-append_cases, sum_by-cons, sum_by-append, sum_by_push, some, get_elem?, set_again, Call, NONE, least_at, SeatValue, TableValue, call, posts_of, finds_of, pairs_of, known, with_call, with_told, left_of, right_of, both_of, spent, all_calls, all_told, IsLegal, IsPosted, IsKept}
use Rattle.atomic_table.specs.Table.{State, keeps, Allows}
use Rattle.share_work.specs.declared.views.View.{View}
use Rattle.share_work.proofs.Legal.{SameCalls, least_here, least_else, least_at-le-NONE, least_at-above, least_at-below, least_at-reached, least_at-same, post_in, posts_same, IsLegal-same, IsLegal-post}

module _ (views : List View) (id : ℕ) (v : View) (at : get_elem? views id ≡ some v) where
  -- what a seat found, posted or was told is NONE or posted
  pairs_posted : IsLegal (all_calls views) → IsPosted (all_told views) (all_calls views)
      → IsPosted (pairs_of v) (all_calls views)
  pairs_posted l t w x h =
      let calls : List Call = all_calls views in let here = at_in views id v at in
      let in_all = λ (c : Call). in_flat (λ (u : View). u.calls) views v c here in
      elim (Contains-append_cases (finds_of v.calls ++ posts_of v.calls) v.told (w, x) h) [
        | inl k ↦ elim (Contains-append_cases (finds_of v.calls) (posts_of v.calls) (w, x) k) [
          | inl j ↦
              let r = of_map (λ (c : Call). (c.word, c.found)) v.calls (w, x) j in
              let is : r.0.found ≡ x = λ i. (r.2 i).1 in elim ((l w).linked r.0 (in_all r.0 r.1) (λ i. (r.2 i).0))
              [ inl a ↦ inl (omega (arith, a)) | inr b ↦ inr (rw (← is, ← b.3) (post_in w calls b.0 b.1 b.2.0)) ]
          | inr j ↦
              let r = of_map (λ (c : Call). (c.word, c.number)) v.calls (w, x) j in
              let is : r.0.number ≡ x = λ i. (r.2 i).1 in
              inr (rw (← is) (post_in w calls r.0 (in_all r.0 r.1) (λ i. (r.2 i).0)))
        ]
        | inr k ↦ t w x (in_flat (λ (u : View). u.told) views v (w, x) here k)
      ]

  least-le-known : (w : ℕ) → IsLegal (all_calls views) → IsPosted (all_told views) (all_calls views)
      → least_at w (posts_of (all_calls views)) ≤ known w v
  least-le-known w l t =
      let ps : List (ℕ × ℕ) = posts_of (all_calls views) in let top = least_at-le-NONE w ps in
      least_at-above w _ (pairs_of v) top (λ x h. grind (arith, pairs_posted l t w x h, least_at-below w x ps))

  parts_set : (w : View) → sum_by (λ (u : View). u.parts) (set views id w) + v.parts ≡ sum_by (λ (u : View). u.parts)
      views + w.parts
  parts_set w = sum_by-at_set (λ (u : View). u.parts) views id v w at

  -- a split and a join keep the calls
  pub calls_split : (j : ℕ) → SameCalls (all_calls views) (all_calls (set views id (left_of j v) ++ right_of j v ∷ []))
  calls_split j h = let e = flat_split h (λ u. u.calls) views id v at (left_of j v) (right_of j v) in omega arith

  pub calls_join : (other : ℕ) (w : View) → get_elem? (set views id (both_of v w)) other ≡ some w
      → SameCalls (all_calls views) (all_calls (set (set views id (both_of v w)) other spent))
  calls_join other w at' h =
      let e = flat_join h (λ (u : View). u.calls) views id v at (both_of v w) other w spent at' in
      omega (arith, sum_by-append h v.calls w.calls)

abbrev pub Spent : View → Type 0
Spent v = v.parts ≡ 0 → (v.calls ≡ []) × (v.told ≡ [])

-- each word is the least number after a post, where it was so before
posted_word : (words : List ℕ) (w u n : ℕ) (ps : List (ℕ × ℕ)) → w + 1 < length words
    → slice_index words (w + 1) ≡ least_at w ps → slice_index words (u + 1) ≡ least_at u ps
    → slice_index (set words (w + 1) (min (slice_index words (w + 1)) n)) (u + 1) ≡ least_at u ((w, n) ∷ ps)
posted_word words w u n ps room was old = grind (arith, common_steps, least_here, least_else)

module _ (count : ℕ) (words : List ℕ) (views : List View) (id : ℕ) (v : View) (at : get_elem? views id ≡ some v)
    (some_part : 0 < v.parts)
    (k : IsKept count words views) where
  parts_kept : (w : View) → w.parts ≡ v.parts → sum_by (λ (u : View). u.parts) (set views id w) ≡ 2 ^ 32
  parts_kept w e = omega (arith, parts_set views id v at w, k.parts)

  spent_kept : (w : View) → w.parts ≡ v.parts → EachAt Spent (set views id w)
  spent_kept w e = each_set Spent views id w (λ (z : w.parts ≡ 0). absurd (omega arith)) k.spent

  -- no post is made, and each of the told pairs is posted
  pub IsKept-views : (views' : List View) → SameCalls (all_calls views) (all_calls views')
      → IsPosted (all_told views') (all_calls views)
      → sum_by (λ (u : View). u.parts) views' ≡ 2 ^ 32 → EachAt Spent views' → IsKept count words views'
  IsKept-views views' same posted parts empty = record {
    size = k.size;
    seat_word = k.seat_word;
    least = λ w h. k.least w h ∙ least_at-same w (all_calls views) (all_calls views') same;
    legal = IsLegal-same (all_calls views) (all_calls views') same k.legal;
    told = λ w x h. grind (arith, posted w x h, posts_same (all_calls views) (all_calls views') same (w, x));
    parts = parts;
    spent = empty;
  }

  module _ (w : ℕ) (inside : w < count) where
    pub held-le-known : slice_index words (w + 1) ≤ known w v
    held-le-known = rw (k.least w inside) (least-le-known views id v at w k.legal k.told)

    pub IsKept-post : (n : ℕ) → n < NONE
        → IsKept count (set words (w + 1) (min (slice_index words (w + 1)) n))
        (set views id (with_call v (call w (slice_index words (w + 1)) n)))
    IsKept-post n lt =
        let m : ℕ = slice_index words (w + 1) in let c : Call = call w m n in let v' : View = with_call v c in
        let xs : List Call = all_calls views in let views' : List View = set views id v' in
        let ys : List Call = all_calls views' in let is_m : m ≡ least_at w (posts_of xs) = k.least w inside in
        let same : SameCalls (c ∷ xs) ys = λ h. let a = flat_set h (λ (u : View). u.calls) views id v at v' in
        omega (arith, a, sum_by_push h v.calls c, sum_by-cons h c xs) in
        let now : IsLegal (c ∷ xs) = rw is_m (IsLegal-post w n xs lt k.legal) in record {
          size = length-set words (w + 1) (min m n) ∙ k.size;
          seat_word = (let ne : 0 ≢ w + 1 = λ (e : 0 ≡ w + 1). omega arith in rw get_or-set_other k.seat_word);
          least = λ u h. posted_word words w u n (posts_of xs) (omega (arith, k.size)) is_m (k.least u h)
              ∙ least_at-same u (c ∷ xs) ys same;
          legal = IsLegal-same (c ∷ xs) ys same now;
          told = λ u x h. ⊎_elim (λ e. inl e)
              (λ p. inr (posts_same (c ∷ xs) ys same (u, x) (behind (w, n) (posts_of xs) (u, x) p)))
              (k.told u x (pairs_in (all_told views') (all_told views)
              (λ g. let e = flat_set g (λ (u : View). u.told) views id v at v' in omega arith) (u, x) h));
          parts = parts_kept v' refl;
          spent = spent_kept v' refl;
        }

    pub IsKept-look : IsKept count words (set views id (with_told v w (slice_index words (w + 1))))
    IsKept-look =
        let m : ℕ = slice_index words (w + 1) in let v' : View = with_told v w m in
        let old : List (ℕ × ℕ) = all_told views in let xs : List Call = all_calls views in
        let is_m : m ≡ least_at w (posts_of xs) = k.least w inside in
        IsKept-views (set views id v') (λ h. let a = flat_set h (λ (u : View). u.calls) views id v at v' in omega arith)
        (λ u x h. elim (front_or_behind (w, m) old (u, x) (pairs_in (all_told (set views id v')) ((w, m) ∷ old)
        (λ g. let a = flat_set g (λ (u : View). u.told) views id v at v' in let b = sum_by-cons g (w, m) v.told in
        omega (arith, sum_by-cons g (w, m) old)) (u, x) h)) [
          | inl e ↦ let P : ℕ × ℕ → Type 0 = λ p. (p.1 ≡ NONE) ⊎ Contains (posts_of xs) p in
              subst P e (rw is_m (least_at-reached w (posts_of xs)))
          | inr was ↦ k.told u x was
        ])
        (parts_kept v' refl) (spent_kept v' refl)

  pub IsKept-split : (j : ℕ) → 0 < j → j < v.parts
      → IsKept count words (set views id (left_of j v) ++ right_of j v ∷ [])
  IsKept-split j pos lt =
      let l : View = left_of j v in let r : View = right_of j v in let views' : List View = set views id l ++ r ∷ [] in
      let old : List (ℕ × ℕ) = all_told views in
      IsKept-views views' (calls_split views id v at j)
      (λ u x h. ⊎_elim (k.told u x) (pairs_posted views id v at k.legal k.told u x)
      (Contains-append_cases old (pairs_of v) (u, x) (pairs_in (all_told views') (old ++ pairs_of v)
      (λ g. let a = flat_split g (λ (y : View). y.told) views id v at l r in
      omega (arith, sum_by-append g old (pairs_of v))) (u, x) h)))
      (omega (arith, parts_set views id v at l, k.parts, sum_by_push (λ (u : View). u.parts) (set views id l) r))
      (each_split Spent views id l r (λ (z : l.parts ≡ 0). absurd (omega arith))
      (λ (z : r.parts ≡ 0). absurd (omega arith)) k.spent)

  pub IsKept-join : (other : ℕ) (w : View) → get_elem? (set views id (both_of v w)) other ≡ some w
      → IsKept count words (set (set views id (both_of v w)) other spent)
  IsKept-join other w at' =
      let b : View = both_of v w in let vs : List View = set views id b in
      IsKept-views (set vs other spent) (calls_join views id v at other w at')
      (λ u x h. k.told u x (pairs_in (all_told (set vs other spent)) (all_told views)
      (λ g. let a = flat_join g (λ (y : View). y.told) views id v at b other w spent at' in
      omega (arith, sum_by-append g v.told w.told)) (u, x) h))
      (omega (arith, parts_set views id v at b, parts_set vs other w at' spent, k.parts))
      (each_set Spent vs other spent (λ z. (refl, refl))
      (each_set Spent views id b (λ (z : b.parts ≡ 0). absurd (omega arith)) k.spent))

abbrev pub holds : ℕ → State (Unit {0}) View → Type 0
holds count s = IsKept count s.words s.views

pub back : (w : ℕ) → w + 1 - 1 ≡ w
back w = omega arith

-- what is of one table has its identity
pub one_table : {a b : SeatValue} {s t : TableValue} → a ≡ b → s ≡ t → b.table ≡ t.table → a.table ≡ s.table
one_table seat self same = (λ i. (seat i).table) ∙ same ∙ (λ i. (sym self i).table)

module _ (count slots id : ℕ) (v : View) (cs : List (ℕ × Unit {0})) where
  pub post_allows : (w n : ℕ) → 0 < v.parts → w < count → n < NONE
      → Allows (holds count) slots id (v, cs) (w + 1) (λ x. min x n)
      (λ found after. (found ≤ known (w + 1 - 1) v) × (after ≡ (with_call v (call (w + 1 - 1) found n), cs)))
  post_allows w n pos inside lt s k homes at small =
      let e = back w in let now = IsKept-post _ _ _ _ _ at pos k w inside n lt in
      let low = held-le-known _ _ _ _ _ at pos k w inside in (_, keeps, tt, rw e now, (rw e low, refl))

  pub look_allows : (w : ℕ) → 0 < v.parts → w < count → Allows (holds count) slots id (v, cs) (w + 1) (λ x. x)
      (λ found after. (found ≤ known (w + 1 - 1) v) × (after ≡ (with_told v (w + 1 - 1) found, cs)))
  look_allows w pos inside s k homes at small =
      let e = back w in let now = IsKept-look _ _ _ _ _ at pos k w inside in
      let low = held-le-known _ _ _ _ _ at pos k w inside in
      (_, keeps, tt, rw (e, set-get_or s.words (w + 1) 0) now, (rw e low, refl))

  pub count_allows : Allows (holds count) slots id (v, cs) 0 (λ x. x)
      (λ found after. (v.parts ≤ 2 ^ 32) × (after ≡ (v, cs)))
  count_allows s k homes at small =
      let part = sum_by-at (λ (u : View). u.parts) s.views id v at in let all = k.parts in
      (v, keeps, tt, rw (set-get_or s.words 0 0, set_again s.views id v at) k, (omega arith, refl))

-- the words of a table that was closed with the whole view
pub record IsClosed (count : ℕ) (words : List ℕ) (v : View) : Type 0 where
  pub size : length words ≡ count + 1
  pub least : (w : ℕ) → w < count → slice_index words (w + 1) ≡ least_at w (posts_of v.calls)
  pub legal : IsLegal v.calls
  pub told : IsPosted v.told v.calls

pub closes : (count id : ℕ) (v : View) (ws : List ℕ) → v.parts ≡ 2 ^ 32 → (words : List ℕ) (views : List View)
    → IsKept count words views → get_elem? views id ≡ some v → words ≡ ws → IsClosed count ws v
closes count id v ws all words views k at is =
    let calls = only_one (λ (u : View). u.parts) (λ u. u.calls) views id v at (λ i u a z. (k.spent i u a z).0)
    (omega (arith, k.parts)) in
    let told = only_one (λ (u : View). u.parts) (λ u. u.told) views id v at (λ i u a z. (k.spent i u a z).1)
    (omega (arith, k.parts)) in
    record {
      size = rw (← is) k.size;
      least = rw (← is, ← calls) k.least;
      legal = rw (← calls) k.legal;
      told = rw (← told, ← calls) k.told;
    }
