-- The replies: each by itself, the files of one but its root, and those of all roots over a reach.
use Rattle.std.proofs.lemmas.Grind.{common_steps}
use Rattle.std.proofs.Common.{◌≡◌, ℕ, zero, suc, ◌+◌, ◌||◌, ◌&&◌, not, Bool, true, cond, Option, Some, None, List, [], ◌∷◌, ◌++◌, filter, length, refl, ap, ◌∙◌, arith, rules, eq-eqb, eqb-true, eqb, slice_get, take, slice_index, ◌<◌, ◌≤◌, false, map, sym, All, Contains}
use Rattle.std.proofs.lemmas.List.Folds.{list_any-append}
use Rattle.std.specs.Option.{ForSome}
use Rattle.std.proofs.lemmas.Option.{slice_get_within, get_or_from_slice_get}
use Rattle.share_work.proofs.Together.{get_there}
use Rattle.first_reach.specs.declared.mode.Mode.{Mode}
use Rattle.first_reach.specs.declared.mode.Mode.TheVariants.{Once, Repeat}
use Rattle.first_reach.specs.Carried.{reached, root_first, repeats, carried_from, carried}
use Rattle.first_reach.specs.First.{first_from, first_reach}
use Rattle.first_reach.specs.Laws.{ReachThemselves, CarriesFirsts, RepeatCarriesRoots}
use Rattle.first_reach.proofs.Lists.{has, filter_on, has_filter, has_is, has_root_first, all_get, filter_filter, filter_none}
use Rattle.first_reach.proofs.Firsts.{first_hits, first_spreads}
use Rattle.std.proofs.lemmas.Bool.{ne_eqb, and_right}
use Rattle.std.proofs.lemmas.List.Elements.{filter_more}
use Rattle.first_reach.specs.Reply.{reply_at, others_at, RootIsFirstToo}
use Rattle.share_work.specs.Posts.{NONE}
use Rattle.share_work.specs.Shares.{GivesItems}

-- each root reaches itself
abbrev pub Own : (ℕ → List ℕ) → List (Option ℕ) → Type 0
Own reach roots = (k r : ℕ) → slice_get roots k ≡ Some (Some r) → has r (reach r) ≡ true

step : (a b : Bool) (i k F : ℕ) → (not (a || b) && eqb F (i + 1 + k)) ≡ (not a && eqb (cond b i F) (i + suc k))
step a b i k F = grind (arith, common_steps)

-- each reply, where some files were sent before
replies_are : (mode : Mode) (reach : ℕ → List ℕ) (roots : List (Option ℕ)) (sent : List ℕ) (i k : ℕ) (root : Option ℕ)
    → Own reach roots
    → slice_get roots k ≡ Some root
    → slice_get (carried_from mode reach sent roots) k
    ≡ Some (filter (λ g. repeats mode root g || (not (has g sent) && eqb (first_from reach i roots g) (i + k)))
    (root_first reach root))
replies_are mode reach [] sent i k root own e = let bad : None ≡ Some root = e in absurd (search rules)
replies_are mode reach (r ∷ roots) sent i zero root own e =
    let same : r ≡ root = cc in rw same (ap (λ (l : List ℕ). Some l) (filter_on _ _ (root_first reach root) (λ g h.
    grind (arith, eq-eqb, has_root_first reach root (λ x is. own 0 x (grind arith)) g))))
replies_are mode reach (r ∷ roots) sent i (suc k) root own e =
    replies_are mode reach roots (sent ++ reached reach r) (i + 1) k root (λ j x is. own (suc j) x is) e
    ∙ ap (λ (l : List ℕ). Some l) (filter_on _ _ (root_first reach root) (λ g h.
    grind (
      arith,
      list_any-append (eqb g) sent (reached reach r),
      step (has g sent) (has g (reached reach r)) i k (first_from reach (i + 1) roots g),
    )))

pub reply_is : (mode : Mode) (reach : ℕ → List ℕ) (roots : List (Option ℕ)) (i : ℕ) (root : Option ℕ) → Own reach roots
    → slice_get roots i ≡ Some root
    → slice_get (carried mode reach roots) i
    ≡ Some (filter (λ g. repeats mode root g || eqb (first_reach reach roots g) i) (root_first reach root))
reply_is mode reach roots i root own e = grind (arith, replies_are mode reach roots [] 0 i root own e)

pub carried_length : (mode : Mode) (reach : ℕ → List ℕ) (sent : List ℕ) (roots : List (Option ℕ))
    → length (carried_from mode reach sent roots) ≡ length roots
carried_length mode reach sent [] = refl
carried_length mode reach sent (r ∷ roots) = ap (λ n. suc n) (carried_length mode reach (sent ++ reached reach r) roots)

own_of : (reach : ℕ → List ℕ) (roots : List (Option ℕ)) → ReachThemselves reach roots → Own reach roots
own_of reach roots h k r e = (has_is r (reach r)).1
    (all_get (λ root. ForSome root (λ x. Contains (reach x) x)) roots k (Some r) h e r refl)

-- what a reply has
says : (mode : Mode) (reach : ℕ → List ℕ) (roots : List (Option ℕ)) (i g : ℕ) (root : Option ℕ) (files : List ℕ)
    → Own reach roots
    → slice_get roots i ≡ Some root
    → slice_get (carried mode reach roots) i ≡ Some files
    → has g files ≡ (has g (reached reach root) && (repeats mode root g || eqb (first_reach reach roots g) i))
says mode reach roots i g root files own at e =
    let test : ℕ → Bool = λ x. repeats mode root x || eqb (first_reach reach roots x) i in
    let kept = reply_is mode reach roots i root own at in
    let of_root = has_root_first reach root (λ r is. own i r (at ∙ ap (λ (x : Option ℕ). Some x) is)) g in
    grind (arith, has_filter test g (root_first reach root))

pub carries : CarriesFirsts
carries reach roots top own i g files e =
    let inside = slice_get_within (carried Once reach roots) i files e in
    let len = carried_length Once reach [] roots in
    let root = get_there roots i (omega arith) in
    let is = says Once reach roots i g root.0 files (own_of reach roots own) root.1 e in
    let back = first_hits reach roots 0 g i root.0 (omega arith) root.1 in
    grind (arith, eqb-true, has_is g files)

repeated : (root : Option ℕ) (g : ℕ) → repeats Repeat root g ≡ true → root ≡ Some g
repeated root g e = grind (arith, eqb-true)

pub carries_roots : RepeatCarriesRoots
carries_roots reach roots top own i g root files at e =
    let is = says Repeat reach roots i g root files (own_of reach roots own) at e in
    let back = first_hits reach roots 0 g i root (omega arith) at in
    let mine = own_of reach roots own i g in
    grind (arith, eqb-true, has_is g files, repeated root g)

-- one more file
pub others_more : (first : List ℕ) (i r k file : ℕ) (files : List ℕ) → slice_get files k ≡ Some file
    → others_at first i r (take (k + 1) files) ≡ others_at first i r (take k files)
    ++ cond (not (eqb file r) && eqb (slice_index first file) i) (file ∷ []) []
others_more first i r k file files at =
    let p : ℕ → Bool = λ g. not (eqb g r) && eqb (slice_index first g) i in
    filter_more p files k file (slice_get_within files k file at)
    ∙ ap (λ g. filter p (take k files) ++ cond (p g) (g ∷ []) []) (get_or_from_slice_get files k file file at)

-- a reply is its root, where it carries that, and the others
parts : (mode : Mode) (reach : ℕ → List ℕ) (first : List ℕ) (i r : ℕ)
    → reply_at mode reach first i (Some r) ≡ cond (repeats mode (Some r) r || eqb (slice_index first r) i)
    (r ∷ others_at first i r (reach r))
    (others_at first i r (reach r))
parts mode reach first i r =
    let test : ℕ → Bool = λ g. repeats mode (Some r) g || eqb (slice_index first g) i in
    let rest : filter test (filter (λ g. not (eqb g r)) (reach r)) ≡ others_at first i r (reach r) =
    filter_filter test (λ g. not (eqb g r)) (reach r)
    ∙ filter_on _ _ (reach r) (λ g h. once mode g (eqb (slice_index first g) i)) in
    ap (λ l. cond (test r) (r ∷ l) l) rest where
      once : (mode : Mode) (g : ℕ) (b : Bool) → (not (eqb g r) && (repeats mode (Some r) g || b)) ≡ (not (eqb g r) && b)
      once Once g b = refl
      once Repeat g b = grind arith

-- where the root at position i is the first to reach its own file
pub reply_first : (mode : Mode) (reach : ℕ → List ℕ) (first : List ℕ) (i r : ℕ) → slice_index first r ≡ i
    → reply_at mode reach first i (Some r) ≡ r ∷ others_at first i r (reach r)
reply_first mode reach first i r is = grind (arith, parts mode reach first i r)

-- where it isn't, the reply has nothing but a root that is repeated
pub reply_later : (mode : Mode) (reach : ℕ → List ℕ) (first : List ℕ) (i r : ℕ) → (slice_index first r ≡ i → ⊥)
    → RootIsFirstToo reach first i r
    → reply_at mode reach first i (Some r) ≡ cond (repeats mode (Some r) r) (r ∷ []) []
reply_later mode reach first i r later spreads =
    grind (arith, and_right, filter_none, has_is, ne_eqb, parts mode reach first i r)

map_same : {A B : Type 0} (f : A → B) (xs : List A) (ys : List B) → length xs ≡ length ys
    → ((i : ℕ) (x : A) (y : B) → slice_get xs i ≡ Some x → slice_get ys i ≡ Some y → f x ≡ y) → map f xs ≡ ys
map_same f (x ∷ xs) (y ∷ ys) len same =
    grind (arith, same 0 x y refl refl, map_same f xs ys (omega arith) (λ i a b e e'. same (suc i) a b e e'))
map_same f [] [] len same = refl
map_same f xs ys len same = absurd (omega arith)

module _ (files : ℕ) (list : ℕ → List ℕ)
    (within : (r g : ℕ) → r < files → Contains (list r) g → g < files)
    (reflexive : (r : ℕ) → r < files → Contains (list r) r)
    (transitive : (r g h : ℕ) → r < files → Contains (list r) g → Contains (list g) h → Contains (list r) h)
    (roots : List (Option ℕ)) (few : length roots ≤ NONE) (below : All (λ root. ForSome root (λ r. r < files)) roots)
    (least : List ℕ) (first : (g : ℕ) → g < files → slice_index least g ≡ first_reach list roots g) where
  root_below : (i : ℕ) (root : Option ℕ) (r : ℕ) → slice_get roots i ≡ Some root → root ≡ Some r → r < files
  root_below i root r at is = all_get (λ x. ForSome x (λ y. y < files)) roots i root below at r is

  own : Own list roots
  own i r at = (has_is r (list r)).1 (reflexive r (root_below i (Some r) r at refl))

  -- what a root reaches, each root before it reaches that reaches the root
  joins : (r g : ℕ) → Contains (list r) g → (k : ℕ) (root : Option ℕ) → slice_get roots k ≡ Some root
      → has r (reached list root) ≡ true
      → has g (reached list root) ≡ true
  joins r g h k None at e = let bad : false ≡ true = e in cc
  joins r g h k (Some x) at e = (has_is g (list x)).1
      (transitive x r g (root_below k (Some x) x at refl) ((has_is r (list x)).0 e) h)

  pub root_first_too : (i : ℕ) (root : Option ℕ) (r : ℕ) → slice_get roots i ≡ Some root → root ≡ Some r
      → (r < files) × RootIsFirstToo list least i r
  root_first_too i root r at is =
      let small = root_below i root r at is in
      let inside = slice_get_within roots i root at in
      let got : slice_get roots i ≡ Some (Some r) = cc in (
        small,
        λ g h e. first r small ∙ first_spreads list roots i r g few got (joins r g h) (own i r got) (omega arith)
            (sym (first g (within r g small h)) ∙ e),
      )

  reply_same : (mode : Mode) (i : ℕ) (root : Option ℕ) → slice_get roots i ≡ Some root
      → slice_get (carried mode list roots) i ≡ Some (reply_at mode list least i root)
  reply_same mode i root at =
      reply_is mode list roots i root own at
      ∙ ap (λ (l : List ℕ). Some l) (filter_on _ _ (root_first list root) (λ g h.
      let below = file_below root at g in
      grind (arith, first g, has_root_first list root (λ r is. own i r (cc (at, is))) g))) where
        file_below : (root : Option ℕ) → slice_get roots i ≡ Some root → (g : ℕ)
            → has g (reached list root) ≡ true → g < files
        file_below None at g h = let bad : false ≡ true = h in cc
        file_below (Some r) at g h = within r g (root_below i (Some r) r at refl) ((has_is g (list r)).0 h)

  pub carried_all : {O : Type 0} (items : O → List ℕ) (mode : Mode) (outs : List O)
      → GivesItems (λ i root out. items out ≡ reply_at mode list least i root) 0 roots outs
      → map items outs ≡ carried mode list roots
  carried_all items mode outs gives =
      map_same items outs (carried mode list roots) (gives.0 ∙ sym (carried_length mode list [] roots))
      (λ i out reply eo er.
      let inside = slice_get_within outs i out eo in let len = gives.0 in
      let root = get_there roots i (omega arith) in
      grind (arith, gives.1 i root.0 out root.1 eo, reply_same mode i root.0 root.1))
