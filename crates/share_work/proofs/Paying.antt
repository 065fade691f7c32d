-- How far a mark has come with what it owes.
use Rattle.share_work.proofs.Common.{common_steps, ◌≡◌, ℕ, zero, suc, ◌+◌, ◌<◌, ◌≤◌, Bool, cond, List, [], ◌∷◌, ◌++◌, take, drop, length, slice_get, Some, None, ◌==◌, arith, append_assoc, add-one, Contains, eq-eqb, take_all, slice_get_cases, map-append, drop_all, Call, call, posts_of, at_each, owed_by, owed_of, make_debt, debt_at, next_debt, with_calls}
use Rattle.share_work.specs.declared.mark_view.MarkView.{MarkView}
use Rattle.share_work.proofs.Sums.{behind}

-- the first k files have their posts, and the rest is owed
pub record IsPaying (v u : MarkView) (root n k : ℕ) (files : List ℕ) : Type 0 where
  pub later : List Call
  pub posted : posts_of later ≡ at_each n (take k files)
  pub view : u ≡ with_calls v later (debt_at root n k files)
  pub position : k ≤ length files

pub get_some : (files : List ℕ) (k g : ℕ) → slice_get files k ≡ Some g
    → (k < length files) × (take (suc k) files ≡ take k files ++ g ∷ []) × (drop k files ≡ g ∷ drop (suc k) files)
    × Contains files g
get_some [] k g e = absurd (cc)
get_some (x ∷ xs) zero g e = grind arith
get_some (x ∷ xs) (suc k) g e = grind (arith, behind, get_some xs k g e)

pub none_past : {X : Type 0} (xs : List X) (k : ℕ) → slice_get xs k ≡ None → length xs ≤ k
none_past xs k e = grind (arith, slice_get_cases)

pub paying_none : (v : MarkView) (root n g : ℕ) (files : List ℕ) → Contains files g
    → v.debt ≡ Some (make_debt root n 0) → IsPaying v v root n 0 files
paying_none v root n g files some_file e = grind (arith, common_steps)

-- the debt while a file is left
pub debt_now : (v u : MarkView) (root n k : ℕ) (files : List ℕ) → IsPaying v u root n k files → k < length files
    → u.debt ≡ Some (make_debt root n k)
debt_now v u root n k files p lt = grind arith

pub paying_more : (v u w : MarkView) (root n k : ℕ) (files : List ℕ) (g found : ℕ) → IsPaying v u root n k files
    → slice_get files k ≡ Some g
    → w ≡ with_calls u (call g found n ∷ []) (debt_at root n (k + 1) files) → IsPaying v w root n (k + 1) files
paying_more v u w root n k files g found p e is =
    let s = get_some files k g e in let c : Call = call g found n in
    record {
      later = p.later ++ c ∷ [];
      posted = grind (arith, add-one, map-append);
      view = grind (arith, append_assoc);
      position = omega (arith, s.0);
    }

-- what the debt owes at a position, and after it
pub owed_here : (list : ℕ → List ℕ) (v : MarkView) (root n k g : ℕ) → v.debt ≡ Some (make_debt root n k)
    → slice_get (list root) k ≡ Some g
    → owed_of list v ≡ (g, n) ∷ at_each n (drop (suc k) (list root))
owed_here list v root n k g d e = rw (d, (get_some (list root) k g e).2)

pub owed_next : (list : ℕ → List ℕ) (v : MarkView) (root n k g : ℕ) (last : Bool) → v.debt ≡ Some (make_debt root n k)
    → slice_get (list root) k ≡ Some g
    → last ≡ (k + 1 == length (list root))
    → owed_by list (next_debt last v.debt) ≡ at_each n (drop (suc k) (list root))
owed_next list v root n k g last d e is = grind (arith, common_steps)

pub paying_all : (v u : MarkView) (root n k : ℕ) (files : List ℕ) → IsPaying v u root n k files
    → slice_get files k ≡ None
    → (later : List Call) × (posts_of later ≡ at_each n files) × (u ≡ with_calls v later None)
paying_all v u root n k files p e = grind (arith, cond, eq-eqb, drop_all, none_past, take_all)
