-- Where reading stops is the fault.
use Rattle.proto_syntax.proofs.Common.{◌≡◌, ℕ, ◌+◌, ◌-◌, ◌≤◌, ◌<◌, Option, None, Some, cond, Bool, true, false, List, [], ◌∷◌, ◌++◌, length, take, refl, sym, ◌∙◌, ap, arith, length-append, append-nil, slice_get, length-map, Token, spellings, kind_here, kind_at, slice_get_cases, slice_get_within, Spelled, spelled, Grammar, Tree, flatten, IsFront, Outcome, Read, Stops, ended, read, file, IsTreeOf, IsFaultAt, token_before, IsKindOf, at_end, too_deep, other}
use Rattle.std.proofs.Math.Seq.{take-append_seam, take-append-add}
use Rattle.proto_base.specs.declared.kind.Kind.TheVariants.{TooDeep}
use Rattle.proto_syntax.proofs.Reach.{IsFault, fault_found, read_found, read_again, one_tree}
use Rattle.proto_syntax.proofs.Levels.{file_decides}
use Rattle.proto_syntax.proofs.Deeper.{deeper_front, Sees, sees, above, file_deeper, file_deeper_other}

take_front : (before us ts : List Spelled) (k : ℕ) → ts ≡ before ++ us → k + length us ≡ length ts → take k ts ≡ before
take_front before us ts k e l =
    let n : k ≡ length before = omega (arith, ap length e, length-append before us) in
    rw (n, e) (take-append_seam before us)

take_more : (before us ts : List Spelled) (t : Spelled) (vs : List Spelled) (k : ℕ) → ts ≡ before ++ us
    → us ≡ t ∷ vs → k + length us ≡ length ts → take (k + 1) ts ≡ before ++ (t ∷ [])
take_more before us ts t vs k e q l =
    let n : k ≡ length before = omega (arith, ap length e, length-append before us) in
    rw (n, e, q) (take-append-add before (t ∷ vs) 1)

-- the fault, by its number
module _ (limit : ℕ) (ts us : List Spelled) (b : Bool) (k : ℕ) (e : ended (read (file limit) ts) ≡ Stops b us)
    (l : k + length us ≡ length ts) where
  the_fault : IsFault (file limit) ts us
  the_fault = fault_found (file limit) ts b us (file_decides limit) e

  no_front_here : (vs : List Spelled) → us ≡ vs → k < length ts → IsFront (file limit) (take (k + 1) ts) → ⊥
  no_front_here [] q h f = absurd (omega (arith, ap length q))
  no_front_here (t ∷ vs) q h f =
      the_fault.no_further t vs q (rw (take_more the_fault.before us ts t vs k the_fault.parts q l) at f)

  no_file_here : (x : Tree) → IsTreeOf limit ts x → ⊥
  no_file_here x h = let r = rw h.tokens at (read_again (file limit) x (file_decides limit) h.tree) in cc (ap ended r)

  fault_at : IsFaultAt limit ts k
  fault_at = record {
    within = omega arith;
    front = rw (take_front the_fault.before us ts k the_fault.parts l) the_fault.front;
    no_front = no_front_here us refl;
    no_file = no_file_here;
  }

-- what is seen at the end of the tokens with a larger limit
ended_sees : (g : Grammar) (ts us : List Spelled) (b : Bool) (o o' : Outcome) → Sees g ts o o' → ended o ≡ Stops b us
    → Sees g ts (Stops b us) (ended o')
ended_sees g ts us b (Read x []) o' h i = cc
ended_sees g ts us b (Read x (t ∷ vs)) o' h i = grind arith
ended_sees g ts us b (Stops false vs) o' h i = grind arith
ended_sees g ts us b (Stops true vs) o' h i = grind arith

-- the kind of the fault where reading stops, not for the depth
kind_here_is : (limit : ℕ) (ts us : List Spelled) (k : ℕ) → ended (read (file limit) ts) ≡ Stops false us
    → k + length us ≡ length ts → (o : Option Spelled) → slice_get ts k ≡ o
    → IsKindOf ts k (kind_here (token_before ts k) o)
kind_here_is limit ts us k e l None q = at_end (grind (arith, slice_get_cases ts k))
kind_here_is limit ts us k e l (Some t) q = other q (λ (n, f).
    let s = ended_sees (file (above limit n)) ts us false (read (file limit) ts) (read (file (above limit n)) ts)
    (sees (file_deeper limit n) ts) e in
    (fault_at (above limit n) ts us false k s l).no_front (slice_get_within ts k t q)
    (deeper_front (file_deeper_other limit n) f))

kind_found : (limit : ℕ) (ts us : List Spelled) (b : Bool) (k : ℕ) → ended (read (file limit) ts) ≡ Stops b us
    → k + length us ≡ length ts → IsKindOf ts k (cond b TooDeep (kind_at ts k))
kind_found limit ts us false k e l = kind_here_is limit ts us k e l (slice_get ts k) refl
kind_found limit ts us true k e l =
    let g = ended_sees (file (above limit 0)) ts us true (read (file limit) ts) (read (file (above limit 0)) ts)
    (sees (file_deeper limit 0) ts) e in
    too_deep (omega (arith, ap length g.here))
    (above limit 0, rw (take_more g.before us ts g.token g.later k g.parts g.here l) g.front)

-- the same of the tokens of the code
pub stopped_at : (limit : ℕ) (ts us : List Token) (b : Bool)
    → ended (read (file limit) (spellings ts)) ≡ Stops b (spellings us)
    → (length us ≤ length ts) × IsFaultAt limit (spellings ts) (length ts - length us)
    × IsKindOf (spellings ts) (length ts - length us) (cond b TooDeep (kind_at (spellings ts) (length ts - length us)))
stopped_at limit ts us b e =
    let f = fault_found (file limit) (spellings ts) b (spellings us) (file_decides limit) e in
    let n : length us ≤ length ts = omega (
      arith,
      ap length f.parts,
      length-append f.before (spellings us),
      length-map us spelled,
      length-map ts spelled,
    ) in
    let l : (length ts - length us) + length (spellings us) ≡ length (spellings ts) =
    omega (arith, length-map us spelled, length-map ts spelled) in
    (n, fault_at limit _ _ b _ e l, kind_found limit _ _ b _ e l)

pub tree_found : (limit : ℕ) (ts us : List Spelled) (x : Tree) → ended (read (file limit) ts) ≡ Read x us
    → IsTreeOf limit ts x
tree_found limit ts us x e =
    let q : read (file limit) ts ≡ Read x [] = grind arith in
    let s = read_found (file limit) ts x [] q in
    record { tree = s.0; tokens = sym (s.1 ∙ append-nil (flatten x)) }

pub only_tree : (limit : ℕ) (ts : List Spelled) (x y : Tree) → IsTreeOf limit ts x → IsTreeOf limit ts y → x ≡ y
only_tree limit ts x y h i = grind (arith, one_tree, file_decides)
