-- What the loops keep that find the files of imports, and what is wrong with imports.
use Rattle.proto_links.proofs.Common.{length-append, ◌≡◌, ◌∙◌, sym, ℕ, ◌+◌, ◌<◌, List, [], ◌∷◌, ◌++◌, length, map, take, get_or, subst, arith, inl, inr, ◌⊎◌, Vec, Global, Bool, true, false, Contains, ◌↔◌, IsTrue, Option, Some, None, cases_lt, cases_eq, common_steps, get_or-map, Contains-push, Contains-push_cases, Contains-append_left, Graph, Edge, graph_of, below_more, joined_end, joined_more, joined_none, edge_push, push_iff, leads_turned, FileDesc, HasMissing, IsGraph, IsWrongAt, IsWrongIn, imports_of, imports_at, IsNamed, Targets, PublicTargets, Imports, ImportsPublicly, name_of, Reaches, IsWrong, missing, cyclic, IsBad, Leads, Kind, IsLeast, spot}
use Rattle.proto_desc.specs.declared.file.ImportDescriptor.{ImportDescriptor}
use Rattle.proto_base.specs.NameOrder.{NamesRise}
use Rattle.proto_links.proofs.NameRows.{named_once}
use Rattle.proto_base.specs.declared.kind.Kind.TheVariants as kind
use Rattle.proto_base.specs.declared.place.Place.{Place}
use Rattle.proto_base.specs.Lesser.{IsLesser}
use Rattle.proto_base.specs.declared.spot.Spot.{Spot}
use Rattle.proto_base.proofs.Sets.{least_of, least_or, least_same, none_of}
use Rattle.proto_links.specs.Bad.{IsFirstBad}

-- ---- one import more

-- some import has P where one before does, or the new one
pub some_more : (P : ImportDescriptor → Type 0) (xs : List ImportDescriptor) (i : ImportDescriptor)
    → ((j : ImportDescriptor) × Contains (xs ++ i ∷ []) j × P j)
    ↔ (((j : ImportDescriptor) × Contains xs j × P j) ⊎ P i)
some_more P xs i = grind (arith, common_steps, Contains-append_left, Contains-push, Contains-push_cases)

pub some_both : (P Q : ImportDescriptor → Type 0) (xs : List ImportDescriptor) (i : ImportDescriptor)
    → ((j : ImportDescriptor) × Contains (xs ++ i ∷ []) j × P j × Q j)
    ↔ (((j : ImportDescriptor) × Contains xs j × P j × Q j) ⊎ (P i × Q i))
some_both P Q xs i = grind (arith, common_steps, Contains-append_left, Contains-push, Contains-push_cases)

-- what a loop over imports keeps, of those before it
pub record Targeting (files : List FileDesc) (xs : List ImportDescriptor) (all public : List ℕ)
    (whole : Bool) : Type 0 where
  pub all_are : (b : ℕ) → Contains all b ↔ Targets files xs b
  pub public_are : (b : ℕ) → Contains public b ↔ PublicTargets files xs b
  pub found : IsTrue whole → HasMissing files xs → ⊥
  pub lacking : whole ≡ false → HasMissing files xs

pub targeting_more : {files : List FileDesc} {xs : List ImportDescriptor} {all public new_all new_public : List ℕ}
    {whole now : Bool} (i : ImportDescriptor)
    → ((b : ℕ) → Contains new_all b ↔ (Contains all b ⊎ IsNamed files i.path b))
    → ((b : ℕ) → Contains new_public b ↔ (Contains public b ⊎ (IsTrue i.is_public × IsNamed files i.path b)))
    → ((now ≡ whole) × ((t : ℕ) × IsNamed files i.path t)) ⊎ ((now ≡ false) × ((b : ℕ) → IsNamed files i.path b → ⊥))
    → Targeting files xs all public whole → Targeting files (xs ++ i ∷ []) new_all new_public now
targeting_more {files} {xs} i all_more public_more which r =
    let missing = some_more (λ j. (b : ℕ) → IsNamed files j.path b → ⊥) xs i in
    record {
      all_are = λ b. joined_more (all_more b) (r.all_are b) (some_more (λ j. IsNamed files j.path b) xs i);
      public_are = λ b. joined_more (public_more b) (r.public_are b)
          (some_both (λ j. IsTrue j.is_public) (λ j. IsNamed files j.path b) xs i);
      found = λ w m. (let cases = missing.0 m in grind (arith, r.found));
      lacking = λ e. missing.1 (elim which [ inl one ↦ inl (r.lacking (sym one.0 ∙ e)) | inr none ↦ inr none.1 ]);
    }

-- the new target is the one file of the name
pub one_more : (files : List FileDesc) {name new : List ℕ} (xs : List ℕ) (t b : ℕ) → NamesRise (map name_of files)
    → IsNamed files name t → new ≡ xs ++ t ∷ [] → Contains new b ↔ (Contains xs b ⊎ IsNamed files name b)
one_more files {name} xs t b order n e =
    rw e (joined_end (push_iff xs t b) (named_once files name order t b n, λ e. subst (IsNamed files name) e n))

pub nothing_more : {xs new : List ℕ} {P : Type 0} (b : ℕ) → new ≡ xs → (P → ⊥) → Contains new b ↔ (Contains xs b ⊎ P)
nothing_more b e out = rw e (joined_none out)

-- ---- one file more

-- rows that are a relation between the first n files and others
pub record Rows (P : ℕ → ℕ → Type 0) (n : ℕ) (g : Graph) : Type 0 where
  pub size : length g ≡ n
  pub edges : (a b : ℕ) → Edge g a b ↔ ((a < n) × P a b)

pub rows_more : (P : ℕ → ℕ → Type 0) (n : ℕ) (g new : Graph) (row : List ℕ) → new ≡ g ++ row ∷ []
    → ((b : ℕ) → Contains row b ↔ P n b) → Rows P n g → Rows P (n + 1) new
rows_more P n g new row e members r = rw e (record {
  size = omega (arith, length-append g (row ∷ []));
  edges = λ a b. below_more (λ k. P k b) n a (rw r.size at (edge_push g row a b)) (r.edges a b) (members b);
})

-- a file that imports is one of the files
pub importer_inside : (files : List FileDesc) (a : ℕ) (i : ImportDescriptor) → Contains (imports_at files a) i
    → a < length files
importer_inside files a i w = grind (arith, common_steps)

pub imports_is : (files : List FileDesc) (n : ℕ) (d : FileDesc) → n < length files
    → imports_at files n ≡ imports_of (get_or files n d)
imports_is files n d h = get_or-map imports_of files n d [] h

-- what a loop over files keeps
pub record Graphing (files : List FileDesc) (n : ℕ) (imports public : List (Vec ℕ Global)) (whole : Bool) : Type 0 where
  pub all_rows : Rows (Imports files) n (graph_of imports)
  pub public_rows : Rows (ImportsPublicly files) n (graph_of public)
  pub found : IsTrue whole → (a : ℕ) → a < n → HasMissing files (imports_at files a) → ⊥
  pub lacking : whole ≡ false → (a : ℕ) × HasMissing files (imports_at files a)

pub graphing_more : {files : List FileDesc} {n : ℕ} {imports public new_imports new_public : List (Vec ℕ Global)}
    {whole part now : Bool} {xs : List ImportDescriptor} (all some : List ℕ) → Graphing files n imports public whole
    → xs ≡ imports_at files n → graph_of new_imports ≡ graph_of imports ++ all ∷ []
    → graph_of new_public ≡ graph_of public ++ some ∷ []
    → ((whole ≡ true) × (now ≡ part)) ⊎ ((whole ≡ false) × (now ≡ whole))
    → ((b : ℕ) → Contains all b ↔ Targets files xs b) → ((b : ℕ) → Contains some b ↔ PublicTargets files xs b)
    → (IsTrue part → HasMissing files xs → ⊥) → (part ≡ false → HasMissing files xs)
    → Graphing files (n + 1) new_imports new_public now
graphing_more {files} {n} {whole = whole} {part = part} all some g e ei ep which are_all are_public found
    lacking = record {
      all_rows = rows_more _ _ _ _ _ ei (rw e at are_all) g.all_rows;
      public_rows = rows_more _ _ _ _ _ ep (rw e at are_public) g.public_rows;
      found = λ t a h m. (let both : IsTrue whole × IsTrue part = grind arith in elim (cases_lt a n) [
        | inl less ↦ g.found both.0 a less m
        | inr over ↦ (let at : a ≡ n = omega arith in found both.1 (rw (at, sym e) at m))
      ]);
      lacking = λ f. (elim which [
        | inl new ↦ (n, rw e at (lacking (sym new.1 ∙ f)))
        | inr old ↦ g.lacking old.0
      ]);
    }

pub rows_all : {P : ℕ → ℕ → Type 0} {n m : ℕ} {g : Graph} → Rows P n g → n ≡ m → ((a b : ℕ) → P a b → a < m) → (a b : ℕ)
    → Edge g a b ↔ P a b
rows_all r e inside a b = grind arith

pub prefix_more : {X : Type 0} (xs : List X) (n : ℕ) (x : X) → n < length xs → x ≡ get_or xs n x
    → take (n + 1) xs ≡ take n xs ++ x ∷ []
prefix_more xs n x h is = grind (arith, common_steps)

-- ---- one import

pub only_missing : (files : List FileDesc) (a : ℕ) (i : ImportDescriptor) → ((b : ℕ) → IsNamed files i.path b → ⊥)
    → (k : Kind) → IsWrong files a i k → k ≡ kind.ImportMissing
only_missing files a i none k wrong = grind arith

pub only_cyclic : (files : List FileDesc) (a : ℕ) (i : ImportDescriptor) (t : ℕ) → IsNamed files i.path t → (k : Kind)
    → IsWrong files a i k → k ≡ kind.ImportCycle
only_cyclic files a i t n k wrong = grind arith

pub no_fault : (files : List FileDesc) (a : ℕ) (i : ImportDescriptor) (t : ℕ) → NamesRise (map name_of files)
    → IsNamed files i.path t → (Reaches files t a → ⊥) → (k : Kind) → IsWrong files a i k → ⊥
no_fault files a i t order n out _ (missing none) = none t n
no_fault files a i t order n out _ (cyclic b m r) = out (rw (named_once files i.path order b t m n) at r)

-- ---- the imports of a file

module _ (files : List FileDesc) (a : ℕ) (xs : List ImportDescriptor) (i : ImportDescriptor) (first : Option Spot)
    (least : IsLeast (IsWrongIn files a xs) first) where
  wrong_more : (x : Spot) → IsWrongIn files a (xs ++ i ∷ []) x ↔ (IsWrongIn files a xs x ⊎ IsWrongAt files a i x)
  wrong_more x = some_both (λ j. j.place ≡ x.place) (λ j. IsWrong files a j x.kind) xs i

  pub first_skip : ((k : Kind) → IsWrong files a i k → ⊥) → IsLeast (IsWrongIn files a (xs ++ i ∷ [])) first
  first_skip none = least_same (IsWrongIn files a xs) (IsWrongIn files a (xs ++ i ∷ [])) first
      (λ x w. elim ((wrong_more x).0 w) [ inl old ↦ old | inr new ↦ absurd (none x.kind new.1) ])
      (λ x w. (wrong_more x).1 (inl w)) least

  pub first_more : (r : Option Spot) (k : Kind) → IsWrong files a i k × ((l : Kind) → IsWrong files a i l → l ≡ k)
      → IsLesser first (Some (spot i.place k)) r → IsLeast (IsWrongIn files a (xs ++ i ∷ [])) r
  first_more r k (wrong, only) lesser = least_or (IsWrongIn files a xs) (IsWrongAt files a i)
      (IsWrongIn files a (xs ++ i ∷ [])) first (Some (spot i.place k)) r (λ x. (wrong_more x).0)
      (λ x w. (wrong_more x).1 (inl w)) (λ x w. (wrong_more x).1 (inr w)) least (grind (arith, common_steps)) lesser

-- ---- all files

pub reaching_is : (files : List FileDesc) (g turned : Graph) (a : ℕ) → IsGraph files g
    → ((b c : ℕ) → Edge turned b c ↔ Edge g c b) → (b : ℕ) → Leads (Edge turned) b a ↔ Reaches files b a
reaching_is files g turned a is flipped b = (
  leads_turned (Edge turned) (Imports files) (λ x y edge. (is.edges y x).0 ((flipped x y).0 edge)) b a,
  leads_turned (Imports files) (Edge turned) (λ x y i. (flipped y x).1 ((is.edges x y).1 i)) a b,
)

-- what a loop over files keeps
pub record NoneBefore (files : List FileDesc) (n : ℕ) : Type 0 where
  pub none : (a : ℕ) (p : Place) (k : Kind) → a < n → IsBad files a p k → ⊥

pub none_more : {files : List FileDesc} {n : ℕ} {imports : List ImportDescriptor} {first : Option Spot}
    → imports ≡ imports_at files n → first ≡ None
    → IsLeast (IsWrongIn files n imports) first → NoneBefore files n → NoneBefore files (n + 1)
none_more {files} {n} e is f old = record {
  none = λ a p k h w. (elim (cases_lt a n) [
    | inl less ↦ old.none a p k less w
    | inr over ↦ (let at : a ≡ n = omega arith in none_of _ _ f is (spot p k) (rw (at, sym e) at w))
  ]);
}

pub first_bad_is : {files : List FileDesc} {n : ℕ} {imports : List ImportDescriptor} {first : Option Spot} {x : Spot}
    → imports ≡ imports_at files n → first ≡ Some x → IsLeast (IsWrongIn files n imports) first → NoneBefore files n
    → IsFirstBad files n x.place x.kind
first_bad_is {n = n} e is f old =
    let found = least_of _ _ _ f is in
    record {
      among = rw e at found.among;
      least = λ (b, y) w. elim (cases_lt b n) [
        | inl less ↦ absurd (old.none b y.place y.kind less w)
        | inr over ↦ elim (cases_eq b n) [
          | inl same ↦ inr (sym same, found.least y (rw (same, sym e) at w))
          | inr other ↦ inl (omega arith)
        ]
      ];
    }
