-- Names that are asked for, one after the other; rounds of a search, and its end.
use Rattle.source_search.proofs.Common.{subst, ℕ, All, List, ◌++◌, take, drop, take-append-drop, arith, ◌≡◌, ◌∙◌, sym, ap, refl, [], ◌∷◌, map, Bool, true, false, ◌⊎◌, inl, inr, Option, Some, None, Vec, Global, String, string_bytes, if◌then◌else◌, Contains, option_map, append-nil, append_assoc, length, ◌↔◌, IfSome, flat_map, take_all, All-append, All-contains, Contains-append_left, Contains-append_right, All-map, All-push, All-weaker, Contains-push, All-cons, All-drop, All-head, All-nil, All-tail, all_of, of_map, in_map, BTreeSet, contains_text, nat_list_eq_equiv, map-append, drop-map, length-map, take-append-le, Limits, AsksFor, IsSearched, IsWorth, found_under, is_asked, sources_of, IsClosed, IsSearch, SourceImports, texts_in, IsWanted, NamedBytes, is_imported, name_in, AreWanted, is_given, named_bytes, Contains-permutation, IsPermutation-map, IsPermutation-sym, name_of, NamedText}
use Rattle.std.specs.BTreeSet as sorted
use Rattle.std.specs.List.{IsDistinct, AllZip}
use Rattle.std.specs.Str.{bytes_eq}
use Rattle.std.specs.String.{string_cmp}
use Rattle.std.proofs.lemmas.Bool.{cases_Bool, false_from_ne_true}
use Rattle.std.proofs.lemmas.Map.Keys.{IsDistinct-push}
use Rattle.std.proofs.lemmas.Map.Text.{btree_set_updates_text}
use Rattle.std.proofs.lemmas.Option.{none-some, same_Some}
use Rattle.source_search.specs.Shelves.{IsFoundOn, Known, Lookup, bytes_in}
use Rattle.source_search.specs.declared.search.Search.{Search}
use Rattle.source_search.proofs.Naming.{bytes_same, same_bytes}
use Rattle.std.proofs.lemmas.List.Folds.{list_any_none}
use Rattle.std.specs.List.Sorted.{IsPermutation}
use Rattle.source_search.specs.Imports.{Imports, IsBelow}

pub all_left : {X : Type 0} (P : X → Type 0) (xs ys : List X) → All P (xs ++ ys) → All P xs
all_left P xs ys all = all_of P xs (λ x there. All-contains P (xs ++ ys) x all (Contains-append_left xs ys x there))

pub all_right : {X : Type 0} (P : X → Type 0) (xs ys : List X) → All P (xs ++ ys) → All P ys
all_right P xs ys all = all_of P ys (λ x there. All-contains P (xs ++ ys) x all (Contains-append_right xs ys x there))

-- one more name in the set
pub put_name : (name : List ℕ) (key : String Global) (old new : BTreeSet (String Global)) → string_bytes key ≡ name
    → sorted.Updates string_cmp old new key true → (other : List ℕ)
    → contains_text new other ≡ (if bytes_eq name other then true else contains_text old other)
put_name name key old new same updates = grind (arith, btree_set_updates_text)

found_at : (known : Known) (lookup : Lookup) (name : List ℕ) (found : Option (Vec ℕ Global)) → known ≡ Some lookup
    → IsFoundOn known name found
    → option_map bytes_in found ≡ lookup name
found_at known lookup name found is on = grind arith

-- a name that is asked for besides those before
module _ (name : List ℕ) (asked later : List ℕ → Bool)
    (is : (other : List ℕ) → later other ≡ (if bytes_eq name other then true else asked other)) where
  pub still_asked : (other : List ℕ) → asked other ≡ true → later other ≡ true
  still_asked other h = grind (arith, is other)

  pub now_asked : later name ≡ true
  now_asked = grind (arith, is name, bytes_same name name refl)

  asked_cases : (other : List ℕ) → later other ≡ true → (name ≡ other) ⊎ (asked other ≡ true)
  asked_cases other h = grind (arith, cases_Bool, same_bytes)

  -- what was found under the name, if anything, joins the sources
  pub found_more : (limits : Limits) (known : Known) (given sources : List NamedBytes) (found : Option (Vec ℕ Global))
      → asked name ≡ false → IsFoundOn known name found
      → IsWorth limits known given name → IsSearched limits known given sources asked
      → IsSearched limits known given (sources ++ found_under name found) later
  found_more limits known given sources None new on worth s =
      subst (λ some. IsSearched limits known given some later) (sym (append-nil sources)) (record {
        given_in = s.given_in;
        asked_for = All-weaker _ _ (λ source. still_asked source.0) sources s.asked_for;
        once = s.once;
        wanted = s.wanted;
        found = λ lookup at other text h free has. elim (asked_cases other h) [
          | inl same ↦ absurd (none-some text (found_at known lookup name None at on ∙ ap lookup same ∙ has))
          | inr before ↦ s.found lookup at other text before free has
        ];
      })
  found_more limits known given sources (Some text) new on worth s = record {
    given_in = All-weaker _ _ (Contains-append_left sources (one ∷ [])) given s.given_in;
    asked_for = All-push (λ (source : NamedBytes). later source.0 ≡ true) sources one
        (All-weaker _ _ (λ source. still_asked source.0) sources s.asked_for) now_asked;
    once = subst (IsDistinct bytes_eq) (sym (map-append name_in sources (one ∷ [])))
        (IsDistinct-push nat_list_eq_equiv (map name_in sources) name s.once
        (list_any_none (bytes_eq name) (map name_in sources) (All-map (λ n. bytes_eq name n ≡ false) name_in sources
        (All-weaker (λ (source : NamedBytes). asked source.0 ≡ true) (λ source. bytes_eq name source.0 ≡ false)
        (λ source h. false_from_ne_true _ (λ same. let e = same_bytes name source.0 same in cc))
        sources s.asked_for))));
    wanted = λ lookup at. All-push (λ (source : NamedBytes). IsWanted limits lookup given source.0 source.1) sources one
        (s.wanted lookup at)
        (let w = worth lookup at in is_imported w.0 w.1 name text.items w.2 w.3 w.4 not_given
        (sym (found_at known lookup name (Some text) at on)));
    found = λ lookup at other bytes h free has. elim (asked_cases other h) [
      | inl same ↦
          let held : text.items ≡ bytes = same_Some text.items bytes
          (found_at known lookup name (Some text) at on ∙ ap lookup same ∙ has) in
          subst (Contains (sources ++ one ∷ [])) (λ i. (same i, held i)) (Contains-push sources one)
      | inr before ↦
          Contains-append_left sources (one ∷ []) (other, bytes) (s.found lookup at other bytes before free has)
    ];
  }
    where
      one : NamedBytes
      one = (name, text.items)

      -- no given source has a name that was not asked for
      not_given : Contains (map name_in given) name → ⊥
      not_given there =
          let (source, at, same) = of_map name_in given name there in
          let h = All-contains (λ (source : NamedBytes). asked source.0 ≡ true) sources source s.asked_for
          (All-contains (Contains sources) given source s.given_in at) in
          cc

-- some names and then others
pub asks_more : (limits : Limits) (known : Known) {names : List (List ℕ)} (front back : List (List ℕ))
    (old mid new : Search) → names ≡ front ++ back → AsksFor limits known front old mid
    → AsksFor limits known back mid new → AsksFor limits known names old new
asks_more limits known front back old mid new is first second =
    subst (λ some. AsksFor limits known some old new) (sym is) (record {
      more = first.more ++ second.more;
      grown = second.grown ∙ ap (λ some. some ++ second.more) first.grown
          ∙ append_assoc (sources_of old) first.more second.more;
      still = λ other h. second.still other (first.still other h);
      asked = All-append (λ n. is_asked new n ≡ true) front back
          (All-weaker _ _ second.still front first.asked) second.asked;
      searched = λ given worth s. second.searched given (all_right (IsWorth limits known given) front back worth)
          (first.searched given (all_left (IsWorth limits known given) front back worth) s);
    })

abbrev pub Lists : Type 0
Lists = List (Vec (String Global) Global)

-- this holds of each name below a folder that a source imports
abbrev Holds : Limits → (List ℕ → Type 0) → NamedText → Type 0
Holds limits P source = (name : List ℕ) → Imports limits source.text.items name → IsBelow name → P name

-- each of these holds of the sources together where it holds of what they import
imports_each : (limits : Limits) (P : List ℕ → Type 0) (sources : List NamedText) (lists : Lists)
    → AllZip (SourceImports limits) sources lists
    → All (Holds limits P) sources ↔ All P (flat_map texts_in lists)
imports_each limits P [] [] zip = (λ each. All-nil P, λ all. All-nil (Holds limits P))
imports_each limits P [] (l ∷ lists) zip = absurd zip
imports_each limits P (s ∷ sources) [] zip = absurd zip
imports_each limits P (s ∷ sources) (l ∷ lists) zip =
    let rest = imports_each limits P sources lists zip.1 in (
      λ each. All-append P (texts_in l) (flat_map texts_in lists)
          (all_of P (texts_in l) (λ name there. let both = (zip.0 name).0 there in
          All-head (Holds limits P) s sources each name both.0 both.1))
          (rest.0 (All-tail (Holds limits P) s sources each)),
      λ all. All-cons (Holds limits P) s sources
          (λ name imports below. All-contains P (texts_in l) name (all_left P (texts_in l) _ all)
          ((zip.0 name).1 (imports, below)))
          (rest.1 (all_right P (texts_in l) _ all)),
    )

-- a round: what the sources behind the first ones import was asked for
module _ (limits : Limits) (known : Known) (old new : Search) (sources : List NamedText) (lists : Lists) (done : ℕ)
    (some : sources ≡ drop done old.sources.items) (zip : AllZip (SourceImports limits) sources lists)
    (asks : AsksFor limits known (flat_map texts_in lists) old new) where
  pub round_searched : (given : List NamedBytes) → IsSearch limits known given old → IsSearch limits known given new
  round_searched given s =
      let worth = Holds limits (IsWorth limits known given) in
      let all = all_of worth old.sources.items (λ source there name imports below lookup at.
      let wanted = All-contains (λ (one : NamedBytes). IsWanted limits lookup given one.0 one.1) (sources_of old)
      (named_bytes source) (s.wanted lookup at) (in_map named_bytes old.sources.items source there) in
      (name_of source, source.text.items, wanted, imports, below)) in
      asks.searched given ((imports_each limits (IsWorth limits known given) sources lists zip).0
      (subst (All worth) (sym some) (All-drop worth done old.sources.items all))) s

  pub round_closed : (count : ℕ) → count ≡ length old.sources.items
      → All (IsClosed limits (is_asked old)) (take done (sources_of old))
      → All (IsClosed limits (is_asked new)) (take count (sources_of new))
  round_closed count all front =
      let len : count ≡ length (sources_of old) = all ∙ sym (length-map old.sources.items named_bytes) in
      let cut : take count (sources_of new) ≡ sources_of old =
      ap (take count) asks.grown ∙ take-append-le count (sources_of old) asks.more (omega (arith, len))
      ∙ take_all count (sources_of old) (omega (arith, len)) in
      let closed = IsClosed limits (is_asked new) in
      let behind : All closed (map named_bytes sources) = All-map closed named_bytes sources
      ((imports_each limits (λ name. is_asked new name ≡ true) sources lists zip).1 asks.asked) in
      subst (All closed) (sym cut)
      (subst (All closed) (take-append-drop done (sources_of old)) (All-append closed _ _
      (All-weaker (IsClosed limits (is_asked old)) closed
      (λ source closed name imports below. asks.still name (closed name imports below)) _ front)
      (subst (All closed) (ap (map named_bytes) some ∙ sym (drop-map named_bytes done old.sources.items)) behind)))

-- ---- the end

wanted_held : (limits : Limits) (known : Known) (lookup : Lookup) → known ≡ Some lookup
    → (given sources : List NamedBytes) (asked : List ℕ → Bool)
    → IsSearched limits known given sources asked → All (IsClosed limits asked) sources → (name text : List ℕ)
    → IsWanted limits lookup given name text
    → Contains sources (name, text)
wanted_held limits known lookup at given sources asked s closed _ _ (is_given name text there) =
    All-contains (Contains sources) given (name, text) s.given_in there
wanted_held limits known lookup at given sources asked s closed _ _
    (is_imported importer its_text name text wanted imports below free has) =
    let origin = wanted_held limits known lookup at given sources asked s closed importer its_text wanted in
    s.found lookup at name text (All-contains (IsClosed limits asked) sources
    (importer, its_text) closed origin name imports below) free has

module _ (limits : Limits) (known : Known) (given : List NamedBytes) (search : Search)
    (s : IsSearch limits known given search) (sources : List NamedText)
    (moved : IsPermutation search.sources.items sources) where
  same : IsPermutation (sources_of search) (map named_bytes sources)
  same = IsPermutation-map named_bytes search.sources.items sources moved

  pub all_wanted : (lookup : Lookup) → known ≡ Some lookup
      → All (IsClosed limits (is_asked search)) (sources_of search)
      → AreWanted limits lookup given (map named_bytes sources)
  all_wanted lookup at closed name text = (
    λ there. All-contains (λ (source : NamedBytes). IsWanted limits lookup given source.0 source.1) (sources_of search)
        (name, text) (s.wanted lookup at)
        (Contains-permutation _ _ (name, text) (IsPermutation-sym _ _ same) there),
    λ wanted. Contains-permutation _ _ (name, text) same
        (wanted_held limits known lookup at given (sources_of search) (is_asked search) s closed name text wanted),
  )

  pub given_held : All (Contains (map named_bytes sources)) given
  given_held = All-weaker (Contains (sources_of search)) (Contains (map named_bytes sources))
      (λ source. Contains-permutation _ _ source same) given s.given_in

-- where the shelf is known
pub if_known : (known : Known) (P : Lookup → Type 0) → ((lookup : Lookup) → known ≡ Some lookup → P lookup)
    → IfSome known P
if_known None P each = tt
if_known (Some lookup) P each = each lookup refl
