-- What a walk over fields keeps.
use Rattle.std.proofs.Common.{◌≡◌, ℕ, ◌+◌, ◌<◌, List, [], ◌∷◌, ◌++◌, length, drop, map, get_or, arith, refl, append_assoc, append-nil, ◌∙◌, sym}
use Rattle.std.proofs.lemmas.List.{drop_more}
use Rattle.std.proofs.Common.{zero, suc, Option, None, Some, MatchOption, IsUtf8, subst, inl, inr}
use Rattle.std.proofs.lemmas.Option.{none-some, same_Some}
use Rattle.wire_format.proofs.ReadingRows.{one_list}
use Rattle.wire_format.specs.Reading.{Value, number, bytes, IsRow}
use Rattle.proto_sets.specs.Elements.{element_in, scope_inside, text_of}
use Rattle.proto_sets.specs.Says.{AllSay, FieldSays, Inside, IsElement, Said, Say, said_by}
use Rattle.proto_sets.specs.SaysSteps.{HoldsNone, IsRead, IsReadable}
use Rattle.proto_sets.specs.declared.element.Element.{Element}

module _ (Says : ℕ × Value → List Said → Type 0) where
  -- some of the fields are left, and this is what those before them say
  pub record SoFar (fields rest : List (ℕ × Value)) (said : List Said) : Type 0 where
    pub ahead : (more : List Said) → AllSay Says rest more → AllSay Says fields (said ++ more)
    pub back : (all : List Said) → AllSay Says fields all → (more : List Said) × AllSay Says rest more

  pub so_far_none : (fields : List (ℕ × Value)) → SoFar fields fields []
  so_far_none fields = record { ahead = λ more h. h; back = λ all h. (all, h) }

  pub so_far_all : (fields : List (ℕ × Value)) (said : List Said) → SoFar fields [] said → AllSay Says fields said
  so_far_all fields said so = rw (← append-nil said) (so.ahead [] refl)

  one_more : (fields rest : List (ℕ × Value)) (field : ℕ × Value) (said first : List Said)
      → SoFar fields (field ∷ rest) said → Says field first → SoFar fields rest (said ++ first)
  one_more fields rest field said first so says = record {
    ahead = λ more h. rw append_assoc (so.ahead (first ++ more) (first, more, says, h, refl));
    back = λ all h. (let w = so.back all h in (w.1.1, w.1.3));
  }

  pub so_far_more : {X : Type 0} (view : X → ℕ × Value) (fields : List (ℕ × Value)) (xs : List X) (i : ℕ) (d : X)
      (said first : List Said) → i < length xs → SoFar fields (map view (drop i xs)) said
      → Says (view (get_or xs i d)) first → SoFar fields (map view (drop (i + 1) xs)) (said ++ first)
  so_far_more view fields xs i d said first below so says =
      one_more fields (map view (drop (i + 1) xs)) (view (get_or xs i d)) said first
      (rw (drop_more xs i d below) at so) says

  pub so_far_here : {X : Type 0} (view : X → ℕ × Value) (fields : List (ℕ × Value)) (xs : List X) (i : ℕ) (d : X)
      (said all : List Said) → i < length xs → SoFar fields (map view (drop i xs)) said → AllSay Says fields all
      → (first : List Said) × Says (view (get_or xs i d)) first
  so_far_here view fields xs i d said all below so h =
      let w = (rw (drop_more xs i d below) at so).back all h in (w.1.0, w.1.2)

-- ---- what a field says, and the element that was read in it

-- an element that can't be read makes its field unreadable
pub unreadable : (holder : Option Element) (n : ℕ) (contents : List ℕ) (element : Element)
    → element_in holder n ≡ Some element
    → ((fields : List (ℕ × Value)) → IsRow contents fields → IsUtf8 (text_of 1 fields) → ⊥)
    → IsReadable holder (n, bytes contents) → ⊥
unreadable holder n contents element is bad (inl none) = none-some element (sym none ∙ is)
unreadable holder n contents element is bad (inr (other, fields, read)) =
    bad fields (rw read.held.1 read.row) read.utf8

module _ (Inside : Option Element → List ℕ → List (ℕ × Value) → List Said → Type 0) (holder : Option Element)
    (scope : List ℕ) where
  said_in : (held : Option Element) (n : ℕ) (text : List ℕ) (said : List Said) → held ≡ element_in holder n
      → MatchOption held (said ≡ []) (λ element. IsElement Inside element scope text said)
      → IsReadable holder (n, bytes text)
  said_in None n text said is says = inl (sym is)
  said_in (Some element) n text said is says = inr (
    element,
    says.fields,
    record {
      text = text;
      held = (sym is, refl);
      row = says.row;
      utf8 = says.utf8;
    },
  )

  -- what says something can be read
  pub says_readable : (field : ℕ × Value) (said : List Said) → FieldSays Inside holder scope field said
      → IsReadable holder field
  says_readable (n, number value) said says = inl tt
  says_readable (n, bytes text) said says = said_in (element_in holder n) n text said refl says

  -- a field that holds no element says nothing
  pub none_says : (field : ℕ × Value) → HoldsNone holder field → FieldSays Inside holder scope field []
  none_says (n, number value) none = refl
  none_says (n, bytes text) none = rw none refl

  -- a field says the element that was read in it, and what stands in this
  pub read_says : (field : ℕ × Value) (element : Element) (fields : List (ℕ × Value)) (inner : List Said)
      → IsRead holder field element fields
      → Inside (Some element) (scope_inside element scope (text_of 1 fields)) fields inner
      → FieldSays Inside holder scope field (said_by element scope fields ∷ inner)
  read_says (n, number value) element fields inner read inside = absurd read.held
  read_says (n, bytes contents) element fields inner read inside = rw read.held.0 (record {
    fields = fields;
    row = rw read.held.1 read.row;
    utf8 = read.utf8;
    inner = inner;
    inside = inside;
    all = refl;
  })

  element_says : (held : Option Element) (element : Element) (text : List ℕ) (fields : List (ℕ × Value))
      (said : List Said) → held ≡ Some element → IsRow text fields
      → MatchOption held (said ≡ []) (λ element. IsElement Inside element scope text said)
      → (inner : List Said) × Inside (Some element) (scope_inside element scope (text_of 1 fields)) fields inner
  element_says None element text fields said is row says = absurd (none-some element is)
  element_says (Some other) element text fields said is row says =
      let same = one_list text says.fields fields says.row row in
      let it = same_Some other element is in (
        says.inner,
        subst (λ (e : Element). Inside (Some e) (scope_inside e scope (text_of 1 fields)) fields says.inner) it
            (subst (λ (fs : List (ℕ × Value)). Inside (Some other) (scope_inside other scope (text_of 1 fs)) fs says.inner) same
            says.inside),
      )

  -- and what stands in the element that was read says something
  pub says_inside : (field : ℕ × Value) (element : Element) (fields : List (ℕ × Value)) (said : List Said)
      → IsRead holder field element fields → FieldSays Inside holder scope field said
      → (inner : List Said) × Inside (Some element) (scope_inside element scope (text_of 1 fields)) fields inner
  says_inside (n, number value) element fields said read says = absurd read.held
  says_inside (n, bytes contents) element fields said read says =
      element_says (element_in holder n) element contents fields said read.held.0 (rw read.held.1 read.row) says

-- ---- one level deeper

pub inside_say : (depth k : ℕ) (holder : Option Element) (scope : List ℕ) (fields : List (ℕ × Value)) (said : List Said)
    → depth ≡ k + 1 → Inside depth holder scope fields said → Say k holder scope fields said
inside_say zero k holder scope fields said is inside = absurd inside
inside_say (suc j) k holder scope fields said is inside =
    let same : j ≡ k = omega (arith, is) in
    subst (λ (n : ℕ). AllSay (FieldSays (Inside n) holder scope) fields said) same inside

pub say_inside : (depth k : ℕ) (holder : Option Element) (scope : List ℕ) (fields : List (ℕ × Value)) (said : List Said)
    → depth ≡ k + 1 → Say k holder scope fields said → Inside depth holder scope fields said
say_inside zero k holder scope fields said is say = absurd (omega (arith, is))
say_inside (suc j) k holder scope fields said is say =
    let same : k ≡ j = omega (arith, is) in
    subst (λ (n : ℕ). AllSay (FieldSays (Inside n) holder scope) fields said) same say

-- ---- a walk at one of the fields

module _ (Inside : Option Element → List ℕ → List (ℕ × Value) → List Said → Type 0) (holder : Option Element)
    (scope : List ℕ) {X : Type 0} (view : X → ℕ × Value) (fields : List (ℕ × Value)) (xs : List X) (i : ℕ) (d : X)
    (said : List Said) (below : i < length xs)
    (so : SoFar (FieldSays Inside holder scope) fields (map view (drop i xs)) said) where
  pub readable_here : (all : List Said) → AllSay (FieldSays Inside holder scope) fields all
      → IsReadable holder (view (get_or xs i d))
  readable_here all says =
      let (first, here) = so_far_here (FieldSays Inside holder scope) view fields xs i d said all below so says in
      says_readable Inside holder scope (view (get_or xs i d)) first here

  pub inside_here : (all : List Said) → AllSay (FieldSays Inside holder scope) fields all → (element : Element)
      (inner : List (ℕ × Value)) → IsRead holder (view (get_or xs i d)) element inner
      → (more : List Said) × Inside (Some element) (scope_inside element scope (text_of 1 inner)) inner more
  inside_here all says element inner read =
      let (first, here) = so_far_here (FieldSays Inside holder scope) view fields xs i d said all below so says in
      says_inside Inside holder scope (view (get_or xs i d)) element inner first read here

  pub none_here : HoldsNone holder (view (get_or xs i d))
      → SoFar (FieldSays Inside holder scope) fields (map view (drop (i + 1) xs)) said
  none_here none = rw append-nil at (so_far_more (FieldSays Inside holder scope) view fields xs i d said [] below so
      (none_says Inside holder scope (view (get_or xs i d)) none))

  pub element_here : (element : Element) (inner : List (ℕ × Value)) (more : List Said)
      → IsRead holder (view (get_or xs i d)) element inner
      → Inside (Some element) (scope_inside element scope (text_of 1 inner)) inner more
      → SoFar (FieldSays Inside holder scope) fields (map view (drop (i + 1) xs))
      (said ++ said_by element scope inner ∷ more)
  element_here element inner more read inside =
      so_far_more (FieldSays Inside holder scope) view fields xs i d said (said_by element scope inner ∷ more) below so
      (read_says Inside holder scope (view (get_or xs i d)) element inner more read inside)
