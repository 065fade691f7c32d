-- What a spelled name means, in the scopes around it: one thing, and the same among the same occurrences that are seen.
use Rattle.proto_names.proofs.Common.{◌≡◌, ◌≢◌, ◌∙◌, sym, ℕ, suc, ◌+◌, ◌-◌, ◌<◌, ◌≤◌, List, [], ◌∷◌, ◌++◌, length, take, drop, get_or, ap, refl, arith, inl, inr, ◌⊎◌, add-one, append_assoc, ◌↔◌, Bool, false, true≢false, Option, None, Some, MatchOption, IsTrue, Contains, common_steps, cases_order, get_or_at, get_or-drop, get_or_default, split_at, take-append_seam, take-append-add, take-length, IsCandidate, prefixes, scoped, Occurrence, is_type, is_scope, is_message, Visible, Decides, IsAbsolute, IsInnermost, Means, IsType, Resolves, ResolvesNowhere, message, enumeration, Contains-get_or, at, blank, HasNoType, HasOneIn, IsNoType, IsTypeAmong, fits}
use Rattle.std.proofs.lemmas.List.{length-drop}
use Rattle.proto_desc.specs.declared.name_kind.NameKind.{NameKind}
use Rattle.proto_names.specs.SeenAlike.{AreSeenAlike}
use Rattle.proto_names.specs.Steps.{before}
use Rattle.std.specs.Prelude.{is_some}
use Rattle.proto_names.specs.declared.visible.Role.{Role}
use Rattle.proto_names.specs.declared.visible.Role.TheVariants as role

-- ---- first parts

type_scope : (kind : Option NameKind) → IsTrue (is_type kind) → IsTrue (is_scope kind)
type_scope kind is = grind (arith, common_steps)

-- where a scope decides what a spelled name means, the first part of the name is a scope there
pub first_visible : (os : List Occurrence) (Seen : ℕ → Type 0) (c spelled : List ℕ) (dot : Option ℕ)
    → MatchOption dot (Visible os Seen is_type (scoped c spelled))
    (λ k. Visible os Seen is_scope (scoped c (take k spelled)))
    → (o : Occurrence) × Contains os o × (o.name ≡ scoped c (before dot spelled)) × IsTrue (is_scope o.kind)
first_visible os Seen c spelled None (o, within, name, kind, seen) = (o, within, name, type_scope o.kind kind)
first_visible os Seen c spelled (Some k) (o, within, name, kind, seen) = (o, within, name, kind)

message_type : (kind : Option NameKind) → IsTrue (is_message kind) → IsTrue (is_type kind)
message_type kind is = grind (arith, common_steps)

-- where no dot is spelled, a scope decides by a type
pub simple_decides : (os : List Occurrence) (Seen : ℕ → Type 0) (c spelled : List ℕ) (dot : Option ℕ) (what : NameKind)
    → is_some dot ≡ false → IsType os Seen (scoped c (before dot spelled)) what
    → MatchOption dot (Visible os Seen is_type (scoped c spelled))
    (λ k. Visible os Seen is_scope (scoped c (take k spelled)))
    × IsType os Seen (scoped c spelled) what
simple_decides os Seen c spelled (Some k) what simple type = absurd (true≢false simple)
simple_decides os Seen c spelled None what simple (message (o, within, name, kind, seen)) =
    ((o, within, name, message_type o.kind kind, seen), message (o, within, name, kind, seen))
simple_decides os Seen c spelled None what simple (enumeration is none) = (is, enumeration is none)

-- ---- scopes

abbrev NoDot : List ℕ → Type 0
NoDot s = (i : ℕ) → i < length s → get_or s i 0 ≢ 46

-- no dot stands after this place
abbrev NoDotAfter : ℕ → List ℕ → Type 0
NoDotAfter k s = (i : ℕ) → k < i → i < length s → get_or s i 0 ≢ 46

-- a dot stands behind the first part
dot_at : (d rest s : List ℕ) → s ≡ d ++ 46 ∷ rest → (length d < length s) × (get_or s (length d) 0 ≡ 46)
dot_at d rest s e = rw e (grind (arith, common_steps), get_or_at d 46 rest 0 (length d) refl)

no_room : (a rest : List ℕ) → a ++ 46 ∷ rest ≡ [] → ⊥
no_room [] rest h = cc
no_room (x ∷ a) rest h = cc

prefix_of : (d s : List ℕ) → IsCandidate d s → d ≡ take (length d) s
prefix_of d s h = grind (arith, common_steps, take-append_seam, take-length)

pub candidates_at_dot : (s d : List ℕ) (k : ℕ) → k < length s → NoDotAfter k s → IsCandidate d s
    → (d ≡ s) ⊎ IsCandidate d (take k s)
candidates_at_dot s d k below none (inl e) = inr (inl e)
candidates_at_dot s d k below none (inr (inl e)) = inl e
candidates_at_dot s d k below none (inr (inr (rest, e))) =
    let (shorter, dot) = dot_at d rest s e in
    let part = take-append-add d (46 ∷ rest) (suc (k - length d - 1)) in
    grind (arith, cases_order (length d) k, take-append_seam d (46 ∷ rest), part, none (length d), shorter, dot)

pub candidate_before_dot : (s : List ℕ) (k : ℕ) → k < length s → get_or s k 0 ≡ 46 → IsCandidate (take k s) s
candidate_before_dot s k below dot = inr (inr (drop (k + 1) s, rw add-one (rw dot at (split_at s k 0 below))))

pub candidates_no_dot : (s d : List ℕ) → NoDot s → IsCandidate d s
    → (d ≡ s) ⊎ IsCandidate d []
candidates_no_dot s d none h = grind (arith, dot_at d, none (length d))

-- candidates of a candidate
pub candidate_trans : (a b s : List ℕ) → IsCandidate a b → IsCandidate b s → IsCandidate a s
candidate_trans a b s (inr (inr (rest, e))) (inr (inr (more, f))) = grind (arith, common_steps, append_assoc)
candidate_trans a b s h k = grind (arith, common_steps, no_room)

pub candidate_length : (c s : List ℕ) → IsCandidate c s → length c ≤ length s
candidate_length c s h = grind (arith, common_steps)

-- candidates of one length are one
pub candidates_same : (a b s : List ℕ) → IsCandidate a s → IsCandidate b s → length a ≡ length b → a ≡ b
candidates_same a b s h k e = prefix_of a s h ∙ ap (λ n. take n s) e ∙ sym (prefix_of b s k)

-- ---- prefixes

pub prefixes_plain : (s : List ℕ) → NoDot s → prefixes s ≡ s ∷ []
prefixes_plain [] none = refl
prefixes_plain (b ∷ s) none =
    grind (arith, common_steps, none 0, prefixes_plain s (λ i within. none (suc i) (omega arith)))

-- the prefixes of a text that ends with a dot and a part
prefixes_dotted : (a t : List ℕ) → NoDot t → prefixes (a ++ 46 ∷ t) ≡ (a ++ 46 ∷ t) ∷ prefixes a
prefixes_dotted [] t none = rw (prefixes_plain t none) refl
prefixes_dotted (b ∷ a) t none = rw (prefixes_dotted a t none) refl

-- the prefixes of a text that has its last dot at k
pub prefixes_at_dot : (s : List ℕ) (k : ℕ) → k < length s → get_or s k 0 ≡ 46 → NoDotAfter k s
    → prefixes s ≡ s ∷ prefixes (take k s)
prefixes_at_dot s k within dot none =
    let whole : s ≡ take k s ++ 46 ∷ drop (suc k) s = rw dot at (split_at s k 0 within) in
    cc (prefixes_dotted (take k s) (drop (suc k) s)
    (λ i below. grind (arith, get_or-drop (suc k) s i 0, none (suc k + i), length-drop (suc k) s)))

-- ---- of the same occurrences

module _ (os : List Occurrence) (Seen : ℕ → Type 0) (scope spelled : List ℕ) where
  -- the innermost scope is one
  innermost_same : (a b : List ℕ) → IsInnermost os Seen scope spelled a → IsInnermost os Seen scope spelled b → a ≡ b
  innermost_same a b h k =
      let one = h.longest b k.candidate k.decides in
      let other = k.longest a h.candidate h.decides in
      candidates_same a b scope h.candidate k.candidate (omega arith)

  module _ (relative : (rest : List ℕ) → IsAbsolute spelled rest → ⊥) where
    -- a name means what it is in the innermost scope, and nothing else
    pub only_innermost : (c full : List ℕ) → IsInnermost os Seen scope spelled c → Means os Seen scope spelled full
        → full ≡ scoped c spelled
    only_innermost c full inner (inl e) = absurd (relative full e)
    only_innermost c full inner (inr (_, d, is, same)) = same ∙ ap (λ x. scoped x spelled) (innermost_same d c is inner)

    pub means_nothing : ((c : List ℕ) → IsCandidate c scope → Decides os Seen c spelled → ⊥) → (full : List ℕ)
        → Means os Seen scope spelled full → ⊥
    means_nothing none full (inl e) = relative full e
    means_nothing none full (inr (_, c, is, same)) = none c is.candidate is.decides

  -- a spelled name means one full name
  pub means_one : (a b : List ℕ) → Means os Seen scope spelled a → Means os Seen scope spelled b → a ≡ b
  means_one a b (inl e) (inl f) = cc
  means_one a b (inl e) (inr w) = absurd (w.0 a e)
  means_one a b (inr v) w = v.3 ∙ sym (only_innermost v.0 v.1 b v.2 w)

  -- a type is of one kind
  type_one : (full : List ℕ) (k l : NameKind) → IsType os Seen full k → IsType os Seen full l → k ≡ l
  type_one full k l one other = grind arith

  pub resolves_one : (full other : List ℕ) (what kind : NameKind) → Resolves os Seen scope spelled full what
      → Resolves os Seen scope spelled other kind → (full ≡ other) × (what ≡ kind)
  resolves_one full other what kind r s = let same = means_one full other r.means s.means in
      (same, type_one other what kind (rw same at r.type) s.type)

-- ---- of occurrences that are the same as far as they are seen

module _ (os ps : List Occurrence) (Seen Sees : ℕ → Type 0) (alike : AreSeenAlike os Seen ps Sees) where
  pub alike_back : AreSeenAlike ps Sees os Seen
  alike_back o = ((alike o).1, (alike o).0)

  visible_alike : (accepts : Option NameKind → Bool) (name : List ℕ)
      → Visible os Seen accepts name ↔ Visible ps Sees accepts name
  visible_alike accepts name = grind (arith, common_steps)

  decides_alike : (c spelled : List ℕ) → Decides os Seen c spelled ↔ Decides ps Sees c spelled
  decides_alike c spelled = grind (arith, visible_alike)

  inner_alike : (scope spelled c : List ℕ) → IsInnermost os Seen scope spelled c → IsInnermost ps Sees scope spelled c
  inner_alike scope spelled c inner = grind (arith, decides_alike)

  means_alike : (scope spelled full : List ℕ) → Means os Seen scope spelled full → Means ps Sees scope spelled full
  means_alike scope spelled full (inl e) = inl e
  means_alike scope spelled full (inr (relative, c, inner, is)) =
      inr (relative, c, inner_alike scope spelled c inner, is)

  type_alike : (full : List ℕ) (k : NameKind) → IsType os Seen full k → IsType ps Sees full k
  type_alike full k (message seen) = message ((visible_alike is_message full).0 seen)
  type_alike full k (enumeration seen none) =
      enumeration ((visible_alike is_type full).0 seen) (λ v. none ((visible_alike is_message full).1 v))

  pub resolves_alike : (scope spelled full : List ℕ) (what : NameKind)
      → Resolves os Seen scope spelled full what → Resolves ps Sees scope spelled full what
  resolves_alike scope spelled full what r =
      record { means = means_alike scope spelled full r.means; type = type_alike full what r.type }

  -- a spelled name resolves to one full name of one kind
  pub resolves_same : (scope spelled full other : List ℕ) (what kind : NameKind)
      → Resolves os Seen scope spelled full what → Resolves ps Sees scope spelled other kind
      → (full ≡ other) × (what ≡ kind)
  resolves_same scope spelled full other what kind r s = resolves_one ps Sees scope spelled full other what kind
      (resolves_alike scope spelled full what r) s

pub nowhere_alike : (os ps : List Occurrence) (Seen Sees : ℕ → Type 0) → AreSeenAlike os Seen ps Sees
    → (scope spelled : List ℕ) → ResolvesNowhere os Seen scope spelled → ResolvesNowhere ps Sees scope spelled
nowhere_alike os ps Seen Sees alike scope spelled none full what r =
    none full what (resolves_alike ps os Sees Seen (alike_back os ps Seen Sees alike) scope spelled full what r)

-- ---- looking through what occurs by a name

-- these are of a name
abbrev pub AreOf : List Occurrence → List ℕ → List Occurrence → Type 0
AreOf os name named = (o : Occurrence) → Contains named o → Contains os o × (o.name ≡ name)

-- these are all of a name
abbrev pub HaveAllOf : List Occurrence → List ℕ → List Occurrence → Type 0
HaveAllOf os name named = (o : Occurrence) → Contains os o → o.name ≡ name → Contains named o

module _ (os : List Occurrence) (Seen : ℕ → Type 0) where
  -- one of those of a name is visible
  pub among_visible : (accepts : Option NameKind → Bool) (name : List ℕ) (named : List Occurrence)
      → AreOf os name named → HasOneIn named accepts Seen → Visible os Seen accepts name
  among_visible accepts name named found (k, below, fitting, seen) =
      let here = found (at named k) (Contains-get_or named k blank below) in (at named k, here.0, here.1, fitting, seen)

  -- and what is visible is one of them
  pub visible_among : (r : Role) (name : List ℕ) (named : List Occurrence)
      → HaveAllOf os name named → Visible os Seen (fits r) name → HasOneIn named (fits r) Seen
  visible_among r name named all (o, there, same, fitting, seen) =
      grind (arith, all o there same, get_or_default named)

  -- so the type among those of a name is that of the name
  pub type_visible : (name : List ℕ) (named : List Occurrence) → AreOf os name named → HaveAllOf os name named
      → (found : Option NameKind) → MatchOption found (HasNoType named Seen) (IsTypeAmong named Seen)
      → MatchOption found (IsNoType os Seen name) (IsType os Seen name)
  type_visible name named of all None none =
      let fits = λ (r : Role). visible_among r name named all in grind (arith, fits role.Message, fits role.Type)
  type_visible name named of all (Some what) (inl (one, is)) =
      rw is (message (among_visible is_message name named of one))
  type_visible name named of all (Some what) (inr (none, one, is)) = rw is (enumeration
      (among_visible is_type name named of one) (λ v. none (visible_among role.Message name named all v)))

pub no_type : (os : List Occurrence) (Seen : ℕ → Type 0) (name : List ℕ) → IsNoType os Seen name → (what : NameKind)
    → IsType os Seen name what → ⊥
no_type os Seen name none what is = grind arith

-- behind a leading dot stands a full name
pub absolute_nowhere : (os : List Occurrence) (Seen : ℕ → Type 0) (scope spelled rest : List ℕ) → spelled ≡ 46 ∷ rest
    → IsNoType os Seen rest → ResolvesNowhere os Seen scope spelled
absolute_nowhere os Seen scope spelled rest is none full what r = elim r.means [
  | inl e ↦ (let same : rest ≡ full = cc in no_type os Seen full (rw same at none) what r.type)
  | inr w ↦ absurd (w.0 rest is)
]
