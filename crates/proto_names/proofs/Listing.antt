-- Lists of scopes that are made from the innermost one outwards.
use Rattle.proto_names.proofs.Common.{◌≡◌, ◌∙◌, ◌⊎◌, inl, inr, sym, ap, refl, arith, ℕ, ◌<◌, ◌≤◌, List, [], ◌∷◌, ◌++◌, length, cases_lt, cases_order, get_or_append_left, get_or_push, length_push, Option, Some, None, IsCandidate, Occurrence, Decides, IsAbsolute, IsInnermost, Resolves, ResolvesNowhere, ◌↔◌}
use Rattle.proto_desc.specs.declared.name_kind.NameKind.{NameKind}
use Rattle.proto_names.proofs.Unique.{candidate_trans, candidate_length, candidates_same, means_nothing, only_innermost}
use Rattle.proto_names.specs.Around.{AreScopes, IsNoScope, scope_at}
use Rattle.proto_names.specs.Found.{IsFound, IsFoundInside}
use Rattle.proto_names.specs.Steps.{IsFirstDecided, IsFoundAmong, IsFoundIn, NoneDecides}
use Rattle.proto_names.specs.declared.resolve.FoundInside.{FoundInside}
use Rattle.proto_names.specs.declared.resolve.FoundInside.TheVariants as variant
use Rattle.proto_names.specs.declared.resolve.FoundType.{FoundType}

-- scopes are listed from the innermost one outwards, as far as one that is not, and that has the others around it
pub none_listed : (scope : List ℕ) → AreScopes scope (λ c. IsCandidate c scope) []
none_listed scope = record {
  around = λ k less. absurd (omega (arith, less));
  all = λ c is. inr is;
  falls = λ j k a less. absurd (omega (arith, less));
  outside = λ k c less. absurd (omega (arith, less));
}

-- one more scope is listed, and what is left then
pub listed_more : (scope inner : List ℕ) (Outside : List ℕ → Type 0) (scopes : List (List ℕ))
    → AreScopes scope (λ c. IsCandidate c inner) scopes → IsCandidate inner scope
    → ((c : List ℕ) → Outside c → length c < length inner)
    → ((c : List ℕ) → IsCandidate c inner → (c ≡ inner) ⊎ Outside c) → AreScopes scope Outside (scopes ++ inner ∷ [])
listed_more scope inner Outside scopes are within shorter next =
    let last = get_or_push scopes inner [] (length scopes) refl in
    let size = length_push scopes inner in
    let left = λ (k : ℕ) (less : k < length scopes). get_or_append_left scopes (inner ∷ []) [] k less in
    let longer = λ (k : ℕ) (less : k < length scopes). are.outside k inner less (inr (inl refl)) in
    record {
      around = λ k less. elim (cases_lt k (length scopes)) [
        | inl low ↦ rw (left k low) (are.around k low)
        | inr high ↦ (let same : k ≡ length scopes = omega (arith, less, size, high) in rw (same, last) within)
      ];
      all = λ c h. elim (are.all c h) [
        | inl (k, low, at) ↦ inl (k, omega (arith, low, size), left k low ∙ at)
        | inr inside ↦ (elim (next c inside) [
          | inl same ↦ inl (length scopes, omega (arith, size), last ∙ sym same)
          | inr further ↦ inr further
        ])
      ];
      falls = λ j k a less. elim (cases_lt k (length scopes)) [
        | inl low ↦ rw (left k low, left j (omega (arith, a, low))) (are.falls j k a low)
        | inr high ↦ (let same : k ≡ length scopes = omega (arith, less, size, high) in
            rw (same, last, left j (omega (arith, a, same))) (longer j (omega (arith, a, same))))
      ];
      outside = λ k c less out. elim (cases_lt k (length scopes)) [
        | inl low ↦ rw (left k low) (omega (arith, longer k low, shorter c out))
        | inr high ↦ (let same : k ≡ length scopes = omega (arith, less, size, high) in rw (same, last) (shorter c out))
      ];
    }

-- where a candidate is as long as a scope, it is this scope
pub met : (scope inner outside : List ℕ) (scopes : List (List ℕ)) → AreScopes scope (λ c. IsCandidate c inner) scopes
    → IsCandidate outside inner → length inner ≤ length outside → AreScopes scope (λ c. IsCandidate c outside) scopes
met scope inner outside scopes are is reached =
    let same : outside ≡ inner = candidates_same outside inner inner is (inr (inl refl))
    (omega (arith, reached, candidate_length outside inner is)) in
    rw same are

no_longer : (c : List ℕ) → IsCandidate c [] → c ≡ []
no_longer [] is = refl
no_longer (x ∷ c) is = absurd (omega (arith, candidate_length (x ∷ c) [] is))

-- and with the outermost scope all are listed
pub listed_around : (scope : List ℕ) (scopes : List (List ℕ)) → AreScopes scope (λ c. IsCandidate c []) scopes
    → AreScopes scope IsNoScope (scopes ++ [] ∷ [])
listed_around scope scopes are = listed_more scope [] IsNoScope scopes are (inl refl) (λ c is. absurd is)
    (λ c is. inl (no_longer c is))

-- the first scope that decides is the innermost one
pub first_innermost : (os : List Occurrence) (Seen : ℕ → Type 0) (scope spelled c : List ℕ) (Outside : List ℕ → Type 0)
    (scopes : List (List ℕ)) → AreScopes scope Outside scopes → IsFirstDecided os Seen scopes spelled c
    → Decides os Seen c spelled → IsInnermost os Seen scope spelled c
first_innermost os Seen scope spelled c Outside scopes are first decides = record {
  candidate = rw (← first.is) (are.around first.at first.within);
  decides = decides;
  longest = λ d h e. elim (are.all d h) [
    | inl (k, low, at) ↦ (elim (cases_order k first.at) [
      | inl same ↦ omega (arith, ap length (sym at ∙ ap (scope_at scopes) same ∙ first.is))
      | inr (inl less) ↦ absurd (first.before k less (rw at e))
      | inr (inr more) ↦ (let falls = are.falls first.at k more low in omega (arith, rw (at, first.is) at falls))
    ])
    | inr out ↦ (let less = are.outside first.at d first.within out in omega (arith, rw first.is at less))
  ];
}

module _ (os : List Occurrence) (Seen : ℕ → Type 0) (spelled : List ℕ)
    (relative : (rest : List ℕ) → IsAbsolute spelled rest → ⊥) where
  -- what is found in the innermost scope that decides
  found_in : (scope c : List ℕ) (found : Option FoundType) → IsInnermost os Seen scope spelled c
      → IsFoundIn os Seen c spelled found → IsFound os Seen scope spelled found
  found_in scope c None inner none =
      λ full what r. none what (rw (only_innermost os Seen scope spelled relative c full inner r.means) at r.type)
  found_in scope c (Some t) inner (same, type) =
      record { means = inr (relative, c, inner, same); type = rw same type }

  -- and so in the first of some scopes
  pub found_first : (scope : List ℕ) (Outside : List ℕ → Type 0) (scopes : List (List ℕ)) (found : Option FoundType)
      → AreScopes scope Outside scopes → IsFoundAmong os Seen scopes spelled (variant.Here found)
      → IsFound os Seen scope spelled found
  found_first scope Outside scopes found are (c, first, decides, type) =
      found_in scope c found (first_innermost os Seen scope spelled c Outside scopes are first decides) type

  pub found_nowhere : (scope : List ℕ) (scopes : List (List ℕ)) → AreScopes scope IsNoScope scopes
      → NoneDecides os Seen scopes spelled → ResolvesNowhere os Seen scope spelled
  found_nowhere scope scopes are none full what r = means_nothing os Seen scope spelled relative
      (λ c is decides. elim (are.all c is) [
        | inl (k, low, at) ↦ none k low (rw at decides)
        | inr out ↦ absurd out
      ])
      full r.means

  module _ (scope outside : List ℕ) (scopes : List (List ℕ)) (around : IsCandidate outside scope)
      (are : AreScopes scope (λ c. IsCandidate c outside) scopes) (none : NoneDecides os Seen scopes spelled) where
    decides_outside : (c : List ℕ) → IsCandidate c scope → Decides os Seen c spelled → IsCandidate c outside
    decides_outside c is decides = elim (are.all c is) [
      | inl (k, low, at) ↦ absurd (none k low (rw at decides))
      | inr out ↦ out
    ]

    means_outside : (full : List ℕ) (what : NameKind)
        → Resolves os Seen outside spelled full what ↔ Resolves os Seen scope spelled full what
    means_outside full what = (
      λ r. (record {
        type = r.type;
        means = elim r.means [
          | inl e ↦ inl e
          | inr (rest, c, inner, same) ↦ inr (
            rest,
            c,
            record {
              candidate = candidate_trans c outside scope inner.candidate around;
              decides = inner.decides;
              longest = λ d is decides. inner.longest d (decides_outside d is decides) decides;
            },
            same,
          )
        ];
      }),
      λ r. (record {
        type = r.type;
        means = elim r.means [
          | inl e ↦ inl e
          | inr (rest, c, inner, same) ↦ inr (
            rest,
            c,
            record {
              candidate = decides_outside c inner.candidate inner.decides;
              decides = inner.decides;
              longest = λ d is decides. inner.longest d (candidate_trans d outside scope is around) decides;
            },
            same,
          )
        ];
      }),
    )

  pub found_inside : (scope outside : List ℕ) (scopes : List (List ℕ)) (found : FoundInside) → IsCandidate outside scope
      → AreScopes scope (λ c. IsCandidate c outside) scopes → IsFoundAmong os Seen scopes spelled found
      → IsFoundInside os Seen scope outside spelled found
  found_inside scope outside scopes (variant.Here found) around are first =
      found_first scope (λ c. IsCandidate c outside) scopes found are first
  found_inside scope outside scopes variant.Outside around are none = means_outside scope outside scopes around are none

-- a name with a leading dot means the same in all scopes
pub means_anywhere : (os : List Occurrence) (Seen : ℕ → Type 0) (spelled rest scope other full : List ℕ)
    (what : NameKind) → spelled ≡ 46 ∷ rest → Resolves os Seen scope spelled full what
    → Resolves os Seen other spelled full what
means_anywhere os Seen spelled rest scope other full what is r = record {
  type = r.type;
  means = elim r.means [
    | inl e ↦ inl e
    | inr w ↦ absurd (w.0 rest is)
  ];
}
