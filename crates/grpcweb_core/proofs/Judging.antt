-- Targets and content types, as they are judged.
use Rattle.std.proofs.Common.{◌≡◌, ◌↔◌, ℕ, ◌<◌, List, [], ◌∷◌, length, map, get_or, sym, ap, arith, refl, All, true, false, IsTrue, nat_eq, take, drop, drop_at, take_at, take-append-drop, append-nil, eqb-true}
use Rattle.std.specs.Char.{to_ascii_lowercase}
use Rattle.std.specs.Str.{bytes_eq}
use Rattle.std.proofs.lemmas.List.{length-map}
use Rattle.std.proofs.lemmas.Grind.{common_steps}
use Rattle.std.proofs.Math.Seq.{drop-cons}
use Rattle.std.proofs.lemmas.Slice.Eq.{bytes_eq-Decides}
use Rattle.grpcweb_core.specs.Http.{IsBehindType, IsBlank, IsEmptyOrBegins, IsOfType, IsTargetOf}

-- ---- targets

pub is_target : (path target query : List ℕ) → bytes_eq (take (length path) target) path ≡ true
    → query ≡ drop (length path) target → IsEmptyOrBegins 63 query ↔ IsTargetOf path target
is_target path target query prefix rest = (
  λ begins. (query, cc ((bytes_eq-Decides _ path).0 prefix, take-append-drop (length path) target), begins),
  λ (other, is, begins). rw (rest, is, drop_at path other _ refl) begins,
)

pub not_of_path : (path target : List ℕ) → bytes_eq (take (length path) target) path ≡ false
    → IsTargetOf path target → ⊥
not_of_path path target other (query, is, begins) =
    cc ((bytes_eq-Decides (take (length path) target) path).1 (rw is (take_at path query _ refl)))

-- ---- content types

-- behind blanks stands a semicolon, where what is behind a type leaves it as it is
behind_blanks : (text : List ℕ) (k : ℕ) → All IsBlank (take k text) → k < length text
    → (IsBlank (get_or text k 0) → ⊥) → IsBehindType text → get_or text k 0 ≡ 59
behind_blanks text k all below none (blanks, [], is, are, begins) =
    grind (arith, common_steps, are k 0, append-nil blanks)
behind_blanks text k all below none (blanks, b ∷ more, is, are, begins) =
    grind (arith, common_steps, are k 0, all (length blanks) 0)

-- a byte that is no blank, behind blanks, decides
pub semicolon : (text : List ℕ) (k : ℕ) → All IsBlank (take k text) → k < length text → (IsBlank (get_or text k 0) → ⊥)
    → IsTrue (nat_eq (get_or text k 0) 59) ↔ IsBehindType text
semicolon text k all below none = (
  λ same. (
    take k text,
    drop k text,
    sym (take-append-drop k text),
    all,
    rw (drop-cons text k 0 below) (eqb-true (get_or text k 0) 59 same),
  ),
  λ behind. rw (behind_blanks text k all below none behind) refl,
)

pub is_type : (media text name behind : List ℕ) → name ≡ take (length media) text → behind ≡ drop (length media) text
    → map to_ascii_lowercase name ≡ map to_ascii_lowercase media → IsBehindType behind ↔ IsOfType media text
is_type media text name behind front back same = (
  λ left. (name, behind, cc (take-append-drop (length media) text), same, left),
  λ (other, more, is, lower, left).
      let long : length other ≡ length media =
      omega (arith, ap length lower, length-map other to_ascii_lowercase, length-map media to_ascii_lowercase) in
      rw (back, is, drop_at other more _ long) left,
)
