-- Header fields that are added, and a field that is read.
use Rattle.std.proofs.Common.{◌≡◌, ◌↔◌, ℕ, List, map, Bool, true, false, Bor, Result, Ok, Err, IfOk, IsOk, Some, ap, refl, option_map}
use Rattle.std.proofs.lemmas.List.Sums.{AllPass-from_list_all, list_all-from_AllPass}
use Rattle.std.specs.Result.{result_ok}
use Rattle.http.specs.FieldValue.{FieldValue, IsVisibleAscii, is_visible_text}
use Rattle.http.specs.Token.{is_visible_or_blank}
use Rattle.grpcweb_service.specs.Responses.{text_of}

-- the texts of fields that are shown
abbrev pub texts : List (Bor (List ℕ) × Bor (List ℕ)) → List (List ℕ × List ℕ)
texts = map (λ field. (field.0.now, field.1.now))

-- what is read of a field is its text, if it is one
pub read_text : {E : Type 0} (value : FieldValue) (read : Result (Bor (List ℕ)) E) → IfOk read (λ s. s.now ≡ value.bytes)
    → IsOk read ↔ IsVisibleAscii value.bytes → option_map (λ text. text.now) (result_ok read) ≡ text_of value
read_text value (Ok s) same visible =
    rw (list_all-from_AllPass is_visible_or_blank value.bytes (visible.0 refl)) (ap Some same)
read_text {E = E} value (Err e) same visible = unread (is_visible_text value.bytes) refl
  where
    unread : (b : Bool) → is_visible_text value.bytes ≡ b → option_map {T = Bor (List ℕ)} (λ text. text.now) (result_ok {E = E} (Err e)) ≡ text_of value
    unread true text =
        let said : false ≡ true = visible.1 (AllPass-from_list_all is_visible_or_blank value.bytes text) in cc
    unread false other = rw other refl
