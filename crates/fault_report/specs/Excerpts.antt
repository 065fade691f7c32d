-- What a report shows of a text around a place.
use Rattle.std.specs.Prelude.{◌≡◌, ◌-◌, ℕ, List, ◌∷◌, ◌++◌, Option, None, Some, codes, encode_utf8_all, length, map, max, min, replicate, string_bytes, take}
use Rattle.std.specs.Fmt.{decimal}
use Rattle.proto_base.specs.Lines.{column_at, line_at}
use Rattle.fault_report.specs.Lines.{line_after}
use Rattle.fault_report.specs.Shown.{blank_below, shown, shown_after, shown_before}
use Rattle.fault_report.specs.Tokens.{IsTokenEnd}
use Rattle.fault_report.specs.declared.excerpt.Excerpt.{Excerpt}

-- one for each character of a token that ends there, as far as it stands in this line and is shown; one where there
-- is none
abbrev pub carets : ℕ → Option ℕ → List ℕ → ℕ → ℕ
carets place None after most = 1
carets place (Some end) after most = max (min (length (shown (take (min (end - place) (length after)) after))) most) 1

-- the line around the place; below it a tab for each tab that is shown before the place, a blank for any other
-- character, and then the carets
pub record IsExcerpt (limit : ℕ) (text : List ℕ) (place : ℕ) (e : Excerpt) : Type 0 where
  pub end : Option ℕ
  pub token : IsTokenEnd limit text place end
  pub number : e.number ≡ line_at text place
  pub column : e.column ≡ column_at text place
  pub line : string_bytes e.line ≡ encode_utf8_all (shown_before text place ++ shown_after text place)
  pub margin : string_bytes e.margin ≡ encode_utf8_all (map (λ _. 32) (decimal e.number))
  pub marks : string_bytes e.marks ≡ encode_utf8_all (map blank_below (shown_before text place))
      ++ replicate (carets place end (line_after text place) (length (shown_after text place))) 94

-- both rows, as they are written
abbrev pub rows_of : Excerpt → List ℕ
rows_of e = codes "  " ++ (decimal e.number ++ (codes " | " ++ (string_bytes e.line
    ++ (10 ∷ codes "  " ++ (string_bytes e.margin ++ (codes " | " ++ string_bytes e.marks))))))
