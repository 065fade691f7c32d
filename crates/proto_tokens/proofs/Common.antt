-- What many proofs of this crate cite, passed on from one place.
pub use Rattle.std.proofs.Common.{◌≡◌, ℕ, ◌+◌, ◌<◌, ◌≤◌, Option, None, Some, List, [], ◌∷◌, ◌++◌, length, drop, map, refl, sym, ap, subst, ◌∙◌, inr, arith, length-drop, length-take-le, append-nil, option_map, IsUtf8, ◌-◌, ◌≢◌, zero, suc, ◌⊎◌, true, get_or, take, inl, slice_get, take-take, length-take, ◌*◌, ◌^◌, false, Result, fold, take-append-drop, mul-le-mul_left, ◌↔◌, MatchOption, MatchResult, ok_or, append_assoc, get_or-take, get_or-drop, add-zero, get_or-append-add, length-append, IsCharBoundary, Bool, unwrap_or, zero-add, slice_range, take-suc, Ok, Err, IsErrAnd, not, nat_eq}
pub use Rattle.std.proofs.lemmas.Bool.{false≢true, both_ways, cases_lt, false_from_ne_true, not_from_false, not_from_true, agree_below_at}
pub use Rattle.std.proofs.lemmas.Bool.Decides.{nat_tests}
pub use Rattle.std.proofs.lemmas.Grind.{common_steps}
pub use Rattle.std.proofs.lemmas.List.{map_push, take_more, take_rest, get_or_past, get_or_at, get_or_append_left, drop_more, flat_map_more, drop_all}
pub use Rattle.std.proofs.lemmas.List.Elements.{All-head, All-cons, All-weaker, All-get_or, All-from_get_or}
pub use Rattle.std.proofs.lemmas.List.Sums.{prefix_len-le-length, fold_more, fold-append, list_all-from_AllPass, AllPass-from_list_all, prefix_len_passes, prefix_len_stops, prefix_len_is}
pub use Rattle.std.proofs.lemmas.Str.{IsCharBoundary-after_ascii, IsUtf8-string_bytes}
pub use Rattle.std.specs.Char.{is_digit, IsScalar, digit_value, is_ascii_digit, is_ascii_graphic}
pub use Rattle.std.specs.List.{prefix_len, list_all, AllPass}
pub use Rattle.proto_base.specs.declared.kind.Kind.{Kind}
pub use Rattle.proto_tokens.specs.Bytes.{begins, is_blank, is_letter, is_word, is_numeric, is_quote, is_punctuation, is_slash_or_star, is_in_line}
pub use Rattle.proto_tokens.specs.Numeral.{Writes, digits_value, IsNumeral}
pub use Rattle.proto_tokens.specs.Piece.{IsLongestPiece, IsPieceFault, IsPiece, IsBadNumber, IsLineComment, IsBlockComment, HasNoClose, IsUnclosedComment, IsTooBig}
pub use Rattle.proto_tokens.specs.ProgramTokens.{spelled, lexeme_of, tokens_of}
pub use Rattle.proto_tokens.specs.Steps.{IsFaultFrom, HasNoEscape, IsNumeralFault, IsFirstClose, IsFaultAfter, IsClosed}
pub use Rattle.proto_tokens.specs.Token.{Lexeme, Spelled, identifier, number, string_literal, punctuation}
pub use Rattle.proto_tokens.specs.declared.token.TokenError.{TokenError}
