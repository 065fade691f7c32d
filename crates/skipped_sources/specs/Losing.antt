-- Words of private contracts: what is found to be lost, and the places of tokens.
use Rattle.std.specs.Prelude.{◌≡◌, ℕ, List, [], ◌∷◌, map, Vec}
use Rattle.std.specs.BTreeSet.{BTreeSet, contains_by}
use Rattle.std.specs.Borrow.{Bor}
use Rattle.std.specs.Cmp.Lexicographic.{slice_cmp}
use Rattle.std.specs.Ordering.{nat_cmp}
use Rattle.std.specs.declared.alloc.Global.{Global}
use Rattle.proto_base.specs.declared.limits.Limits.{Limits}
use Rattle.proto_base.specs.declared.place.Span.{Span}
use Rattle.proto_syntax.specs.Grammar.{among}
use Rattle.proto_tokens.specs.Token.{Spelled, punctuation}
use Rattle.source_folder.specs.Folder.{NamedBytes}
use Rattle.source_folder.specs.declared.folder.NamedText.{NamedText}
use Rattle.source_skip.specs.Skipped.{without}
use Rattle.skipped_sources.specs.Lost.{Loses}

-- the set holds these names and no other
abbrev pub HoldsNames : List (List ℕ) → BTreeSet (Bor (List ℕ)) → Type 0
HoldsNames names set = (name : List ℕ) → contains_by (λ k. slice_cmp nat_cmp name k.now) set ≡ among name names

-- the bytes of a text that are a token
abbrev pub Extent : Type 0
Extent = ℕ × ℕ

abbrev pub extent_of : Spelled → Extent
extent_of t = (t.start, t.end)

-- a token that is these bytes, whatever it says
abbrev pub token_at : Span → Spelled
token_at s = record { start = s.start.offset; end = s.end.offset; lexeme = punctuation 0 }

abbrev pub extents : List Span → List Extent
extents spans = map extent_of (map token_at spans)

-- the spans are those of the tokens that the text loses
abbrev pub LosesSpans : Limits → (names : List (List ℕ)) → (text : List ℕ) → List Span → Type 0
LosesSpans limits names text spans =
    (gone : List Spelled) × Loses limits names text gone × (extents spans ≡ map extent_of gone)

-- the same of a source
abbrev pub LosesAmong : Limits → List (List ℕ) → NamedText → Vec Span Global → Type 0
LosesAmong limits names source spans = LosesSpans limits names source.text.items spans.items

-- the same by the names that a set holds
abbrev pub SourceLoses : Limits → BTreeSet (Bor (List ℕ)) → NamedText → Vec Span Global → Type 0
SourceLoses limits set source spans =
    (names : List (List ℕ)) → HoldsNames names set → LosesAmong limits names source spans

-- a source with spaces in place of these bytes
abbrev pub blanked : NamedBytes → List Span → NamedBytes
blanked source spans = (source.0, without 0 (map token_at spans) source.1)

-- each source with spaces in place of the bytes that are listed for it
abbrev pub all_blanked : List NamedBytes → List (Vec Span Global) → List NamedBytes
all_blanked [] lists = []
all_blanked (s ∷ sources) [] = s ∷ sources
all_blanked (s ∷ sources) (l ∷ lists) = blanked s l.items ∷ all_blanked sources lists
