-- The texts of a folder.
use Rattle.std.specs.Prelude.{◌≡◌, ℕ, List, map, Option, None, IfSome, All, String, string_bytes}
use Rattle.std.specs.declared.alloc.Global.{Global}
use Rattle.proto_base.specs.Limits.{limit_of}
use Rattle.proto_base.specs.StandardLimits.{standard_of}
use Rattle.proto_base.specs.declared.limits.Limit.{Limit}
use Rattle.proto_base.specs.declared.limits.Limits.{Limits}
use Rattle.skipped_sources.specs.Lost.{AreWithoutLost}
use Rattle.skipped_sources.specs.Options.{taken}
use Rattle.skipped_sources.specs.declared.options.CustomOptions.{CustomOptions}
use Rattle.skipped_sources.specs.declared.options.CustomOptions.TheVariants.{Refuse, Skip}
use Rattle.source_folder.specs.Folder.{NamedBytes, named_bytes}
use Rattle.source_folder.specs.declared.folder.NamedText.{NamedText}

-- the bytes of texts
abbrev pub bytes_of : NamedText → List ℕ
bytes_of text = text.text.items

-- What is known of the sources of a folder: the name and the bytes of each, in the order of the names, where they are
-- known; and what is done about custom options.
pub record KnownSources : Type 0 where
  pub texts : Option (List NamedBytes)
  pub custom_options : CustomOptions

-- that no text is known
abbrev pub unknown : CustomOptions → KnownSources
unknown options = record { texts = None; custom_options = options }

-- a source that was read, as it is taken
abbrev pub taken_source : CustomOptions → NamedBytes → NamedBytes
taken_source options source = (source.0, taken options source.1)

-- Texts that may be those of a folder: the known ones, and no others. Where custom options are skipped, they are taken
-- so, and then without the imports that name none of all.
abbrev pub AreTextsBy : Limits → CustomOptions → Option (List NamedBytes) → List NamedText → Type 0
AreTextsBy limits Refuse known texts = IfSome known (λ sources. map named_bytes texts ≡ sources)
AreTextsBy limits Skip known texts =
    (whole : List NamedBytes) × IfSome known (λ sources. whole ≡ map (taken_source Skip) sources)
    × AreWithoutLost limits whole (map named_bytes texts)

abbrev pub AreTextsOf : Limits → KnownSources → List NamedText → Type 0
AreTextsOf limits known texts = AreTextsBy limits known.custom_options known.texts texts

-- names that may be those of a folder's sources: the known ones, in their order, and no others
abbrev pub AreNamesOf : KnownSources → List (String Global) → Type 0
AreNamesOf known names = IfSome known.texts (λ sources. map string_bytes names ≡ map (λ source. source.0) sources)

-- a text that may be that of the folder's source of this name: the known one, where there is one
abbrev pub IsTextUnder : KnownSources → (name text : List ℕ) → Type 0
IsTextUnder known name text = IfSome known.texts (All (λ source. source.0 ≡ name → text ≡ source.1))

-- the limits of a run
abbrev pub AreStandard : Limits → Type 0
AreStandard limits = (limit : Limit) → limit_of limits limit ≡ standard_of limit
