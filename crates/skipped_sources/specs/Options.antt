-- What is done about custom options.
use Rattle.std.specs.Prelude.{ℕ, List}
use Rattle.source_skip.specs.Skipped.{skipped}
use Rattle.skipped_sources.specs.declared.options.CustomOptions.{CustomOptions}
use Rattle.skipped_sources.specs.declared.options.CustomOptions.TheVariants.{Refuse, Skip}

-- a text that was read, as it is taken
abbrev pub taken : CustomOptions → List ℕ → List ℕ
taken Refuse text = text
taken Skip text = skipped text
