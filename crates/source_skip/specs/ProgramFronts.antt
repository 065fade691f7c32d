-- What goes, as the program has it.
use Rattle.std.specs.Prelude.{List, [], map}
use Rattle.proto_tokens.specs.Token.{Spelled}
use Rattle.source_skip.specs.ProgramSettings.{entry_of}
use Rattle.source_skip.specs.ProgramTokens.{spelled}
use Rattle.source_skip.specs.Skipped as skipped
use Rattle.source_skip.specs.declared.gone.Front.{Front}
use Rattle.source_skip.specs.declared.gone.Gone.{Gone}
use Rattle.source_skip.specs.declared.gone.Gone.TheVariants as gone

abbrev pub gone_of : Gone → List Spelled
gone_of gone.Nothing = []
gone_of (gone.Tokens tokens) = map spelled tokens.now
gone_of (gone.Settings entries) = skipped.gone_within (map entry_of entries.items)

abbrev pub front_of : Front → skipped.Front
front_of f = record { gone = gone_of f.gone; rest = map spelled f.rest.now; starts = f.starts }
