-- The settings between brackets, as the program has them.
use Rattle.std.specs.Prelude.{map}
use Rattle.source_skip.specs.ProgramTokens.{spelled}
use Rattle.source_skip.specs.Skipped as skipped
use Rattle.source_skip.specs.declared.settings.Brackets.{Brackets}
use Rattle.source_skip.specs.declared.settings.Entry.{Entry}

abbrev pub entry_of : Entry → skipped.Entry
entry_of e = record {
  separator = spelled e.separator.now;
  setting = map spelled e.setting.now;
  goes = e.goes;
  rest = map spelled e.rest.now;
}

abbrev pub brackets_of : Brackets → skipped.Brackets
brackets_of b = record { entries = map entry_of b.entries.items; rest = map spelled b.rest.now }
