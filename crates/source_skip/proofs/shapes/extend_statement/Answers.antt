use Rattle.source_skip.specs.Shapes.{Optional, full, symbol, word}
use Rattle.source_skip.proofs.Behind.{closing_behind}
use Rattle.source_skip.proofs.shapes.extend_statement.Goals as goal

pub braces-requires : goal.braces-requires
braces-requires c = closing_behind c.args.closes.now full _ _ c.in_ok-full_name.ensures
    (closing_behind c.args.closes.now (Optional (symbol ".")) _ _ c.optional_dot-name.ensures
    (closing_behind c.args.closes.now (word "extend") _ _ c.in_ok-word.ensures c.requires))
