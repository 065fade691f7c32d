use Rattle.source_skip.specs.ProgramTokens.{words_of}
use Rattle.source_skip.specs.Shapes.{leaving_name, symbol}
use Rattle.source_skip.proofs.Behind.{closing_behind}
use Rattle.source_skip.proofs.shapes.leaving.Goals as goal

pub value-requires : goal.value-requires
value-requires c = closing_behind c.args.closes.now (symbol "=") _ _ c.in_ok-symbol.ensures
    (closing_behind c.args.closes.now (leaving_name (words_of c.args.position)) _ _ c.in_ok-equals.ensures c.requires)
