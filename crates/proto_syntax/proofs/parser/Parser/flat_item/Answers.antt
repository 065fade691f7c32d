use Rattle.proto_syntax.proofs.Common.{arith, Field, spellings}
use Rattle.proto_syntax.proofs.Items.{item_other}
use Rattle.proto_syntax.proofs.Levels.{begins_words, begins_option}
use Rattle.proto_syntax.proofs.parser.Parser.flat_item.Goals as goal

pub returns-in-Field : goal.returns-in-Field
returns-in-Field c = grind (
  arith,
  begins_words,
  begins_option,
  λ (f : Field).
      item_other f (spellings c.args.self.now.rest.now) (spellings c.boxed-in-Field.new.self.rest.now),
)
