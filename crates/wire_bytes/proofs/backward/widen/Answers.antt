use Rattle.std.proofs.Common.{arith, ◌≡◌, ◌+◌, ◌++◌, ◌∙◌, ap, drop, length}
use Rattle.std.proofs.lemmas.Grind.{common_steps}
use Rattle.std.proofs.lemmas.List.{drop_at}
use Rattle.wire_bytes.proofs.backward.widen.Goals as goal

pub returns-clause-written : goal.returns-clause-written
returns-clause-written c =
    let free : length c.resize.new.self.items ≡ c.args.room + c.max-more.result = grind (arith, common_steps) in
    let whole : c.extend_from_slice.new.self.items ≡ c.resize.new.self.items ++ drop c.args.room c.args.bytes.now.items
    = grind (arith, common_steps) in
    ap (drop (c.args.room + c.max-more.result)) whole ∙ drop_at c.resize.new.self.items _ _ free
