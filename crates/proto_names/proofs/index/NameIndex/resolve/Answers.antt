use Rattle.std.proofs.Common.{rules}
use Rattle.proto_names.proofs.index.NameIndex.resolve.Goals as goal

pub returns-then-not-allows-clause-not_message : goal.returns-then-not-allows-clause-not_message
returns-then-not-allows-clause-not_message c =
    let scopes = rw c.new.ensures at c.in_ok-scopes.ensures in
    let found = rw (c.in-Some.is, c.new-2.ensures) at (c.find_type.ensures c.args.scope.now scopes) in
    search rules
