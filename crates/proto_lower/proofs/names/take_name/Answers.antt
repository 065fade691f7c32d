use Rattle.std.proofs.Common.{sym, ◌∙◌}
use Rattle.proto_lower.proofs.Free.{taken_more, taken_other}
use Rattle.proto_lower.proofs.names.take_name.Goals as goal

pub returns-in_ok-insert : goal.returns-in_ok-insert
returns-in_ok-insert c = λ names members. taken_more names c.args.name.now c.in_ok-from_str.field-0 c.args.taken.now
    c.insert.new.self
    c.in_ok-from_str.ensures.ok c.in_ok-insert.ensures.updates members

pub returns-else-begins_as_made : goal.returns-else-begins_as_made
returns-else-begins_as_made c = λ names members. taken_other names c.args.name.now c.args.taken.now
    (sym c.begins_as_made.ensures ∙ c.if-begins_as_made.false) members
