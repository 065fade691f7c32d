use Rattle.proto_names.proofs.Common.{◌≡◌, ◌∙◌, ap, sym, arith, length, length-append, bytes_decides, scoped}
use Rattle.proto_names.specs.ScopeBefore.{scope_text}
use Rattle.proto_names.proofs.Ordered.{ends_alike}
use Rattle.proto_names.proofs.EntryLemmas.{scoped_split}
use Rattle.proto_names.proofs.name_bytes.take_alike.Goals as goal

pub returns-clause-alike : goal.returns-clause-alike
returns-clause-alike c =
    let one = c.split_at.result in
    let other = c.split_at-2.result in
    let first = sym c.first.view_is
    ∙ scoped_split (scope_text c.first.inside.scope) c.first.inside.unread.now c.split_at.result.0.now
    c.split_at.result.1.now c.split_at.ensures.by_index.0 in
    let second = sym c.second.view_is
    ∙ scoped_split (scope_text c.second.inside.scope) c.second.inside.unread.now c.split_at-2.result.0.now
    c.split_at-2.result.1.now c.split_at-2.ensures.by_index.0 in
    let same : one.1.now ≡ other.1.now = grind (arith, bytes_decides one.1.now other.1.now) in
    rw (first, second, same) (ends_alike _ _ other.1.now)

pub returns-clause-shorter : goal.returns-clause-shorter
returns-clause-shorter c =
    let first = sym c.first.view_is
    ∙ scoped_split (scope_text c.first.inside.scope) c.first.inside.unread.now c.split_at.result.0.now
    c.split_at.result.1.now c.split_at.ensures.by_index.0 in
    omega (
      arith,
      ap length first,
      length-append (scoped (scope_text c.first.inside.scope) c.split_at.result.0.now) c.split_at.result.1.now,
    )
