use Rattle.proto_names.proofs.Common.{◌≡◌, ◌∙◌, ap, length, take, drop, arith, length-take-le, IfSome_then}
use Rattle.share_work.proofs.Sums.{none_in}
use Rattle.proto_names.proofs.Ordered.{order_names}
use Rattle.proto_names.proofs.Searching.{named_at, run_is, start_behind}
use Rattle.proto_names.proofs.table.entries_named.Goals as goal

pub run_length-requires-clause-behind : goal.run_length-requires-clause-behind
run_length-requires-clause-behind c = rw c.skip-behind.ensures
    (start_behind c.args.names.now _ c.in-Some.start (order_names _ c.requires.order) c.in-Some.ensures)

pub returns-in-Some-clause-named : goal.returns-in-Some-clause-named
returns-in-Some-clause-named c =
    let behind = c.skip-behind.ensures in
    rw (c.take-names.ensures, behind)
    (run_is c.args.names.now _ c.in-Some.start (order_names _ c.requires.order) c.in-Some.ensures c.run_length.result
    (rw behind at c.run_length.ensures.bound) (rw behind at c.run_length.ensures.point))

pub returns-in-None-clause-named : goal.returns-in-None-clause-named
returns-in-None-clause-named c = grind (arith, named_at, none_in)

pub returns-in-Some-clause-files : goal.returns-in-Some-clause-files
returns-in-Some-clause-files c =
    let behind = drop c.in-Some.start c.args.names.now in
    let n = c.run_length.result in
    let named : c.take-names.result ≡ take n behind = rw c.skip-behind.ensures at c.take-names.ensures in
    let len : c.len.result ≡ n = c.len.ensures ∙ ap length named
    ∙ length-take-le n behind (rw c.skip-behind.ensures at c.run_length.ensures.bound) in
    IfSome_then c.files_of-files.result c.files_of-files.ensures
    (λ p is. rw (named, ← len) (is c.args.names.now c.requires.packages))
