use Rattle.proto_lower.proofs.Common.{◌∙◌, ℕ, List, ap, string_bytes, OneofDesc, with_underscore}
use Rattle.proto_lower.proofs.Free.{found_by_set}
use Rattle.proto_lower.proofs.oneof.made.Goals as goal

pub returns : goal.returns
returns c = λ names members same.
    let named : List ℕ → OneofDesc = λ n. record { name = n; place = c.args.field.now.place } in
    ap named (c.owned.ensures
    ∙ found_by_set names c.args.taken.now c.args.most (string_bytes c.in_ok-start.start) c.args.field.now.name
    (string_bytes c.in_ok-first_free.field-0)
    members same (c.in_ok-start.ensures ∙ ap with_underscore c.as_str.ensures) c.in_ok-first_free.ensures)
