use Rattle.proto_lower.proofs.Common.{◌∙◌, ap, sym, string_bytes, length-map, bytes_eq, with_underscore}
use Rattle.std.specs.Set.{is_member}
use Rattle.std.proofs.lemmas.Result.{IfOk-weaker}
use Rattle.proto_lower.proofs.Free.{free_is_free, found_by_set}
use Rattle.proto_lower.proofs.names.oneof_name.Goals as goal

pub returns-clause-value : goal.returns-clause-value
returns-clause-value c = IfOk-weaker c.first_free.result _ _
    (λ name by_set. found_by_set _ c.in_ok-set.set _ _ c.args.field.now (string_bytes name) c.in_ok-set.ensures
    (sym (length-map c.args.taken.now (λ name. name.now))) c.in_ok-start.ensures by_set) c.first_free.ensures

pub returns-clause-free : goal.returns-clause-free
returns-clause-free c = IfOk-weaker c.first_free.result _ _ (λ name by_set.
    ap (is_member bytes_eq _)
    (found_by_set _ c.in_ok-set.set _ _ c.args.field.now (string_bytes name) c.in_ok-set.ensures
    (sym (length-map c.args.taken.now (λ name. name.now))) c.in_ok-start.ensures by_set)
    ∙ free_is_free _ (with_underscore c.args.field.now)) c.first_free.ensures
