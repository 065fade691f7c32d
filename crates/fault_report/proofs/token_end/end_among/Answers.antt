use Rattle.std.proofs.Common.{◌∙◌, ap, Some, None}
use Rattle.fault_report.specs.Tokens.{offset_of}
use Rattle.fault_report.proofs.Spelled.{end_of_found}
use Rattle.fault_report.proofs.token_end.end_among.Goals as goal

pub returns-in_err-token : goal.returns-in_err-token
returns-in_err-token c = λ order.
    ap offset_of c.from_residual.ensures
    ∙ end_of_found c.args.tokens.now.items.items c.args.place.offset None
    ((rw c.deref.ensures.value at c.in_err-token.ensures) order)

pub returns : goal.returns
returns c = λ order.
    end_of_found c.args.tokens.now.items.items c.args.place.offset (Some c.in_ok-token.token.now)
    ((rw c.deref.ensures.value at c.in_ok-token.ensures) order)
