use Rattle.fault_report.proofs.Spelled.{end_told, end_untold}
use Rattle.fault_report.proofs.token_end.token_end.Goals as goal

pub returns-in-Some : goal.returns-in-Some
returns-in-Some c = λ limit text are.
    end_told limit text c.args.place.offset c.args.tokens.now c.in-Some.tokens _ c.in-Some.is are c.end_among.ensures

pub returns-in-None : goal.returns-in-None
returns-in-None c = λ limit text are. end_untold limit text c.args.place.offset c.args.tokens.now c.in-None.is are
