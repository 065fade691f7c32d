use Rattle.std.proofs.Common.{◌∙◌, sym}
use Rattle.proto_checks.proofs.reserved_names.is_reserved.Goals as goal

pub returns-in-Some : goal.returns-in-Some
returns-in-Some c =
    let told = (rw c.in-Some.is at c.requires) c.args.name.now in
    (λ h. told.0 (sym c.contains.ensures ∙ h), λ w. c.contains.ensures ∙ told.1 w)
