use Rattle.std.proofs.Common.{sym, ◌∙◌, ap}
use Rattle.proto_desc.specs.JsonOrigins.{json_from}
use Rattle.proto_desc.proofs.Raised.{json_name_unchanged}
use Rattle.proto_desc.proofs.json_name.JsonName.made.Goals as goal
use Rattle.proto_desc.proofs.json_name.JsonName.made.Goals.{then-has_underscore, else-has_underscore}

pub returns : goal.returns
returns c = elim c.if-has_underscore.branch [
  | then-has_underscore w ↦ ap json_from w.origin-is
  | else-has_underscore w ↦ ap json_from w.origin-is
      ∙ sym (json_name_unchanged c.args.name.now c.utf8.name (sym c.has_underscore.ensures ∙ w.if-has_underscore.false))
]
