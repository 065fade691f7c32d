-- Whether a message is resolved, by its fields and nested messages.
use Rattle.std.proofs.Common.{◌≡◌, ◌∙◌, ap, Bool}
use Rattle.std.specs.Prelude.{◌&&◌}
use Rattle.std.specs.List.{list_all}
use Rattle.std.proofs.lemmas.List.Folds.{list_all-map}
use Rattle.proto_desc.specs.declared.message.MessageDesc.{MessageDesc}
use Rattle.proto_desc.specs.declared.message.MessageDesc.TheViews.{out-MessageDesc}
use Rattle.proto_desc.specs.declared.message.MessageDesc.TheFolds.{fold_out-MessageDesc}
use Rattle.proto_desc.specs.Resolved.{fields_resolved, resolved_step, message_resolved}

pub message_resolved_out : (m : MessageDesc) → message_resolved m
    ≡ (fields_resolved (out-MessageDesc m).fields && list_all message_resolved (out-MessageDesc m).nested)
message_resolved_out m = fold_out-MessageDesc Bool resolved_step m
    ∙ ap (λ b. fields_resolved (out-MessageDesc m).fields && b)
    (list_all-map (λ (b : Bool). b) message_resolved (out-MessageDesc m).nested)
