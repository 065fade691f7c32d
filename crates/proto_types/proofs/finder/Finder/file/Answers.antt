use Rattle.proto_types.proofs.Common.{◌∙◌, sym, inl, inr, on_ok_weaker}
use Rattle.proto_types.proofs.Walking.{finds_both}
use Rattle.proto_types.proofs.finder.Finder.file.Goals as goal

pub messages-requires : goal.messages-requires
messages-requires c =
    c.new-outer.ensures.ready c.args.self.now.names (inr (inl (c.requires ∙ sym c.scope-scope.ensures)))

pub returns : goal.returns
returns c =
    let messages = rw (c.new-outer.ensures.scope, c.scope-scope.ensures, c.as_slice.ensures)
    at c.in_ok-messages.ensures.found in
    let services = rw (c.in_ok-messages.ensures.same, c.scope-scope.ensures, c.as_slice-2.ensures)
    at c.services.ensures.found in
    on_ok_weaker c.services.result (λ found. finds_both messages found) services
