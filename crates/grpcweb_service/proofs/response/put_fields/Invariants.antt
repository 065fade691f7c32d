use Rattle.std.proofs.Common.{◌≡◌, take}
use Rattle.grpcweb_service.specs.Responses.{fields_behind}
use Rattle.grpcweb_service.proofs.Fields.{texts}
use Rattle.grpcweb_service.proofs.response.put_fields.Given as goal

abbrev pub invariant-loop-name : goal.invariant-loop-name
invariant-loop-name l = l.fields ≡ fields_behind l.fn.fields (texts (take l.name-index l.added))
