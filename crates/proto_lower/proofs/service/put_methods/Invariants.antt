use Rattle.proto_lower.proofs.Common.{◌≡◌, ◌++◌, take, map, flat_map, service_rpc}
use Rattle.proto_lower.specs.Services.{method_desc}
use Rattle.proto_lower.proofs.service.put_methods.Given as goal

abbrev pub invariant-loop-item : goal.invariant-loop-item
invariant-loop-item l = l.out.items ≡ l.initial.out.items
    ++ map method_desc (flat_map service_rpc (take l.item-index l.items))
