use Rattle.reflect_core.proofs.Common.{◌≡◌, take, string_bytes, map, flat_map, bytes_field}
use Rattle.reflect_core.proofs.response.list_of_services.Given as goal

abbrev pub invariant-loop-name : goal.invariant-loop-name
invariant-loop-name l = l.out.items ≡ flat_map (λ name. bytes_field 1 (bytes_field 1 name))
    (map string_bytes (take l.name-index l.name-items))
