use Rattle.std.proofs.Common.{◌≡◌, map, string_bytes}
use Rattle.schema_sources.proofs.system_folder.rising_names.Given as goal

abbrev pub invariant-loop-name : goal.invariant-loop-name
invariant-loop-name l = map string_bytes l.names.items ≡ map (λ name. name.now.now) l.yielded
