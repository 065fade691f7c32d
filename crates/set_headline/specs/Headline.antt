-- What a set gives.
use Rattle.std.specs.Prelude.{ℕ, List}
use Rattle.first_reach.specs.declared.mode.Mode.{Mode}
use Rattle.proto_base.specs.declared.limits.Limits.{Limits}
use Rattle.proto_compilation.specs.Compilation.{Compilation}
use Rattle.proto_sets.specs.Sets.{IsOfSet}
use Rattle.reflect_core.specs.Response.{IsResponse}

-- the response to a body over a set
abbrev pub IsResponseOfSet : Mode → Limits → List ℕ → List ℕ → List ℕ → Type 0
IsResponseOfSet mode limits set body bytes =
    (c : Compilation) × IsOfSet limits set c × IsResponse mode c body bytes
