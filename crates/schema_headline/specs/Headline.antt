-- What a list of sources gives.
use Rattle.std.specs.Prelude.{◌≡◌, ℕ, List}
use Rattle.first_reach.specs.declared.mode.Mode.{Mode}
use Rattle.proto_base.specs.declared.limits.Limits.{Limits}
use Rattle.proto_compilation.specs.Compilation.{Compilation, set_of}
use Rattle.proto_compile.specs.Compiled.{IsCompiled}
use Rattle.proto_compile.specs.declared.source.Source.{Source}
use Rattle.reflect_core.specs.Response.{IsResponse}

-- the descriptor set of sources
abbrev pub IsSetOf : Limits → List Source → List ℕ → Type 0
IsSetOf limits sources bytes = (c : Compilation) × IsCompiled limits sources c × (bytes ≡ set_of c.files c.links)

-- the response to a body over sources
abbrev pub IsResponseOf : Mode → Limits → List Source → List ℕ → List ℕ → Type 0
IsResponseOf mode limits sources body bytes =
    (c : Compilation) × IsCompiled limits sources c × IsResponse mode c body bytes
