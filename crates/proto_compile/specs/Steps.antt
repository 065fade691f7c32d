-- Words of private contracts: what is written, before its set is measured.
use Rattle.std.specs.Prelude.{ℕ, List, Vec}
use Rattle.std.specs.declared.alloc.Global.{Global}
use Rattle.proto_base.specs.declared.limits.Limits.{Limits}
use Rattle.proto_compilation.specs.Compilation.{CompiledFile}
use Rattle.proto_compilation.specs.Parts.{compilation}
use Rattle.proto_links.specs.Linked.{Linked}
use Rattle.proto_names.specs.Index.{Index}
use Rattle.proto_compile.specs.Compiled.{IsWritten}
use Rattle.proto_compile.specs.declared.source.Source.{Source}

abbrev pub items_of : Vec ℕ Global → List ℕ
items_of bytes = bytes.items

-- what is written of some sources
abbrev pub AreWritten : Limits → List CompiledFile → Linked → Index → Type 0
AreWritten limits files links index =
    (sources : List Source) × IsWritten limits sources (compilation limits files links index)
