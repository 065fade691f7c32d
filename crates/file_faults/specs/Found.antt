-- Words of private contracts: what is found in sources.
use Rattle.std.specs.Prelude.{List, [], ◌∷◌, ◌++◌, Vec, map}
use Rattle.std.specs.declared.alloc.Global.{Global}
use Rattle.proto_base.specs.declared.file_fault.FileFault.{FileFault}
use Rattle.proto_compile.specs.FaultSet.{SourceFault, fault}
use Rattle.proto_compile.specs.Sources.{name_of}
use Rattle.proto_compile.specs.declared.source.Source.{Source}

-- the faults of a source, with its name, and those of all sources, in their order
abbrev pub named_by : Source → List FileFault → List SourceFault
named_by s found = map (fault 1 (name_of s)) found

abbrev pub faults_in : List Source → List (Vec FileFault Global) → List SourceFault
faults_in [] found = []
faults_in (s ∷ files) [] = []
faults_in (s ∷ files) (f ∷ found) = named_by s f.items ++ faults_in files found
