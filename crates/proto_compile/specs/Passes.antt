-- The passes, by the numbers that order faults.
use Rattle.std.specs.Prelude.{ℕ}
use Rattle.proto_compile.specs.declared.pass.Pass.{Pass}
use Rattle.proto_compile.specs.declared.pass.Pass.TheVariants as pass

abbrev pub number_of : Pass → ℕ
number_of pass.List = 0
number_of pass.Local = 1
number_of pass.Imports = 2
number_of pass.Names = 3
number_of pass.Types = 4
number_of pass.Lengths = 5
number_of pass.Set = 6
