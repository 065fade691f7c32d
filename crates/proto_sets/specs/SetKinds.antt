-- The kinds of faults of sets by their names, as users read them.
use Rattle.std.specs.Prelude.{ℕ, List, codes}
use Rattle.proto_sets.specs.declared.fault.SetKind.{SetKind}
use Rattle.proto_sets.specs.declared.fault.SetKind.TheVariants as kind

abbrev pub name_of : SetKind → List ℕ
name_of kind.SetTooLong = codes "SetTooLong"
name_of kind.MalformedSet = codes "MalformedSet"
name_of kind.TooManyFiles = codes "TooManyFiles"
name_of kind.MalformedFile = codes "MalformedFile"
name_of kind.FileWithoutName = codes "FileWithoutName"
name_of kind.FileNameTwice = codes "FileNameTwice"
name_of kind.MalformedContents = codes "MalformedContents"
name_of kind.NameTooLong = codes "NameTooLong"
name_of kind.ImportMissing = codes "ImportMissing"
name_of kind.ImportCycle = codes "ImportCycle"
name_of kind.TooManyNames = codes "TooManyNames"
name_of kind.NameTwice = codes "NameTwice"
