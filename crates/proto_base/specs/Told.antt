-- Faults of the program, as the order of faults sees them.
use Rattle.std.specs.Prelude.{string_bytes}
use Rattle.proto_base.specs.Kind.{number_of}
use Rattle.proto_base.specs.declared.fault.Fault.{Fault}
use Rattle.proto_base.specs.Fault.{Found}

-- what a fault of the program is
abbrev pub found : Fault → Found
found f = record {
  pass = f.pass;
  file = string_bytes f.file;
  step = f.step;
  place = f.place.offset;
  number = number_of f.kind;
}
