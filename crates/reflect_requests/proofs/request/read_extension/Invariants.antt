use denote.Shadow.{shadow}
use denote.Text.{Utf8}
use Rattle.std.proofs.Common.{drop, map}
use Rattle.wire_format.specs.ProgramFields.{field_of}
use Rattle.reflect_requests.proofs.RequestRows.{ExtensionDecided}
use Rattle.reflect_requests.proofs.request.read_extension.Given as goal

abbrev pub invariant-loop-field : goal.invariant-loop-field
invariant-loop-field l = record {
  decided : ExtensionDecided (map field_of l.field-items) (map field_of (drop l.field-index l.field-items)) l.name l.number;
  utf8 : shadow (Utf8 l.name);
}
