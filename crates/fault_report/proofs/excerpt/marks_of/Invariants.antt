use Rattle.std.proofs.Common.{◌≡◌, ◌++◌, map, string_bytes}
use Rattle.std.specs.Prelude.{encode_utf8_all, replicate}
use Rattle.fault_report.specs.Shown.{blank_below}
use Rattle.fault_report.proofs.excerpt.marks_of.Given as goal

abbrev pub invariant-loop-drawn : goal.invariant-loop-drawn
invariant-loop-drawn l = string_bytes l.marks ≡ encode_utf8_all (map blank_below l.front) ++ replicate l._drawn 94
