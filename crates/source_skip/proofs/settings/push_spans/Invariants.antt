use Rattle.std.proofs.Common.{◌≡◌, ◌++◌, map, take}
use Rattle.source_skip.specs.ProgramTokens.{span_of, spelled}
use Rattle.source_skip.proofs.settings.push_spans.Given as goal

abbrev pub invariant-loop-token : goal.invariant-loop-token
invariant-loop-token l =
    l.spans.items ≡ l.fn.spans.items ++ map span_of (map spelled (take l.token-index l.tokens))
