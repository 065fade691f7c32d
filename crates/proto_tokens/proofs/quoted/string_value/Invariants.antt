use Rattle.std.proofs.Common.{length, ◌-◌}
use Rattle.proto_tokens.proofs.Strings.{IsReadUpTo}
use Rattle.proto_tokens.proofs.quoted.string_value.Given as goal

abbrev pub invariant-loop-end : goal.invariant-loop-end
invariant-loop-end l = IsReadUpTo l.quote l.after l.value.items l.end

abbrev pub decreases-loop-end : goal.decreases-loop-end
decreases-loop-end l = length l.after - l.end
