use Rattle.std.proofs.Common.{Contains, IfSome}
use Rattle.schema_explanation.specs.Table.{topics}
use Rattle.schema_explanation.proofs.topic.Topic.nearest.Given as goal

abbrev pub invariant-loop-topic : goal.invariant-loop-topic
invariant-loop-topic l = IfSome l.nearest (Contains topics)
