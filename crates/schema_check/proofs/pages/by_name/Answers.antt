use Rattle.std.proofs.Common.{◌∙◌, sym, arith}
use Rattle.std.proofs.lemmas.Map.Text.{hash_map_updates_str}
use Rattle.schema_check.proofs.Opening.{named_more, named_skip, no_source}
use Rattle.schema_check.proofs.pages.by_name.Goals as goal
use Rattle.schema_check.proofs.pages.by_name.Goals.{then-not-contains_key+in_ok-insert, else-not-contains_key}

pub loop-source-preserved : goal.loop-source-preserved
loop-source-preserved c =
    elim c.if-not-contains_key.branch [
      | then-not-contains_key+in_ok-insert w ↦
          rw w.named-is (named_more c.args.sources.now c.loop-source.source-index no_source c.loop-source.named
          w.insert.new.self (omega arith) c.loop-source.invariant
          (sym c.contains_key.ensures ∙ w.if-not-contains_key.true)
          (hash_map_updates_str _ c.loop-source.named w.insert.new.self _ w.in_ok-insert.ensures.updates))
      | else-not-contains_key w ↦
          rw w.named-is (named_skip c.args.sources.now c.loop-source.source-index no_source c.loop-source.named
          (omega arith) c.loop-source.invariant (sym c.contains_key.ensures ∙ w.if-not-contains_key.false))
    ]
