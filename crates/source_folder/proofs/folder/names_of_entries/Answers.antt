use Rattle.std.proofs.Common.{IsTrue, List, String, Global, All, arith, string_bytes, subst, sym}
use Rattle.std.proofs.lemmas.Grind.{common_steps}
use Rattle.std.proofs.lemmas.List.Elements.{All-push}
use Rattle.source_folder.specs.Paths.{ends_in_proto}
use Rattle.source_folder.proofs.folder.names_of_entries.Goals as goal

pub loop-entry-preserved : goal.loop-entry-preserved
loop-entry-preserved c =
    let P : String Global → Type 0 = λ n. IsTrue (ends_in_proto (string_bytes n)) in record {
      names = grind (arith, common_steps);
      proto = subst (λ (names : List (String Global)). All P names) (sym c.in_ok-push.ensures.items)
          (All-push P c.loop-entry.names.items _ c.loop-entry.invariant.proto c.in-Some.entry.proto);
    }
