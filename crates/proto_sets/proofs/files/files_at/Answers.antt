use Rattle.std.proofs.Common.{get_or, map, rules}
use Rattle.std.proofs.lemmas.List.{map_push}
use Rattle.std.proofs.lemmas.List.Elements.{All-push}
use Rattle.proto_sets.specs.SetSteps.{IsFirstNameless, IsNameless, file_of, files_of}
use Rattle.proto_sets.specs.Sets.{IsNamedFile}
use Rattle.proto_sets.proofs.LeastFault.{tells_more}
use Rattle.proto_sets.proofs.Naming.{named_more, named_text, text_at, text_by}
use Rattle.proto_sets.proofs.files.files_at.Goals as goal

pub returns-in_err-file_at-clause-first : goal.returns-in_err-file_at-clause-first
returns-in_err-file_at-clause-first c =
    let texts = map text_by c.args.texts.now in
    let at = c.loop-at.at in
    let text = (get_or c.args.texts.now at _).now in
    let fact = tells_more (IsNameless at text) (IsFirstNameless texts) (λ x wrong. record {
      at = at;
      text = text;
      stands = text_at c.args.texts.now at _ c.loop-at-test.true;
      wrong = wrong;
      before = named_text (files_of c.loop-at.files.items) texts at c.loop-at.invariant.bytes c.loop-at.invariant.named;
    }) c.in_err-file_at.field-0.0 c.in_err-file_at.ensures.first in
    search (rules, fact)

pub loop-at-preserved : goal.loop-at-preserved
loop-at-preserved c = record {
  bytes = rw c.in_ok-push.ensures.items (named_more c.loop-at.files.items _ c.args.texts.now c.loop-at.at _
      c.loop-at-test.true c.loop-at.invariant.bytes c.in_ok-file_at.ensures.bytes);
  named = rw (c.in_ok-push.ensures.items, map_push file_of) (All-push IsNamedFile (files_of c.loop-at.files.items) _
      c.loop-at.invariant.named c.in_ok-file_at.ensures.named);
}
