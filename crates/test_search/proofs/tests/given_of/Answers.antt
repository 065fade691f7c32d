use Rattle.std.proofs.Common.{List, rules, subst}
use Rattle.std.proofs.lemmas.List.Sorted.{answers_always}
use Rattle.source_folder.specs.Folder.{names_of}
use Rattle.proto_base.specs.NameOrder.{NamesRise}
use Rattle.source_folder.specs.declared.folder.NamedText.{NamedText}
use Rattle.test_search.proofs.Rising.{is_before, rises}
use Rattle.test_search.proofs.tests.given_of.Goals as goal

pub returns-then-is_sorted_by : goal.returns-then-is_sorted_by
returns-then-is_sorted_by c =
    subst (λ (texts : List NamedText). NamesRise (names_of texts)) c.deref.ensures.value
    (rises c.deref.result.now (c.if-is_sorted_by.ensures.cases is_before
    (answers_always _ _ _ (λ f a r g called. search rules))))
