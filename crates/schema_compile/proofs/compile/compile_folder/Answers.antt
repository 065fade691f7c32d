use Rattle.std.proofs.Common.{inr}
use Rattle.std.proofs.lemmas.Result.{IfErr-weaker}
use Rattle.schema_compile.proofs.compile.compile_folder.Goals as goal

pub returns-clause-refused : goal.returns-clause-refused
returns-clause-refused g c =
    IfErr-weaker c.compile_texts.result _ _
    (λ f told. inr (inr (c.deref.result.now, rw c.deref.ensures.value c.in_ok-texts.ensures, told)))
    c.compile_texts.ensures.refused
