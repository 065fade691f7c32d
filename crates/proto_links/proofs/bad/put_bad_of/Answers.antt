use Rattle.proto_base.proofs.Gains.{gains_all}
use Rattle.proto_links.proofs.Common.{◌∙◌, sym, joined_two}
use Rattle.std.proofs.lemmas.Result.{on_ok_weaker}
use Rattle.proto_links.proofs.AllBad.{bad_more}
use Rattle.proto_links.proofs.Faulting.{imports_is}
use Rattle.proto_links.proofs.bad.put_bad_of.Goals as goal

pub returns : goal.returns
returns c =
    let imports = c.as_slice.ensures
    ∙ sym (imports_is c.args.files.now c.args.file c.index-files-file.result c.requires.file) in
    let wrong = gains_all (rw (imports, c.new-spots.ensures.items) at c.in_ok-put_wrong.ensures) in
    on_ok_weaker c.put_spots.result (λ is. bad_more c.requires.before _ (rw c.deref.ensures.value at is)
    (λ x. joined_two (c.sort_spots.ensures.same x) (wrong x)) c.sort_spots.ensures.order) c.put_spots.ensures
