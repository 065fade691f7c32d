use Rattle.reflect_core.proofs.Common.{◌∙◌, ap, arith, files_of}
use Rattle.reflect_core.specs.declared.asked.Asked as rust
use Rattle.reflect_core.proofs.RepliesMore.{frames_more}
use Rattle.reflect_core.proofs.response.response_to.Goals as goal

pub put_frame-requires-clause-replyable : goal.put_frame-requires-clause-replyable
put_frame-requires-clause-replyable c =
    rw (c.as_slice-files.ensures.value ∙ ap files_of c.index-carried-position.is)
    (c.requires.each c.loop-position.position _ c.index-carried-position.result c.loop-position-test.true)

pub put_frame-requires-clause-len : goal.put_frame-requires-clause-len
put_frame-requires-clause-len c =
    let each = λ (a : rust.Asked). c.in_ok-lengths.ensures.each c.loop-position.position 0 a
    c.index-carried-position.result c.loop-position-test.true in
    grind (arith, each)

pub loop-position-preserved : goal.loop-position-preserved
loop-position-preserved c =
    frames_more c.args.material.compiled.now c.loop-position.position _ _ _ _ _ _ c.index-carried-position.result
    c.loop-position-test.true (omega (arith, c.requires.size))
    (c.as_slice-files.ensures.value ∙ ap files_of c.index-carried-position.is) c.loop-position.invariant
    c.in_ok-put_frame.ensures
