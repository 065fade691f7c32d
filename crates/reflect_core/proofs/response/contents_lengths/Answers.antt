use Rattle.reflect_core.proofs.Common.{◌∙◌, ap, files_of}
use Rattle.reflect_core.proofs.RepliesMore.{contents_at}
use Rattle.reflect_core.proofs.response.contents_lengths.Goals as goal

pub contents_len-requires : goal.contents_len-requires
contents_len-requires c =
    contents_at _ _ _ _ c.loop-position.position _ c.index-carried-position.result _ c.requires
    c.loop-position-test.true (c.as_slice-files.ensures.value ∙ ap files_of c.index-carried-position.is)
