use Rattle.std.proofs.Common.{arith}
use Rattle.reflect_requests.proofs.FrameRows.{frame_is}
use Rattle.reflect_requests.proofs.frames.frame_at.Goals as goal

pub returns : goal.returns
returns c =
    let first = c.in-Some.ensures.cases in let chunk = c.in-Some-split_first_chunk.ensures.cases in
    let len = c.split_at.ensures.front_len in
    record {
      row = frame_is c.args.rest.now c.in-Some.more.now c.in-Some-split_first_chunk.size.now
          c.in-Some-split_first_chunk.after.now c.split_at.result.0.now
          c.split_at.result.1.now c.in-Some.flag.now c.from_be_bytes-size.result
          first.0 (omega arith) chunk.0 chunk.1 (omega arith)
          (λ i. let h = c.type_inv.rest i in omega arith) c.from_be_bytes-size.ensures
          c.split_at.ensures.front c.split_at.ensures.back len;
      short = omega arith;
      room = omega arith;
    }
