use Rattle.proto_tokens.proofs.Common.{common_steps, ℕ, ap, arith, IsUtf8-string_bytes}
use Rattle.std.specs.Global.{Vec}
use Rattle.proto_tokens.proofs.Strings.{after_quote_boundary, plain_string, found_string, not_text}
use Rattle.proto_tokens.proofs.quoted.string.Goals as goal

pub range-requires-clause-start_boundary : goal.range-requires-clause-start_boundary
range-requires-clause-start_boundary c = grind (arith, common_steps, after_quote_boundary)

pub returns-then-after-len : goal.returns-then-after-len
returns-then-after-len c =
    plain_string _ _ _ _ c.requires.within c.as_bytes-bytes.ensures.value c.bytes_behind-after.ensures.rest _ _
    c.requires.quote c.plain_len-len.ensures.run (c.if-len-after.true, c.if-after-len.true) c.range.ensures.value
    c.range.utf8

pub returns-in-Ok : goal.returns-in-Ok
returns-in-Ok c =
    found_string _ _ _ _ c.requires.within c.as_bytes-bytes.ensures.value c.bytes_behind-after.ensures.rest _ _ _
    c.in_ok-value.ensures (ap (λ (v : Vec ℕ). v.items) c.in-Ok.ensures.ok) (IsUtf8-string_bytes c.in-Ok.value)

pub returns : goal.returns
returns c = not_text _ _ _ _ c.requires.within c.as_bytes-bytes.ensures.value c.bytes_behind-after.ensures.rest _ _ _
    c.in_ok-value.ensures c.in-Err.ensures.succeeds c.fault_at.ensures
