use Rattle.proto_tokens.proofs.Common.{common_steps, inl, inr, arith}
use Rattle.proto_tokens.proofs.Strings.{read_escape, read_plain, read_run, no_escape_here, unclosed_here}
use Rattle.proto_tokens.proofs.quoted.string_value.Goals as goal

pub loop-end-init : goal.loop-end-init
loop-end-init c = grind (arith, common_steps, read_plain)

pub loop-end-preserved-in-Some : goal.loop-end-preserved-in-Some
loop-end-preserved-in-Some c = grind (arith, common_steps, read_escape)

pub loop-end-preserved : goal.loop-end-preserved
loop-end-preserved c = grind (arith, common_steps, read_run)

pub returns-in-None : goal.returns-in-None
returns-in-None c = no_escape_here _ _ _ _ _ _ _ c.requires.quote c.loop-end.invariant c.loop-end-test.true
    c.if-byte-eq92.true c.bytes_behind.ensures.rest c.in-None.ensures c.fault_at.ensures

pub returns-then-byte-eq10 : goal.returns-then-byte-eq10
returns-then-byte-eq10 c = unclosed_here _ _ _ _ _ _ c.requires.quote c.loop-end.invariant
    (inr (c.loop-end-test.true, c.if-byte-eq10.true)) c.fault_at-then-byte-eq10.ensures

pub returns : goal.returns
returns c = unclosed_here _ _ _ _ _ _ c.requires.quote c.loop-end.invariant (inl c.loop-end-test.false)
    c.fault_at-2.ensures
