use Rattle.proto_checks.proofs.Common.{gains_last, gains_union}
use Rattle.proto_checks.proofs.numbers.put_range_faults.Goals as goal

pub returns : goal.returns
returns c = gains_last _ _ _ (gains_union c.in_ok-put_reserved_numbers_used.ensures c.in_ok-put_overlaps.ensures)
    c.put_backwards.ensures
