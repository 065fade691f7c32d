use Rattle.wire_format.proofs.reading.+varint_within.Given as goal

abbrev pub decreases-varint_within : goal.decreases-varint_within
decreases-varint_within l = l.most
