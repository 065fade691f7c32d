use Rattle.wire_format.proofs.ReadingRows.{one_list}
use Rattle.wire_format.proofs.ReadingRows.{written_row}
use Rattle.wire_format.proofs.reading.written_fields_are_read.Goals as goal

pub returns-clause-row : goal.returns-clause-row
returns-clause-row c = written_row

pub returns-clause-only : goal.returns-clause-only
returns-clause-only c fields read ok row = one_list _ read fields row (written_row fields ok)
