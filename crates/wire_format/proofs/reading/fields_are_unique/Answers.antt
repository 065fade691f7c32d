use Rattle.wire_format.proofs.ReadingRows.{one_list, spelled_once}
use Rattle.wire_format.proofs.reading.fields_are_unique.Goals as goal

pub returns-clause-list : goal.returns-clause-list
returns-clause-list c = one_list

pub returns-clause-field : goal.returns-clause-field
returns-clause-field c = spelled_once
