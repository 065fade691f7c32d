use Rattle.source_search.proofs.reading.ImportReadingItemWorkNamedText.item.Goals as goal

pub returns : goal.returns
returns c = record { gives = rw c.deref.ensures.value at c.imports_of.ensures }
