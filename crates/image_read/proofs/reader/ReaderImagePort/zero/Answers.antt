use Rattle.image_read.proofs.reader.ReaderImagePort.zero.Goals as goal

pub returns-clause-zero : goal.returns-clause-zero
returns-clause-zero g c = rw (c.part-extent.ensures.at, c.part-extent.ensures.count) at c.zero.ensures.zero
