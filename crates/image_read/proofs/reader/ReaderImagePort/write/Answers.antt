use Rattle.image_read.proofs.reader.ReaderImagePort.write.Goals as goal

pub returns-clause-write : goal.returns-clause-write
returns-clause-write g c = rw c.part-extent.ensures.at at c.write.ensures.write
