use Rattle.disk_layer.proofs.reading.read_layer_file.Given as goal

abbrev pub ghosts-read_synced : goal.ghosts-read_synced
ghosts-read_synced g a = record { was = g.D.Disk.state a.disk }
