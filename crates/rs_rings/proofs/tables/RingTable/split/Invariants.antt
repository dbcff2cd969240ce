use Rattle.rs_rings.proofs.tables.RingTable.split.Given as goal

abbrev pub ghosts-split_as : goal.ghosts-split_as
ghosts-split_as a = record { role = a.role.0 }
