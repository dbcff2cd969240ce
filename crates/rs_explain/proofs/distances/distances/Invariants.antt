use Rattle.rs_explain.proofs.distances.distances.Given as goal

abbrev pub ghosts-distances_by : goal.ghosts-distances_by
ghosts-distances_by a = record { name = a.blank.name; parts = a.blank.parts }
