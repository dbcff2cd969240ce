use Rattle.rs_explain.proofs.kept.kept_nodes.Given as goal

abbrev pub ghosts-kept_nodes_by : goal.ghosts-kept_nodes_by
ghosts-kept_nodes_by a = record { name = a.blank.name; parts = a.blank.parts }
