use Rattle.rs_search.proofs.searches.search_own.Given as goal

abbrev pub ghosts-search_by : goal.ghosts-search_by
ghosts-search_by a = record { name = a.blank.name; parts = a.blank.parts }
