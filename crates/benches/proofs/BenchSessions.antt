use Rattle.std.specs.Prelude.{List, [], ◌∷◌}
use Rattle.rs_model.specs.declared.machines.State.TheVariants.{Done}
use Rattle.rs_model.specs.declared.values.Sort.TheVariants as sort
use Rattle.rs_project.specs.Data.{Projection_data}
use Rattle.rs_derive.specs.Data.{Derivation_data}
use Rattle.benches.specs.Sessions.{a, b, c, puts, takes, machine, rounds, swap, node, takes_y, takes_x}

-- its projections, in role order
abbrev pub projections_of_stream : List Projection_data
projections_of_stream =
    record { machine = machine a (puts b 0 sort.Natural 0 ∷ []); sets = (0 ∷ []) ∷ [] }
    ∷ record { machine = machine b (takes a 0 sort.Natural 0 ∷ []); sets = (0 ∷ []) ∷ [] }
    ∷ []

-- its projections, in role order
abbrev pub projections_of_relay : List Projection_data
projections_of_relay =
    record { machine = machine a (takes b 2 sort.Natural 0 ∷ []); sets = (2 ∷ []) ∷ [] }
    ∷ record {
      machine = machine b (puts c 0 sort.Natural 1 ∷ takes c 1 sort.Natural 2 ∷ puts a 2 sort.Natural 0 ∷ []);
      sets = (0 ∷ []) ∷ (1 ∷ []) ∷ (2 ∷ []) ∷ [];
    }
    ∷ record { machine = machine c (takes b 0 sort.Natural 1 ∷ puts b 1 sort.Natural 0 ∷ []); sets = (0 ∷ []) ∷ (1 ∷ []) ∷ [] }
    ∷ []

-- its projections, in role order
abbrev pub projections_of_swap : List Projection_data
projections_of_swap =
    record { machine = machine a (puts b 0 sort.Unit 1 ∷ takes b 1 sort.Unit 2 ∷ Done ∷ []); sets = (0 ∷ []) ∷ (1 ∷ []) ∷ [] ∷ [] }
    ∷ record { machine = machine b (takes a 0 sort.Unit 1 ∷ puts a 1 sort.Unit 2 ∷ Done ∷ []); sets = (0 ∷ []) ∷ (1 ∷ []) ∷ [] ∷ [] }
    ∷ []

-- those of the machines of `rounds`
abbrev pub derivations_of_rounds : List Derivation_data
derivations_of_rounds =
    record { role = a; bound = 16; nodes = node 0 [] 0 0 (1 ∷ []) ∷ node 1 [] 1 0 (2 ∷ []) ∷ node 1 (takes_y sort.Natural) 0 0 (0 ∷ []) ∷ [] }
    ∷ record { role = b; bound = 16; nodes = node 0 [] 0 0 (1 ∷ []) ∷ node 0 (takes_x sort.Natural) 1 1 (2 ∷ []) ∷ node 1 (takes_x sort.Natural) 0 0 (0 ∷ []) ∷ [] }
    ∷ []

-- those of the machines of `swap`
abbrev pub derivations_of_swap : List Derivation_data
derivations_of_swap =
    record {
      role = a;
      bound = 16;
      nodes = node 0 [] 0 0 (1 ∷ []) ∷ node 1 [] 1 0 (2 ∷ []) ∷ node 1 (takes_y sort.Unit) 2 0 (3 ∷ []) ∷ node 2 [] 2 0 [] ∷ [];
    }
    ∷ record {
      role = b;
      bound = 16;
      nodes = node 0 [] 0 0 (1 ∷ []) ∷ node 0 (takes_x sort.Unit) 1 1 (2 ∷ []) ∷ node 1 (takes_x sort.Unit) 2 0 (3 ∷ []) ∷ node 2 [] 2 0 [] ∷ [];
    }
    ∷ []
