-- Headline: the machine that a tree spells.
use Rattle.std.specs.Prelude.{ℕ, List, [], ◌∷◌, ◌++◌, Bool, true, false}
use Rattle.rs_model.specs.Data.{Machine_data, Names_data}
use Rattle.rs_model.specs.declared.graph.Arm.{Arm}
use Rattle.rs_model.specs.declared.graph.Role.{Role}
use Rattle.rs_model.specs.declared.machines.State.{State}
use Rattle.rs_model.specs.declared.machines.State.TheVariants as state
use Rattle.rs_bodies.specs.declared.dialects.Dialect.TheVariants.{Acts}
pub use Rattle.rs_bodies.specs.Dialects.{state_by_mark}
use Rattle.rs_bodies.specs.Dialects.{BehindRole, with_mark}
use Rattle.rs_bodies.specs.Graph.{acts_in, has_end, first_of, heads_of, Numbering, role_by_name}
use Rattle.rs_bodies.specs.Openings.{Opening, of_role}
use Rattle.rs_bodies.specs.Spells.{Tree, numbering}

-- the role that a machine belongs to
abbrev pub owner_of : Numbering → Opening Acts → Role
owner_of n (of_role r) = role_by_name n r

-- the act with the peer p by these arms
abbrev pub act_of_turn : Numbering → List ℕ → BehindRole Acts → List Arm → State
act_of_turn n p (with_mark m) arms = state_by_mark m (role_by_name n p) arms

-- one Done stands behind the last act exactly where the text has an end
abbrev pub end_states : Bool → List State
end_states true = state.Done ∷ []
end_states false = []

-- the machine that a tree spells, where these names were there: its acts in order of text, and the end
abbrev pub machine_of_tree : Names_data → Tree Acts → Machine_data
machine_of_tree old t = record {
  role = owner_of (numbering Acts old t) t.opening;
  states = heads_of Acts (act_of_turn (numbering Acts old t)) (numbering Acts old t) t.body [] 0 ++ end_states (has_end Acts t.body);
  start = first_of Acts t.body [] 0 (acts_in Acts t.body);
}
