-- Steps: where an act is owed in the derivation of a machine from itself.
use Rattle.std.specs.Prelude.{ℕ, List, [], map}
use Rattle.rs_model.specs.declared.graph.Arm.{Arm}
use Rattle.rs_model.specs.declared.machines.State.{State}
use Rattle.rs_model.specs.declared.machines.State.TheVariants.{Done, Puts, Takes}
use Rattle.rs_derive.specs.Moves.{Spot, owing_receive}
use Rattle.rs_search.specs.Itself.{even}

-- the spots at which an act is owed while the machine is at the state: one after each arm by which the projection has received
abbrev pub owing_at : ℕ → State → List Spot
owing_at s Done = []
owing_at s (Puts q arms) = []
owing_at s (Takes q arms) = map (λ (b : Arm). owing_receive (even s) q b) arms
