-- A machine that a text spells has names for its roles and labels.
use Rattle.std.proofs.Common.{◌≡◌, ℕ, ◌<◌, List, length, Some, slice_get, get_or}
use Rattle.std.proofs.lemmas.Option.{slice_get-get_or}
use Rattle.std.specs.List.{All}
use Rattle.rs_model.specs.Data.{Machine_data, Names_data}
use Rattle.rs_model.specs.declared.graph.Arm.{Arm}
use Rattle.rs_model.specs.declared.machines.State.{State}
use Rattle.rs_model.specs.declared.machines.State.TheVariants.{Done, Puts, Takes}
use Rattle.rs_bodies.specs.declared.dialects.Mark.TheVariants as mark
use Rattle.rs_machines.specs.Enough.{AreEnoughFor}
use Rattle.rs_machines.specs.Named.{ArmHasName, StateHasNames, HasNames}
use Rattle.rs_machines.specs.Spells.{SpellsMachine}
use Rattle.rs_machines.proofs.Canonical.{spelt_enough}

arms_named : (names : Names_data) (arms : List Arm) → ((place : ℕ) (arm : Arm) → slice_get arms place ≡ Some arm → arm.label.0 < length names.labels) → All (ArmHasName names) arms
arms_named names arms f = λ k d lt. f k (get_or arms k d) (slice_get-get_or arms k d lt)

state_named : (names : Names_data) (machine : Machine_data) (n : ℕ) (s : State) → AreEnoughFor names machine → slice_get machine.states n ≡ Some s → StateHasNames names s
state_named names machine n Done enough e = tt
state_named names machine n (Puts peer arms) enough e = (enough.peers n mark.Puts peer arms e, arms_named names arms (λ place arm stands. enough.labels n place mark.Puts peer arms arm e stands))
state_named names machine n (Takes peer arms) enough e = (enough.peers n mark.Takes peer arms e, arms_named names arms (λ place arm stands. enough.labels n place mark.Takes peer arms arm e stands))

pub has_names : (bytes : List ℕ) (at : ℕ) (old new : Names_data) (machine : Machine_data) (until : ℕ) → SpellsMachine bytes at old new machine until → HasNames new machine
has_names bytes at old new machine until s =
    let enough : AreEnoughFor new machine = spelt_enough bytes at old new machine until s in
    record { role = enough.role; states = λ k d lt. state_named new machine k (get_or machine.states k d) enough (slice_get-get_or machine.states k d lt) }
