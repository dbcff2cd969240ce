-- Steps: what is behind a stage at run time, and what its steps on rings tell.
use Rattle.std.specs.Prelude.{◌≡◌, ℕ, ◌<◌, ◌≤◌, List, length, Some, slice_get}
use Rattle.rs_model.specs.declared.limits.TheConstants.{MOST_ROLES}
use Rattle.rs_model.specs.Sorts.{HasSort}
use Rattle.rs_model.specs.declared.graph.Arm.{Arm}
use Rattle.rs_model.specs.declared.graph.Role.{Role}
use Rattle.rs_model.specs.declared.values.Value.{Value}
use Rattle.rs_slots.specs.declared.parcels.Parcel.{Parcel}
use Rattle.rs_core.specs.Choices.{AreWellFormed}
use Rattle.rs_model.specs.Data.{Machine_data}
use Rattle.rs_rings.specs.Passes.{Rings_data, Pass_data}
use Rattle.rs_rings.specs.Views.{SpeaksFor, part_of, state_in, history_in, first_part}
use Rattle.rs_rings.specs.declared.answers.Put.{Put}
use Rattle.rs_rings.specs.declared.answers.Put.TheVariants as put
use Rattle.rs_rings.specs.declared.views.View.{View}
use Rattle.rs_session.specs.Acts.{parcel_by, HasSent, FindsFull, HasGot, FindsEmpty}
use Rattle.rs_model.specs.declared.machines.State.TheVariants.{Puts}
use Rattle.rs_session.specs.Data.{Stage_data}
use Rattle.rs_session.specs.Stages.{state_of_stage}
use Rattle.rs_session.specs.declared.standing.ParcelFound.{ParcelFound}
use Rattle.rs_session.specs.declared.standing.ParcelFound.TheVariants.{One, Nothing}

-- the view speaks for the role alone, which stands in that state and has made so many acts
pub record IsOne (view : View) (role : Role) (state acts : ℕ) : Type 0 where
  pub speaks : SpeaksFor view role.0
  pub only : (r : ℕ) → SpeaksFor view r → r ≡ role.0
  pub is_state : state ≡ state_in view role.0
  pub is_acts : acts ≡ length (history_in view role.0)

-- what is seen of the pass of one role
abbrev pub sight_of_pass : Pass_data → Role → Stage_data
sight_of_pass pass role = record { table = pass.table; role = role; part = part_of pass.view role.0 }

-- the state sends to the peer, and has the arm at that place
pub record SendsTo (rings : Rings_data) (stage : Stage_data) (place : ℕ) (peer : Role) (arm : Arm) : Type 0 where
  pub arms : List Arm
  pub stands : state_of_stage rings stage ≡ Some (Puts peer arms)
  pub picks : slice_get arms place ≡ Some arm

-- what a put of x to q tells, behind which the role stands in the state `next`
abbrev pub StagePutTells : Rings_data → ℕ → Parcel → ℕ → Stage_data → Stage_data → Put → Type 0
StagePutTells rings q x next old new put.Done = HasSent rings q x next old new
StagePutTells rings q x next old new (put.Full sent taken back) = FindsFull rings q sent taken old new × (back ≡ x)

-- what a look for a parcel from p tells, at these arms
pub record HasGotBy (rings : Rings_data) (p : ℕ) (arms : List Arm) (place : ℕ) (value : Value) (old new : Stage_data) : Type 0 where
  pub arm : Arm
  pub picks : slice_get arms place ≡ Some arm
  pub has_sort : HasSort value arm.sort
  pub got : HasGot rings p (parcel_by arm value) arm.next old new

-- what a look tells, where a parcel was found or none
abbrev pub FoundTells : Rings_data → ℕ → List Arm → Stage_data → Stage_data → ParcelFound → Type 0
FoundTells rings p arms old new (One place value) = HasGotBy rings p arms place value old new
FoundTells rings p arms old new (Nothing seen) = FindsEmpty rings p seen old new

-- the rings are those of well-formed machines, one for each role
pub record RingsAreWhole (rings : Rings_data) : Type 0 where
  pub roles : rings.roles ≡ length rings.machines
  pub some : 2 ≤ length rings.machines
  pub bounded : length rings.machines ≤ MOST_ROLES
  pub well_formed : AreWellFormed rings.machines

-- the pass speaks for the role alone, which has done nothing
pub record IsFirst (machines : List Machine_data) (r : ℕ) (view : View) : Type 0 where
  pub below : r < length machines
  pub speaks : SpeaksFor view r
  pub only : (y : ℕ) → SpeaksFor view y → y ≡ r
  pub first : part_of view r ≡ first_part machines r
