-- A take by the place of the arm with the parcel's label.
use Rattle.std.proofs.Common.{◌≡◌, ◌<◌, ℕ, List, length, Option, Some, IsSome, IfSome, slice_get, slice_index_or, refl, sym, ap, ◌∙◌, subst}
use Rattle.std.proofs.lemmas.Option.{get_or_from_slice_get, slice_get_within}
use Rattle.rs_model.specs.Data.{Machine_data}
use Rattle.rs_model.specs.declared.graph.Arm.{Arm}
use Rattle.rs_model.specs.declared.graph.Label.{Label}
use Rattle.rs_model.specs.declared.graph.Role.{Role}
use Rattle.rs_model.specs.declared.machines.State.{State}
use Rattle.rs_model.specs.declared.machines.State.TheVariants.{Takes}
use Rattle.rs_core.specs.Choices.{AreWellFormed}
use Rattle.rs_core.specs.Choosable.{label_of}
use Rattle.rs_core.specs.Configurations.{state_of}
use Rattle.rs_core.proofs.Places.{labelled}
use Rattle.rs_core.proofs.Stands.{here_is}
use Rattle.rs_slots.specs.declared.parcels.Parcel.{Parcel}
use Rattle.rs_rings.specs.Acts.{MayTake}
use Rattle.rs_rings.specs.Steps.{HasFittingArm}
use Rattle.rs_rings.specs.Told.{arms_in_state}
use Rattle.rs_rings.proofs.Arms.{arm_at}

-- a fitting arm stands at some place
pub some_place : (arms : List Arm) (x : Parcel) → HasFittingArm arms x → (place : ℕ) × (label_of (slice_get arms place) ≡ Some x.label)
some_place arms x f = let at = arm_at arms x.label f.arm f.chosen in (at.0, ap label_of at.1 ∙ ap (λ (z : Label). Some z) at.2)

-- the arms that are read in a state that takes are its own
pub takes_some : (o : Option State) (p : Role) (arms : List Arm) → o ≡ Some (Takes p arms) → IsSome o
takes_some o p arms e = subst IsSome (sym e) refl

pub arms_read : (o : Option State) (p : Role) (arms read : List Arm) → o ≡ Some (Takes p arms) → IfSome o (λ s. read ≡ arms_in_state s) → o ≡ Some (Takes p read)
arms_read o p arms read e is =
    let same : read ≡ arms = subst (λ (z : Option State). IfSome z (λ s. read ≡ arms_in_state s)) e is in
    e ∙ ap (λ (l : List Arm). Some (Takes p l)) (sym same)

module _ (ms : List Machine_data) (q s : ℕ) (p : Role) (arms : List Arm) (well_formed : AreWellFormed ms) (takes : state_of (slice_get ms q) s ≡ Some (Takes p arms)) where
  -- a state that takes has each label once
  pub takes_once : (i j : ℕ) (a b : Arm) → slice_get arms i ≡ Some a → slice_get arms j ≡ Some b → a.label ≡ b.label → i ≡ j
  takes_once = let at = here_is (slice_get ms q) s (Takes p arms) takes in ((well_formed.fits q at.0 at.1).takes s p arms at.2).once

  module _ (x : Parcel) (fits : HasFittingArm arms x) (place : ℕ) (there : label_of (slice_get arms place) ≡ Some x.label) where
    -- what stands at a place with the label is the fitting arm
    picks : slice_get arms place ≡ Some fits.arm
    picks =
        let at = arm_at arms x.label fits.arm fits.chosen in
        let one = labelled (slice_get arms place) x.label there in
        ap (slice_get arms) (takes_once place at.0 one.0 fits.arm one.1 at.1 (one.2 ∙ sym at.2)) ∙ at.1

    pub in_range : place < length arms
    in_range = slice_get_within arms place fits.arm picks

    pub may_take_by : (other : Arm) → MayTake ms q p.0 s x (slice_index_or arms place other).next
    may_take_by other = record {
      arms = arms;
      place = place;
      arm = fits.arm;
      takes = takes;
      picks = picks;
      same_label = (arm_at arms x.label fits.arm fits.chosen).2;
      has_sort = fits.has;
      goes = ap (λ (z : Arm). z.next) (get_or_from_slice_get arms place fits.arm other picks);
    }
