-- A machine that a table can say has arms everywhere, and knows its peers.
use Rattle.std.proofs.Common.{◌≡◌, ℕ, zero, suc, List, [], ◌∷◌, length, Some, slice_get, inl, inr, subst, arith}
use Rattle.std.proofs.lemmas.List.Elements.{All-head, All-tail}
use Rattle.std.proofs.lemmas.Option.{none-some}
use Rattle.std.specs.List.{All}
use Rattle.rs_model.proofs.Faults.{blamed}
use Rattle.rs_model.specs.Data.{Machine_data, Names_data}
use Rattle.rs_model.specs.Faults.{Chooses, first_fault}
use Rattle.rs_model.specs.declared.checks.MachineFault.{MachineFault}
use Rattle.rs_model.specs.declared.checks.MachineFault.TheVariants.{BadNext, NoArms, TwiceLabel, SelfPeer, UnknownPeer}
use Rattle.rs_model.specs.declared.graph.Arm.{Arm}
use Rattle.rs_model.specs.declared.graph.Role.{Role}
use Rattle.rs_model.specs.declared.machines.State.{State}
use Rattle.rs_model.specs.declared.machines.State.TheVariants.{Puts, Takes}
use Rattle.rs_tables.specs.Printable.{IsChoiceTabled, IsStateTabled, IsTabled}
use Rattle.rs_tables.specs.Spells.{SpellsTable}
use Rattle.rs_tables.specs.TableFaults.{IsFaultOfTable}
use Rattle.rs_tables.proofs.Spelt.{spelt_tabled}

state_tabled : (names : Names_data) (states : List State) (s : ℕ) (state : State) → All (IsStateTabled names) states → slice_get states s ≡ Some state → IsStateTabled names state
state_tabled names [] s state all e = absurd (none-some state e)
state_tabled names (x ∷ states) zero state all e = let same : x ≡ state = cc e in subst (IsStateTabled names) same (All-head (IsStateTabled names) x states all)
state_tabled names (x ∷ states) (suc s) state all e = state_tabled names states s state (All-tail (IsStateTabled names) x states all) e

choice_tabled : (names : Names_data) (m : Machine_data) (s : ℕ) (peer : Role) (arms : List Arm) → IsTabled names m → Chooses m s peer arms → IsChoiceTabled names peer arms
choice_tabled names m s peer arms t (inl e) = state_tabled names m.states s (Puts peer arms) t.states e
choice_tabled names m s peer arms t (inr e) = state_tabled names m.states s (Takes peer arms) t.states e

fault_tabled : (names : Names_data) (m : Machine_data) (f : MachineFault) → IsTabled names m → first_fault m (length names.roles) ≡ Some f → IsFaultOfTable f
fault_tabled names m (TwiceLabel s label) t e = tt
fault_tabled names m (SelfPeer s) t e = tt
fault_tabled names m (BadNext s) t e = tt
fault_tabled names m (NoArms s) t e =
    let b = blamed m (length names.roles) (NoArms s) e in
    let some = (choice_tabled names m s b.0 [] t b.1).some in
    absurd (omega (arith, some))
fault_tabled names m (UnknownPeer s) t e =
    let b = blamed m (length names.roles) (UnknownPeer s) e in
    let known = (choice_tabled names m s b.0 b.1 t b.2).has_name in
    let unknown = b.3 in
    absurd (omega (arith, known, unknown))

pub spelt_fault : (bytes : List ℕ) (at : ℕ) (old new : Names_data) (m : Machine_data) (until : ℕ) (f : MachineFault) → SpellsTable bytes at old new m until
    → first_fault m (length new.roles) ≡ Some f → IsFaultOfTable f
spelt_fault bytes at old new m until f s e = fault_tabled new m f (spelt_tabled old new bytes at until m s) e
