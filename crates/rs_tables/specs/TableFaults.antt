-- Public: the faults that the machine of a table may have.
use Rattle.rs_model.specs.declared.checks.MachineFault.{MachineFault}
use Rattle.rs_model.specs.declared.checks.MachineFault.TheVariants.{BadNext, NoArms, TwiceLabel, SelfPeer, UnknownPeer}

-- a label that stands twice at a state, a state whose peer is its own role, and an arm that leads to no state
abbrev pub IsFaultOfTable : MachineFault → Type 0
IsFaultOfTable (TwiceLabel s label) = Unit {0}
IsFaultOfTable (SelfPeer s) = Unit {0}
IsFaultOfTable (BadNext s) = Unit {0}
IsFaultOfTable (NoArms s) = ⊥
IsFaultOfTable (UnknownPeer s) = ⊥
