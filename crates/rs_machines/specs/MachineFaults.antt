-- Public: the faults that the machine of a text may have.
use Rattle.rs_model.specs.declared.checks.MachineFault.{MachineFault}
use Rattle.rs_model.specs.declared.checks.MachineFault.TheVariants.{BadNext, NoArms, TwiceLabel, SelfPeer, UnknownPeer}

-- a label that stands twice at a state, and a state whose peer is its own role
abbrev pub IsFaultOfText : MachineFault → Type 0
IsFaultOfText (TwiceLabel s label) = Unit {0}
IsFaultOfText (SelfPeer s) = Unit {0}
IsFaultOfText (BadNext s) = ⊥
IsFaultOfText (NoArms s) = ⊥
IsFaultOfText (UnknownPeer s) = ⊥
