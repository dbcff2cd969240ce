-- Public: the faults that the protocol of a text may have.
use Rattle.rs_wellformed.specs.declared.checks.WfFault.{WfFault}
use Rattle.rs_wellformed.specs.declared.checks.WfFault.TheVariants as wf

-- a talk to itself, too many arms, and a label that stands twice at a talk
abbrev pub IsFaultOfSpeltProtocol : WfFault → Type 0
IsFaultOfSpeltProtocol (wf.SelfTalk n) = Unit {0}
IsFaultOfSpeltProtocol (wf.TooManyArms n) = Unit {0}
IsFaultOfSpeltProtocol (wf.TwiceLabel n label) = Unit {0}
IsFaultOfSpeltProtocol (wf.NoArms n) = ⊥
IsFaultOfSpeltProtocol (wf.BadNext n) = ⊥
