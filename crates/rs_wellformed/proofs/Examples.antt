-- What the small protocols come to.
use Rattle.std.proofs.Common.{◌≡◌, None, refl}
use Rattle.rs_wellformed.proofs.Faults.{no_fault}
use Rattle.rs_wellformed.specs.Examples.{one_talk}
use Rattle.rs_wellformed.specs.Faults.{first_fault}
use Rattle.rs_wellformed.specs.WellFormed.{IsWellFormed}

no_first : first_fault (one_talk 1) ≡ None
unfolding first_fault
no_first = refl

pub one_talk_fits : IsWellFormed (one_talk 1)
one_talk_fits = no_fault (one_talk 1) no_first

pub self_talk_fails : IsWellFormed (one_talk 0) → ⊥
self_talk_fails w = (w.talks 0 _ _ _ refl).others refl
