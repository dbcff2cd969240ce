-- Public: a machine improved by swaps, and why there are no more of them.
use Rattle.std.specs.Prelude.{◌≡◌, ℕ, ◌<◌, ◌≤◌, length, Option, Some, None}
use Rattle.rs_model.specs.declared.limits.TheConstants.{MOST_CANDIDATES, MOST_STATES}
use Rattle.rs_model.specs.Data.{Machine_data}
use Rattle.rs_search.specs.Candidates.{AreMoreThan}
use Rattle.rs_search.specs.Canonical.{IsCanonical, SearchRefuses}
use Rattle.rs_search.specs.declared.faults.SearchFault.{SearchFault}
use Rattle.rs_search.specs.declared.faults.SearchFault.TheVariants as fault
use Rattle.rs_improve.specs.Data.{Improved_data}
use Rattle.rs_improve.specs.Swaps.{HasNoExchange, SwapsTo, SwapsToIn, SwapsToMoreThan}
use Rattle.rs_improve.specs.declared.improving.Ceased.{Ceased}
use Rattle.rs_improve.specs.declared.improving.ImproveFault.{ImproveFault}
use Rattle.rs_improve.specs.declared.improving.ImproveFault.TheVariants as improve_fault
use Rattle.rs_improve.specs.declared.improving.Ceased.TheVariants.{Asked, NoSwap, TooManyStates, TooLarge, NotFound, Forgets}

-- the reason that a refusal of the search gives; that memory ran out is none
abbrev pub reason_of : SearchFault → Option Ceased
reason_of (fault.NotFound cut) = Some (NotFound cut)
reason_of (fault.Forgets node) = Some (Forgets node)
reason_of fault.TooLarge = Some TooLarge
reason_of fault.NoMemory = None

-- why a machine that was swapped m times isn't swapped again, where n swaps are asked for
pub data CeasesAt (above : Machine_data) (bound asked m : ℕ) (machine : Machine_data) : Ceased → Type 0 where
  -- as many swaps were made as were asked
  IsAsked : m ≡ asked → CeasesAt above bound asked m machine Asked
  -- fewer were made, and no state can be swapped
  HasNoSwap : m < asked → HasNoExchange machine → CeasesAt above bound asked m machine NoSwap
  -- the next one would have more than 1,024 states
  HasTooManyStates : m < asked → SwapsToMoreThan machine MOST_STATES → CeasesAt above bound asked m machine TooManyStates
  -- the search refuses the next one
  IsRefused : (next : Machine_data) (why : SearchFault) (reason : Ceased) → m < asked → SwapsTo machine next → length next.states ≤ MOST_STATES
      → SearchRefuses next above bound why → reason_of why ≡ Some reason → CeasesAt above bound asked m machine reason

-- of `above` and itself there aren't too many candidates; the machine is `above` swapped as often as is said, with its canonical derivation from `above`; it stops there for the reason that is given, and for none before
pub record IsImproved (above : Machine_data) (bound asked : ℕ) (improved : Improved_data) : Type 0 where
  pub bounded : AreMoreThan above above bound MOST_CANDIDATES → ⊥
  pub swapped : SwapsToIn improved.swaps above improved.machine
  pub derivation : IsCanonical improved.machine above bound improved.derivation
  pub ceases : CeasesAt above bound asked improved.swaps improved.machine improved.ceased
  pub least : (m : ℕ) (machine : Machine_data) (reason : Ceased) → m < improved.swaps → SwapsToIn m above machine → CeasesAt above bound asked m machine reason → ⊥

-- what each fault says; that memory ran out says nothing
abbrev pub RefusesToImprove : Machine_data → ℕ → ImproveFault → Type 0
RefusesToImprove above bound improve_fault.TooLarge = AreMoreThan above above bound MOST_CANDIDATES
RefusesToImprove above bound improve_fault.NoMemory = Unit {0}
