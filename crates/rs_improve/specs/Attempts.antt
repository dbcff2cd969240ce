-- Steps: a machine that was swapped some times, and one more swap of it.
use Rattle.std.specs.Prelude.{◌≡◌, ℕ, ◌<◌, ◌≤◌, length, Some}
use Rattle.rs_model.specs.Data.{Machine_data}
use Rattle.rs_model.specs.declared.limits.TheConstants.{MOST_CANDIDATES, MOST_STATES}
use Rattle.rs_derive.specs.Data.{Derivation_data}
use Rattle.rs_derive.specs.Derivations.{IsProper}
use Rattle.rs_search.specs.Candidates.{AreMoreThan}
use Rattle.rs_search.specs.Canonical.{IsCanonical, SearchRefuses}
use Rattle.rs_search.specs.declared.faults.SearchFault.{SearchFault}
use Rattle.rs_improve.specs.Improved.{CeasesAt, reason_of}
use Rattle.rs_improve.specs.Swaps.{SwapsTo, SwapsToIn}
use Rattle.rs_improve.specs.declared.improving.Attempt.{Attempt}
use Rattle.rs_improve.specs.declared.improving.Attempt.TheVariants.{Ceases, Succeeds}
use Rattle.rs_improve.specs.declared.improving.Ceased.{Ceased}

-- the search refuses the machine, and this is the reason that it gives
pub record IsRefusedFor (next above : Machine_data) (bound : ℕ) (reason : Ceased) : Type 0 where
  pub why : SearchFault
  pub refuses : SearchRefuses next above bound why
  pub gives : reason_of why ≡ Some reason

-- the result of the search for a derivation of the next machine
abbrev pub IsSearched : Machine_data → Machine_data → ℕ → Attempt → Type 0
IsSearched next above bound (Ceases reason) = IsRefusedFor next above bound reason
IsSearched next above bound (Succeeds machine derivation) = (machine ≡ next) × IsCanonical next above bound derivation

-- fewer swaps than asked lead to the machine, and one more leads to the next one, which has that derivation
pub record SwapsOnceMore (above : Machine_data) (bound asked m : ℕ) (machine next : Machine_data) (derivation : Derivation_data) : Type 0 where
  pub fewer : m < asked
  pub swaps : SwapsTo machine next
  pub few_states : length next.states ≤ MOST_STATES
  pub derives : IsCanonical next above bound derivation
  pub proper : IsProper next

-- the result of one more swap
abbrev pub IsAttempt : Machine_data → ℕ → ℕ → ℕ → Machine_data → Attempt → Type 0
IsAttempt above bound asked m machine (Ceases reason) = CeasesAt above bound asked m machine reason
IsAttempt above bound asked m machine (Succeeds next derivation) = SwapsOnceMore above bound asked m machine next derivation

-- of `above` and itself there aren't too many candidates; n swaps lead to the machine, which has that derivation, and there was no reason to cease before
pub record IsSwappedSoFar (above : Machine_data) (bound asked m : ℕ) (machine : Machine_data) (derivation : Derivation_data) : Type 0 where
  pub bounded : AreMoreThan above above bound MOST_CANDIDATES → ⊥
  pub swapped : SwapsToIn m above machine
  pub derives : IsCanonical machine above bound derivation
  pub proper : IsProper machine
  pub most : m ≤ asked
  pub least : (k : ℕ) (before : Machine_data) (reason : Ceased) → k < m → SwapsToIn k above before → CeasesAt above bound asked k before reason → ⊥
