-- Public: what is told of a machine of which no derivation is found.
use Rattle.std.specs.Prelude.{◌≡◌, ◌≢◌, ◌<◌, ◌≤◌, ℕ, List, [], ◌∷◌, ◌++◌, codes, Bool, true, false, not, ◌&&◌, ◌||◌, slice_get, Option, Some, None}
use Rattle.std.specs.Fmt.{decimal}
use Rattle.rs_derive.specs.Data.{Derivation_data}
use Rattle.rs_derive.specs.Moves.{Spot}
use Rattle.rs_explain.specs.Explanations.{Explanation_data, IsExplanation}
use Rattle.rs_explain.specs.Forcing.{is_forced}
use Rattle.rs_explain.specs.Forgetting.{Forgetting_data, IsForgetting}
use Rattle.rs_explain.specs.Growth.{grows_for_ever}
use Rattle.rs_explain.specs.Walks.{IsFirstCutWalk, WalkStep_data, end_of}
use Rattle.rs_explain.specs.declared.explaining.Ending.{Ending}
use Rattle.rs_explain.specs.declared.explaining.Ending.TheVariants.{Blocked, Cut}
use Rattle.rs_model.specs.Data.{Names_data}
use Rattle.rs_model.specs.declared.machines.Act.{Act}
use Rattle.rs_model.specs.declared.machines.Act.TheVariants as act
use Rattle.rs_model.specs.declared.limits.TheConstants.{MOST_BOUND, MOST_CANDIDATES}
use Rattle.rs_search.specs.Candidates.{AreMoreThan, start_spot}
use Rattle.rs_safety.specs.Room.{longest}
use Rattle.rs_search.specs.Canonical.{IsCanonical, IsForgets, SearchRefuses}
use Rattle.rs_search.specs.declared.faults.SearchFault.{SearchFault}
use Rattle.rs_search.specs.declared.faults.SearchFault.TheVariants as search
use Rattle.rs_text.specs.NamePlaces.{name_at}
use Rattle.rs_walk_texts.specs.Data.{WalkSource_data}
use Rattle.rs_walk_texts.specs.Dues.{act_dues}
use Rattle.rs_walk_texts.specs.Heads.{act_text, owed_line}
use Rattle.rs_walk_texts.specs.Hints.{hints_text}
use Rattle.rs_walk_texts.specs.Stops.{stop_text}
use Rattle.rs_walk_texts.specs.Rounds.{walk_text}
use Rattle.rs_walk_texts.specs.Walks.{steps_text}

-- why a walk from the spot ends, and what may help to find the mistake
abbrev pub end_text : WalkSource_data → Spot → List WalkStep_data → Ending → ℕ → List ℕ
end_text source first steps ending bound = stop_text source (end_of first steps) ending bound ++ hints_text source first steps (end_of first steps) ending

-- the steps of a walk from the start, and why it ends
abbrev pub way_text : WalkSource_data → ℕ → List WalkStep_data → Ending → List ℕ
way_text source bound steps ending = walk_text source steps ++ end_text source (start_spot source.machine source.projection.machine) steps ending bound

-- an obstacle stands at the end
abbrev pub is_blocked : Ending → Bool
is_blocked (Blocked o) = true
is_blocked Cut = false

-- a way on which nothing is chosen doesn't lead on: an obstacle stands at its end, or it ends with a round by which ever more is owed
abbrev pub leads_nowhere : WalkSource_data → Explanation_data → Bool
leads_nowhere source e = is_blocked e.ending || grows_for_ever source.machine (start_spot source.machine source.projection.machine) e.steps

-- no greater bound helps: no candidate meets a cut, or the way doesn't lead on, and no other move leaves it
abbrev pub is_hopeless : WalkSource_data → Bool → Explanation_data → Bool
is_hopeless source cut e = not cut || (leads_nowhere source e && is_forced source.machine source.projection.machine (start_spot source.machine source.projection.machine) e.steps)

-- the last line, where no greater bound helps
abbrev pub hopeless_line : List ℕ
hopeless_line = codes "no bound helps\n"

-- what comes of that bound, a line
abbrev pub with_bound_line : ℕ → List ℕ → List ℕ
with_bound_line bound what = codes "with --bound " ++ decimal bound ++ codes " " ++ what ++ codes "\n"

-- the last line, where the search within the greatest bound finds this derivation: the most acts that one of its nodes owes
-- are the least bound with which the role's machine is accepted
abbrev pub helped_line : WalkSource_data → Derivation_data → List ℕ
helped_line source d = with_bound_line (longest d) (name_at source.names.roles source.machine.role.0 ++ codes " is accepted")

-- the last line, where the search within the greatest bound finds none either and forgets nothing
abbrev pub refusing_line : WalkSource_data → SearchFault → List ℕ
refusing_line source (search.NotFound false) = hopeless_line
refusing_line source (search.NotFound true) = with_bound_line MOST_BOUND (name_at source.names.roles source.machine.role.0 ++ codes " isn't accepted either")
refusing_line source (search.Forgets node) = []
refusing_line source search.TooLarge = with_bound_line MOST_BOUND (codes "there are too many candidates")
refusing_line source search.NoMemory = []

-- the fault says that the derivation forgets an act
abbrev pub is_forgetting : SearchFault → Bool
is_forgetting (search.Forgets node) = true
is_forgetting _ = false

-- what isn't done with the message of an act
abbrev pub undone : Act → List ℕ
undone (act.Puts peer label sort) = codes " isn't sent while it goes round"
undone (act.Takes peer label sort) = codes " isn't received while it goes round"

-- the act, and that it isn't done, where there is one
abbrev pub never_text : Names_data → Option Act → List ℕ
never_text names None = []
never_text names (Some a) = act_text names a ++ undone a

-- `why: Q?x(sort) isn't received while it goes round`, a line: of the oldest act that is owed
abbrev pub never_line : Names_data → List Act → List ℕ
never_line names pending = codes "why: " ++ never_text names (slice_get pending 0) ++ codes "\n"

-- a way round from a spot, what is owed there, what isn't done on it, and the talks that may stand behind that
abbrev pub round_text : WalkSource_data → Forgetting_data → List ℕ
round_text source f =
    name_at source.names.roles source.machine.role.0 ++ codes ", round and round:\n" ++ steps_text source f.spot f.steps ++ owed_line source.names f.spot.pending
    ++ never_line source.names f.spot.pending ++ act_dues source (slice_get f.spot.pending 0)

-- the search finds none within the bound
pub data TellsNotFound (source : WalkSource_data) (bound : ℕ) (cut : Bool) (lines : List ℕ) : Type 0 where
  -- no greater bound helps: a way leads to where the machine can't go on
  NoneHelps : (e : Explanation_data) → IsExplanation source.machine source.projection.machine bound e → is_hopeless source cut e ≡ true
      → lines ≡ way_text source bound e.steps e.ending ++ hopeless_line → TellsNotFound source bound cut lines
  -- it finds none within the greatest bound either: a way leads to where the machine can't go on
  GreatestRefuses : (e : Explanation_data) → IsExplanation source.machine source.projection.machine bound e → is_hopeless source cut e ≡ false
      → (fault : SearchFault) → fault ≢ search.NoMemory → is_forgetting fault ≡ false → SearchRefuses source.machine source.projection.machine MOST_BOUND fault
      → lines ≡ way_text source bound e.steps e.ending ++ refusing_line source fault → TellsNotFound source bound cut lines
  -- what it finds within the greatest bound forgets an act, as then each derivation does: no bound helps, and a way leads round
  GreatestForgets : (e : Explanation_data) → IsExplanation source.machine source.projection.machine bound e → is_hopeless source cut e ≡ false
      → (node : ℕ) → IsForgets source.machine source.projection.machine MOST_BOUND node
      → (f : Forgetting_data) → IsForgetting source.machine source.projection.machine MOST_BOUND node f
      → lines ≡ round_text source f ++ hopeless_line → TellsNotFound source bound cut lines
  -- it finds one within the greatest bound: a way leads to where that is needed, through spots that the greatest bound helps
  GreatestHelps : (e : Explanation_data) → IsExplanation source.machine source.projection.machine bound e → is_hopeless source cut e ≡ false
      → (d : Derivation_data) → IsCanonical source.machine source.projection.machine MOST_BOUND d
      → (steps : List WalkStep_data) → IsFirstCutWalk source.machine source.projection.machine bound MOST_BOUND (start_spot source.machine source.projection.machine) steps
      → lines ≡ way_text source bound steps Cut ++ helped_line source d → TellsNotFound source bound cut lines

-- the derivation that the search finds forgets an act: a way leads round on which it stays owed
pub record TellsForgets (source : WalkSource_data) (bound node : ℕ) (lines : List ℕ) : Type 0 where
  pub forgetting : Forgetting_data
  pub is_forgetting : IsForgetting source.machine source.projection.machine bound node forgetting
  pub text : lines ≡ round_text source forgetting ++ hopeless_line

-- the lesser bounds within which is searched where there are too many candidates, the greatest first
abbrev pub lesser_bounds : List ℕ
lesser_bounds = 8 ∷ 4 ∷ 2 ∷ 1 ∷ []

-- `with --bound 8 P isn't accepted either`, a line
abbrev pub refused_line : WalkSource_data → ℕ → List ℕ
refused_line source bound = with_bound_line bound (name_at source.names.roles source.machine.role.0 ++ codes " isn't accepted either")

-- `with --bound 8 P is accepted`, a line
abbrev pub accepted_line : WalkSource_data → ℕ → List ℕ
accepted_line source bound = with_bound_line bound (name_at source.names.roles source.machine.role.0 ++ codes " is accepted")

-- what is told of the reason why a search finds none; nothing of too many candidates
abbrev pub TellsReason : WalkSource_data → ℕ → SearchFault → Option (List ℕ) → Type 0
TellsReason source bound (search.NotFound cut) (Some lines) = TellsNotFound source bound cut lines
TellsReason source bound (search.Forgets node) (Some lines) = TellsForgets source bound node lines
TellsReason source bound search.TooLarge None = Unit {0}
TellsReason source bound _ _ = ⊥

-- what is told of a search within the bound that there is, where it is accepted or not
pub data TellsSearch (source : WalkSource_data) (bound : ℕ) (lines : List ℕ) : Type 0 where
  -- it finds a derivation
  Accepts : (d : Derivation_data) → IsCanonical source.machine source.projection.machine bound d → lines ≡ accepted_line source bound → TellsSearch source bound lines
  -- it finds none, and the reason is told
  Refuses : (fault : SearchFault) → SearchRefuses source.machine source.projection.machine bound fault → (reason : List ℕ)
      → TellsReason source bound fault (Some reason) → lines ≡ refused_line source bound ++ reason → TellsSearch source bound lines

-- the same, and nothing where there are too many candidates
abbrev pub TellsWithin : WalkSource_data → ℕ → Option (List ℕ) → Type 0
TellsWithin source bound None = AreMoreThan source.machine source.projection.machine bound MOST_CANDIDATES
TellsWithin source bound (Some lines) = TellsSearch source bound lines

-- a lesser bound, and what is told of the later ones
pub data TellsLesser (source : WalkSource_data) (bound lesser : ℕ) (Later : List ℕ → Type 0) (lines : List ℕ) : Type 0 where
  -- it isn't less
  IsNoLess : bound ≤ lesser → Later lines → TellsLesser source bound lesser Later lines
  -- there are too many candidates within it, too
  IsTooLarge : lesser < bound → TellsWithin source lesser None → Later lines → TellsLesser source bound lesser Later lines
  -- a search within it is told
  Finds : lesser < bound → TellsWithin source lesser (Some lines) → TellsLesser source bound lesser Later lines

-- what is told of the first of these bounds that is less and within which there aren't too many candidates
abbrev pub TellsTooLarge : WalkSource_data → ℕ → List ℕ → List ℕ → Type 0
TellsTooLarge source bound [] lines = lines ≡ []
TellsTooLarge source bound (b ∷ later) lines = TellsLesser source bound b (TellsTooLarge source bound later) lines

-- what is told, by the reason; of too many candidates, what a search within a lesser bound finds
abbrev pub TellsUnderivable : WalkSource_data → ℕ → SearchFault → List ℕ → Type 0
TellsUnderivable source bound (search.NotFound cut) lines = TellsNotFound source bound cut lines
TellsUnderivable source bound (search.Forgets node) lines = TellsForgets source bound node lines
TellsUnderivable source bound search.TooLarge lines = TellsTooLarge source bound lesser_bounds lines
TellsUnderivable source bound search.NoMemory lines = lines ≡ []
