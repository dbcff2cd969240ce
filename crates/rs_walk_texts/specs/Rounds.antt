-- Public: how a walk that ends with rounds that are alike is written: the first of them, and what the others add.
use Rattle.std.specs.Prelude.{ℕ, ◌-◌, List, [], ◌++◌, codes, length, take, drop, slice_get, ◌==◌, if◌then◌else◌, Option, Some, None}
use Rattle.std.specs.Fmt.{decimal}
use Rattle.rs_derive.specs.Moves.{Spot}
use Rattle.rs_explain.specs.Growth.{rounds_of}
use Rattle.rs_explain.specs.Walks.{WalkStep_data}
use Rattle.rs_explain.specs.declared.growth.Rounds.{Rounds}
use Rattle.rs_model.specs.declared.machines.Act.{Act}
use Rattle.rs_search.specs.Candidates.{start_spot}
use Rattle.rs_text.specs.NamePlaces.{name_at}
use Rattle.rs_walk_texts.specs.Data.{WalkSource_data}
use Rattle.rs_walk_texts.specs.Heads.{acts_text}
use Rattle.rs_walk_texts.specs.Walks.{steps_text}

-- the letter for more than one
abbrev pub plural : ℕ → List ℕ
plural n = if n == 1 then [] else codes "s"

-- `1 step`, `5 steps`
abbrev pub counted : ℕ → List ℕ → List ℕ
counted n word = decimal n ++ codes " " ++ word ++ plural n

-- the last so many acts
abbrev pub last_acts : List Act → ℕ → List Act
last_acts acts count = drop (length acts - count) acts

-- what is owed behind a step
abbrev pub owed_behind : Option WalkStep_data → List Act
owed_behind None = []
owed_behind (Some s) = s.spot.pending

-- what is owed behind the last of the steps
abbrev pub owed_at_end : List WalkStep_data → List Act
owed_at_end steps = owed_behind (slice_get steps (length steps - 1))

-- `15 more rounds of the last 5 steps`
abbrev pub more_rounds : Rounds → List ℕ
more_rounds r = counted r.more (codes "more round") ++ codes " of the last " ++ counted r.size (codes "step")

-- `- 15 more rounds of the last 5 steps: each owes Q?x(sort) more`, a line
abbrev pub rounds_line : WalkSource_data → List Act → Rounds → List ℕ
rounds_line source owed r = codes "- " ++ more_rounds r ++ codes ": each owes " ++ acts_text source.names (last_acts owed r.owed) ++ codes " more\n"

-- the steps of a walk from p: all of them, or up to the first of the rounds, and what the others add
abbrev pub folded_text : WalkSource_data → Spot → List WalkStep_data → Option Rounds → List ℕ
folded_text source p steps None = steps_text source p steps
folded_text source p steps (Some r) = steps_text source p (take r.shown steps) ++ rounds_line source (owed_at_end steps) r

-- the line that leads to the steps, and the steps of a walk from the start
abbrev pub walk_text : WalkSource_data → List WalkStep_data → List ℕ
walk_text source steps =
    name_at source.names.roles source.machine.role.0 ++ codes ", act by act:\n"
    ++ folded_text source (start_spot source.machine source.projection.machine) steps (rounds_of (start_spot source.machine source.projection.machine) steps)
