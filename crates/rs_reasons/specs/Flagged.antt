-- Steps: the lines of the receives that a machine never makes, by flags.
use Rattle.std.specs.Prelude.{ℕ, suc, List, [], ◌∷◌, ◌++◌, if◌then◌else◌, slice_get, Option, Bool}
use Rattle.rs_model.specs.Data.{Names_data}
use Rattle.rs_model.specs.declared.graph.Arm.{Arm}
use Rattle.rs_model.specs.declared.graph.Role.{Role}
use Rattle.rs_model.specs.declared.machines.State.{State}
use Rattle.rs_model.specs.declared.machines.State.TheVariants.{Done, Puts, Takes}
use Rattle.rs_places.specs.declared.places.Position.{Position}
use Rattle.rs_reasons.specs.Accepted.{unused_line}
use Rattle.rs_reasons.specs.Marks.{StateUse_data}

-- the line of an arm, unless it is flagged
abbrev pub unless_flagged : Names_data → List ℕ → Option Position → Role → Arm → Bool → List ℕ
unless_flagged names role at peer a flag = if flag then [] else unused_line names role peer a at

-- the lines of the arms that aren't flagged
abbrev pub flagged_arms : Names_data → List ℕ → Option Position → Role → List Arm → List Bool → List ℕ
flagged_arms names role at peer [] taken = []
flagged_arms names role at peer (a ∷ arms) [] = []
flagged_arms names role at peer (a ∷ arms) (flag ∷ taken) = unless_flagged names role at peer a flag ++ flagged_arms names role at peer arms taken

-- the lines of a state's arms
abbrev pub flagged_receive : Names_data → List ℕ → Option Position → State → List Bool → List ℕ
flagged_receive names role at Done taken = []
flagged_receive names role at (Puts peer arms) taken = []
flagged_receive names role at (Takes peer arms) taken = flagged_arms names role at peer arms taken

-- the same, where some node stands at the state
abbrev pub flagged_state : Names_data → List ℕ → Option Position → State → StateUse_data → List ℕ
flagged_state names role at s u = if u.visited then flagged_receive names role at s u.taken else []

-- the lines of the states from this one on
abbrev pub flagged_lines : Names_data → List ℕ → List Position → ℕ → List State → List StateUse_data → List ℕ
flagged_lines names role states number [] uses = []
flagged_lines names role states number (s ∷ later) [] = []
flagged_lines names role states number (s ∷ later) (u ∷ uses) =
    flagged_state names role (slice_get states number) s u ++ flagged_lines names role states (suc number) later uses
