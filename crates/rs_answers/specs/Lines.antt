-- Steps: the report of an accepted session, from the figures of its derivations.
use Rattle.std.specs.Prelude.{ℕ, List, [], ◌∷◌, ◌++◌, codes}
use Rattle.std.specs.Fmt.{decimal}
use Rattle.rs_safety.specs.Figures.{room_by}
use Rattle.rs_safety.specs.declared.rooms.Figures.{Figures}
use Rattle.rs_answers.specs.Data.{Answer_data}
use Rattle.rs_answers.specs.Texts.{joined_texts}
use Rattle.rs_answers.specs.declared.verdicts.Verdict.TheVariants.{Fine}

-- a role's line
abbrev pub line_text : List ℕ → Figures → List ℕ
line_text name f =
    joined_texts (name ∷ codes ": nodes " ∷ decimal f.nodes ∷ codes " pending " ∷ decimal f.owed ∷ codes " rank " ∷ decimal f.rank ∷ codes "\n" ∷ [])

-- the line of each role
abbrev pub lines_text : List (List ℕ) → List Figures → List ℕ
lines_text (name ∷ names) (f ∷ figures) = line_text name f ++ lines_text names figures
lines_text (name ∷ names) [] = []
lines_text [] figures = []

-- the lines of the roles, and the room
abbrev pub report_by : List (List ℕ) → List Figures → Answer_data
report_by names figures = record {
  text = joined_texts (codes "accepted\n" ∷ lines_text names figures ∷ codes "room " ∷ decimal (room_by figures) ∷ codes "\n" ∷ []);
  verdict = Fine;
}
