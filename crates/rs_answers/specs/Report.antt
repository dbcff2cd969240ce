-- Public: the report of an accepted session, from its derivations.
use Rattle.std.specs.Prelude.{ℕ, List, [], ◌∷◌, ◌++◌, codes, length}
use Rattle.std.specs.Fmt.{decimal}
use Rattle.rs_derive.specs.Data.{Derivation_data}
use Rattle.rs_safety.specs.Room.{longest, room_of, top_rank}
use Rattle.rs_answers.specs.Data.{Answer_data}
use Rattle.rs_answers.specs.Texts.{joined_texts}
use Rattle.rs_answers.specs.declared.verdicts.Verdict.TheVariants.{Fine}

-- `P: nodes A pending B rank C`: how many nodes the derivation has, the most acts that are owed at one of them, and the
-- greatest rank
abbrev pub figures_text : List ℕ → Derivation_data → List ℕ
figures_text name d =
    joined_texts (name ∷ codes ": nodes " ∷ decimal (length d.nodes) ∷ codes " pending " ∷ decimal (longest d) ∷ codes " rank " ∷ decimal (top_rank d) ∷ codes "\n" ∷ [])

-- a line for each role in order
abbrev pub all_figures_text : List (List ℕ) → List Derivation_data → List ℕ
all_figures_text (name ∷ names) (d ∷ derivations) = figures_text name d ++ all_figures_text names derivations
all_figures_text (name ∷ names) [] = []
all_figures_text [] derivations = []

-- the session is accepted: a line for each role, and the room
abbrev pub report : List (List ℕ) → List Derivation_data → Answer_data
report names derivations = record {
  text = joined_texts (codes "accepted\n" ∷ all_figures_text names derivations ∷ codes "room " ∷ decimal (room_of derivations) ∷ codes "\n" ∷ []);
  verdict = Fine;
}
