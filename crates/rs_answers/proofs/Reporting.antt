-- The report from figures is the report from the derivations that have them, and rests on no number of a label.
use Rattle.std.proofs.Common.{◌≡◌, ℕ, List, [], ◌∷◌, ◌++◌, codes, length, map, refl, sym, ap, ap₂, ◌∙◌}
use Rattle.std.specs.Fmt.{decimal}
use Rattle.std.proofs.lemmas.List.{length-map}
use Rattle.rs_derive.specs.Data.{DNode_data, Derivation_data}
use Rattle.rs_derive.specs.Figures.{greatest}
use Rattle.rs_documents.specs.Again.{act_by, derivation_by, node_by}
use Rattle.rs_safety.specs.Figures.{figures_of}
use Rattle.rs_safety.specs.Room.{longest, top_rank}
use Rattle.rs_safety.specs.declared.rooms.Figures.{Figures}
use Rattle.rs_safety.proofs.Counting.{room_by_shown}
use Rattle.rs_answers.specs.Data.{Answer_data}
use Rattle.rs_answers.specs.Lines.{lines_text, report_by}
use Rattle.rs_answers.specs.Report.{all_figures_text, figures_text, report}
use Rattle.rs_answers.specs.Texts.{joined_texts}
use Rattle.rs_answers.specs.declared.verdicts.Verdict.TheVariants.{Fine}

lines_of : (names : List (List ℕ)) (ds : List Derivation_data) → lines_text names (map figures_of ds) ≡ all_figures_text names ds
lines_of [] ds = refl
lines_of (name ∷ names) [] = refl
lines_of (name ∷ names) (d ∷ ds) = ap (λ z. figures_text name d ++ z) (lines_of names ds)

abbrev told : List ℕ → ℕ → Answer_data
told lines room = record { text = joined_texts (codes "accepted\n" ∷ lines ∷ codes "room " ∷ decimal room ∷ codes "\n" ∷ []); verdict = Fine }

pub report_by_shown : (names : List (List ℕ)) (ds : List Derivation_data) → report_by names (map figures_of ds) ≡ report names ds
report_by_shown names ds = ap₂ told (lines_of names ds) (room_by_shown ds)

-- ---- derivations with other numbers for labels have the same figures

owed_stay : (f : ℕ → ℕ) (nodes : List DNode_data) → map (λ (n : DNode_data). length n.pending) (map (node_by f) nodes) ≡ map (λ (n : DNode_data). length n.pending) nodes
owed_stay f [] = refl
owed_stay f (n ∷ nodes) =
    ap (λ (z : ℕ). z ∷ map (λ (m : DNode_data). length m.pending) (map (node_by f) nodes)) (length-map n.pending (act_by f)) ∙ ap (λ (z : List ℕ). length n.pending ∷ z) (owed_stay f nodes)

ranks_stay : (f : ℕ → ℕ) (nodes : List DNode_data) → map (λ (n : DNode_data). n.rank) (map (node_by f) nodes) ≡ map (λ (n : DNode_data). n.rank) nodes
ranks_stay f [] = refl
ranks_stay f (n ∷ nodes) = ap (λ (z : List ℕ). n.rank ∷ z) (ranks_stay f nodes)

figures_stay : (f : ℕ → ℕ) (d : Derivation_data) → figures_of (derivation_by f d) ≡ figures_of d
figures_stay f d =
    ap (λ (z : ℕ). record { nodes = z; owed = longest (derivation_by f d); rank = top_rank (derivation_by f d) }) (length-map d.nodes (node_by f))
    ∙ ap (λ (z : List ℕ). record { nodes = length d.nodes; owed = greatest z 0; rank = top_rank (derivation_by f d) }) (owed_stay f d.nodes)
    ∙ ap (λ (z : List ℕ). record { nodes = length d.nodes; owed = longest d; rank = greatest z 0 }) (ranks_stay f d.nodes)

all_stay : (f : ℕ → ℕ) (ds : List Derivation_data) → map figures_of (map (derivation_by f) ds) ≡ map figures_of ds
all_stay f [] = refl
all_stay f (d ∷ ds) = ap (λ (z : Figures). z ∷ map figures_of (map (derivation_by f) ds)) (figures_stay f d) ∙ ap (λ (z : List Figures). figures_of d ∷ z) (all_stay f ds)

pub report_stays : (names : List (List ℕ)) (f : ℕ → ℕ) (ds : List Derivation_data) → report names (map (derivation_by f) ds) ≡ report names ds
report_stays names f ds = sym (report_by_shown names (map (derivation_by f) ds)) ∙ ap (report_by names) (all_stay f ds) ∙ report_by_shown names ds
