-- A document that can be shown has one canonical text.
use Rattle.std.proofs.Common.{◌≡◌, Bool, true, false, ℕ, List, [], ◌∷◌, ◌++◌, Option, Some, None, refl, sym, ap, ◌∙◌}
use Rattle.rs_documents.specs.Canonical.{AreCanonicalMachines, AreShown, CanBeShown, IsCanonicalDocument, IsOwnText, IsLine, IsTable, derivations_text}
use Rattle.rs_documents.specs.Data.{Document_data}
use Rattle.rs_global.proofs.Canonical as of_protocols
use Rattle.rs_global.proofs.Canonical.{canonical_is_there}
use Rattle.rs_global.specs.Texts.{protocol_text}
use Rattle.rs_machines.proofs.Canonical as of_machines
use Rattle.rs_machines.proofs.ShapeWhole.{shaped_is_walked, walked_is_shaped}
use Rattle.rs_machines.specs.Enough.{AreEnoughFor}
use Rattle.rs_machines.specs.Shapes.{is_shaped}
use Rattle.rs_model.specs.Data.{Machine_data, Names_data}
use Rattle.rs_tables.specs.Tables.{table_of}

some_own : (names : Names_data) (machine : Machine_data) (shaped : Bool) → is_shaped machine ≡ shaped → AreEnoughFor names machine → (text : List ℕ) × IsOwnText names machine text
some_own names machine true e enough =
    let shaped = walked_is_shaped machine e in
    let line = of_machines.canonical_text_is_there names machine shaped enough in
    (line.0, IsLine line.0 shaped line.1)
some_own names machine false e enough = (table_of names machine, IsTable (λ shaped. let clash : false ≡ true = sym e ∙ shaped_is_walked machine shaped in cc clash))

one_own : (names : Names_data) (machine : Machine_data) (text other : List ℕ) → IsOwnText names machine text → IsOwnText names machine other → text ≡ other
one_own names machine text other (IsLine line shaped c) (IsLine another also k) = of_machines.canonical_text_is_one names machine line another shaped c k
one_own names machine text other (IsLine line shaped c) (IsTable unshaped) = absurd (unshaped shaped)
one_own names machine text other (IsTable unshaped) (IsLine another also k) = absurd (unshaped also)
one_own names machine text other (IsTable unshaped) (IsTable nor) = refl

pub some_lines : (names : Names_data) (machines : List (Option Machine_data)) → AreShown names machines → (text : List ℕ) × AreCanonicalMachines names machines text
some_lines names [] shown = ([], refl)
some_lines names (None ∷ machines) shown = some_lines names machines shown.1
some_lines names (Some machine ∷ machines) shown =
    let own = some_own names machine (is_shaped machine) refl shown.0.enough in
    let later = some_lines names machines shown.1 in
    (own.0 ++ later.0, (own.0, later.0, own.1, later.1, refl))

pub one_text_each : (names : Names_data) (machines : List (Option Machine_data)) (text other : List ℕ) → AreShown names machines → AreCanonicalMachines names machines text
    → AreCanonicalMachines names machines other → text ≡ other
one_text_each names [] text other shown h k = h ∙ sym k
one_text_each names (None ∷ machines) text other shown h k = one_text_each names machines text other shown.1 h k
one_text_each names (Some machine ∷ machines) text other shown h k =
    h.4 ∙ ap (λ (z : List ℕ). z ++ h.1) (one_own names machine h.0 k.0 h.2 k.2)
    ∙ ap (λ (z : List ℕ). k.0 ++ z) (one_text_each names machines h.1 k.1 shown.1 h.3 k.3) ∙ sym k.4

pub some_text : (d : Document_data) → CanBeShown d → (text : List ℕ) × IsCanonicalDocument d text
some_text d s =
    let tree = canonical_is_there d.names d.protocol s.shaped s.enough.roles s.enough.labels in
    let lines = some_lines d.names d.machines s.machines in
    let front : List ℕ = protocol_text tree.0 in (
      front ++ (lines.0 ++ derivations_text d.names d.derivations),
      record {
        front = front;
        back = lines.0;
        protocol = record { tree = tree.0; canonical = tree.1; whole = refl };
        machines = lines.1;
        whole = refl;
      },
    )

pub one_text : (d : Document_data) (text other : List ℕ) → CanBeShown d → IsCanonicalDocument d text → IsCanonicalDocument d other → text ≡ other
one_text d text other s h k =
    let tail : List ℕ = derivations_text d.names d.derivations in
    h.whole ∙ ap (λ (z : List ℕ). z ++ (h.back ++ tail)) (of_protocols.canonical_text_is_one d.names d.protocol h.front k.front s.shaped h.protocol k.protocol)
    ∙ ap (λ (z : List ℕ). k.front ++ (z ++ tail)) (one_text_each d.names d.machines h.back k.back s.machines h.machines k.machines) ∙ sym k.whole
