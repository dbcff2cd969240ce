-- The names with the labels of a whole machine are those of some first tokens of its text.
use Rattle.std.proofs.Common.{◌≡◌, ◌∙◌, ℕ, List, ◌∷◌, ◌++◌, false, inl, sym, ap}
use Rattle.rs_model.specs.Data.{Names_data}
use Rattle.rs_text.specs.Lexemes.{signs_of}
use Rattle.rs_text.specs.Names.{names_with}
use Rattle.rs_text.specs.declared.faults.TextKind.{TextKind}
use Rattle.rs_text.specs.declared.faults.TextKind.TheVariants as kind
use Rattle.rs_bodies.specs.Data.{Spelling_data}
use Rattle.rs_bodies.specs.Graph.{labels_of}
use Rattle.rs_bodies.specs.Spellings.{Spells}
use Rattle.rs_bodies.specs.declared.dialects.Dialect.TheVariants.{Acts}
use Rattle.rs_machines.specs.Faults.{LeavesLabels, labels_among}
use Rattle.rs_machines.proofs.TreeLabels.{tree_labels}
use Rattle.rs_text.proofs.Nexts.{are_lexed}

pub spelt_leaves : (bytes : List ℕ) (at : ℕ) (old new : Names_data) (s : Spelling_data) (until : ℕ) (k : TextKind) (offset : ℕ) → k ≡ kind.NoMemory → Spells Acts bytes at old new s until
    → LeavesLabels old new bytes at k offset
spelt_leaves bytes at old new s until k offset e m =
    let labels : labels_of Acts m.tree.body ≡ labels_among false (signs_of m.lexemes) = sym (ap (λ z. labels_among false z) m.spelt ∙ tree_labels m.tree) in
    inl (
      e,
      record {
        before = m.lexemes;
        others = m.behind ∷ m.others;
        lexed = are_lexed bytes (m.lexemes ++ m.behind ∷ m.others) at m.tokens;
        names_are = m.names_are ∙ ap (λ z. record { roles = old.roles; labels = names_with old.labels z }) labels;
      },
    )
