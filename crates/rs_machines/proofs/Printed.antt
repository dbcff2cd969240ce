-- The machine's role and the body make up the canonical text.
use Rattle.std.proofs.Common.{◌≡◌, ℕ, List, ◌++◌, codes, refl, sym, ◌∙◌, append_assoc}
use Rattle.rs_model.specs.Data.{Machine_data, Names_data}
use Rattle.rs_text.specs.NamePlaces.{name_at}
use Rattle.rs_machines.specs.Canonical.{IsCanonicalMachineTree, IsCanonicalMachineText}
use Rattle.rs_bodies.specs.declared.dialects.Dialect.TheVariants.{Acts}
use Rattle.rs_bodies.specs.CanonicalGraphs.{IsOpeningOf}
use Rattle.rs_bodies.specs.Openings.{Opening, of_role}
use Rattle.rs_bodies.specs.Texts.{body_text, opening_text}
use Rattle.rs_machines.specs.Trees.{MachineTree}

line_shape : (n b : List ℕ) → (((codes "machine " ++ n) ++ codes ": ") ++ b) ++ codes "\n" ≡ codes "machine " ++ (n ++ (codes ": " ++ (b ++ codes "\n")))
line_shape n b = simp append_assoc refl

-- the line of the opening that is written
line_text : (roles : List (List ℕ)) (own : ℕ) (o : Opening Acts) (b : List ℕ) → IsOpeningOf Acts roles own o → opening_text Acts o b ≡ codes "machine " ++ (name_at roles own ++ (codes ": " ++ b))
line_text roles own (of_role r) b is = rw is refl

pub canonical_text : (names : Names_data) (p : Machine_data) (tree : MachineTree) (before whole text : List ℕ) → IsCanonicalMachineTree names p tree
    → before ≡ (codes "machine " ++ name_at names.roles p.role.0) ++ codes ": " → whole ≡ before ++ body_text Acts tree.body → text ≡ whole ++ codes "\n" → IsCanonicalMachineText names p text
canonical_text names p tree before whole text c e h k = record {
  tree = tree;
  canonical = c;
  whole = rw (k, h, e) (line_shape (name_at names.roles p.role.0) (body_text Acts tree.body) ∙ sym (line_text names.roles p.role.0 tree.opening (body_text Acts tree.body ++ codes "\n") c.opening));
}
