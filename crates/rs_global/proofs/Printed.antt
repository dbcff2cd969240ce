-- The roles line and the body make up the canonical text.
use Rattle.std.proofs.Common.{◌≡◌, ℕ, List, [], ◌∷◌, ◌++◌, codes, refl, sym, ap, ◌∙◌, append_assoc, append-nil}
use Rattle.rs_model.specs.Data.{Protocol_data, Names_data}
use Rattle.rs_global.specs.Canonical.{IsCanonicalProtocolTree, IsCanonicalProtocolText}
use Rattle.rs_global.specs.Printing.{further_names_text}
use Rattle.rs_global.specs.Texts.{names_text}
use Rattle.rs_global.specs.Trees.{ProtocolTree}
use Rattle.rs_bodies.specs.declared.dialects.Dialect.TheVariants.{Talks}
use Rattle.rs_bodies.specs.CanonicalGraphs.{IsOpeningOf}
use Rattle.rs_bodies.specs.Openings.{Opening, of_roles}
use Rattle.rs_bodies.specs.Texts.{body_text, opening_text}

-- the names of a line, as they are written
pub names_are : (names : List (List ℕ)) (name : List ℕ) → names_text (name ∷ names) ≡ name ++ further_names_text names
names_are [] name = sym (append-nil name)
names_are (other ∷ names) name = ap (λ z. name ++ (codes ", " ++ z)) (names_are names other)

pub names_pushed : (old mid new first : List ℕ) (names others : List (List ℕ)) → names ≡ first ∷ others → mid ≡ old ++ first → new ≡ mid ++ further_names_text others → new ≡ old ++ names_text names
names_pushed old mid new first names others is e h = rw (is, names_are others first, h, e) (append_assoc old first (further_names_text others))

line_shape : (n b : List ℕ) → (((codes "roles " ++ n) ++ codes "\nprotocol ") ++ b) ++ codes "\n" ≡ codes "roles " ++ (n ++ (codes "\nprotocol " ++ (b ++ codes "\n")))
line_shape n b = simp append_assoc refl

-- the roles line of the opening that is written
line_text : (roles : List (List ℕ)) (own : ℕ) (o : Opening Talks) (b : List ℕ) → IsOpeningOf Talks roles own o
    → opening_text Talks o b ≡ codes "roles " ++ (names_text roles ++ (codes "\nprotocol " ++ b))
line_text roles own (of_roles f s xs) b is = ap (λ z. codes "roles " ++ (names_text z ++ (codes "\nprotocol " ++ b))) is

pub canonical_text : (names : Names_data) (p : Protocol_data) (tree : ProtocolTree) (before whole text : List ℕ) → IsCanonicalProtocolTree names p tree
    → before ≡ (codes "roles " ++ names_text names.roles) ++ codes "\nprotocol " → whole ≡ before ++ body_text Talks tree.body → text ≡ whole ++ codes "\n" → IsCanonicalProtocolText names p text
canonical_text names p tree before whole text c e h k = record {
  tree = tree;
  canonical = c;
  whole = rw (k, h, e) (line_shape (names_text names.roles) (body_text Talks tree.body) ∙ sym (line_text names.roles p.roles tree.opening (body_text Talks tree.body ++ codes "\n") c.opening));
}
