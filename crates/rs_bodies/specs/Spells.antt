-- Headline: what a text spells.
use Rattle.std.specs.Prelude.{◌≡◌, ℕ, ◌≤◌, List, ◌∷◌, ◌++◌, length, true}
use Rattle.rs_model.specs.declared.limits.TheConstants.{MOST_ROLES}
use Rattle.rs_model.specs.Data.{Names_data}
use Rattle.rs_text.specs.Lexemes.{Lexeme, signs_of}
use Rattle.rs_text.specs.Tokens.{AreTokens}
use Rattle.rs_text.specs.Names.{is_among, names_with, differ}
use Rattle.rs_text.specs.Signs.{Sign}
use Rattle.rs_bodies.specs.declared.dialects.Dialect.{Dialect}
use Rattle.rs_bodies.specs.declared.dialects.Dialect.TheVariants.{Talks, Acts}
use Rattle.rs_bodies.specs.Openings.{Opening, of_roles, of_role, opening_signs, roles_in}
use Rattle.rs_bodies.specs.Trees.{Body, body_signs, ends_by_name, ends_a_name}
use Rattle.rs_bodies.specs.Fits.{body_fits}
use Rattle.rs_bodies.specs.Graph.{labels_of, acts_in, Numbering}
use Rattle.rs_bodies.specs.Scenes.{first_scene}

-- a part: what stands before the body, and the body
pub record Tree (d : Dialect) : Type 0 where
  pub opening : Opening d
  pub body : Body d

-- the tokens of a part
abbrev pub tree_signs : (d : Dialect) → Tree d → List Sign
tree_signs d t = opening_signs d t.opening ++ body_signs d t.body

-- the roles of a roles line differ, and are 16 at most; a machine's role is known
abbrev pub OpeningFits : (d : Dialect) → Names_data → Opening d → Type 0
OpeningFits Talks old (of_roles f s xs) = (differ (f ∷ s ∷ xs) ≡ true) × (length (f ∷ s ∷ xs) ≤ MOST_ROLES)
OpeningFits Acts old (of_role r) = is_among r old.roles ≡ true

-- names and limits
pub record Fits (d : Dialect) (old : Names_data) (t : Tree d) : Type 0 where
  pub opening : OpeningFits d old t.opening
  pub body : body_fits d t.body (first_scene (roles_in d old t.opening) old.labels) ≡ true

-- the names that were there, with the labels that are new behind them in order of their first places
abbrev pub names_of : (d : Dialect) → Names_data → Tree d → Names_data
names_of d old t = record { roles = roles_in d old t.opening; labels = names_with old.labels (labels_of d t.body) }

-- the names that are there behind a tree, and the number of its end
abbrev pub numbering : (d : Dialect) → Names_data → Tree d → Numbering
numbering d old t = record { names = names_of d old t; last = acts_in d t.body }

-- the bytes from `at` on, read with the old names, spell a tree with this meaning and with the new names, and go on at `until`
pub record SpellsBy (d : Dialect) {X : Type 0} (meaning : Names_data → Tree d → X) (bytes : List ℕ) (at : ℕ) (old new : Names_data) (x : X) (until : ℕ) : Type 0 where
  pub tree : Tree d
  pub lexemes : List Lexeme
  pub behind : Lexeme
  pub others : List Lexeme
  pub tokens : AreTokens bytes at (lexemes ++ behind ∷ others)
  pub spelt : signs_of lexemes ≡ tree_signs d tree
  pub settled : ends_by_name d tree.body ≡ true → ends_a_name d behind.sign ≡ true
  pub fits : Fits d old tree
  pub names_are : new ≡ names_of d old tree
  pub meaning_is : x ≡ meaning old tree
  pub goes_on : until ≡ behind.from
