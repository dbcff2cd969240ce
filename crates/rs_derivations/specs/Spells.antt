-- Public: what a text spells.
use Rattle.std.specs.Prelude.{◌≡◌, ℕ, ◌≤◌, List, ◌∷◌, ◌++◌, length}
use Rattle.std.specs.List.{All}
use Rattle.rs_model.specs.Data.{Names_data}
use Rattle.rs_model.specs.Limits.{IsBound}
use Rattle.rs_model.specs.declared.limits.TheConstants.{MOST_BOUND, MOST_LABELS, MOST_CANDIDATES}
use Rattle.rs_derive.specs.Data.{Derivation_data}
use Rattle.rs_text.specs.Lexemes.{Lexeme, signs_of}
use Rattle.rs_text.specs.Tokens.{AreTokens}
use Rattle.rs_text.specs.KnownNames.{AreKnown}
use Rattle.rs_text.specs.Names.{names_with}
use Rattle.rs_derivations.specs.declared.formats.Format.{Format}
use Rattle.rs_derivations.specs.declared.formats.Format.TheVariants.{One, Two}
use Rattle.rs_derivations.specs.Derivations.{acts_of, written_lists, derivation_of, labels_of_acts, peers_of_acts, names_of}
use Rattle.rs_derivations.specs.Trees.{ListsTree, PendingTree, DerivationTree, derivation_signs}

-- each list that stands before the nodes has acts
abbrev pub HaveActs : (f : Format) → ListsTree f → Type 0
HaveActs One none = Unit {0}
HaveActs Two lists = All (λ acts. 1 ≤ length acts) lists

-- a node has the number of a list that is there, or 0
abbrev pub HasItsList : (f : Format) → ListsTree f → PendingTree f → Type 0
HasItsList One none acts = Unit {0}
HasItsList Two lists n = n ≤ length lists

-- a tree that has tokens: its bound is one, it has a node, its lists have acts, and its nodes have their lists
pub record IsFormed (t : DerivationTree) : Type 0 where
  pub bound : IsBound t.bound
  pub some : 1 ≤ length t.nodes
  pub lists : HaveActs t.format t.lists
  pub numbers : All (λ n. HasItsList t.format t.lists n.pending) t.nodes

-- its role and all peers are known, no list has more than 64 acts, there are at most 65,536 nodes, and with its labels at
-- most 256 labels
pub record Fits (old : Names_data) (t : DerivationTree) : Type 0 where
  pub formed : IsFormed t
  pub roles : AreKnown old (t.role ∷ peers_of_acts (acts_of t))
  pub labels : length (names_with old.labels (labels_of_acts (acts_of t))) ≤ MOST_LABELS
  pub acts : All (λ acts. length acts ≤ MOST_BOUND) (written_lists t.format t.lists t.nodes)
  pub nodes : length t.nodes ≤ MOST_CANDIDATES

-- the bytes from `at` on, read with the old names, spell this derivation with the new ones, and go on at `until`
pub record SpellsDerivation (bytes : List ℕ) (at : ℕ) (old new : Names_data) (derivation : Derivation_data) (until : ℕ) : Type 0 where
  pub tree : DerivationTree
  pub lexemes : List Lexeme
  pub behind : Lexeme
  pub others : List Lexeme
  pub tokens : AreTokens bytes at (lexemes ++ behind ∷ others)
  pub spelt : signs_of lexemes ≡ derivation_signs tree
  pub fits : Fits old tree
  pub names_are : new ≡ names_of old tree
  pub derivation_is : derivation ≡ derivation_of new tree
  pub goes_on : until ≡ behind.from
