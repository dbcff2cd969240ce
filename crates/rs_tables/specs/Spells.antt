-- Headline: what a text spells.
use Rattle.std.specs.Prelude.{◌≡◌, ℕ, ◌≤◌, List, ◌∷◌, ◌++◌, length}
use Rattle.rs_model.specs.Data.{Machine_data, Names_data}
use Rattle.rs_model.specs.declared.limits.TheConstants.{MOST_LABELS, MOST_STATES}
use Rattle.rs_text.specs.Lexemes.{Lexeme, signs_of}
use Rattle.rs_text.specs.Tokens.{AreTokens}
use Rattle.rs_text.specs.KnownNames.{AreKnown}
use Rattle.rs_text.specs.Names.{names_with}
use Rattle.rs_tables.specs.Machines.{machine_of_table, labels_of_rows, peers_of_rows, names_of}
use Rattle.rs_tables.specs.Trees.{TableTree, table_signs}

-- there is at least one row
abbrev pub IsFormed : TableTree → Type 0
IsFormed t = 1 ≤ length t.rows

-- its role and all peers are known, there are at most 1,024 rows, and with its labels at most 256 labels
pub record Fits (old : Names_data) (t : TableTree) : Type 0 where
  pub formed : IsFormed t
  pub roles : AreKnown old (t.role ∷ peers_of_rows t.rows)
  pub labels : length (names_with old.labels (labels_of_rows t.rows)) ≤ MOST_LABELS
  pub rows : length t.rows ≤ MOST_STATES

-- the bytes from `at` on, read with the old names, spell this machine with the new ones, and go on at `until`
pub record SpellsTable (bytes : List ℕ) (at : ℕ) (old new : Names_data) (machine : Machine_data) (until : ℕ) : Type 0 where
  pub tree : TableTree
  pub lexemes : List Lexeme
  pub behind : Lexeme
  pub others : List Lexeme
  pub tokens : AreTokens bytes at (lexemes ++ behind ∷ others)
  pub spelt : signs_of lexemes ≡ table_signs tree
  pub fits : Fits old tree
  pub names_are : new ≡ names_of old tree
  pub machine_is : machine ≡ machine_of_table new tree
  pub goes_on : until ≡ behind.from
