-- Headline: how texts of tables are built, and their tokens.
use Rattle.std.specs.Prelude.{ℕ, suc, List, [], ◌∷◌, ◌++◌, codes, Option}
use Rattle.std.specs.List.{flat_map}
use Rattle.rs_model.specs.declared.values.Sort.{Sort}
use Rattle.rs_bodies.specs.declared.dialects.Mark.{Mark}
use Rattle.rs_bodies.specs.Dialects.{mark_sign}
use Rattle.rs_text.specs.Arms.{sort_signs}
use Rattle.rs_text.specs.Signs.{Sign, end_word, plain, number, word_sign, comma, open_brace, close_brace, open_paren, close_paren}

-- an arm: its label, its sort where one is shown, and the number of the next state
pub record ArmTree : Type 0 where
  pub label : List ℕ
  pub sort : Option Sort
  pub next : ℕ

-- a row: the end, or a peer with a mark and its arms. Its number is its place
pub data RowTree : Type 0 where
  end_row : RowTree
  choice_row : (peer : List ℕ) → (mark : Mark) → (first : ArmTree) → (later : List ArmTree) → RowTree

-- a table: its role and its rows
pub record TableTree : Type 0 where
  pub role : List ℕ
  pub rows : List RowTree

-- LABEL "(" [ sort ] ")" NUM: the label is any word
abbrev pub arm_signs : ArmTree → List Sign
arm_signs a = word_sign a.label ∷ open_paren ∷ (sort_signs a.sort ++ close_paren ∷ number a.next ∷ [])

-- an arm behind another arm
abbrev pub later_arm_signs : ArmTree → List Sign
later_arm_signs a = comma ∷ arm_signs a

-- commas stand between arms
abbrev pub arms_signs : ArmTree → List ArmTree → List Sign
arms_signs first later = arm_signs first ++ flat_map later_arm_signs later

-- NUM "end", or NUM PEER ( "!" | "?" ) "{" arms "}": the row with the number n. The peer is a word other than rec and end
abbrev pub row_signs : ℕ → RowTree → List Sign
row_signs n end_row = number n ∷ end_word ∷ []
row_signs n (choice_row peer mark first later) = number n ∷ plain peer ∷ mark_sign mark ∷ open_brace ∷ (arms_signs first later ++ close_brace ∷ [])

-- rows, the first of which has the number n
abbrev pub rows_signs : ℕ → List RowTree → List Sign
rows_signs n [] = []
rows_signs n (t ∷ ts) = row_signs n t ++ rows_signs (suc n) ts

-- "table" ROLE "{"
abbrev pub head_signs : List ℕ → List Sign
head_signs role = plain (codes "table") ∷ plain role ∷ open_brace ∷ []

-- the head, the rows and "}"
abbrev pub table_signs : TableTree → List Sign
table_signs t = head_signs t.role ++ (rows_signs 0 t.rows ++ close_brace ∷ [])
