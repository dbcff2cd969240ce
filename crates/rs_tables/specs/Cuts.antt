-- Public: the places of the grammar, and what is wanted there.
use Rattle.std.specs.Prelude.{ℕ, List, [], ◌∷◌, ◌++◌, codes, length}
use Rattle.std.specs.List.{flat_map}
use Rattle.rs_bodies.specs.declared.dialects.Mark.{Mark}
use Rattle.rs_bodies.specs.Dialects.{mark_sign}
use Rattle.rs_text.specs.ArmCuts.{ArmCut, at_label, behind_label, behind_paren, behind_sort, behind_head, arm_cut_signs}
use Rattle.rs_text.specs.Signs.{Sign, plain, number, comma, open_brace}
use Rattle.rs_text.specs.declared.faults.Wanted.{Wanted}
use Rattle.rs_text.specs.declared.faults.Wanted.TheVariants as wanted
use Rattle.rs_tables.specs.Spells.{IsFormed}
use Rattle.rs_tables.specs.Trees.{ArmTree, RowTree, TableTree, arm_signs, arms_signs, head_signs, rows_signs, table_signs}

-- a row cut off at a place: what stands before the place
pub data RowCut : Type 0 where
  at_number : RowCut
  behind_number : RowCut
  behind_peer : (peer : List ℕ) → RowCut
  behind_mark : (peer : List ℕ) → (mark : Mark) → RowCut
  in_arm : (peer : List ℕ) → (mark : Mark) → (before : List ArmTree) → (cut : ArmCut) → RowCut
  behind_arm : (peer : List ℕ) → (mark : Mark) → (first : ArmTree) → (later : List ArmTree) → RowCut

-- a table cut off at a place
pub data Cut : Type 0 where
  at_begin : Cut
  at_role : Cut
  at_brace : (role : List ℕ) → Cut
  in_rows : (role : List ℕ) → (rows : List RowTree) → (cut : RowCut) → Cut
  at_end : (tree : TableTree) → Cut

-- an arm, and the comma before a further one
abbrev pub arm_with_comma : ArmTree → List Sign
arm_with_comma a = arm_signs a ++ comma ∷ []

-- a row as far as behind its brace
abbrev pub row_head_signs : ℕ → List ℕ → Mark → List Sign
row_head_signs n peer mark = number n ∷ plain peer ∷ mark_sign mark ∷ open_brace ∷ []

-- the tokens of the row with the number n before the place
abbrev pub row_cut_signs : ℕ → RowCut → List Sign
row_cut_signs n at_number = []
row_cut_signs n behind_number = number n ∷ []
row_cut_signs n (behind_peer p) = number n ∷ plain p ∷ []
row_cut_signs n (behind_mark p m) = number n ∷ plain p ∷ mark_sign m ∷ []
row_cut_signs n (in_arm p m arms a) = row_head_signs n p m ++ (flat_map arm_with_comma arms ++ arm_cut_signs a)
row_cut_signs n (behind_arm p m x xs) = row_head_signs n p m ++ arms_signs x xs

-- the tokens before the place
abbrev pub cut_signs : Cut → List Sign
cut_signs at_begin = []
cut_signs at_role = plain (codes "table") ∷ []
cut_signs (at_brace x) = plain (codes "table") ∷ plain x ∷ []
cut_signs (in_rows x rows p) = head_signs x ++ (rows_signs 0 rows ++ row_cut_signs (length rows) p)
cut_signs (at_end t) = table_signs t

-- what is wanted within an arm of a row
abbrev pub wanted_in_arm : ArmCut → Wanted
wanted_in_arm at_label = wanted.Label
wanted_in_arm (behind_label l) = wanted.OpenParen
wanted_in_arm (behind_paren l) = wanted.SortOrCloseParen
wanted_in_arm (behind_sort l s) = wanted.CloseParen
wanted_in_arm (behind_head l s) = wanted.NextState

-- what is wanted for a further row
abbrev pub row_wanted : {A : Type 0} → List A → Wanted
row_wanted [] = wanted.State
row_wanted (x ∷ xs) = wanted.StateOrCloseBrace

-- what is wanted within a row behind these rows
abbrev pub wanted_in_row : List RowTree → RowCut → Wanted
wanted_in_row rows at_number = row_wanted rows
wanted_in_row rows behind_number = wanted.RoleOrEnd
wanted_in_row rows (behind_peer p) = wanted.Mark
wanted_in_row rows (behind_mark p m) = wanted.OpenBrace
wanted_in_row rows (in_arm p m arms a) = wanted_in_arm a
wanted_in_row rows (behind_arm p m x xs) = wanted.CommaOrCloseBrace

-- what is wanted at the place
abbrev pub wanted_of : Cut → Wanted
wanted_of at_begin = wanted.PartOrEnd
wanted_of at_role = wanted.Role
wanted_of (at_brace x) = wanted.OpenBrace
wanted_of (in_rows x rows p) = wanted_in_row rows p
wanted_of (at_end t) = wanted.PartOrEnd

-- a row stands before the last place
abbrev pub IsPlace : Cut → Type 0
IsPlace (at_end t) = IsFormed t
IsPlace _ = Unit {0}
