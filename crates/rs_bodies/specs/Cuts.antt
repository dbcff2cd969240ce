-- Public: the places of the grammar, and what is wanted there.
use Rattle.std.specs.Prelude.{ℕ, List, [], ◌∷◌, ◌++◌, codes, Option}
use Rattle.rs_model.specs.declared.values.Sort.{Sort}
use Rattle.rs_text.specs.Signs.{Sign, rec_word, end_word, plain, arrow, dot, comma, open_brace, close_brace}
use Rattle.rs_text.specs.declared.faults.Wanted.{Wanted}
use Rattle.rs_text.specs.declared.faults.Wanted.TheVariants as wanted
use Rattle.rs_text.specs.Arms.{arm_signs}
use Rattle.rs_text.specs.ArmCuts.{ArmCut, at_label, arm_cut_signs, wanted_in_arm}
use Rattle.rs_bodies.specs.declared.dialects.Dialect.{Dialect}
use Rattle.rs_bodies.specs.declared.dialects.Dialect.TheVariants.{Talks, Acts}
use Rattle.rs_bodies.specs.Dialects.{BehindRole, turn_signs, lone_signs}
use Rattle.rs_bodies.specs.Openings.{Opening, line_signs, opening_signs}
use Rattle.rs_bodies.specs.Trees.{Body, Branches, body_signs, branch_signs}

-- a turn cut off at a place: behind the arrow, and behind the receiver
pub data TurnCut : Dialect → Type 0 where
  behind_arrow : TurnCut Talks
  behind_receiver : (receiver : List ℕ) → TurnCut Talks

-- the tokens before the place
abbrev pub turn_cut_signs : (d : Dialect) → TurnCut d → List Sign
turn_cut_signs Talks behind_arrow = arrow ∷ []
turn_cut_signs Talks (behind_receiver r) = arrow ∷ plain r ∷ []
turn_cut_signs Acts x = elim x [ ]

-- what is wanted there
abbrev pub wanted_in_turn : (d : Dialect) → TurnCut d → Wanted
wanted_in_turn Talks behind_arrow = wanted.Role
wanted_in_turn Talks (behind_receiver r) = wanted.ColonOrBrace
wanted_in_turn Acts x = elim x [ ]

-- where a single arm begins: behind its colon a label, behind a mark a label or the brace of several arms
abbrev pub wanted_first : Dialect → Wanted
wanted_first Talks = wanted.Label
wanted_first Acts = wanted.LabelOrBrace

-- in a single arm
abbrev pub wanted_alone : Dialect → ArmCut → Wanted
wanted_alone d at_label = wanted_first d
wanted_alone d arm = wanted_in_arm arm

-- an opening cut off at a place
pub data OpeningCut : Dialect → Type 0 where
  at_roles : OpeningCut Talks
  at_first : OpeningCut Talks
  behind_first : (first : List ℕ) → OpeningCut Talks
  at_further : (first : List ℕ) → (further : List (List ℕ)) → OpeningCut Talks
  behind_further : (first second : List ℕ) → (further : List (List ℕ)) → OpeningCut Talks
  at_machine : OpeningCut Acts
  at_role : OpeningCut Acts
  behind_role : (role : List ℕ) → OpeningCut Acts

-- the tokens before the place
abbrev pub opening_cut_signs : (d : Dialect) → OpeningCut d → List Sign
opening_cut_signs Talks at_roles = []
opening_cut_signs Talks at_first = plain (codes "roles") ∷ []
opening_cut_signs Talks (behind_first x) = plain (codes "roles") ∷ plain x ∷ []
opening_cut_signs Talks (at_further x xs) = line_signs x xs ++ comma ∷ []
opening_cut_signs Talks (behind_further x y xs) = line_signs x (y ∷ xs)
opening_cut_signs Acts at_machine = []
opening_cut_signs Acts at_role = plain (codes "machine") ∷ []
opening_cut_signs Acts (behind_role x) = plain (codes "machine") ∷ plain x ∷ []

-- what is wanted there; a machine's first word is one of the things that may stand behind a protocol
abbrev pub wanted_in_opening : (d : Dialect) → OpeningCut d → Wanted
wanted_in_opening Talks at_roles = wanted.Roles
wanted_in_opening Talks at_first = wanted.Role
wanted_in_opening Talks (behind_first x) = wanted.Comma
wanted_in_opening Talks (at_further x xs) = wanted.Role
wanted_in_opening Talks (behind_further x y xs) = wanted.CommaOrProtocol
wanted_in_opening Acts at_machine = wanted.PartOrEnd
wanted_in_opening Acts at_role = wanted.Role
wanted_in_opening Acts (behind_role x) = wanted.Colon

-- a body cut off at a place: a tree of the grammar with what stands before the place
mutual
  pub data Cut (d : Dialect) : Type 0 where
    at_body : Cut d
    behind_end : Cut d
    behind_name : (name : List ℕ) → Cut d
    behind_rec : Cut d
    behind_rec_name : (name : List ℕ) → Cut d
    in_binds : (name : List ℕ) → (body : Cut d) → Cut d
    in_turn : (first : List ℕ) → (turn : TurnCut d) → Cut d
    in_arm : (first : List ℕ) → (turn : BehindRole d) → (arm : ArmCut) → Cut d
    in_acts : (first : List ℕ) → (turn : BehindRole d) → (label : List ℕ) → (sort : Option Sort) → (body : Cut d) → Cut d
    in_offers : (first : List ℕ) → (turn : BehindRole d) → (arms : BranchCut d) → Cut d
    behind_brace : (first : List ℕ) → (turn : BehindRole d) → (arms : Branches d) → Cut d

  pub data BranchCut (d : Dialect) : Type 0 where
    in_head : (arm : ArmCut) → BranchCut d
    in_branch : (label : List ℕ) → (sort : Option Sort) → (body : Cut d) → BranchCut d
    later : (label : List ℕ) → (sort : Option Sort) → (body : Body d) → (arms : BranchCut d) → BranchCut d

-- the tokens before the place
abbrev mutual
  pub cut_signs : (d : Dialect) → Cut d → List Sign
  cut_signs d at_body = []
  cut_signs d behind_end = end_word ∷ []
  cut_signs d (behind_name n) = plain n ∷ []
  cut_signs d behind_rec = rec_word ∷ []
  cut_signs d (behind_rec_name n) = rec_word ∷ plain n ∷ []
  cut_signs d (in_binds n b) = rec_word ∷ plain n ∷ dot ∷ cut_signs d b
  cut_signs d (in_turn p t) = plain p ∷ turn_cut_signs d t
  cut_signs d (in_arm p t arm) = plain p ∷ (turn_signs d t ++ (lone_signs d ++ arm_cut_signs arm))
  cut_signs d (in_acts p t l sort b) = plain p ∷ (turn_signs d t ++ (lone_signs d ++ (arm_signs l sort ++ cut_signs d b)))
  cut_signs d (in_offers p t arms) = plain p ∷ (turn_signs d t ++ open_brace ∷ branch_cut_signs d arms)
  cut_signs d (behind_brace p t arms) = plain p ∷ (turn_signs d t ++ open_brace ∷ (branch_signs d arms ++ close_brace ∷ []))

  pub branch_cut_signs : (d : Dialect) → BranchCut d → List Sign
  branch_cut_signs d (in_head arm) = arm_cut_signs arm
  branch_cut_signs d (in_branch l sort b) = arm_signs l sort ++ cut_signs d b
  branch_cut_signs d (later l sort b arms) = arm_signs l sort ++ (body_signs d b ++ comma ∷ branch_cut_signs d arms)

-- what is wanted at the place; `behind` is what is wanted behind the body
abbrev mutual
  pub wanted_at : (d : Dialect) → Cut d → (behind : Wanted) → Wanted
  wanted_at d at_body w = wanted.Body
  wanted_at d behind_end w = w
  wanted_at d (behind_name n) w = w
  wanted_at d behind_rec w = wanted.Name
  wanted_at d (behind_rec_name n) w = wanted.Dot
  wanted_at d (in_binds n b) w = wanted_at d b w
  wanted_at d (in_turn p t) w = wanted_in_turn d t
  wanted_at d (in_arm p t arm) w = wanted_alone d arm
  wanted_at d (in_acts p t l sort b) w = wanted_at d b w
  wanted_at d (in_offers p t arms) w = wanted_in d arms
  wanted_at d (behind_brace p t arms) w = w

  pub wanted_in : (d : Dialect) → BranchCut d → Wanted
  wanted_in d (in_head arm) = wanted_in_arm arm
  wanted_in d (in_branch l sort b) = wanted_at d b wanted.CommaOrCloseBrace
  wanted_in d (later l sort b arms) = wanted_in d arms

-- a part cut off at a place
pub data PartCut (d : Dialect) : Type 0 where
  in_opening : (opening : OpeningCut d) → PartCut d
  in_body : (opening : Opening d) → (body : Cut d) → PartCut d

-- the tokens before the place
abbrev pub part_cut_signs : (d : Dialect) → PartCut d → List Sign
part_cut_signs d (in_opening o) = opening_cut_signs d o
part_cut_signs d (in_body o b) = opening_signs d o ++ cut_signs d b

-- what is wanted there; behind the body a further part or the end
abbrev pub wanted_of : (d : Dialect) → PartCut d → Wanted
wanted_of d (in_opening o) = wanted_in_opening d o
wanted_of d (in_body o b) = wanted_at d b wanted.PartOrEnd

-- the body, where the place is behind it
abbrev pub IsBehind : (d : Dialect) → Cut d → Type 0
IsBehind d behind_end = Unit {0}
IsBehind d (behind_name n) = Unit {0}
IsBehind d (in_binds n b) = IsBehind d b
IsBehind d (in_acts p t l sort b) = IsBehind d b
IsBehind d (behind_brace p t arms) = Unit {0}
IsBehind d _ = ⊥
