-- Headline: the two dialects of bodies, and all that they differ in.
use Rattle.std.specs.Prelude.{ℕ, List, [], ◌∷◌, Bool, true, false}
use Rattle.rs_model.specs.declared.graph.Arm.{Arm}
use Rattle.rs_model.specs.declared.graph.Role.{Role}
use Rattle.rs_model.specs.declared.machines.State.{State}
use Rattle.rs_model.specs.declared.machines.State.TheVariants as state
use Rattle.rs_model.specs.declared.limits.TheConstants.{MOST_ACTS, MOST_TALKS}
use Rattle.rs_text.specs.Signs.{Sign, plain, arrow, bang, question, colon}
use Rattle.rs_bodies.specs.declared.dialects.Dialect.{Dialect}
use Rattle.rs_bodies.specs.declared.dialects.Dialect.TheVariants.{Talks, Acts}
use Rattle.rs_bodies.specs.declared.dialects.Mark.{Mark}
use Rattle.rs_bodies.specs.declared.dialects.Mark.TheVariants as mark

-- what stands behind the first role of a head: an arrow and the receiver, or a mark
pub data BehindRole : Dialect → Type 0 where
  sends_to : (receiver : List ℕ) → BehindRole Talks
  with_mark : (mark : Mark) → BehindRole Acts

-- ! sends, ? receives
abbrev pub mark_sign : Mark → Sign
mark_sign mark.Puts = bang
mark_sign mark.Takes = question

-- puts to the peer by these arms, or takes from it
abbrev pub state_by_mark : Mark → Role → List Arm → State
state_by_mark mark.Puts peer arms = state.Puts peer arms
state_by_mark mark.Takes peer arms = state.Takes peer arms

-- the tokens of a turn
abbrev pub turn_signs : (d : Dialect) → BehindRole d → List Sign
turn_signs Talks (sends_to r) = arrow ∷ plain r ∷ []
turn_signs Acts (with_mark m) = mark_sign m ∷ []

-- what stands before a single arm
abbrev pub lone_signs : Dialect → List Sign
lone_signs Talks = colon ∷ []
lone_signs Acts = []

-- the dialect of protocols
abbrev pub is_talks : Dialect → Bool
is_talks Talks = true
is_talks Acts = false

-- the dialect of machines
abbrev pub is_acts : Dialect → Bool
is_acts Talks = false
is_acts Acts = true

-- whether the sign behind a word makes it a role
abbrev pub turns : Dialect → Sign → Bool
turns d arrow = is_talks d
turns d bang = is_acts d
turns d question = is_acts d
turns d _ = false

-- heads at most
abbrev pub most : Dialect → ℕ
most Talks = MOST_TALKS
most Acts = MOST_ACTS
