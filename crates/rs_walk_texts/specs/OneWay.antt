-- Public: talks of a walk that lie on one way of the protocol.
use Rattle.std.specs.Prelude.{ℕ, zero, suc, Bool, true, false, not, ◌==◌, ◌&&◌, ◌||◌, List, [], ◌∷◌, length, replicate, slice_index_or, slice_set, if◌then◌else◌, Option, Some, None}
use Rattle.rs_model.specs.FirstFailed.{or_later}
use Rattle.rs_model.specs.declared.graph.Arm.{Arm}
use Rattle.rs_model.specs.declared.graph.Node.{Node}
use Rattle.rs_model.specs.declared.graph.Node.TheVariants.{Finished, Talk}
use Rattle.rs_model.specs.declared.graph.Role.{Role}
use Rattle.rs_walk_texts.specs.declared.passed.TalkArm.{TalkArm}

-- the node is a talk of the role
abbrev pub is_own : Role → Node → Bool
is_own role Finished = false
is_own role (Talk sender receiver arms) = (sender.0 == role.0) || (receiver.0 == role.0)

-- one of these arms leads to a flagged node
abbrev pub any_on : List Bool → List Arm → Bool
any_on flags [] = false
any_on flags (a ∷ arms) = slice_index_or flags a.next false || any_on flags arms

-- an arm of the node does
abbrev pub leads_on : List Bool → Node → Bool
leads_on flags Finished = false
leads_on flags (Talk sender receiver arms) = any_on flags arms

-- of nodes that have these flags: a flag stands that stood, and that of a talk of others of which an arm leads to a node that is flagged among all
abbrev pub spread_over : Role → List Bool → List Node → List Bool → List Bool
spread_over role all [] flags = []
spread_over role all (node ∷ nodes) [] = []
spread_over role all (node ∷ nodes) (b ∷ flags) = (b || (not (is_own role node) && leads_on all node)) ∷ spread_over role all nodes flags

-- of each node whether the role may come from it to the talk by so many talks of others at most
abbrev pub toward : List Node → Role → ℕ → ℕ → List Bool
toward nodes role talk zero = slice_set (replicate (length nodes) false) talk true
toward nodes role talk (suc count) = spread_over role (toward nodes role talk count) nodes (toward nodes role talk count)

-- of each node whether the role may meet the talk first from it
abbrev pub meeting : List Node → Role → ℕ → List Bool
meeting nodes role talk = toward nodes role talk (length nodes)

-- the talk, where there is one and its arm leads to a flagged node
abbrev pub flagged : List Bool → Option TalkArm → Option TalkArm
flagged flags None = None
flagged flags (Some t) = if slice_index_or flags t.arm.next false then Some t else None

-- the first talk that there is
abbrev pub first_some : List (Option TalkArm) → Option TalkArm
first_some [] = None
first_some (t ∷ later) = or_later t (first_some later)
