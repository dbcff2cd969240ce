-- Steps: what the search over the graph keeps: flags of nodes.
use Rattle.std.specs.Prelude.{◌≡◌, ◌≢◌, ◌⊎◌, ◌↔◌, ℕ, ◌<◌, ◌≤◌, ◌^◌, Bool, true, false, suc, List, [], ◌∷◌, ◌++◌, length, drop, slice_index_or, slice_set, if◌then◌else◌, ◌==◌, ◌||◌, ◌&&◌, not, Option}
use Rattle.std.specs.Prelude.{None, Some, slice_get}
use Rattle.std.specs.List.{All}
use Rattle.rs_model.specs.Data.{Protocol_data}
use Rattle.rs_model.specs.declared.graph.Arm.{Arm}
use Rattle.rs_model.specs.declared.graph.Label.{Label}
use Rattle.rs_model.specs.declared.graph.Node.{Node}
use Rattle.rs_model.specs.declared.graph.Node.TheVariants.{Finished, Talk}
use Rattle.rs_model.specs.declared.graph.Role.{Role}
use Rattle.rs_wellformed.specs.WellFormed.{IsWellFormed}
use Rattle.rs_graph.specs.Lists.{Among}
use Rattle.rs_project.specs.Numbered.{nexts_of}
use Rattle.rs_project.specs.Graph.{PathStep, LeadsTo, IsPath, IsReached, IsReachedFrom, Involves, IsIdle, PassesBy, MeetsFirst, MeetsTheEnd, IsUnreached}

-- the flag of node n is set
abbrev pub IsOn : List Bool → ℕ → Type 0
IsOn flags n = slice_index_or flags n false ≡ true

-- the number of flags that aren't set
abbrev pub count_of_lowered : List Bool → ℕ
count_of_lowered [] = 0
count_of_lowered (b ∷ bs) = if b then count_of_lowered bs else suc (count_of_lowered bs)

-- the flags of all nodes at which a step is made are set
abbrev pub AllOn : List Bool → List PathStep → Type 0
AllOn flags [] = Unit {0}
AllOn flags (s ∷ ss) = IsOn flags s.node × AllOn flags ss

-- node n is reached from one of the starts, on a path through flagged nodes
pub record Spreads (protocol : Protocol_data) (through : List Bool) (starts : List ℕ) (n : ℕ) : Type 0 where
  pub start : ℕ
  pub among : Among starts start
  pub steps : List PathStep
  pub path : IsPath protocol start steps n
  pub earlier : AllOn through steps

-- the numbers to which the arms of a node lead
abbrev pub nexts_of_node : Node → List ℕ
nexts_of_node Finished = []
nexts_of_node (Talk sender receiver arms) = nexts_of arms

-- each arm leads to one of the first n nodes
abbrev pub LeadsWithin : ℕ → Node → Type 0
LeadsWithin count Finished = Unit {0}
LeadsWithin count (Talk sender receiver arms) = All (λ (a : Arm). a.next < count) arms

-- marks that spread so far: the nodes of `todo` are still to be gone on from, and those of `soon` are still to be marked
pub record Spreading (protocol : Protocol_data) (through : List Bool) (starts : List ℕ) (marks : List Bool) (todo soon : List ℕ) : Type 0 where
  pub sound : (n : ℕ) → IsOn marks n → Spreads protocol through starts n
  pub right : (n : ℕ) → Among soon n → Spreads protocol through starts n
  pub listed : (n : ℕ) → Among todo n → IsOn marks n
  pub begun : (s : ℕ) → Among starts s → IsOn marks s ⊎ Among soon s
  pub closed : (n place next : ℕ) → IsOn marks n → IsOn through n → LeadsTo protocol n place next
      → IsOn marks next ⊎ (Among todo n ⊎ Among soon next)

-- flags of nodes, and the numbers of the nodes that were marked
pub record Marks_data : Type 0 where
  pub flags : List Bool
  pub numbers : List ℕ

-- the numbers are those of the flags that are set
abbrev pub AreListed : List Bool → List ℕ → Type 0
AreListed flags numbers = (n : ℕ) → IsOn flags n ↔ Among numbers n

-- the marks with that of one more node
abbrev pub with_mark : Marks_data → ℕ → Marks_data
with_mark marks n = record { flags = slice_set marks.flags n true; numbers = marks.numbers ++ (n ∷ []) }

-- the flags without those of these nodes
abbrev pub flags_without : List ℕ → List Bool → List Bool
flags_without [] flags = flags
flags_without (n ∷ ns) flags = flags_without ns (slice_set flags n false)

-- marks that spread so far: the arms of the first n marked nodes were followed, and the nodes of `soon` are
-- still to be marked
pub record Walking (protocol : Protocol_data) (through : List Bool) (starts : List ℕ) (marks : Marks_data) (done : ℕ) (soon : List ℕ) : Type 0 where
  pub within : done ≤ length marks.numbers
  pub going : Spreading protocol through starts marks.flags (drop done marks.numbers) soon

-- the marks are those of all nodes to which the starts spread
pub record IsSpread (protocol : Protocol_data) (through : List Bool) (starts : List ℕ) (marks : List Bool) : Type 0 where
  pub size : length marks ≡ length protocol.nodes
  pub sound : (n : ℕ) → IsOn marks n → Spreads protocol through starts n
  pub whole : (n : ℕ) → Spreads protocol through starts n → IsOn marks n

-- from node n a talk of the role can be reached
pub record IsAwaited (protocol : Protocol_data) (role : Role) (n : ℕ) : Type 0 where
  pub talk : ℕ
  pub reached : IsReachedFrom protocol n talk
  pub involved : Involves protocol role talk

-- some arm leads to a flagged node
abbrev pub any_on : List Bool → List Arm → Bool
any_on flags [] = false
any_on flags (a ∷ arms) = if slice_index_or flags a.next false then true else any_on flags arms

-- whether an arm of the node leads to a flagged one
abbrev pub leads_on : List Bool → Node → Bool
leads_on flags Finished = false
leads_on flags (Talk sender receiver arms) = any_on flags arms

-- the node is a talk of the role
abbrev pub involves_role : Role → Node → Bool
involves_role role Finished = false
involves_role role (Talk sender receiver arms) = (sender.0 == role.0) || (receiver.0 == role.0)

-- only nodes are flagged from which a talk of the role can be reached
abbrev pub AllAwaited : Protocol_data → Role → List Bool → Type 0
AllAwaited protocol role flags = (n : ℕ) → IsOn flags n → IsAwaited protocol role n

-- a node that leads to a flagged node is flagged
abbrev pub IsSettled : Protocol_data → List Bool → Type 0
IsSettled protocol flags = (n : ℕ) (node : Node) → slice_get protocol.nodes n ≡ Some node → leads_on flags node ≡ true → IsOn flags n

-- the second list has all flags of the first
abbrev pub HasFlags : List Bool → List Bool → Type 0
HasFlags old new = (n : ℕ) → IsOn old n → IsOn new n

-- the flags are those of the nodes that are reached from the root and pass by the role
pub record IsLive (protocol : Protocol_data) (role : Role) (flags : List Bool) : Type 0 where
  pub size : length flags ≡ length protocol.nodes
  pub reached : (n : ℕ) → IsOn flags n → IsReached protocol n
  pub passing : (n : ℕ) → IsOn flags n → PassesBy protocol role n
  pub whole : (n : ℕ) → IsReached protocol n → PassesBy protocol role n → IsOn flags n

-- the rows of the first n nodes: if a node is flagged, its row has the numbers to which its arms lead
pub record AreRows (protocol : Protocol_data) (flags : List Bool) (count : ℕ) (rows : List (List ℕ)) : Type 0 where
  pub size : length rows ≡ count
  pub each : (n : ℕ) (node : Node) → n < count → slice_get protocol.nodes n ≡ Some node
      → slice_index_or rows n [] ≡ (if slice_index_or flags n false then nexts_of_node node else [])

-- all unreached nodes are flagged
pub record HasUnreached (protocol : Protocol_data) (role : Role) (flags : List Bool) : Type 0 where
  pub size : length flags ≡ length protocol.nodes
  pub whole : (n : ℕ) → IsUnreached protocol role n → IsOn flags n

-- the role meets from node n what it meets from the other one
pub record StandsFor (protocol : Protocol_data) (role : Role) (n other : ℕ) : Type 0 where
  pub meets : (talk : ℕ) → MeetsFirst protocol role n talk ↔ MeetsFirst protocol role other talk
  pub ends : MeetsTheEnd protocol role n ↔ MeetsTheEnd protocol role other

-- for each node from that number on, where the run that begins there ends: a node from which the role meets the same
pub record AreRunEnds (protocol : Protocol_data) (role : Role) (from : ℕ) (ends : List ℕ) : Type 0 where
  pub size : length ends ≡ length protocol.nodes
  pub within : (n : ℕ) → from ≤ n → n < length protocol.nodes → slice_index_or ends n 0 < length protocol.nodes
  pub stands : (n : ℕ) → from ≤ n → n < length protocol.nodes → StandsFor protocol role n (slice_index_or ends n 0)

-- of the nodes from that number on the flags say which involve the role, from some of them it is known that a talk of the role
-- can be reached, those of them that don't involve it are passing, and runs were followed; no node before is flagged
pub record AreMarked (protocol : Protocol_data) (role : Role) (from : ℕ) (involved awaited passing : List Bool) (ends : List ℕ) : Type 0 where
  pub talks : (n : ℕ) → IsOn involved n → Involves protocol role n
  pub whole : (n : ℕ) → from ≤ n → Involves protocol role n → IsOn involved n
  pub has : HasFlags involved awaited
  pub reaches : AllAwaited protocol role awaited
  pub later : (n : ℕ) → IsOn awaited n → from ≤ n
  pub passes : (n : ℕ) → slice_index_or passing n false ≡ (slice_index_or awaited n false && not (slice_index_or involved n false))
  pub runs : AreRunEnds protocol role from ends

-- of the nodes from that number on all that aren't flagged are those from the first to before the end, or some of them
pub record AreLeft (from first end : ℕ) (flags : List Bool) : Type 0 where
  pub within : end ≤ length flags
  pub each : (n : ℕ) → from ≤ n → n < length flags → (IsOn flags n → ⊥) → (first ≤ n) × (n < end)

-- the arms lead to nodes whose runs all end at that node
abbrev pub have_end : List ℕ → ℕ → List Arm → Bool
have_end ends end [] = true
have_end ends end (a ∷ arms) = if slice_index_or ends a.next 0 == end then have_end ends end arms else false

-- there are arms, and the runs after all of them end at that node
abbrev pub HasEnd : List ℕ → ℕ → List Arm → Type 0
HasEnd ends end arms = (arms ≢ []) × (have_end ends end arms ≡ true)

-- the run from node n, which has these arms, ends where it ended, or where the runs after all arms do
abbrev pub GoesOn : List Arm → ℕ → List ℕ → List ℕ → Type 0
GoesOn arms n old new = (new ≡ old) ⊎ ((end : ℕ) × HasEnd old end arms × (new ≡ slice_set old n end))

-- two flags and an end for each node
pub record HaveNodeSizes (protocol : Protocol_data) (awaited passing : List Bool) (ends : List ℕ) : Type 0 where
  pub awaited_size : length awaited ≡ length protocol.nodes
  pub passing_size : length passing ≡ length protocol.nodes
  pub ends_size : length ends ≡ length protocol.nodes

-- what is known of the nodes for the role: which involve the role, from which a talk of it can be reached, which pass by
-- it, and where the runs of these end
pub record Survey_data : Type 0 where
  pub protocol : Protocol_data
  pub role : Role
  pub involved : List Bool
  pub awaited : List Bool
  pub passing : List Bool
  pub run_ends : List ℕ

-- the survey says this of each node of the protocol
pub record IsSurvey (protocol : Protocol_data) (role : Role) (survey : Survey_data) : Type 0 where
  pub involved_size : length survey.involved ≡ length protocol.nodes
  pub awaited_size : length survey.awaited ≡ length protocol.nodes
  pub passing_size : length survey.passing ≡ length protocol.nodes
  pub involved : (n : ℕ) → IsOn survey.involved n ↔ Involves protocol role n
  pub awaited : (n : ℕ) → IsOn survey.awaited n → IsAwaited protocol role n
  pub idle : (n : ℕ) → (IsOn survey.awaited n → ⊥) → IsIdle protocol role n
  pub passing : (n : ℕ) → IsOn survey.passing n ↔ PassesBy protocol role n

-- the protocol is well formed, its nodes have numbers below 2^32, and what the survey says of each is true
pub record IsTrueSurvey (known : Survey_data) : Type 0 where
  pub well_formed : IsWellFormed known.protocol
  pub bounded : length known.protocol.nodes < 2 ^ 32
  pub survey : IsSurvey known.protocol known.role known
  pub runs : AreRunEnds known.protocol known.role 0 known.run_ends

-- the talk involves the role, and is the one that it meets first from node n; nor does it meet the end
pub record MeetsOnly (protocol : Protocol_data) (role : Role) (n talk : ℕ) : Type 0 where
  pub met : MeetsFirst protocol role n talk
  pub only : (other : ℕ) → MeetsFirst protocol role n other → talk ≡ other
  pub never : MeetsTheEnd protocol role n → ⊥

-- one of the starts meets the talk first
pub record StartMeets (protocol : Protocol_data) (role : Role) (starts : List ℕ) (talk : ℕ) : Type 0 where
  pub start : ℕ
  pub among : Among starts start
  pub meets : MeetsFirst protocol role start talk

-- one of the starts may meet the end
pub record StartEnds (protocol : Protocol_data) (role : Role) (starts : List ℕ) : Type 0 where
  pub start : ℕ
  pub among : Among starts start
  pub ends : MeetsTheEnd protocol role start

-- the numbers to which the arms with the label lead
abbrev pub labelled_nexts : Label → List Arm → List ℕ
labelled_nexts label [] = []
labelled_nexts label (a ∷ arms) = if a.label.0 == label.0 then a.next ∷ labelled_nexts label arms else labelled_nexts label arms

-- the nodes to which the arms of a node with the label lead
abbrev pub labelled_nexts_of : Label → Option Node → List ℕ
labelled_nexts_of label None = []
labelled_nexts_of label (Some Finished) = []
labelled_nexts_of label (Some (Talk sender receiver arms)) = labelled_nexts label arms

-- the arms of a node
abbrev pub arms_of_node : Node → List Arm
arms_of_node Finished = []
arms_of_node (Talk sender receiver arms) = arms
