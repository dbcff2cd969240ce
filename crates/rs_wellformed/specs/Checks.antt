-- Steps: the first fault of a protocol, as the code finds it.
use Rattle.std.specs.Prelude.{ℕ, ◌+◌, List, [], ◌∷◌, length, ◌==◌, ◌||◌, nat_lt, nat_le, if◌then◌else◌, Option, Some, None}
use Rattle.std.specs.List.{list_any}
use Rattle.rs_model.specs.declared.limits.TheConstants.{MOST_ARMS}
use Rattle.rs_model.specs.FirstFailed.{or_later, label_fault}
use Rattle.rs_model.specs.Repeats.{first_repeat}
use Rattle.rs_model.specs.Data.{Protocol_data}
use Rattle.rs_model.specs.declared.graph.Arm.{Arm}
use Rattle.rs_model.specs.declared.graph.Node.{Node}
use Rattle.rs_model.specs.declared.graph.Node.TheVariants.{Finished, Talk}
use Rattle.rs_model.specs.declared.graph.Role.{Role}
use Rattle.rs_wellformed.specs.declared.checks.WfFault.{WfFault}
use Rattle.rs_wellformed.specs.declared.checks.WfFault.TheVariants.{SelfTalk, NoArms, TooManyArms, TwiceLabel, BadNext}

-- the sender is the receiver
abbrev pub self_fault : ℕ → Role → Role → Option WfFault
self_fault n sender receiver = if sender.0 == receiver.0 then Some (SelfTalk n) else None

-- no arms, or more than 32
abbrev pub count_fault : ℕ → List Arm → Option WfFault
count_fault n arms =
    if length arms == 0 then Some (NoArms n) else (if nat_le (length arms) MOST_ARMS then None else Some (TooManyArms n))

-- an arm leads to no node, or the sender or the receiver is none of the roles
abbrev pub next_fault : Protocol_data → ℕ → Role → Role → List Arm → Option WfFault
next_fault p n sender receiver arms =
    if list_any (λ a. nat_le (length p.nodes) a.next) arms || (nat_le p.roles sender.0 || nat_le p.roles receiver.0)
    then Some (BadNext n) else None

-- the first fault of the talk at node n
abbrev pub talk_fault : Protocol_data → ℕ → Role → Role → List Arm → Option WfFault
talk_fault p n sender receiver arms =
    or_later (self_fault n sender receiver)
    (or_later (count_fault n arms)
    (or_later (label_fault (λ l. TwiceLabel n l) (first_repeat arms [])) (next_fault p n sender receiver arms)))

-- that of node n, of any kind
abbrev pub node_fault : Protocol_data → ℕ → Node → Option WfFault
node_fault p n Finished = None
node_fault p n (Talk sender receiver arms) = talk_fault p n sender receiver arms

-- that of the nodes in order, the first of which has the number n
abbrev pub nodes_fault : Protocol_data → List Node → ℕ → Option WfFault
nodes_fault p [] n = None
nodes_fault p (node ∷ later) n = or_later (node_fault p n node) (nodes_fault p later (n + 1))

-- the root is no node
abbrev pub root_fault : Protocol_data → Option WfFault
root_fault p = if nat_lt p.root (length p.nodes) then None else Some (BadNext p.root)

-- the first fault of a protocol
abbrev pub protocol_fault : Protocol_data → Option WfFault
protocol_fault p = or_later (root_fault p) (nodes_fault p p.nodes 0)
