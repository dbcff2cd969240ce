-- Public: the first fault of a protocol, and what each fault says.
use Rattle.std.specs.Prelude.{◌≡◌, ◌⊎◌, ℕ, ◌+◌, ◌<◌, ◌≤◌, List, [], ◌∷◌, ◌++◌, length, slice_get, not, ◌==◌, nat_le, nat_lt, Option, Some}
use Rattle.rs_model.specs.declared.limits.TheConstants.{MOST_ARMS}
use Rattle.rs_model.specs.FirstFailed.{Test, first_failed, label_tests, next_tests}
use Rattle.rs_model.specs.Data.{Protocol_data}
use Rattle.rs_model.specs.Faults.{StandsTwice}
use Rattle.rs_model.specs.Talks.{Talks}
use Rattle.rs_model.specs.declared.graph.Arm.{Arm}
use Rattle.rs_model.specs.declared.graph.Node.{Node}
use Rattle.rs_model.specs.declared.graph.Node.TheVariants.{Finished, Talk}
use Rattle.rs_model.specs.declared.graph.Role.{Role}
use Rattle.rs_wellformed.specs.declared.checks.WfFault.{WfFault}
use Rattle.rs_wellformed.specs.declared.checks.WfFault.TheVariants.{SelfTalk, NoArms, TooManyArms, TwiceLabel, BadNext}

-- whether the sender and the receiver are among so many roles
abbrev pub role_tests : ℕ → ℕ → Role → Role → List (Test WfFault)
role_tests n roles sender receiver =
    record { passes = nat_lt sender.0 roles; fault = BadNext n }
    ∷ record { passes = nat_lt receiver.0 roles; fault = BadNext n }
    ∷ []

-- the tests of the talk at node n: two roles, some arms, at most 32, all labels, all nexts, both roles known
abbrev pub talk_tests : Protocol_data → ℕ → Role → Role → List Arm → List (Test WfFault)
talk_tests p n sender receiver arms =
    record { passes = not (sender.0 == receiver.0); fault = SelfTalk n }
    ∷ record { passes = nat_lt 0 (length arms); fault = NoArms n }
    ∷ record { passes = nat_le (length arms) MOST_ARMS; fault = TooManyArms n }
    ∷ (label_tests (λ l. TwiceLabel n l) arms [] ++ (next_tests (BadNext n) (length p.nodes) arms ++ role_tests n p.roles sender receiver))

-- those of node n, of any kind
abbrev pub node_tests : Protocol_data → ℕ → Node → List (Test WfFault)
node_tests p n Finished = []
node_tests p n (Talk sender receiver arms) = talk_tests p n sender receiver arms

-- those of the nodes in order, the first of which has the number n
abbrev pub nodes_tests : Protocol_data → List Node → ℕ → List (Test WfFault)
nodes_tests p [] n = []
nodes_tests p (node ∷ later) n = node_tests p n node ++ nodes_tests p later (n + 1)

-- all tests of a protocol, in order: the root, and those of the nodes
abbrev pub tests_of : Protocol_data → List (Test WfFault)
tests_of p =
    record { passes = nat_lt p.root (length p.nodes); fault = BadNext p.root } ∷ nodes_tests p p.nodes 0

-- the fault of the first test that the protocol doesn't pass
unfoldable pub first_fault : Protocol_data → Option WfFault
first_fault p = first_failed (tests_of p)

-- an arm leads to none of so many nodes
pub record ArmLeadsOut (count : ℕ) (arms : List Arm) : Type 0 where
  pub place : ℕ
  pub arm : Arm
  pub stands : slice_get arms place ≡ Some arm
  pub out : count ≤ arm.next

-- what each fault says of the protocol
abbrev pub Blames : Protocol_data → WfFault → Type 0
Blames p (SelfTalk n) = (role : Role) × (arms : List Arm) × Talks p n role role arms
Blames p (NoArms n) = (sender : Role) × (receiver : Role) × Talks p n sender receiver []
Blames p (TooManyArms n) =
    (sender : Role) × (receiver : Role) × (arms : List Arm) × Talks p n sender receiver arms × (MOST_ARMS < length arms)
Blames p (TwiceLabel n label) =
    (sender : Role) × (receiver : Role) × (arms : List Arm) × Talks p n sender receiver arms × StandsTwice arms label
Blames p (BadNext n) =
    ((n ≡ p.root) × (length p.nodes ≤ p.root))
    ⊎ ((sender : Role) × (receiver : Role) × (arms : List Arm) × Talks p n sender receiver arms
    × (ArmLeadsOut (length p.nodes) arms ⊎ ((p.roles ≤ sender.0) ⊎ (p.roles ≤ receiver.0))))
