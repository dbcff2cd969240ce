-- Public: the session of each demo, for every count of roles: its names, its protocol and its machines.
use Rattle.std.specs.Prelude.{ℕ, suc, ◌+◌, ◌-◌, ◌/◌, ◌%◌, List, [], ◌∷◌, ◌++◌, map, codes, Bool, true, not, ◌==◌, nat_lt, Option, Some, None, if◌then◌else◌}
use Rattle.std.specs.List.{flat_map, range_with_len}
use Rattle.std.specs.Fmt.{decimal}
use Rattle.rs_model.specs.Data.{Names_data, Protocol_data, Machine_data}
use Rattle.rs_model.specs.declared.graph.Arm.{Arm}
use Rattle.rs_model.specs.declared.graph.Node.{Node}
use Rattle.rs_model.specs.declared.graph.Node.TheVariants.{Finished, Talk}
use Rattle.rs_model.specs.declared.graph.Role.{Role}
use Rattle.rs_model.specs.declared.machines.State.{State}
use Rattle.rs_model.specs.declared.machines.State.TheVariants.{Done, Puts, Takes}
use Rattle.rs_model.specs.declared.values.Sort.{Sort}
use Rattle.rs_model.specs.declared.values.Sort.TheVariants as sort
use Rattle.rs_model.specs.declared.demos.Demo.{Demo}
use Rattle.rs_model.specs.declared.demos.Demo.TheVariants as demo
use Rattle.rs_demos.specs.Numbers.{takes_numbers}

-- a demo has a session for n roles; the counts of double buffering and of the stream mean nothing
abbrev pub has_session : Demo → ℕ → Bool
has_session demo.Double n = true
has_session demo.Stream n = true
has_session kind n = takes_numbers kind n

-- parts of sessions

-- the role with that number
abbrev pub role : ℕ → Role
role p = record { 0 = p }

-- the arm with the label of that number
abbrev pub arm : ℕ → Sort → ℕ → Arm
arm label so next = record { label = record { 0 = label }; sort = so; next = next }

-- the machine of role p that starts in its first state
abbrev pub machine : ℕ → List State → Machine_data
machine p states = record { role = role p; states = states; start = 0 }

-- double buffering: K is role 0, S is 1 and T is 2; ready() has the label 0, copy(bytes) 1 and stop() 2

-- `rec X. K->S:ready(). T->K:ready(). S->K{copy(bytes). K->T:copy(bytes). X, stop(). K->S:ready(). K->T:stop(). end}`
abbrev pub double_protocol : Protocol_data
double_protocol = record {
  roles = 3;
  nodes =
      Talk (role 0) (role 1) (arm 0 sort.Unit 1 ∷ [])
      ∷ Talk (role 2) (role 0) (arm 0 sort.Unit 2 ∷ [])
      ∷ Talk (role 1) (role 0) (arm 1 sort.Octets 3 ∷ arm 2 sort.Unit 4 ∷ [])
      ∷ Talk (role 0) (role 2) (arm 1 sort.Octets 0 ∷ [])
      ∷ Talk (role 0) (role 1) (arm 0 sort.Unit 5 ∷ [])
      ∷ Talk (role 0) (role 2) (arm 2 sort.Unit 6 ∷ [])
      ∷ Finished
      ∷ [];
  root = 0;
}

-- `S!ready(). rec X. S!ready(). T?ready(). S?{copy(bytes). T!copy(bytes). X, stop(). T!stop(). end}`
abbrev pub double_kernel : Machine_data
double_kernel = machine 0
    (Puts (role 1) (arm 0 sort.Unit 1 ∷ [])
    ∷ Puts (role 1) (arm 0 sort.Unit 2 ∷ [])
    ∷ Takes (role 2) (arm 0 sort.Unit 3 ∷ [])
    ∷ Takes (role 1) (arm 1 sort.Octets 4 ∷ arm 2 sort.Unit 5 ∷ [])
    ∷ Puts (role 2) (arm 1 sort.Octets 1 ∷ [])
    ∷ Puts (role 2) (arm 2 sort.Unit 6 ∷ [])
    ∷ Done
    ∷ [])

-- `rec X. K?ready(). K!{copy(bytes). X, stop(). K?ready(). end}`
abbrev pub double_source : Machine_data
double_source = machine 1
    (Takes (role 0) (arm 0 sort.Unit 1 ∷ [])
    ∷ Puts (role 0) (arm 1 sort.Octets 0 ∷ arm 2 sort.Unit 2 ∷ [])
    ∷ Takes (role 0) (arm 0 sort.Unit 3 ∷ [])
    ∷ Done
    ∷ [])

-- `rec X. K!ready(). K?{copy(bytes). X, stop(). end}`
abbrev pub double_sink : Machine_data
double_sink = machine 2
    (Puts (role 0) (arm 0 sort.Unit 1 ∷ [])
    ∷ Takes (role 0) (arm 1 sort.Octets 0 ∷ arm 2 sort.Unit 2 ∷ [])
    ∷ Done
    ∷ [])

-- the stream: S is role 0 and T is 1; ready() has the label 0, value(bytes) 1 and stop() 2

-- `rec X. T->S:ready(). S->T{value(bytes). X, stop(). end}`
abbrev pub stream_protocol : Protocol_data
stream_protocol = record {
  roles = 2;
  nodes =
      Talk (role 1) (role 0) (arm 0 sort.Unit 1 ∷ [])
      ∷ Talk (role 0) (role 1) (arm 1 sort.Octets 0 ∷ arm 2 sort.Unit 2 ∷ [])
      ∷ Finished
      ∷ [];
  root = 0;
}

-- `T!value(bytes). rec X. T?ready(). T!{value(bytes). X, stop(). T?ready(). end}`
abbrev pub stream_source : Machine_data
stream_source = machine 0
    (Puts (role 1) (arm 1 sort.Octets 1 ∷ [])
    ∷ Takes (role 1) (arm 0 sort.Unit 2 ∷ [])
    ∷ Puts (role 1) (arm 1 sort.Octets 1 ∷ arm 2 sort.Unit 3 ∷ [])
    ∷ Takes (role 1) (arm 0 sort.Unit 4 ∷ [])
    ∷ Done
    ∷ [])

-- `rec X. S!ready(). S?{value(bytes). X, stop(). end}`
abbrev pub stream_sink : Machine_data
stream_sink = machine 1
    (Puts (role 0) (arm 0 sort.Unit 1 ∷ [])
    ∷ Takes (role 0) (arm 1 sort.Octets 0 ∷ arm 2 sort.Unit 2 ∷ [])
    ∷ Done
    ∷ [])

-- the ring and the butterfly: the role Ri is role i, and each message is v(int)

-- n numbers, of which the first is this
abbrev pub numbers_from : ℕ → ℕ → List ℕ
numbers_from first many = range_with_len first many

-- `Rs->Rr:v(int).` as a pair
abbrev pub Exchange : Type 0
Exchange = ℕ × ℕ

-- a protocol of exchanges, one after the other
abbrev pub nodes_from : ℕ → List Exchange → List Node
nodes_from n [] = Finished ∷ []
nodes_from n (x ∷ xs) = Talk (role x.0) (role x.1) (arm 0 sort.Whole (suc n) ∷ []) ∷ nodes_from (suc n) xs

-- a protocol of exchanges among n roles, one after the other
abbrev pub protocol_of : ℕ → List Exchange → Protocol_data
protocol_of n xs = record { roles = n; nodes = nodes_from 0 xs; root = 0 }

-- a machine that sends to the first of each pair, and receives from the second, one pair after the other:
-- `Rs!v(int). Rr?v(int).`
abbrev pub states_from : ℕ → List Exchange → List State
states_from s [] = Done ∷ []
states_from s (x ∷ xs) =
    Puts (role x.0) (arm 0 sort.Whole (suc s) ∷ [])
    ∷ Takes (role x.1) (arm 0 sort.Whole (suc (suc s)) ∷ [])
    ∷ states_from (suc (suc s)) xs

-- the ring: in a round each role sends to the next one

-- the role after role i
abbrev pub next_in_ring : ℕ → ℕ → ℕ
next_in_ring n i = (i + 1) % n

-- the role before role i
abbrev pub previous_in_ring : ℕ → ℕ → ℕ
previous_in_ring n i = (i + (n - 1)) % n

-- a round: each role sends once
abbrev pub ring_round : ℕ → List Exchange
ring_round n = map (λ (i : ℕ). (i, next_in_ring n i)) (numbers_from 0 n)

-- n - 1 rounds
abbrev pub ring_exchanges : ℕ → List Exchange
ring_exchanges n = flat_map (λ (round : ℕ). ring_round n) (numbers_from 1 (n - 1))

-- in each round role i sends to the next one and receives from the one before it
abbrev pub ring_pairs : ℕ → ℕ → List Exchange
ring_pairs n i = map (λ (round : ℕ). (next_in_ring n i, previous_in_ring n i)) (numbers_from 1 (n - 1))

-- the machine of role i in a ring of n
abbrev pub ring_machine : ℕ → ℕ → Machine_data
ring_machine n i = machine i (states_from 0 (ring_pairs n i))

-- the butterfly: a round for each of 1, 2, 4 and 8 that is below n, in which each role exchanges with the one whose
-- number differs in that bit

-- the bits of the rounds
abbrev pub steps : List ℕ
steps = 1 ∷ 2 ∷ 4 ∷ 8 ∷ []

-- the bit is clear in the number of role i
abbrev pub is_clear : ℕ → ℕ → Bool
is_clear step i = (i / step) % 2 == 0

-- the role whose number differs from i in that bit
abbrev pub partner : ℕ → ℕ → ℕ
partner step i = if is_clear step i then i + step else i - step

-- the role whose bit is clear sends first, and then the other
abbrev pub both_ways : ℕ → ℕ → List Exchange
both_ways step i = if is_clear step i then (i, i + step) ∷ (i + step, i) ∷ [] else []

-- the exchanges of a round, where its bit is below n
abbrev pub butterfly_round : ℕ → ℕ → List Exchange
butterfly_round n step = if nat_lt step n then flat_map (λ (i : ℕ). both_ways step i) (numbers_from 0 n) else []

-- the exchanges of all rounds
abbrev pub butterfly_exchanges : ℕ → List Exchange
butterfly_exchanges n = flat_map (λ (step : ℕ). butterfly_round n step) steps

-- in each round role i sends to its partner and receives from it
abbrev pub butterfly_pair : ℕ → ℕ → ℕ → List Exchange
butterfly_pair n i step = if nat_lt step n then (partner step i, partner step i) ∷ [] else []

-- the exchanges of all rounds
abbrev pub butterfly_pairs : ℕ → ℕ → List Exchange
butterfly_pairs n i = flat_map (λ (step : ℕ). butterfly_pair n i step) steps

-- the machine of role i in a butterfly of n
abbrev pub butterfly_machine : ℕ → ℕ → Machine_data
butterfly_machine n i = machine i (states_from 0 (butterfly_pairs n i))

-- sessions

-- R and the number
abbrev pub demo_role_name : ℕ → List ℕ
demo_role_name i = codes "R" ++ decimal i

-- the names of a demo's roles and labels
abbrev pub demo_names : Demo → ℕ → Names_data
demo_names demo.Double n = record { roles = codes "K" ∷ codes "S" ∷ codes "T" ∷ []; labels = codes "ready" ∷ codes "copy" ∷ codes "stop" ∷ [] }
demo_names demo.Stream n = record { roles = codes "S" ∷ codes "T" ∷ []; labels = codes "ready" ∷ codes "value" ∷ codes "stop" ∷ [] }
demo_names demo.Ring n = record { roles = map demo_role_name (numbers_from 0 n); labels = codes "v" ∷ [] }
demo_names demo.Butterfly n = record { roles = map demo_role_name (numbers_from 0 n); labels = codes "v" ∷ [] }

-- the protocol of a demo
abbrev pub demo_protocol : Demo → ℕ → Protocol_data
demo_protocol demo.Double n = double_protocol
demo_protocol demo.Stream n = stream_protocol
demo_protocol demo.Ring n = protocol_of n (ring_exchanges n)
demo_protocol demo.Butterfly n = protocol_of n (butterfly_exchanges n)

-- the machines, in role order
abbrev pub demo_machines : Demo → ℕ → List Machine_data
demo_machines demo.Double n = double_kernel ∷ double_source ∷ double_sink ∷ []
demo_machines demo.Stream n = stream_source ∷ stream_sink ∷ []
demo_machines demo.Ring n = map (ring_machine n) (numbers_from 0 n)
demo_machines demo.Butterfly n = map (butterfly_machine n) (numbers_from 0 n)

-- whether the text has a line for a role's machine: for K, for S, and for each role of a ring or a butterfly but the
-- first; the others run their projections
abbrev pub has_line : Demo → ℕ → Bool
has_line demo.Double p = p == 0
has_line demo.Stream p = p == 0
has_line demo.Ring p = not (p == 0)
has_line demo.Butterfly p = not (p == 0)

-- the machine, where the text has a line for it
abbrev pub machine_with_line : Demo → Machine_data → Option Machine_data
machine_with_line kind m = if has_line kind m.role.0 then Some m else None

-- the machine of each role, where the text has a line for it
abbrev pub written_machines : Demo → ℕ → List (Option Machine_data)
written_machines kind n = map (machine_with_line kind) (demo_machines kind n)
