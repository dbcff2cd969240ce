-- Steps: the texts of the ring and of the butterfly, as they are written.
use Rattle.std.specs.Prelude.{ℕ, ◌-◌, List, ◌++◌, codes}
use Rattle.std.specs.List.{flat_map}
use Rattle.rs_demos.specs.Sessions.{Exchange, demo_role_name, numbers_from, ring_exchanges, ring_pairs, butterfly_exchanges, butterfly_pairs}

-- `Rs->Rr:v(int). `
abbrev pub exchange_text : Exchange → List ℕ
exchange_text x = demo_role_name x.0 ++ (codes "->" ++ (demo_role_name x.1 ++ codes ":v(int). "))

-- `Rs->Rr:v(int). ` for each exchange, one after the other
abbrev pub exchanges_text : List Exchange → List ℕ
exchanges_text xs = flat_map exchange_text xs

-- `Rs!v(int). Rr?v(int). `
abbrev pub exchange_acts_text : Exchange → List ℕ
exchange_acts_text x = demo_role_name x.0 ++ (codes "!v(int). " ++ (demo_role_name x.1 ++ codes "?v(int). "))

-- `Rs!v(int). Rr?v(int). ` for each pair, one after the other
abbrev pub pairs_text : List Exchange → List ℕ
pairs_text xs = flat_map exchange_acts_text xs

-- a further role on the roles line
abbrev pub other_name : ℕ → List ℕ
other_name i = codes ", " ++ demo_role_name i

-- the roles line
abbrev pub roles_text : ℕ → List ℕ
roles_text n = codes "roles R0" ++ (flat_map other_name (numbers_from 1 (n - 1)) ++ codes "\n")

-- `machine Ri: `, its acts and `end`
abbrev pub machine_line : ℕ → List Exchange → List ℕ
machine_line i xs = codes "machine " ++ (demo_role_name i ++ (codes ": " ++ (pairs_text xs ++ codes "end\n")))

-- the roles line and the line of the protocol
abbrev pub front_text : ℕ → List Exchange → List ℕ
front_text n xs = roles_text n ++ (codes "protocol " ++ (exchanges_text xs ++ codes "end\n"))

-- the line of role i in a ring of n
abbrev pub ring_line : ℕ → ℕ → List ℕ
ring_line n i = machine_line i (ring_pairs n i)

-- the line of role i in a butterfly of n
abbrev pub butterfly_line : ℕ → ℕ → List ℕ
butterfly_line n i = machine_line i (butterfly_pairs n i)

-- the text of a ring of n roles
abbrev pub ring_text : ℕ → List ℕ
ring_text n = front_text n (ring_exchanges n) ++ flat_map (ring_line n) (numbers_from 1 (n - 1))

-- the text of a butterfly of n roles
abbrev pub butterfly_text : ℕ → List ℕ
butterfly_text n = front_text n (butterfly_exchanges n) ++ flat_map (butterfly_line n) (numbers_from 1 (n - 1))
