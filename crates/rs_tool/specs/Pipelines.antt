-- Public: the pipelines that are made from numbers, and their documents.
use Rattle.std.specs.Prelude.{ℕ, zero, suc, ◌+◌, ◌-◌, ◌%◌, List, [], ◌++◌, codes}
use Rattle.std.specs.Fmt.{decimal}
use Rattle.rs_tool.specs.declared.pipelines.Pipeline.{Pipeline}

-- the pipeline of a number: 2 to 15 roles, 0 to 4 values that are sent ahead, 1 to 61 rounds
abbrev pub pipeline_of : ℕ → Pipeline
pipeline_of number = record { roles = 2 + number % 14; ahead = number % 5; rounds = 1 + number % 61 }

-- `R` and the number of the role
abbrev pub numbered_role : ℕ → List ℕ
numbered_role role = codes "R" ++ decimal role

-- `, R1, R2` and so on: so many names behind the first one
abbrev pub more_names : (count : ℕ) → List ℕ
more_names zero = []
more_names (suc count) = more_names count ++ codes ", " ++ numbered_role (count + 1)

-- `R0->R1:v(nat). `: a value goes from this role to the next one
abbrev pub handover_text : ℕ → List ℕ
handover_text role = numbered_role role ++ codes "->" ++ numbered_role (role + 1) ++ codes ":v(nat). "

-- a value goes from each of the first so many roles to the next one
abbrev pub values_text : (count : ℕ) → List ℕ
values_text zero = []
values_text (suc count) = values_text count ++ handover_text count

-- a round: a value goes from the first role to the last one, and that one acknowledges it to the first
abbrev pub round_text : (last : ℕ) → List ℕ
round_text last = values_text last ++ numbered_role last ++ codes "->R0:ack(). "

-- so many rounds
abbrev pub rounds_text : (last count : ℕ) → List ℕ
rounds_text last zero = []
rounds_text last (suc count) = rounds_text last count ++ round_text last

-- the roles line, and the protocol: all rounds, again and again
abbrev pub pipeline_protocol : Pipeline → List ℕ
pipeline_protocol p = codes "roles R0" ++ more_names (p.roles - 1) ++ codes "\nprotocol rec X0. " ++ rounds_text (p.roles - 1) p.rounds ++ codes "X0\n"

-- so many sends of the first role to the next one
abbrev pub sends_text : (count : ℕ) → List ℕ
sends_text zero = []
sends_text (suc count) = sends_text count ++ codes "R1!v(nat). "

-- the name of the loop of the first role's machine: the number of its first act, behind those that are sent ahead
abbrev pub loop_name : Pipeline → List ℕ
loop_name p = codes "X" ++ decimal p.ahead

-- the loop: again and again the first role sends a value and takes an acknowledgement
abbrev pub loop_text : Pipeline → List ℕ
loop_text p = codes "rec " ++ loop_name p ++ codes ". R1!v(nat). " ++ numbered_role (p.roles - 1) ++ codes "?ack(). " ++ loop_name p

-- the machine of the first role: it sends the values ahead, and then goes round its loop
abbrev pub pipeline_machine : Pipeline → List ℕ
pipeline_machine p = codes "machine R0: " ++ sends_text p.ahead ++ loop_text p ++ codes "\n"

-- the machine is there where values are sent ahead; else the first role runs its projection
abbrev pub machine_or_nothing : (ahead : ℕ) → Pipeline → List ℕ
machine_or_nothing zero p = []
machine_or_nothing (suc ahead) p = pipeline_machine p

-- the document of a pipeline
abbrev pub pipeline_text : Pipeline → List ℕ
pipeline_text p = pipeline_protocol p ++ machine_or_nothing p.ahead p

-- the line that says what the pipeline is
abbrev pub pipeline_summary : Pipeline → List ℕ
pipeline_summary p = codes "roles " ++ decimal p.roles ++ codes " ahead " ++ decimal p.ahead ++ codes " rounds " ++ decimal p.rounds ++ codes "\n"
