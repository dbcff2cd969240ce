-- Public: the answers that refuse, by the reason.
use Rattle.std.specs.Prelude.{ℕ, List, [], ◌∷◌, codes, Bool, true, false, Option, Some, None}
use Rattle.std.specs.Fmt.{decimal}
use Rattle.rs_model.specs.Data.{Names_data}
use Rattle.rs_model.specs.declared.checks.MachineFault.{MachineFault}
use Rattle.rs_model.specs.declared.checks.MachineFault.TheVariants as bad
use Rattle.rs_model.specs.declared.graph.Label.{Label}
use Rattle.rs_model.specs.declared.graph.Role.{Role}
use Rattle.rs_text.specs.NamePlaces.{name_at}
use Rattle.rs_text.specs.Faults.{wanted_text}
use Rattle.rs_text.specs.Places.{line_of, column_of}
use Rattle.rs_text.specs.declared.faults.TextKind.{TextKind}
use Rattle.rs_text.specs.declared.faults.TextKind.TheVariants as kind
use Rattle.rs_wellformed.specs.declared.checks.WfFault.{WfFault}
use Rattle.rs_wellformed.specs.declared.checks.WfFault.TheVariants as wf
use Rattle.rs_project.specs.declared.projecting.ProjFault.{ProjFault}
use Rattle.rs_project.specs.declared.projecting.ProjFault.TheVariants as proj
use Rattle.rs_search.specs.declared.faults.SearchFault.{SearchFault}
use Rattle.rs_search.specs.declared.faults.SearchFault.TheVariants as search
use Rattle.rs_answers.specs.Data.{Answer_data}
use Rattle.rs_derive.specs.declared.faults.DeriveFault.{DeriveFault}
use Rattle.rs_derive.specs.declared.faults.DeriveFault.TheVariants as derive
use Rattle.rs_answers.specs.Texts.{joined_texts}
use Rattle.rs_answers.specs.declared.verdicts.Verdict.{Verdict}
use Rattle.rs_answers.specs.declared.verdicts.Verdict.TheVariants as verdict
use Rattle.rs_answers.specs.declared.verifying.Blame.{Blame}
use Rattle.rs_answers.specs.declared.verifying.Blame.TheVariants as blame

-- what is said, after the words that name its kind, and the end of the line
abbrev pub line_of_answer : List ℕ → List ℕ → Verdict → Answer_data
line_of_answer kind what verdict = record { text = joined_texts (kind ∷ what ∷ codes "\n" ∷ []); verdict = verdict }

-- the words are none of the program's
abbrev pub usage : Answer_data
usage = line_of_answer (codes "usage") [] verdict.Usage

-- a quantity passes its limit
abbrev pub too_large : List ℕ → Answer_data
too_large what = line_of_answer (codes "too large: ") what verdict.TooLarge

-- the rings hold fewer messages than the room of the session
abbrev pub too_small : ℕ → ℕ → Answer_data
too_small capacity room = line_of_answer (codes "room too small: ring ") (joined_texts (decimal capacity ∷ codes " room " ∷ decimal room ∷ [])) verdict.RoomTooSmall

-- the text is at fault
abbrev pub malformed_answer : List ℕ → Answer_data
malformed_answer what = line_of_answer (codes "malformed ") what verdict.Malformed

-- the protocol has no projection onto the role
abbrev pub unprojectable : List ℕ → List ℕ → Answer_data
unprojectable role what = line_of_answer (codes "unprojectable\n") (joined_texts (role ∷ codes ": " ∷ what ∷ [])) verdict.Unprojectable

-- the role's machine is refused
abbrev pub refused_answer : List ℕ → List ℕ → Answer_data
refused_answer role what = line_of_answer (codes "refused\n") (joined_texts (role ∷ codes ": " ∷ what ∷ [])) verdict.Refused

-- `L:C` and what is said: line and column of the offset
abbrev pub text_at_place : List ℕ → ℕ → List ℕ → Answer_data
text_at_place bytes at what =
    malformed_answer (joined_texts (decimal (line_of bytes at) ∷ codes ":" ∷ decimal (column_of bytes at) ∷ codes " " ∷ what ∷ []))

-- what is answered to the first fault of the text. That memory is refused is no fault of a text: its line is never
-- written
abbrev pub fault_answer : List ℕ → TextKind → ℕ → Answer_data
fault_answer bytes (kind.Expected w) at = text_at_place bytes at (joined_texts (codes "expected " ∷ wanted_text w ∷ []))
fault_answer bytes kind.UnknownRole at = text_at_place bytes at (codes "unknown role")
fault_answer bytes kind.UnboundName at = text_at_place bytes at (codes "unbound name")
fault_answer bytes kind.NameTwice at = text_at_place bytes at (codes "name twice")
fault_answer bytes kind.TooDeep at = too_large (codes "nesting")
fault_answer bytes kind.TooManyRoles at = too_large (codes "roles")
fault_answer bytes kind.TooManyNodes at = too_large (codes "nodes")
fault_answer bytes kind.NoMemory at = text_at_place bytes at (codes "no memory")
fault_answer bytes kind.Unguarded at = text_at_place bytes at (codes "unguarded name")
fault_answer bytes kind.TooManyLabels at = too_large (codes "labels")
fault_answer bytes kind.BadByte at = text_at_place bytes at (codes "bad byte")
fault_answer bytes kind.NumberTooLarge at = text_at_place bytes at (codes "number too large")
fault_answer bytes kind.NameTooLong at = too_large (codes "name")
fault_answer bytes kind.TooManyActs at = too_large (codes "acts")

-- the name of a label
abbrev pub label_name : Names_data → Label → List ℕ
label_name names label = name_at names.labels label.0

-- the name of a role
abbrev pub role_name : Names_data → Role → List ℕ
role_name names role = name_at names.roles role.0

-- what is answered to a protocol that isn't well formed, by its first fault. What a text spells has arms everywhere, and
-- leads to its own nodes (`faults_of_spelt_protocols`): the second and the last line are never written
abbrev pub wf_answer : Names_data → WfFault → Answer_data
wf_answer names (wf.SelfTalk n) = malformed_answer (joined_texts (codes "protocol: node " ∷ decimal n ∷ codes " talks to itself" ∷ []))
wf_answer names (wf.NoArms n) = malformed_answer (joined_texts (codes "protocol: no arms at node " ∷ decimal n ∷ []))
wf_answer names (wf.TooManyArms n) = too_large (codes "arms")
wf_answer names (wf.TwiceLabel n label) =
    malformed_answer (joined_texts (codes "protocol: label " ∷ label_name names label ∷ codes " twice at node " ∷ decimal n ∷ []))
wf_answer names (wf.BadNext n) = malformed_answer (joined_texts (codes "protocol: bad next at node " ∷ decimal n ∷ []))

-- the two members that don't merge: talks, or a talk and the end
abbrev pub clash_text : ℕ → Option ℕ → List ℕ
clash_text a (Some b) = joined_texts (codes "nodes " ∷ decimal a ∷ codes " and " ∷ decimal b ∷ codes " do not merge" ∷ [])
clash_text a None = joined_texts (codes "node " ∷ decimal a ∷ codes " and the end do not merge" ∷ [])

-- what is answered to a protocol that has no projection onto a role. That memory is refused is no such reason: the last
-- line is never written
abbrev pub proj_answer : Names_data → ProjFault → Answer_data
proj_answer names (proj.Unmergeable role a b) = unprojectable (role_name names role) (clash_text a b)
proj_answer names (proj.Unreached role node) =
    unprojectable (role_name names role) (joined_texts (codes "unreached at node " ∷ decimal node ∷ []))
proj_answer names (proj.TooManyStates role) = too_large (joined_texts (codes "projection " ∷ role_name names role ∷ []))
proj_answer names proj.NoMemory = unprojectable [] []

-- what is wrong at a state. What a text spells has arms everywhere and knows its peers (`faults_of_spelt_machines`,
-- `faults_of_spelt_tables`): the last two lines are never written
abbrev pub state_text : Names_data → MachineFault → List ℕ
state_text names (bad.TwiceLabel s label) = joined_texts (codes "label " ∷ label_name names label ∷ codes " twice at state " ∷ decimal s ∷ [])
state_text names (bad.SelfPeer s) = joined_texts (codes "state " ∷ decimal s ∷ codes " talks to itself" ∷ [])
state_text names (bad.BadNext s) = joined_texts (codes "no such state at state " ∷ decimal s ∷ [])
state_text names (bad.NoArms s) = joined_texts (codes "no arms at state " ∷ decimal s ∷ [])
state_text names (bad.UnknownPeer s) = joined_texts (codes "unknown peer at state " ∷ decimal s ∷ [])

-- what is answered to a machine that isn't well formed, by its role and its first fault
abbrev pub machine_answer : Names_data → Role → MachineFault → Answer_data
machine_answer names role fault =
    malformed_answer (joined_texts (codes "machine " ∷ role_name names role ∷ codes ": " ∷ state_text names fault ∷ []))

-- whether some candidate of the search met a cut
abbrev pub cut_text : Bool → List ℕ
cut_text true = codes "not found, cut yes"
cut_text false = codes "not found, cut no"

-- what is answered where the search finds no derivation of the role's machine. That memory is refused is no such reason:
-- the last line is never written
abbrev pub search_answer : Names_data → Role → SearchFault → Answer_data
search_answer names role (search.NotFound cut) = refused_answer (role_name names role) (cut_text cut)
search_answer names role (search.Forgets node) = refused_answer (role_name names role) (joined_texts (codes "forgets at node " ∷ decimal node ∷ []))
search_answer names role search.TooLarge = too_large (joined_texts (codes "candidates " ∷ role_name names role ∷ []))
search_answer names role search.NoMemory = refused_answer [] []

-- where a derivation is refused
abbrev pub at_node : List ℕ → ℕ → List ℕ
at_node what node = joined_texts (what ∷ codes " at node " ∷ decimal node ∷ [])

-- a fault at an arm of a node
abbrev pub at_arm : List ℕ → ℕ → ℕ → List ℕ
at_arm what node arm = joined_texts (what ∷ codes " at node " ∷ decimal node ∷ codes " arm " ∷ decimal arm ∷ [])

-- why a derivation is refused
abbrev pub derive_text : DeriveFault → List ℕ
derive_text derive.BadStart = codes "bad start"
derive_text (derive.BadState node) = at_node (codes "bad state") node
derive_text (derive.TooLongPending node) = at_node (codes "too long") node
derive_text (derive.NoMove node) = at_node (codes "no move") node
derive_text (derive.WrongNext node arm) = at_arm (codes "wrong next") node arm
derive_text (derive.Forgets node arm) = at_arm (codes "forgets") node arm

-- why a role is blamed: its derivation is refused, or there is none
abbrev pub blame_text : Blame → List ℕ
blame_text blame.Missing = codes "no derivation"
blame_text (blame.Fault fault) = derive_text fault

-- what is answered where the role's own derivation doesn't show that its machine may stand for its projection
abbrev pub blame_answer : Names_data → Role → Blame → Answer_data
blame_answer names role why = refused_answer (role_name names role) (blame_text why)
