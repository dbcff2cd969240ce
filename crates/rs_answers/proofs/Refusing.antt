-- What is answered to a text or a document that is refused says that it is.
use Rattle.std.proofs.Common.{ℕ, List}
use Rattle.rs_model.specs.Data.{Names_data}
use Rattle.rs_project.specs.declared.projecting.ProjFault.{ProjFault}
use Rattle.rs_project.specs.declared.projecting.ProjFault.TheVariants as proj
use Rattle.rs_model.specs.declared.graph.Role.{Role}
use Rattle.rs_search.specs.declared.faults.SearchFault.{SearchFault}
use Rattle.rs_search.specs.declared.faults.SearchFault.TheVariants as search
use Rattle.rs_text.specs.declared.faults.TextKind.{TextKind}
use Rattle.rs_text.specs.declared.faults.TextKind.TheVariants as kind
use Rattle.rs_wellformed.specs.declared.checks.WfFault.{WfFault}
use Rattle.rs_wellformed.specs.declared.checks.WfFault.TheVariants as wf
use Rattle.rs_answers.specs.RefusalTexts.{fault_answer, proj_answer, search_answer, wf_answer}
use Rattle.rs_answers.specs.Refusals.{refusal_answer}
use Rattle.rs_answers.specs.declared.refusals.Refusal.{Refusal}
use Rattle.rs_answers.specs.declared.refusals.Refusal.TheVariants as refusal
use Rattle.rs_answers.specs.declared.verdicts.Verdict.{Verdict}
use Rattle.rs_answers.specs.declared.verdicts.Verdict.TheVariants as verdict

-- what says that a text or a document is refused
abbrev pub IsRefusing : Verdict → Type 0
IsRefusing verdict.Refused = Unit {0}
IsRefusing verdict.Malformed = Unit {0}
IsRefusing verdict.Unprojectable = Unit {0}
IsRefusing verdict.TooLarge = Unit {0}
IsRefusing other = ⊥

pub fault_refuses : (bytes : List ℕ) (k : TextKind) (at : ℕ) → IsRefusing ((fault_answer bytes k at).verdict)
fault_refuses bytes (kind.Expected w) at = tt
fault_refuses bytes kind.UnknownRole at = tt
fault_refuses bytes kind.UnboundName at = tt
fault_refuses bytes kind.NameTwice at = tt
fault_refuses bytes kind.TooDeep at = tt
fault_refuses bytes kind.TooManyRoles at = tt
fault_refuses bytes kind.TooManyNodes at = tt
fault_refuses bytes kind.NoMemory at = tt
fault_refuses bytes kind.Unguarded at = tt
fault_refuses bytes kind.TooManyLabels at = tt
fault_refuses bytes kind.BadByte at = tt
fault_refuses bytes kind.NumberTooLarge at = tt
fault_refuses bytes kind.NameTooLong at = tt
fault_refuses bytes kind.TooManyActs at = tt

wf_refuses : (names : Names_data) (f : WfFault) → IsRefusing ((wf_answer names f).verdict)
wf_refuses names (wf.SelfTalk n) = tt
wf_refuses names (wf.NoArms n) = tt
wf_refuses names (wf.TooManyArms n) = tt
wf_refuses names (wf.TwiceLabel n l) = tt
wf_refuses names (wf.BadNext n) = tt

proj_refuses : (names : Names_data) (f : ProjFault) → IsRefusing ((proj_answer names f).verdict)
proj_refuses names (proj.Unmergeable r a b) = tt
proj_refuses names (proj.Unreached r n) = tt
proj_refuses names (proj.TooManyStates r) = tt
proj_refuses names proj.NoMemory = tt

search_refuses : (names : Names_data) (role : Role) (f : SearchFault) → IsRefusing ((search_answer names role f).verdict)
search_refuses names role (search.NotFound cut) = tt
search_refuses names role (search.Forgets n) = tt
search_refuses names role search.TooLarge = tt
search_refuses names role search.NoMemory = tt

pub refusal_refuses : (names : Names_data) (r : Refusal) → IsRefusing ((refusal_answer names r).verdict)
refusal_refuses names (refusal.IllFormed f) = wf_refuses names f
refusal_refuses names (refusal.Unprojectable f) = proj_refuses names f
refusal_refuses names (refusal.IllMachine role f) = tt
refusal_refuses names (refusal.Underivable u) = search_refuses names u.role u.fault
refusal_refuses names (refusal.Blamed role b) = tt
refusal_refuses names refusal.NoMemory = tt
