-- A text whose machines may be derived is accepted.
use Rattle.std.proofs.Common.{◌≡◌, ◌⊎◌, inl, inr, ℕ, zero, suc, List, [], ◌∷◌, length, None, ap, ◌∙◌, refl, arith}
use Rattle.rs_derive.specs.Data.{Derivation_data}
use Rattle.rs_documents.proofs.SpeltSessions.{spelt_session}
use Rattle.rs_model.proofs.Faults as of_machines
use Rattle.rs_model.specs.Data.{Machine_data}
use Rattle.rs_safety.proofs.Accepts.{machine_proper, projection_proper}
use Rattle.rs_safety.specs.Sessions.{IsSession}
use Rattle.rs_search.proofs.Determined.{not_both_ways}
use Rattle.rs_search.proofs.Remembering.{followed_is_found}
use Rattle.rs_wellformed.proofs.Faults as of_protocols
use Rattle.rs_tool.specs.Answers.{Answers, CarriesOut, IsDocument}
use Rattle.rs_tool.specs.Calls.{Ends, Tells, TellsAll, TellsPart, TellsReadFault, TellsNoMemory}
use Rattle.rs_answers.specs.Checks.{IsAccepted}
use Rattle.rs_tool.specs.Completeness.{EachIsWellFormed, IsComplete, SpellsDerivableSession}
use Rattle.rs_answers.specs.Data.{Answer_data}
use Rattle.rs_tool.specs.Data.{Call, CallOutput}
use Rattle.rs_answers.specs.Derivations.{AreCanonical}
use Rattle.rs_answers.specs.Machines.{machines_of}
use Rattle.rs_answers.specs.Sessions.{HasMachines, first_refusal}
use Rattle.rs_tool.specs.Statuses.{status_of}
use Rattle.rs_tool.specs.Tasks.{AskForWorkers, SpellsCheck}
use Rattle.rs_tool.proofs.Answering.{if_told}
use Rattle.rs_tool.proofs.MadeReady.{not_asked}
use Rattle.rs_words.specs.declared.tasks.DocumentTask.TheVariants as on_document
use Rattle.rs_tool.specs.declared.statuses.Reply.{Reply}
use Rattle.rs_tool.specs.declared.statuses.Status.TheVariants as status
use Rattle.rs_words.specs.declared.tasks.Task.TheVariants as task
use Rattle.rs_answers.proofs.Derivings.{session_of}
use Rattle.rs_answers.proofs.SomeSession.{Searched, AllFound, OneIsnt, found_first}
use Rattle.rs_tool.proofs.SomeAnswer.{some_telling}
use Rattle.rs_tool.proofs.Unique.{one_answer}

-- where each machine is well formed none is refused
none_refused : (roles : ℕ) (machines : List Machine_data) → EachIsWellFormed roles machines → first_refusal roles machines ≡ None
none_refused roles [] fit = refl
none_refused roles (m ∷ machines) fit = rw (of_machines.right m roles (fit zero m refl), none_refused roles machines (λ p n at. fit (suc p) n at)) refl

-- the document has its machines
pub has_machines : (bound : ℕ) (bytes : List ℕ) (s : SpellsDerivableSession bound bytes) → HasMachines s.document s.projections (machines_of s.document.machines s.projections)
has_machines bound bytes s = record {
  projections_are = record { well_formed = of_protocols.right s.document.protocol s.well_formed; projected = s.projected };
  machines_are = refl;
  well_formed = none_refused s.document.protocol.roles (machines_of s.document.machines s.projections) s.machines_fit;
}

-- its machines have derivations
pub derived : (bound : ℕ) (bytes : List ℕ) (s : SpellsDerivableSession bound bytes)
    → (derivations : List Derivation_data) × AreCanonical bound (machines_of s.document.machines s.projections) s.projections derivations
derived bound bytes s = go (found_first bound s.document.protocol s.projections ms session (length ms) (omega arith))
  where
    ms : List Machine_data
    ms = machines_of s.document.machines s.projections

    session : IsSession s.document.protocol s.projections ms
    session =
        let h = has_machines bound bytes s in
        session_of s.document s.projections ms (spelt_session bytes s.document s.spells) h.projections_are.well_formed s.projected refl h.well_formed

    go : Searched bound ms s.projections (length ms) → (derivations : List Derivation_data) × AreCanonical bound ms s.projections derivations
    go (AllFound derivations found) = (derivations, found)
    go (OneIsnt role fault u) =
        let k = s.derivable role.0 u.machine u.projection u.runs u.projects in
        let ours = machine_proper s.document.protocol s.projections ms session role.0 u.machine u.runs in
        let theirs = projection_proper s.document.protocol s.projections ms session role.0 u.projection u.projects in
        let f = (followed_is_found u.machine u.projection.machine bound ours theirs).1 k in
        absurd (u.cause (not_both_ways u.machine u.projection.machine bound f.0 fault f.1 u.refused))

-- the answer to such a text is fine
answers : (words : List (List ℕ)) (bound : ℕ) (bytes : List ℕ) → SpellsDerivableSession bound bytes → SpellsCheck words bound
    → (a : Answer_data) × Answers words bytes a × (status_of a.verdict ≡ status.Fine)
answers words bound bytes s check =
    let d = derived bound bytes s in
    let t = some_telling check.0 bytes s.document d.0 s.spells in
    let accepted = IsAccepted s.projections (machines_of s.document.machines s.projections) d.0 (has_machines bound bytes s) d.1 t.1 in
    (t.0, CarriesOut (task.OnDocument (on_document.Check (record { bound = bound; derivations = check.0 }))) check.1 (IsDocument s.short s.document s.spells accepted), ap status_of t.2)

checks_need_none : (words : List (List ℕ)) (bound : ℕ) → SpellsCheck words bound → AskForWorkers words → ⊥
checks_need_none words bound check = not_asked words (task.OnDocument (on_document.Check (record { bound = bound; derivations = check.0 }))) check.1 refl

is_fine : (words : List (List ℕ)) (bound : ℕ) (bytes : List ℕ) (s : SpellsDerivableSession bound bytes) (a : Answer_data) → SpellsCheck words bound → Answers words bytes a
    → status_of a.verdict ≡ status.Fine
is_fine words bound bytes s a check h =
    let t = answers words bound bytes s check in
    ap (λ (z : Answer_data). status_of z.verdict) (one_answer words bytes a t.0 (checks_need_none words bound check) h t.1) ∙ t.2

told : {K : Type 0} (words : List (List ℕ)) (bound : ℕ) (bytes : List ℕ) (output : CallOutput K) (reply : Reply) → SpellsDerivableSession bound bytes → SpellsCheck words bound
    → Tells words bytes output reply
    → (reply.status ≡ status.ReadFault → ⊥) → (reply.status ≡ status.WriteFault → ⊥) → (reply.status ≡ status.Fine) ⊎ (reply.status ≡ status.NoMemory)
told words bound bytes output reply s check (TellsAll a h session text is) no_read no_write = inl (is ∙ is_fine words bound bytes s a check h)
told words bound bytes output reply s check (TellsPart a h session text is) no_read no_write = absurd (no_write is)
told words bound bytes output reply s check (TellsReadFault keeps is none) no_read no_write = absurd (no_read is)
told words bound bytes output reply s check (TellsNoMemory keeps is none) no_read no_write = inr is

pub complete : {S K : Type 0} (call : Call S K) (reply : Reply) → Ends call reply → IsComplete call reply.status
complete call reply ends = λ bound check. if_told call.input.left _ _ (λ bytes tells s no_read no_write.
    told call.words bound bytes call.output reply s check tells (λ is. no_read (ends.read_fault is)) (λ is. no_write (ends.write_fault is))) ends.answer.told
