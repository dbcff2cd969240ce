-- Where `explain` writes that no bound helps, none does.
use Rattle.std.proofs.Common.{◌≡◌, ◌≢◌, ℕ, suc, ◌+◌, ◌≤◌, List, [], ◌∷◌, ◌++◌, codes, length, Bool, true, false, Option, refl, sym, ap, ◌∙◌, subst, subst₂, arith, length-append}
use Rattle.std.proofs.lemmas.List.{append_cancel_left}
use Rattle.std.proofs.lemmas.Option.{same_Some}
use Rattle.std.specs.Fmt.{decimal}
use Rattle.std.specs.Io.KnownBytes.{Appends}
use Rattle.std.specs.Prelude.{IfSome, slice_get}
use Rattle.rs_answers.proofs.Derivings.{session_of}
use Rattle.rs_answers.proofs.OneReason.{same_session}
use Rattle.rs_answers.specs.Data.{Answer_data}
use Rattle.rs_answers.specs.Derivations.{IsUnderivable}
use Rattle.rs_answers.specs.RefusalTexts.{fault_answer, proj_answer, search_answer, wf_answer}
use Rattle.rs_answers.specs.Refusals.{HasNoDerivation, HasNoDerivations, HasNoProjection, HasNoSession, HasIllMachine, IsIllFormed, IsWithoutSession, refusal_answer}
use Rattle.rs_answers.specs.Sessions.{HasMachines}
use Rattle.rs_answers.specs.declared.refusals.Refusal.{Refusal}
use Rattle.rs_answers.specs.declared.verdicts.Verdict.{Verdict}
use Rattle.rs_answers.specs.declared.verdicts.Verdict.TheVariants as verdict
use Rattle.rs_documents.proofs.SpeltSessions.{spelt_session}
use Rattle.rs_documents.specs.Data.{Document_data}
use Rattle.rs_documents.specs.Documents.{SpellsDocument}
use Rattle.rs_model.specs.Data.{Machine_data, Names_data}
use Rattle.rs_model.specs.declared.graph.Role.{Role}
use Rattle.rs_model.specs.declared.limits.TheConstants.{MOST_BOUND}
use Rattle.rs_places.specs.Data.{Places_data}
use Rattle.rs_project.specs.Data.{Projection_data}
use Rattle.rs_project.specs.declared.projecting.ProjFault.{ProjFault}
use Rattle.rs_project.specs.declared.projecting.ProjFault.TheVariants as proj
use Rattle.rs_reasons.proofs.Hopeless.{no_bound_helps}
use Rattle.rs_reasons.specs.Explains.{ExplainsBy, IsAccepted, IsRefused, TellsOfMachine, TellsWhy, source_of}
use Rattle.rs_reasons.specs.Underivable.{GreatestForgets, GreatestHelps, GreatestRefuses, NoneHelps, TellsNotFound, TellsUnderivable, hopeless_line, is_forgetting, refusing_line, round_text, way_text, with_bound_line}
use Rattle.rs_explain.specs.declared.explaining.Ending.TheVariants.{Cut}
use Rattle.rs_safety.proofs.Accepts.{machine_proper, projection_proper}
use Rattle.rs_safety.specs.Room.{longest}
use Rattle.rs_search.specs.declared.faults.SearchFault.{SearchFault}
use Rattle.rs_search.specs.declared.faults.SearchFault.TheVariants as search
use Rattle.rs_text.specs.NamePlaces.{name_at}
use Rattle.rs_text.specs.declared.faults.TextKind.{TextKind}
use Rattle.rs_text.specs.declared.faults.TextKind.TheVariants as kind
use Rattle.rs_tool.proofs.Answering.{if_told}
use Rattle.rs_tool.proofs.Headline.{task_is_answered}
use Rattle.rs_tool.specs.Answers.{Answers, AnswersText, IsDocument, IsFaulty, IsTooLong}
use Rattle.rs_tool.specs.Calls.{Ends, Tells, TellsAll, TellsNoMemory, TellsPart, TellsReadFault}
use Rattle.rs_tool.specs.Data.{Call, CallOutput}
use Rattle.rs_tool.specs.Hopeless.{SaysNoBoundHelps, SpellsHopelessMachine, WritesNoBoundHelps}
use Rattle.rs_tool.specs.Statuses.{status_of}
use Rattle.rs_tool.specs.Tasks.{SpellsExplain}
use Rattle.rs_tool.specs.declared.statuses.Reply.{Reply}
use Rattle.rs_tool.specs.declared.statuses.Status.TheVariants as status
use Rattle.rs_walk_texts.specs.Data.{WalkSource_data}
use Rattle.rs_wellformed.specs.declared.checks.WfFault.{WfFault}
use Rattle.rs_wellformed.specs.declared.checks.WfFault.TheVariants as wf
use Rattle.rs_words.specs.declared.tasks.DocumentTask.TheVariants as on_document
use Rattle.rs_words.specs.declared.tasks.Task.TheVariants as task

-- ---- the last line of a text stands in the lines at its end

-- a text that is longer than all of it
too_short : (x : ℕ) (front lines last : List ℕ) → x ∷ front ++ lines ≡ last → length last ≤ length lines → ⊥
too_short x front lines last e h =
    let whole : length last ≡ suc (length front + length lines) = sym (ap length e) ∙ ap suc (length-append front lines) in
    omega (arith, whole, h)

-- what ends the whole ends its later lines, unless these are shorter
ends_lines : (front lines before last : List ℕ) → front ++ lines ≡ before ++ last → length last ≤ length lines → (rest : List ℕ) × (lines ≡ rest ++ last)
ends_lines [] lines before last e h = (before, e)
ends_lines (x ∷ front) lines [] last e h = absurd (too_short x front lines last e h)
ends_lines (x ∷ front) lines (y ∷ before) last e h =
    let later : front ++ lines ≡ before ++ last = cc in
    ends_lines front lines before last later h

-- ---- the lines on a machine are no shorter than the line `no bound helps`

longer : (lines way last : List ℕ) → lines ≡ way ++ last → length hopeless_line ≤ length last → length hopeless_line ≤ length lines
longer lines way last e h =
    let whole : length lines ≡ length way + length last = ap length e ∙ length-append way last in
    omega (arith, whole, h)

with_hopeless : (lines way : List ℕ) → lines ≡ way ++ hopeless_line → length hopeless_line ≤ length lines
with_hopeless lines way e = longer lines way hopeless_line e (omega arith)

lengths : (a b c d e : List ℕ) → length (a ++ b ++ c ++ d ++ e) ≡ length a + length b + length c + length d + length e
lengths a b c d e =
    length-append (a ++ b ++ c ++ d) e
    ∙ ap (λ (n : ℕ). n + length e) (length-append (a ++ b ++ c) d
    ∙ ap (λ (n : ℕ). n + length d) (length-append (a ++ b) c
    ∙ ap (λ (n : ℕ). n + length c) (length-append a b)))

enough : (whole n w : ℕ) → whole ≡ 13 + n + 1 + w + 1 → 15 ≤ whole
enough whole n w e = omega (arith, e)

bound_line_is_long : (bound : ℕ) (what : List ℕ) → length hopeless_line ≤ length (with_bound_line bound what)
bound_line_is_long bound what =
    enough (length (with_bound_line bound what)) (length (decimal bound)) (length what) (lengths (codes "with --bound ") (decimal bound) (codes " ") what (codes "\n"))

with_bound : (lines way : List ℕ) (bound : ℕ) (what : List ℕ) → lines ≡ way ++ with_bound_line bound what → length hopeless_line ≤ length lines
with_bound lines way bound what e = longer lines way (with_bound_line bound what) e (bound_line_is_long bound what)

refusing_is_long : (source : WalkSource_data) (fault : SearchFault) (lines way : List ℕ) → fault ≢ search.NoMemory → is_forgetting fault ≡ false → lines ≡ way ++ refusing_line source fault
    → length hopeless_line ≤ length lines
refusing_is_long source (search.NotFound false) lines way n f e = with_hopeless lines way e
refusing_is_long source (search.NotFound true) lines way n f e = with_bound lines way MOST_BOUND (name_at source.names.roles source.machine.role.0 ++ codes " isn't accepted either") e
refusing_is_long source (search.Forgets node) lines way n f e = absurd cc
refusing_is_long source search.TooLarge lines way n f e = with_bound lines way MOST_BOUND (codes "there are too many candidates") e
refusing_is_long source search.NoMemory lines way n f e = absurd (n refl)

not_found_is_long : (source : WalkSource_data) (bound : ℕ) (cut : Bool) (lines : List ℕ) → TellsNotFound source bound cut lines → length hopeless_line ≤ length lines
not_found_is_long source bound cut lines (NoneHelps e x k eq) = with_hopeless lines (way_text source bound e.steps e.ending) eq
not_found_is_long source bound cut lines (GreatestRefuses e x k fault n f r eq) = refusing_is_long source fault lines (way_text source bound e.steps e.ending) n f eq
not_found_is_long source bound cut lines (GreatestForgets e x k node g f i eq) = with_hopeless lines (round_text source f) eq
not_found_is_long source bound cut lines (GreatestHelps e x k d c steps w eq) =
    with_bound lines (way_text source bound steps Cut) (longest d) (name_at source.names.roles source.machine.role.0 ++ codes " is accepted") eq

underivable_is_long : (source : WalkSource_data) (bound : ℕ) (fault : SearchFault) (names : Names_data) (role : Role) (lines : List ℕ) → fault ≢ search.NoMemory
    → (search_answer names role fault).verdict ≡ verdict.Refused → TellsUnderivable source bound fault lines → length hopeless_line ≤ length lines
underivable_is_long source bound (search.NotFound cut) names role lines n v t = not_found_is_long source bound cut lines t
underivable_is_long source bound (search.Forgets node) names role lines n v t = with_hopeless lines (round_text source t.forgetting) t.text
underivable_is_long source bound search.TooLarge names role lines n v t = absurd cc
underivable_is_long source bound search.NoMemory names role lines n v t = absurd (n refl)

-- ---- no other refusal has the verdict of a machine without a derivation

other_wf : (names : Names_data) (fault : WfFault) → (wf_answer names fault).verdict ≡ verdict.Refused → ⊥
other_wf names (wf.SelfTalk n) v = cc
other_wf names (wf.NoArms n) v = cc
other_wf names (wf.TooManyArms n) v = cc
other_wf names (wf.TwiceLabel n label) v = cc
other_wf names (wf.BadNext n) v = cc

other_proj : (names : Names_data) (fault : ProjFault) → (proj_answer names fault).verdict ≡ verdict.Refused → ⊥
other_proj names (proj.Unmergeable role a b) v = cc
other_proj names (proj.Unreached role node) v = cc
other_proj names (proj.TooManyStates role) v = cc
other_proj names proj.NoMemory v = cc

other_fault : (bytes : List ℕ) (k : TextKind) (at : ℕ) → (fault_answer bytes k at).verdict ≡ verdict.Refused → ⊥
other_fault bytes (kind.Expected w) at v = cc
other_fault bytes kind.UnknownRole at v = cc
other_fault bytes kind.UnboundName at v = cc
other_fault bytes kind.NameTwice at v = cc
other_fault bytes kind.TooDeep at v = cc
other_fault bytes kind.TooManyRoles at v = cc
other_fault bytes kind.TooManyNodes at v = cc
other_fault bytes kind.NoMemory at v = cc
other_fault bytes kind.Unguarded at v = cc
other_fault bytes kind.TooManyLabels at v = cc
other_fault bytes kind.BadByte at v = cc
other_fault bytes kind.NumberTooLarge at v = cc
other_fault bytes kind.NameTooLong at v = cc
other_fault bytes kind.TooManyActs at v = cc

other_session : (d : Document_data) (r : Refusal) → HasNoSession d r → (refusal_answer d.names r).verdict ≡ verdict.Refused → ⊥
other_session d r (IsIllFormed fault e) v = other_wf d.names fault v
other_session d r (HasNoProjection none role fault u) v = other_proj d.names fault v
other_session d r (HasIllMachine ps h ill e) v = cc

-- ---- a machine is hopeless where that is written

-- what is told of the machine is told of the one that is refused
of_refused : (bound : ℕ) (d : Document_data) (places : Places_data) (role : Role) (fault : SearchFault) (ps : List Projection_data) (ms : List Machine_data) (lines : List ℕ) → HasMachines d ps ms
    → (u : IsUnderivable bound ms ps role fault) → TellsOfMachine bound d places (record { role = role; fault = fault }) lines
    → TellsUnderivable (source_of d places role u.machine u.projection) bound fault lines
of_refused bound d places role fault ps ms lines has u t =
    let same = same_session d t.projections ps t.machines ms t.has has in
    let machine : t.machine ≡ u.machine = same_Some t.machine u.machine (sym t.runs ∙ ap (λ z. slice_get z role.0) same.1 ∙ u.runs) in
    let projection : t.projection ≡ u.projection = same_Some t.projection u.projection (sym t.projects ∙ ap (λ z. slice_get z role.0) same.0 ∙ u.projects) in
    let P : Machine_data → Type 0 = λ z. TellsUnderivable (source_of d places role z t.projection) bound fault lines in
    let Q : Projection_data → Type 0 = λ z. TellsUnderivable (source_of d places role u.machine z) bound fault lines in
    subst Q projection (subst P machine t.tells)

of_machine : (bound : ℕ) (bytes : List ℕ) (d : Document_data) (places : Places_data) (role : Role) (fault : SearchFault) (ps : List Projection_data) (ms : List Machine_data) (lines : List ℕ)
    → SpellsDocument bytes d → HasMachines d ps ms → IsUnderivable bound ms ps role fault → TellsOfMachine bound d places (record { role = role; fault = fault }) lines
    → (search_answer d.names role fault).verdict ≡ verdict.Refused → SaysNoBoundHelps ((search_answer d.names role fault).text ++ lines) → SpellsHopelessMachine bound bytes
of_machine bound bytes d places role fault ps ms lines doc has u t v says =
    let s = session_of d ps ms (spelt_session bytes d doc) has.projections_are.well_formed has.projections_are.projected has.machines_are has.well_formed in
    let ours = machine_proper d.protocol ps ms s role.0 u.machine u.runs in
    let theirs = projection_proper d.protocol ps ms s role.0 u.projection u.projects in
    let source = source_of d places role u.machine u.projection in
    let tells = of_refused bound d places role fault ps ms lines has u t in
    let end = ends_lines ((search_answer d.names role fault).text) lines says.0 hopeless_line says.1 (underivable_is_long source bound fault d.names role lines u.cause v tells) in
    record {
      document = d;
      projections = ps;
      machines = ms;
      role = role;
      fault = fault;
      spells = doc;
      has = has;
      refused = u;
      hopeless = λ any f. no_bound_helps source bound fault lines end.0 f.derivation ours theirs u.refused tells end.1 f.is_derivation f.remembers;
    }

of_reason : (bound : ℕ) (bytes : List ℕ) (d : Document_data) (places : Places_data) (r : Refusal) (lines : List ℕ) → SpellsDocument bytes d → HasNoDerivations bound d r
    → TellsWhy bound d places r lines → (refusal_answer d.names r).verdict ≡ verdict.Refused → SaysNoBoundHelps ((refusal_answer d.names r).text ++ lines) → SpellsHopelessMachine bound bytes
of_reason bound bytes d places r lines doc (IsWithoutSession q h) t v says = absurd (other_session d q h v)
of_reason bound bytes d places r lines doc (HasNoDerivation ps ms has role fault u) t v says = of_machine bound bytes d places role fault ps ms lines doc has u t v says

explained_by : (bound : ℕ) (bytes : List ℕ) (d : Document_data) (places : Places_data) (a : Answer_data) → SpellsDocument bytes d → ExplainsBy places bound d a → a.verdict ≡ verdict.Refused
    → SaysNoBoundHelps a.text → SpellsHopelessMachine bound bytes
explained_by bound bytes d places a doc (IsRefused r h lines t is) v says =
    of_reason bound bytes d places r lines doc h t (sym (ap (λ (z : Answer_data). z.verdict) is) ∙ v) (subst (λ (z : Answer_data). SaysNoBoundHelps z.text) is says)
explained_by bound bytes d places a doc (IsAccepted ps ms ds h found is) v says = let no = sym (ap (λ (z : Answer_data). z.verdict) is) ∙ v in absurd cc

text_is_hopeless : (bound : ℕ) (bytes : List ℕ) (a : Answer_data) → AnswersText (on_document.Explain bound) bytes a → a.verdict ≡ verdict.Refused → SaysNoBoundHelps a.text
    → SpellsHopelessMachine bound bytes
text_is_hopeless bound bytes a (IsDocument short d doc h) v says = explained_by bound bytes d h.places a doc h.explains v says
text_is_hopeless bound bytes a (IsTooLong long is) v says = let no = sym (ap (λ (z : Answer_data). z.verdict) is) ∙ v in absurd cc
text_is_hopeless bound bytes a (IsFaulty short k at h is) v says = absurd (other_fault bytes k at (sym (ap (λ (z : Answer_data). z.verdict) is) ∙ v))

pub hopeless_answer : (words : List (List ℕ)) (bound : ℕ) (bytes : List ℕ) (a : Answer_data) → SpellsExplain words bound → Answers words bytes a → a.verdict ≡ verdict.Refused
    → SaysNoBoundHelps a.text → SpellsHopelessMachine bound bytes
hopeless_answer words bound bytes a spells h v says = text_is_hopeless bound bytes a (task_is_answered words (task.OnDocument (on_document.Explain bound)) bytes a spells h) v says

-- ---- a call that writes it

refused_verdict : (v : Verdict) → status_of v ≡ status.Refused → v ≡ verdict.Refused
refused_verdict verdict.Fine e = absurd cc
refused_verdict verdict.Refused e = refl
refused_verdict verdict.Usage e = absurd cc
refused_verdict verdict.Malformed e = absurd cc
refused_verdict verdict.Unprojectable e = absurd cc
refused_verdict verdict.TooLarge e = absurd cc
refused_verdict verdict.Stopped e = absurd cc
refused_verdict verdict.Full e = absurd cc
refused_verdict verdict.RoomTooSmall e = absurd cc

-- the text that the sink takes is that of the answer
taken : {K : Type 0} (output : CallOutput K) (text : List ℕ) → Appends output.written output.later text → WritesNoBoundHelps output → SaysNoBoundHelps text
taken output text appends (old, got, before, later, says) =
    let grown : old ++ got ≡ old ++ text = subst₂ (λ (x y : Option (List ℕ)). Appends x y text) before later appends in
    subst SaysNoBoundHelps (append_cancel_left old got text grown) says

told_hopeless : {K : Type 0} (words : List (List ℕ)) (bound : ℕ) (bytes : List ℕ) (output : CallOutput K) (reply : Reply) → SpellsExplain words bound → Tells words bytes output reply
    → reply.status ≡ status.Refused → WritesNoBoundHelps output → SpellsHopelessMachine bound bytes
told_hopeless words bound bytes output reply spells (TellsAll a h session text is) refused writes =
    hopeless_answer words bound bytes a spells h (refused_verdict a.verdict (sym is ∙ refused)) (taken output a.text text writes)
told_hopeless words bound bytes output reply spells (TellsPart a h session text is) refused writes = let no = sym is ∙ refused in absurd cc
told_hopeless words bound bytes output reply spells (TellsReadFault keeps is none) refused writes = let no = sym is ∙ refused in absurd cc
told_hopeless words bound bytes output reply spells (TellsNoMemory keeps is none) refused writes = let no = sym is ∙ refused in absurd cc

pub hopeless_is_told : {S K : Type 0} (call : Call S K) (reply : Reply) → Ends call reply → (bound : ℕ) → SpellsExplain call.words bound
    → IfSome call.input.left (λ bytes. reply.status ≡ status.Refused → WritesNoBoundHelps call.output → SpellsHopelessMachine bound bytes)
hopeless_is_told call reply ends bound spells = if_told call.input.left _ _ (λ bytes told refused writes.
    told_hopeless call.words bound bytes call.output reply spells told refused writes) ends.answer.told
