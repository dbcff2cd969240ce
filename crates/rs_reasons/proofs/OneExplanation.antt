-- A document has one explanation, and it begins as `check` answers.
use Rattle.std.proofs.Common.{◌≡◌, ◌≢◌, ◌++◌, ◌∙◌, ℕ, ◌<◌, Bool, List, [], ◌∷◌, length, false, Option, Some, None, refl, sym, ap, ap₂, subst, slice_get}
use Rattle.std.proofs.lemmas.Option.{same_Some, slice_get_within}
use Rattle.rs_answers.specs.Checks as checks
use Rattle.rs_answers.specs.Checks.{Checks}
use Rattle.rs_answers.specs.Data.{Answer_data}
use Rattle.rs_answers.specs.Refusals.{HasNoDerivations, HasNoSession, IsIllFormed, HasNoProjection, HasIllMachine, IsWithoutSession, HasNoDerivation, refusal_answer}
use Rattle.rs_answers.specs.Report.{report}
use Rattle.rs_answers.specs.declared.derivations.Underivable.{Underivable}
use Rattle.rs_answers.specs.declared.refusals.Refusal.{Refusal}
use Rattle.rs_answers.specs.declared.refusals.Refusal.TheVariants as refusal
use Rattle.rs_answers.proofs.OneReason.{not_refused, one_refusal, one_session_derived, same_session}
use Rattle.rs_answers.proofs.Derivings.{session_of}
use Rattle.rs_answers.proofs.SomeSession.{Prepared, NotSo, Derived, prepared}
use Rattle.rs_derive.specs.Data.{Derivation_data}
use Rattle.rs_documents.proofs.SpeltSessions.{spelt_session}
use Rattle.rs_documents.specs.Data.{Document_data}
use Rattle.rs_documents.specs.Documents.{SpellsDocument}
use Rattle.rs_model.specs.Data.{Machine_data, Names_data, Protocol_data}
use Rattle.rs_model.specs.declared.graph.Role.{Role}
use Rattle.rs_partings.proofs.Places.{one_at_most}
use Rattle.rs_partings.proofs.Rounds.{one_round}
use Rattle.rs_partings.specs.Partings.{PartsAt}
use Rattle.rs_partings.specs.declared.searching.Parting.{Parting}
use Rattle.rs_places.proofs.OneList.{one_places, some_places}
use Rattle.rs_places.specs.Data.{Places_data}
use Rattle.rs_places.specs.declared.places.Position.{Position}
use Rattle.rs_project.specs.Data.{Projection_data}
use Rattle.rs_project.specs.Graph.{IsPath, IsUnreached, PathStep}
use Rattle.rs_project.specs.Refusals.{FirstRefusal}
use Rattle.rs_project.specs.declared.projecting.ProjFault.{ProjFault}
use Rattle.rs_project.specs.declared.projecting.ProjFault.TheVariants as proj
use Rattle.rs_safety.proofs.Accepts.{machine_proper, projection_proper}
use Rattle.rs_wellformed.proofs.Faults.{no_fault}
use Rattle.rs_wellformed.specs.Faults.{first_fault}
use Rattle.rs_wellformed.specs.WellFormed.{IsWellFormed}
use Rattle.rs_reasons.proofs.OneUnderivable.{one_underivable}
use Rattle.rs_reasons.proofs.OneFlags.{meeting_of, one_meeting}
use Rattle.rs_reasons.proofs.SomePartings.{some_meeting, some_parting, some_round}
use Rattle.rs_reasons.proofs.SomeUnderivable.{some_underivable}
use Rattle.rs_reasons.proofs.Telling.{where_is}
use Rattle.rs_reasons.specs.Faults.{talk_line}
use Rattle.rs_reasons.specs.Accepted.{machines_lines}
use Rattle.rs_reasons.specs.Explains.{Explains, ExplainsBy, IsRefused, IsAccepted, TellsOfMachine, TellsWhy, own_state_line, source_of, with_lines}
use Rattle.rs_reasons.specs.Underivable.{TellsUnderivable}
use Rattle.rs_reasons.specs.Before.{Clash_data}
use Rattle.rs_reasons.specs.Unprojectable.{IsWhereTheyPart, TellsClash, TellsUnprojectable, TellsWaiting, clash_text}
use Rattle.rs_reasons.specs.Waits.{waiting_lines}

-- the ways part at one place
same_parting : (protocol : Protocol_data) (role : Role) (a : ℕ) (b : Option ℕ) (o q : Option Parting) → IsWhereTheyPart protocol role a b o → IsWhereTheyPart protocol role a b q → o ≡ q
same_parting protocol role a b None None h k = refl
same_parting protocol role a b None (Some q) h k = absurd (h q.talk q.one q.other k.parts)
same_parting protocol role a b (Some p) None h k = absurd (k p.talk p.one p.other h.parts)
same_parting protocol role a b (Some p) (Some q) h k = ap Some (one_at_most (PartsAt protocol role a b) p q h k)

one_clash : (names : Names_data) (protocol : Protocol_data) (talks : List Position) (role : Role) (a : ℕ) (b : Option ℕ) (lines others : List ℕ) → TellsClash names protocol talks role a b lines
    → TellsClash names protocol talks role a b others → lines ≡ others
one_clash names protocol talks role a b lines others h k =
    let clash : List Bool → List Bool → Clash_data = λ (x y : List Bool). record { names = names; protocol = protocol; talks = talks; role = role; a = a; b = b; ones = x; others = y } in
    h.text
    ∙ ap (λ (z : Option Parting). clash_text (clash h.ones h.others) z) (same_parting protocol role a b h.parting k.parting h.is_where k.is_where)
    ∙ ap (λ (z : List Bool). clash_text (clash z h.others) k.parting) (one_meeting protocol role (Some a) h.ones k.ones h.to_one k.to_one)
    ∙ ap (λ (z : List Bool). clash_text (clash k.ones z) k.parting) (one_meeting protocol role b h.others k.others h.to_other k.to_other)
    ∙ sym k.text

one_waiting : (names : Names_data) (protocol : Protocol_data) (talks : List Position) (role : Role) (node : ℕ) (lines others : List ℕ) → TellsWaiting names protocol talks role node lines
    → TellsWaiting names protocol talks role node others → lines ≡ others
one_waiting names protocol talks role node lines others h k =
    let round = one_round protocol role node h.round k.round h.is_round k.is_round in
    h.text ∙ ap (λ (z : List ℕ). waiting_lines names protocol talks role z) round ∙ sym k.text

one_unprojectable : (names : Names_data) (protocol : Protocol_data) (talks : List Position) (fault : ProjFault) (lines others : List ℕ) → TellsUnprojectable names protocol talks fault lines
    → TellsUnprojectable names protocol talks fault others → lines ≡ others
one_unprojectable names protocol talks (proj.Unmergeable role a b) lines others h k = one_clash names protocol talks role a b lines others h k
one_unprojectable names protocol talks (proj.Unreached role node) lines others h k = one_waiting names protocol talks role node lines others h k
one_unprojectable names protocol talks (proj.TooManyStates role) lines others h k = h ∙ sym k
one_unprojectable names protocol talks proj.NoMemory lines others h k = h ∙ sym k

one_of_machine : (bound : ℕ) (d : Document_data) (places : Places_data) (u : Underivable) (lines others : List ℕ) → TellsOfMachine bound d places u lines → TellsOfMachine bound d places u others
    → lines ≡ others
one_of_machine bound d places u lines others h k =
    let same = same_session d h.projections k.projections h.machines k.machines h.has k.has in
    let machine : h.machine ≡ k.machine = same_Some h.machine k.machine (sym h.runs ∙ ap (λ z. slice_get z u.role.0) same.1 ∙ k.runs) in
    let projection : h.projection ≡ k.projection = same_Some h.projection k.projection (sym h.projects ∙ ap (λ z. slice_get z u.role.0) same.0 ∙ k.projects) in
    let P : Machine_data → Type 0 = λ z. TellsUnderivable (source_of d places u.role z h.projection) bound u.fault lines in
    let Q : Projection_data → Type 0 = λ z. TellsUnderivable (source_of d places u.role k.machine z) bound u.fault lines in
    one_underivable (source_of d places u.role k.machine k.projection) bound u.fault lines others (subst Q projection (subst P machine h.tells)) k.tells

-- one is told of each reason
one_telling : (bound : ℕ) (d : Document_data) (places : Places_data) (why : Refusal) (lines others : List ℕ) → TellsWhy bound d places why lines → TellsWhy bound d places why others → lines ≡ others
one_telling bound d places (refusal.IllFormed fault) lines others h k = h ∙ sym k
one_telling bound d places (refusal.Unprojectable fault) lines others h k = one_unprojectable d.names d.protocol places.talks fault lines others h k
one_telling bound d places (refusal.IllMachine role fault) lines others h k = h ∙ sym k
one_telling bound d places (refusal.Underivable u) lines others h k = one_of_machine bound d places u lines others h k
one_telling bound d places (refusal.Blamed role blame) lines others h k = h ∙ sym k
one_telling bound d places refusal.NoMemory lines others h k = h ∙ sym k

one_by : (places : Places_data) (bound : ℕ) (d : Document_data) (a b : Answer_data) → ExplainsBy places bound d a → ExplainsBy places bound d b → a ≡ b
one_by places bound d a b (IsRefused r h lines t x) (IsRefused s k others u y) =
    let same = one_refusal bound d r s h k in
    let t' : TellsWhy bound d places s lines = subst (λ (z : Refusal). TellsWhy bound d places z lines) same t in
    x ∙ ap₂ (λ (z : Refusal) (w : List ℕ). with_lines (refusal_answer d.names z) w) same (one_telling bound d places s lines others t' u) ∙ sym y
one_by places bound d a b (IsRefused r h lines t x) (IsAccepted ps ms ds k f y) = absurd (not_refused bound d ps ms ds r k f h)
one_by places bound d a b (IsAccepted ps ms ds h f x) (IsRefused s k others u y) = absurd (not_refused bound d ps ms ds s h f k)
one_by places bound d a b (IsAccepted ps ms ds h f x) (IsAccepted qs ns es k g y) =
    let same = same_session d ps qs ms ns h k in
    let found = one_session_derived bound d ps qs ms ns ds es h k f g in
    x ∙ ap₂ (λ (p : List Projection_data) (z : List Derivation_data). with_lines (report d.names.roles z) (machines_lines d.names places.machines 0 d.machines p z)) same.0 found ∙ sym y

-- a document has one explanation
pub one_explaining : (bound : ℕ) (bytes : List ℕ) (d : Document_data) (a b : Answer_data) → SpellsDocument bytes d → Explains bound bytes d a → Explains bound bytes d b → a ≡ b
one_explaining bound bytes d a b doc h k =
    let same = one_places bytes d.names.roles h.places k.places h.are_places k.are_places in
    one_by k.places bound d a b (subst (λ (z : Places_data). ExplainsBy z bound d a) same h.explains) k.explains

-- the explanation is what `check` answers, with lines behind it
pub record AnswersAsCheck (bound : ℕ) (d : Document_data) (a : Answer_data) : Type 0 where
  pub checked : Answer_data
  pub checks : Checks bound false d checked
  pub verdict : a.verdict ≡ checked.verdict
  pub lines : List ℕ
  pub text : a.text ≡ checked.text ++ lines

as_check : (places : Places_data) (bound : ℕ) (d : Document_data) (a : Answer_data) → ExplainsBy places bound d a → AnswersAsCheck bound d a
as_check places bound d a (IsRefused r h lines t x) = record {
  checked = refusal_answer d.names r;
  checks = checks.IsRefused r h refl;
  verdict = ap (λ (z : Answer_data). z.verdict) x;
  lines = lines;
  text = ap (λ (z : Answer_data). z.text) x;
}
as_check places bound d a (IsAccepted ps ms ds h f x) = record {
  checked = report d.names.roles ds;
  checks = checks.IsAccepted ps ms ds h f refl;
  verdict = ap (λ (z : Answer_data). z.verdict) x;
  lines = machines_lines d.names places.machines 0 d.machines ps ds;
  text = ap (λ (z : Answer_data). z.text) x;
}

pub explains_as_check : (bound : ℕ) (bytes : List ℕ) (d : Document_data) (a : Answer_data) → Explains bound bytes d a → AnswersAsCheck bound d a
explains_as_check bound bytes d a h = as_check h.places bound d a h.explains

-- ---- each document has an explanation

-- a node at which a role is left waiting is one of the protocol's
unreached_within : (protocol : Protocol_data) (role : Role) (n : ℕ) → IsUnreached protocol role n → n < length protocol.nodes
unreached_within protocol role n u = by u.steps u.some u.cycle
  where
    by : (steps : List PathStep) → steps ≢ [] → IsPath protocol n steps n → n < length protocol.nodes
    by [] some path = absurd (some refl)
    by (s ∷ steps) some path = slice_get_within protocol.nodes n _ path.2.talks

some_unprojectable : (names : Names_data) (protocol : Protocol_data) (talks : List Position) (role : Role) (fault : ProjFault) → IsWellFormed protocol → FirstRefusal protocol role fault
    → (lines : List ℕ) × TellsUnprojectable names protocol talks fault lines
some_unprojectable names protocol talks role (proj.Unmergeable r a b) wf h =
    let p = some_parting protocol r a b wf in
    let ones = some_meeting protocol r (Some a) wf in
    let others = some_meeting protocol r b wf in (
      clash_text (record { names = names; protocol = protocol; talks = talks; role = r; a = a; b = b; ones = ones.0; others = others.0 }) p.0,
      record { parting = p.0; is_where = where_is protocol r a b p.0 p.1; ones = ones.0; to_one = meeting_of protocol r (Some a) ones.0 ones.1; others = others.0; to_other = meeting_of protocol r b others.0 others.1; text = refl },
    )
some_unprojectable names protocol talks role (proj.Unreached r node) wf h =
    let waits : IsUnreached protocol r node = subst (λ (x : Role). IsUnreached protocol x node) (sym h.0) h.1 in
    let round = some_round protocol r node wf (unreached_within protocol r node waits) in
    (waiting_lines names protocol talks r round.0, record { round = round.0; is_round = round.1; text = refl })
some_unprojectable names protocol talks role (proj.TooManyStates r) wf h = ([], refl)
some_unprojectable names protocol talks role proj.NoMemory wf h = absurd h

some_without : (bound : ℕ) (d : Document_data) (places : Places_data) (why : Refusal) → HasNoSession d why → (lines : List ℕ) × TellsWhy bound d places why lines
some_without bound d places why (IsIllFormed fault e) = (talk_line d.names d.protocol places.talks fault, refl)
some_without bound d places why (HasNoProjection none role fault u) = some_unprojectable d.names d.protocol places.talks role fault (no_fault d.protocol none) u.refused
some_without bound d places why (HasIllMachine ps h ill e) = (own_state_line d places ill.role ill.fault (slice_get d.machines ill.role.0), refl)

some_reason : (bound : ℕ) (bytes : List ℕ) (d : Document_data) (places : Places_data) (why : Refusal) → SpellsDocument bytes d → HasNoDerivations bound d why
    → (lines : List ℕ) × TellsWhy bound d places why lines
some_reason bound bytes d places why doc (IsWithoutSession r h) = some_without bound d places r h
some_reason bound bytes d places why doc (HasNoDerivation ps ms has role fault u) =
    let s = session_of d ps ms (spelt_session bytes d doc) has.projections_are.well_formed has.projections_are.projected has.machines_are has.well_formed in
    let ours = machine_proper d.protocol ps ms s role.0 u.machine u.runs in
    let theirs = projection_proper d.protocol ps ms s role.0 u.projection u.projects in
    let t = some_underivable (source_of d places role u.machine u.projection) bound fault ours theirs u.refused in
    (t.0, record { projections = ps; machines = ms; has = has; machine = u.machine; projection = u.projection; runs = u.runs; projects = u.projects; tells = t.1 })

some_by : (bound : ℕ) (bytes : List ℕ) (d : Document_data) (places : Places_data) → SpellsDocument bytes d → Prepared bound d → (a : Answer_data) × ExplainsBy places bound d a
some_by bound bytes d places doc (NotSo why h) =
    let t = some_reason bound bytes d places why doc h in
    (with_lines (refusal_answer d.names why) t.0, IsRefused why h t.0 t.1 refl)
some_by bound bytes d places doc (Derived ps ms ds h found) =
    (with_lines (report d.names.roles ds) (machines_lines d.names places.machines 0 d.machines ps ds), IsAccepted ps ms ds h found refl)

pub some_explaining : (bound : ℕ) (bytes : List ℕ) (d : Document_data) → SpellsDocument bytes d → (a : Answer_data) × Explains bound bytes d a
some_explaining bound bytes d doc =
    let places = some_places bytes d.names.roles in
    let a = some_by bound bytes d places.0 doc (prepared bound bytes d doc (first_fault d.protocol) refl) in
    (a.0, record { places = places.0; are_places = places.1; explains = a.1 })
