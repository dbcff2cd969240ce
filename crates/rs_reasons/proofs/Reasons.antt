-- What an answer that was made tells of its document.
use Rattle.std.proofs.Common.{◌≡◌, ◌⊎◌, ◌++◌, ◌∙◌, ℕ, List, Some, Result, Ok, Err, sym, ap, subst, inl, inr, slice_get, get_or, arith}
use Rattle.std.proofs.lemmas.Option.{same_Some, slice_get_within}
use Rattle.std.specs.Prelude.{IfOk}
use Rattle.rs_answers.specs.Data.{Answer_data}
use Rattle.rs_answers.specs.Derivations.{AreCanonical, IsUnderivable}
use Rattle.rs_answers.specs.Refusals.{HasNoSession, IsIllFormed, HasNoProjection, HasIllMachine, IsWithoutSession, HasNoDerivation, refusal_answer}
use Rattle.rs_answers.specs.Report.{report}
use Rattle.rs_answers.specs.Sessions.{HasMachines}
use Rattle.rs_answers.specs.declared.derivations.Underivable.{Underivable}
use Rattle.rs_answers.specs.declared.refusals.Refusal.{Refusal}
use Rattle.rs_answers.specs.declared.refusals.Refusal.TheVariants as refusal
use Rattle.rs_answers.specs.declared.verifying.Blame.{Blame}
use Rattle.rs_derive.specs.Data.{Derivation_data}
use Rattle.rs_documents.specs.Data.{Document_data}
use Rattle.rs_model.specs.Data.{Machine_data, Names_data, Protocol_data}
use Rattle.rs_model.specs.declared.graph.Role.{Role}
use Rattle.rs_model.specs.declared.memory.NoMemory.{NoMemory}
use Rattle.rs_places.specs.Data.{Places_data}
use Rattle.rs_places.specs.declared.places.Position.{Position}
use Rattle.rs_project.specs.Data.{Projection_data}
use Rattle.rs_project.specs.declared.projecting.ProjFault.{ProjFault}
use Rattle.rs_safety.proofs.Accepts.{gets}
use Rattle.rs_search.specs.Canonical.{SearchRefuses}
use Rattle.rs_search.specs.declared.faults.SearchFault.{SearchFault}
use Rattle.rs_walk_texts.specs.Data.{WalkSource_data}
use Rattle.rs_wellformed.proofs.Faults.{no_fault}
use Rattle.rs_wellformed.specs.WellFormed.{IsWellFormed}
use Rattle.rs_reasons.specs.Accepted.{machines_lines}
use Rattle.rs_reasons.specs.Explains.{ExplainsBy, IsRefused, IsAccepted, TellsOfMachine, TellsWhy, source_of, states_of, with_lines}
use Rattle.rs_reasons.specs.Underivable.{TellsUnderivable}

-- a protocol that has no projection is well formed
pub well_formed_here : (d : Document_data) (why : Refusal) (fault : ProjFault) → why ≡ refusal.Unprojectable fault → (why ≡ refusal.NoMemory) ⊎ HasNoSession d why → IsWellFormed d.protocol
well_formed_here d why fault e (inl memory) = let bad : refusal.Unprojectable fault ≡ refusal.NoMemory = sym e ∙ memory in absurd cc
well_formed_here d why fault e (inr (IsIllFormed f h)) = absurd cc
well_formed_here d why fault e (inr (HasNoProjection none role f u)) = no_fault d.protocol none
well_formed_here d why fault e (inr (HasIllMachine ps h ill k)) = absurd cc

-- no other reason leaves a document without a session
pub not_underivable : (d : Document_data) (why : Refusal) (u : Underivable) → why ≡ refusal.Underivable u → (why ≡ refusal.NoMemory) ⊎ HasNoSession d why → ⊥
not_underivable d why u e (inl memory) = let bad : refusal.Underivable u ≡ refusal.NoMemory = sym e ∙ memory in cc
not_underivable d why u e (inr (IsIllFormed f h)) = cc
not_underivable d why u e (inr (HasNoProjection none role f k)) = cc
not_underivable d why u e (inr (HasIllMachine ps h ill k)) = cc

pub not_blamed : (d : Document_data) (why : Refusal) (role : Role) (blame : Blame) → why ≡ refusal.Blamed role blame → (why ≡ refusal.NoMemory) ⊎ HasNoSession d why → ⊥
not_blamed d why role blame e (inl memory) = let bad : refusal.Blamed role blame ≡ refusal.NoMemory = sym e ∙ memory in cc
not_blamed d why role blame e (inr (IsIllFormed f h)) = cc
not_blamed d why role blame e (inr (HasNoProjection none r f k)) = cc
not_blamed d why role blame e (inr (HasIllMachine ps h ill k)) = cc

-- what holds of all that was made
pub mapped : {A : Type 0} (P Q : A → Type 0) (r : Result A NoMemory) → ((m : A) → P m → Q m) → IfOk r P → IfOk r Q
mapped P Q (Ok m) h p = h m p
mapped P Q (Err e) h p = tt

-- the document has no session, and it is told why
pub tells_no_session : (places : Places_data) (bound : ℕ) (d : Document_data) (why : Refusal) (answer : Answer_data) (lines : List ℕ) → (why ≡ refusal.NoMemory) ⊎ HasNoSession d why → (why ≡ refusal.NoMemory → ⊥)
    → TellsWhy bound d places why lines → answer ≡ refusal_answer d.names why → (a : Answer_data) → a ≡ with_lines answer lines → ExplainsBy places bound d a
tells_no_session places bound d why answer lines (inl memory) never tells is a e = absurd (never memory)
tells_no_session places bound d why answer lines (inr none) never tells is a e =
    IsRefused why (IsWithoutSession why none) lines tells (e ∙ ap (λ (z : Answer_data). with_lines z lines) is)

-- no derivation is found of a machine, and it is told why
pub tells_underivable : (places : Places_data) (bound : ℕ) (d : Document_data) (ps : List Projection_data) (ms : List Machine_data) (u : Underivable) (answer : Answer_data) (lines : List ℕ) → HasMachines d ps ms
    → IsUnderivable bound ms ps u.role u.fault → TellsWhy bound d places (refusal.Underivable u) lines → answer ≡ refusal_answer d.names (refusal.Underivable u)
    → (a : Answer_data) → a ≡ with_lines answer lines → ExplainsBy places bound d a
tells_underivable places bound d ps ms u answer lines has h tells is a e =
    IsRefused (refusal.Underivable u) (HasNoDerivation ps ms has u.role u.fault h) lines tells (e ∙ ap (λ (z : Answer_data). with_lines z lines) is)

-- the session is accepted, and it is told of its machines
pub tells_accepted : (places : Places_data) (bound : ℕ) (d : Document_data) (ps : List Projection_data) (ms : List Machine_data) (ds : List Derivation_data) (reported : Answer_data) (text : List ℕ) → HasMachines d ps ms
    → AreCanonical bound ms ps ds → reported ≡ report d.names.roles ds → text ≡ reported.text ++ machines_lines d.names places.machines 0 d.machines ps ds
    → ExplainsBy places bound d (record { text = text; verdict = reported.verdict })
tells_accepted places bound d ps ms ds reported text has found reports is =
    IsAccepted ps ms ds has found
    (ap (λ (z : List ℕ). record { text = z; verdict = reported.verdict }) is
    ∙ ap (λ (z : Answer_data). with_lines z (machines_lines d.names places.machines 0 d.machines ps ds)) reports)

-- ---- the machine of which no derivation is found

pub machine_found : (bound : ℕ) (ms : List Machine_data) (ps : List Projection_data) (role : Role) (fault : SearchFault) (k : ℕ) (m : Machine_data) → IsUnderivable bound ms ps role fault → k ≡ role.0
    → m ≡ get_or ms k m → slice_get ms role.0 ≡ Some m
machine_found bound ms ps role fault k m u e is =
    let within = slice_get_within ms role.0 u.machine u.runs in
    ap (slice_get ms) (sym e) ∙ gets ms k m (omega (arith, within, e)) is

pub projection_found : (bound : ℕ) (ms : List Machine_data) (ps : List Projection_data) (role : Role) (fault : SearchFault) (k : ℕ) (j : Projection_data) → IsUnderivable bound ms ps role fault → k ≡ role.0
    → j ≡ get_or ps k j → slice_get ps role.0 ≡ Some j
projection_found bound ms ps role fault k j u e is =
    let within = slice_get_within ps role.0 u.projection u.projects in
    ap (slice_get ps) (sym e) ∙ gets ps k j (omega (arith, within, e)) is

pub refuses_it : (bound number : ℕ) (ms : List Machine_data) (ps : List Projection_data) (role : Role) (fault : SearchFault) (m : Machine_data) (j : Projection_data) → IsUnderivable bound ms ps role fault
    → slice_get ms role.0 ≡ Some m → slice_get ps role.0 ≡ Some j → number ≡ bound → SearchRefuses m j.machine number fault
refuses_it bound number ms ps role fault m j u runs projects n =
    let machine : u.machine ≡ m = same_Some u.machine m (sym u.runs ∙ runs) in
    let projection : u.projection ≡ j = same_Some u.projection j (sym u.projects ∙ projects) in
    let P : Machine_data → Type 0 = λ z. SearchRefuses z u.projection.machine bound fault in
    let Q : Projection_data → Type 0 = λ z. SearchRefuses m z.machine bound fault in
    let R : ℕ → Type 0 = λ z. SearchRefuses m j.machine z fault in
    subst R (sym n) (subst Q projection (subst P machine u.refused))

pub tells_of_machine : (bound number : ℕ) (d : Document_data) (places : Places_data) (u : Underivable) (ps : List Projection_data) (ms : List Machine_data) (m : Machine_data) (j : Projection_data)
    (names : Names_data) (protocol : Protocol_data) (talks states : List Position) (lines : List ℕ) → HasMachines d ps ms → slice_get ms u.role.0 ≡ Some m → slice_get ps u.role.0 ≡ Some j → number ≡ bound
    → names ≡ d.names → protocol ≡ d.protocol → talks ≡ places.talks → states ≡ states_of places u.role
    → TellsUnderivable (record { names = names; protocol = protocol; talks = talks; projection = j; machine = m; states = states }) number u.fault lines → TellsOfMachine bound d places u lines
tells_of_machine bound number d places u ps ms m j names protocol talks states lines has runs projects n en ep et es tells =
    let source : WalkSource_data → Type 0 = λ (z : WalkSource_data). TellsUnderivable z bound u.fault lines in
    let same : record { names = names; protocol = protocol; talks = talks; projection = j; machine = m; states = states } ≡ source_of d places u.role m j =
    ap (λ (z : Names_data). record { names = z; protocol = protocol; talks = talks; projection = j; machine = m; states = states }) en
    ∙ ap (λ (z : Protocol_data). record { names = d.names; protocol = z; talks = talks; projection = j; machine = m; states = states }) ep
    ∙ ap (λ (z : List Position). record { names = d.names; protocol = d.protocol; talks = z; projection = j; machine = m; states = states }) et
    ∙ ap (λ (z : List Position). record { names = d.names; protocol = d.protocol; talks = places.talks; projection = j; machine = m; states = z }) es in
    record {
      projections = ps;
      machines = ms;
      has = has;
      machine = m;
      projection = j;
      runs = runs;
      projects = projects;
      tells = subst source same
          (subst (λ (z : ℕ). TellsUnderivable (record { names = names; protocol = protocol; talks = talks; projection = j; machine = m; states = states }) z u.fault lines) n tells);
    }
