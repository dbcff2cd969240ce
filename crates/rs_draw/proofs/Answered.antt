-- What was answered is what is due.
use Rattle.std.proofs.Common.{◌≡◌, ◌⊎◌, ◌<◌, ◌≤◌, ◌^◌, ℕ, List, length, Option, Some, None, Result, Ok, Err, get_or, slice_get, refl, sym, ap, ◌∙◌, inl, inr, arith}
use Rattle.std.proofs.lemmas.Option.{slice_get_read}
use Rattle.std.specs.Prelude.{IfOk, OnOk}
use Rattle.rs_model.specs.Data.{Machine_data}
use Rattle.rs_model.specs.declared.memory.NoMemory.{NoMemory}
use Rattle.rs_project.specs.Data.{Projection_data}
use Rattle.rs_project.specs.Numbered.{AreNumberedProjections}
use Rattle.rs_project.specs.declared.projecting.ProjFault.{ProjFault}
use Rattle.rs_project.specs.declared.projecting.ProjFault.TheVariants as proj
use Rattle.rs_text.specs.Names.{place_of}
use Rattle.rs_wellformed.specs.Faults.{first_fault}
use Rattle.rs_wellformed.specs.declared.checks.WfFault.{WfFault}
use Rattle.rs_documents.specs.Data.{Document_data}
use Rattle.rs_documents.specs.Ready.{DocumentIsReady}
use Rattle.rs_text.proofs.Numbers.{place_below}
use Rattle.rs_answers.specs.Data.{Answer_data}
use Rattle.rs_answers.specs.Improves.{unknown_role}
use Rattle.rs_answers.specs.RefusalTexts.{wf_answer}
use Rattle.rs_answers.specs.Refusals.{of_projecting, refusal_answer}
use Rattle.rs_answers.specs.Sessions.{Refuses}
use Rattle.rs_answers.specs.declared.refusals.Refusal.{Refusal}
use Rattle.rs_answers.specs.declared.refusals.Refusal.TheVariants as refusal
use Rattle.rs_draw.specs.PutsOff.{DrawsOwn}
use Rattle.rs_draw.specs.Draws.{DrawsProjection, DrawsRole, HasMachine, HasNoMachine, HasNoProjection, HasNoRole, IsIllFormed, IsProjected, drawn_machine}

pub ill_formed : (d : Document_data) (place : ℕ) (f : WfFault) (r : Result Answer_data NoMemory) → first_fault d.protocol ≡ Some f → IfOk r (λ a. a ≡ wf_answer d.names f) → IfOk r (DrawsProjection d place)
ill_formed d place f (Ok a) e is = IsIllFormed f e is
ill_formed d place f (Err e) h is = tt

pub none_projected : (d : Document_data) (place : ℕ) (f : ProjFault) (why : Refusal) (r : Result Answer_data NoMemory) → first_fault d.protocol ≡ None → (f ≡ proj.NoMemory) ⊎ Refuses d.protocol f
    → why ≡ of_projecting f → IfOk r (λ a. a ≡ refusal_answer d.names why) → OnOk r (why ≡ refusal.NoMemory → ⊥) → IfOk r (DrawsProjection d place)
none_projected d place f why (Err e) none h same is never = tt
none_projected d place f why (Ok a) none (inl memory) same is never = absurd (never (same ∙ ap of_projecting memory))
none_projected d place proj.NoMemory why (Ok a) none (inr refuses) same is never = absurd (never same)
none_projected d place (proj.Unmergeable role x y) why (Ok a) none (inr refuses) same is never =
    HasNoProjection none refuses.0 (proj.Unmergeable role x y) refuses.1 (is ∙ ap (refusal_answer d.names) same)
none_projected d place (proj.Unreached role node) why (Ok a) none (inr refuses) same is never =
    HasNoProjection none refuses.0 (proj.Unreached role node) refuses.1 (is ∙ ap (refusal_answer d.names) same)
none_projected d place (proj.TooManyStates role) why (Ok a) none (inr refuses) same is never =
    HasNoProjection none refuses.0 (proj.TooManyStates role) refuses.1 (is ∙ ap (refusal_answer d.names) same)

pub projected : (d : Document_data) (place : ℕ) (ps : List Projection_data) (p : Projection_data) (machine : Machine_data) (r : Result Answer_data NoMemory) → first_fault d.protocol ≡ None
    → AreNumberedProjections d.protocol ps → slice_get ps place ≡ Some p → machine ≡ p.machine → IfOk r (λ a. a ≡ drawn_machine d.names machine) → IfOk r (DrawsProjection d place)
projected d place ps p machine (Err e) none all there same is = tt
projected d place ps p machine (Ok a) none all there same is = IsProjected ps p (record { well_formed = none; projected = all }) there (is ∙ ap (drawn_machine d.names) same)

pub role_unknown : (role : List ℕ) (d : Document_data) (r : Result Answer_data NoMemory) → place_of role d.names.roles ≡ None → IfOk r (λ a. a ≡ unknown_role) → IfOk r (DrawsRole role d)
role_unknown role d (Err e) none is = tt
role_unknown role d (Ok a) none is = HasNoRole none is

pub own_drawn : (role : List ℕ) (d : Document_data) (place : ℕ) (machine : Machine_data) (r : Result Answer_data NoMemory) → place_of role d.names.roles ≡ Some place
    → slice_get d.machines place ≡ Some (Some machine) → IfOk r (DrawsOwn d place machine) → IfOk r (DrawsRole role d)
own_drawn role d place machine (Err e) known there is = tt
own_drawn role d place machine (Ok a) known there is = HasMachine place machine known there is

pub projection_drawn : (role : List ℕ) (d : Document_data) (place : ℕ) (r : Result Answer_data NoMemory) → place_of role d.names.roles ≡ Some place → slice_get d.machines place ≡ Some None
    → IfOk r (DrawsProjection d place) → IfOk r (DrawsRole role d)
projection_drawn role d place (Err e) known there h = tt
projection_drawn role d place (Ok a) known there h = HasNoMachine place known there h

-- ---- the role

pub known_role : (asked role : List ℕ) (found roles : List (List ℕ)) (place : ℕ) → Some place ≡ place_of asked found → asked ≡ role → found ≡ roles → place_of role roles ≡ Some place
known_role asked role found roles place e a r = ap (λ z. place_of role z) (sym r) ∙ ap (λ z. place_of z found) (sym a) ∙ sym e

pub role_below : (role : List ℕ) (d : Document_data) (place : ℕ) → DocumentIsReady d → place_of role d.names.roles ≡ Some place → place < length d.machines
role_below role d place ready e = let below = place_below d.names.roles role place e in let one = ready.one_each in omega (arith, below, one)

-- what stands in the role's place
pub held : (d : Document_data) (place : ℕ) (machines : List (Option Machine_data)) (found own : Option Machine_data) → place < length d.machines → machines ≡ d.machines → found ≡ get_or machines place found
    → found ≡ own → slice_get d.machines place ≡ Some own
held d place machines found own low same e is =
    slice_get_read d.machines (length d.machines) place found refl low (e ∙ ap (λ (z : List (Option Machine_data)). get_or z place found) same) ∙ ap Some is

pub few_states : (d : Document_data) (place : ℕ) (machine : Machine_data) → DocumentIsReady d → slice_get d.machines place ≡ Some (Some machine) → length machine.states < 2 ^ 32
few_states d place machine ready there = let short : length machine.states ≤ 1024 = ready.short place machine there in omega (arith, short)
