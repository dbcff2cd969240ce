-- What the derivations of a document show, where none of them is blamed.
use Rattle.std.proofs.Common.{◌≡◌, ◌⊎◌, ℕ, zero, suc, ◌+◌, true, false, List, [], ◌∷◌, length, Option, Some, None, Result, Ok, Err, refl, sym, ap, subst, ◌∙◌, inl, inr, arith, slice_get}
use Rattle.std.specs.List.{list_all}
use Rattle.std.specs.Option.{is_some}
use Rattle.std.specs.Prelude.{IfErr, IfOk, IsErrAnd, OnOk}
use Rattle.std.proofs.lemmas.Option.{same_Some}
use Rattle.rs_core.specs.Safety.{IsSafe}
use Rattle.rs_derive.proofs.Whole.{no_fault, no_fault_back}
use Rattle.rs_derive.specs.Data.{Derivation_data}
use Rattle.rs_derive.specs.Derivations.{IsDerivation, IsProper, Remembers}
use Rattle.rs_derive.specs.Faults.{first_fault}
use Rattle.rs_derive.specs.declared.faults.DeriveFault.{DeriveFault}
use Rattle.rs_documents.specs.Data.{Document_data}
use Rattle.rs_documents.specs.Ready.{DerivationsAreHeld, IsBounded}
use Rattle.rs_model.specs.Data.{Machine_data, Names_data, Protocol_data}
use Rattle.rs_model.specs.declared.graph.Role.{Role}
use Rattle.rs_model.specs.declared.memory.NoMemory.{NoMemory}
use Rattle.rs_project.specs.Data.{Projection_data}
use Rattle.rs_safety.proofs.Accepts.{accepted_safe, machine_proper, projection_proper}
use Rattle.rs_safety.specs.Accepting.{FirstRefused}
use Rattle.rs_safety.specs.Sessions.{AreDerivations, AreOneEach, IsSession}
use Rattle.rs_answers.specs.Data.{Answer_data}
use Rattle.rs_answers.proofs.Answering.{of_err}
use Rattle.rs_answers.specs.Refusals.{HasNoSession, refusal_answer}
use Rattle.rs_answers.specs.Sessions.{HasMachines}
use Rattle.rs_answers.specs.Verified.{BlamesFirst, IsUnverifiedDocument}
use Rattle.rs_answers.specs.Verifying.{AreCheckable, HasNone, IsBlamed, IsUnverified, IsVerified, RoleBlame, blame_by, blame_of, blame_or, first_blame, those_there}
use Rattle.rs_answers.specs.declared.accepting.RefusedDocument.{RefusedDocument}
use Rattle.rs_answers.specs.declared.refusals.Refusal.{Refusal}
use Rattle.rs_answers.specs.declared.refusals.Refusal.TheVariants as refusal
use Rattle.rs_answers.specs.declared.verifying.Blame.{Blame}
use Rattle.rs_answers.specs.declared.verifying.Blame.TheVariants as blame

pub none_first : (b : Option Blame) (r : Role) (later : Option RoleBlame) → blame_or b r later ≡ None → (b ≡ None) × (later ≡ None)
none_first None r later e = (refl, e)
none_first (Some b) r later e = absurd cc

pub none_blamed : (f : Option DeriveFault) → blame_by f ≡ None → f ≡ None
none_blamed None e = refl
none_blamed (Some f) e = absurd cc

-- where none is blamed all are there
none_missing : (n : ℕ) (own : List (Option Derivation_data)) (ms : List Machine_data) (js : List Projection_data) → first_blame n own ms js ≡ None → length own ≡ length ms → length ms ≡ length js
    → list_all is_some own ≡ true
none_missing n [] ms js e f g = refl
none_missing n (x ∷ own) [] js e f g = absurd cc
none_missing n (x ∷ own) (m ∷ ms) [] e f g = absurd cc
none_missing n (None ∷ own) (m ∷ ms) (j ∷ js) e f g = absurd cc
none_missing n (Some x ∷ own) (m ∷ ms) (j ∷ js) e f g =
    none_missing (suc n) own ms js (none_first (blame_of (Some x) m j) (record { 0 = n }) (first_blame (suc n) own ms js) e).1 (omega (arith, f)) (omega (arith, g))

-- all are there
there_many : (own : List (Option Derivation_data)) → list_all is_some own ≡ true → length (those_there own) ≡ length own
there_many [] e = refl
there_many (None ∷ own) e = absurd (cc e)
there_many (Some x ∷ own) e = ap suc (there_many own e)

-- each derivation is there in its place
pub own_at : (own : List (Option Derivation_data)) → list_all is_some own ≡ true → (p : ℕ) (d : Derivation_data) → slice_get (those_there own) p ≡ Some d → slice_get own p ≡ Some (Some d)
own_at [] e p d h = absurd (cc h)
own_at (None ∷ own) e p d h = absurd (cc e)
own_at (Some x ∷ own) e zero d h = let same : x ≡ d = same_Some x d h in ap (λ z. Some (Some z)) same
own_at (Some x ∷ own) e (suc p) d h = own_at own e p d h

abbrev Shows : Derivation_data → Machine_data → Projection_data → Type 0
Shows d m j = IsDerivation d m j.machine × Remembers d m j.machine

-- those that are there are derivations that remember
there_shows : (n : ℕ) (own : List (Option Derivation_data)) (ms : List Machine_data) (js : List Projection_data) → first_blame n own ms js ≡ None → length own ≡ length ms → length ms ≡ length js
    → (p : ℕ) (m : Machine_data) (j : Projection_data) (d : Derivation_data) → slice_get ms p ≡ Some m → slice_get js p ≡ Some j → slice_get (those_there own) p ≡ Some d → Shows d m j
there_shows n [] ms js e f g p m j d hm hj h = absurd cc
there_shows n (x ∷ own) [] js e f g p m j d hm hj h = absurd cc
there_shows n (x ∷ own) (y ∷ ms) [] e f g p m j d hm hj h = absurd cc
there_shows n (None ∷ own) (y ∷ ms) (z ∷ js) e f g p m j d hm hj h = absurd cc
there_shows n (Some x ∷ own) (y ∷ ms) (z ∷ js) e f g zero m j d hm hj h =
    let none = none_blamed (first_fault x y z.machine) (none_first (blame_of (Some x) y z) (record { 0 = n }) (first_blame (suc n) own ms js) e).0 in
    subst (λ v. Shows v m j) (same_Some x d h) (subst (λ v. Shows x v j) (same_Some y m hm) (subst (λ v. Shows x y v) (same_Some z j hj) (no_fault x y z.machine none)))
there_shows n (Some x ∷ own) (y ∷ ms) (z ∷ js) e f g (suc p) m j d hm hj h =
    there_shows (suc n) own ms js (none_first (blame_of (Some x) y z) (record { 0 = n }) (first_blame (suc n) own ms js) e).1 (omega (arith, f)) (omega (arith, g)) p m j d hm hj h

-- where none is blamed each role has its own
pub each_is_there : (pr : Protocol_data) (own : List (Option Derivation_data)) (ms : List Machine_data) (js : List Projection_data) → IsSession pr js ms → length own ≡ pr.roles
    → first_blame 0 own ms js ≡ None → list_all is_some own ≡ true
each_is_there pr own ms js s size e = none_missing 0 own ms js e (size ∙ sym s.a_machine_each) (s.a_machine_each ∙ sym s.projected.many)

-- the session's derivations
pub are_derivations : (pr : Protocol_data) (own : List (Option Derivation_data)) (ms : List Machine_data) (js : List Projection_data) → IsSession pr js ms → length own ≡ pr.roles
    → first_blame 0 own ms js ≡ None → AreDerivations ms js (those_there own)
are_derivations pr own ms js s size e =
    let f : length own ≡ length ms = size ∙ sym s.a_machine_each in
    let g : length ms ≡ length js = s.a_machine_each ∙ sym s.projected.many in
    record { many = there_many own (each_is_there pr own ms js s size e) ∙ f; each = there_shows 0 own ms js e f g }

pub are_one_each : (pr : Protocol_data) (own : List (Option Derivation_data)) (roles : List (List ℕ)) → length roles ≡ pr.roles → DerivationsAreHeld roles own → list_all is_some own ≡ true
    → AreOneEach pr.roles (those_there own)
are_one_each pr own roles size held all = record {
  many = there_many own all ∙ held.one_each ∙ size;
  role = λ p d h. held.in_place p d (own_at own all p d h);
  bound = λ p d h. (held.all p d (own_at own all p d h)).bound;
  bounded = λ p d h. (let few = (held.all p d (own_at own all p d h)).bounded in omega (arith, few));
}

-- where all show that their machines may stand for their projections, none is blamed
all_show : (n : ℕ) (own : List (Option Derivation_data)) (ms : List Machine_data) (js : List Projection_data) → list_all is_some own ≡ true
    → ((p : ℕ) (m : Machine_data) (j : Projection_data) (d : Derivation_data) → slice_get ms p ≡ Some m → slice_get js p ≡ Some j → slice_get (those_there own) p ≡ Some d → Shows d m j)
    → first_blame n own ms js ≡ None
all_show n [] ms js all h = refl
all_show n (x ∷ own) [] js all h = refl
all_show n (x ∷ own) (m ∷ ms) [] all h = refl
all_show n (None ∷ own) (m ∷ ms) (j ∷ js) all h = absurd (cc all)
all_show n (Some x ∷ own) (m ∷ ms) (j ∷ js) all h =
    let none = no_fault_back x m j.machine (h 0 m j x refl refl refl) in
    rw (none, all_show (suc n) own ms js all (λ p y z d e f g. h (suc p) y z d e f g)) refl

pub none_is_blamed : (own : List (Option Derivation_data)) (ms : List Machine_data) (js : List Projection_data) → list_all is_some own ≡ true → AreDerivations ms js (those_there own)
    → first_blame 0 own ms js ≡ None
none_is_blamed own ms js all h = all_show 0 own ms js all h.each

-- where not all show that their machines may stand for their projections, the first that doesn't is blamed
refused_blamed : (n : ℕ) (own : List (Option Derivation_data)) (ms : List Machine_data) (js : List Projection_data) (place : ℕ) (cause : DeriveFault) → list_all is_some own ≡ true
    → FirstRefused ms js (those_there own) place cause
    → first_blame n own ms js ≡ Some (record { role = record { 0 = n + place }; blame = blame.Fault cause })
refused_blamed n [] ms js place cause all r = let at = r.derives in absurd (cc at)
refused_blamed n (x ∷ own) [] js place cause all r = let at = r.runs in absurd (cc at)
refused_blamed n (x ∷ own) (m ∷ ms) [] place cause all r = let at = r.projects in absurd (cc at)
refused_blamed n (None ∷ own) (m ∷ ms) (j ∷ js) place cause all r = absurd (cc all)
refused_blamed n (Some x ∷ own) (m ∷ ms) (j ∷ js) zero cause all r =
    let em : m ≡ r.machine = same_Some m r.machine r.runs in
    let ej : j ≡ r.projection = same_Some j r.projection r.projects in
    let ex : x ≡ r.derivation = same_Some x r.derivation r.derives in
    let P : Projection_data → Type 0 = λ z. first_fault r.derivation r.machine z.machine ≡ Some cause in
    let Q : Machine_data → Type 0 = λ z. first_fault r.derivation z j.machine ≡ Some cause in
    let R : Derivation_data → Type 0 = λ z. first_fault z m j.machine ≡ Some cause in
    let fault : first_fault x m j.machine ≡ Some cause = subst R (sym ex) (subst Q (sym em) (subst P (sym ej) r.fault)) in
    let place : n ≡ n + 0 = omega arith in
    rw fault (ap (λ (k : ℕ). Some (record { role = record { 0 = k }; blame = blame.Fault cause })) place)
refused_blamed n (Some x ∷ own) (m ∷ ms) (j ∷ js) (suc place) cause all r =
    let none = no_fault_back x m j.machine (r.earlier 0 m j x (omega arith) refl refl refl) in
    let later : FirstRefused ms js (those_there own) place cause = record {
      machine = r.machine;
      projection = r.projection;
      derivation = r.derivation;
      runs = r.runs;
      projects = r.projects;
      derives = r.derives;
      fault = r.fault;
      earlier = λ p y z d lt e f g. r.earlier (suc p) y z d (omega (arith, lt)) e f g;
    } in
    let on : suc n + place ≡ n + suc place = omega arith in
    let P : ℕ → Type 0 = λ k. first_blame (suc n) own ms js ≡ Some (record { role = record { 0 = k }; blame = blame.Fault cause }) in
    rw none (subst P on (refused_blamed (suc n) own ms js place cause all later))

pub refused_is_blamed : (own : List (Option Derivation_data)) (ms : List Machine_data) (js : List Projection_data) (role : Role) (cause : DeriveFault) → list_all is_some own ≡ true
    → FirstRefused ms js (those_there own) role.0 cause
    → first_blame 0 own ms js ≡ Some (record { role = role; blame = blame.Fault cause })
refused_is_blamed own ms js role cause all r =
    let place : 0 + role.0 ≡ role.0 = omega arith in
    let P : ℕ → Type 0 = λ k. first_blame 0 own ms js ≡ Some (record { role = record { 0 = k }; blame = blame.Fault cause }) in
    subst P place (refused_blamed 0 own ms js role.0 cause all r)

-- some role is blamed where one is missing
pub missing_is_blamed : (pr : Protocol_data) (own : List (Option Derivation_data)) (ms : List Machine_data) (js : List Projection_data) → IsSession pr js ms → length own ≡ pr.roles
    → list_all is_some own ≡ false → first_blame 0 own ms js ≡ None → ⊥
missing_is_blamed pr own ms js s size missing e =
    let f : length own ≡ length ms = size ∙ sym s.a_machine_each in
    let g : length ms ≡ length js = s.a_machine_each ∙ sym s.projected.many in
    let all = none_missing 0 own ms js e f g in
    cc (missing, all)

-- what the checker asks is there
checkable_by : (own : List (Option Derivation_data)) (ms : List Machine_data) (js : List Projection_data) → ((p : ℕ) (m : Machine_data) → slice_get ms p ≡ Some m → IsProper m)
    → ((p : ℕ) (j : Projection_data) → slice_get js p ≡ Some j → IsProper j.machine)
    → ((p : ℕ) (x : Derivation_data) → slice_get own p ≡ Some (Some x) → IsBounded x) → AreCheckable own ms js
checkable_by [] ms js hm hj hx = tt
checkable_by (x ∷ own) [] js hm hj hx = tt
checkable_by (x ∷ own) (m ∷ ms) [] hm hj hx = tt
checkable_by (x ∷ own) (m ∷ ms) (j ∷ js) hm hj hx = (
  record { machine_is = hm 0 m refl; projection_is = hj 0 j refl; bounded = λ d e. hx 0 d (ap Some e) },
  checkable_by own ms js (λ p y e. hm (suc p) y e) (λ p y e. hj (suc p) y e) (λ p y e. hx (suc p) y e),
)

pub checkable : (pr : Protocol_data) (own : List (Option Derivation_data)) (ms : List Machine_data) (js : List Projection_data) (roles : List (List ℕ)) → IsSession pr js ms
    → DerivationsAreHeld roles own → AreCheckable own ms js
checkable pr own ms js roles s held = checkable_by own ms js (λ p m e. machine_proper pr js ms s p m e) (λ p j e. projection_proper pr js ms s p j e) (λ p x e. held.all p x e)

-- where none is blamed, the machines are safe
pub verified_safe : (pr : Protocol_data) (own : List (Option Derivation_data)) (ms : List Machine_data) (js : List Projection_data) → IsSession pr js ms → length own ≡ pr.roles
    → first_blame 0 own ms js ≡ None → IsSafe ms
verified_safe pr own ms js s size e = accepted_safe pr js ms (those_there own) s (are_derivations pr own ms js s size e)

-- whether the document's own derivations pass
pub data Tested (d : Document_data) : Type 0 where
  Passes : (ps : List Projection_data) (ms : List Machine_data) → IsVerified d ps ms → Tested d
  Fails : (why : Refusal) → IsUnverified d why → Tested d

pub tested_by : (d : Document_data) (ps : List Projection_data) (ms : List Machine_data) → HasMachines d ps ms → Tested d
tested_by d ps ms h = go (first_blame 0 d.derivations ms ps) refl
  where
    go : (o : Option RoleBlame) → first_blame 0 d.derivations ms ps ≡ o → Tested d
    go (Some b) e = Fails (refusal.Blamed b.role b.blame) (IsBlamed ps ms h b e)
    go None e = Passes ps ms (record { has = h; none = e })

-- what is answered to a document that is refused
pub told_why : (d : Document_data) (e : RefusedDocument) (r : Result Answer_data NoMemory) → IsUnverifiedDocument d e → IfOk r (λ a. a ≡ refusal_answer e.names e.refusal)
    → OnOk r (e.refusal ≡ refusal.NoMemory → ⊥) → IfOk r (λ a. IsUnverified d e.refusal × (a ≡ refusal_answer d.names e.refusal))
told_why d e (Err x) h is never = tt
told_why d e (Ok a) h is never = elim h.why [
  | inl memory ↦ absurd (never memory)
  | inr why ↦ (why, is ∙ ap (λ (n : Names_data). refusal_answer n e.refusal) h.names)
]

-- whom equal lists blame is one
pub blame_same : (own own' : List (Option Derivation_data)) (ms ms' : List Machine_data) (ps ps' : List Projection_data) → own ≡ own' → ms ≡ ms' → ps ≡ ps'
    → first_blame 0 own ms ps ≡ first_blame 0 own' ms' ps'
blame_same own own' ms ms' ps ps' e f g = ap (λ z. first_blame 0 z ms ps) e ∙ ap (λ z. first_blame 0 own' z ps) f ∙ ap (λ z. first_blame 0 own' ms' z) g

-- the reasons that are told
pub blamed_is_why : (d : Document_data) (ps : List Projection_data) (ms : List Machine_data) (why : Refusal) → HasMachines d ps ms → BlamesFirst d.derivations ms ps why
    → (why ≡ refusal.NoMemory) ⊎ IsUnverified d why
blamed_is_why d ps ms why h (inl memory) = inl memory
blamed_is_why d ps ms why h (inr b) = inr (subst (IsUnverified d) (sym b.2) (IsBlamed ps ms h b.0 b.1))

pub tells_no_session : {A : Type 0} (d : Document_data) (why : Refusal) (r : Result A Refusal) → IsErrAnd r (λ e. e ≡ why) → (why ≡ refusal.NoMemory) ⊎ HasNoSession d why
    → IfErr r (λ e. (e ≡ refusal.NoMemory) ⊎ IsUnverified d e)
tells_no_session d why r is (inl memory) = of_err r why (λ e. (e ≡ refusal.NoMemory) ⊎ IsUnverified d e) is (inl memory)
tells_no_session d why r is (inr h) = of_err r why (λ e. (e ≡ refusal.NoMemory) ⊎ IsUnverified d e) is (inr (HasNone why h))
