-- A document has one session and one list of derivations, or one reason why it has none.
use Rattle.std.proofs.Common.{◌≡◌, ℕ, suc, ◌≤◌, ◌<◌, Option, None, arith, List, [], ◌∷◌, Some, length, refl, sym, ap, subst, ◌∙◌, inl, inr, slice_get}
use Rattle.std.proofs.lemmas.Bool.Decides.{leb_tells}
use Rattle.std.proofs.lemmas.Option.{slice_get_within, same_Some}
use Rattle.rs_model.proofs.Lists.{item_at}
use Rattle.rs_model.specs.Data.{Protocol_data, Machine_data}
use Rattle.rs_model.specs.declared.graph.Role.{Role}
use Rattle.rs_project.specs.Data.{Projection_data}
use Rattle.rs_project.specs.Numbered.{AreFirstProjections, AreNumberedProjections}
use Rattle.rs_project.specs.declared.projecting.ProjFault.{ProjFault}
use Rattle.rs_derive.specs.Data.{Derivation_data}
use Rattle.rs_search.specs.Canonical.{SearchRefuses}
use Rattle.rs_search.specs.declared.faults.SearchFault.{SearchFault}
use Rattle.rs_search.proofs.Determined.{not_both_ways}
use Rattle.rs_search.proofs.Determined as searched
use Rattle.rs_answers.specs.Derivations.{AreCanonical, AreFirstCanonical, IsUnderivable}
use Rattle.rs_wellformed.specs.WellFormed.{IsWellFormed}
use Rattle.rs_wellformed.proofs.Faults.{no_fault}
use Rattle.rs_documents.specs.Data.{Document_data}
use Rattle.rs_answers.specs.Refusals.{HasNoDerivations, HasNoSession, IsIllFormed, HasNoProjection, HasIllMachine, IsWithoutSession, HasNoDerivation}
use Rattle.rs_answers.specs.declared.refusals.Refusal.{Refusal}
use Rattle.rs_answers.specs.declared.refusals.Refusal.TheVariants as refusal
use Rattle.rs_answers.specs.Sessions.{HasMachines, HasProjections, IsUnprojectable, MachineRefusal, first_refusal, machines_of}
use Rattle.rs_answers.specs.Verifying.{HasNone, IsBlamed, IsUnverified, IsVerified, RoleBlame, first_blame}
use Rattle.rs_project.proofs.OneProjection.{not_both_shown, one_projection}
use Rattle.rs_project.proofs.OneAnswer.{one_refusal_shown}

-- projections
same_list : {A : Type 0} (xs ys : List A) → length xs ≡ length ys → ((p : ℕ) (x y : A) → slice_get xs p ≡ Some x → slice_get ys p ≡ Some y → x ≡ y) → xs ≡ ys
same_list [] [] size h = refl
same_list [] (y ∷ ys) size h = absurd cc
same_list (x ∷ xs) [] size h = absurd cc
same_list (x ∷ xs) (y ∷ ys) size h =
    ap (λ z. z ∷ xs) (h 0 x y refl refl) ∙ ap (λ z. y ∷ z) (same_list xs ys (cc) (λ p a b e f. h (suc p) a b e f))

pub one_list : (protocol : Protocol_data) (xs ys : List Projection_data) → IsWellFormed protocol → AreNumberedProjections protocol xs → AreNumberedProjections protocol ys → xs ≡ ys
one_list protocol xs ys w h k =
    same_list xs ys (h.many ∙ sym k.many) (λ p x y e f. one_projection protocol (record { 0 = p }) x y w (h.each p x e) (k.each p y f))

-- a role onto which there is a projection isn't one onto which there is none
not_earlier : (protocol : Protocol_data) (role : Role) (count : ℕ) (projections : List Projection_data) (fault : ProjFault) → IsWellFormed protocol → AreFirstProjections protocol count projections
    → role.0 < count → IsUnprojectable protocol role fault → ⊥
not_earlier protocol role count projections fault w h lt u =
    let m = h.many in
    let x = item_at projections role.0 (omega arith) in
    not_both_shown protocol role x.0 fault (h.each role.0 x.0 x.1) u.refused

same_role : (a b : Role) → a.0 ≡ b.0 → a ≡ b
same_role a b e = ap (λ (n : ℕ). record { 0 = n }) e

pub one_unprojectable : (protocol : Protocol_data) (r s : Role) (f g : ProjFault) → IsWellFormed protocol → IsUnprojectable protocol r f → IsUnprojectable protocol s g → f ≡ g
one_unprojectable protocol r s f g w h k = elim (leb_tells (suc r.0) s.0) [
  | inl less ↦ absurd (not_earlier protocol r s.0 k.earlier f w k.projected less.1 h)
  | inr more ↦ elim (leb_tells (suc s.0) r.0) [
    | inl less ↦ absurd (not_earlier protocol s r.0 h.earlier g w h.projected less.1 k)
    | inr other ↦
        let m1 = more.1 in
        let m2 = other.1 in
        let same : s ≡ r = same_role s r (omega arith) in
        let k' : IsUnprojectable protocol r g = subst (λ (x : Role). IsUnprojectable protocol x g) same k in
        one_refusal_shown protocol r f g h.refused k'.refused
  ]
]

-- a protocol has one list of projections
pub one_projection_list : (d : Document_data) (xs ys : List Projection_data) → HasProjections d xs → HasProjections d ys → xs ≡ ys
one_projection_list d xs ys h k = one_list d.protocol xs ys (no_fault d.protocol h.well_formed) h.projected k.projected

-- a protocol that has projections onto all roles has one onto each
pub not_unprojectable : (d : Document_data) (projections : List Projection_data) (role : Role) (fault : ProjFault) → HasProjections d projections → IsUnprojectable d.protocol role fault → ⊥
not_unprojectable d projections role fault h u = not_earlier d.protocol role d.protocol.roles projections fault (no_fault d.protocol h.well_formed) h.projected u.known u

-- there is one reason why a document has no session
pub one_reason : (d : Document_data) (r s : Refusal) → HasNoSession d r → HasNoSession d s → r ≡ s
one_reason d r s (IsIllFormed f e) (IsIllFormed g h) = let same : Some f ≡ Some g = sym e ∙ h in let is : f ≡ g = cc in ap refusal.IllFormed is
one_reason d r s (IsIllFormed f e) (HasNoProjection none role g u) = absurd cc
one_reason d r s (IsIllFormed f e) (HasIllMachine ps h i g) = let none = h.well_formed in absurd cc
one_reason d r s (HasNoProjection none role f u) (IsIllFormed g h) = absurd cc
one_reason d r s (HasNoProjection none role f u) (HasNoProjection other place g v) =
    ap refusal.Unprojectable (one_unprojectable d.protocol role place f g (no_fault d.protocol none) u v)
one_reason d r s (HasNoProjection none role f u) (HasIllMachine ps h i g) = absurd (not_unprojectable d ps role f h u)
one_reason d r s (HasIllMachine ps h i e) (IsIllFormed g f) = let none = h.well_formed in absurd cc
one_reason d r s (HasIllMachine ps h i e) (HasNoProjection none role g u) = absurd (not_unprojectable d ps role g h u)
one_reason d r s (HasIllMachine ps h i e) (HasIllMachine qs k j f) =
    let projections = one_projection_list d ps qs h k in
    let same : Some i ≡ Some j = sym e ∙ ap (λ z. first_refusal d.protocol.roles (machines_of d.machines z)) projections ∙ f in
    let is : i ≡ j = cc in
    ap (λ (z : MachineRefusal). refusal.IllMachine z.role z.fault) is

-- a document that has a session isn't one that has none
pub has_a_session : (d : Document_data) (projections : List Projection_data) (machines : List Machine_data) (r : Refusal) → HasMachines d projections machines → HasNoSession d r → ⊥
has_a_session d ps ms r h (IsIllFormed f e) = let none = h.projections_are.well_formed in cc
has_a_session d ps ms r h (HasNoProjection none role f u) = not_unprojectable d ps role f h.projections_are u
has_a_session d ps ms r h (HasIllMachine qs k i e) =
    let machines : ms ≡ machines_of d.machines qs = h.machines_are ∙ ap (machines_of d.machines) (one_projection_list d ps qs h.projections_are k) in
    let none : first_refusal d.protocol.roles (machines_of d.machines qs) ≡ None = subst (λ z. first_refusal d.protocol.roles z ≡ None) machines h.well_formed in
    cc (none, e)

-- a document has one session
pub same_session : (d : Document_data) (ps qs : List Projection_data) (ms ns : List Machine_data) → HasMachines d ps ms → HasMachines d qs ns → (ps ≡ qs) × (ms ≡ ns)
same_session d ps qs ms ns h k =
    let projections = one_projection_list d ps qs h.projections_are k.projections_are in
    (projections, h.machines_are ∙ ap (machines_of d.machines) projections ∙ sym k.machines_are)

-- a role whose machine has a derivation isn't one whose machine has none
derived_before : (bound : ℕ) (ms : List Machine_data) (ps : List Projection_data) (count : ℕ) (ds : List Derivation_data) (role : Role) (fault : SearchFault) → AreFirstCanonical bound ms ps count ds
    → role.0 < count → IsUnderivable bound ms ps role fault → ⊥
derived_before bound ms ps count ds role fault h lt u =
    let many = h.many in
    let d = item_at ds role.0 (omega (arith, many, lt)) in
    let found = h.each role.0 u.machine u.projection d.0 u.runs u.projects d.1 in
    u.cause (not_both_ways u.machine u.projection.machine bound d.0 fault found u.refused)

not_derived : (bound : ℕ) (ms : List Machine_data) (ps : List Projection_data) (ds : List Derivation_data) (role : Role) (fault : SearchFault) → AreCanonical bound ms ps ds
    → IsUnderivable bound ms ps role fault → ⊥
not_derived bound ms ps ds role fault h u = derived_before bound ms ps (length ms) ds role fault h (slice_get_within ms role.0 u.machine u.runs) u

one_underivable : (bound : ℕ) (ms : List Machine_data) (ps : List Projection_data) (r s : Role) (f g : SearchFault) → IsUnderivable bound ms ps r f → IsUnderivable bound ms ps s g → (r ≡ s) × (f ≡ g)
one_underivable bound ms ps r s f g u v = elim (leb_tells (suc r.0) s.0) [
  | inl less ↦ absurd (derived_before bound ms ps s.0 v.earlier r f v.derived less.1 u)
  | inr more ↦ elim (leb_tells (suc s.0) r.0) [
    | inl less ↦ absurd (derived_before bound ms ps r.0 u.earlier s g u.derived less.1 v)
    | inr other ↦
        let m1 = more.1 in
        let m2 = other.1 in
        let place : r.0 ≡ s.0 = omega (arith, m1, m2) in
        let same : r ≡ s = same_role r s place in
        let machine : u.machine ≡ v.machine = same_Some u.machine v.machine (sym u.runs ∙ ap (λ z. slice_get ms z) place ∙ v.runs) in
        let projection : u.projection ≡ v.projection = same_Some u.projection v.projection (sym u.projects ∙ ap (λ z. slice_get ps z) place ∙ v.projects) in
        let P : Machine_data → Type 0 = λ z. SearchRefuses z u.projection.machine bound f in
        let Q : Projection_data → Type 0 = λ z. SearchRefuses v.machine z.machine bound f in
        let refused : SearchRefuses v.machine v.projection.machine bound f = subst Q projection (subst P machine u.refused) in
        (same, searched.one_refusal v.machine v.projection.machine bound f g u.cause v.cause refused v.refused)
  ]
]

-- the session's derivations are one list
one_derived : (bound : ℕ) (ms : List Machine_data) (ps : List Projection_data) (ds es : List Derivation_data) → length ms ≤ length ps → AreCanonical bound ms ps ds → AreCanonical bound ms ps es
    → ds ≡ es
one_derived bound ms ps ds es few h k =
    same_list ds es (h.many ∙ sym k.many) (λ p d e hd he.
    let within = slice_get_within ds p d hd in
    let many = h.many in
    let m = item_at ms p (omega (arith, within, many)) in
    let j = item_at ps p (omega (arith, within, many, few)) in
    searched.one_answer m.0 j.0.machine bound d e (h.each p m.0 j.0 d m.1 j.1 hd) (k.each p m.0 j.0 e m.1 j.1 he))

few_machines : (own : List (Option Machine_data)) (ps : List Projection_data) → length (machines_of own ps) ≤ length ps
few_machines [] [] = omega arith
few_machines [] (j ∷ js) = omega arith
few_machines (x ∷ xs) [] = omega arith
few_machines (x ∷ xs) (j ∷ js) = let few = few_machines xs js in omega (arith, few)

-- of a session there is one list of derivations, or one reason why there is none
pub one_session_derived : (bound : ℕ) (d : Document_data) (ps qs : List Projection_data) (ms ns : List Machine_data) (ds es : List Derivation_data) → HasMachines d ps ms → HasMachines d qs ns
    → AreCanonical bound ms ps ds → AreCanonical bound ns qs es → ds ≡ es
one_session_derived bound d ps qs ms ns ds es h k f g =
    let same = same_session d ps qs ms ns h k in
    let P : List Projection_data → Type 0 = λ z. AreCanonical bound ms z ds in
    let Q : List Machine_data → Type 0 = λ z. AreCanonical bound z qs ds in
    let few : length ns ≤ length qs = subst (λ (z : List Machine_data). length z ≤ length qs) (sym k.machines_are) (few_machines d.machines qs) in
    one_derived bound ns qs ds es few (subst Q same.1 (subst P same.0 f)) g

not_session_derived : (bound : ℕ) (d : Document_data) (ps qs : List Projection_data) (ms ns : List Machine_data) (ds : List Derivation_data) (role : Role) (fault : SearchFault) → HasMachines d ps ms
    → HasMachines d qs ns → AreCanonical bound ms ps ds
    → IsUnderivable bound ns qs role fault → ⊥
not_session_derived bound d ps qs ms ns ds role fault h k f u =
    let same = same_session d ps qs ms ns h k in
    let P : List Projection_data → Type 0 = λ z. AreCanonical bound ms z ds in
    let Q : List Machine_data → Type 0 = λ z. AreCanonical bound z qs ds in
    not_derived bound ns qs ds role fault (subst Q same.1 (subst P same.0 f)) u

one_session_underivable : (bound : ℕ) (d : Document_data) (ps qs : List Projection_data) (ms ns : List Machine_data) (r s : Role) (f g : SearchFault) → HasMachines d ps ms → HasMachines d qs ns
    → IsUnderivable bound ms ps r f → IsUnderivable bound ns qs s g
    → refusal.Underivable (record { role = r; fault = f }) ≡ refusal.Underivable (record { role = s; fault = g })
one_session_underivable bound d ps qs ms ns r s f g h k u v =
    let same = same_session d ps qs ms ns h k in
    let P : List Projection_data → Type 0 = λ z. IsUnderivable bound ms z r f in
    let Q : List Machine_data → Type 0 = λ z. IsUnderivable bound z qs r f in
    let one = one_underivable bound ns qs r s f g (subst Q same.1 (subst P same.0 u)) v in
    ap (λ z. refusal.Underivable (record { role = z; fault = f })) one.0 ∙ ap (λ z. refusal.Underivable (record { role = s; fault = z })) one.1

-- there is one reason why no derivations are found, and none where they are
pub one_refusal : (bound : ℕ) (d : Document_data) (r s : Refusal) → HasNoDerivations bound d r → HasNoDerivations bound d s → r ≡ s
one_refusal bound d r s (IsWithoutSession p h) (IsWithoutSession q k) = one_reason d r s h k
one_refusal bound d r s (IsWithoutSession p h) (HasNoDerivation qs ns k role f u) = absurd (has_a_session d qs ns r k h)
one_refusal bound d r s (HasNoDerivation ps ms h role f u) (IsWithoutSession q k) = absurd (has_a_session d ps ms s h k)
one_refusal bound d r s (HasNoDerivation ps ms h role f u) (HasNoDerivation qs ns k place g v) = one_session_underivable bound d ps qs ms ns role place f g h k u v

pub not_refused : (bound : ℕ) (d : Document_data) (ps : List Projection_data) (ms : List Machine_data) (ds : List Derivation_data) (r : Refusal) → HasMachines d ps ms → AreCanonical bound ms ps ds
    → HasNoDerivations bound d r → ⊥
not_refused bound d ps ms ds r h f (IsWithoutSession q k) = has_a_session d ps ms r h k
not_refused bound d ps ms ds r h f (HasNoDerivation qs ns k role g u) = not_session_derived bound d ps qs ms ns ds role g h k f u

-- whom a document blames is one
same_blame : (d : Document_data) (ps qs : List Projection_data) (ms ns : List Machine_data) → HasMachines d ps ms → HasMachines d qs ns
    → first_blame 0 d.derivations ms ps ≡ first_blame 0 d.derivations ns qs
same_blame d ps qs ms ns h k =
    let same = same_session d ps qs ms ns h k in
    ap (λ z. first_blame 0 d.derivations z ps) same.1 ∙ ap (λ z. first_blame 0 d.derivations ns z) same.0

-- there is one reason why a document isn't verified, and none where it is
pub one_unverified : (d : Document_data) (r s : Refusal) → IsUnverified d r → IsUnverified d s → r ≡ s
one_unverified d r s (HasNone p h) (HasNone q k) = one_reason d r s h k
one_unverified d r s (HasNone p h) (IsBlamed qs ns k w f) = absurd (has_a_session d qs ns r k h)
one_unverified d r s (IsBlamed ps ms h v e) (HasNone q k) = absurd (has_a_session d ps ms s h k)
one_unverified d r s (IsBlamed ps ms h v e) (IsBlamed qs ns k w f) =
    let same : Some v ≡ Some w = sym e ∙ same_blame d ps qs ms ns h k ∙ f in
    ap (λ (z : RoleBlame). refusal.Blamed z.role z.blame) (same_Some v w same)

pub not_unverified : (d : Document_data) (ps : List Projection_data) (ms : List Machine_data) (r : Refusal) → IsVerified d ps ms → IsUnverified d r → ⊥
not_unverified d ps ms r h (HasNone q k) = has_a_session d ps ms r h.has k
not_unverified d ps ms r h (IsBlamed qs ns k w f) = let clash : None ≡ Some w = sym h.none ∙ same_blame d ps qs ms ns h.has k ∙ f in absurd cc
