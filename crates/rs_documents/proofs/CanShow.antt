-- A document that a text spells can be printed.
use Rattle.std.proofs.Common.{◌≡◌, ◌⊎◌, inl, inr, slice_get, ℕ, suc, ◌<◌, ◌≤◌, List, [], ◌∷◌, length, Option, Some, None, Result, refl, sym, ap, subst, ◌∙◌, arith}
use Rattle.std.proofs.lemmas.List.Elements.{All-cons, All-get_or, All-head, All-nil, All-tail}
use Rattle.std.proofs.lemmas.Option.{get_or_from_slice_get, slice_get_within}
use Rattle.std.specs.List.{All}
use Rattle.rs_derivations.proofs.Writable.{spelt_printable}
use Rattle.rs_derivations.specs.Printable.{IsPrintable, pending_acts, label_number, peer_of}
use Rattle.rs_derive.specs.Data.{Derivation_data}
use Rattle.rs_documents.specs.Canonical.{AreShown, ArePrintable, CanBeShown}
use Rattle.rs_documents.specs.Data.{Document_data}
use Rattle.rs_documents.specs.Documents.{SpellsDocument}
use Rattle.rs_documents.specs.Parts.{PartKind, PartsRead, GoesOn, Stops, Repeats, Fails, Adds, parts_with, machine_parts, derivation_parts, no_parts}
use Rattle.rs_documents.specs.Ready.{AllHave}
use Rattle.rs_documents.proofs.FewLabels.{protocol_few}
use Rattle.rs_documents.proofs.PartKinds.{of_machines, of_derivations}
use Rattle.rs_documents.proofs.Parts.{IsKind, good, keeps, keeps_few, none_there, row_of, set_all}
use Rattle.rs_global.proofs.Canonical.{spelt_enough, spelt_roles, spelt_shaped}
use Rattle.rs_global.specs.Canonical.{IsTextShaped}
use Rattle.rs_global.specs.Enough.{AreEnough}
use Rattle.rs_machines.proofs.Canonical as machine_names
use Rattle.rs_machines.proofs.ShapeWhole as machine_shapes
use Rattle.rs_machines.specs.Canonical.{IsMachineTextShaped}
use Rattle.rs_machines.specs.Enough.{AreEnoughFor}
use Rattle.rs_bodies.specs.declared.dialects.Mark.{Mark}
use Rattle.rs_bodies.specs.declared.dialects.Mark.TheVariants as mark
use Rattle.rs_machines.specs.Machines.{state_by_mark}
use Rattle.rs_model.specs.Data.{Names_data, Protocol_data, Machine_data}
use Rattle.rs_model.specs.declared.graph.Arm.{Arm}
use Rattle.rs_model.specs.declared.graph.Role.{Role}
use Rattle.rs_model.specs.declared.limits.TheConstants.{MOST_LABELS, MOST_ROLES}
use Rattle.rs_model.specs.declared.machines.State.{State}
use Rattle.rs_model.specs.declared.machines.State.TheVariants as state
use Rattle.rs_tables.proofs.Spelt.{spelt_tabled}
use Rattle.rs_tables.specs.Printable.{IsArmTabled, IsChoiceTabled, IsStateTabled, IsTabled}
use Rattle.rs_text.specs.Sound.{IsSound}
use Rattle.rs_text.specs.declared.faults.TextFault.{TextFault}

-- names that were there, and maybe more labels
pub record Grows (old new : Names_data) : Type 0 where
  pub roles : new.roles ≡ old.roles
  pub labels : length old.labels ≤ length new.labels

-- what holds of each part with the names behind it, and of more labels too, holds of all parts with the last names
pub kept : {A : Type 0} (kind : PartKind A) (i : IsKind kind) (P : Names_data → A → Type 0) → ((old new : Names_data) → Grows old new → (x : A) → P old x → P new x)
    → ((bytes : List ℕ) (at : ℕ) (old new : Names_data) (part : A) (until : ℕ) → kind.Spells bytes at old new part until → P new part)
    → (bytes : List ℕ) (at : ℕ) (names : Names_data) (parts : List (Option A)) (what : Result (PartsRead A) TextFault) (row : PartsRead A) → GoesOn kind bytes at names parts what → what ≡ good row
    → AllHave (P names) parts → AllHave (P row.names) row.parts
kept {A} kind i P more has bytes at names parts what row (Stops a n m e) is all =
    let same : row_of names parts at ≡ row = cc in
    subst (λ (r : PartsRead A). AllHave (P r.names) r.parts) same all
kept kind i P more has bytes at names parts what row (Repeats a u n m e z) is all = absurd cc
kept kind i P more has bytes at names parts what row (Fails a u n m j e z r) is all = absurd cc
kept {A} kind i P more has bytes at names parts what row (Adds a next n new m part w e z s g) is all =
    let grows : Grows names new = record { roles = i.roles bytes at names new part next s; labels = i.labels bytes at names new part next s } in
    let before : AllHave (P new) parts = λ k x there. more names new grows x (all k x there) in
    kept kind i P more has bytes next new (parts_with kind parts part) what row g is (set_all (P new) parts (kind.role_of part).0 part before (has bytes at names new part next s))

-- machines: text-shaped or tabled where there are few names, and the names are enough
abbrev CanBeNamed : Names_data → Machine_data → Type 0
CanBeNamed names machine = (length names.roles ≤ MOST_ROLES → length names.labels ≤ MOST_LABELS → IsMachineTextShaped machine ⊎ IsTabled names machine) × AreEnoughFor names machine

all_more : {A : Type 0} (P Q : A → Type 0) → ((a : A) → P a → Q a) → (xs : List A) → All P xs → All Q xs
all_more P Q f [] h = All-nil Q
all_more P Q f (a ∷ xs) h = All-cons Q a xs (f a (All-head P a xs h)) (all_more P Q f xs (All-tail P a xs h))

choice_more : (names new : Names_data) → Grows names new → (peer : Role) (arms : List Arm) → IsChoiceTabled names peer arms → IsChoiceTabled new peer arms
choice_more names new g peer arms h =
    let e : length new.roles ≡ length names.roles = ap length g.roles in
    let l = g.labels in
    record {
      has_name = (let a = h.has_name in omega (arith, a, e));
      some = h.some;
      each = all_more (IsArmTabled names) (IsArmTabled new) (λ arm t. record { label = (let a = t.label in omega (arith, a, l)); next = t.next }) arms h.each;
    }

state_more : (names new : Names_data) → Grows names new → (s : State) → IsStateTabled names s → IsStateTabled new s
state_more names new g state.Done h = h
state_more names new g (state.Puts peer arms) h = choice_more names new g peer arms h
state_more names new g (state.Takes peer arms) h = choice_more names new g peer arms h

tabled_more : (names new : Names_data) → Grows names new → (machine : Machine_data) → IsTabled names machine → IsTabled new machine
tabled_more names new g machine h =
    let e : length new.roles ≡ length names.roles = ap length g.roles in
    record {
      start = h.start;
      some = h.some;
      bounded = h.bounded;
      role = (let a = h.role in omega (arith, a, e));
      states = all_more (IsStateTabled names) (IsStateTabled new) (state_more names new g) machine.states h.states;
      few_labels = h.few_labels;
    }

either_more : (names new : Names_data) → Grows names new → (machine : Machine_data) → IsMachineTextShaped machine ⊎ IsTabled names machine → IsMachineTextShaped machine ⊎ IsTabled new machine
either_more names new g machine (inl shaped) = inl shaped
either_more names new g machine (inr tabled) = inr (tabled_more names new g machine tabled)

more_enough_for : (names new : Names_data) → Grows names new → (machine : Machine_data) → CanBeNamed names machine → CanBeNamed new machine
more_enough_for names new g machine h =
    let e : length new.roles ≡ length names.roles = ap length g.roles in
    let l = g.labels in (
      (λ roles labels. either_more names new g machine (h.0 (omega (arith, e, roles)) (omega (arith, l, labels)))),
      record {
        role = (let a = h.1.role in omega (arith, a, e));
        peers = λ n mark peer arms s. let a = h.1.peers n mark peer arms s in omega (arith, a, e);
        labels = λ n place mark peer arms arm s f. let a = h.1.labels n place mark peer arms arm s f in omega (arith, a, l);
      },
    )

-- what a table says has names
all_at : {A : Type 0} (P : A → Type 0) (xs : List A) (k : ℕ) (x : A) → All P xs → slice_get xs k ≡ Some x → P x
all_at P xs k x h e = subst P (get_or_from_slice_get xs k x x e) (All-get_or P xs k x (slice_get_within xs k x e) h)

choice_tabled : (names : Names_data) (mark : Mark) (peer : Role) (arms : List Arm) → IsStateTabled names (state_by_mark mark peer arms) → IsChoiceTabled names peer arms
choice_tabled names mark.Puts peer arms h = h
choice_tabled names mark.Takes peer arms h = h

tabled_enough : (names : Names_data) (machine : Machine_data) → IsTabled names machine → AreEnoughFor names machine
tabled_enough names machine h =
    let choice : (n : ℕ) (mark : Mark) (peer : Role) (arms : List Arm) → slice_get machine.states n ≡ Some (state_by_mark mark peer arms) → IsChoiceTabled names peer arms
    = λ n mark peer arms s. choice_tabled names mark peer arms (all_at (IsStateTabled names) machine.states n (state_by_mark mark peer arms) h.states s) in
    record {
      role = h.role;
      peers = λ n mark peer arms s. (choice n mark peer arms s).has_name;
      labels = λ n place mark peer arms arm s f. (all_at (IsArmTabled names) arms place arm (choice n mark peer arms s).each f).label;
    }

machine_named : (bytes : List ℕ) (at : ℕ) (old new : Names_data) (machine : Machine_data) (until : ℕ) → machine_parts.Spells bytes at old new machine until → CanBeNamed new machine
machine_named bytes at old new machine until (inl s) =
    let e : length new.roles ≡ length old.roles = ap length (of_machines.roles bytes at old new machine until (inl s)) in
    let l = of_machines.labels bytes at old new machine until (inl s) in
    ((λ roles labels. inl (machine_shapes.spelt_shaped bytes at old new machine until (omega (arith, e, roles)) (omega (arith, l, labels)) s)), machine_names.spelt_enough bytes at old new machine until s)
machine_named bytes at old new machine until (inr s) =
    let tabled : IsTabled new machine = spelt_tabled old new bytes at until machine s in
    ((λ roles labels. inr tabled), tabled_enough new machine tabled)

shown : (names : Names_data) (machines : List (Option Machine_data)) → length names.roles ≤ MOST_ROLES → length names.labels ≤ MOST_LABELS → AllHave (CanBeNamed names) machines
    → AreShown names machines
shown names [] roles labels all = tt
shown names (None ∷ ms) roles labels all = (tt, shown names ms roles labels (λ k m e. all (suc k) m e))
shown names (Some m ∷ ms) roles labels all = let h = all 0 m refl in (record { enough = h.1; shaped = h.0 roles labels }, shown names ms roles labels (λ k x e. all (suc k) x e))

more_named : (names new : Names_data) → Grows names new → (machines : List (Option Machine_data)) → AllHave (CanBeNamed names) machines → AllHave (CanBeNamed new) machines
more_named names new g machines all k m e = more_enough_for names new g m (all k m e)

-- derivations
more_printable : (names new : Names_data) → Grows names new → (d : Derivation_data) → IsPrintable names d → IsPrintable new d
more_printable names new g d h =
    let e : length new.roles ≡ length names.roles = ap length g.roles in
    let l = g.labels in
    record {
      roles = record {
        role = (let a = h.roles.role in omega (arith, a, e));
        peers = all_more (λ a. peer_of a < length names.roles) (λ a. peer_of a < length new.roles) (λ a lt. omega (arith, lt, e)) (pending_acts d) h.roles.peers;
      };
      labels = all_more (λ a. label_number a < length names.labels) (λ a. label_number a < length new.labels) (λ a lt. omega (arith, lt, l)) (pending_acts d) h.labels;
      few_labels = h.few_labels;
      short_lists = h.short_lists;
      bound = h.bound;
      some = h.some;
      nodes = h.nodes;
    }

derivation_printable : (bytes : List ℕ) (at : ℕ) (old new : Names_data) (d : Derivation_data) (until : ℕ) → derivation_parts.Spells bytes at old new d until → IsPrintable new d
derivation_printable bytes at old new d until s = spelt_printable old new bytes at until d s

-- the protocol
enough_more : (old new : Names_data) (p : Protocol_data) → Grows old new → AreEnough old p → AreEnough new p
enough_more old new p g h =
    let l = g.labels in
    record { roles = ap length g.roles ∙ h.roles; labels = λ n place s r arms arm a b. let c = h.labels n place s r arms arm a b in omega (arith, c, l) }

-- all that is shown of a document
pub record IsShowable (d : Document_data) : Type 0 where
  pub roles : length d.names.roles ≡ d.protocol.roles
  pub bounded : length d.names.roles ≤ MOST_ROLES
  pub shaped : IsTextShaped d.protocol
  pub enough : AreEnough d.names d.protocol
  pub machines : AreShown d.names d.machines
  pub derivations : ArePrintable d.names d.derivations

pub showable : (bytes : List ℕ) (d : Document_data) → SpellsDocument bytes d → IsShowable d
showable bytes d h =
    let front = h.parts.front_is in
    let middle = row_of h.before d.machines h.next in
    let back = row_of d.names d.derivations h.end in
    let k = keeps machine_parts of_machines bytes front.until front.names (no_parts front.names.roles) (good middle) middle front.machines_are refl in
    let j = keeps derivation_parts of_derivations bytes h.next h.before (no_parts h.before.roles) (good back) back h.parts.derivations_are refl in
    let first : Grows front.names h.before = record { roles = k.roles; labels = k.labels } in
    let second : Grows h.before d.names = record { roles = j.roles; labels = j.labels } in
    let l1 = first.labels in
    let l2 = second.labels in
    let whole : Grows front.names d.names = record { roles = j.roles ∙ k.roles; labels = omega (arith, l1, l2) } in
    let enough = enough_more front.names d.names d.protocol whole (spelt_enough bytes 0 front.names d.protocol front.until front.protocol_is) in
    let named = kept machine_parts of_machines CanBeNamed more_enough_for machine_named bytes front.until front.names (no_parts front.names.roles) (good middle) middle front.machines_are refl
    (λ n m e. absurd (none_there front.names.roles n m e)) in
    let few : length d.names.roles ≤ MOST_ROLES
    = subst (λ (z : List (List ℕ)). length z ≤ MOST_ROLES) (sym whole.roles) (spelt_roles bytes 0 front.names d.protocol front.until front.protocol_is).bounded in
    let few_before : length h.before.labels ≤ MOST_LABELS =
    keeps_few machine_parts of_machines bytes front.until front.names (no_parts front.names.roles) (good middle) middle
    (protocol_few bytes 0 front.names d.protocol front.until front.protocol_is) front.machines_are refl in
    let few_labels : length d.names.labels ≤ MOST_LABELS
    = keeps_few derivation_parts of_derivations bytes h.next h.before (no_parts h.before.roles) (good back) back few_before h.parts.derivations_are refl in
    record {
      roles = enough.roles;
      bounded = few;
      shaped = spelt_shaped bytes 0 front.names d.protocol front.until front.protocol_is;
      enough = enough;
      machines = shown d.names d.machines few few_labels (more_named h.before d.names second d.machines named);
      derivations = kept derivation_parts of_derivations (λ names x. IsPrintable names x) more_printable derivation_printable bytes h.next h.before (no_parts h.before.roles)
          (good back) back h.parts.derivations_are refl (λ n x e. absurd (none_there h.before.roles n x e));
    }

pub can_show : (bytes : List ℕ) (d : Document_data) → SpellsDocument bytes d → IsSound d.names → CanBeShown d
can_show bytes d spelt sound =
    let s = showable bytes d spelt in
    record { sound = sound; shaped = s.shaped; enough = s.enough; machines = s.machines; derivations = s.derivations }

-- a document has as many names of roles as its protocol has roles
pub role_names : (bytes : List ℕ) (d : Document_data) → SpellsDocument bytes d
    → (length d.names.roles ≡ d.protocol.roles) × AreEnough d.names d.protocol × AreShown d.names d.machines × IsTextShaped d.protocol
role_names bytes d spelt = let s = showable bytes d spelt in (s.roles, s.enough, s.machines, s.shaped)

-- derivations bring no roles
pub roles_behind : (bytes : List ℕ) (next : ℕ) (names new : Names_data) (derivations : List (Option Derivation_data)) (end : ℕ)
    → GoesOn derivation_parts bytes next names (no_parts names.roles) (good (row_of new derivations end)) → new.roles ≡ names.roles
roles_behind bytes next names new derivations end h =
    let k = keeps derivation_parts of_derivations bytes next names (no_parts names.roles) (good (row_of new derivations end)) (row_of new derivations end) h refl in k.roles

-- a protocol that some text spells has 16 roles at most, and so have names that are enough
pub few_names : (names : Names_data) (p : Protocol_data) → IsTextShaped p → AreEnough names p → length names.roles ≤ MOST_ROLES
few_names names p shaped enough =
    let there = spelt_enough shaped.bytes shaped.at shaped.names p shaped.until shaped.spells in
    let same : length names.roles ≡ length shaped.names.roles = enough.roles ∙ sym there.roles in
    let few : length shaped.names.roles ≤ MOST_ROLES = (spelt_roles shaped.bytes shaped.at shaped.names p shaped.until shaped.spells).bounded in
    subst (λ (z : ℕ). z ≤ MOST_ROLES) (sym same) few
