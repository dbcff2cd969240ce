-- There is one answer of `draw` to a document, and no other.
use Rattle.std.proofs.Common.{◌≡◌, ◌≢◌, ◌⊎◌, ℕ, ◌<◌, List, Option, Some, None, slice_get, refl, sym, ap, ◌∙◌, inl, inr, subst, arith}
use Rattle.rs_model.proofs.Lists.{item_at}
use Rattle.rs_model.specs.Data.{Machine_data}
use Rattle.rs_model.specs.Faults as of_machines
use Rattle.rs_model.specs.declared.checks.MachineFault.{MachineFault}
use Rattle.rs_model.specs.declared.limits.TheConstants.{DEFAULT_BOUND}
use Rattle.rs_model.proofs.Faults as machines
use Rattle.rs_project.specs.Data.{Projection_data}
use Rattle.rs_project.proofs.Machines.{projection_machine}
use Rattle.rs_derive.specs.Data.{Derivation_data}
use Rattle.rs_search.proofs.Deciding as searching
use Rattle.rs_search.specs.Canonical.{IsCanonical, SearchRefuses}
use Rattle.rs_search.specs.declared.faults.SearchFault.{SearchFault}
use Rattle.rs_search.specs.declared.faults.SearchFault.TheVariants as search
use Rattle.rs_text.proofs.Numbers.{place_below}
use Rattle.rs_text.specs.Names.{place_of}
use Rattle.rs_wellformed.proofs.Faults.{no_fault}
use Rattle.rs_wellformed.specs.Faults.{first_fault}
use Rattle.rs_wellformed.specs.declared.checks.WfFault.{WfFault}
use Rattle.rs_global.proofs.Canonical.{canonical_is_there}
use Rattle.rs_documents.proofs.CanShow.{role_names}
use Rattle.rs_documents.proofs.SpeltSessions.{IsSpeltSession, spelt_session}
use Rattle.rs_documents.specs.Data.{Document_data}
use Rattle.rs_documents.specs.Documents.{SpellsDocument}
use Rattle.rs_answers.specs.Data.{Answer_data}
use Rattle.rs_answers.specs.Improves.{unknown_role}
use Rattle.rs_answers.specs.RefusalTexts.{proj_answer, wf_answer}
use Rattle.rs_answers.specs.declared.verdicts.Verdict.TheVariants.{Fine}
use Rattle.rs_answers.proofs.OneReason.{not_unprojectable, one_projection_list, one_unprojectable}
use Rattle.rs_answers.proofs.SomeSession.{AllProject, Decision, OneDoesnt, first_ones}
use Rattle.rs_pictures.specs.Sequences.{sequence_text}
use Rattle.rs_pictures.proofs.OnePicture.{one_picture}
use Rattle.rs_draw.proofs.Accepting.{comparable, ill_machine, ill_protocol, not_found, one_own, same_projection, unprojected}
use Rattle.rs_draw.specs.PutsOff.{DrawsOwn, Finds, HasNone, HasProjection, own_picture}
use Rattle.rs_draw.specs.Draws.{Draws, DrawsProjection, DrawsProtocol, DrawsRole, HasMachine, HasNoMachine, HasNoProjection, HasNoRole, IsIllFormed, IsProjected, drawn_machine}

-- ---- one at most

one_protocol : (bytes : List ℕ) (d : Document_data) (a b : Answer_data) → SpellsDocument bytes d → DrawsProtocol d a → DrawsProtocol d b → a ≡ b
one_protocol bytes d a b doc h k =
    let text : a.text ≡ b.text = one_picture d.names d.protocol a.text b.text (role_names bytes d doc).3 h.picture k.picture in
    ap (λ z. record { text = z; verdict = a.verdict }) text ∙ ap (λ z. record { text = b.text; verdict = z }) (h.fine ∙ sym k.fine)

one_projection : (d : Document_data) (place : ℕ) (a b : Answer_data) → DrawsProjection d place a → DrawsProjection d place b → a ≡ b
one_projection d place a b (IsIllFormed f e x) (IsIllFormed g h y) = let same : Some f ≡ Some g = sym e ∙ h in let is : f ≡ g = cc in x ∙ ap (wf_answer d.names) is ∙ sym y
one_projection d place a b (IsIllFormed f e x) (HasNoProjection none s g h y) = absurd cc
one_projection d place a b (IsIllFormed f e x) (IsProjected ps p h there y) = let none = h.well_formed in absurd cc
one_projection d place a b (HasNoProjection none r f e x) (IsIllFormed g h y) = absurd cc
one_projection d place a b (HasNoProjection none r f e x) (HasNoProjection other s g h y) =
    x ∙ ap (proj_answer d.names) (one_unprojectable d.protocol r s f g (no_fault d.protocol none) e h) ∙ sym y
one_projection d place a b (HasNoProjection none r f e x) (IsProjected ps p h there y) = absurd (not_unprojectable d ps r f h e)
one_projection d place a b (IsProjected ps p h there x) (IsIllFormed g e y) = let none = h.well_formed in absurd cc
one_projection d place a b (IsProjected ps p h there x) (HasNoProjection none s g e y) = absurd (not_unprojectable d ps s g h e)
one_projection d place a b (IsProjected ps p h there x) (IsProjected qs q k other y) =
    x ∙ ap (λ (z : Projection_data). drawn_machine d.names z.machine) (same_projection ps qs p q place (one_projection_list d ps qs h k) there other) ∙ sym y

known_twice : (role : List ℕ) (roles : List (List ℕ)) (p q : ℕ) → place_of role roles ≡ Some p → place_of role roles ≡ Some q → q ≡ p
known_twice role roles p q e f = let same : Some q ≡ Some p = sym f ∙ e in cc

-- what the role has in the document
held_twice : (role : List ℕ) (d : Document_data) (p q : ℕ) (own other : Option Machine_data) → place_of role d.names.roles ≡ Some p → place_of role d.names.roles ≡ Some q
    → slice_get d.machines p ≡ Some own → slice_get d.machines q ≡ Some other → own ≡ other
held_twice role d p q own other e f x y =
    let same : Some own ≡ Some other = sym x ∙ ap (slice_get d.machines) (sym (known_twice role d.names.roles p q e f)) ∙ y in cc

one_role : (role : List ℕ) (d : Document_data) (a b : Answer_data) → DrawsRole role d a → DrawsRole role d b → a ≡ b
one_role role d a b (HasNoRole none x) (HasNoRole never y) = x ∙ sym y
one_role role d a b (HasNoRole none x) (HasMachine q m known there y) = absurd cc
one_role role d a b (HasNoRole none x) (HasNoMachine q known there y) = absurd cc
one_role role d a b (HasMachine p m known there x) (HasNoRole none y) = absurd cc
one_role role d a b (HasMachine p m known there x) (HasMachine q n other here y) =
    let same : Some m ≡ Some n = held_twice role d p q (Some m) (Some n) known other there here in
    let is : m ≡ n = cc in
    one_own d p m a b x (subst (λ (z : Machine_data). DrawsOwn d p z b) (sym is) (subst (λ (k : ℕ). DrawsOwn d k n b) (known_twice role d.names.roles p q known other) y))
one_role role d a b (HasMachine p m known there x) (HasNoMachine q other here y) = let same : Some m ≡ None = held_twice role d p q (Some m) None known other there here in absurd cc
one_role role d a b (HasNoMachine p known there x) (HasNoRole none y) = absurd cc
one_role role d a b (HasNoMachine p known there x) (HasMachine q n other here y) = let same : None ≡ Some n = held_twice role d p q None (Some n) known other there here in absurd cc
one_role role d a b (HasNoMachine p known there x) (HasNoMachine q other here y) =
    one_projection d p a b x (subst (λ (n : ℕ). DrawsProjection d n b) (known_twice role d.names.roles p q known other) y)

pub one_drawing : (role : Option (List ℕ)) (bytes : List ℕ) (d : Document_data) (a b : Answer_data) → SpellsDocument bytes d → Draws role d a → Draws role d b → a ≡ b
one_drawing None bytes d a b doc h k = one_protocol bytes d a b doc h k
one_drawing (Some role) bytes d a b doc h k = one_role role d a b h k

-- ---- there is one

some_protocol : (bytes : List ℕ) (d : Document_data) → SpellsDocument bytes d → (a : Answer_data) × DrawsProtocol d a
some_protocol bytes d doc =
    let r = role_names bytes d doc in
    let enough = r.1 in
    let c = canonical_is_there d.names d.protocol r.3 enough.roles enough.labels in
    (record { text = sequence_text d.names c.0; verdict = Fine }, record { picture = record { tree = c.0; canonical = c.1; whole = refl }; fine = refl })

decided : (d : Document_data) (place : ℕ) → place < d.protocol.roles → first_fault d.protocol ≡ None → Decision d.protocol d.protocol.roles → (a : Answer_data) × DrawsProjection d place a
decided d place low none (OneDoesnt role fault h) = (proj_answer d.names fault, HasNoProjection none role fault h refl)
decided d place low none (AllProject ps h) =
    let many = h.many in
    let p = item_at ps place (omega (arith, low, many)) in
    (drawn_machine d.names p.0.machine, IsProjected ps p.0 (record { well_formed = none; projected = h }) p.1 refl)

some_projection : (d : Document_data) (place : ℕ) → place < d.protocol.roles → (o : Option WfFault) → first_fault d.protocol ≡ o → (a : Answer_data) × DrawsProjection d place a
some_projection d place low (Some f) e = (wf_answer d.names f, IsIllFormed f e refl)
some_projection d place low None e = decided d place low e (first_ones d.protocol (no_fault d.protocol e) d.protocol.roles (omega arith))

found_or_not : (sub above : Machine_data) → ((d : Derivation_data) × IsCanonical sub above DEFAULT_BOUND d) ⊎ ((f : SearchFault) × (f ≢ search.NoMemory) × SearchRefuses sub above DEFAULT_BOUND f)
    → (o : Option Derivation_data) × Finds sub above o
found_or_not sub above (inl d) = (Some d.0, d.1)
found_or_not sub above (inr f) = (None, not_found sub above f.0 f.1 f.2)

beside : (d : Document_data) (place : ℕ) (machine : Machine_data) → place < d.protocol.roles → first_fault d.protocol ≡ None → of_machines.first_fault machine d.protocol.roles ≡ None
    → Decision d.protocol d.protocol.roles → (a : Answer_data) × DrawsOwn d place machine a
beside d place machine low none well (OneDoesnt role fault h) = (drawn_machine d.names machine, HasNone (unprojected d place machine fault (role, h)) refl)
beside d place machine low none well (AllProject ps h) =
    let many = h.many in
    let p = item_at ps place (omega (arith, low, many)) in
    let above = projection_machine d.protocol (record { 0 = place }) p.0 (no_fault d.protocol none) low (h.each place p.0 p.1).is_projection in
    let found = found_or_not machine p.0.machine (searching.decided machine p.0.machine DEFAULT_BOUND (d.protocol.roles, machines.no_fault machine d.protocol.roles well) (d.protocol.roles, above)) in
    let answer : Answer_data = record { text = own_picture d.names machine p.0.machine found.0; verdict = Fine } in
    (answer, HasProjection p.0 (comparable d place machine ps p.0 none h p.1 well) (record { derivation = found.0; finds = found.1; drawn = refl }))

some_own : (d : Document_data) (place : ℕ) (machine : Machine_data) → place < d.protocol.roles → (o : Option WfFault) → first_fault d.protocol ≡ o → (u : Option MachineFault)
    → of_machines.first_fault machine d.protocol.roles ≡ u → (a : Answer_data) × DrawsOwn d place machine a
some_own d place machine low (Some f) e u k = (drawn_machine d.names machine, HasNone (ill_protocol d place machine f e) refl)
some_own d place machine low None e (Some f) k = (drawn_machine d.names machine, HasNone (ill_machine d place machine f k) refl)
some_own d place machine low None e None k = beside d place machine low e k (first_ones d.protocol (no_fault d.protocol e) d.protocol.roles (omega arith))

some_held : (role : List ℕ) (d : Document_data) (place : ℕ) → place < d.protocol.roles → place_of role d.names.roles ≡ Some place → (own : Option Machine_data)
    → slice_get d.machines place ≡ Some own → (a : Answer_data) × DrawsRole role d a
some_held role d place low known (Some machine) there =
    let a = some_own d place machine low (first_fault d.protocol) refl (of_machines.first_fault machine d.protocol.roles) refl in
    (a.0, HasMachine place machine known there a.1)
some_held role d place low known None there = let a = some_projection d place low (first_fault d.protocol) refl in (a.0, HasNoMachine place known there a.1)

some_role : (role : List ℕ) (d : Document_data) → IsSpeltSession d → (o : Option ℕ) → place_of role d.names.roles ≡ o → (a : Answer_data) × DrawsRole role d a
some_role role d spelt None e = (unknown_role, HasNoRole e refl)
some_role role d spelt (Some place) e =
    let below = place_below d.names.roles role place e in
    let one = spelt.one_each in
    let roles = spelt.roles in
    let own = item_at d.machines place (omega (arith, below, one)) in
    some_held role d place (omega (arith, below, roles)) e own.0 own.1

pub some_drawing : (role : Option (List ℕ)) (bytes : List ℕ) (d : Document_data) → SpellsDocument bytes d → (a : Answer_data) × Draws role d a
some_drawing None bytes d doc = some_protocol bytes d doc
some_drawing (Some role) bytes d doc = some_role role d (spelt_session bytes d doc) (place_of role d.names.roles) refl
