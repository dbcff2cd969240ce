-- What `check --derivations` prints is read again as a document whose own derivations show what those that were found show.
use Rattle.std.proofs.Common.{◌≡◌, ℕ, zero, suc, ◌<◌, true, false, List, [], ◌∷◌, ◌++◌, All, length, map, refl, sym, ap, ◌∙◌, subst, arith, Some, None, Option, option_map, slice_get}
use Rattle.std.proofs.lemmas.List.{length-map}
use Rattle.std.proofs.lemmas.List.Elements.{All-head, All-tail}
use Rattle.std.proofs.lemmas.Option.{get_or_from_slice_get, none-some, same_Some, slice_get_within}
use Rattle.std.specs.List.{flat_map, list_all}
use Rattle.std.specs.Option.{is_some}
use Rattle.rs_bodies.proofs.GraphsAgain.{lone_tree_spelt}
use Rattle.rs_bodies.proofs.WrittenNames.{sound_parts}
use Rattle.rs_bodies.specs.Graph.{labels_of}
use Rattle.rs_bodies.specs.declared.dialects.Dialect.TheVariants.{Talks}
use Rattle.rs_derivations.specs.Numbers.{AreSmall}
use Rattle.rs_derivations.specs.Printable.{label_number}
use Rattle.rs_derive.proofs.Mapped.{map_of}
use Rattle.rs_derive.specs.Data.{DNode_data, Derivation_data}
use Rattle.rs_derive.specs.Derivations.{IsDerivation, Remembers}
use Rattle.rs_documents.proofs.Again.{read_again}
use Rattle.rs_documents.proofs.OwnLabels.{IsAmong, MachineUses, behind_named, first_stays, lines_use, there_at, uses_too}
use Rattle.rs_documents.proofs.MoreNames.{back_among, front_among, grown_new, name_there}
use Rattle.rs_documents.proofs.SpeltAgain.{spelt_again}
use Rattle.rs_documents.proofs.SpeltSessions.{IsSpeltSession}
use Rattle.rs_documents.specs.Again.{CanBeReadAgain, InDerivation, derivation_by, document_by_labels, labels_of_lines, labels_of_own, labels_of_text, machine_by, number_among}
use Rattle.rs_documents.specs.Canonical.{IsCanonicalDocument}
use Rattle.rs_documents.specs.Data.{Document_data}
use Rattle.rs_documents.specs.Documents.{SpellsDocument}
use Rattle.rs_documents.specs.Ready.{DocumentIsReady}
use Rattle.rs_global.proofs.Canonical.{spelt_enough, written}
use Rattle.rs_global.specs.Enough.{AreEnough}
use Rattle.rs_global.specs.Graph.{no_names}
use Rattle.rs_global.specs.Kinds.{names_of, protocols}
use Rattle.rs_global.specs.Spells.{SpellsProtocol}
use Rattle.rs_global.specs.Texts.{protocol_text}
use Rattle.rs_model.proofs.Faults.{right}
use Rattle.rs_model.specs.Data.{Machine_data, Protocol_data}
use Rattle.rs_model.specs.Limits.{IsBound}
use Rattle.rs_model.specs.WellFormed.{IsWellFormedMachine}
use Rattle.rs_model.specs.declared.machines.Act.{Act}
use Rattle.rs_model.specs.declared.machines.Act.TheVariants as act
use Rattle.rs_project.proofs.Machines.{projection_machine}
use Rattle.rs_project.specs.Data.{Projection_data}
use Rattle.rs_safety.specs.Sessions.{AreDerivations, IsSession}
use Rattle.rs_text.proofs.Naming.{grown_append, place_at}
use Rattle.rs_text.specs.Names.{differ, names_with, number_or, place_of}
use Rattle.rs_text.specs.NamePlaces.{name_at}
use Rattle.rs_answers.specs.Checks.{Checks, IsAccepted, IsRefused, with_derivations}
use Rattle.rs_answers.specs.Data.{Answer_data}
use Rattle.rs_answers.specs.Derivations.{AreCanonical}
use Rattle.rs_answers.specs.Report.{report}
use Rattle.rs_answers.specs.Sessions.{HasMachines, first_refusal, machine_or, machines_of}
use Rattle.rs_answers.specs.Verifying.{IsReported, IsVerified, Verifies, those_there}
use Rattle.rs_answers.specs.declared.verdicts.Verdict.TheVariants.{Fine}
use Rattle.rs_answers.proofs.OneReason.{not_refused, one_session_derived}
use Rattle.rs_answers.proofs.Refusing.{IsRefusing, refusal_refuses}
use Rattle.rs_answers.proofs.Derivings.{IsChosen, chosen, derivations_are, each_fits, found_at, one_each, ready_session, session_of}
use Rattle.rs_answers.proofs.EachRole.{chosen_small_by, few_states}
use Rattle.rs_answers.proofs.Owed.{IsActOf, Receives, Sends}
use Rattle.rs_answers.proofs.Printables.{act_named, can_show_session, there}
use Rattle.rs_answers.proofs.Renumbered.{NodesUse, Stays, derivation_is, machine_stays, remembers_too, well_formed_by}
use Rattle.rs_answers.proofs.SmallNumbers.{small_numbers}
use Rattle.rs_answers.proofs.Reporting.{report_stays}
use Rattle.rs_answers.proofs.Verified.{are_derivations, each_is_there, none_is_blamed, own_at}

-- ---- labels by number

-- the label of the number is one of these names, and has its name among these labels still
pub record KeepsName (names labels : List (List ℕ)) (k : ℕ) : Type 0 where
  pub named : k < length names
  pub name : name_at labels (number_among names labels k) ≡ name_at names k

keeps_among : (names labels : List (List ℕ)) (k : ℕ) → IsAmong names labels k → KeepsName names labels k
keeps_among names labels k w = record { named = w.named; name = name_there labels (name_at names k) w.among }

-- its number is found again
found_again : (names labels : List (List ℕ)) → differ names ≡ true → (k : ℕ) → KeepsName names labels k → number_among labels names (number_among names labels k) ≡ k
found_again names labels apart k w =
    ap (λ (z : List ℕ). number_or (place_of z names)) w.name ∙ ap number_or (place_at names k (name_at names k) apart (there_at names k w.named))

-- ---- the pending acts of a derivation

all_here : (P : Act → Type 0) (xs ys : List Act) → All P (xs ++ ys) → (k : ℕ) (a : Act) → slice_get xs k ≡ Some a → P a
all_here P [] ys h k a e = absurd (none-some a e)
all_here P (x ∷ xs) ys h zero a e = subst P (same_Some x a e) (All-head P x (xs ++ ys) h)
all_here P (x ∷ xs) ys h (suc k) a e = all_here P xs ys (All-tail P x (xs ++ ys) h) k a e

all_later : (P : Act → Type 0) (xs ys : List Act) → All P (xs ++ ys) → All P ys
all_later P [] ys h = h
all_later P (x ∷ xs) ys h = all_later P xs ys (All-tail P x (xs ++ ys) h)

-- what holds of all pending acts holds of each act of each node
pending_at : (P : Act → Type 0) (nodes : List DNode_data) → All P (flat_map (λ (n : DNode_data). n.pending) nodes) → (i : ℕ) (n : DNode_data) → slice_get nodes i ≡ Some n → (k : ℕ) (a : Act)
    → slice_get n.pending k ≡ Some a → P a
pending_at P [] h i n e k a at = absurd (none-some n e)
pending_at P (x ∷ nodes) h zero n e k a at =
    all_here P x.pending (flat_map (λ (m : DNode_data). m.pending) nodes) h k a (subst (λ (z : DNode_data). slice_get z.pending k ≡ Some a) (sym (same_Some x n e)) at)
pending_at P (x ∷ nodes) h (suc i) n e k a at = pending_at P nodes (all_later P x.pending (flat_map (λ (m : DNode_data). m.pending) nodes) h) i n e k a at

-- ---- the machines and the derivations of a document with other numbers

machines_by : (f : ℕ → ℕ) (own : List (Option Machine_data)) (ps : List Projection_data) → ((p : ℕ) (j : Projection_data) → slice_get ps p ≡ Some j → machine_by f j.machine ≡ j.machine)
    → machines_of (map (option_map (machine_by f)) own) ps ≡ map (machine_by f) (machines_of own ps)
machines_by f [] ps h = refl
machines_by f (x ∷ own) [] h = refl
machines_by f (None ∷ own) (j ∷ ps) h =
    ap (λ (z : List Machine_data). j.machine ∷ z) (machines_by f own ps (λ p i e. h (suc p) i e)) ∙ ap (λ (z : Machine_data). z ∷ map (machine_by f) (machines_of own ps)) (sym (h 0 j refl))
machines_by f (Some m ∷ own) (j ∷ ps) h = ap (λ (z : List Machine_data). machine_by f m ∷ z) (machines_by f own ps (λ p i e. h (suc p) i e))

pub none_refused : (roles : ℕ) (ms : List Machine_data) → ((p : ℕ) (m : Machine_data) → slice_get ms p ≡ Some m → IsWellFormedMachine m roles) → first_refusal roles ms ≡ None
none_refused roles [] h = refl
none_refused roles (m ∷ ms) h = rw (right m roles (h 0 m refl)) (none_refused roles ms (λ p x e. h (suc p) x e))

all_there : (ds : List Derivation_data) → list_all is_some (map Some ds) ≡ true
all_there [] = refl
all_there (x ∷ ds) = all_there ds

those_of : (ds : List Derivation_data) → those_there (map Some ds) ≡ ds
those_of [] = refl
those_of (x ∷ ds) = ap (λ (z : List Derivation_data). x ∷ z) (those_of ds)

all_there_by : (g : Derivation_data → Derivation_data) (own : List (Option Derivation_data)) → list_all is_some own ≡ true → list_all is_some (map (option_map g) own) ≡ true
all_there_by g [] e = refl
all_there_by g (None ∷ own) e = absurd (cc e)
all_there_by g (Some x ∷ own) e = all_there_by g own e

those_by : (g : Derivation_data → Derivation_data) (own : List (Option Derivation_data)) → those_there (map (option_map g) own) ≡ map g (those_there own)
those_by g [] = refl
those_by g (None ∷ own) = those_by g own
those_by g (Some x ∷ own) = ap (λ (z : List Derivation_data). g x ∷ z) (those_by g own)

-- ---- a verified document that is read again

module _ (d : Document_data) (ps : List Projection_data) (ms : List Machine_data) (again : CanBeReadAgain d) (session : IsSession d.protocol ps ms)
    (size : length d.derivations ≡ d.protocol.roles) (verified : IsVerified d ps ms) (text : List ℕ) (c : IsCanonicalDocument d text) where
  has : HasMachines d ps ms
  has = verified.has

  abbrev names : List (List ℕ)
  names = d.names.labels

  abbrev labels : List (List ℕ)
  labels = labels_of_text d text c

  abbrev first : List (List ℕ)
  first = names_with [] (labels_of Talks c.protocol.tree.body)

  abbrev rest : List (List ℕ)
  rest = labels_of_lines d.names d.machines c.back c.machines ++ flat_map (labels_of_own d.names) d.derivations

  abbrev f : ℕ → ℕ
  f = number_among names labels

  abbrev g : ℕ → ℕ
  g = number_among labels names

  abbrev Used : ℕ → Type 0
  Used = KeepsName names labels

  apart : differ names ≡ true
  apart = (sound_parts d.names again.shown.sound).labels_differ

  back : (k : ℕ) → Used k → g (f k) ≡ k
  back k w = found_again names labels apart k w

  split : labels ≡ names_with first rest
  split = grown_append (labels_of Talks c.protocol.tree.body) rest []

  -- a label of the protocol has its number still
  first_labels : (k : ℕ) → k < length first → Used k × Stays f k
  first_labels k lt = let x = first_stays d text again c k lt in (keeps_among names labels k x.among, x.number)

  -- the names that its text has are enough for the protocol
  enough : AreEnough (names_of c.protocol.tree) d.protocol
  enough =
      let tree = c.protocol.tree in
      let w = written d.names d.protocol tree again.shown.shaped again.shown.sound again.shown.enough c.protocol.canonical in
      spelt_enough (protocol_text tree) 0 (names_of tree) d.protocol (length (protocol_text tree))
      (subst (λ (z : Protocol_data). SpellsProtocol (protocol_text tree) 0 (names_of tree) z (length (protocol_text tree))) w.graph_is (lone_tree_spelt protocols no_names tree w.words w.fits))

  -- so the acts of its projections have labels of the protocol
  act_first : (p : ℕ) (j : Projection_data) → slice_get ps p ≡ Some j → p < d.protocol.roles → (a : Act) → IsActOf j.machine a → label_number a < length first
  act_first p j at low a is =
      let projection = (has.projections_are.projected.each p j at).is_projection in
      (act_named (names_of c.protocol.tree) d.protocol (record { 0 = p }) j enough projection (projection_machine d.protocol (record { 0 = p }) j session.well_formed low projection) a is).label

  role_below : (p : ℕ) (j : Projection_data) → slice_get ps p ≡ Some j → p < d.protocol.roles
  role_below p j at = let lt = slice_get_within ps p j at in let many = has.projections_are.projected.many in omega (arith, lt, many)

  projection_uses : (p : ℕ) (j : Projection_data) → slice_get ps p ≡ Some j → MachineUses (λ k. k < length first) j.machine
  projection_uses p j at = record {
    puts = λ s q arms there' i a ea. act_first p j at (role_below p j at) (act.Puts q a.label a.sort) (Sends s i q arms a there' ea);
    takes = λ s q arms there' i a ea. act_first p j at (role_below p j at) (act.Takes q a.label a.sort) (Receives s i q arms a there' ea);
  }

  projection_stays : (p : ℕ) (j : Projection_data) → slice_get ps p ≡ Some j → machine_by f j.machine ≡ j.machine
  projection_stays p j at = machine_stays f j.machine (uses_too (λ k. k < length first) (Stays f) (λ k lt. (first_labels k lt).1) j.machine (projection_uses p j at))

  -- each machine of the session has labels of the text
  machine_uses : (p : ℕ) (m : Machine_data) → slice_get ms p ≡ Some m → MachineUses Used m
  machine_uses p m at = go (chosen d.machines ps p m (subst (λ (z : List Machine_data). slice_get z p ≡ Some m) has.machines_are at))
    where
      by : (o : Option Machine_data) (j : Projection_data) → slice_get d.machines p ≡ Some o → slice_get ps p ≡ Some j → m ≡ machine_or o j → MachineUses Used m
      by None j own projects is = subst (MachineUses Used) (sym is) (uses_too (λ k. k < length first) Used (λ k lt. (first_labels k lt).0) j.machine (projection_uses p j projects))
      by (Some x) j own projects is = subst (MachineUses Used) (sym is)
          (uses_too (IsAmong names (labels_of_lines d.names d.machines c.back c.machines)) Used (λ k w. keeps_among names labels k (record {
            named = w.named;
            among = grown_new (name_at names k) (labels_of Talks c.protocol.tree.body ++ rest) [] (back_among (name_at names k) (labels_of Talks c.protocol.tree.body) rest
                (front_among (name_at names k) (labels_of_lines d.names d.machines c.back c.machines) (flat_map (labels_of_own d.names) d.derivations) w.among));
          })) x (lines_use d.names d.machines c.back again.shown.sound again.bounded again.shown.machines c.machines p x own))

      go : IsChosen d.machines ps p m → MachineUses Used m
      go h = by h.own' h.projection h.has h.projects h.machine_is

  -- and so has each derivation of the document
  derivation_uses : (p : ℕ) (x : Derivation_data) → slice_get d.derivations p ≡ Some (Some x) → NodesUse Used f g back x
  derivation_uses p x at i n ni k a ak = record {
    named = pending_at (λ (b : Act). label_number b < length names) x.nodes (again.shown.derivations p x at).labels i n ni k a ak;
    name = behind_named d text (label_number a) again c (InDerivation p i k x n a at ni ak refl);
  }

  abbrev e : Document_data
  e = document_by_labels d labels

  abbrev machines : List Machine_data
  machines = map (machine_by f) ms

  machines_are : machines ≡ machines_of e.machines ps
  machines_are = ap (λ (z : List Machine_data). map (machine_by f) z) has.machines_are ∙ sym (machines_by f d.machines ps projection_stays)

  fits_at : (p : ℕ) (m : Machine_data) → slice_get machines p ≡ Some m → IsWellFormedMachine m d.protocol.roles
  fits_at p m at =
      let x = map_of (machine_by f) ms p m at in
      subst (λ (z : Machine_data). IsWellFormedMachine z d.protocol.roles) x.2
      (well_formed_by Used f g back x.0 d.protocol.roles (machine_uses p x.0 x.1) (each_fits d.protocol.roles ms has.well_formed p x.0 x.1))

  has_again : HasMachines e ps machines
  has_again = record {
    projections_are = record { well_formed = has.projections_are.well_formed; projected = has.projections_are.projected };
    machines_are = machines_are;
    well_formed = none_refused d.protocol.roles machines fits_at;
  }

  abbrev own : List (Option Derivation_data)
  own = d.derivations

  derived : AreDerivations ms ps (those_there own)
  derived = are_derivations d.protocol own ms ps session size verified.none

  each_there : list_all is_some own ≡ true
  each_there = each_is_there d.protocol own ms ps session size verified.none

  derivations_again : AreDerivations machines ps (map (derivation_by f) (those_there own))
  derivations_again = record {
    many = length-map (those_there own) (derivation_by f) ∙ derived.many ∙ sym (length-map ms (machine_by f));
    each = λ p m j x hm hj hx. (
        let y = map_of (machine_by f) ms p m hm in
        let z = map_of (derivation_by f) (those_there own) p x hx in
        let is = derived.each p y.0 j z.0 y.1 hj z.1 in
        let above = uses_too (λ k. k < length first) Used (λ k lt. (first_labels k lt).0) j.machine (projection_uses p j hj) in
        let sub = machine_uses p y.0 y.1 in
        let nodes = derivation_uses p z.0 (own_at own each_there p z.0 z.1) in
        let P : Derivation_data → Machine_data → Machine_data → Type 0 = λ v s t. IsDerivation v s t × Remembers v s t in
        subst (λ (v : Derivation_data). P v m j.machine) z.2
        (subst (λ (t : Machine_data). P (derivation_by f z.0) m t) (projection_stays p j hj)
        (subst (λ (s : Machine_data). P (derivation_by f z.0) s (machine_by f j.machine)) y.2
        (derivation_is Used f g back z.0 y.0 j.machine sub above nodes is.0, remembers_too Used f g back z.0 y.0 j.machine sub above nodes is.1))));
  }

  those_again : those_there e.derivations ≡ map (derivation_by f) (those_there own)
  those_again = those_by (derivation_by f) own

  verified_by_own : IsVerified e ps machines
  verified_by_own = record {
    has = has_again;
    none = none_is_blamed e.derivations machines ps (all_there_by (derivation_by f) own each_there) (subst (AreDerivations machines ps) (sym those_again) derivations_again);
  }

  pub spelt_verified : SpellsDocument text e × ((ns : List Machine_data) × IsVerified e ps ns)
  spelt_verified = (read_again d text again c, (machines, verified_by_own))

  pub verified_again : Verifies e (report d.names.roles (those_there d.derivations))
  verified_again = IsReported ps machines verified_by_own (sym (ap (report d.names.roles) those_again ∙ report_stays d.names.roles f (those_there own)))

-- ---- a document with the derivations that were found

module _ (bound : ℕ) (d : Document_data) (ps : List Projection_data) (ms : List Machine_data) (ds : List Derivation_data) (within : IsBound bound)
    (first_again : CanBeReadAgain d) (spelt : IsSpeltSession d) (few_own : (k : ℕ) (m : Machine_data) → slice_get ms k ≡ Some m → length m.states < 4294967296)
    (has : HasMachines d ps ms) (found : AreCanonical bound ms ps ds) where
  session_found : IsSession d.protocol ps ms
  session_found = session_of d ps ms spelt has.projections_are.well_formed has.projections_are.projected has.machines_are has.well_formed

  small_at : (k : ℕ) (x : Derivation_data) → slice_get ds k ≡ Some x → AreSmall x
  small_at k x at =
      let f = found_at bound d.protocol ps ms ds session_found found k x at in
      let is = (derivations_are bound d.protocol ps ms ds session_found found).each k f.machine f.projection x f.runs f.projects at in
      let few = few_own k f.machine f.runs in
      let fewer = few_states d.protocol ps has.projections_are.projected k f.projection f.projects in
      small_numbers f.machine f.projection.machine bound x f.found is.0 (omega (arith, few)) (omega (arith, fewer))

  found_size : length (map Some ds) ≡ d.protocol.roles
  found_size = length-map ds Some ∙ (one_each bound within d.protocol ps ms ds session_found found).many

  found_can_be_read : CanBeReadAgain (with_derivations d ds)
  found_can_be_read =
      let each = one_each bound within d.protocol ps ms ds session_found found in
      record {
        shown = can_show_session bound d ps ms ds session_found first_again.bounded first_again.shown within found;
        bounded = first_again.bounded;
        machines = first_again.machines;
        derivations = record {
          one_each = found_size ∙ sym spelt.roles;
          in_place = λ k x at. each.role k x (there ds k x at);
        };
        small = λ k x at. small_at k x (there ds k x at);
      }

  -- those that were found show that the machines may stand for the projections
  found_verified : IsVerified (with_derivations d ds) ps ms
  found_verified = record {
    has = record {
      projections_are = record { well_formed = has.projections_are.well_formed; projected = has.projections_are.projected };
      machines_are = has.machines_are;
      well_formed = has.well_formed;
    };
    none = none_is_blamed (map Some ds) ms ps (all_there ds) (subst (AreDerivations ms ps) (sym (those_of ds)) (derivations_are bound d.protocol ps ms ds session_found found));
  }

  -- so is what is read of the canonical text of the document with them
  pub found_is_verified : (text : List ℕ) (c : IsCanonicalDocument (with_derivations d ds) text)
      → SpellsDocument text (document_by_labels (with_derivations d ds) (labels_of_text (with_derivations d ds) text c))
      × ((ns : List Machine_data) × IsVerified (document_by_labels (with_derivations d ds) (labels_of_text (with_derivations d ds) text c)) ps ns)
  found_is_verified text c = spelt_verified (with_derivations d ds) ps ms found_can_be_read session_found found_size found_verified text c

  pub found_again_verified : (text : List ℕ) → IsCanonicalDocument (with_derivations d ds) text → (e : Document_data) × SpellsDocument text e × Verifies e (report d.names.roles ds)
  found_again_verified text c =
      let x : Document_data = with_derivations d ds in (
        document_by_labels x (labels_of_text x text c),
        (spelt_verified x ps ms found_can_be_read session_found found_size found_verified text c).0,
        subst (λ (z : List Derivation_data). Verifies (document_by_labels x (labels_of_text x text c)) (report d.names.roles z)) (those_of ds)
            (verified_again x ps ms found_can_be_read session_found found_size found_verified text c),
      )

-- ---- what is printed and what is reported

pub printed_is_verified : (bound : ℕ) (bytes : List ℕ) (d : Document_data) (printed told : Answer_data) → IsBound bound → SpellsDocument bytes d → DocumentIsReady d → Checks bound true d printed
    → Checks bound false d told → told.verdict ≡ Fine → (e : Document_data) × SpellsDocument printed.text e × Verifies e told
printed_is_verified bound bytes d printed told within doc ready one (IsRefused r h is) fine =
    absurd (subst IsRefusing (sym (ap (λ (z : Answer_data). z.verdict) is) ∙ fine) (refusal_refuses d.names r))
printed_is_verified bound bytes d printed told within doc ready (IsRefused r h is) (IsAccepted ps ms ds k f tells) fine = absurd (not_refused bound d ps ms ds r k f h)
printed_is_verified bound bytes d printed told within doc ready (IsAccepted ps ms ds h f shows) (IsAccepted qs ns es k g tells) fine =
    let same : ds ≡ es = one_session_derived bound d ps qs ms ns ds es h k f g in
    let few = λ (k : ℕ) (m : Machine_data) (runs : slice_get ms k ≡ Some m). subst (λ (z : Machine_data). length z.states < 4294967296) (get_or_from_slice_get ms k m m runs)
    (chosen_small_by d d.machines ps ms refl ready h.projections_are.projected h.machines_are k m (slice_get_within ms k m runs)) in
    let v = found_again_verified bound d ps ms ds within (spelt_again bytes d doc) (ready_session d ready) few h f printed.text shows.text in
    (v.0, v.1, subst (Verifies v.0) (ap (report d.names.roles) same ∙ sym tells) v.2)
