-- A text spells one document or has one first fault, and never both.
use Rattle.std.proofs.Common.{◌≡◌, ◌⊎◌, ℕ, ◌≤◌, List, length, Option, Some, None, Result, Ok, Err, refl, sym, ap, subst, ◌∙◌, inl, inr, arith}
use Rattle.rs_derive.specs.Data.{Derivation_data}
use Rattle.rs_documents.specs.Data.{Document_data}
use Rattle.rs_documents.specs.Documents.{SpellsFront, SpellsParts, SpellsDocument, fault_behind, wanted_behind, FirstFault, InProtocol, InMachines, InDerivations, BehindParts}
use Rattle.rs_documents.specs.Parts.{NextTokenIs, no_parts, PartsRead, GoesOn, machine_parts, derivation_parts}
use Rattle.rs_documents.proofs.FewLabels.{protocol_few}
use Rattle.rs_documents.proofs.PartKinds.{of_machines, of_derivations, protocol_within}
use Rattle.rs_documents.proofs.Parts.{good, keeps_few, keeps_within, one_row, size_of_none, some_row}
use Rattle.rs_bodies.proofs.GraphLaws as graphs
use Rattle.rs_global.specs.Graph.{no_names}
use Rattle.rs_global.specs.Kinds.{protocols}
use Rattle.rs_global.proofs.Places.{is_kind}
use Rattle.rs_bodies.proofs.OneFault as faults
use Rattle.rs_bodies.specs.declared.dialects.Dialect.TheVariants.{Talks}
use Rattle.rs_global.specs.Faults as of_protocols
use Rattle.rs_global.specs.Spells.{SpellsProtocol}
use Rattle.rs_model.specs.Data.{Names_data, Protocol_data, Machine_data}
use Rattle.rs_model.specs.declared.limits.TheConstants.{MOST_LABELS}
use Rattle.rs_text.specs.Lexing.{next_lexeme}
use Rattle.rs_text.specs.Signs.{Sign, rec_word, end_word, plain, number, arrow, bang, question, colon, dot, comma, open_brace, close_brace, open_paren, close_paren, open_bracket, close_bracket}
use Rattle.rs_text.specs.Signs.{finish, broken}
use Rattle.rs_text.specs.declared.faults.TextFault.{TextFault}
use Rattle.rs_text.specs.declared.faults.TextKind.{TextKind}
use Rattle.rs_text.specs.declared.faults.Wanted.{Wanted}

same_good : {A : Type 0} (x y : PartsRead A) → good x ≡ good y → x ≡ y
same_good x y h = cc

abbrev bad : {A : Type 0} → TextFault → Result (PartsRead A) TextFault
bad f = Err f

same_bad : {A : Type 0} (f g : TextFault) → bad {A = A} f ≡ bad {A = A} g → f ≡ g
same_bad f g h = cc

not_good : {A : Type 0} (x : PartsRead A) (f : TextFault) → good x ≡ bad f → ⊥
not_good x f h = cc

-- what comes of the machines behind one protocol
abbrev MachinesGoOn : List ℕ → ℕ → Names_data → Result (PartsRead Machine_data) TextFault → Type 0
MachinesGoOn bytes until names row = GoesOn machine_parts bytes until names (no_parts names.roles) row

abbrev DerivationsGoOn : List ℕ → PartsRead Machine_data → Result (PartsRead Derivation_data) TextFault → Type 0
DerivationsGoOn bytes front row = GoesOn derivation_parts bytes front.until front.names (no_parts front.names.roles) row

machines_same : (bytes : List ℕ) (names other : Names_data) (p q : Protocol_data) (until stop : ℕ) (x y : Result (PartsRead Machine_data) TextFault) → SpellsProtocol bytes 0 names p until
    → SpellsProtocol bytes 0 other q stop
    → MachinesGoOn bytes until names x → MachinesGoOn bytes stop other y → (p ≡ q) × (x ≡ y)
machines_same bytes names other p q until stop x y s t h k =
    let same = graphs.one_spelling protocols is_kind.made no_names bytes 0 names other p q until stop s t in
    let k1 : MachinesGoOn bytes until other y = subst (λ (n : ℕ). MachinesGoOn bytes n other y) (sym same.2) k in
    let k2 : MachinesGoOn bytes until names y = subst (λ (n : Names_data). MachinesGoOn bytes until n y) (sym same.0) k1 in
    (same.1, one_row machine_parts of_machines bytes until names (no_parts names.roles) x y (protocol_few bytes 0 names p until s) h k2)

one_front : (bytes : List ℕ) (p q : Protocol_data) (x y : PartsRead Machine_data) → SpellsFront bytes p x → SpellsFront bytes q y → (p ≡ q) × (x ≡ y)
one_front bytes p q x y h k =
    let same = machines_same bytes h.names k.names p q h.until k.until (good x) (good y) h.protocol_is k.protocol_is h.machines_are k.machines_are in
    (same.0, same_good x y same.1)

pub front_few : (bytes : List ℕ) (p : Protocol_data) (x : PartsRead Machine_data) → SpellsFront bytes p x → length x.names.labels ≤ MOST_LABELS
front_few bytes p x h = keeps_few machine_parts of_machines bytes h.until h.names (no_parts h.names.roles) (good x) x (protocol_few bytes 0 h.names p h.until h.protocol_is) h.machines_are refl

front_within : (bytes : List ℕ) (p : Protocol_data) (x : PartsRead Machine_data) → SpellsFront bytes p x → x.until ≤ length bytes
front_within bytes p x h = keeps_within machine_parts of_machines bytes h.until h.names (no_parts h.names.roles) (good x) x (protocol_within bytes h.names p h.until h.protocol_is) h.machines_are refl

derivations_same : (bytes : List ℕ) (p q : Protocol_data) (front other : PartsRead Machine_data) (x y : Result (PartsRead Derivation_data) TextFault) → SpellsFront bytes p front
    → SpellsFront bytes q other
    → DerivationsGoOn bytes front x → DerivationsGoOn bytes other y → (p ≡ q) × (front ≡ other) × (x ≡ y)
derivations_same bytes p q front other x y s t h k =
    let same = one_front bytes p q front other s t in
    let k1 : DerivationsGoOn bytes front y = subst (λ (r : PartsRead Machine_data). DerivationsGoOn bytes r y) (sym same.1) k in
    (same.0, same.1, one_row derivation_parts of_derivations bytes front.until front.names (no_parts front.names.roles) x y (front_few bytes p front s) h k1)

pub one_parts : (bytes : List ℕ) (p q : Protocol_data) (front other : PartsRead Machine_data) (back rest : PartsRead Derivation_data) → SpellsParts bytes p front back → SpellsParts bytes q other rest
    → (p ≡ q) × (front ≡ other) × (back ≡ rest)
one_parts bytes p q front other back rest h k =
    let same = derivations_same bytes p q front other (good back) (good rest) h.front_is k.front_is h.derivations_are k.derivations_are in
    (same.0, same.1, same_good back rest same.2)

-- a text spells one document at most
pub one_document : (bytes : List ℕ) (d e : Document_data) → SpellsDocument bytes d → SpellsDocument bytes e → d ≡ e
one_document bytes d e h k =
    let same = one_parts bytes d.protocol e.protocol _ _ _ _ h.parts k.parts in
    let machines : d.machines ≡ e.machines = ap (λ (r : PartsRead Machine_data). r.parts) same.1 in
    let derivations : d.derivations ≡ e.derivations = ap (λ (r : PartsRead Derivation_data). r.parts) same.2 in
    let names : d.names ≡ e.names = ap (λ (r : PartsRead Derivation_data). r.names) same.2 in
    let protocol : d.protocol ≡ e.protocol = same.0 in
    ap (λ z. record { names = z; protocol = d.protocol; machines = d.machines; derivations = d.derivations }) names
    ∙ ap (λ z. record { names = e.names; protocol = z; machines = d.machines; derivations = d.derivations }) protocol
    ∙ ap (λ z. record { names = e.names; protocol = e.protocol; machines = z; derivations = d.derivations }) machines
    ∙ ap (λ z. record { names = e.names; protocol = e.protocol; machines = e.machines; derivations = z }) derivations

-- a text has one first fault at most
no_protocol_fault : (bytes : List ℕ) (names : Names_data) (p : Protocol_data) (until : ℕ) (k : TextKind) (at : ℕ) → SpellsProtocol bytes 0 names p until → of_protocols.FirstFault bytes 0 k at → ⊥
no_protocol_fault bytes names p until k at s f = graphs.spelt_no_fault protocols no_names bytes 0 names p until k at s f

no_machine_fault : (bytes : List ℕ) (p q : Protocol_data) (front : PartsRead Machine_data) (names : Names_data) (until : ℕ) (f : TextFault) → SpellsFront bytes p front
    → SpellsProtocol bytes 0 names q until
    → MachinesGoOn bytes until names (bad f) → ⊥
no_machine_fault bytes p q front names until f h s g =
    let same = machines_same bytes h.names names p q h.until until (good front) (bad f) h.protocol_is s h.machines_are g in
    not_good front f same.1

no_derivation_fault : (bytes : List ℕ) (p q : Protocol_data) (front other : PartsRead Machine_data) (back : PartsRead Derivation_data) (f : TextFault) → SpellsParts bytes p front back
    → SpellsFront bytes q other
    → DerivationsGoOn bytes other (bad f) → ⊥
no_derivation_fault bytes p q front other back f h s g =
    let same = derivations_same bytes p q front other (good back) (bad f) h.front_is s h.derivations_are g in
    not_good back f same.2

abbrev SameFault : TextKind → TextKind → ℕ → ℕ → Type 0
SameFault j k n i = (j ≡ k) × (n ≡ i)

abbrev fault : TextKind → ℕ → TextFault
fault k at = record { kind = k; at = at }

by_fault : (j k : TextKind) (n i : ℕ) → fault j n ≡ fault k i → SameFault j k n i
by_fault j k n i h = (ap (λ (f : TextFault). f.kind) h, ap (λ (f : TextFault). f.at) h)

some_same : (j k : TextKind) → Some j ≡ Some k → j ≡ k
some_same j k h = cc

pub one_fault : (bytes : List ℕ) (j k : TextKind) (n i : ℕ) → FirstFault bytes j n → FirstFault bytes k i → SameFault j k n i
one_fault bytes j k n i (InProtocol a f) (InProtocol b g) = faults.one_fault Talks no_names bytes 0 j k n i f g
one_fault bytes j k n i (InProtocol a f) (InMachines b names p until s g) = absurd (no_protocol_fault bytes names p until j n s f)
one_fault bytes j k n i (InProtocol a f) (InDerivations b p front s g) = absurd (no_protocol_fault bytes s.names p s.until j n s.protocol_is f)
one_fault bytes j k n i (InProtocol a f) (BehindParts p front back s g) = absurd (no_protocol_fault bytes s.front_is.names p s.front_is.until j n s.front_is.protocol_is f)
one_fault bytes j k n i (InMachines a names p until s f) (InProtocol b g) = absurd (no_protocol_fault bytes names p until k i s g)
one_fault bytes j k n i (InMachines a names p until s f) (InMachines b other q stop t g) =
    let same = machines_same bytes names other p q until stop (bad (fault j n)) (bad (fault k i)) s t f g in
    by_fault j k n i (same_bad {A = Machine_data} (fault j n) (fault k i) same.1)
one_fault bytes j k n i (InMachines a names p until s f) (InDerivations b q front t g) = absurd (no_machine_fault bytes q p front names until (fault j n) t s f)
one_fault bytes j k n i (InMachines a names p until s f) (BehindParts q front back t g) = absurd (no_machine_fault bytes q p front names until (fault j n) t.front_is s f)
one_fault bytes j k n i (InDerivations a p front s f) (InProtocol b g) = absurd (no_protocol_fault bytes s.names p s.until k i s.protocol_is g)
one_fault bytes j k n i (InDerivations a p front s f) (InMachines b names q until t g) = absurd (no_machine_fault bytes p q front names until (fault k i) s t g)
one_fault bytes j k n i (InDerivations a p front s f) (InDerivations b q other t g) =
    let same = derivations_same bytes p q front other (bad (fault j n)) (bad (fault k i)) s t f g in
    by_fault j k n i (same_bad {A = Derivation_data} (fault j n) (fault k i) same.2)
one_fault bytes j k n i (InDerivations a p front s f) (BehindParts q other back t g) = absurd (no_derivation_fault bytes q p other front back (fault j n) t s f)
one_fault bytes j k n i (BehindParts p front back s f) (InProtocol b g) = absurd (no_protocol_fault bytes s.front_is.names p s.front_is.until k i s.front_is.protocol_is g)
one_fault bytes j k n i (BehindParts p front back s f) (InMachines b names q until t g) = absurd (no_machine_fault bytes p q front names until (fault k i) s.front_is t g)
one_fault bytes j k n i (BehindParts p front back s f) (InDerivations b q other t g) = absurd (no_derivation_fault bytes p q front other back (fault k i) s t g)
one_fault bytes j k n i (BehindParts p front back s f) (BehindParts q other rest t g) =
    let same = one_parts bytes p q front other back rest s t in
    let ends : back.until ≡ rest.until = ap (λ (r : PartsRead Derivation_data). r.until) same.2 in
    let starts : front.until ≡ other.until = ap (λ (r : PartsRead Machine_data). r.until) same.1 in
    let there : fault_behind (wanted_behind front.until back.until) (next_lexeme bytes back.until).sign ≡ fault_behind (wanted_behind other.until rest.until) (next_lexeme bytes rest.until).sign
    = ap (λ z. fault_behind (wanted_behind z back.until) (next_lexeme bytes back.until).sign) starts ∙ ap (λ z. fault_behind (wanted_behind other.until z) (next_lexeme bytes z).sign) ends in
    (some_same j k (sym f ∙ there ∙ g), ends)

-- what is spelt has no fault
pub no_fault : (bytes : List ℕ) (d : Document_data) (k : TextKind) (at : ℕ) → SpellsDocument bytes d → FirstFault bytes k at → ⊥
no_fault bytes d k at h (InProtocol b g) = no_protocol_fault bytes h.parts.front_is.names d.protocol h.parts.front_is.until k at h.parts.front_is.protocol_is g
no_fault bytes d k at h (InMachines b names q until t g) = no_machine_fault bytes d.protocol q _ names until (fault k at) h.parts.front_is t g
no_fault bytes d k at h (InDerivations b q other t g) = no_derivation_fault bytes d.protocol q _ other _ (fault k at) h.parts t g
no_fault bytes d k at h (BehindParts q other rest t g) =
    let same = one_parts bytes d.protocol q _ other _ rest h.parts t in
    let ends : h.end ≡ rest.until = ap (λ (r : PartsRead Derivation_data). r.until) same.2 in
    let finished : (next_lexeme bytes rest.until).sign ≡ finish = subst (λ (z : ℕ). NextTokenIs bytes z finish) ends h.ends in
    let clash : None ≡ Some k = sym (ap (fault_behind (wanted_behind other.until rest.until)) finished) ∙ g in
    cc

-- ---- a text spells a document or has a fault

pub nothing_behind : (w : Wanted) (s : Sign) → fault_behind w s ≡ None → s ≡ finish
nothing_behind w finish e = refl
nothing_behind w rec_word e = absurd cc
nothing_behind w end_word e = absurd cc
nothing_behind w (plain text) e = absurd cc
nothing_behind w (number n) e = absurd cc
nothing_behind w arrow e = absurd cc
nothing_behind w bang e = absurd cc
nothing_behind w question e = absurd cc
nothing_behind w colon e = absurd cc
nothing_behind w dot e = absurd cc
nothing_behind w comma e = absurd cc
nothing_behind w open_brace e = absurd cc
nothing_behind w close_brace e = absurd cc
nothing_behind w open_paren e = absurd cc
nothing_behind w close_paren e = absurd cc
nothing_behind w open_bracket e = absurd cc
nothing_behind w close_bracket e = absurd cc
nothing_behind w (broken k) e = absurd cc

abbrev SpeltOrFaulty : List ℕ → Type 0
SpeltOrFaulty bytes = ((d : Document_data) × SpellsDocument bytes d) ⊎ ((kind : TextKind) × (at : ℕ) × FirstFault bytes kind at)

-- the document of its parts
pub document_is : (bytes : List ℕ) (p : Protocol_data) (front : PartsRead Machine_data) (back : PartsRead Derivation_data) → SpellsParts bytes p front back → NextTokenIs bytes back.until finish
    → SpellsDocument bytes (record { names = back.names; protocol = p; machines = front.parts; derivations = back.parts })
document_is bytes p front back h e = record { next = front.until; before = front.names; end = back.until; parts = h; ends = e }

by_end : (bytes : List ℕ) (p : Protocol_data) (front : PartsRead Machine_data) (back : PartsRead Derivation_data) (o : Option TextKind) → SpellsParts bytes p front back
    → fault_behind (wanted_behind front.until back.until) (next_lexeme bytes back.until).sign ≡ o → SpeltOrFaulty bytes
by_end bytes p front back None h e = inl (record { names = back.names; protocol = p; machines = front.parts; derivations = back.parts }, document_is bytes p front back h (nothing_behind _ _ e))
by_end bytes p front back (Some k) h e = inr (k, back.until, BehindParts p front back h e)

by_derivations : (bytes : List ℕ) (p : Protocol_data) (front : PartsRead Machine_data) (row : Result (PartsRead Derivation_data) TextFault) → SpellsFront bytes p front
    → DerivationsGoOn bytes front row
    → SpeltOrFaulty bytes
by_derivations bytes p front (Err f) h g = inr (f.kind, f.at, InDerivations f.at p front h g)
by_derivations bytes p front (Ok back) h g = by_end bytes p front back _ (record { front_is = h; derivations_are = g }) refl

by_machines : (bytes : List ℕ) (names : Names_data) (p : Protocol_data) (until : ℕ) (row : Result (PartsRead Machine_data) TextFault) → SpellsProtocol bytes 0 names p until
    → MachinesGoOn bytes until names row → SpeltOrFaulty bytes
by_machines bytes names p until (Err f) s g = inr (f.kind, f.at, InMachines f.at names p until s g)
by_machines bytes names p until (Ok front) s g =
    let h : SpellsFront bytes p front = record { names = names; until = until; protocol_is = s; machines_are = g } in
    let rest = some_row derivation_parts of_derivations bytes front.until front.names (no_parts front.names.roles) (front_within bytes p front h) (size_of_none _ front.names.roles)
    (front_few bytes p front h) in
    by_derivations bytes p front rest.row h rest.goes_on

pub spelt_or_faulty : (bytes : List ℕ) → SpeltOrFaulty bytes
spelt_or_faulty bytes = elim (graphs.spelt_or_faulty protocols is_kind.made no_names bytes 0 (omega arith)) [
  | inl h ↦
      let rest = some_row machine_parts of_machines bytes h.2 h.0 (no_parts h.0.roles) (protocol_within bytes h.0 h.1 h.2 h.3) (size_of_none _ h.0.roles) (protocol_few bytes 0 h.0 h.1 h.2 h.3) in
      by_machines bytes h.0 h.1 h.2 rest.row h.3 rest.goes_on
  | inr f ↦ inr (f.0, f.1, InProtocol f.1 f.2)
]
