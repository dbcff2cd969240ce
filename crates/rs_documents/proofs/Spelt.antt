-- A document that a text spells has the machines that the text spells.
use Rattle.std.proofs.Common.{◌≡◌, ◌⊎◌, ℕ, List, length, Option, Result, refl, sym, ap, subst, ◌∙◌, inl, inr}
use Rattle.std.specs.Prelude.{codes}
use Rattle.rs_derive.specs.Data.{Derivation_data}
use Rattle.rs_documents.specs.Data.{Document_data}
use Rattle.rs_documents.specs.Documents.{SpellsDocument}
use Rattle.rs_documents.specs.Parts.{BeginsAt, NextTokenIs, PartsRead, GoesOn, Stops, Repeats, Fails, Adds, machine_parts, derivation_parts, no_parts}
use Rattle.rs_documents.specs.Spells.{HasNoMachineBehind, MachinesBehind, NoMore, OneMore, SpellsMachines, no_machines, with_machine}
use Rattle.rs_documents.proofs.FewLabels.{protocol_few}
use Rattle.rs_documents.proofs.PartKinds.{machine_begins, machine_role, of_machines}
use Rattle.rs_documents.proofs.Parts.{good, keeps, one_row, role_of_twice, row_of, second_of, size_of_none, twice_of_role}
use Rattle.rs_global.proofs.Canonical.{spelt_enough}
use Rattle.rs_bodies.proofs.GraphLaws as graphs
use Rattle.rs_global.specs.Graph.{no_names}
use Rattle.rs_global.specs.Kinds.{protocols}
use Rattle.rs_global.proofs.Places.{is_kind}
use Rattle.rs_model.specs.Data.{Names_data, Protocol_data, Machine_data}
use Rattle.rs_text.proofs.Nexts.{next_is_next, one_next}
use Rattle.rs_text.specs.Lexemes.{Lexeme}
use Rattle.rs_text.specs.Lexing.{next_lexeme}
use Rattle.rs_text.specs.Signs.{Sign, plain, finish}
use Rattle.rs_text.specs.declared.faults.TextFault.{TextFault}

-- where derivations, or nothing, stand behind the offset, no machine does
nothing_more : (bytes : List ℕ) (at : ℕ) (names : Names_data) (parts : List (Option Derivation_data)) (what : Result (PartsRead Derivation_data) TextFault) (row : PartsRead Derivation_data)
    → GoesOn derivation_parts bytes at names parts what → what ≡ good row
    → NextTokenIs bytes row.until finish → HasNoMachineBehind bytes at
nothing_more bytes at names parts what row (Stops a n m e) is ends =
    let same : row_of names parts at ≡ row = cc in
    let here : at ≡ row.until = ap (λ (r : PartsRead Derivation_data). r.until) same in
    (next_lexeme bytes at, next_is_next bytes at, inl (subst (λ (z : ℕ). NextTokenIs bytes z finish) (sym here) ends))
nothing_more bytes at names parts what row (Repeats a u n m e z) is ends = absurd cc
nothing_more bytes at names parts what row (Fails a u n m j e z r) is ends = absurd cc
nothing_more bytes at names parts what row (Adds a next n new m part w e z s g) is ends = (next_lexeme bytes at, next_is_next bytes at, inr e)

machines_behind : (bytes : List ℕ) (at : ℕ) (names : Names_data) (machines : List (Option Machine_data)) (what : Result (PartsRead Machine_data) TextFault) (row : PartsRead Machine_data)
    → GoesOn machine_parts bytes at names machines what → what ≡ good row
    → HasNoMachineBehind bytes row.until → MachinesBehind bytes at names machines row.parts
machines_behind bytes at names machines what row (Stops a n m e) is ends =
    let same : row_of names machines at ≡ row = cc in
    subst (λ (r : PartsRead Machine_data). MachinesBehind bytes at names machines r.parts) same
    (NoMore at names machines (subst (λ (r : PartsRead Machine_data). HasNoMachineBehind bytes r.until) (sym same) ends))
machines_behind bytes at names machines what row (Repeats a u n m e z) is ends = absurd cc
machines_behind bytes at names machines what row (Fails a u n m j e z r) is ends = absurd cc
machines_behind bytes at names machines what row (Adds a next n new m machine w e never s g) is ends =
    OneMore at next names new machines machine row.parts s
    (λ h. never (second_of bytes at).from (twice_of_role bytes at names machines machine.role h.0 (machine_role bytes at names new machine next s) h.1))
    (machines_behind bytes next new (with_machine machines machine) what row g is ends)

-- what is spelt as a document is spelt as a protocol and machines
pub spelt_machines : (bytes : List ℕ) (d : Document_data) → SpellsDocument bytes d → SpellsMachines bytes d.protocol d.machines
spelt_machines bytes d h =
    let front = h.parts.front_is in
    let ends = nothing_more bytes h.next h.before (no_parts h.before.roles) _ (row_of d.names d.derivations h.end) h.parts.derivations_are refl h.ends in
    record {
      names = front.names;
      until = front.until;
      protocol_is = front.protocol_is;
      machines_are = machines_behind bytes front.until front.names (no_parts front.names.roles) _ (row_of h.before d.machines h.next) front.machines_are refl ends;
    }

-- ---- there is one list of machines

no_word : (s t : Sign) → (s ≡ finish) ⊎ (s ≡ plain (codes "derivation")) → s ≡ t → (t ≡ plain (codes "machine")) ⊎ (t ≡ plain (codes "table")) → ⊥
no_word s t (inl e) same (inl w) = let clash : finish ≡ plain (codes "machine") = sym e ∙ same ∙ w in cc
no_word s t (inl e) same (inr w) = let clash : finish ≡ plain (codes "table") = sym e ∙ same ∙ w in cc
no_word s t (inr e) same (inl w) = let clash : plain (codes "derivation") ≡ plain (codes "machine") = sym e ∙ same ∙ w in cc
no_word s t (inr e) same (inr w) = let clash : plain (codes "derivation") ≡ plain (codes "table") = sym e ∙ same ∙ w in cc

no_machine_there : (bytes : List ℕ) (at : ℕ) → HasNoMachineBehind bytes at → BeginsAt machine_parts bytes at → ⊥
no_machine_there bytes at h begins = no_word h.0.sign (next_lexeme bytes at).sign h.2 (ap (λ (l : Lexeme). l.sign) (one_next bytes at h.0 h.1)) begins

record Found (bytes : List ℕ) (at : ℕ) (names : Names_data) (machines all : List (Option Machine_data)) : Type 0 where
  row : PartsRead Machine_data
  goes_on : GoesOn machine_parts bytes at names machines (good row)
  are : row.parts ≡ all

found : (bytes : List ℕ) (at : ℕ) (names : Names_data) (machines all : List (Option Machine_data)) → MachinesBehind bytes at names machines all → Found bytes at names machines all
found bytes at names machines all (NoMore a n m e) = record { row = row_of names machines at; goes_on = Stops at names machines (no_machine_there bytes at e); are = refl }
found bytes at names machines all (OneMore a next n new m machine e s free rest) =
    let later = found bytes next new (with_machine machines machine) all rest in
    record {
      row = later.row;
      goes_on = Adds at next names new machines machine (good later.row) (machine_begins bytes at names new machine next s)
          (λ second t. free (role_of_twice bytes at second names machines machine.role (machine_role bytes at names new machine next s) t)) s later.goes_on;
      are = later.are;
    }

abbrev GoesOnFrom : List ℕ → ℕ → Names_data → PartsRead Machine_data → Type 0
GoesOnFrom bytes at names row = GoesOn machine_parts bytes at names (no_parts names.roles) (good row)

same_good : (x y : PartsRead Machine_data) → good x ≡ good y → x ≡ y
same_good x y h = cc

pub one_session : (bytes : List ℕ) (p q : Protocol_data) (machines others : List (Option Machine_data)) → SpellsMachines bytes p machines → SpellsMachines bytes q others
    → (p ≡ q) × (machines ≡ others)
one_session bytes p q machines others h k =
    let same = graphs.one_spelling protocols is_kind.made no_names bytes 0 h.names k.names p q h.until k.until h.protocol_is k.protocol_is in
    let x = found bytes h.until h.names (no_machines h.names.roles) machines h.machines_are in
    let y = found bytes k.until k.names (no_machines k.names.roles) others k.machines_are in
    let y1 : GoesOnFrom bytes h.until k.names y.row = subst (λ (n : ℕ). GoesOnFrom bytes n k.names y.row) (sym same.2) y.goes_on in
    let y2 : GoesOnFrom bytes h.until h.names y.row = subst (λ (n : Names_data). GoesOnFrom bytes h.until n y.row) (sym same.0) y1 in
    let rows : x.row ≡ y.row
    = same_good x.row y.row (one_row machine_parts of_machines bytes h.until h.names (no_parts h.names.roles) (good x.row) (good y.row)
    (protocol_few bytes 0 h.names p h.until h.protocol_is) x.goes_on y2) in
    (same.1, sym x.are ∙ ap (λ (r : PartsRead Machine_data). r.parts) rows ∙ y.are)

-- there is one place for a machine a role
pub one_place_each : (bytes : List ℕ) (p : Protocol_data) (machines : List (Option Machine_data)) → SpellsMachines bytes p machines → length machines ≡ p.roles
one_place_each bytes p machines h =
    let x = found bytes h.until h.names (no_machines h.names.roles) machines h.machines_are in
    let k = keeps machine_parts of_machines bytes h.until h.names (no_parts h.names.roles) (good x.row) x.row x.goes_on refl in
    let enough = spelt_enough bytes 0 h.names p h.until h.protocol_is in
    ap length (sym x.are) ∙ k.size ∙ size_of_none _ h.names.roles ∙ enough.roles
