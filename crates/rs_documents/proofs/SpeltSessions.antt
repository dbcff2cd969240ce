-- What a document that a text spells gives to its session: two to sixteen roles, and each part in its role's place.
use Rattle.std.proofs.Common.{◌≡◌, ℕ, ◌≤◌, List, length, refl, sym, ap, subst, ◌∙◌}
use Rattle.rs_derive.specs.Data.{Derivation_data}
use Rattle.rs_documents.specs.Data.{Document_data}
use Rattle.rs_documents.specs.Documents.{SpellsDocument}
use Rattle.rs_documents.specs.Parts.{machine_parts, derivation_parts, no_parts}
use Rattle.rs_documents.specs.Ready.{AreInPlace, StandInPlace}
use Rattle.rs_documents.proofs.CanShow.{showable}
use Rattle.rs_documents.proofs.PartKinds.{of_machines, of_derivations}
use Rattle.rs_documents.proofs.Parts.{good, keeps, none_there, row_of, size_of_none}
use Rattle.rs_global.specs.Spells.{SpellsProtocol}
use Rattle.rs_global.proofs.Canonical.{spelt_roles}
use Rattle.rs_model.specs.Data.{Names_data, Protocol_data}
use Rattle.rs_model.specs.declared.limits.TheConstants.{MOST_ROLES}

-- the roles are two to sixteen, as many as the protocol has, and each has a place for its machine and for its
-- derivation, which is its own
pub record IsSpeltSession (d : Document_data) : Type 0 where
  pub two : 2 ≤ length d.names.roles
  pub bounded : length d.names.roles ≤ MOST_ROLES
  pub roles : length d.names.roles ≡ d.protocol.roles
  pub one_each : length d.machines ≡ length d.names.roles
  pub in_place : AreInPlace d.machines
  pub a_derivation_each : length d.derivations ≡ length d.names.roles
  pub derivations_in_place : StandInPlace (λ (x : Derivation_data). x.role) d.derivations

-- a protocol that a text spells has two roles or more
pub two_roles : (bytes : List ℕ) (at : ℕ) (names : Names_data) (protocol : Protocol_data) (until : ℕ) → SpellsProtocol bytes at names protocol until → 2 ≤ length names.roles
two_roles bytes at names protocol until s = (spelt_roles bytes at names protocol until s).two

pub spelt_session : (bytes : List ℕ) (d : Document_data) → SpellsDocument bytes d → IsSpeltSession d
spelt_session bytes d h =
    let front = h.parts.front_is in
    let middle = row_of h.before d.machines h.next in
    let back = row_of d.names d.derivations h.end in
    let k = keeps machine_parts of_machines bytes front.until front.names (no_parts front.names.roles) (good middle) middle front.machines_are refl in
    let j = keeps derivation_parts of_derivations bytes h.next h.before (no_parts h.before.roles) (good back) back h.parts.derivations_are refl in
    let two = two_roles bytes 0 front.names d.protocol front.until front.protocol_is in
    let same = j.roles ∙ k.roles in
    let s = showable bytes d h in
    record {
      two = subst (λ (z : List (List ℕ)). 2 ≤ length z) (sym same) two;
      bounded = s.bounded;
      roles = s.roles;
      one_each = k.size ∙ size_of_none _ front.names.roles ∙ ap length (sym same);
      in_place = k.in_place (λ n m e. absurd (none_there front.names.roles n m e));
      a_derivation_each = j.size ∙ size_of_none _ h.before.roles ∙ ap length (sym j.roles);
      derivations_in_place = j.in_place (λ n m e. absurd (none_there h.before.roles n m e));
    }
