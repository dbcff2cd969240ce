-- Machines are printed one behind the other.
use Rattle.std.proofs.Common.{◌≡◌, ℕ, zero, suc, ◌+◌, ◌<◌, List, [], ◌∷◌, ◌++◌, length, take, Option, Some, None, Result, Ok, Err, IfOk, refl, sym, ap, subst, ◌∙◌, arith, slice_index_or, append_assoc, append-nil}
use Rattle.rs_derive.specs.Data.{Derivation_data}
use Rattle.rs_global.specs.Canonical.{IsCanonicalProtocolText}
use Rattle.rs_documents.specs.Parts.{no_parts}
use Rattle.rs_model.specs.Data.{Names_data, Protocol_data, Machine_data}
use Rattle.rs_machines.specs.Canonical.{IsCanonicalMachineText, IsMachineTextShaped}
use Rattle.rs_tables.specs.Tables.{table_of}
use Rattle.rs_documents.specs.Canonical.{AreCanonicalMachines, AreShown, IsCanonicalDocument, IsOwnText, IsLine, IsTable, derivations_text, CanBePrinted, IsShownBehind, IsLineBehind}

abbrev IsOwn : Names_data → Option Machine_data → List ℕ → Type 0
IsOwn names None own = own ≡ []
IsOwn names (Some machine) own = IsOwnText names machine own

one_line : (names : Names_data) (own : Option Machine_data) (later line : List ℕ) → later ≡ [] → IsOwn names own line → AreCanonicalMachines names (own ∷ []) (later ++ line)
one_line names None later line e h = ap (λ z. z ++ line) e ∙ h
one_line names (Some m) later line e h = (line, [], h, refl, ap (λ z. z ++ line) e ∙ sym (append-nil line))

more_lines : (names : Names_data) (machines : List (Option Machine_data)) (own : Option Machine_data) (later line : List ℕ) → AreCanonicalMachines names machines later → IsOwn names own line
    → AreCanonicalMachines names (machines ++ own ∷ []) (later ++ line)
more_lines names [] own later line h l = one_line names own later line h l
more_lines names (None ∷ ms) own later line h l = more_lines names ms own later line h l
more_lines names (Some m ∷ ms) own later line h l = (h.0, h.1 ++ line, h.2, more_lines names ms own h.1 line h.3 l, ap (λ z. z ++ line) h.4 ∙ append_assoc h.0 h.1 line)

-- a line or a table was printed, or there was an error
pub line_or_error : {E : Type 0} (names : Names_data) (machine : Machine_data) (r : Result (List ℕ) E) → IsMachineTextShaped machine → IfOk r (λ text. IsCanonicalMachineText names machine text)
    → IfOk r (IsOwnText names machine)
line_or_error names machine (Ok text) shaped h = IsLine text shaped h
line_or_error names machine (Err e) shaped h = tt

pub table_or_error : {E : Type 0} (names : Names_data) (machine : Machine_data) (r : Result (List ℕ) E) → (IsMachineTextShaped machine → ⊥) → IfOk r (λ text. text ≡ table_of names machine)
    → IfOk r (IsOwnText names machine)
table_or_error names machine (Ok text) unshaped h = subst (IsOwnText names machine) (sym h) (IsTable unshaped)
table_or_error names machine (Err e) unshaped h = tt

-- one machine more
one_behind : (names : Names_data) (machines : List (Option Machine_data)) (own : Option Machine_data) (old mid new : List ℕ) → IsShownBehind names machines old mid → IsLineBehind names own mid new
    → IsShownBehind names (machines ++ own ∷ []) old new
one_behind names machines None old mid new h l = (h.0 ++ [], more_lines names machines None h.0 [] h.1 refl, l ∙ h.2 ∙ ap (λ z. old ++ z) (sym (append-nil h.0)))
one_behind names machines (Some m) old mid new h l = (h.0 ++ l.0, more_lines names machines (Some m) h.0 l.0 h.1 l.1, l.2 ∙ ap (λ z. z ++ l.0) h.2 ∙ append_assoc old h.0 l.0)

-- nothing was written for no machines
pub none_behind : (names : Names_data) (old : List ℕ) → IsShownBehind names [] old old
none_behind names old = ([], refl, sym (append-nil old))

take_next : (machines : List (Option Machine_data)) (k : ℕ) (d : Option Machine_data) → k < length machines → take (suc k) machines ≡ take k machines ++ slice_index_or machines k d ∷ []
take_next [] k d lt = absurd (omega arith)
take_next (x ∷ xs) zero d lt = refl
take_next (x ∷ xs) (suc k) d lt = ap (λ z. x ∷ z) (take_next xs k d (omega arith))

pub next_behind : (names : Names_data) (machines : List (Option Machine_data)) (k : ℕ) (own : Option Machine_data) (old mid new : List ℕ) → k < length machines → own ≡ slice_index_or machines k own
    → IsShownBehind names (take k machines) old mid → IsLineBehind names own mid new → IsShownBehind names (take (k + 1) machines) old new
next_behind names machines k own old mid new lt e h l =
    let one : k + 1 ≡ suc k = omega arith in
    let all : take k machines ++ own ∷ [] ≡ take (k + 1) machines = ap (λ z. take k machines ++ z ∷ []) e ∙ sym (take_next machines k own lt) ∙ ap (λ z. take z machines) (sym one) in
    subst (λ (z : List (Option Machine_data)). IsShownBehind names z old new) all (one_behind names (take k machines) own old mid new h l)

shown_at : (names : Names_data) (machines : List (Option Machine_data)) (k : ℕ) (d : Option Machine_data) → k < length machines → AreShown names machines
    → CanBePrinted names (slice_index_or machines k d)
shown_at names [] k d lt h = absurd (omega arith)
shown_at names (x ∷ xs) zero d lt h = h.0
shown_at names (x ∷ xs) (suc k) d lt h = shown_at names xs k d (omega arith) h.1

pub own_shown : (names : Names_data) (machines : List (Option Machine_data)) (k : ℕ) (own : Option Machine_data) → k < length machines → own ≡ slice_index_or machines k own → AreShown names machines
    → CanBePrinted names own
own_shown names machines k own lt e h = subst (CanBePrinted names) (sym e) (shown_at names machines k own lt h)

-- the machines are written, and the derivations behind them
pub printed : (names : Names_data) (protocol : Protocol_data) (machines : List (Option Machine_data)) (derivations : List (Option Derivation_data)) (front mid all : List ℕ)
    → IsCanonicalProtocolText names protocol front → IsShownBehind names machines front mid
    → all ≡ mid ++ derivations_text names derivations → IsCanonicalDocument (record { names = names; protocol = protocol; machines = machines; derivations = derivations }) all
printed names protocol machines derivations front mid all h k e = record {
  front = front;
  back = k.0;
  protocol = h;
  machines = k.1;
  whole = e ∙ ap (λ z. z ++ derivations_text names derivations) k.2 ∙ append_assoc front k.0 (derivations_text names derivations);
}

-- a document without derivations ends with its machines
none_text : (names : Names_data) (roles : List (List ℕ)) → derivations_text names (no_parts roles) ≡ []
none_text names [] = refl
none_text names (x ∷ xs) = none_text names xs

pub without : (names : Names_data) (roles : List (List ℕ)) (front back : List ℕ) → front ++ back ≡ front ++ (back ++ derivations_text names (no_parts roles))
without names roles front back = ap (λ z. front ++ z) (sym (ap (λ z. back ++ z) (none_text names roles) ∙ append-nil back))
