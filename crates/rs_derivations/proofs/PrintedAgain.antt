-- What is read from a canonical text is printed as it.
use Rattle.std.proofs.Common.{◌≡◌, ℕ, ◌+◌, ◌≤◌, List, [], length, sym, ap, ◌∙◌, append-nil}
use Rattle.rs_model.specs.Data.{Names_data}
use Rattle.rs_model.specs.declared.limits.TheConstants.{MOST_LABELS}
use Rattle.rs_derive.specs.Data.{Derivation_data}
use Rattle.rs_text.specs.Lexing.{next_lexeme}
use Rattle.rs_text.specs.Sound.{IsSound}
use Rattle.rs_derivations.specs.Canonical.{canonical_text}
use Rattle.rs_derivations.specs.Numbers.{AreSmall}
use Rattle.rs_derivations.specs.Printable.{IsPrintable}
use Rattle.rs_derivations.specs.Spells.{SpellsDerivation}
use Rattle.rs_derivations.proofs.Again.{no_new_labels, read_again}
use Rattle.rs_derivations.proofs.Spelt.{one_spelling}

pub printed_again : (names new : Names_data) (d e : Derivation_data) (until : ℕ) → IsSound names → IsPrintable names d → AreSmall d → length names.labels ≤ MOST_LABELS
    → SpellsDerivation (canonical_text names d) 0 names new e until → canonical_text new e ≡ canonical_text names d
printed_again names new d e until sound p small few s =
    let text : List ℕ = canonical_text names d in
    let own = read_again names names d text 0 [] sound p small few (no_new_labels names d sound p) (sym (append-nil text)) in
    let same = one_spelling names new names text 0 until (next_lexeme text (0 + length text)).from e d s own in
    ap (λ z. canonical_text z e) same.0 ∙ ap (λ z. canonical_text names z) same.1
