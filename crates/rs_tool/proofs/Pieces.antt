-- One piece more of a text that is put together piece by piece.
use Rattle.std.proofs.Common.{◌≡◌, ℕ, suc, ◌+◌, ◌++◌, List, codes, ap, append_assoc, arith, refl}
use Rattle.rs_tool.specs.Pipelines.{more_names, numbered_role, round_text, rounds_text, sends_text, handover_text, values_text}

one_more : (n : ℕ) → n + 1 ≡ suc n
one_more n = omega arith

pub one_name_more : (n : ℕ) → more_names (n + 1) ≡ more_names n ++ codes ", " ++ numbered_role (n + 1)
one_name_more n = ap more_names (one_more n)

pub one_value_more : (n : ℕ) → values_text (n + 1) ≡ values_text n ++ handover_text n
one_value_more n = ap values_text (one_more n)

pub one_round_more : (last n : ℕ) → rounds_text last (n + 1) ≡ rounds_text last n ++ round_text last
one_round_more last n = ap (rounds_text last) (one_more n)

pub one_send_more : (n : ℕ) → sends_text (n + 1) ≡ sends_text n ++ codes "R1!v(nat). "
one_send_more n = ap sends_text (one_more n)

-- texts one behind the other, grouped in another way
pub four_grouped : (t a b c d : List ℕ) → t ++ a ++ b ++ c ++ d ≡ t ++ (a ++ b ++ c ++ d)
four_grouped t a b c d = simp (append_assoc) refl

pub six_grouped : (t a b c d e f : List ℕ) → t ++ a ++ b ++ c ++ d ++ e ++ f ≡ t ++ (a ++ b ++ c ++ d ++ e ++ f)
six_grouped t a b c d e f = simp (append_assoc) refl
