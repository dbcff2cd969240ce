-- The arrows of a machine's picture, state by state.
use Rattle.std.proofs.Common.{◌≡◌, ℕ, zero, suc, ◌+◌, List, [], ◌∷◌, ◌++◌, take, drop, Some, slice_get, refl, sym, ap, ◌∙◌, append_assoc, arith}
use Rattle.rs_model.specs.Data.{Machine_data, Names_data}
use Rattle.rs_model.specs.declared.machines.State.{State}
use Rattle.rs_text.proofs.Basics.{some_is}
use Rattle.rs_pictures.specs.Machines.{arrows_from, state_arrows}

from_here : (names : Names_data) (k n : ℕ) (states : List State) (s : State) → slice_get states n ≡ Some s
    → arrows_from names k states ≡ arrows_from names k (take n states) ++ (state_arrows names (k + n) s ++ arrows_from names (suc (k + n)) (drop (suc n) states))
from_here names k zero [] s e = absurd (cc e)
from_here names k (suc n) [] s e = absurd (cc e)
from_here names k zero (x ∷ states) s e = let same : k + 0 ≡ k = omega arith in rw (same, some_is x s e) refl
from_here names k (suc n) (x ∷ states) s e =
    let same : suc k + n ≡ k + suc n = omega arith in
    ap (λ z. state_arrows names k x ++ z) (from_here names (suc k) n states s e)
    ∙ sym (append_assoc (state_arrows names k x) (arrows_from names (suc k) (take n states)) (state_arrows names (suc k + n) s ++ arrows_from names (suc (suc k + n)) (drop (suc n) states)))
    ∙ ap (λ z. arrows_from names k (take (suc n) (x ∷ states)) ++ (state_arrows names z s ++ arrows_from names (suc z) (drop (suc n) states))) same

pub each_state : (names : Names_data) (m : Machine_data) (n : ℕ) (s : State) → slice_get m.states n ≡ Some s
    → arrows_from names 0 m.states ≡ arrows_from names 0 (take n m.states) ++ (state_arrows names n s ++ arrows_from names (n + 1) (drop (n + 1) m.states))
each_state names m n s e =
    let same : 0 + n ≡ n = omega arith in
    let next : suc n ≡ n + 1 = omega arith in
    from_here names 0 n m.states s e
    ∙ ap (λ z. arrows_from names 0 (take n m.states) ++ (state_arrows names z s ++ arrows_from names (suc z) (drop (suc n) m.states))) same
    ∙ ap (λ z. arrows_from names 0 (take n m.states) ++ (state_arrows names n s ++ arrows_from names z (drop z m.states))) next
