-- What is written beside the states of a machine, state by state.
use Rattle.std.proofs.Common.{◌≡◌, ℕ, zero, suc, ◌<◌, ◌+◌, List, [], ◌∷◌, ◌++◌, take, drop, length, refl, sym, ap, ◌∙◌, append_assoc, arith}
use Rattle.rs_model.specs.Data.{Machine_data}
use Rattle.rs_model.specs.declared.machines.State.{State}
use Rattle.rs_pictures.specs.Machines.{state_puts_off, states_put_off}

from_here : (acts : ℕ → ℕ) (k n : ℕ) (states : List State) → n < length states
    → states_put_off acts k states ≡ states_put_off acts k (take n states) ++ (state_puts_off (k + n) (acts (k + n)) ++ states_put_off acts (suc (k + n)) (drop (suc n) states))
from_here acts k n [] low = absurd (omega (arith, low))
from_here acts k zero (x ∷ states) low = let same : k + 0 ≡ k = omega arith in rw same refl
from_here acts k (suc n) (x ∷ states) low =
    let same : suc k + n ≡ k + suc n = omega arith in
    ap (λ z. state_puts_off k (acts k) ++ z) (from_here acts (suc k) n states (omega (arith, low)))
    ∙ sym (append_assoc (state_puts_off k (acts k)) (states_put_off acts (suc k) (take n states))
    (state_puts_off (suc k + n) (acts (suc k + n)) ++ states_put_off acts (suc (suc k + n)) (drop (suc n) states)))
    ∙ ap (λ z. states_put_off acts k (take (suc n) (x ∷ states)) ++ (state_puts_off z (acts z) ++ states_put_off acts (suc z) (drop (suc n) states))) same

pub each_state : (acts : ℕ → ℕ) (m : Machine_data) (n : ℕ) → n < length m.states
    → states_put_off acts 0 m.states ≡ states_put_off acts 0 (take n m.states) ++ (state_puts_off n (acts n) ++ states_put_off acts (n + 1) (drop (n + 1) m.states))
each_state acts m n low =
    let same : 0 + n ≡ n = omega arith in
    let next : suc n ≡ n + 1 = omega arith in
    from_here acts 0 n m.states low
    ∙ ap (λ z. states_put_off acts 0 (take n m.states) ++ (state_puts_off z (acts z) ++ states_put_off acts (suc z) (drop (suc n) m.states))) same
    ∙ ap (λ z. states_put_off acts 0 (take n m.states) ++ (state_puts_off n (acts n) ++ states_put_off acts z (drop z m.states))) next
