-- The swap of a small machine.
use Rattle.std.proofs.Common.{◌≡◌, inl, inr, ℕ, List, [], ◌∷◌, refl, sym, ◌∙◌, subst, arith, zero, suc, Some, slice_get}
use Rattle.std.proofs.lemmas.Option.{none-some, same_Some}
use Rattle.rs_model.specs.declared.graph.Arm.{Arm}
use Rattle.rs_graph.specs.Discovery.{Begin, IsDiscovery, Reached, Step}
use Rattle.rs_graph.specs.Lists.{Among, ArePlacesOf}
use Rattle.rs_graph.specs.Order as order
use Rattle.rs_improve.specs.Examples.{receive_then, other_role, receives_first, sends_first, send_then}
use Rattle.rs_improve.specs.Swaps.{Exchange_data, IsLeastExchange, LeadsToSends, SwapsTo, state_to, swapped_nexts, swapped_state}
use Rattle.rs_improve.specs.declared.swaps.SwappedState.{SwappedState}
use Rattle.rs_improve.specs.declared.swaps.SwappedState.TheVariants.{New, Old}

-- its receive
abbrev exchange : Exchange_data
exchange = record { state = 0; from = other_role; takes = receive_then 1 ∷ []; to = other_role; puts = send_then 2 ∷ [] }

abbrev found : List SwappedState
found = Old 0 ∷ New 0 ∷ Old 2 ∷ []

abbrev rows : List (List ℕ)
rows = (1 ∷ []) ∷ (2 ∷ []) ∷ [] ∷ []

-- what holds at the three places
by_place : (P : ℕ → SwappedState → List ℕ → Type 0) → P 0 (Old 0) (1 ∷ []) → P 1 (New 0) (2 ∷ []) → P 2 (Old 2) [] → (k : ℕ) (s : SwappedState) (row : List ℕ) → slice_get found k ≡ Some s
    → slice_get rows k ≡ Some row → P k s row
by_place P a b c zero s row e f = subst (λ (z : List ℕ). P 0 s z) (same_Some (1 ∷ []) row f) (subst (λ (z : SwappedState). P 0 z (1 ∷ [])) (same_Some (Old 0) s e) a)
by_place P a b c (suc zero) s row e f = subst (λ (z : List ℕ). P 1 s z) (same_Some (2 ∷ []) row f) (subst (λ (z : SwappedState). P 1 z (2 ∷ [])) (same_Some (New 0) s e) b)
by_place P a b c (suc (suc zero)) s row e f = subst (λ (z : List ℕ). P 2 s z) (same_Some [] row f) (subst (λ (z : SwappedState). P 2 z []) (same_Some (Old 2) s e) c)
by_place P a b c (suc (suc (suc k))) s row e f = absurd (none-some s e)

-- each stands at one place
abbrev place : SwappedState → ℕ
place (Old zero) = 0
place (Old (suc n)) = 2
place (New n) = 1

at_place : (k : ℕ) (s : SwappedState) → slice_get found k ≡ Some s → k ≡ place s
at_place zero s e = subst (λ (z : SwappedState). 0 ≡ place z) (same_Some (Old 0) s e) refl
at_place (suc zero) s e = subst (λ (z : SwappedState). 1 ≡ place z) (same_Some (New 0) s e) refl
at_place (suc (suc zero)) s e = subst (λ (z : SwappedState). 2 ≡ place z) (same_Some (Old 2) s e) refl
at_place (suc (suc (suc k))) s e = absurd (none-some s e)

leads : (arm : Arm) → Among (receive_then 1 ∷ []) arm → LeadsToSends receives_first other_role (send_then 2 ∷ []) arm
leads arm (inl e) =
    subst (λ (z : Arm). LeadsToSends receives_first other_role (send_then 2 ∷ []) z) e (record { own = send_then 2 ∷ []; stands = refl; same = record { labels = refl; sorts = refl } })
leads arm (inr h) = absurd h

least : IsLeastExchange receives_first exchange
least = record {
  is_exchange = record { stands = refl; first = receive_then 1; begins = refl; sends = refl; each = leads };
  least = λ state lt s. (let bad : ⊥ = omega arith in bad);
}

reached : (n : ℕ) (s : SwappedState) → slice_get found n ≡ Some s → Reached (swapped_nexts receives_first exchange) (Old 0) s
reached zero s e = subst (λ (z : SwappedState). Reached (swapped_nexts receives_first exchange) (Old 0) z) (same_Some (Old 0) s e) Begin
reached (suc zero) s e = subst (λ (z : SwappedState). Reached (swapped_nexts receives_first exchange) (Old 0) z) (same_Some (New 0) s e) (Step (Old 0) (New 0) Begin (inl refl))
reached (suc (suc zero)) s e =
    subst (λ (z : SwappedState). Reached (swapped_nexts receives_first exchange) (Old 0) z) (same_Some (Old 2) s e)
    (Step (New 0) (Old 2) (Step (Old 0) (New 0) Begin (inl refl)) (inl refl))
reached (suc (suc (suc k))) s e = absurd (none-some s e)

discovery : IsDiscovery (swapped_nexts receives_first exchange) (Old 0) found rows
discovery = record {
  first = refl;
  once = λ i j s a b. at_place i s a ∙ sym (at_place j s b);
  all = refl;
  names = by_place (λ (k : ℕ) (s : SwappedState) (row : List ℕ). ArePlacesOf found row (swapped_nexts receives_first exchange s)) (refl, tt) (refl, tt) tt;
  reached = reached;
  order = order.Next 0 1 2 3 (1 ∷ []) ((2 ∷ []) ∷ [] ∷ []) (omega arith) (order.New 1 2 [] (order.NoMore 2))
      (order.Next 1 2 3 3 (2 ∷ []) ([] ∷ []) (omega arith) (order.New 2 3 [] (order.NoMore 3)) (order.Next 2 3 3 3 [] [] (omega arith) (order.NoMore 3) (order.AllDone 3 3)));
}

pub small_swap : SwapsTo receives_first sends_first
small_swap = record {
  exchange = exchange;
  least = least;
  is_swapped = record {
    role = refl;
    start = refl;
    found = found;
    rows = rows;
    discovery = discovery;
    many = refl;
    each = by_place (λ (k : ℕ) (s : SwappedState) (row : List ℕ). slice_get sends_first.states k ≡ Some (state_to (swapped_state receives_first exchange s) row)) refl refl refl;
  };
}
