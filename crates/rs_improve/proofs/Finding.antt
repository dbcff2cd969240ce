-- The states of a swapped machine are found and filed one by one.
use Rattle.std.proofs.Common.{◌≡◌, ◌≢◌, ◌⊎◌, inl, inr, ℕ, ◌<◌, ◌≤◌, List, [], ◌∷◌, ◌++◌, length, refl, sym, ap, ◌∙◌, subst, arith, zero, suc, Some, None, Option, slice_get, replicate, take}
use Rattle.std.proofs.Common.{length-append}
use Rattle.std.proofs.lemmas.Bool.Decides.{eqb_tells}
use Rattle.std.proofs.lemmas.Option.{none-some, same_Some}
use Rattle.rs_model.specs.Data.{Machine_data}
use Rattle.rs_model.specs.declared.machines.State.{State}
use Rattle.rs_graph.specs.Lists.{Among, ArePlacesOf}
use Rattle.rs_graph.specs.Naming.{Adds, AreNamed, Growing, Grown}
use Rattle.rs_graph.proofs.Growth.{at_in, at_short, at_within, grown_adds, growing_begin, growing_done, growing_large, growing_on, in_at, push_at, push_is, push_new}
use Rattle.rs_improve.specs.Swaps.{Exchange_data, IsLeastExchange, SwapsTo, SwapsToMoreThan, state_to, swapped_nexts, swapped_state}
use Rattle.rs_improve.specs.Swapping.{AreNumberedIn, HasSlot, number_slot}
use Rattle.rs_improve.specs.declared.swaps.SwappedState.{SwappedState}
use Rattle.rs_improve.specs.declared.swaps.SwappedState.TheVariants.{New, Old}

-- two states are the same or aren't
pub same_or_not : (s t : SwappedState) → (s ≡ t) ⊎ (s ≢ t)
same_or_not (Old n) (Old m) = elim (eqb_tells n m) [ inl e ↦ inl (ap Old e.1) | inr e ↦ inr (λ q. e.1 cc) ]
same_or_not (Old n) (New m) = inr (λ q. cc)
same_or_not (New n) (Old m) = inr (λ q. cc)
same_or_not (New n) (New m) = elim (eqb_tells n m) [ inl e ↦ inl (ap New e.1) | inr e ↦ inr (λ q. e.1 cc) ]

-- a state without a place isn't found
pub not_filed : (found : List SwappedState) (olds news : List (Option ℕ)) (s : SwappedState) → AreNumberedIn found olds news → number_slot olds news s ≡ Some None → Among found s → ⊥
not_filed found olds news s f e m =
    let i = at_in found s m in
    none-some i.0 (same_Some None (Some i.0) (sym e ∙ f.to i.0 s i.1))

-- one state more is filed
pub filed_on : (found new : List SwappedState) (olds news olds' news' : List (Option ℕ)) (s : SwappedState) (n : ℕ) → AreNumberedIn found olds news → number_slot olds news s ≡ Some None → new ≡ found ++ (s ∷ [])
    → n ≡ length found → number_slot olds' news' s ≡ Some (Some n) → ((t : SwappedState) → t ≢ s → number_slot olds' news' t ≡ number_slot olds news t) → AreNumberedIn new olds' news'
filed_on found new olds news olds' news' s n f e en el here others = rw en record {
  to = λ k t h. elim (push_is found s k t h) [
    | inl q ↦ others t (λ same. not_filed found olds news s f e (in_at found k s (q ∙ ap Some same))) ∙ f.to k t q
    | inr q ↦ subst (λ (z : SwappedState). number_slot olds' news' z ≡ Some (Some k)) q.1 (here ∙ ap (λ (z : ℕ). Some (Some z)) (el ∙ sym q.0))
  ];
  from = λ k t h. elim (same_or_not t s) [
    | inl q ↦ (let k' : n ≡ k = same_Some n k (same_Some (Some n) (Some k) (sym here ∙ subst (λ (z : SwappedState). number_slot olds' news' z ≡ Some (Some k)) q h)) in
        subst (λ (z : ℕ). slice_get (found ++ (s ∷ [])) z ≡ Some t) (sym el ∙ k') (push_new found s ∙ ap Some (sym q)))
    | inr q ↦ push_at found s k t (f.from k t (sym (others t q) ∙ h))
  ];
}

-- empty tables
pub filed_none : (olds news : List (Option ℕ)) (n m : ℕ) → olds ≡ replicate n None → news ≡ replicate m None → AreNumberedIn [] olds news
filed_none olds news n m eo en = record {
  to = λ k s h. absurd (none-some s h);
  from = λ k s h. absurd (none k s h);
}
  where
    no : (count x k : ℕ) → slice_get (replicate {A = Option ℕ} count None) x ≡ Some (Some k) → ⊥
    no zero x k h = none-some (Some k) h
    no (suc count) zero k h = none-some k (same_Some None (Some k) h)
    no (suc count) (suc x) k h = no count x k h

    none : (k : ℕ) (s : SwappedState) → number_slot olds news s ≡ Some (Some k) → ⊥
    none k (Old x) h = no n x k (subst (λ (z : List (Option ℕ)). slice_get z x ≡ Some (Some k)) eo h)
    none k (New x) h = no m x k (subst (λ (z : List (Option ℕ)). slice_get z x ≡ Some (Some k)) en h)

-- what is found has a place
pub found_has_slot : (found : List SwappedState) (olds news : List (Option ℕ)) (k : ℕ) (s : SwappedState) → AreNumberedIn found olds news → slice_get found k ≡ Some s → HasSlot (length olds) (length news) s
found_has_slot found olds news k (Old n) f h = at_short olds n (Some k) (f.to k (Old n) h)
found_has_slot found olds news k (New n) f h = at_short news n (Some k) (f.to k (New n) h)

among_take : (ys : List SwappedState) (i : ℕ) (x : SwappedState) → Among (take i ys) x → Among ys x
among_take [] zero x m = absurd m
among_take [] (suc i) x m = absurd m
among_take (y ∷ ys) zero x m = absurd m
among_take (y ∷ ys) (suc i) x (inl e) = inl e
among_take (y ∷ ys) (suc i) x (inr m) = inr (among_take ys i x m)

-- what grew by some of the states and one of them more grew by no others
pub grown_within : (old ys cur new : List SwappedState) (i : ℕ) (y : SwappedState) → slice_get ys i ≡ Some y → Grown old (take i ys) cur → Adds cur y new → Grown old ys new
grown_within old ys cur new i y e g adds = let more = grown_adds old (take i ys) cur y new g adds in record {
  once = more.once;
  only = λ n x h. elim (more.only n x h) [ inl a ↦ inl a | inr a ↦ inr (all x a) ];
  kept = more.kept;
}
  where
    either : (xs : List SwappedState) (x : SwappedState) → Among (xs ++ (y ∷ [])) x → Among xs x ⊎ (y ≡ x)
    either [] x (inl q) = inr q
    either [] x (inr q) = absurd q
    either (z ∷ xs) x (inl q) = inl (inl q)
    either (z ∷ xs) x (inr q) = elim (either xs x q) [ inl a ↦ inl (inr a) | inr a ↦ inr a ]

    all : (x : SwappedState) → Among (take i ys ++ (y ∷ [])) x → Among ys x
    all x m = elim (either (take i ys) x m) [ inl a ↦ among_take ys i x a | inr a ↦ subst (λ (z : SwappedState). Among ys z) a (in_at ys i y e) ]

-- the states of the first of those that are found
pub record AreMade (machine : Machine_data) (x : Exchange_data) (found : List SwappedState) (states : List State) : Type 0 where
  pub rows : List (List ℕ)
  pub growing : Growing (swapped_nexts machine x) (Old machine.start) found rows
  pub many : length states ≡ length rows
  pub each : (k : ℕ) (s : SwappedState) (row : List ℕ) → slice_get found k ≡ Some s → slice_get rows k ≡ Some row → slice_get states k ≡ Some (state_to (swapped_state machine x s) row)

pub made_none : (machine : Machine_data) (x : Exchange_data) (found : List SwappedState) (states : List State) → found ≡ Old machine.start ∷ [] → states ≡ [] → AreMade machine x found states
made_none machine x found states ef es = rw (ef, es) record {
  rows = [];
  growing = growing_begin (swapped_nexts machine x) (Old machine.start);
  many = refl;
  each = λ k s row a b. absurd (none-some row b);
}

pub made_on : (machine : Machine_data) (x : Exchange_data) (found new : List SwappedState) (states states' : List State) (s : SwappedState) (state : State) (row : List ℕ) → AreMade machine x found states
    → slice_get found (length states) ≡ Some s → AreNamed found (swapped_nexts machine x s) new row → state ≡ state_to (swapped_state machine x s) row → states' ≡ states ++ (state ∷ [])
    → AreMade machine x new states'
made_on machine x found new states states' s state row made here named is on = rw on record {
  rows = made.rows ++ (row ∷ []);
  growing = growing_on (swapped_nexts machine x) (Old machine.start) found made.rows s new row made.growing at named;
  many = (let a = length-append states (state ∷ []) in let b = length-append made.rows (row ∷ []) in let m = made.many in omega arith);
  each = λ k t r a b. elim (push_is made.rows row k r b) [
    | inl q ↦ (let short = at_short made.rows k r q in
        let t' = at_within found k (let l = made.growing.ahead in omega arith) in
        let same : t'.0 ≡ t = same_Some t'.0 t (sym (named.grown.kept k t'.0 t'.1) ∙ a) in
        push_at states state k (state_to (swapped_state machine x t) r) (made.each k t r (t'.1 ∙ ap Some same) q))
    | inr q ↦ (let same : s ≡ t = same_Some s t (sym (named.grown.kept (length made.rows) s at) ∙ ap (λ (z : ℕ). slice_get new z) (sym q.0) ∙ a) in
        let place : k ≡ length states = q.0 ∙ sym made.many in
        ap (λ (z : ℕ). slice_get (states ++ (state ∷ [])) z) place ∙ push_new states state
        ∙ ap Some (is ∙ ap (λ (z : SwappedState). state_to (swapped_state machine x z) row) same ∙ ap (λ (z : List ℕ). state_to (swapped_state machine x t) z) q.1))
  ];
}
  where
    at : slice_get found (length made.rows) ≡ Some s
    at = ap (λ (z : ℕ). slice_get found z) (sym made.many) ∙ here

pub made_all : (machine : Machine_data) (x : Exchange_data) (found : List SwappedState) (swapped : Machine_data) → IsLeastExchange machine x → AreMade machine x found swapped.states
    → length found ≤ length swapped.states → swapped.role ≡ machine.role → swapped.start ≡ 0 → SwapsTo machine swapped
made_all machine x found swapped least made all role start = record {
  exchange = x;
  least = least;
  is_swapped = record {
    role = role;
    start = start;
    found = found;
    rows = made.rows;
    discovery = growing_done (swapped_nexts machine x) (Old machine.start) found made.rows made.growing (let m = made.many in omega arith);
    many = (let m = made.many in let a = made.growing.ahead in omega arith);
    each = made.each;
  };
}

pub made_too_many : (machine : Machine_data) (x : Exchange_data) (found new : List SwappedState) (states : List State) (s : SwappedState) (limit : ℕ) → IsLeastExchange machine x → AreMade machine x found states
    → slice_get found (length states) ≡ Some s → Grown found (swapped_nexts machine x s) new → limit < length new → SwapsToMoreThan machine limit
made_too_many machine x found new states s limit least made here grown many =
    let more = growing_large (swapped_nexts machine x) (Old machine.start) found made.rows s limit new made.growing (ap (λ (z : ℕ). slice_get found z) (sym made.many) ∙ here) grown many in record {
      exchange = x;
      least = least;
      found = more.some;
      once = more.once;
      each = λ t m. (let i = at_in more.some t m in more.reached i.0 t i.1);
      many = more.many;
    }

pub first_state : (old new : List SwappedState) (s : SwappedState) (n : ℕ) → old ≡ [] → Adds old s new → slice_get new n ≡ Some s → new ≡ s ∷ []
first_state old new s n e (inl q) at' = absurd (none-some s (subst (λ (z : List SwappedState). slice_get z n ≡ Some s) (q ∙ e) at'))
first_state old new s n e (inr q) at' = q.1 ∙ ap (λ (z : List SwappedState). z ++ (s ∷ [])) e

pub names_length : (found : List SwappedState) (row : List ℕ) (ys : List SwappedState) → ArePlacesOf found row ys → length row ≡ length ys
names_length found [] [] h = refl
names_length found [] (y ∷ ys) h = absurd h
names_length found (n ∷ row) [] h = absurd h
names_length found (n ∷ row) (y ∷ ys) h = let r = names_length found row ys h.1 in omega arith

pub slot_in : (olds news olds' news' : ℕ) (s : SwappedState) → olds' ≡ olds → news' ≡ news → HasSlot olds news s → HasSlot olds' news' s
slot_in olds news olds' news' s eo en h = rw (eo, en) h
