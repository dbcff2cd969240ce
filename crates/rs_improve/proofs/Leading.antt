-- What the states of a swapped machine lead to.
use Rattle.std.proofs.Common.{◌≡◌, inl, inr, ℕ, ◌<◌, ◌+◌, List, [], ◌∷◌, ◌++◌, length, map, refl, sym, ap, ◌∙◌, subst, arith, zero, suc, Some, None, Option, slice_get, get_or, take}
use Rattle.std.proofs.lemmas.Bool.Decides.{eqb_tells}
use Rattle.std.proofs.lemmas.List.{length-map}
use Rattle.std.proofs.lemmas.Option.{none-some, same_Some}
use Rattle.rs_model.specs.Data.{Machine_data}
use Rattle.rs_model.specs.declared.graph.Arm.{Arm}
use Rattle.rs_model.specs.declared.machines.State.{State}
use Rattle.rs_model.specs.declared.machines.State.TheVariants.{Done, Puts, Takes}
use Rattle.rs_derive.specs.Derivations.{IsProper}
use Rattle.rs_graph.specs.Lists.{Among}
use Rattle.rs_graph.proofs.Buckets.{got}
use Rattle.rs_graph.proofs.Growth.{at_in, reads_at}
use Rattle.rs_improve.specs.Swaps.{Exchange_data, IsExchange, arms_of, arms_to, next_behind, arm_numbers, state_before, swapped_nexts, swapped_state}
use Rattle.rs_improve.specs.Swapping.{HasSlot}
use Rattle.rs_improve.specs.declared.swaps.SwappedState.{SwappedState}
use Rattle.rs_improve.specs.declared.swaps.SwappedState.TheVariants.{New, Old}

-- one arm more
pub arms_to_on : (arms : List Arm) (row : List ℕ) (i : ℕ) (a : Arm) (n : ℕ) → slice_get arms i ≡ Some a → slice_get row i ≡ Some n
    → arms_to (take (i + 1) arms) (take (i + 1) row) ≡ arms_to (take i arms) (take i row) ++ (record a { next = n } ∷ [])
arms_to_on [] row i a n e f = absurd (none-some a e)
arms_to_on (b ∷ arms) [] i a n e f = absurd (none-some n f)
arms_to_on (b ∷ arms) (m ∷ row) zero a n e f = let ea = same_Some b a e in let en = same_Some m n f in rw (ea, en) refl
arms_to_on (b ∷ arms) (m ∷ row) (suc i) a n e f =
    let k : suc i + 1 ≡ suc (i + 1) = omega arith in rw k (ap (λ (z : List Arm). record b { next = m } ∷ z) (arms_to_on arms row i a n e f))

pub numbers_on : (arms : List Arm) (n i m : ℕ) → i < length arms → m ≡ n + i → map New (arm_numbers n (take (i + 1) arms)) ≡ map New (arm_numbers n (take i arms)) ++ (New m ∷ [])
numbers_on [] n i m lt e = let bad : ⊥ = omega arith in absurd bad
numbers_on (a ∷ arms) n zero m lt e = let k : m ≡ n = omega arith in rw k refl
numbers_on (a ∷ arms) n (suc i) m lt e =
    let k : suc i + 1 ≡ suc (i + 1) = omega arith in rw k (ap (λ (z : List SwappedState). New n ∷ z) (numbers_on arms (n + 1) i m (omega arith) (omega arith)))

numbers_length : (n : ℕ) (arms : List Arm) → length (arm_numbers n arms) ≡ length arms
numbers_length n [] = refl
numbers_length n (a ∷ arms) = let r = numbers_length (n + 1) arms in omega arith

numbers_below : (n : ℕ) (arms : List Arm) (s : SwappedState) → Among (map New (arm_numbers n arms)) s → (k : ℕ) × (s ≡ New k) × (k < n + length arms)
numbers_below n [] s m = absurd m
numbers_below n (a ∷ arms) s (inl e) = (n, sym e, omega arith)
numbers_below n (a ∷ arms) s (inr m) = let r = numbers_below (n + 1) arms s m in (r.0, r.1, (let b = r.2 in omega arith))

-- the states of the machine before
pub before_is : (machine : Machine_data) (states : List State) (n : ℕ) (x : State) → states ≡ machine.states → n < length machine.states → x ≡ get_or states n x → x ≡ state_before machine n
before_is machine states n x em lt is =
    sym (got machine.states n x Done (reads_at machine.states n x x lt (subst (λ (z : List State). get_or z n x ≡ x) em (sym is))))

old_at : (arms : List Arm) (n : ℕ) (d : Arm) → n < length arms → get_or (map (λ (a : Arm). Old a.next) arms) n (Old 0) ≡ Old (get_or arms n d).next
old_at [] n d lt = let bad : ⊥ = omega arith in absurd bad
old_at (a ∷ arms) zero d lt = refl
old_at (a ∷ arms) (suc n) d lt = old_at arms n d (omega arith)

pub next_is : (machine : Machine_data) (n : ℕ) (arm : Arm) (arms : List Arm) (d : Arm) → arms ≡ arms_of (state_before machine arm.next) → n < length arms
    → Old (get_or arms n d).next ≡ next_behind machine n arm
next_is machine n arm arms d e lt = sym (old_at arms n d lt) ∙ ap (λ (z : List Arm). get_or (map (λ (a : Arm). Old a.next) z) n (Old 0)) e

-- the sends after an arm are as many as those that are put ahead
pub behind_long : (machine : Machine_data) (x : Exchange_data) (n : ℕ) → IsExchange machine x → n < length x.puts → (arm : Arm) → Among x.takes arm → n < length (arms_of (state_before machine arm.next))
behind_long machine x n ex lt arm m =
    let l = ex.each arm m in
    let e : state_before machine arm.next ≡ Puts x.to l.own = got machine.states arm.next (Puts x.to l.own) Done l.stands in
    let k : length l.own ≡ length x.puts
    = sym (length-map l.own (λ (a : Arm). a.label)) ∙ ap (λ z. length z) l.same.labels ∙ length-map x.puts (λ (a : Arm). a.label) in
    subst (λ (z : State). n < length (arms_of z)) (sym e) (omega arith)

-- there are as many as there are arms
pub nexts_length : (machine : Machine_data) (x : Exchange_data) (s : SwappedState) → length (swapped_nexts machine x s) ≡ length (arms_of (swapped_state machine x s))
nexts_length machine x (Old n) = elim (eqb_tells n x.state) [
  | inl e ↦ rw e.0 (length-map (arm_numbers 0 x.puts) New ∙ numbers_length 0 x.puts)
  | inr e ↦ rw e.0 (length-map (arms_of (state_before machine n)) (λ (a : Arm). Old a.next))
]
nexts_length machine x (New n) = length-map x.takes (next_behind machine n)

-- each has a place

old_within : (machine : Machine_data) → IsProper machine → (n : ℕ) (arm : Arm) → Among (arms_of (state_before machine n)) arm → arm.next < length machine.states
old_within machine w n arm m = at_state (slice_get machine.states n) refl
  where
    go : (x : State) → slice_get machine.states n ≡ Some x → Among (arms_of x) arm → arm.next < length machine.states
    go Done e k = absurd k
    go (Puts peer arms) e k = let i = at_in arms arm k in (w.1.puts n peer arms e).nexts i.0 arm i.1
    go (Takes peer arms) e k = let i = at_in arms arm k in (w.1.takes n peer arms e).nexts i.0 arm i.1

    at_state : (o : Option State) → slice_get machine.states n ≡ o → arm.next < length machine.states
    at_state None e = absurd (past machine.states n e m)
      where
        past : (states : List State) (k : ℕ) → slice_get states k ≡ None → Among (arms_of (get_or states k Done)) arm → ⊥
        past [] k q a = a
        past (y ∷ states) zero q a = none-some y (sym q)
        past (y ∷ states) (suc k) q a = past states k q a
    at_state (Some x) e = go x e (subst (λ (z : State). Among (arms_of z) arm) (got machine.states n x Done e) m)

olds_have_slots : (machine : Machine_data) (news : ℕ) (arms : List Arm) → ((arm : Arm) → Among arms arm → arm.next < length machine.states) → (s : SwappedState)
    → Among (map (λ (a : Arm). Old a.next) arms) s → HasSlot (length machine.states) news s
olds_have_slots machine news [] h s m = absurd m
olds_have_slots machine news (a ∷ arms) h s (inl e) = subst (λ (z : SwappedState). HasSlot (length machine.states) news z) e (h a (inl refl))
olds_have_slots machine news (a ∷ arms) h s (inr m) = olds_have_slots machine news arms (λ b k. h b (inr k)) s m

next_has_slot : (machine : Machine_data) → IsProper machine → (news n : ℕ) (arm : Arm) → HasSlot (length machine.states) news (next_behind machine n arm)
next_has_slot machine w news n arm = go (arms_of (state_before machine arm.next)) n (old_within machine w arm.next)
  where
    go : (arms : List Arm) (k : ℕ) → ((a : Arm) → Among arms a → a.next < length machine.states) → HasSlot (length machine.states) news (get_or (map (λ (a : Arm). Old a.next) arms) k (Old 0))
    go [] k h = (let s = w.1.start in omega arith)
    go (a ∷ arms) zero h = h a (inl refl)
    go (a ∷ arms) (suc k) h = go arms k (λ b m. h b (inr m))

behind_have_slots : (machine : Machine_data) → IsProper machine → (news n : ℕ) (arms : List Arm) (s : SwappedState) → Among (map (next_behind machine n) arms) s → HasSlot (length machine.states) news s
behind_have_slots machine w news n [] s m = absurd m
behind_have_slots machine w news n (a ∷ arms) s (inl e) = subst (λ (z : SwappedState). HasSlot (length machine.states) news z) e (next_has_slot machine w news n a)
behind_have_slots machine w news n (a ∷ arms) s (inr m) = behind_have_slots machine w news n arms s m

pub nexts_have_slots : (machine : Machine_data) (x : Exchange_data) (s : SwappedState) → IsProper machine → (t : SwappedState) → Among (swapped_nexts machine x s) t
    → HasSlot (length machine.states) (length x.puts) t
nexts_have_slots machine x (Old n) w t m = elim (eqb_tells n x.state) [
  | inl e ↦ (let r = numbers_below 0 x.puts t (rw e.0 at m) in subst (λ (z : SwappedState). HasSlot (length machine.states) (length x.puts) z) (sym r.1) (let b = r.2 in omega arith))
  | inr e ↦ olds_have_slots machine (length x.puts) (arms_of (state_before machine n)) (old_within machine w n) t (rw e.0 at m)
]
nexts_have_slots machine x (New n) w t m = behind_have_slots machine w (length x.puts) n x.takes t m
