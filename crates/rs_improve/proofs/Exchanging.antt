-- Which states can be swapped.
use Rattle.std.proofs.Common.{◌≡◌, ◌≢◌, inl, inr, ℕ, ◌<◌, ◌+◌, true, false, List, [], ◌∷◌, ◌++◌, length, map, refl, sym, ap, ◌∙◌, subst, arith, zero, suc, Some, None, Option, slice_get, get_or, take}
use Rattle.std.specs.Option.{is_some}
use Rattle.std.proofs.lemmas.Bool.{cases_lt, false≢true}
use Rattle.std.proofs.lemmas.Option.{same_Some}
use Rattle.rs_model.specs.Data.{Machine_data}
use Rattle.rs_model.specs.declared.graph.Arm.{Arm}
use Rattle.rs_model.specs.declared.graph.Role.{Role}
use Rattle.rs_model.specs.declared.machines.State.{State}
use Rattle.rs_model.specs.declared.machines.State.TheVariants.{Puts, Takes}
use Rattle.rs_derive.specs.Derivations.{IsProper}
use Rattle.rs_graph.specs.Lists.{Among}
use Rattle.rs_graph.proofs.Growth.{at_in, at_short, reads_at, take_on}
use Rattle.rs_improve.specs.Swaps.{Exchange_data, IsSwappable, LeadsToSends}
use Rattle.rs_improve.specs.Swapping.{IsExchangeAt, IsLeastIn}

-- items of equal lists after a function
pub map_same_at : {X : Type 0} (f : Arm → X) (xs ys : List Arm) (i : ℕ) (d e : Arm) → map f xs ≡ map f ys → i < length xs → f (get_or xs i d) ≡ f (get_or ys i e)
map_same_at f [] ys i d e h lt = let bad : ⊥ = omega arith in absurd bad
map_same_at f (x ∷ xs) [] i d e h lt = absurd cc
map_same_at f (x ∷ xs) (y ∷ ys) zero d e h lt = cc
map_same_at f (x ∷ xs) (y ∷ ys) (suc i) d e h lt = (let k : map f xs ≡ map f ys = cc in map_same_at f xs ys i d e k (omega arith))

map_append : {X : Type 0} (f : Arm → X) (xs : List Arm) (x : Arm) → map f (xs ++ (x ∷ [])) ≡ map f xs ++ (f x ∷ [])
map_append f [] x = refl
map_append {X = X} f (y ∷ xs) x = ap (λ (z : List X). f y ∷ z) (map_append f xs x)

pub map_next : {X : Type 0} (f : Arm → X) (xs : List Arm) (i : ℕ) (d : Arm) → i < length xs → map f (take (i + 1) xs) ≡ map f (take i xs) ++ (f (get_or xs i d) ∷ [])
map_next f xs i d lt = ap (λ (z : List Arm). map f z) (take_on xs i (get_or xs i d) (reads_at xs i (get_or xs i d) d lt refl)) ∙ map_append f (take i xs) (get_or xs i d)

pub map_same_next : {X : Type 0} (f : Arm → X) (xs ys : List Arm) (i : ℕ) (d : Arm) → i < length xs → i < length ys → map f (take i xs) ≡ map f (take i ys) → f (get_or xs i d) ≡ f (get_or ys i d)
    → map f (take (i + 1) xs) ≡ map f (take (i + 1) ys)
map_same_next {X = X} f xs ys i d lx ly h e =
    map_next f xs i d lx ∙ ap (λ (z : List X). z ++ (f (get_or xs i d) ∷ [])) h ∙ ap (λ (z : X). map f (take i ys) ++ (z ∷ [])) e ∙ sym (map_next f ys i d ly)

-- an arm of a receive leads to a state
pub taken_within : (machine : Machine_data) (state : ℕ) (from : Role) (takes : List Arm) → IsProper machine → slice_get machine.states state ≡ Some (Takes from takes) → (arm : Arm) → Among takes arm
    → arm.next < length machine.states
taken_within machine state from takes w e arm m = let i = at_in takes arm m in (w.1.takes state from takes e).nexts i.0 arm i.1

-- a state that was read
pub puts_at : (machine : Machine_data) (states : List State) (n : ℕ) (x : State) (to : Role) (arms puts : List Arm) → states ≡ machine.states → n < length machine.states → x ≡ get_or states n x
    → x ≡ Puts to arms → puts ≡ arms → slice_get machine.states n ≡ Some (Puts to puts)
puts_at machine states n x to arms puts em lt is e ep =
    reads_at machine.states n x x lt (subst (λ (z : List State). get_or z n x ≡ x) em (sym is)) ∙ ap Some e ∙ ap (λ (z : List Arm). Some (Puts to z)) (sym ep)

-- what all arms of a state lead to that can be swapped
pub swappable_sends : (machine : Machine_data) (state : ℕ) (from : Role) (takes : List Arm) (first : Arm) → slice_get machine.states state ≡ Some (Takes from takes) → slice_get takes 0 ≡ Some first
    → IsSwappable machine state
    → (to : Role) × (puts : List Arm) × (slice_get machine.states first.next ≡ Some (Puts to puts)) × ((arm : Arm) → Among takes arm → LeadsToSends machine to puts arm)
swappable_sends machine state from takes first e f s =
    let x = s.0 in
    let ex = s.1 in
    let same : Takes x.from x.takes ≡ Takes from takes
    = same_Some (Takes x.from x.takes) (Takes from takes) (sym ex.stands ∙ ap (λ (z : ℕ). slice_get machine.states z) s.2 ∙ e) in
    let et : x.takes ≡ takes = cc (same) in
    let ef : ex.first ≡ first = same_Some ex.first first (sym ex.begins ∙ ap (λ (z : List Arm). slice_get z 0) et ∙ f) in
    (x.to, x.puts, ap (λ (z : Arm). slice_get machine.states z.next) (sym ef) ∙ ex.sends, λ arm m. ex.each arm (subst (λ (z : List Arm). Among z arm) (sym et) m))

pub swappable_leads : (machine : Machine_data) (state : ℕ) (from : Role) (takes : List Arm) (first : Arm) (to : Role) (puts : List Arm) → slice_get machine.states state ≡ Some (Takes from takes)
    → slice_get takes 0 ≡ Some first → slice_get machine.states first.next ≡ Some (Puts to puts) → IsSwappable machine state
    → (arm : Arm) → Among takes arm → LeadsToSends machine to puts arm
swappable_leads machine state from takes first to puts e f p s =
    let h = swappable_sends machine state from takes first e f s in
    let same : Puts h.0 h.1 ≡ Puts to puts = same_Some (Puts h.0 h.1) (Puts to puts) (sym h.2 ∙ p) in
    let et : h.0 ≡ to = cc (same) in
    let ep : h.1 ≡ puts = cc (same) in
    λ arm m. subst (λ (z : Role). LeadsToSends machine z puts arm) et (subst (λ (z : List Arm). LeadsToSends machine h.0 z arm) ep (h.3 arm m))

pub no_sends : (machine : Machine_data) (states : List State) (state : ℕ) (from : Role) (takes : List Arm) (first : Arm) (x : State) → slice_get machine.states state ≡ Some (Takes from takes)
    → slice_get takes 0 ≡ Some first → states ≡ machine.states → first.next < length machine.states → x ≡ get_or states first.next x → ((to : Role) (puts : List Arm) → x ≡ Puts to puts → ⊥)
    → IsSwappable machine state → ⊥
no_sends machine states state from takes first x e f em lt is other s =
    let h = swappable_sends machine state from takes first e f s in
    other h.0 h.1 (same_Some x (Puts h.0 h.1) (sym (reads_at machine.states first.next x x lt (subst (λ (z : List State). get_or z first.next x ≡ x) em (sym is))) ∙ h.2))

-- a state that doesn't receive
pub no_takes : (machine : Machine_data) (state : ℕ) (x : State) → slice_get machine.states state ≡ Some x → ((from : Role) (takes : List Arm) → x ≡ Takes from takes → ⊥) → IsSwappable machine state → ⊥
no_takes machine state x e other s =
    other s.0.from s.0.takes (same_Some x (Takes s.0.from s.0.takes) (sym e ∙ ap (λ (z : ℕ). slice_get machine.states z) (sym s.2) ∙ s.1.stands))

-- the first that is found is the least
pub least_here : (machine : Machine_data) (state : ℕ) (r : Option Exchange_data) → IsExchangeAt machine state r → true ≡ is_some r → ((s : ℕ) → s < state → IsSwappable machine s → ⊥)
    → IsLeastIn machine r
least_here machine state None h e l = absurd (false≢true (sym e))
least_here machine state (Some x) h e l = record { is_exchange = h.0; least = λ s lt. l s (subst (λ (z : ℕ). s < z) h.1 lt) }

pub none_here : (machine : Machine_data) (state : ℕ) (r : Option Exchange_data) → IsExchangeAt machine state r → false ≡ is_some r → ((s : ℕ) → s < state → IsSwappable machine s → ⊥)
    → (s : ℕ) → s < state + 1 → IsSwappable machine s → ⊥
none_here machine state None h e l s lt x = elim (cases_lt s state) [
  | inl a ↦ l s a x
  | inr b ↦ (let q : s ≡ state = omega arith in h (subst (λ (z : ℕ). IsSwappable machine z) q x))
]
none_here machine state (Some y) h e l s lt x = absurd (false≢true e)

-- a receive has an arm
pub taken_some : (machine : Machine_data) (state : ℕ) (from : Role) (takes : List Arm) → IsProper machine → slice_get machine.states state ≡ Some (Takes from takes) → 0 < length takes
taken_some machine state from takes w e = go takes (w.1.takes state from takes e).some
  where
    go : (arms : List Arm) → arms ≢ [] → 0 < length arms
    go [] ne = absurd (ne refl)
    go (a ∷ arms) ne = omega arith

pub swappable_within : (machine : Machine_data) (state : ℕ) → IsSwappable machine state → state < length machine.states
swappable_within machine state s = at_short machine.states state (Takes s.0.from s.0.takes) (ap (λ (z : ℕ). slice_get machine.states z) (sym s.2) ∙ s.1.stands)
