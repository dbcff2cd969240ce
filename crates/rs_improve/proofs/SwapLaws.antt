-- A machine swaps to one machine at most, and a well-formed one to one that is well formed.
use Rattle.std.proofs.Common.{◌≡◌, ◌≢◌, inl, inr, ℕ, ◌<◌, ◌≤◌, List, [], ◌∷◌, length, refl, sym, ap, ◌∙◌, subst, arith, zero, suc, Some, None, Option, slice_get, get_or}
use Rattle.std.proofs.lemmas.Bool.{cases_lt}
use Rattle.std.proofs.lemmas.Bool.Decides.{eqb_tells}
use Rattle.std.proofs.lemmas.Option.{none-some, same_Some}
use Rattle.rs_model.specs.Data.{Machine_data}
use Rattle.rs_model.specs.WellFormed.{IsWellFormedMachine, StateFits}
use Rattle.rs_model.specs.declared.graph.Arm.{Arm}
use Rattle.rs_model.specs.declared.graph.Role.{Role}
use Rattle.rs_model.specs.declared.machines.State.{State}
use Rattle.rs_model.specs.declared.machines.State.TheVariants.{Done, Puts, Takes}
use Rattle.rs_derive.specs.Derivations.{IsProper}
use Rattle.rs_graph.specs.Lists.{ArePlacesOf}
use Rattle.rs_graph.specs.Naming.{MoreThan}
use Rattle.rs_graph.proofs.Buckets.{got}
use Rattle.rs_graph.proofs.Growth.{at_in, at_short, at_within, in_at, not_both}
use Rattle.rs_improve.specs.Swaps.{Exchange_data, HasNoExchange, IsExchange, IsLeastExchange, IsSwapped, SwapsTo, SwapsToMoreThan, arms_of, arms_to, state_before, state_to, swapped_nexts, swapped_state}
use Rattle.rs_improve.specs.declared.swaps.SwappedState.{SwappedState}
use Rattle.rs_improve.specs.declared.swaps.SwappedState.TheVariants.{New, Old}
use Rattle.rs_improve.proofs.Discovered.{one_discovery, same_list}
use Rattle.rs_improve.proofs.Finding.{names_length}
use Rattle.rs_improve.proofs.Leading.{nexts_length}

-- one exchange

same_least : (machine : Machine_data) (x y : Exchange_data) → IsLeastExchange machine x → IsLeastExchange machine y → x.state < y.state → ⊥
same_least machine x y lx ly lt = ly.least x.state lt (x, lx.is_exchange, refl)

one_exchange : (machine : Machine_data) (x y : Exchange_data) → IsLeastExchange machine x → IsLeastExchange machine y → x ≡ y
one_exchange machine x y lx ly = make state from takes to puts
  where
    ex : IsExchange machine x
    ex = lx.is_exchange

    ey : IsExchange machine y
    ey = ly.is_exchange

    state : x.state ≡ y.state
    state = elim (cases_lt x.state y.state) [
      | inl a ↦ absurd (same_least machine x y lx ly a)
      | inr a ↦ elim (cases_lt y.state x.state) [ inl b ↦ absurd (same_least machine y x ly lx b) | inr b ↦ omega arith ]
    ]

    takers : Takes x.from x.takes ≡ Takes y.from y.takes
    takers = same_Some (Takes x.from x.takes) (Takes y.from y.takes) (sym ex.stands ∙ ap (λ (z : ℕ). slice_get machine.states z) state ∙ ey.stands)

    from : x.from ≡ y.from
    from = cc (takers)

    takes : x.takes ≡ y.takes
    takes = cc (takers)

    first : ex.first ≡ ey.first
    first = same_Some ex.first ey.first (sym ex.begins ∙ ap (λ (z : List Arm). slice_get z 0) takes ∙ ey.begins)

    putters : Puts x.to x.puts ≡ Puts y.to y.puts
    putters = same_Some (Puts x.to x.puts) (Puts y.to y.puts) (sym ex.sends ∙ ap (λ (z : Arm). slice_get machine.states z.next) first ∙ ey.sends)

    to : x.to ≡ y.to
    to = cc (putters)

    puts : x.puts ≡ y.puts
    puts = cc (putters)

    make : x.state ≡ y.state → x.from ≡ y.from → x.takes ≡ y.takes → x.to ≡ y.to → x.puts ≡ y.puts → x ≡ y
    make a b c d e = rw (a, b, c, d, e) refl

-- one machine

one_by : (machine : Machine_data) (x : Exchange_data) (a b : Machine_data) → IsSwapped machine x a → IsSwapped machine x b → a ≡ b
one_by machine x a b s t = make (s.role ∙ sym t.role) (s.start ∙ sym t.start) states
  where
    same : (s.found ≡ t.found) × (s.rows ≡ t.rows)
    same = one_discovery (swapped_nexts machine x) (Old machine.start) s.found t.found s.rows t.rows s.discovery t.discovery

    each : (i : ℕ) → i < length a.states → slice_get a.states i ≡ slice_get b.states i
    each i lt =
        let f = at_within s.found i (let m = s.many in omega arith) in
        let r = at_within s.rows i (let m = s.many in let d = s.discovery.all in omega arith) in
        s.each i f.0 r.0 f.1 r.1
        ∙ sym (t.each i f.0 r.0 (ap (λ (z : List SwappedState). slice_get z i) (sym same.0) ∙ f.1) (ap (λ (z : List (List ℕ)). slice_get z i) (sym same.1) ∙ r.1))

    states : a.states ≡ b.states
    states = same_list a.states b.states (s.many ∙ ap (λ (z : List SwappedState). length z) same.0 ∙ sym t.many) each

    make : a.role ≡ b.role → a.start ≡ b.start → a.states ≡ b.states → a ≡ b
    make p q r = rw (p, q, r) refl

pub one_swapped : (machine a b : Machine_data) → SwapsTo machine a → SwapsTo machine b → a ≡ b
one_swapped machine a b s t =
    one_by machine t.exchange a b (subst (λ (z : Exchange_data). IsSwapped machine z a) (one_exchange machine s.exchange t.exchange s.least t.least) s.is_swapped) t.is_swapped

-- a swap is neither none nor too large a one

pub swaps_or_not : (machine a : Machine_data) → SwapsTo machine a → HasNoExchange machine → ⊥
swaps_or_not machine a s n = n s.exchange.state (s.exchange, s.least.is_exchange, refl)

pub more_or_not : (machine : Machine_data) (limit : ℕ) → SwapsToMoreThan machine limit → HasNoExchange machine → ⊥
more_or_not machine limit m n = n m.exchange.state (m.exchange, m.least.is_exchange, refl)

pub swaps_or_more : (machine a : Machine_data) (limit : ℕ) → SwapsTo machine a → length a.states ≤ limit → SwapsToMoreThan machine limit → ⊥
swaps_or_more machine a limit s few m =
    not_both (swapped_nexts machine s.exchange) (Old machine.start) s.is_swapped.found s.is_swapped.rows limit s.is_swapped.discovery (let k = s.is_swapped.many in omega arith)
    (subst (λ (z : Exchange_data). MoreThan limit (swapped_nexts machine z) (Old machine.start)) (one_exchange machine m.exchange s.exchange m.least s.least)
    record { some = m.found; once = m.once; reached = λ i t e. m.each t (in_at m.found i t e); many = m.many })

pub swaps_if_larger : (machine a : Machine_data) (limit : ℕ) → SwapsTo machine a → limit < length a.states → SwapsToMoreThan machine limit
swaps_if_larger machine a limit s many = record {
  exchange = s.exchange;
  least = s.least;
  found = s.is_swapped.found;
  once = s.is_swapped.discovery.once;
  each = λ t m. (let i = at_in s.is_swapped.found t m in s.is_swapped.discovery.reached i.0 t i.1);
  many = (let k = s.is_swapped.many in omega arith);
}

-- a well-formed machine swaps to such a one

-- an arm that was given a next state
record IsArmTo (arms : List Arm) (row : List ℕ) (i : ℕ) (arm : Arm) : Type 0 where
  pub before : Arm
  pub stands : slice_get arms i ≡ Some before
  pub label : arm.label ≡ before.label
  pub sort : arm.sort ≡ before.sort
  pub next : slice_get row i ≡ Some arm.next

arm_to_at : (arms : List Arm) (row : List ℕ) (i : ℕ) (arm : Arm) → slice_get (arms_to arms row) i ≡ Some arm → IsArmTo arms row i arm
arm_to_at [] row i arm e = absurd (none-some arm e)
arm_to_at (a ∷ arms) [] i arm e = absurd (none-some arm e)
arm_to_at (a ∷ arms) (n ∷ row) zero arm e =
    let same : record a { next = n } ≡ arm = same_Some (record a { next = n }) arm e in
    record { before = a; stands = refl; label = ap (λ (z : Arm). z.label) (sym same); sort = ap (λ (z : Arm). z.sort) (sym same); next = ap (λ (z : Arm). Some z.next) same }
arm_to_at (a ∷ arms) (n ∷ row) (suc i) arm e = let r = arm_to_at arms row i arm e in record { before = r.before; stands = r.stands; label = r.label; sort = r.sort; next = r.next }

arms_to_some : (arms : List Arm) (row : List ℕ) → arms ≢ [] → length row ≡ length arms → arms_to arms row ≢ []
arms_to_some [] row ne l e = ne refl
arms_to_some (a ∷ arms) [] ne l e = let bad : ⊥ = omega arith in bad
arms_to_some (a ∷ arms) (n ∷ row) ne l e = absurd cc

-- the arms of a right state, given next states of the swapped machine
fits_to : (machine swapped : Machine_data) (roles : ℕ) (peer : Role) (arms : List Arm) (row : List ℕ) → swapped.role ≡ machine.role → StateFits machine roles peer arms → length row ≡ length arms
    → ((i n : ℕ) → slice_get row i ≡ Some n → n < length swapped.states) → StateFits swapped roles peer (arms_to arms row)
fits_to machine swapped roles peer arms row role f l within = record {
  some = arms_to_some arms row f.some l;
  other = λ e. f.other (e ∙ role);
  known = f.known;
  once = λ i j a b ei ej e. (let p = arm_to_at arms row i a ei in let q = arm_to_at arms row j b ej in f.once i j p.before q.before p.stands q.stands (sym p.label ∙ e ∙ q.label));
  nexts = λ i a e. within i a.next (arm_to_at arms row i a e).next;
}

names_within : (found : List SwappedState) (row : List ℕ) (ys : List SwappedState) → ArePlacesOf found row ys → (i n : ℕ) → slice_get row i ≡ Some n → n < length found
names_within found [] ys h i n e = absurd (none-some n e)
names_within found (m ∷ row) [] h i n e = absurd h
names_within found (m ∷ row) (y ∷ ys) h zero n e = let same : m ≡ n = same_Some m n e in subst (λ (z : ℕ). z < length found) same (at_short found m y h.0)
names_within found (m ∷ row) (y ∷ ys) h (suc i) n e = names_within found row ys h.1 i n e

-- the state is right in the machine
abbrev Right : Machine_data → ℕ → State → Type 0
Right machine roles st = ((peer : Role) (arms : List Arm) → st ≡ Puts peer arms → StateFits machine roles peer arms)
    × ((peer : Role) (arms : List Arm) → st ≡ Takes peer arms → StateFits machine roles peer arms)

stands_right : (machine : Machine_data) (roles n : ℕ) (st : State) → IsWellFormedMachine machine roles → slice_get machine.states n ≡ Some st → Right machine roles st
stands_right machine roles n st w e = ((λ peer arms q. w.puts n peer arms (e ∙ ap Some q)), (λ peer arms q. w.takes n peer arms (e ∙ ap Some q)))

done_right : (machine : Machine_data) (roles : ℕ) → Right machine roles Done
done_right machine roles = ((λ peer arms q. absurd cc), (λ peer arms q. absurd cc))

before_right : (machine : Machine_data) (roles n : ℕ) → IsWellFormedMachine machine roles → Right machine roles (state_before machine n)
before_right machine roles n w = go (slice_get machine.states n) refl
  where
    past : (states : List State) (k : ℕ) → slice_get states k ≡ None → get_or states k Done ≡ Done
    past [] k q = refl
    past (y ∷ states) zero q = absurd (none-some y (sym q))
    past (y ∷ states) (suc k) q = past states k q

    go : (o : Option State) → slice_get machine.states n ≡ o → Right machine roles (state_before machine n)
    go None q = subst (λ (z : State). Right machine roles z) (sym (past machine.states n q)) (done_right machine roles)
    go (Some st) q = subst (λ (z : State). Right machine roles z) (sym (got machine.states n st Done q)) (stands_right machine roles n st w q)

all_right : (machine : Machine_data) (roles : ℕ) (x : Exchange_data) (t : SwappedState) → IsWellFormedMachine machine roles → IsExchange machine x → Right machine roles (swapped_state machine x t)
all_right machine roles x (Old n) w ex = elim (eqb_tells n x.state) [
  | inl e ↦ rw e.0 (stands_right machine roles ex.first.next (Puts x.to x.puts) w ex.sends)
  | inr e ↦ rw e.0 (before_right machine roles n w)
]
all_right machine roles x (New n) w ex = stands_right machine roles x.state (Takes x.from x.takes) w ex.stands

-- and so it is in the swapped machine with its next states there
right_to : (machine swapped : Machine_data) (roles : ℕ) (st : State) (row : List ℕ) (st' : State) → swapped.role ≡ machine.role → Right machine roles st → length row ≡ length (arms_of st)
    → ((i n : ℕ) → slice_get row i ≡ Some n → n < length swapped.states) → state_to st row ≡ st' → Right swapped roles st'
right_to machine swapped roles Done row st' role r l within e = subst (λ (z : State). Right swapped roles z) e (done_right swapped roles)
right_to machine swapped roles (Puts q bs) row st' role r l within e =
    let f = fits_to machine swapped roles q bs row role (r.0 q bs refl) l within in
    subst (λ (z : State). Right swapped roles z) e (
      (λ peer arms k. let p : q ≡ peer = cc (k) in let a : arms_to bs row ≡ arms = cc (k) in
          subst (λ (z : Role). StateFits swapped roles z arms) p (subst (λ (z : List Arm). StateFits swapped roles q z) a f)),
      (λ peer arms k. absurd cc),
    )
right_to machine swapped roles (Takes q bs) row st' role r l within e =
    let f = fits_to machine swapped roles q bs row role (r.1 q bs refl) l within in
    subst (λ (z : State). Right swapped roles z) e (
      (λ peer arms k. absurd cc),
      (λ peer arms k. let p : q ≡ peer = cc (k) in let a : arms_to bs row ≡ arms = cc (k) in
          subst (λ (z : Role). StateFits swapped roles z arms) p (subst (λ (z : List Arm). StateFits swapped roles q z) a f)),
    )

swapped_right : (machine swapped : Machine_data) (roles : ℕ) → IsWellFormedMachine machine roles → SwapsTo machine swapped → (n : ℕ) (st : State) → slice_get swapped.states n ≡ Some st
    → Right swapped roles st
swapped_right machine swapped roles w s n st e =
    let sw = s.is_swapped in
    let short = at_short swapped.states n st e in
    let f = at_within sw.found n (let m = sw.many in omega arith) in
    let r = at_within sw.rows n (let m = sw.many in let d = sw.discovery.all in omega arith) in
    let names = sw.discovery.names n f.0 r.0 f.1 r.1 in
    right_to machine swapped roles (swapped_state machine s.exchange f.0) r.0 st sw.role (all_right machine roles s.exchange f.0 w s.least.is_exchange)
    (names_length sw.found r.0 (swapped_nexts machine s.exchange f.0) names ∙ nexts_length machine s.exchange f.0)
    (λ i k q. let b = names_within sw.found r.0 (swapped_nexts machine s.exchange f.0) names i k q in let m = sw.many in omega arith)
    (same_Some (state_to (swapped_state machine s.exchange f.0) r.0) st (sym (sw.each n f.0 r.0 f.1 r.1) ∙ e))

pub swapped_well_formed : (machine swapped : Machine_data) (roles : ℕ) → IsWellFormedMachine machine roles → SwapsTo machine swapped → IsWellFormedMachine swapped roles
swapped_well_formed machine swapped roles w s = record {
  role = subst (λ (z : Role). z.0 < roles) (sym s.is_swapped.role) w.role;
  start = (let z = s.is_swapped.start in let k = at_short s.is_swapped.found 0 (Old machine.start) s.is_swapped.discovery.first in let m = s.is_swapped.many in omega arith);
  puts = λ n peer arms e. (swapped_right machine swapped roles w s n (Puts peer arms) e).0 peer arms refl;
  takes = λ n peer arms e. (swapped_right machine swapped roles w s n (Takes peer arms) e).1 peer arms refl;
}

pub swapped_proper : (machine swapped : Machine_data) → IsProper machine → SwapsTo machine swapped → IsProper swapped
swapped_proper machine swapped w s = (w.0, swapped_well_formed machine swapped w.0 w.1 s)
