-- The messages of a swapped machine are those of the machine before; and where it has too many states, it is one of too many.
use Rattle.std.proofs.Common.{◌≡◌, inl, inr, ℕ, zero, suc, ◌<◌, List, [], ◌∷◌, length, Option, Some, None, get_or, slice_get, refl, sym, ap, ◌∙◌, subst, arith}
use Rattle.std.proofs.lemmas.Bool.Decides.{eqb_tells}
use Rattle.std.proofs.lemmas.Option.{get_or_from_slice_get, none-some, same_Some, slice_get_within}
use Rattle.rs_graph.proofs.Growth.{at_in}
use Rattle.rs_improve.specs.Swaps.{Exchange_data, IsExchange, SwapsTo, SwapsToMoreThan, arms_to, state_before, state_to, swapped_state}
use Rattle.rs_improve.specs.declared.swaps.SwappedState.{SwappedState}
use Rattle.rs_improve.specs.declared.swaps.SwappedState.TheVariants.{New, Old}
use Rattle.rs_model.proofs.Lists.{item_at}
use Rattle.rs_model.specs.Data.{Machine_data}
use Rattle.rs_model.specs.declared.graph.Arm.{Arm}
use Rattle.rs_model.specs.declared.graph.Role.{Role}
use Rattle.rs_model.specs.declared.limits.TheConstants.{MOST_STATES}
use Rattle.rs_model.specs.declared.machines.State.{State}
use Rattle.rs_model.specs.declared.machines.State.TheVariants.{Done, Puts, Takes}

pub swapped_many : (machine swapped : Machine_data) → SwapsTo machine swapped → MOST_STATES < length swapped.states → SwapsToMoreThan machine MOST_STATES
swapped_many machine swapped s many =
    let w = s.is_swapped in
    record {
      exchange = s.exchange;
      least = s.least;
      found = w.found;
      once = w.discovery.once;
      each = λ x m. (let i = at_in w.found x m in w.discovery.reached i.0 x i.1);
      many = (let e = w.many in omega (arith, many, e));
    }

-- the machine sends to the peer, or takes from it, a message with the label of this arm
pub record SendsLike (machine : Machine_data) (peer : Role) (arm : Arm) : Type 0 where
  pub state : ℕ
  pub place : ℕ
  pub theirs : List Arm
  pub own : Arm
  pub stands : slice_get machine.states state ≡ Some (Puts peer theirs)
  pub at : slice_get theirs place ≡ Some own
  pub label : own.label ≡ arm.label

pub record TakesLike (machine : Machine_data) (peer : Role) (arm : Arm) : Type 0 where
  pub state : ℕ
  pub place : ℕ
  pub theirs : List Arm
  pub own : Arm
  pub stands : slice_get machine.states state ≡ Some (Takes peer theirs)
  pub at : slice_get theirs place ≡ Some own
  pub label : own.label ≡ arm.label

-- the machine does so with each message of the state
record SaysAll (machine : Machine_data) (state : State) : Type 0 where
  sends : (peer : Role) (arms : List Arm) (k : ℕ) (arm : Arm) → state ≡ Puts peer arms → slice_get arms k ≡ Some arm → SendsLike machine peer arm
  takes : (peer : Role) (arms : List Arm) (k : ℕ) (arm : Arm) → state ≡ Takes peer arms → slice_get arms k ≡ Some arm → TakesLike machine peer arm

stands_says : (machine : Machine_data) (n : ℕ) (state : State) → slice_get machine.states n ≡ Some state → SaysAll machine state
stands_says machine n state e = record {
  sends = λ peer arms k arm q at. record { state = n; place = k; theirs = arms; own = arm; stands = e ∙ ap Some q; at = at; label = refl };
  takes = λ peer arms k arm q at. record { state = n; place = k; theirs = arms; own = arm; stands = e ∙ ap Some q; at = at; label = refl };
}

done_says : (machine : Machine_data) → SaysAll machine Done
done_says machine = record { sends = λ peer arms k arm q at. absurd cc; takes = λ peer arms k arm q at. absurd cc }

past : (states : List State) (k : ℕ) → slice_get states k ≡ None → get_or states k Done ≡ Done
past [] k e = refl
past (y ∷ states) zero e = absurd (none-some y (sym e))
past (y ∷ states) (suc k) e = past states k e

before_says : (machine : Machine_data) (n : ℕ) → SaysAll machine (state_before machine n)
before_says machine n = go (slice_get machine.states n) refl
  where
    go : (o : Option State) → slice_get machine.states n ≡ o → SaysAll machine (state_before machine n)
    go None e = subst (SaysAll machine) (sym (past machine.states n e)) (done_says machine)
    go (Some state) e = subst (SaysAll machine) (sym (get_or_from_slice_get machine.states n state Done e)) (stands_says machine n state e)

all_say : (machine : Machine_data) (x : Exchange_data) (s : SwappedState) → IsExchange machine x → SaysAll machine (swapped_state machine x s)
all_say machine x (Old n) is = elim (eqb_tells n x.state) [
  | inl e ↦ rw e.0 (stands_says machine is.first.next (Puts x.to x.puts) is.sends)
  | inr e ↦ rw e.0 (before_says machine n)
]
all_say machine x (New n) is = stands_says machine x.state (Takes x.from x.takes) is.stands

-- an arm with another next state
record IsArmTo (arms : List Arm) (k : ℕ) (arm : Arm) : Type 0 where
  before : Arm
  stands : slice_get arms k ≡ Some before
  label : before.label ≡ arm.label

arm_to_at : (arms : List Arm) (row : List ℕ) (k : ℕ) (arm : Arm) → slice_get (arms_to arms row) k ≡ Some arm → IsArmTo arms k arm
arm_to_at [] row k arm e = absurd (none-some arm e)
arm_to_at (a ∷ arms) [] k arm e = absurd (none-some arm e)
arm_to_at (a ∷ arms) (n ∷ row) zero arm e =
    let same : record a { next = n } ≡ arm = same_Some (record a { next = n }) arm e in
    record { before = a; stands = refl; label = ap (λ (z : Arm). z.label) same }
arm_to_at (a ∷ arms) (n ∷ row) (suc k) arm e = let r = arm_to_at arms row k arm e in record { before = r.before; stands = r.stands; label = r.label }

says_to : (machine : Machine_data) (state : State) (row : List ℕ) → SaysAll machine state → SaysAll machine (state_to state row)
says_to machine Done row h = done_says machine
says_to machine (Puts to bs) row h = record {
  sends = λ peer arms k arm q at.
      let same : to ≡ peer = cc q in
      let arms_are : arms_to bs row ≡ arms = cc q in
      let r = arm_to_at bs row k arm (subst (λ (z : List Arm). slice_get z k ≡ Some arm) (sym arms_are) at) in
      let l = h.sends to bs k r.before refl r.stands in
      record {
        state = l.state;
        place = l.place;
        theirs = l.theirs;
        own = l.own;
        stands = subst (λ (z : Role). slice_get machine.states l.state ≡ Some (Puts z l.theirs)) same l.stands;
        at = l.at;
        label = l.label ∙ r.label;
      };
  takes = λ peer arms k arm q at. absurd (cc q);
}
says_to machine (Takes from bs) row h = record {
  sends = λ peer arms k arm q at. absurd (cc q);
  takes = λ peer arms k arm q at.
      let same : from ≡ peer = cc q in
      let arms_are : arms_to bs row ≡ arms = cc q in
      let r = arm_to_at bs row k arm (subst (λ (z : List Arm). slice_get z k ≡ Some arm) (sym arms_are) at) in
      let l = h.takes from bs k r.before refl r.stands in
      record {
        state = l.state;
        place = l.place;
        theirs = l.theirs;
        own = l.own;
        stands = subst (λ (z : Role). slice_get machine.states l.state ≡ Some (Takes z l.theirs)) same l.stands;
        at = l.at;
        label = l.label ∙ r.label;
      };
}

swapped_says : (machine swapped : Machine_data) → SwapsTo machine swapped → (n : ℕ) (state : State) → slice_get swapped.states n ≡ Some state → SaysAll machine state
swapped_says machine swapped s n state e =
    let w = s.is_swapped in
    let short = slice_get_within swapped.states n state e in
    let many = w.many in
    let all = w.discovery.all in
    let f = item_at w.found n (omega (arith, short, many)) in
    let r = item_at w.rows n (omega (arith, short, many, all)) in
    let is : state_to (swapped_state machine s.exchange f.0) r.0 ≡ state = same_Some (state_to (swapped_state machine s.exchange f.0) r.0) state (sym (w.each n f.0 r.0 f.1 r.1) ∙ e) in
    subst (SaysAll machine) is (says_to machine (swapped_state machine s.exchange f.0) r.0 (all_say machine s.exchange f.0 s.least.is_exchange))

-- each message of a swapped machine is one of the machine before
pub swapped_sends : (machine swapped : Machine_data) → SwapsTo machine swapped → (n k : ℕ) (peer : Role) (arms : List Arm) (arm : Arm) → slice_get swapped.states n ≡ Some (Puts peer arms)
    → slice_get arms k ≡ Some arm → SendsLike machine peer arm
swapped_sends machine swapped s n k peer arms arm there at = (swapped_says machine swapped s n (Puts peer arms) there).sends peer arms k arm refl at

pub swapped_takes : (machine swapped : Machine_data) → SwapsTo machine swapped → (n k : ℕ) (peer : Role) (arms : List Arm) (arm : Arm) → slice_get swapped.states n ≡ Some (Takes peer arms)
    → slice_get arms k ≡ Some arm → TakesLike machine peer arm
swapped_takes machine swapped s n k peer arms arm there at = (swapped_says machine swapped s n (Takes peer arms) there).takes peer arms k arm refl at
