-- What a role that can go on does next: it sends by its first arm, or it takes the oldest message, which one of its arms
-- fits.
use Rattle.std.proofs.Common.{◌≡◌, ◌≢◌, ℕ, suc, List, [], ◌∷◌, ◌++◌, Some, slice_get, refl, sym, ◌∙◌}
use Rattle.rs_model.specs.Data.{Machine_data}
use Rattle.rs_model.specs.Sorts.{HasSort}
use Rattle.rs_model.specs.declared.graph.Arm.{Arm}
use Rattle.rs_model.specs.declared.graph.Role.{Role}
use Rattle.rs_model.specs.declared.machines.State.TheVariants.{Puts, Takes}
use Rattle.rs_model.specs.declared.values.Value.{Value}
use Rattle.rs_model.specs.Values.{empty_value}
use Rattle.rs_model.proofs.EmptyValues.{empty_fits}
use Rattle.rs_core.specs.declared.messages.Message.{Message}
use Rattle.rs_core.specs.Configurations.{Configuration, Sends, Receives, state_at}
use Rattle.rs_core.proofs.Items.{entry, sends, Fits}
use Rattle.rs_core.proofs.Moves.{after_send, after_receive, send_step, receive_step}
use Rattle.rs_core.proofs.Stands.{Known, Stands, Peered, machine_at, within, next_get, head_fits}

-- a send by the first arm
pub record FirstSend (ms : List Machine_data) (c : Configuration) (p : ℕ) (q : Role) : Type 0 where
  pub to : Configuration
  pub value' : Value
  pub step : Sends ms c p 0 value' to
  pub peer : step.peer ≡ q

pub first_send : (ms : List Machine_data) (c : Configuration) (p : ℕ) (q : Role) (arms : List Arm)
    → state_at ms c p ≡ Some (Puts q arms) → arms ≢ [] → FirstSend ms c p q
first_send ms c p q [] h ne = absurd (ne refl)
first_send ms c p q (x ∷ xs) h ne =
    let to : Configuration = after_send c p q x (empty_value x.sort) in
    let st : Sends ms c p 0 (empty_value x.sort) to = send_step ms c p 0 (empty_value x.sort) q (x ∷ xs) x h refl (empty_fits x.sort) in
    let same : Some (Puts st.peer st.arms) ≡ Some (Puts q (x ∷ xs)) = sym st.puts ∙ h in
    record { to = to; value' = empty_value x.sort; step = st; peer = cc (same) }

-- the oldest message of a queue fits an arm of the state that takes it
pub record Fitting (arms : List Arm) (m : Message) : Type 0 where
  pub place : ℕ
  pub arm : Arm
  pub stands : slice_get arms place ≡ Some arm
  pub same_label : arm.label ≡ m.label
  pub has : HasSort m.value arm.sort

pub takes_fit : (ms : List Machine_data) (W : Known) (done : ℕ → ℕ) (f : ℕ → ℕ → ℕ) (n : ℕ) (c : Configuration) (s : Stands ms W done f (suc n) c) (p : ℕ) (q : Role) (arms : List Arm) (m : Message)
    (tail : List Message)
    → Peered ms → state_at ms c p ≡ Some (Takes q arms) → c.queue q.0 p ≡ m ∷ tail
    → Fitting arms m
takes_fit ms W done f n c s p q arms m tail peered h hq =
    let hp = within ms c p (Takes q arms) h in
    let pl = s.plays p hp in
    let st = machine_at ms c p (Takes q arms) pl.machine h pl.stands in
    let peer = peered.takes p pl.machine (c.at p) q arms pl.stands st in
    let next = next_get pl.machine (f p) n (c.at p) q arms (s.future p) (s.owed p) pl.last st pl.trace pl.lasts in
    let fit : Fits m (entry next.place next.label next.sort) =
    head_fits (c.queue q.0 p) m tail (sends p (s.future q.0 ++ s.owed q.0)) (s.owed p) q next.place next.label next.sort (s.future p) next.tail hq next.future_is (s.balance q.0 p peer.0 hp peer.1) in
    let same_state : Some (Takes q arms) ≡ Some (Takes q next.arms) = sym st ∙ next.takes in
    let same_arms : arms ≡ next.arms = cc (same_state) in
    record { place = next.at; arm = next.arm; stands = cc (next.chosen, same_arms); same_label = next.same_label ∙ sym fit.0; has = next.serves m.value fit.1 }

-- a receive from the peer
pub record Taking (ms : List Machine_data) (c : Configuration) (p : ℕ) (q : Role) : Type 0 where
  pub to : Configuration
  pub step : Receives ms c p to
  pub peer : step.peer ≡ q

pub take : (ms : List Machine_data) (c : Configuration) (p : ℕ) (q : Role) (arms : List Arm) (m : Message) (tail : List Message)
    → state_at ms c p ≡ Some (Takes q arms) → c.queue q.0 p ≡ m ∷ tail → Fitting arms m → Taking ms c p q
take ms c p q arms m tail h hq fit =
    let to : Configuration = after_receive c p q fit.arm tail in
    let st : Receives ms c p to = receive_step ms c p q arms fit.place fit.arm m tail h hq fit.stands fit.same_label fit.has in
    let same : Some (Takes st.peer st.arms) ≡ Some (Takes q arms) = sym st.takes ∙ h in
    record { to = to; step = st; peer = cc (same) }
