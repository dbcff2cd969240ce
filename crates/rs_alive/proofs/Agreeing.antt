-- A past is one thing: it leads to one configuration, or it has an event that is no step.
use Rattle.std.proofs.Common.{◌≡◌, ◌≢◌, ◌⊎◌, inl, inr, ℕ, zero, suc, ◌<◌, List, [], ◌∷◌, ◌++◌, Some, slice_get, length, take, refl, sym, ap, ◌∙◌, subst, subst₂}
use Rattle.std.proofs.lemmas.Bool.Decides.{eqb_tells}
use Rattle.rs_model.specs.Data.{Machine_data}
use Rattle.rs_model.specs.declared.graph.Arm.{Arm}
use Rattle.rs_model.specs.declared.graph.Role.{Role}
use Rattle.rs_model.specs.declared.machines.State.{State}
use Rattle.rs_model.specs.declared.machines.State.TheVariants.{Puts, Takes}
use Rattle.rs_model.specs.declared.values.Value.{Value}
use Rattle.rs_core.specs.declared.messages.Event.{Event}
use Rattle.rs_core.specs.declared.messages.Event.TheVariants.{Send, Receive}
use Rattle.rs_core.specs.declared.messages.Message.{Message}
use Rattle.rs_core.specs.Choices.{HaveLabelsOnce}
use Rattle.rs_core.specs.Configurations.{Configuration, Receives, Sends, StartsAt, Step, Steps, state_at, state_of}
use Rattle.rs_core.proofs.Ends.{get_there}
use Rattle.rs_core.proofs.Moves.{after_receive, after_send, receive_step, send_step}
use Rattle.rs_core.proofs.Stands.{here_is, within}
use Rattle.rs_alive.specs.Pasts.{AgreeFor, IsNoPast, PastLeadsTo}

-- what is the same at p, and elsewhere as before, is the same
at_all : (n : ℕ) (c d c' d' : Configuration) (p : ℕ) → AgreeFor n c d → c'.at p ≡ d'.at p → ((r : ℕ) → r ≢ p → c'.at r ≡ c.at r) → ((r : ℕ) → r ≢ p → d'.at r ≡ d.at r)
    → (r : ℕ) → r < n → c'.at r ≡ d'.at r
at_all n c d c' d' p a here cs ds r hr = elim (eqb_tells r p) [
  | inl t ↦ (let P : ℕ → Type 0 = λ z. c'.at z ≡ d'.at z in subst P (sym t.1) here)
  | inr t ↦ cs r t.1 ∙ a.at r hr ∙ sym (ds r t.1)
]

queue_all : (n : ℕ) (c d c' d' : Configuration) (p q : ℕ) → AgreeFor n c d → c'.queue p q ≡ d'.queue p q → ((x y : ℕ) → (x ≢ p) ⊎ (y ≢ q) → c'.queue x y ≡ c.queue x y)
    → ((x y : ℕ) → (x ≢ p) ⊎ (y ≢ q) → d'.queue x y ≡ d.queue x y) → (x y : ℕ) → c'.queue x y ≡ d'.queue x y
queue_all n c d c' d' p q a here cs ds x y = elim (eqb_tells x p) [
  | inr t ↦ cs x y (inl t.1) ∙ a.queue x y ∙ sym (ds x y (inl t.1))
  | inl t ↦ elim (eqb_tells y q) [
    | inr w ↦ cs x y (inr w.1) ∙ a.queue x y ∙ sym (ds x y (inr w.1))
    | inl w ↦ (let P : ℕ → ℕ → Type 0 = λ u v. c'.queue u v ≡ d'.queue u v in subst₂ P (sym t.1) (sym w.1) here)
  ]
]

state_all : (ms : List Machine_data) (c d : Configuration) (p : ℕ) (st : State) → AgreeFor (length ms) c d → state_at ms c p ≡ Some st → state_at ms d p ≡ Some st
state_all ms c d p st a h = sym (ap (λ (z : ℕ). state_of (slice_get ms p) z) (a.at p (within ms c p st h))) ∙ h

sends_all : (ms : List Machine_data) (c d c' d' : Configuration) (p place : ℕ) (v : Value) → AgreeFor (length ms) c d → Sends ms c p place v c' → Sends ms d p place v d' → AgreeFor (length ms) c' d'
sends_all ms c d c' d' p place v a s t =
    let e : Some (Puts s.peer s.arms) ≡ Some (Puts t.peer t.arms) = sym (state_all ms c d p (Puts s.peer s.arms) a s.puts) ∙ t.puts in
    let ep : s.peer ≡ t.peer = cc (e) in
    let ea : s.arms ≡ t.arms = cc (e) in
    let P : List Arm → Type 0 = λ z. slice_get z place ≡ Some s.arm in
    let same : Some s.arm ≡ Some t.arm = sym (subst P ea s.picks) ∙ t.picks in
    let arm : s.arm ≡ t.arm = cc (same) in
    let Q : Role → Type 0 = λ z. d'.queue p z.0 ≡ d.queue p z.0 ++ (record { label = t.arm.label; value = v } ∷ []) in
    let O : Role → Type 0 = λ z. (x y : ℕ) → (x ≢ p) ⊎ (y ≢ z.0) → d'.queue x y ≡ d.queue x y in
    let put : Arm → List Message = λ z. d.queue p s.peer.0 ++ (record { label = z.label; value = v } ∷ []) in
    record {
      at = at_all (length ms) c d c' d' p a (s.goes ∙ ap (λ (z : Arm). z.next) arm ∙ sym t.goes) s.other_states t.other_states;
      queue = queue_all (length ms) c d c' d' p s.peer.0 a
          (s.appends ∙ ap (λ (z : List Message). z ++ (record { label = s.arm.label; value = v } ∷ [])) (a.queue p s.peer.0) ∙ ap put arm ∙ sym (subst Q (sym ep) t.appends))
          s.other_queues (subst O (sym ep) t.other_queues);
    }

receives_all : (ms : List Machine_data) (c d c' d' : Configuration) (p : ℕ) → HaveLabelsOnce ms → AgreeFor (length ms) c d → Receives ms c p c' → Receives ms d p d' → AgreeFor (length ms) c' d'
receives_all ms c d c' d' p once a s t =
    let e : Some (Takes s.peer s.arms) ≡ Some (Takes t.peer t.arms) = sym (state_all ms c d p (Takes s.peer s.arms) a s.takes) ∙ t.takes in
    let ep : s.peer ≡ t.peer = cc (e) in
    let ea : s.arms ≡ t.arms = cc (e) in
    let Q : Role → Type 0 = λ z. d.queue z.0 p ≡ t.message ∷ d'.queue z.0 p in
    let O : Role → Type 0 = λ z. (x y : ℕ) → (x ≢ z.0) ⊎ (y ≢ p) → d'.queue x y ≡ d.queue x y in
    let lists : s.message ∷ c'.queue s.peer.0 p ≡ t.message ∷ d'.queue s.peer.0 p = sym s.removes ∙ a.queue s.peer.0 p ∙ subst Q (sym ep) t.removes in
    let message : s.message ≡ t.message = cc (lists) in
    let left : c'.queue s.peer.0 p ≡ d'.queue s.peer.0 p = cc (lists) in
    let P : List Arm → Type 0 = λ z. slice_get z s.place ≡ Some s.arm in
    let at = here_is (slice_get ms p) (c.at p) (Takes s.peer s.arms) s.takes in
    let F : List Arm → Type 0 = λ z. slice_get z t.place ≡ Some t.arm in
    let place : s.place ≡ t.place
    = once p (c.at p) at.0 s.peer s.arms at.1 at.2 s.place t.place s.arm t.arm s.follows (subst F (sym ea) t.follows) (s.same_label ∙ ap (λ (z : Message). z.label) message ∙ sym t.same_label) in
    let N : ℕ → Type 0 = λ z. slice_get s.arms z ≡ Some s.arm in
    let same : Some s.arm ≡ Some t.arm = sym (subst N place s.follows) ∙ subst F (sym ea) t.follows in
    let arm : s.arm ≡ t.arm = cc (same) in
    record {
      at = at_all (length ms) c d c' d' p a (s.goes ∙ ap (λ (z : Arm). z.next) arm ∙ sym t.goes) s.other_states t.other_states;
      queue = queue_all (length ms) c d c' d' s.peer.0 p a left s.other_queues (subst O (sym ep) t.other_queues);
    }

step_all : (ms : List Machine_data) (c d c' d' : Configuration) (e : Event) → HaveLabelsOnce ms → AgreeFor (length ms) c d → Step ms c e c' → Step ms d e d' → AgreeFor (length ms) c' d'
step_all ms c d c' d' (Send role arm value) once a s t = sends_all ms c d c' d' role.0 arm value a s t
step_all ms c d c' d' (Receive role) once a s t = receives_all ms c d c' d' role.0 once a s t

-- what leads from one leads from the other
goes_too : (ms : List Machine_data) (c d c' : Configuration) (e : Event) → AgreeFor (length ms) c d → Step ms c e c' → (d' : Configuration) × Step ms d e d'
goes_too ms c d c' (Send role arm value) a s =
    (after_send d role.0 s.peer s.arm value, send_step ms d role.0 arm value s.peer s.arms s.arm (state_all ms c d role.0 (Puts s.peer s.arms) a s.puts) s.picks s.has_sort)
goes_too ms c d c' (Receive role) a s = (
  after_receive d role.0 s.peer s.arm (c'.queue s.peer.0 role.0),
  receive_step ms d role.0 s.peer s.arms s.place s.arm s.message (c'.queue s.peer.0 role.0) (state_all ms c d role.0 (Takes s.peer s.arms) a s.takes)
      (sym (a.queue s.peer.0 role.0) ∙ s.removes) s.follows s.same_label s.has_sort,
)

steps_all : (ms : List Machine_data) (c d : Configuration) (es : List Event) (c' d' : Configuration) → HaveLabelsOnce ms → AgreeFor (length ms) c d → Steps ms c es c' → Steps ms d es d'
    → AgreeFor (length ms) c' d'
steps_all ms c d [] c' d' once a s t = let P : Configuration → Configuration → Type 0 = λ x y. AgreeFor (length ms) x y in subst₂ P s t a
steps_all ms c d (e ∷ es) c' d' once a s t = steps_all ms s.0 t.0 es c' d' once (step_all ms c d s.0 t.0 e once a s.1 t.1) s.2 t.2

starts_all : (ms : List Machine_data) (c d : Configuration) → StartsAt ms c → StartsAt ms d → AgreeFor (length ms) c d
starts_all ms c d s t = record {
  at = λ p hp. (let m = get_there ms p hp in s.states p m.0 m.1 ∙ sym (t.states p m.0 m.1));
  queue = λ p q. s.queues p q ∙ sym (t.queues p q);
}

pub one_configuration : (ms : List Machine_data) (past : List Event) (c d : Configuration) → HaveLabelsOnce ms → PastLeadsTo ms past c → PastLeadsTo ms past d → AgreeFor (length ms) c d
one_configuration ms past c d once s t = steps_all ms s.first t.first past c d once (starts_all ms s.first t.first s.starts t.starts) s.steps t.steps

-- the events before a place lead somewhere, and the event there is a step
steps_at : (ms : List Machine_data) (c : Configuration) (es : List Event) (d : Configuration) (i : ℕ) (e : Event) → Steps ms c es d → slice_get es i ≡ Some e
    → (x : Configuration) × (y : Configuration) × Steps ms c (take i es) x × Step ms x e y
steps_at ms c [] d i e s h = absurd (cc (h))
steps_at ms c (z ∷ es) d zero e s h = let same : z ≡ e = cc (h) in let P : Event → Type 0 = λ w. Step ms c w s.0 in (c, s.0, refl, subst P same s.1)
steps_at ms c (z ∷ es) d (suc i) e s h = let r = steps_at ms s.0 es d i e s.2 h in (r.0, r.1, (s.0, s.1, r.2), r.3)

pub leads_nowhere : (ms : List Machine_data) (past : List Event) (place : ℕ) (c : Configuration) → HaveLabelsOnce ms → IsNoPast ms past place → PastLeadsTo ms past c → ⊥
leads_nowhere ms past place c once n l =
    let r = steps_at ms l.first past c place n.event l.steps n.stands in
    let a = one_configuration ms (take place past) r.0 n.at once record { first = l.first; starts = l.starts; steps = r.2 } n.leads in
    let next = goes_too ms r.0 n.at r.1 n.event a r.3 in
    n.no_step next.0 next.1
