-- Monitored programs do what their machines can do, and all of it.
use Rattle.std.proofs.Common.{arith, ◌≡◌, ◌≢◌, ◌⊎◌, inl, inr, ℕ, ◌<◌, true, false, List, [], ◌∷◌, ◌++◌, Option, Some, None, slice_get, length, refl, ap, subst, sym, ◌∙◌}
use Rattle.std.proofs.lemmas.Option.{slice_get_cases, slice_get_within}
use Rattle.std.proofs.lemmas.Bool.Decides.{eqb_tells}
use Rattle.rs_model.specs.Data.{Machine_data}
use Rattle.rs_model.specs.Sorts.{HasSort}
use Rattle.rs_model.specs.declared.graph.Arm.{Arm}
use Rattle.rs_model.specs.declared.graph.Label.{Label}
use Rattle.rs_model.specs.declared.graph.Role.{Role}
use Rattle.rs_model.specs.declared.machines.State.{State}
use Rattle.rs_model.specs.declared.machines.State.TheVariants.{Done, Puts, Takes}
use Rattle.rs_core.specs.Choices.{AreWellFormed, HaveArms}
use Rattle.rs_core.specs.Configurations.{Configuration, IsReachable, IsSame, Sends, Receives, StartsAt, Step, Steps, role_of, state_at, state_of}
use Rattle.rs_core.specs.declared.messages.Message.{Message}
use Rattle.rs_core.specs.declared.messages.Event.{Event}
use Rattle.rs_core.specs.declared.messages.Event.TheVariants.{Send, Receive}
use Rattle.rs_core.specs.Safety.{AllEnded, CanStep, IsSafe}
use Rattle.rs_core.proofs.Items.{put_at, put_at_same, put_at_other}
use Rattle.rs_core.proofs.Nexts.{can_step, find}
use Rattle.rs_core.proofs.Stands.{here_is}
use Rattle.rs_monitor.specs.Acts.{ProgramAct, Sent, Received, IsActOf, message_of, peer_of, state_for}
use Rattle.rs_monitor.specs.Monitors.{Monitor_data, LetsThrough, after_act, new_monitor, state_now}
use Rattle.rs_monitor.specs.Sessions.{BeginsAt, IsMonitored, MonitoredSession, MonitoredStep, MonitoredSteps, OtherQueuesStay, QueuesCarry, RoleAct, act_of, acting, shown}

-- each role's monitor has the role's machine
abbrev pub Own : List Machine_data → MonitoredSession → Type 0
Own ms s = (p : ℕ) (m : Machine_data) → slice_get ms p ≡ Some m → (s.monitor p).machine ≡ m

own_step : (ms : List Machine_data) (s t : MonitoredSession) (role : Role) (act : ProgramAct) → MonitoredStep ms s role act t → Own ms s → Own ms t
own_step ms s t role act st own p m is = elim (eqb_tells p role.0) [
  | inl e ↦ (let P : ℕ → Type 0 = λ z. (t.monitor z).machine ≡ (s.monitor z).machine in
      let same : (t.monitor p).machine ≡ (s.monitor p).machine = subst P (sym e.1) st.lets.machine in same ∙ own p m is)
  | inr e ↦ ap (λ (z : Monitor_data). z.machine) (st.others p e.1) ∙ own p m is
]

-- the role's machine is there
there : (ms : List Machine_data) (p : ℕ) → p < length ms → (m : Machine_data) × (slice_get ms p ≡ Some m)
there ms p less = elim ((slice_get_cases ms p).1) [ inl t ↦ (t.0, t.2) | inr t ↦ absurd (omega (arith, less, t.0)) ]

-- the state in which the role's machine stands is the monitor's
at_now : (ms : List Machine_data) (s : MonitoredSession) (p : ℕ) → Own ms s → p < length ms → state_at ms (shown s) p ≡ state_now (s.monitor p)
at_now ms s p own less =
    let t = there ms p less in
    ap (λ (z : Option Machine_data). state_of z (s.monitor p).at) (t.1 ∙ ap (λ (z : Machine_data). Some z) (sym (own p t.0 t.1)))

-- an act as an event
abbrev event_of : Role → ProgramAct → ℕ → Event
event_of role (Sent peer message) place = Send role place message.value
event_of role (Received peer message) place = Receive role

abbrev labelled : Message → Label → Message
labelled message label = record { label = label; value = message.value }

step_of : (ms : List Machine_data) (s t : MonitoredSession) (role : Role) (act : ProgramAct) → Own ms s → (st : MonitoredStep ms s role act t)
    → Step ms (shown s) (event_of role act st.lets.is_act.place) (shown t)
step_of ms s t role (Sent peer message) own st =
    let is = st.lets.is_act in
    let same : message ≡ labelled message is.arm.label = ap (λ (z : Label). labelled message z) (sym is.same_label) in
    record {
      peer = peer;
      arms = is.arms;
      arm = is.arm;
      puts = at_now ms s role.0 own st.present ∙ is.stands;
      picks = is.picks;
      has_sort = is.has_sort;
      goes = sym is.goes;
      appends = st.carries.0 ∙ ap (λ (z : Message). s.queue role.0 peer.0 ++ (z ∷ [])) same;
      other_states = λ r ne. ap (λ (z : Monitor_data). z.at) (st.others r ne);
      other_queues = st.carries.1;
    }
step_of ms s t role (Received peer message) own st =
    let is = st.lets.is_act in
    record {
      peer = peer;
      arms = is.arms;
      place = is.place;
      arm = is.arm;
      message = message;
      takes = at_now ms s role.0 own st.present ∙ is.stands;
      removes = st.carries.0;
      follows = is.picks;
      same_label = is.same_label;
      has_sort = is.has_sort;
      goes = sym is.goes;
      other_states = λ r ne. ap (λ (z : Monitor_data). z.at) (st.others r ne);
      other_queues = st.carries.1;
    }

steps_of : (ms : List Machine_data) (s t : MonitoredSession) (acts : List RoleAct) → Own ms s → MonitoredSteps ms s acts t
    → (events : List Event) × Steps ms (shown s) events (shown t)
steps_of ms s t [] own h = ([], ap (λ (z : MonitoredSession). shown z) h)
steps_of ms s t (a ∷ acts) own h =
    let rest = steps_of ms h.0 t acts (own_step ms s h.0 a.role a.act h.1 own) h.2 in
    (event_of a.role a.act h.1.lets.is_act.place ∷ rest.0, (shown h.0, step_of ms s h.0 a.role a.act own h.1, rest.1))

own_steps : (ms : List Machine_data) (s t : MonitoredSession) (acts : List RoleAct) → Own ms s → MonitoredSteps ms s acts t → Own ms t
own_steps ms s t [] own h = let P : MonitoredSession → Type 0 = λ z. Own ms z in subst P h own
own_steps ms s t (a ∷ acts) own h = own_steps ms h.0 t acts (own_step ms s h.0 a.role a.act h.1 own) h.2

own_first : (ms : List Machine_data) (s : MonitoredSession) → BeginsAt ms s → Own ms s
own_first ms s begins p m is = ap (λ (z : Monitor_data). z.machine) (begins.monitors p m is)

own : (ms : List Machine_data) (s : MonitoredSession) → IsMonitored ms s → Own ms s
own ms s r = own_steps ms r.first s r.acts (own_first ms r.first r.begins) r.steps

pub reachable : (ms : List Machine_data) (s : MonitoredSession) → IsMonitored ms s → IsReachable ms (shown s)
reachable ms s r =
    let steps = steps_of ms r.first s r.acts (own_first ms r.first r.begins) r.steps in
    record {
      first = shown r.first;
      events = steps.0;
      starts = record {
        states = λ p m is. ap (λ (z : Monitor_data). z.at) (r.begins.monitors p m is);
        queues = r.begins.queues;
      };
      steps = steps.1;
    }

-- the role's monitor lets the act through, and then the session shows that configuration
abbrev Through : List Machine_data → MonitoredSession → Role → ProgramAct → Configuration → Type 0
Through ms s role act d = (after : MonitoredSession) × MonitoredStep ms s role act after × IsSame (shown after) d

-- the session after an act that leads to the state numbered next, with these queues
abbrev after_step : MonitoredSession → ℕ → ℕ → (ℕ → ℕ → List Message) → MonitoredSession
after_step s p next queue = record { monitor = put_at s.monitor p (after_act (s.monitor p) next); queue = queue }

within : (ms : List Machine_data) (c : Configuration) (p : ℕ) (st : State) → state_at ms c p ≡ Some st → p < length ms
within ms c p st h = let t = here_is (slice_get ms p) (c.at p) st h in slice_get_within ms p t.0 t.1

let_by : (ms : List Machine_data) (s : MonitoredSession) (role : Role) (act : ProgramAct) (next : ℕ) (d : Configuration) → role.0 < length ms
    → IsActOf (state_now (s.monitor role.0)) act next → QueuesCarry s.queue role.0 act d.queue → d.at role.0 ≡ next
    → ((r : ℕ) → r ≢ role.0 → d.at r ≡ (s.monitor r).at) → Through ms s role act d
let_by ms s role act next d present is carries goes others =
    let t : MonitoredSession = after_step s role.0 next d.queue in
    let here : t.monitor role.0 ≡ after_act (s.monitor role.0) next = put_at_same s.monitor role.0 (after_act (s.monitor role.0) next) in
    let L : Monitor_data → Type 0 = λ z. LetsThrough (s.monitor role.0) act z in
    let lets : LetsThrough (s.monitor role.0) act (after_act (s.monitor role.0) next) = record { is_act = is; machine = refl; acts = refl } in
    let step : MonitoredStep ms s role act t = record {
      present = present;
      lets = subst L (sym here) lets;
      carries = carries;
      others = put_at_other s.monitor role.0 (after_act (s.monitor role.0) next);
    } in
    let same_at : (r : ℕ) → (t.monitor r).at ≡ d.at r = λ r. elim (eqb_tells r role.0) [
      | inl e ↦ (let P : ℕ → Type 0 = λ z. (t.monitor z).at ≡ d.at z in
          subst P (sym e.1) (ap (λ (z : Monitor_data). z.at) here ∙ sym goes))
      | inr e ↦ ap (λ (z : Monitor_data). z.at) (put_at_other s.monitor role.0 (after_act (s.monitor role.0) next) r e.1) ∙ sym (others r e.1)
    ] in
    (t, step, record { at = same_at; queue = λ p q. refl })

through_own : (ms : List Machine_data) (s : MonitoredSession) (event : Event) (d : Configuration) → Own ms s → (st : Step ms (shown s) event d)
    → Through ms s (acting event) (act_of ms (shown s) event d st) d
through_own ms s (Send role place value) d own st =
    let less = within ms (shown s) role.0 (Puts st.peer st.arms) st.puts in
    let_by ms s role (Sent st.peer (record { label = st.arm.label; value = value })) st.arm.next d less
    record { arms = st.arms; place = place; arm = st.arm; stands = sym (at_now ms s role.0 own less) ∙ st.puts; picks = st.picks; same_label = refl; has_sort = st.has_sort; goes = refl }
    (st.appends, st.other_queues) st.goes st.other_states
through_own ms s (Receive role) d own st =
    let less = within ms (shown s) role.0 (Takes st.peer st.arms) st.takes in
    let_by ms s role (Received st.peer st.message) st.arm.next d less
    record { arms = st.arms; place = st.place; arm = st.arm; stands = sym (at_now ms s role.0 own less) ∙ st.takes; picks = st.follows; same_label = st.same_label; has_sort = st.has_sort; goes = refl }
    (st.removes, st.other_queues) st.goes st.other_states

pub through : (ms : List Machine_data) (s : MonitoredSession) (event : Event) (d : Configuration) → IsMonitored ms s → (st : Step ms (shown s) event d)
    → Through ms s (acting event) (act_of ms (shown s) event d st) d
through ms s event d r st = through_own ms s event d (own ms s r) st

pub takes_what_comes : (ms : List Machine_data) (s : MonitoredSession) → IsSafe ms → IsMonitored ms s
    → (role peer : Role) (arms : List Arm) (message : Message) (later : List Message) → role.0 < length ms → state_now (s.monitor role.0) ≡ Some (Takes peer arms)
    → s.queue peer.0 role.0 ≡ message ∷ later → (next : ℕ) × IsActOf (state_now (s.monitor role.0)) (Received peer message) next
takes_what_comes ms s safe r role peer arms message later less takes oldest = elim (find arms message) [
  | inl t ↦ (t.1.next, record { arms = arms; place = t.0; arm = t.1; stands = takes; picks = t.2; same_label = t.3.0; has_sort = t.3.1; goes = refl })
  | inr none ↦ absurd (safe.fits (shown s) (reachable ms s r)
      record { role = role.0; peer = peer; arms = arms; message = message; later = later; takes = at_now ms s role.0 (own ms s r) less ∙ takes; oldest = oldest; no_arm = none })
]

have_arms : (ms : List Machine_data) → AreWellFormed ms → HaveArms ms
have_arms ms wf p s m peer is puts = ((wf.fits p m is).puts s peer [] puts).some refl

pub acts_or_ended : (ms : List Machine_data) (s : MonitoredSession) → IsSafe ms → AreWellFormed ms → IsMonitored ms s
    → ((role : Role) × (act : ProgramAct) × (after : MonitoredSession) × MonitoredStep ms s role act after) ⊎ AllEnded ms (shown s)
acts_or_ended ms s safe wf r = elim (safe.goes_on (shown s) (reachable ms s r)) [
  | inl can ↦ (let e = can_step ms safe (have_arms ms wf) (shown s) (reachable ms s r) can in
      let t = through ms s e.0 e.1 r e.2 in inl (acting e.0, act_of ms (shown s) e.0 e.1 e.2, t.0, t.1))
  | inr ended ↦ inr ended
]
