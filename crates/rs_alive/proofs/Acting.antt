-- What the role to which the waits lead does.
use Rattle.std.proofs.Common.{◌≡◌, ℕ, List, [], ◌∷◌, Option, Some, None, slice_get, refl, sym, ap, ◌∙◌, subst, subst₂}
use Rattle.rs_model.specs.Data.{Machine_data}
use Rattle.rs_model.specs.declared.graph.Arm.{Arm}
use Rattle.rs_model.specs.declared.graph.Role.{Role}
use Rattle.rs_model.specs.declared.machines.State.{State}
use Rattle.rs_model.specs.declared.machines.State.TheVariants.{Done, Puts, Takes}
use Rattle.rs_model.specs.declared.values.Sort.TheVariants as sort
use Rattle.rs_model.specs.declared.values.Value.{Value}
use Rattle.rs_model.specs.Values.{empty_value}
use Rattle.rs_model.proofs.EmptyValues.{empty_fits}
use Rattle.rs_core.specs.declared.messages.Event.{Event}
use Rattle.rs_core.specs.declared.messages.Event.TheVariants.{Send, Receive}
use Rattle.rs_core.specs.declared.messages.StepFault.{StepFault}
use Rattle.rs_core.specs.declared.messages.StepFault.TheVariants.{NotSending, NoArm, WrongSort, NotReceiving, QueueEmpty, NoMemory}
use Rattle.rs_core.specs.declared.messages.Stepped.{Stepped}
use Rattle.rs_core.specs.declared.messages.Stepped.TheVariants.{Sent, Got}
use Rattle.rs_core.specs.Choices.{AreWellFormed}
use Rattle.rs_core.specs.Configurations.{Configuration, Step, state_at}
use Rattle.rs_core.specs.Core.{HasStepped, StepIsRefused, IsUnsent, send_fault}
use Rattle.rs_core.specs.Safety.{CanMove, MaySend, MayReceive}
use Rattle.rs_core.proofs.Stands.{here_is}
use Rattle.rs_alive.specs.Schedule.{CanLeadOn, WaitsLeadOn, event_by, event_of}
use Rattle.rs_alive.specs.Taken.{IsStepOfEmpty}
use Rattle.rs_alive.proofs.Chains.{one_chain}

-- where the waits lead, the role can go on
pub can_move : (ms : List Machine_data) (c : Configuration) (p last : ℕ) → CanLeadOn ms c p → WaitsLeadOn ms c p last → CanMove ms c last
can_move ms c p last can leads =
    let one = one_chain ms c can.1.0 leads.0 p can.0 last can.1.1 leads.1 in
    subst (CanMove ms c) one.1 can.3

-- a role that stands at a send has an arm
some_arm : (ms : List Machine_data) (c : Configuration) → AreWellFormed ms → (role peer : Role) (arms : List Arm) → state_at ms c role.0 ≡ Some (Puts peer arms)
    → (event : Event) × (event_of ms c role ≡ Some event)
some_arm ms c wf role peer [] h =
    let at = here_is (slice_get ms role.0) (c.at role.0) (Puts peer []) h in
    absurd (((wf.fits role.0 at.0 at.1).puts (c.at role.0) peer [] at.2).some refl)
some_arm ms c wf role peer (arm ∷ arms) h = (Send role 0 (empty_value arm.sort), rw h refl)

pub has_act : (ms : List Machine_data) (c : Configuration) → AreWellFormed ms → (role : Role) → CanMove ms c role.0 → (event : Event) × (event_of ms c role ≡ Some event)
has_act ms c wf role (MaySend peer arms h) = some_arm ms c wf role peer arms h
has_act ms c wf role (MayReceive peer arms m later h q) = (Receive role, rw h refl)

-- the act that a role in a state that sends has
pub sends_first : (ms : List Machine_data) (c : Configuration) (role peer : Role) (arms : List Arm) (event : Event) → state_at ms c role.0 ≡ Some (Puts peer arms) → event_of ms c role ≡ Some event
    → (arm : Arm) × (slice_get arms 0 ≡ Some arm) × (event ≡ Send role 0 (empty_value arm.sort))
sends_first ms c role peer [] event h a = let a' : None ≡ Some event = rw h at a in absurd (cc (a'))
sends_first ms c role peer (arm ∷ arms) event h a = let a' : Some (Send role 0 (empty_value arm.sort)) ≡ Some event = rw h at a in (arm, refl, cc (a'))

pub receives : (ms : List Machine_data) (c : Configuration) (role peer : Role) (arms : List Arm) (event : Event) → state_at ms c role.0 ≡ Some (Takes peer arms) → event_of ms c role ≡ Some event
    → event ≡ Receive role
receives ms c role peer arms event h a = let a' : Some (Receive role) ≡ Some event = rw h at a in cc (a')

-- nothing but want of memory can be wrong with it
unsent : (o : Option StepFault) (fault : StepFault) → o ≡ None → IsUnsent o fault → fault ≡ NoMemory
unsent o NotSending e u = absurd (cc (e, u))
unsent o NoArm e u = absurd (cc (e, u))
unsent o WrongSort e u = absurd (cc (e, u))
unsent o NotReceiving e u = absurd (cc (e, u))
unsent o QueueEmpty e u = absurd (cc (e, u))
unsent o NoMemory e u = refl

pub memory : (ms : List Machine_data) (c : Configuration) (role : Role) (event : Event) (fault : StepFault) → CanMove ms c role.0 → event_of ms c role ≡ Some event → StepIsRefused ms c event fault
    → fault ≡ NoMemory
memory ms c role event fault (MaySend peer arms h) a r =
    let s = sends_first ms c role peer arms event h a in
    let P : Event → Type 0 = λ z. StepIsRefused ms c z fault in
    let right : send_fault (state_at ms c role.0) 0 (empty_value s.0.sort) ≡ None = rw h (rw s.1 (rw (empty_fits s.0.sort) refl)) in
    unsent (send_fault (state_at ms c role.0) 0 (empty_value s.0.sort)) fault right (subst P s.2 r)
memory ms c role event fault (MayReceive peer arms m later h q) a r =
    let P : Event → Type 0 = λ z. StepIsRefused ms c z fault in
    let e = subst P (receives ms c role peer arms event h a) r in
    let none : None ≡ Some fault = rw (h, q) at e in
    absurd (cc (none))

-- what was made is a step
pub is_step : (ms : List Machine_data) (c d : Configuration) (event : Event) (told : Stepped) → HasStepped ms c event d told → Step ms c event d
is_step ms c d (Send role arm value) Sent st = st
is_step ms c d (Send role arm value) (Got label v) st = absurd st
is_step ms c d (Receive role) Sent st = absurd st
is_step ms c d (Receive role) (Got label v) st = st.0

-- what is sent in a state is the empty value of the arm by which it is sent
first_empty : (o : Option State) (role who : Role) (place : ℕ) (v : Value) → event_by o role ≡ Some (Send who place v)
    → (role ≡ who) × ((peer : Role) (arms : List Arm) (arm : Arm) → o ≡ Some (Puts peer arms) → slice_get arms place ≡ Some arm → v ≡ empty_value arm.sort)
first_empty None role who place v h = absurd (cc (h))
first_empty (Some Done) role who place v h = absurd (cc (h))
first_empty (Some (Takes q xs)) role who place v h = absurd (cc (h))
first_empty (Some (Puts q [])) role who place v h = absurd (cc (h))
first_empty (Some (Puts q (x ∷ xs))) role who place v h =
    let er : role ≡ who = cc (h) in
    let ep : 0 ≡ place = cc (h) in
    let ev : empty_value x.sort ≡ v = cc (h) in (
      er,
      λ peer arms arm is at. (let same : x ∷ xs ≡ arms = cc (is) in
          let P : List Arm → ℕ → Type 0 = λ y z. slice_get y z ≡ Some arm in
          let first : Some x ≡ Some arm = subst₂ P (sym same) (sym ep) at in
          let e : x ≡ arm = cc (first) in
          sym ev ∙ ap (λ (z : Arm). empty_value z.sort) e),
    )

pub empty_step : (ms : List Machine_data) (c d : Configuration) (role : Role) (event : Event) → event_of ms c role ≡ Some event → Step ms c event d → IsStepOfEmpty ms c event d
empty_step ms c d role (Send who place v) act st =
    let f = first_empty (state_at ms c role.0) role who place v act in
    let P : Role → Type 0 = λ z. state_at ms c z.0 ≡ Some (Puts st.peer st.arms) in
    (st, f.1 st.peer st.arms st.arm (subst P (sym f.0) st.puts) st.picks)
empty_step ms c d role (Receive who) act st = st
