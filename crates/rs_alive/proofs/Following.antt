-- The schedule, followed event by event: what holds after so many of them.
use Rattle.std.proofs.Common.{◌≡◌, ◌≢◌, ◌⊎◌, inl, inr, ℕ, zero, suc, ◌+◌, ◌-◌, ◌*◌, ◌<◌, ◌≤◌, Bool, true, false, List, [], ◌∷◌, ◌++◌, Some, length, slice_get, refl, sym, ap, ◌∙◌, subst, subst₂, arith}
use Rattle.std.proofs.Common.{append_assoc, length-append}
use Rattle.std.proofs.lemmas.Bool.Decides.{eqb_tells}
use Rattle.rs_model.specs.Data.{Machine_data}
use Rattle.rs_model.specs.declared.graph.Arm.{Arm}
use Rattle.rs_model.specs.declared.graph.Role.{Role}
use Rattle.rs_model.specs.declared.machines.State.TheVariants.{Puts, Takes}
use Rattle.rs_model.specs.declared.values.Value.{Value}
use Rattle.rs_core.specs.declared.messages.Event.{Event}
use Rattle.rs_core.specs.declared.messages.Event.TheVariants.{Send, Receive}
use Rattle.rs_core.specs.declared.messages.Message.{Message}
use Rattle.rs_core.specs.Configurations.{Configuration, IsReachable, Receives, Sends, Step, role_of, state_at}
use Rattle.rs_core.specs.Safety.{CanMove, MaySend, MayReceive}
use Rattle.rs_core.proofs.Stands.{Stands, done_after, one_more}
use Rattle.rs_safety.specs.Accepting.{Accepted_data, IsAcceptedSession}
use Rattle.rs_safety.specs.Room.{room_of}
use Rattle.rs_safety.proofs.Walks.{same_role}
use Rattle.rs_safety.proofs.Walked.{WalksOf, good, of_accepted}
use Rattle.rs_alive.specs.Pasts.{PastLeadsTo}
use Rattle.rs_alive.specs.Schedule.{Advances, CanLeadOn, event_of, takes_from}
use Rattle.rs_alive.specs.Taken.{CarryEmptyValues, Else, IsTaken, Older, Oldest, acts_by}
use Rattle.rs_alive.proofs.Acting.{empty_step, receives, sends_first}
use Rattle.rs_alive.proofs.Bound.{counts, long_of, most_lag, most_owed, setting, top_of}
use Rattle.rs_alive.proofs.Chains.{one_chain}
use Rattle.rs_alive.proofs.Scheduled.{MessageAt, Still, Turn, nearer, starts_low, still_receive, still_send, total, total_bound, total_falls, turn, within_bound, zeros}

-- how many acts each role has made in the past
abbrev pub done_in : List Event → ℕ → ℕ
done_in past = done_after (λ z. 0) past

-- the place on the path below which the message's talk lies, and how many acts a role makes at most
abbrev pub low_of : Accepted_data → List Event → Role → ℕ
low_of a past p = length a.protocol.nodes * (done_in past p.0 + most_owed a.derivations)

abbrev pub far_of : Accepted_data → List Event → Role → ℕ
far_of a past p = low_of a past p + length a.protocol.nodes * most_lag a.derivations

abbrev pub most_of : Accepted_data → List Event → Role → ℕ
most_of a past p = far_of a past p + most_lag a.derivations

-- the walks fit together for so many acts more, and the message stands at the place
abbrev pub Standing : Accepted_data → ℕ → (ℕ → ℕ) → ℕ → Configuration → Role → ℕ → ℕ → Type 0
Standing a X done n c p u k =
    (s : Stands a.machines (WalksOf a.protocol a.projections a.machines a.derivations) done zeros n c)
    × MessageAt a.machines (WalksOf a.protocol a.projections a.machines a.derivations) done n c s p u k X

-- the events have led from c0, in which the message stood at the place, to c, in which so many stand before it
pub record Following (a : Accepted_data) (past : List Event) (p u : Role) (place : ℕ) (c0 c : Configuration) (before : ℕ) (events : List Event) : Type 0 where
  pub ahead : ℕ
  pub standing : Standing a (low_of a past p) (done_after (done_in past) events) (suc ahead) c p u.0 before
  pub enough : total (length a.machines) (most_of a past p) (done_after (done_in past) events) ≤ ahead
  pub count : length events + total (length a.machines) (most_of a past p) (done_after (done_in past) events) ≤ length a.machines * most_of a past p
  pub so_far : (rest : List Event) → IsTaken a.machines p u c before rest → IsTaken a.machines p u c0 place (events ++ rest)
  pub values : (rest : List Event) → CarryEmptyValues a.machines c rest → CarryEmptyValues a.machines c0 (events ++ rest)

pub start : (a : Accepted_data) (past : List Event) (p u : Role) (place : ℕ) (c : Configuration) → IsAcceptedSession a → PastLeadsTo a.machines past c
    → p.0 < length a.machines → u.0 < length a.machines → p.0 ≢ u.0 → place < length (c.queue p.0 u.0) → Following a past p u place c c place []
start a past p u place c s l hp hu ne there =
    let ds = of_accepted a s in
    let r : IsReachable a.machines c = record { first = l.first; events = past; starts = l.starts; steps = l.steps } in
    let n : ℕ = length a.machines * most_of a past p in
    let st : Stands a.machines (WalksOf a.protocol a.projections a.machines a.derivations) (done_in past) zeros (suc n) c
    = good a.protocol a.projections a.machines a.derivations ds c r zeros (suc n) in
    let b = total_bound (length a.machines) (most_of a past p) (done_in past) in
    record {
      ahead = n;
      standing = (
        st,
        starts_low a.machines (WalksOf a.protocol a.projections a.machines a.derivations) (length a.protocol.nodes) (most_owed a.derivations) (most_lag a.derivations) (long_of a.derivations)
            (top_of a.derivations)
            (setting a.protocol a.projections a.machines a.derivations ds) (done_in past) (suc n) c st p u.0 place hp hu ne there,
      );
      enough = b;
      count = omega (arith, b);
      so_far = λ rest t. t;
      values = λ rest t. t;
    }

-- who acts next
turn_of : (a : Accepted_data) (past : List Event) (p u : Role) (place : ℕ) (c0 c : Configuration) (before : ℕ) (events : List Event) → IsAcceptedSession a → u.0 < length a.machines
    → Following a past p u place c0 c before events → Turn a.machines (done_after (done_in past) events) c (most_of a past p) u.0
turn_of a past p u place c0 c before events s hu f =
    turn a.machines (WalksOf a.protocol a.projections a.machines a.derivations) (done_after (done_in past) events) f.ahead c f.standing.0 (length a.protocol.nodes) (most_owed a.derivations)
    (most_lag a.derivations) (far_of a past p)
    (long_of a.derivations) (top_of a.derivations) (setting a.protocol a.projections a.machines a.derivations (of_accepted a s)) p u.0 before (low_of a past p) hu (omega arith) f.standing.1

pub leads : (a : Accepted_data) (past : List Event) (p u : Role) (place : ℕ) (c0 c : Configuration) (before : ℕ) (events : List Event) → IsAcceptedSession a → u.0 < length a.machines
    → Following a past p u place c0 c before events → CanLeadOn a.machines c u.0
leads a past p u place c0 c before events s hu f = let t = turn_of a past p u place c0 c before events s hu f in (t.role, t.leads, t.known, t.can)

-- what the act is: a send by the first arm, or a receive
data How (ms : List Machine_data) (c d : Configuration) (role : Role) (event : Event) : Type 0 where
  Sending : (peer : Role) (arms : List Arm) (v : Value) → state_at ms c role.0 ≡ Some (Puts peer arms) → event ≡ Send role 0 v → Sends ms c role.0 0 v d → How ms c d role event
  Receiving : (peer : Role) (arms : List Arm) → state_at ms c role.0 ≡ Some (Takes peer arms) → event ≡ Receive role → (st : Receives ms c role.0 d) → st.peer ≡ peer → How ms c d role event

how : (ms : List Machine_data) (c d : Configuration) (role : Role) (event : Event) → CanMove ms c role.0 → event_of ms c role ≡ Some event → Step ms c event d → How ms c d role event
how ms c d role event (MaySend peer arms h) act st =
    let e = sends_first ms c role peer arms event h act in
    let P : Event → Type 0 = λ z. Step ms c z d in
    Sending peer arms _ h e.2 (subst P e.2 st)
how ms c d role event (MayReceive peer arms m later h q) act st =
    let e = receives ms c role peer arms event h act in
    let P : Event → Type 0 = λ z. Step ms c z d in
    let r : Receives ms c role.0 d = subst P e st in
    let same : Some (Takes r.peer r.arms) ≡ Some (Takes peer arms) = sym r.takes ∙ h in
    Receiving peer arms h e r (cc (same))

-- it is the act of the role that is next, which has made few
record Acted (a : Accepted_data) (past : List Event) (p : Role) (c d : Configuration) (events : List Event) (role : Role) (event : Event) : Type 0 where
  present : role.0 < length a.machines
  bounded : done_after (done_in past) events role.0 < most_of a past p
  kind : How a.machines c d role event

acted : (a : Accepted_data) (past : List Event) (p u : Role) (place : ℕ) (c0 c d : Configuration) (before : ℕ) (events : List Event) (event : Event) (takes : Bool) → IsAcceptedSession a
    → u.0 < length a.machines
    → Following a past p u place c0 c before events → (ad : Advances a.machines p u c d event takes) → Acted a past p c d events ad.role event
acted a past p u place c0 c d before events event takes s hu f ad =
    let t = turn_of a past p u place c0 c before events s hu f in
    let one = one_chain a.machines c t.leads.0 ad.leads.0 u.0 t.role ad.role.0 t.leads.1 ad.leads.1 in
    let T : ℕ → Type 0 = λ z. z < length a.machines in
    let F : ℕ → Type 0 = λ z. done_after (done_in past) events z < most_of a past p in
    record { present = subst T one.1 t.known; bounded = subst F one.1 t.bounded; kind = how a.machines c d ad.role event (subst (CanMove a.machines c) one.1 t.can) ad.acts ad.step }

done_snoc : (done : ℕ → ℕ) (es : List Event) (e : Event) → done_after done (es ++ (e ∷ [])) ≡ one_more (done_after done es) (role_of e)
done_snoc done [] e = refl
done_snoc done (x ∷ es) e = done_snoc (one_more done (role_of x)) es e

role_by : (ms : List Machine_data) (c d : Configuration) (role : Role) (event : Event) → How ms c d role event → role_of event ≡ role.0
role_by ms c d role event (Sending peer arms v h e st) = ap (λ (z : Event). role_of z) e
role_by ms c d role event (Receiving peer arms h e st ep) = ap (λ (z : Event). role_of z) e

-- after the act of the role the message stands at the place k
goes_to : (a : Accepted_data) (past : List Event) (p u : Role) (place : ℕ) (c0 c d : Configuration) (k : ℕ) (events : List Event) (role : Role) (event : Event) (ahead : ℕ)
    → total (length a.machines) (most_of a past p) (done_after (done_in past) events) ≤ ahead
    → length events + total (length a.machines) (most_of a past p) (done_after (done_in past) events) ≤ length a.machines * most_of a past p
    → Acted a past p c d events role event
    → Still a.machines (WalksOf a.protocol a.projections a.machines a.derivations) (done_after (done_in past) events) ahead d p u.0 k (low_of a past p) role.0
    → ((rest : List Event) → IsTaken a.machines p u d k rest → IsTaken a.machines p u c0 place ((events ++ (event ∷ [])) ++ rest))
    → ((rest : List Event) → CarryEmptyValues a.machines d rest → CarryEmptyValues a.machines c0 ((events ++ (event ∷ [])) ++ rest))
    → Following a past p u place c0 d k (events ++ (event ∷ []))
goes_to a past p u place c0 c d k events role event zero enough count act still so values =
    let f = total_falls (length a.machines) (most_of a past p) role.0 (done_after (done_in past) events) act.present act.bounded in
    absurd (omega arith)
goes_to a past p u place c0 c d k events role event (suc ahead) enough count act still so values =
    let f = total_falls (length a.machines) (most_of a past p) role.0 (done_after (done_in past) events) act.present act.bounded in
    let e : done_after (done_in past) (events ++ (event ∷ [])) ≡ one_more (done_after (done_in past) events) role.0 =
    done_snoc (done_in past) events event ∙ ap (λ (z : ℕ). one_more (done_after (done_in past) events) z) (role_by a.machines c d role event act.kind) in
    let S : (ℕ → ℕ) → Type 0 = λ z. Standing a (low_of a past p) z (suc ahead) d p u.0 k in
    let N : (ℕ → ℕ) → Type 0 = λ z. total (length a.machines) (most_of a past p) z ≤ ahead in
    let C : (ℕ → ℕ) → Type 0 = λ z. length (events ++ (event ∷ [])) + total (length a.machines) (most_of a past p) z ≤ length a.machines * most_of a past p in
    record {
      ahead = ahead;
      standing = subst S (sym e) (still.stands, still.message);
      enough = subst N (sym e) (omega arith);
      count = subst C (sym e) (omega (arith, length-append events (event ∷ [])));
      so_far = so;
      values = values;
    }

-- more is taken by one event more
more : (ms : List Machine_data) (p u : Role) (c0 c d : Configuration) (place before k : ℕ) (events : List Event) (event : Event)
    → ((rest : List Event) → IsTaken ms p u c before rest → IsTaken ms p u c0 place (events ++ rest))
    → ((rest : List Event) → IsTaken ms p u d k rest → IsTaken ms p u c before (event ∷ rest))
    → (rest : List Event) → IsTaken ms p u d k rest → IsTaken ms p u c0 place ((events ++ (event ∷ [])) ++ rest)
more ms p u c0 c d place before k events event so one rest t =
    let P : List Event → Type 0 = λ z. IsTaken ms p u c0 place z in
    subst P (sym (append_assoc events (event ∷ []) rest)) (so (event ∷ rest) (one rest t))

-- one value more that is sent is empty
more_values : (a : Accepted_data) (past : List Event) (p u : Role) (place : ℕ) (c0 c d : Configuration) (before : ℕ) (events : List Event) (event : Event) (takes : Bool)
    → Following a past p u place c0 c before events → Advances a.machines p u c d event takes
    → (rest : List Event) → CarryEmptyValues a.machines d rest → CarryEmptyValues a.machines c0 ((events ++ (event ∷ [])) ++ rest)
more_values a past p u place c0 c d before events event takes f ad rest t =
    let P : List Event → Type 0 = λ z. CarryEmptyValues a.machines c0 z in
    subst P (sym (append_assoc events (event ∷ []) rest)) (f.values (event ∷ rest) (d, empty_step a.machines c d ad.role event ad.acts ad.step, t))

-- whether an act takes a message of the sender
send_takes : (ms : List Machine_data) (c : Configuration) (role p u peer : Role) (arms : List Arm) → state_at ms c role.0 ≡ Some (Puts peer arms) → takes_from ms c role p u ≡ false
send_takes ms c role p u peer arms h = elim (eqb_tells role.0 u.0) [
  | inl t ↦ rw (h, t.0) refl
  | inr t ↦ rw (h, t.0) refl
]

receive_takes : (ms : List Machine_data) (c : Configuration) (role p u peer : Role) (arms : List Arm) → state_at ms c role.0 ≡ Some (Takes peer arms)
    → ((takes_from ms c role p u ≡ true) × (role.0 ≡ u.0) × (peer.0 ≡ p.0)) ⊎ ((takes_from ms c role p u ≡ false) × ((role.0 ≢ u.0) ⊎ (peer.0 ≢ p.0)))
receive_takes ms c role p u peer arms h = elim (eqb_tells role.0 u.0) [
  | inr t ↦ inr (rw (h, t.0) refl, inl t.1)
  | inl t ↦ elim (eqb_tells peer.0 p.0) [
    | inr w ↦ inr (rw (h, t.0, w.0) refl, inr w.1)
    | inl w ↦ inl (rw (h, t.0, w.0) refl, t.1, w.1)
  ]
]

-- no message of the sender is taken: the message stays where it stands
pub goes_on : (a : Accepted_data) (past : List Event) (p u : Role) (place : ℕ) (c0 c d : Configuration) (before : ℕ) (events : List Event) (event : Event) → IsAcceptedSession a
    → u.0 < length a.machines
    → Following a past p u place c0 c before events → Advances a.machines p u c d event false → Following a past p u place c0 d before (events ++ (event ∷ []))
goes_on a past p u place c0 c d before events event s hu f ad =
    let act = acted a past p u place c0 c d before events event false s hu f ad in
    by act act.kind
  where
    by : Acted a past p c d events ad.role event → How a.machines c d ad.role event → Following a past p u place c0 d before (events ++ (event ∷ []))
    by act (Sending peer arms v h e st) =
        goes_to a past p u place c0 c d before events ad.role event f.ahead f.enough f.count act
        (still_send a.machines (WalksOf a.protocol a.projections a.machines a.derivations) (done_after (done_in past) events) f.ahead c f.standing.0 p u.0 before
        (low_of a past p) ad.role.0 v d st f.standing.1)
        (more a.machines p u c0 c d place before before events event f.so_far (λ rest t. Else c d event before rest (λ arms' h' e'. cc (e, e')) ad.step t))
        (more_values a past p u place c0 c d before events event false f ad)
    by act (Receiving peer arms h e st ep) = elim (receive_takes a.machines c ad.role p u peer arms h) [
      | inl t ↦ absurd (let no = ad.tells in let good = t.0 in cc (no, good))
      | inr t ↦ goes_to a past p u place c0 c d before events ad.role event f.ahead f.enough f.count act
          (still_receive a.machines (WalksOf a.protocol a.projections a.machines a.derivations) (done_after (done_in past) events) f.ahead c f.standing.0
          (setting a.protocol a.projections a.machines a.derivations (of_accepted a s)).peered p u.0 before (low_of a past p) ad.role.0 d st (elsewhere t.1) f.standing.1)
          (more a.machines p u c0 c d place before before events event f.so_far (λ rest t'. Else c d event before rest (other t.1) ad.step t'))
          (more_values a past p u place c0 c d before events event false f ad)
    ]
      where
        elsewhere : (ad.role.0 ≢ u.0) ⊎ (peer.0 ≢ p.0) → (ad.role.0 ≢ u.0) ⊎ (st.peer.0 ≢ p.0)
        elsewhere (inl ne) = inl ne
        elsewhere (inr ne) = inr (λ x. ne (sym (ap (λ (z : Role). z.0) ep) ∙ x))

        other : (ad.role.0 ≢ u.0) ⊎ (peer.0 ≢ p.0) → (arms' : List Arm) → state_at a.machines c u.0 ≡ Some (Takes p arms') → event ≡ Receive u → ⊥
        other (inl ne) arms' h' e' = ne (ap (λ (z : Event). role_of z) (sym e ∙ e'))
        other (inr ne) arms' h' e' =
            let same : ad.role.0 ≡ u.0 = ap (λ (z : Event). role_of z) (sym e ∙ e') in
            let Q : ℕ → Type 0 = λ z. state_at a.machines c z ≡ Some (Takes peer arms) in
            let both : Some (Takes p arms') ≡ Some (Takes peer arms) = sym h' ∙ subst Q same h in
            let eq : peer ≡ p = cc (both) in ne (ap (λ (z : Role). z.0) eq)

-- the receive of a message of the sender
record TakesOne (a : Accepted_data) (past : List Event) (p u : Role) (c d : Configuration) (events : List Event) (role : Role) (event : Event) : Type 0 where
  acts : Acted a past p c d events role event
  arms : List Arm
  takes : state_at a.machines c u.0 ≡ Some (Takes p arms)
  receives : event ≡ Receive u
  step : Receives a.machines c role.0 d
  here : role.0 ≡ u.0
  from : step.peer.0 ≡ p.0

takes_one : (a : Accepted_data) (past : List Event) (p u : Role) (place : ℕ) (c0 c d : Configuration) (before : ℕ) (events : List Event) (event : Event) → IsAcceptedSession a → u.0 < length a.machines
    → Following a past p u place c0 c before events → (ad : Advances a.machines p u c d event true) → TakesOne a past p u c d events ad.role event
takes_one a past p u place c0 c d before events event s hu f ad =
    let act = acted a past p u place c0 c d before events event true s hu f ad in
    by act act.kind
  where
    by : Acted a past p c d events ad.role event → How a.machines c d ad.role event → TakesOne a past p u c d events ad.role event
    by act (Sending peer arms v h e st) = absurd (let no = send_takes a.machines c ad.role p u peer arms h in let good = ad.tells in cc (no, good))
    by act (Receiving peer arms h e st ep) = elim (receive_takes a.machines c ad.role p u peer arms h) [
      | inr t ↦ absurd (let no = t.0 in let good = ad.tells in cc (no, good))
      | inl t ↦ (let Q : ℕ → Role → Type 0 = λ z y. state_at a.machines c z ≡ Some (Takes y arms) in
          record {
            acts = act;
            arms = arms;
            takes = subst₂ Q t.1 (same_role peer p t.2) h;
            receives = e ∙ ap (λ (z : Role). Receive z) (same_role ad.role u t.1);
            step = st;
            here = t.1;
            from = ap (λ (z : Role). z.0) ep ∙ t.2;
          })
    ]

-- an older message is taken: the message comes one place nearer
pub comes_nearer : (a : Accepted_data) (past : List Event) (p u : Role) (place : ℕ) (c0 c d : Configuration) (before : ℕ) (events : List Event) (event : Event) → IsAcceptedSession a
    → u.0 < length a.machines
    → Following a past p u place c0 c (suc before) events → Advances a.machines p u c d event true → Following a past p u place c0 d before (events ++ (event ∷ []))
comes_nearer a past p u place c0 c d before events event s hu f ad =
    let o = takes_one a past p u place c0 c d (suc before) events event s hu f ad in
    let R : ℕ → Type 0 = λ z. Receives a.machines c z d in
    let T : Event → List Event → Type 0 = λ y z. IsTaken a.machines p u c (suc before) (y ∷ z) in
    goes_to a past p u place c0 c d before events ad.role event f.ahead f.enough f.count o.acts
    (nearer a.machines (WalksOf a.protocol a.projections a.machines a.derivations) (done_after (done_in past) events) f.ahead c f.standing.0
    (setting a.protocol a.projections a.machines a.derivations (of_accepted a s)).peered p u.0 before (low_of a past p) ad.role.0 d o.step o.here o.from f.standing.1)
    (more a.machines p u c0 c d place (suc before) before events event f.so_far
    (λ rest t. (let Q : Event → Type 0 = λ y. T y rest in subst Q (sym o.receives) (Older c d o.arms before rest o.takes (subst R o.here o.step) t))))
    (more_values a past p u place c0 c d (suc before) events event true f ad)

-- the message itself is taken
pub arrives : (a : Accepted_data) (past : List Event) (p u : Role) (place : ℕ) (c0 c d : Configuration) (events : List Event) (event : Event) → IsAcceptedSession a → u.0 < length a.machines
    → Following a past p u place c0 c 0 events → Advances a.machines p u c d event true → IsTaken a.machines p u c0 place (events ++ (event ∷ []))
arrives a past p u place c0 c d events event s hu f ad =
    let o = takes_one a past p u place c0 c d 0 events event s hu f ad in
    let R : ℕ → Type 0 = λ z. Receives a.machines c z d in
    let T : Event → Type 0 = λ y. IsTaken a.machines p u c 0 (y ∷ []) in
    f.so_far (event ∷ []) (subst T (sym o.receives) (Oldest c d o.arms o.takes (subst R o.here o.step)))

-- and what was sent on the way are empty values
pub all_empty : (a : Accepted_data) (past : List Event) (p u : Role) (place : ℕ) (c0 c d : Configuration) (before : ℕ) (events : List Event) (event : Event) (takes : Bool)
    → Following a past p u place c0 c before events → Advances a.machines p u c d event takes → CarryEmptyValues a.machines c0 (events ++ (event ∷ []))
all_empty a past p u place c0 c d before events event takes f ad = f.values (event ∷ []) (d, empty_step a.machines c d ad.role event ad.acts ad.step, tt)

-- a message stands at a place below the length
pub stands_at : (queue : List Message) (place : ℕ) → place < length queue → (message : Message) × (slice_get queue place ≡ Some message)
stands_at [] place low = absurd (omega arith)
stands_at (m ∷ ms) zero low = (m, refl)
stands_at (m ∷ ms) (suc place) low = stands_at ms place (omega arith)

-- there are few events
pub few_events : (a : Accepted_data) (past : List Event) (p u : Role) (place : ℕ) (c0 c d : Configuration) (before : ℕ) (events : List Event) (event : Event) (takes : Bool) → IsAcceptedSession a
    → u.0 < length a.machines
    → Following a past p u place c0 c before events → Advances a.machines p u c d event takes
    → length (events ++ (event ∷ [])) ≤ 2 * length a.machines * length a.protocol.nodes * (acts_by p.0 past + 3 * room_of a.derivations)
few_events a past p u place c0 c d before events event takes s hu f ad =
    let act = acted a past p u place c0 c d before events event takes s hu f ad in
    let t = total_falls (length a.machines) (most_of a past p) ad.role.0 (done_after (done_in past) events) act.present act.bounded in
    let n = f.count in
    let most : length (events ++ (event ∷ [])) ≤ length a.machines * most_of a past p = omega (arith, length-append events (event ∷ [])) in
    let b = within_bound (length a.machines) (length a.protocol.nodes) (done_in past p.0) (most_owed a.derivations) (most_lag a.derivations) (let h = s.is_session.well_formed.root in omega arith) in
    let e : done_in past p.0 ≡ acts_by p.0 past = counts (λ z. 0) past p.0 ∙ omega arith in
    rw (← e) (omega arith)

-- each act leaves fewer
pub falls : (a : Accepted_data) (past : List Event) (p u : Role) (place : ℕ) (c0 c d : Configuration) (before : ℕ) (events : List Event) (event : Event) (takes : Bool) → IsAcceptedSession a
    → u.0 < length a.machines
    → Following a past p u place c0 c before events → Advances a.machines p u c d event takes
    → total (length a.machines) (most_of a past p) (done_after (done_in past) (events ++ (event ∷ []))) < total (length a.machines) (most_of a past p) (done_after (done_in past) events)
falls a past p u place c0 c d before events event takes s hu f ad =
    let act = acted a past p u place c0 c d before events event takes s hu f ad in
    let t = total_falls (length a.machines) (most_of a past p) ad.role.0 (done_after (done_in past) events) act.present act.bounded in
    let e : done_after (done_in past) (events ++ (event ∷ [])) ≡ one_more (done_after (done_in past) events) ad.role.0 =
    done_snoc (done_in past) events event ∙ ap (λ (z : ℕ). one_more (done_after (done_in past) events) z) (role_by a.machines c d ad.role event act.kind) in
    let N : (ℕ → ℕ) → Type 0 = λ z. total (length a.machines) (most_of a past p) z < total (length a.machines) (most_of a past p) (done_after (done_in past) events) in
    subst N (sym e) (omega arith)

-- each act leaves fewer, as they are counted down
pub counts_down : (a : Accepted_data) (past : List Event) (p u : Role) (place : ℕ) (c0 c d : Configuration) (before : ℕ) (events : List Event) (event : Event) → IsAcceptedSession a
    → u.0 < length a.machines
    → Following a past p u place c0 c before events → Advances a.machines p u c d event true → before ≢ 0 → Following a past p u place c0 d (before - 1) (events ++ (event ∷ []))
counts_down a past p u place c0 c d zero events event s hu f ad some = absurd (some refl)
counts_down a past p u place c0 c d (suc k) events event s hu f ad some =
    let e : k ≡ suc k - 1 = omega arith in
    let P : ℕ → Type 0 = λ z. Following a past p u place c0 d z (events ++ (event ∷ [])) in
    subst P e (comes_nearer a past p u place c0 c d k events event s hu f ad)

-- the same advance, of an equal event
pub advances_as : (ms : List Machine_data) (p u : Role) (c d : Configuration) (e e' : Event) (t t' : Bool) → Advances ms p u c d e t → e ≡ e' → t ≡ t' → Advances ms p u c d e' t'
advances_as ms p u c d e e' t t' ad se st = let P : Event → Bool → Type 0 = λ x y. Advances ms p u c d x y in subst₂ P se st ad
