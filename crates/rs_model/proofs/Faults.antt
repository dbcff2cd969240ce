-- What the first fault of a machine says, and that a machine has none exactly where it is well formed.
use Rattle.std.proofs.Common.{◌≡◌, ◌≢◌, ℕ, zero, suc, ◌+◌, ◌<◌, ◌≤◌, List, [], ◌∷◌, length, cond, eqb, ltb, leb, ◌&&◌, Option, Some, None, slice_get, inl, inr, ⊎_elim, sym, refl, ap, subst, ◌∙◌}
use Rattle.std.proofs.Common.{arith, zero-add}
use Rattle.std.proofs.lemmas.Bool.{ltb-true, ltb-false, leb-true, leb-false, eqb-true, eqb-false, and_cases, and_parts}
use Rattle.std.proofs.lemmas.Option.{none-some, same_Some}
use Rattle.std.specs.List.{list_any}
use Rattle.rs_model.proofs.FirstFailed.{or_some, or_none, cond_is, label_is, label_none, any_place, any_not, role_same, stands_twice, once}
use Rattle.rs_model.specs.FirstFailed.{or_later, label_fault}
use Rattle.rs_model.proofs.Order.{in_order}
use Rattle.rs_model.specs.Data.{Machine_data}
use Rattle.rs_model.specs.Checks.{nexts_fault, peer_fault, arms_fault, choice_fault, state_fault, states_fault, start_fault, machine_fault}
use Rattle.rs_model.specs.Repeats.{first_repeat}
use Rattle.rs_model.specs.Faults.{Chooses, LeadsOut, Blames, first_fault}
use Rattle.rs_model.specs.WellFormed.{StateFits, IsWellFormedMachine}
use Rattle.rs_model.specs.declared.checks.MachineFault.{MachineFault}
use Rattle.rs_model.specs.declared.checks.MachineFault.TheVariants.{BadNext, NoArms, TwiceLabel, SelfPeer, UnknownPeer}
use Rattle.rs_model.specs.declared.graph.Arm.{Arm}
use Rattle.rs_model.specs.declared.graph.Role.{Role}
use Rattle.rs_model.specs.declared.machines.State.{State}
use Rattle.rs_model.specs.declared.machines.State.TheVariants.{Done, Puts, Takes}

-- what is told of a state that puts or takes

arms_blamed : (m : Machine_data) (roles s : ℕ) (peer : Role) (arms : List Arm) (f : MachineFault)
    → arms_fault s arms ≡ Some f → Chooses m s peer arms → Blames m roles f
arms_blamed m roles s peer [] f e ch = subst (λ g. Blames m roles g) (same_Some (NoArms s) f e) (peer, ch)
arms_blamed m roles s peer (a ∷ arms) f e ch =
    ⊎_elim (λ h. let k : length (a ∷ arms) ≡ 0 = eqb-true (length (a ∷ arms)) 0 h.0 in absurd (omega arith))
    (λ h. absurd (none-some f h.1)) (cond_is (eqb (length (a ∷ arms)) 0) (Some (NoArms s)) None (Some f) e)

arms_some : (s : ℕ) (arms : List Arm) → arms_fault s arms ≡ None → arms ≢ []
arms_some s [] e h = none-some (NoArms s) (sym e)
arms_some s (a ∷ arms) e h = let k : length (a ∷ arms) ≡ length {A = Arm} [] = ap length h in absurd (omega arith)

peer_blamed : (m : Machine_data) (roles s : ℕ) (peer : Role) (arms : List Arm) (f : MachineFault)
    → peer_fault m roles s peer ≡ Some f → Chooses m s peer arms → Blames m roles f
peer_blamed m roles s peer arms f e ch =
    ⊎_elim
    (λ h.
    subst (λ g. Blames m roles g) (same_Some (SelfPeer s) f h.1)
    (arms, subst (λ q. Chooses m s q arms) (role_same peer m.role (eqb-true peer.0 m.role.0 h.0)) ch))
    (λ h.
    ⊎_elim (λ k. absurd (none-some f k.1))
    (λ k.
    subst (λ g. Blames m roles g) (same_Some (UnknownPeer s) f k.1)
    (peer, arms, ch, ltb-false peer.0 roles k.0))
    (cond_is (ltb peer.0 roles) None (Some (UnknownPeer s)) (Some f) h.1))
    (cond_is (eqb peer.0 m.role.0) (Some (SelfPeer s)) (cond (ltb peer.0 roles) None (Some (UnknownPeer s)))
    (Some f) e)

peer_fits : (m : Machine_data) (roles s : ℕ) (peer : Role) → peer_fault m roles s peer ≡ None
    → (peer ≢ m.role) × (peer.0 < roles)
peer_fits m roles s peer e =
    ⊎_elim (λ h. absurd (none-some (SelfPeer s) (sym h.1)))
    (λ h.
    ⊎_elim
    (λ k. (λ q. eqb-false peer.0 m.role.0 h.0 (ap (λ x. x.0) q), ltb-true peer.0 roles k.0))
    (λ k. absurd (none-some (UnknownPeer s) (sym k.1)))
    (cond_is (ltb peer.0 roles) None (Some (UnknownPeer s)) None h.1))
    (cond_is (eqb peer.0 m.role.0) (Some (SelfPeer s)) (cond (ltb peer.0 roles) None (Some (UnknownPeer s)))
    None e)

twice_blamed : (m : Machine_data) (roles s : ℕ) (peer : Role) (arms : List Arm) (f : MachineFault)
    → label_fault (λ l. TwiceLabel s l) (first_repeat arms []) ≡ Some f → Chooses m s peer arms → Blames m roles f
twice_blamed m roles s peer arms f e ch =
    let r = label_is (λ l. TwiceLabel s l) (first_repeat arms []) f e in
    subst (λ g. Blames m roles g) r.2 (peer, arms, ch, stands_twice arms [] r.0 r.1)

nexts_blamed : (m : Machine_data) (roles s : ℕ) (peer : Role) (arms : List Arm) (f : MachineFault)
    → nexts_fault s (length m.states) arms ≡ Some f → Chooses m s peer arms → Blames m roles f
nexts_blamed m roles s peer arms f e ch =
    ⊎_elim
    (λ h.
    let r = any_place (λ a. leb (length m.states) a.next) arms h.0 in
    let out : LeadsOut m s =
    record {
      peer = peer;
      arms = arms;
      place = r.0;
      arm = r.1;
      chooses = ch;
      stands = r.2;
      out = leb-true (length m.states) r.1.next r.3;
    } in
    subst (λ g. Blames m roles g) (same_Some (BadNext s) f h.1) (inr out))
    (λ h. absurd (none-some f h.1))
    (cond_is (list_any (λ a. leb (length m.states) a.next) arms) (Some (BadNext s)) None (Some f) e)

nexts_fit : (s count : ℕ) (arms : List Arm) → nexts_fault s count arms ≡ None → (i : ℕ) (a : Arm)
    → slice_get arms i ≡ Some a → a.next < count
nexts_fit s count arms e i a g =
    ⊎_elim (λ h. absurd (none-some (BadNext s) (sym h.1)))
    (λ h. leb-false count a.next (any_not (λ b. leb count b.next) arms i a h.0 g))
    (cond_is (list_any (λ b. leb count b.next) arms) (Some (BadNext s)) None None e)

choice_blamed : (m : Machine_data) (roles s : ℕ) (peer : Role) (arms : List Arm) (f : MachineFault)
    → choice_fault m roles s peer arms ≡ Some f → Chooses m s peer arms → Blames m roles f
choice_blamed m roles s peer arms f e ch =
    let labels : Option MachineFault = label_fault (λ l. TwiceLabel s l) (first_repeat arms []) in
    let nexts : Option MachineFault = nexts_fault s (length m.states) arms in
    ⊎_elim (λ h. arms_blamed m roles s peer arms f h ch)
    (λ h.
    ⊎_elim (λ k. peer_blamed m roles s peer arms f k ch)
    (λ k.
    ⊎_elim (λ x. twice_blamed m roles s peer arms f x ch)
    (λ x. nexts_blamed m roles s peer arms f x ch) (or_some labels nexts f k))
    (or_some (peer_fault m roles s peer) (or_later labels nexts) f h))
    (or_some (arms_fault s arms) (or_later (peer_fault m roles s peer) (or_later labels nexts)) f e)

choice_fits : (m : Machine_data) (roles s : ℕ) (peer : Role) (arms : List Arm)
    → choice_fault m roles s peer arms ≡ None → StateFits m roles peer arms
choice_fits m roles s peer arms e =
    let labels : Option MachineFault = label_fault (λ l. TwiceLabel s l) (first_repeat arms []) in
    let nexts : Option MachineFault = nexts_fault s (length m.states) arms in
    let p = or_none (arms_fault s arms) (or_later (peer_fault m roles s peer) (or_later labels nexts)) e in
    let q = or_none (peer_fault m roles s peer) (or_later labels nexts) p.1 in
    let r = or_none labels nexts q.1 in
    let right = peer_fits m roles s peer q.0 in
    record {
      some = arms_some s arms p.0;
      other = right.0;
      known = right.1;
      once = once arms (label_none (λ l. TwiceLabel s l) (first_repeat arms []) r.0);
      nexts = nexts_fit s (length m.states) arms r.1;
    }

-- states

state_blamed : (m : Machine_data) (roles s : ℕ) (state : State) (f : MachineFault)
    → slice_get m.states s ≡ Some state → state_fault m roles s state ≡ Some f → Blames m roles f
state_blamed m roles s Done f g e = absurd (none-some f e)
state_blamed m roles s (Puts peer arms) f g e = choice_blamed m roles s peer arms f e (inl g)
state_blamed m roles s (Takes peer arms) f g e = choice_blamed m roles s peer arms f e (inr g)

found : (m : Machine_data) (roles : ℕ) (states : List State) (n : ℕ) (f : MachineFault)
    → states_fault m roles states n ≡ Some f
    → (k : ℕ) × (state : State) × (slice_get states k ≡ Some state) × (state_fault m roles (n + k) state ≡ Some f)
found m roles [] n f e = absurd (none-some f e)
found m roles (state ∷ later) n f e =
    ⊎_elim
    (λ h. let q : n ≡ n + zero = omega arith in
    (zero, state, refl, subst (λ x. state_fault m roles x state ≡ Some f) q h))
    (λ h. let r = found m roles later (n + 1) f h in
    let q : n + 1 + r.0 ≡ n + suc r.0 = omega arith in
    (suc r.0, r.1, r.2, subst (λ x. state_fault m roles x r.1 ≡ Some f) q r.3))
    (or_some (state_fault m roles n state) (states_fault m roles later (n + 1)) f e)

each : (m : Machine_data) (roles : ℕ) (states : List State) (n : ℕ) → states_fault m roles states n ≡ None
    → (k : ℕ) (state : State) → slice_get states k ≡ Some state
    → (s : ℕ) × (state_fault m roles s state ≡ None)
each m roles [] n e k state g = absurd (none-some state g)
each m roles (first ∷ later) n e zero state g =
    let p = or_none (state_fault m roles n first) (states_fault m roles later (n + 1)) e in
    (n, subst (λ x. state_fault m roles n x ≡ None) (same_Some first state g) p.0)
each m roles (first ∷ later) n e (suc k) state g =
    let p = or_none (state_fault m roles n first) (states_fault m roles later (n + 1)) e in
    each m roles later (n + 1) p.1 k state g

-- machines

start_blamed : (m : Machine_data) (roles : ℕ) (f : MachineFault) → start_fault m roles ≡ Some f → Blames m roles f
start_blamed m roles f e =
    ⊎_elim (λ h. absurd (none-some f h.1))
    (λ h.
    subst (λ g. Blames m roles g) (same_Some (BadNext m.start) f h.1)
    (inl (
      refl,
      ⊎_elim (λ k. inl (ltb-false m.start (length m.states) k))
          (λ k. inr (ltb-false m.role.0 roles k))
          (and_cases (ltb m.start (length m.states)) (ltb m.role.0 roles) h.0),
    )))
    (cond_is (ltb m.start (length m.states) && ltb m.role.0 roles) None (Some (BadNext m.start)) (Some f) e)

start_fits : (m : Machine_data) (roles : ℕ) → start_fault m roles ≡ None
    → (m.start < length m.states) × (m.role.0 < roles)
start_fits m roles e =
    ⊎_elim
    (λ h.
    let p = and_parts (ltb m.start (length m.states)) (ltb m.role.0 roles) h.0 in
    (ltb-true m.start (length m.states) p.0, ltb-true m.role.0 roles p.1))
    (λ h. absurd (none-some (BadNext m.start) (sym h.1)))
    (cond_is (ltb m.start (length m.states) && ltb m.role.0 roles) None (Some (BadNext m.start)) None e)

machine_blamed : (m : Machine_data) (roles : ℕ) (f : MachineFault) → machine_fault m roles ≡ Some f → Blames m roles f
machine_blamed m roles f e =
    ⊎_elim (λ h. start_blamed m roles f h)
    (λ h. let r = found m roles m.states 0 f h in
    state_blamed m roles r.0 r.1 f r.2
    (subst (λ x. state_fault m roles x r.1 ≡ Some f) (zero-add r.0) r.3))
    (or_some (start_fault m roles) (states_fault m roles m.states 0) f e)

machine_fits : (m : Machine_data) (roles : ℕ) → machine_fault m roles ≡ None → IsWellFormedMachine m roles
machine_fits m roles e =
    let p = or_none (start_fault m roles) (states_fault m roles m.states 0) e in
    let q = start_fits m roles p.0 in
    record {
      role = q.1;
      start = q.0;
      puts = λ s peer arms g. let r = each m roles m.states 0 p.1 s (Puts peer arms) g in choice_fits m roles r.0 peer arms r.1;
      takes = λ s peer arms g. let r = each m roles m.states 0 p.1 s (Takes peer arms) g in choice_fits m roles r.0 peer arms r.1;
    }

fits_at : (m : Machine_data) (roles s : ℕ) (peer : Role) (arms : List Arm) → IsWellFormedMachine m roles
    → Chooses m s peer arms → StateFits m roles peer arms
fits_at m roles s peer arms w ch = ⊎_elim (λ g. w.puts s peer arms g) (λ g. w.takes s peer arms g) ch

-- a machine that is well formed has no fault
wrong : (m : Machine_data) (roles : ℕ) (f : MachineFault) → Blames m roles f → IsWellFormedMachine m roles → ⊥
wrong m roles (BadNext s) b w =
    ⊎_elim
    (λ h. ⊎_elim (λ k. let z : m.start < length m.states = w.start in omega arith)
    (λ k. let z : m.role.0 < roles = w.role in omega arith) h.1)
    (λ o.
    let z : o.arm.next < length m.states = (fits_at m roles s o.peer o.arms w o.chooses).nexts o.place o.arm o.stands in
    let y : length m.states ≤ o.arm.next = o.out in
    omega arith)
    b
wrong m roles (NoArms s) b w = (fits_at m roles s b.0 [] w b.1).some refl
wrong m roles (TwiceLabel s l) b w =
    let t = b.3 in
    let z : t.first ≡ t.second = (fits_at m roles s b.0 b.1 w b.2).once t.first t.second t.one t.other t.at_first t.at_second (t.its_first ∙ sym t.its_second) in
    let y : t.first < t.second = t.order in
    omega arith
wrong m roles (SelfPeer s) b w = (fits_at m roles s m.role b.0 w b.1).other refl
wrong m roles (UnknownPeer s) b w =
    let z : b.0.0 < roles = (fits_at m roles s b.0 b.1 w b.2).known in
    let y : roles ≤ b.0.0 = b.3 in
    omega arith

none_since : (o : Option MachineFault) → ((f : MachineFault) → o ≡ Some f → ⊥) → o ≡ None
none_since None h = refl
none_since (Some f) h = absurd (h f refl)

pub blamed : (m : Machine_data) (roles : ℕ) (f : MachineFault) → first_fault m roles ≡ Some f → Blames m roles f
blamed m roles f e = machine_blamed m roles f (in_order m roles ∙ e)

pub no_fault : (m : Machine_data) (roles : ℕ) → first_fault m roles ≡ None → IsWellFormedMachine m roles
no_fault m roles e = machine_fits m roles (in_order m roles ∙ e)

pub right : (m : Machine_data) (roles : ℕ) → IsWellFormedMachine m roles → first_fault m roles ≡ None
right m roles w = none_since (first_fault m roles) (λ f e. wrong m roles f (blamed m roles f e) w)
