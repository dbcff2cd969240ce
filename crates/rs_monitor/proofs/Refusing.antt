-- An act is one of a state's exactly if it leads somewhere, and is refused for a reason exactly if that is the first one found.
use Rattle.std.proofs.Common.{IfOk, IfErr, ◌≡◌, ◌≢◌, ◌⊎◌, inl, inr, ℕ, Bool, true, false, ◌==◌, List, Option, Some, None, Result, Ok, Err, slice_get, refl, ap, subst, sym, ◌∙◌, if◌then◌else◌}
use Rattle.std.proofs.lemmas.Bool.Decides.{eqb_tells}
use Rattle.rs_core.specs.declared.messages.Message.{Message}
use Rattle.rs_model.specs.Sorts.{HasSort}
use Rattle.rs_model.specs.declared.graph.Arm.{Arm}
use Rattle.rs_model.specs.declared.graph.Label.{Label}
use Rattle.rs_model.specs.declared.graph.Role.{Role}
use Rattle.rs_model.specs.declared.machines.State.{State}
use Rattle.rs_model.specs.declared.machines.State.TheVariants.{Done, Puts, Takes}
use Rattle.rs_model.specs.declared.values.Value.{Value}
use Rattle.rs_monitor.specs.Acts.{ProgramAct, Sent, Received, IsActOf, message_of, peer_of, state_for}
use Rattle.rs_monitor.specs.Nexts.{arm_for, has_label, next_after, next_by_arm, next_by_arms, next_by_peer, refusal_by, refused_by_peer}
use Rattle.rs_monitor.specs.Refusals.{HasLabel, HasNoSort, HasPeer, IsRefusedFor}
use Rattle.rs_monitor.specs.declared.acts.Refusal.{Refusal}
use Rattle.rs_monitor.specs.declared.acts.Refusal.TheVariants.{AnotherPeer, StateReceives, StateSends, NoSuchLabel, AnotherSort, HasEnded}
use Rattle.rs_monitor.proofs.Letting.{Fitting, arm_found, arm_missing, label_found, label_missing}

same_role : (p q : Role) → (p.0 == q.0) ≡ true → p ≡ q
same_role p q e = elim (eqb_tells p.0 q.0) [
  | inl t ↦ (let role : ℕ → Role = λ n. record { 0 = n } in ap role t.1)
  | inr t ↦ absurd (cc (t.0, e))
]

other_role : (p q : Role) → (p.0 == q.0) ≡ false → p ≢ q
other_role p q e same = elim (eqb_tells p.0 q.0) [ inl t ↦ absurd (cc (t.0, e)) | inr t ↦ t.1 (ap (λ (z : Role). z.0) same) ]

role_test : (p : Role) → (p.0 == p.0) ≡ true
role_test p = elim (eqb_tells p.0 p.0) [ inl t ↦ t.0 | inr t ↦ absurd (t.1 refl) ]

role_differs : (p q : Role) → p ≢ q → (p.0 == q.0) ≡ false
role_differs p q ne = elim (eqb_tells p.0 q.0) [
  | inl t ↦ absurd (ne (let role : ℕ → Role = λ n. record { 0 = n } in ap role t.1))
  | inr t ↦ t.0
]

-- where the message of the act leads by the arms
abbrev arms_next : List Arm → ProgramAct → Result ℕ Refusal
arms_next arms act = next_by_arms arms (message_of act).label (message_of act).value

arms_lead : (arms : List Arm) (act : ProgramAct) (next : ℕ) → arms_next arms act ≡ Ok next
    → (place : ℕ) × (arm : Arm) × Fitting arms (message_of act).label (message_of act).value place arm × (arm.next ≡ next)
arms_lead arms act next h = by (arm_for arms (message_of act).label (message_of act).value) (has_label arms (message_of act).label) refl h
  where
    by : (o : Option Arm) (b : Bool) → arm_for arms (message_of act).label (message_of act).value ≡ o → next_by_arm o b ≡ Ok next
        → (place : ℕ) × (arm : Arm) × Fitting arms (message_of act).label (message_of act).value place arm × (arm.next ≡ next)
    by (Some arm) b e h = let t = arm_found arms (message_of act).label (message_of act).value arm e in (t.0, arm, t.1, cc (h))
    by None b e h = absurd (cc (h))

-- why the message of the act leads nowhere by the arms
abbrev Unled : List Arm → ProgramAct → Refusal → Type 0
Unled arms act r = ((r ≡ NoSuchLabel) × (HasLabel arms act → ⊥)) ⊎ ((r ≡ AnotherSort) × HasLabel arms act × HasNoSort arms act)

has_one : (arms : List Arm) (act : ProgramAct) → has_label arms (message_of act).label ≡ true → HasLabel arms act
has_one arms act h = let t = label_found arms (message_of act).label h in record { place = t.0; arm = t.1; picks = t.2; same_label = t.3 }

arms_refuse : (arms : List Arm) (act : ProgramAct) (r : Refusal) → arms_next arms act ≡ Err r → Unled arms act r
arms_refuse arms act r h = by (arm_for arms (message_of act).label (message_of act).value) (has_label arms (message_of act).label) refl refl h
  where
    by : (o : Option Arm) (b : Bool) → arm_for arms (message_of act).label (message_of act).value ≡ o → has_label arms (message_of act).label ≡ b
        → next_by_arm o b ≡ Err r → Unled arms act r
    by (Some arm) b e f h = absurd (cc (h))
    by None true e f h = inr (cc (h), has_one arms act f, arm_missing arms (message_of act).label (message_of act).value e)
    by None false e f h = inl (cc (h), λ has. label_missing arms (message_of act).label f has.place has.arm has.picks has.same_label)

-- the test of the peer
peer_leads : (b : Bool) (x : Result ℕ Refusal) (next : ℕ) → (if b then x else Err AnotherPeer) ≡ Ok next → (b ≡ true) × (x ≡ Ok next)
peer_leads true x next h = (refl, h)
peer_leads false x next h = absurd (cc (h))

peer_refuses : (b : Bool) (x : Result ℕ Refusal) (r : Refusal) → (if b then x else Err AnotherPeer) ≡ Err r
    → ((b ≡ true) × (x ≡ Err r)) ⊎ ((b ≡ false) × (r ≡ AnotherPeer))
peer_refuses true x r h = inl (refl, h)
peer_refuses false x r h = inr (refl, cc (h))

abbrev err_of : Refusal → Result ℕ Refusal
err_of r = Err r

turned : (b : Bool) (x r : Refusal) → err_of (if b then x else AnotherPeer) ≡ Err r → ((b ≡ true) × (r ≡ x)) ⊎ ((b ≡ false) × (r ≡ AnotherPeer))
turned true x r h = inl (refl, cc (h))
turned false x r h = inr (refl, cc (h))

by_found : (o : Option State) (act : ProgramAct) (next : ℕ) (arms : List Arm) → o ≡ Some (state_for act arms) → arms_next arms act ≡ Ok next → IsActOf o act next
by_found o act next arms stands h =
    let t = arms_lead arms act next h in
    record { arms = arms; place = t.0; arm = t.1; stands = stands; picks = t.2.0; same_label = t.2.1; has_sort = t.2.2; goes = t.3 }

pub lets : (o : Option State) (act : ProgramAct) (next : ℕ) → next_after o act ≡ Ok next → IsActOf o act next
lets None act next h = absurd (cc (h))
lets (Some Done) act next h = absurd (cc (h))
lets (Some (Puts other arms)) (Sent peer message) next h =
    let t = peer_leads (other.0 == peer.0) (next_by_arms arms message.label message.value) next h in
    by_found (Some (Puts other arms)) (Sent peer message) next arms (ap (λ (z : Role). Some (Puts z arms)) (same_role other peer t.0)) t.1
lets (Some (Puts other arms)) (Received peer message) next h = absurd (cc (h))
lets (Some (Takes other arms)) (Sent peer message) next h = absurd (cc (h))
lets (Some (Takes other arms)) (Received peer message) next h =
    let t = peer_leads (other.0 == peer.0) (next_by_arms arms message.label message.value) next h in
    by_found (Some (Takes other arms)) (Received peer message) next arms (ap (λ (z : Role). Some (Takes z arms)) (same_role other peer t.0)) t.1

by_arms : (o : Option State) (act : ProgramAct) (r : Refusal) (arms : List Arm) → o ≡ Some (state_for act arms) → Unled arms act r → IsRefusedFor o act r
by_arms o act r arms stands (inl u) = let P : Refusal → Type 0 = λ z. IsRefusedFor o act z in subst P (sym u.0) (arms, stands, u.1)
by_arms o act r arms stands (inr u) = let P : Refusal → Type 0 = λ z. IsRefusedFor o act z in subst P (sym u.0) (arms, stands, u.1, u.2)

by_peer : (o : Option State) (act : ProgramAct) (r : Refusal) (other : Role) (arms : List Arm) → HasPeer o other arms → (other.0 == (peer_of act).0) ≡ false → r ≡ AnotherPeer → IsRefusedFor o act r
by_peer o act r other arms has test e =
    let P : Refusal → Type 0 = λ z. IsRefusedFor o act z in subst P (sym e) (other, arms, has, other_role other (peer_of act) test)

pub refuses : (o : Option State) (act : ProgramAct) (r : Refusal) → next_after o act ≡ Err r → IsRefusedFor o act r
refuses None act r h =
    let e : r ≡ HasEnded = cc (h) in
    let P : Refusal → Type 0 = λ z. IsRefusedFor None act z in
    subst P (sym e) (λ peer arms has. elim has [ inl is ↦ absurd (cc (is)) | inr is ↦ absurd (cc (is)) ])
refuses (Some Done) act r h =
    let e : r ≡ HasEnded = cc (h) in
    let P : Refusal → Type 0 = λ z. IsRefusedFor (Some Done) act z in
    subst P (sym e) (λ peer arms has. elim has [ inl is ↦ absurd (cc (is)) | inr is ↦ absurd (cc (is)) ])
refuses (Some (Puts other arms)) (Sent peer message) r h = elim (peer_refuses (other.0 == peer.0) (next_by_arms arms message.label message.value) r h) [
  | inl t ↦ by_arms (Some (Puts other arms)) (Sent peer message) r arms (ap (λ (z : Role). Some (Puts z arms)) (same_role other peer t.0)) (arms_refuse arms (Sent peer message) r t.1)
  | inr t ↦ by_peer (Some (Puts other arms)) (Sent peer message) r other arms (inl refl) t.0 t.1
]
refuses (Some (Puts other arms)) (Received peer message) r h = elim (turned (other.0 == peer.0) StateSends r h) [
  | inl t ↦ (let P : Refusal → Type 0 = λ z. IsRefusedFor (Some (Puts other arms)) (Received peer message) z in
      subst P (sym t.1) (arms, ap (λ (z : Role). Some (Puts z arms)) (same_role other peer t.0)))
  | inr t ↦ by_peer (Some (Puts other arms)) (Received peer message) r other arms (inl refl) t.0 t.1
]
refuses (Some (Takes other arms)) (Sent peer message) r h = elim (turned (other.0 == peer.0) StateReceives r h) [
  | inl t ↦ (let P : Refusal → Type 0 = λ z. IsRefusedFor (Some (Takes other arms)) (Sent peer message) z in
      subst P (sym t.1) (arms, ap (λ (z : Role). Some (Takes z arms)) (same_role other peer t.0)))
  | inr t ↦ by_peer (Some (Takes other arms)) (Sent peer message) r other arms (inr refl) t.0 t.1
]
refuses (Some (Takes other arms)) (Received peer message) r h = elim (peer_refuses (other.0 == peer.0) (next_by_arms arms message.label message.value) r h) [
  | inl t ↦ by_arms (Some (Takes other arms)) (Received peer message) r arms (ap (λ (z : Role). Some (Takes z arms)) (same_role other peer t.0)) (arms_refuse arms (Received peer message) r t.1)
  | inr t ↦ by_peer (Some (Takes other arms)) (Received peer message) r other arms (inr refl) t.0 t.1
]

-- in a state for the act it leads where the arms say
next_for : (act : ProgramAct) (arms : List Arm) → next_after (Some (state_for act arms)) act ≡ arms_next arms act
next_for (Sent peer message) arms = rw (role_test peer) refl
next_for (Received peer message) arms = rw (role_test peer) refl

next_where : (o : Option State) (act : ProgramAct) (arms : List Arm) → o ≡ Some (state_for act arms) → next_after o act ≡ arms_next arms act
next_where o act arms e = ap (λ (z : Option State). next_after z act) e ∙ next_for act arms

-- the arms lead somewhere where one fits
arms_go : (arms : List Arm) (act : ProgramAct) (place : ℕ) (arm : Arm) → Fitting arms (message_of act).label (message_of act).value place arm
    → (next : ℕ) × (arms_next arms act ≡ Ok next)
arms_go arms act place arm fit = by (arm_for arms (message_of act).label (message_of act).value) (has_label arms (message_of act).label) refl
  where
    by : (o : Option Arm) (b : Bool) → arm_for arms (message_of act).label (message_of act).value ≡ o → (next : ℕ) × (next_by_arm o b ≡ Ok next)
    by (Some found) b e = (found.next, refl)
    by None b e = absurd (arm_missing arms (message_of act).label (message_of act).value e place arm fit.0 fit.1 fit.2)

pub leads : (o : Option State) (act : ProgramAct) (next : ℕ) → IsActOf o act next → (n : ℕ) × (next_after o act ≡ Ok n)
leads o act next is =
    let t = arms_go is.arms act is.place is.arm (is.picks, is.same_label, is.has_sort) in
    (t.0, next_where o act is.arms is.stands ∙ t.1)

-- no arm is found where none has the label, or none of these the sort
none_without_label : (arms : List Arm) (act : ProgramAct) → (HasLabel arms act → ⊥) → arms_next arms act ≡ Err NoSuchLabel
none_without_label arms act none = by (arm_for arms (message_of act).label (message_of act).value) (has_label arms (message_of act).label) refl refl
  where
    by : (o : Option Arm) (b : Bool) → arm_for arms (message_of act).label (message_of act).value ≡ o → has_label arms (message_of act).label ≡ b
        → next_by_arm o b ≡ Err NoSuchLabel
    by (Some arm) b e f = let t = arm_found arms (message_of act).label (message_of act).value arm e in
        absurd (none record { place = t.0; arm = arm; picks = t.1.0; same_label = t.1.1 })
    by None true e f = absurd (none (has_one arms act f))
    by None false e f = refl

none_without_sort : (arms : List Arm) (act : ProgramAct) → HasLabel arms act → HasNoSort arms act → arms_next arms act ≡ Err AnotherSort
none_without_sort arms act has none = by (arm_for arms (message_of act).label (message_of act).value) (has_label arms (message_of act).label) refl refl
  where
    by : (o : Option Arm) (b : Bool) → arm_for arms (message_of act).label (message_of act).value ≡ o → has_label arms (message_of act).label ≡ b
        → next_by_arm o b ≡ Err AnotherSort
    by (Some arm) b e f = let t = arm_found arms (message_of act).label (message_of act).value arm e in absurd (none t.0 arm t.1.0 t.1.1 t.1.2)
    by None true e f = refl
    by None false e f = absurd (label_missing arms (message_of act).label f has.place has.arm has.picks has.same_label)

puts_peer : (act : ProgramAct) (other : Role) (arms : List Arm) → other ≢ peer_of act → next_after (Some (Puts other arms)) act ≡ Err AnotherPeer
puts_peer (Sent peer message) other arms ne = rw (role_differs other peer ne) refl
puts_peer (Received peer message) other arms ne = rw (role_differs other peer ne) refl

takes_peer : (act : ProgramAct) (other : Role) (arms : List Arm) → other ≢ peer_of act → next_after (Some (Takes other arms)) act ≡ Err AnotherPeer
takes_peer (Sent peer message) other arms ne = rw (role_differs other peer ne) refl
takes_peer (Received peer message) other arms ne = rw (role_differs other peer ne) refl

ended : (o : Option State) (act : ProgramAct) → ((peer : Role) (arms : List Arm) → HasPeer o peer arms → ⊥) → next_after o act ≡ Err HasEnded
ended None act none = refl
ended (Some Done) act none = refl
ended (Some (Puts peer arms)) act none = absurd (none peer arms (inl refl))
ended (Some (Takes peer arms)) act none = absurd (none peer arms (inr refl))

pub refused : (r : Refusal) (o : Option State) (act : ProgramAct) → IsRefusedFor o act r → next_after o act ≡ Err r
refused AnotherPeer o act (other, arms, inl is, ne) = ap (λ (z : Option State). next_after z act) is ∙ puts_peer act other arms ne
refused AnotherPeer o act (other, arms, inr is, ne) = ap (λ (z : Option State). next_after z act) is ∙ takes_peer act other arms ne
refused StateReceives o (Sent peer message) h = ap (λ (z : Option State). next_after z (Sent peer message)) h.1 ∙ rw (role_test peer) refl
refused StateReceives o (Received peer message) h = absurd h
refused StateSends o (Sent peer message) h = absurd h
refused StateSends o (Received peer message) h = ap (λ (z : Option State). next_after z (Received peer message)) h.1 ∙ rw (role_test peer) refl
refused NoSuchLabel o act h = next_where o act h.0 h.1 ∙ none_without_label h.0 act h.2
refused AnotherSort o act h = next_where o act h.0 h.1 ∙ none_without_sort h.0 act h.2 h.3
refused HasEnded o act h = ended o act h

pub either : (o : Option State) (act : ProgramAct) → ((next : ℕ) × IsActOf o act next) ⊎ ((r : Refusal) × IsRefusedFor o act r)
either o act = by (next_after o act) refl
  where
    by : (x : Result ℕ Refusal) → next_after o act ≡ x → ((next : ℕ) × IsActOf o act next) ⊎ ((r : Refusal) × IsRefusedFor o act r)
    by (Ok next) e = inl (next, lets o act next e)
    by (Err r) e = inr (r, refuses o act r e)

pub not_both : (o : Option State) (act : ProgramAct) (next : ℕ) (r : Refusal) → IsActOf o act next → IsRefusedFor o act r → ⊥
not_both o act next r is refused' = let t = leads o act next is in let u = refused r o act refused' in let bad : Ok t.0 ≡ Err r = sym t.1 ∙ u in absurd (cc (bad))

same_refusal : (r s : Refusal) → err_of r ≡ err_of s → r ≡ s
same_refusal r s e = cc (e)

pub one : (o : Option State) (act : ProgramAct) (r s : Refusal) → IsRefusedFor o act r → IsRefusedFor o act s → r ≡ s
one o act r s x y = let e : err_of r ≡ err_of s = sym (refused r o act x) ∙ refused s o act y in same_refusal r s e

pub told_act : (o : Option State) (act : ProgramAct) (x : Result ℕ Refusal) → x ≡ next_after o act → IfOk x (λ next. IsActOf o act next)
told_act o act (Ok next) e = lets o act next (sym e)
told_act o act (Err r) e = tt

pub told_refusal : (o : Option State) (act : ProgramAct) (x : Result ℕ Refusal) → x ≡ next_after o act → IfErr x (IsRefusedFor o act)
told_refusal o act (Ok next) e = tt
told_refusal o act (Err r) e = refuses o act r (sym e)
