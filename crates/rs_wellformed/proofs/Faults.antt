-- What the first fault of a protocol says, and that a protocol has none exactly where it is well formed.
use Rattle.std.proofs.Common.{◌≡◌, ◌≢◌, ◌⊎◌, ℕ, zero, suc, ◌+◌, ◌<◌, ◌≤◌, List, [], ◌∷◌, length, Bool, true, cond, eqb, ltb, leb, ◌||◌, Option, Some, None, slice_get, inl, inr, ⊎_elim, sym, refl, ap}
use Rattle.std.proofs.Common.{subst, ◌∙◌, arith, zero-add}
use Rattle.std.proofs.lemmas.Bool.{ltb-true, ltb-false, leb-true, leb-false, eqb-true, eqb-false, or_cases, or_parts}
use Rattle.std.proofs.lemmas.Option.{none-some, same_Some}
use Rattle.std.specs.List.{list_any}
use Rattle.rs_model.proofs.FirstFailed.{or_some, or_none, cond_is, label_is, label_none, any_place, any_not, role_same, stands_twice, once}
use Rattle.rs_model.specs.FirstFailed.{or_later, label_fault}
use Rattle.rs_model.specs.Repeats.{first_repeat}
use Rattle.rs_model.specs.Data.{Protocol_data}
use Rattle.rs_model.specs.declared.graph.Arm.{Arm}
use Rattle.rs_model.specs.declared.graph.Node.{Node}
use Rattle.rs_model.specs.declared.graph.Node.TheVariants.{Finished, Talk}
use Rattle.rs_model.specs.declared.graph.Role.{Role}
use Rattle.rs_wellformed.proofs.Order.{in_order}
use Rattle.rs_wellformed.specs.Checks.{self_fault, count_fault, next_fault, talk_fault, node_fault, nodes_fault, root_fault, protocol_fault}
use Rattle.rs_model.specs.Talks.{Talks}
use Rattle.rs_wellformed.specs.Faults.{ArmLeadsOut, Blames, first_fault}
use Rattle.rs_wellformed.specs.WellFormed.{TalkFits, IsWellFormed}
use Rattle.rs_wellformed.specs.declared.checks.WfFault.{WfFault}
use Rattle.rs_wellformed.specs.declared.checks.WfFault.TheVariants.{SelfTalk, NoArms, TooManyArms, TwiceLabel, BadNext}

-- what is told of a talk

self_blamed : (p : Protocol_data) (n : ℕ) (sender receiver : Role) (arms : List Arm) (f : WfFault)
    → self_fault n sender receiver ≡ Some f → Talks p n sender receiver arms → Blames p f
self_blamed p n sender receiver arms f e t =
    ⊎_elim
    (λ h.
    subst (λ g. Blames p g) (same_Some (SelfTalk n) f h.1) (
      sender,
      arms,
      subst (λ q. Talks p n sender q arms) (sym (role_same sender receiver (eqb-true sender.0 receiver.0 h.0))) t,
    ))
    (λ h. absurd (none-some f h.1)) (cond_is (eqb sender.0 receiver.0) (Some (SelfTalk n)) None (Some f) e)

self_fits : (n : ℕ) (sender receiver : Role) → self_fault n sender receiver ≡ None → sender ≢ receiver
self_fits n sender receiver e =
    ⊎_elim (λ h. absurd (none-some (SelfTalk n) (sym h.1)))
    (λ h. λ q. eqb-false sender.0 receiver.0 h.0 (ap (λ x. x.0) q))
    (cond_is (eqb sender.0 receiver.0) (Some (SelfTalk n)) None None e)

many_blamed : (p : Protocol_data) (n : ℕ) (sender receiver : Role) (arms : List Arm) (f : WfFault)
    → cond (leb (length arms) 32) None (Some (TooManyArms n)) ≡ Some f → Talks p n sender receiver arms → Blames p f
many_blamed p n sender receiver arms f e t =
    ⊎_elim (λ h. absurd (none-some f h.1))
    (λ h.
    subst (λ g. Blames p g) (same_Some (TooManyArms n) f h.1)
    (sender, receiver, arms, t, leb-false (length arms) 32 h.0))
    (cond_is (leb (length arms) 32) None (Some (TooManyArms n)) (Some f) e)

count_blamed : (p : Protocol_data) (n : ℕ) (sender receiver : Role) (arms : List Arm) (f : WfFault)
    → count_fault n arms ≡ Some f → Talks p n sender receiver arms → Blames p f
count_blamed p n sender receiver [] f e t =
    subst (λ g. Blames p g) (same_Some (NoArms n) f e) (sender, receiver, t)
count_blamed p n sender receiver (a ∷ arms) f e t =
    ⊎_elim (λ h. let k : length (a ∷ arms) ≡ 0 = eqb-true (length (a ∷ arms)) 0 h.0 in absurd (omega arith))
    (λ h. many_blamed p n sender receiver (a ∷ arms) f h.1 t)
    (cond_is (eqb (length (a ∷ arms)) 0) (Some (NoArms n))
    (cond (leb (length (a ∷ arms)) 32) None (Some (TooManyArms n))) (Some f) e)

arms_some : (n : ℕ) (arms : List Arm) → count_fault n arms ≡ None → arms ≢ []
arms_some n [] e h = none-some (NoArms n) (sym e)
arms_some n (a ∷ arms) e h = let k : length (a ∷ arms) ≡ length {A = Arm} [] = ap length h in absurd (omega arith)

arms_few : (n : ℕ) (arms : List Arm) → count_fault n arms ≡ None → length arms ≤ 32
arms_few n arms e =
    ⊎_elim (λ h. absurd (none-some (NoArms n) (sym h.1)))
    (λ h.
    ⊎_elim (λ k. leb-true (length arms) 32 k.0) (λ k. absurd (none-some (TooManyArms n) (sym k.1)))
    (cond_is (leb (length arms) 32) None (Some (TooManyArms n)) None h.1))
    (cond_is (eqb (length arms) 0) (Some (NoArms n)) (cond (leb (length arms) 32) None (Some (TooManyArms n)))
    None e)

twice_blamed : (p : Protocol_data) (n : ℕ) (sender receiver : Role) (arms : List Arm) (f : WfFault)
    → label_fault (λ l. TwiceLabel n l) (first_repeat arms []) ≡ Some f → Talks p n sender receiver arms → Blames p f
twice_blamed p n sender receiver arms f e t =
    let r = label_is (λ l. TwiceLabel n l) (first_repeat arms []) f e in
    subst (λ g. Blames p g) r.2 (sender, receiver, arms, t, stands_twice arms [] r.0 r.1)

-- why a next or a role is none
out : (p : Protocol_data) (sender receiver : Role) (arms : List Arm)
    → (list_any (λ a. leb (length p.nodes) a.next) arms || (leb p.roles sender.0 || leb p.roles receiver.0)) ≡ true
    → ArmLeadsOut (length p.nodes) arms ⊎ ((p.roles ≤ sender.0) ⊎ (p.roles ≤ receiver.0))
out p sender receiver arms e =
    ⊎_elim
    (λ h. let r = any_place (λ a. leb (length p.nodes) a.next) arms h in
    inl (record { place = r.0; arm = r.1; stands = r.2; out = leb-true (length p.nodes) r.1.next r.3 }))
    (λ h.
    inr
    (⊎_elim (λ k. inl (leb-true p.roles sender.0 k)) (λ k. inr (leb-true p.roles receiver.0 k))
    (or_cases (leb p.roles sender.0) (leb p.roles receiver.0) h)))
    (or_cases (list_any (λ a. leb (length p.nodes) a.next) arms) (leb p.roles sender.0 || leb p.roles receiver.0) e)

next_blamed : (p : Protocol_data) (n : ℕ) (sender receiver : Role) (arms : List Arm) (f : WfFault)
    → next_fault p n sender receiver arms ≡ Some f → Talks p n sender receiver arms → Blames p f
next_blamed p n sender receiver arms f e t =
    ⊎_elim
    (λ h.
    subst (λ g. Blames p g) (same_Some (BadNext n) f h.1)
    (inr (sender, receiver, arms, t, out p sender receiver arms h.0)))
    (λ h. absurd (none-some f h.1))
    (cond_is (list_any (λ a. leb (length p.nodes) a.next) arms || (leb p.roles sender.0 || leb p.roles receiver.0))
    (Some (BadNext n)) None (Some f) e)

-- the nexts and the roles of a talk with no fault
record Placed (p : Protocol_data) (sender receiver : Role) (arms : List Arm) : Type 0 where
  puts : sender.0 < p.roles
  takes : receiver.0 < p.roles
  nexts : (i : ℕ) (a : Arm) → slice_get arms i ≡ Some a → a.next < length p.nodes

next_fits : (p : Protocol_data) (n : ℕ) (sender receiver : Role) (arms : List Arm)
    → next_fault p n sender receiver arms ≡ None → Placed p sender receiver arms
next_fits p n sender receiver arms e =
    let lost : Bool = list_any (λ a. leb (length p.nodes) a.next) arms in
    let puts : Bool = leb p.roles sender.0 in
    let takes : Bool = leb p.roles receiver.0 in
    ⊎_elim (λ h. absurd (none-some (BadNext n) (sym h.1)))
    (λ h.
    let q = or_parts lost (puts || takes) h.0 in
    let r = or_parts puts takes q.1 in
    record {
      puts = leb-false p.roles sender.0 r.0;
      takes = leb-false p.roles receiver.0 r.1;
      nexts = λ i a g. leb-false (length p.nodes) a.next (any_not (λ b. leb (length p.nodes) b.next) arms i a q.0 g);
    })
    (cond_is (lost || (puts || takes)) (Some (BadNext n)) None None e)

talk_blamed : (p : Protocol_data) (n : ℕ) (sender receiver : Role) (arms : List Arm) (f : WfFault)
    → talk_fault p n sender receiver arms ≡ Some f → Talks p n sender receiver arms → Blames p f
talk_blamed p n sender receiver arms f e t =
    let own : Option WfFault = self_fault n sender receiver in
    let count : Option WfFault = count_fault n arms in
    let labels : Option WfFault = label_fault (λ l. TwiceLabel n l) (first_repeat arms []) in
    let nexts : Option WfFault = next_fault p n sender receiver arms in
    ⊎_elim (λ h. self_blamed p n sender receiver arms f h t)
    (λ h.
    ⊎_elim (λ k. count_blamed p n sender receiver arms f k t)
    (λ k.
    ⊎_elim (λ x. twice_blamed p n sender receiver arms f x t)
    (λ x. next_blamed p n sender receiver arms f x t) (or_some labels nexts f k))
    (or_some count (or_later labels nexts) f h))
    (or_some own (or_later count (or_later labels nexts)) f e)

talk_fits : (p : Protocol_data) (n : ℕ) (sender receiver : Role) (arms : List Arm)
    → talk_fault p n sender receiver arms ≡ None → TalkFits p sender receiver arms
talk_fits p n sender receiver arms e =
    let own : Option WfFault = self_fault n sender receiver in
    let count : Option WfFault = count_fault n arms in
    let labels : Option WfFault = label_fault (λ l. TwiceLabel n l) (first_repeat arms []) in
    let nexts : Option WfFault = next_fault p n sender receiver arms in
    let h = or_none own (or_later count (or_later labels nexts)) e in
    let q = or_none count (or_later labels nexts) h.1 in
    let r = or_none labels nexts q.1 in
    let placed = next_fits p n sender receiver arms r.1 in
    record {
      others = self_fits n sender receiver h.0;
      puts = placed.puts;
      takes = placed.takes;
      some = arms_some n arms q.0;
      bounded = arms_few n arms q.0;
      once = once arms (label_none (λ l. TwiceLabel n l) (first_repeat arms []) r.0);
      nexts = placed.nexts;
    }

-- nodes

node_blamed : (p : Protocol_data) (n : ℕ) (node : Node) (f : WfFault)
    → slice_get p.nodes n ≡ Some node → node_fault p n node ≡ Some f → Blames p f
node_blamed p n Finished f g e = absurd (none-some f e)
node_blamed p n (Talk sender receiver arms) f g e = talk_blamed p n sender receiver arms f e g

found : (p : Protocol_data) (nodes : List Node) (n : ℕ) (f : WfFault) → nodes_fault p nodes n ≡ Some f
    → (k : ℕ) × (node : Node) × (slice_get nodes k ≡ Some node) × (node_fault p (n + k) node ≡ Some f)
found p [] n f e = absurd (none-some f e)
found p (node ∷ later) n f e =
    ⊎_elim
    (λ h. let q : n ≡ n + zero = omega arith in
    (zero, node, refl, subst (λ x. node_fault p x node ≡ Some f) q h))
    (λ h. let r = found p later (n + 1) f h in
    let q : n + 1 + r.0 ≡ n + suc r.0 = omega arith in
    (suc r.0, r.1, r.2, subst (λ x. node_fault p x r.1 ≡ Some f) q r.3))
    (or_some (node_fault p n node) (nodes_fault p later (n + 1)) f e)

each : (p : Protocol_data) (nodes : List Node) (n : ℕ) → nodes_fault p nodes n ≡ None
    → (k : ℕ) (node : Node) → slice_get nodes k ≡ Some node
    → (s : ℕ) × (node_fault p s node ≡ None)
each p [] n e k node g = absurd (none-some node g)
each p (first ∷ later) n e zero node g =
    let q = or_none (node_fault p n first) (nodes_fault p later (n + 1)) e in
    (n, subst (λ x. node_fault p n x ≡ None) (same_Some first node g) q.0)
each p (first ∷ later) n e (suc k) node g =
    let q = or_none (node_fault p n first) (nodes_fault p later (n + 1)) e in
    each p later (n + 1) q.1 k node g

-- protocols

root_blamed : (p : Protocol_data) (f : WfFault) → root_fault p ≡ Some f → Blames p f
root_blamed p f e =
    ⊎_elim (λ h. absurd (none-some f h.1))
    (λ h.
    subst (λ g. Blames p g) (same_Some (BadNext p.root) f h.1)
    (inl (refl, ltb-false p.root (length p.nodes) h.0)))
    (cond_is (ltb p.root (length p.nodes)) None (Some (BadNext p.root)) (Some f) e)

root_fits : (p : Protocol_data) → root_fault p ≡ None → p.root < length p.nodes
root_fits p e =
    ⊎_elim (λ h. ltb-true p.root (length p.nodes) h.0) (λ h. absurd (none-some (BadNext p.root) (sym h.1)))
    (cond_is (ltb p.root (length p.nodes)) None (Some (BadNext p.root)) None e)

protocol_blamed : (p : Protocol_data) (f : WfFault) → protocol_fault p ≡ Some f → Blames p f
protocol_blamed p f e =
    ⊎_elim (λ h. root_blamed p f h)
    (λ h. let r = found p p.nodes 0 f h in
    node_blamed p r.0 r.1 f r.2 (subst (λ x. node_fault p x r.1 ≡ Some f) (zero-add r.0) r.3))
    (or_some (root_fault p) (nodes_fault p p.nodes 0) f e)

protocol_fits : (p : Protocol_data) → protocol_fault p ≡ None → IsWellFormed p
protocol_fits p e =
    let q = or_none (root_fault p) (nodes_fault p p.nodes 0) e in
    record {
      root = root_fits p q.0;
      talks = λ n sender receiver arms g. let r = each p p.nodes 0 q.1 n (Talk sender receiver arms) g in talk_fits p r.0 sender receiver arms r.1;
    }

-- a protocol that is well formed has no fault
wrong : (p : Protocol_data) (f : WfFault) → Blames p f → IsWellFormed p → ⊥
wrong p (SelfTalk n) b w = (w.talks n b.0 b.0 b.1 b.2).others refl
wrong p (NoArms n) b w = (w.talks n b.0 b.1 [] b.2).some refl
wrong p (TooManyArms n) b w =
    let z : length b.2 ≤ 32 = (w.talks n b.0 b.1 b.2 b.3).bounded in
    let y : 32 < length b.2 = b.4 in
    omega arith
wrong p (TwiceLabel n l) b w =
    let t = b.4 in
    let z : t.first ≡ t.second = (w.talks n b.0 b.1 b.2 b.3).once t.first t.second t.one t.other t.at_first t.at_second (t.its_first ∙ sym t.its_second) in
    let y : t.first < t.second = t.order in
    omega arith
wrong p (BadNext n) b w =
    ⊎_elim (λ h. let z : p.root < length p.nodes = w.root in let y : length p.nodes ≤ p.root = h.1 in omega arith)
    (λ h.
    let fits : TalkFits p h.0 h.1 h.2 = w.talks n h.0 h.1 h.2 h.3 in
    ⊎_elim
    (λ o.
    let z : o.arm.next < length p.nodes = fits.nexts o.place o.arm o.stands in
    let y : length p.nodes ≤ o.arm.next = o.out in
    omega arith)
    (λ o.
    ⊎_elim (λ y. let z : h.0.0 < p.roles = fits.puts in omega arith)
    (λ y. let z : h.1.0 < p.roles = fits.takes in omega arith) o)
    h.4)
    b

none_since : (o : Option WfFault) → ((f : WfFault) → o ≡ Some f → ⊥) → o ≡ None
none_since None h = refl
none_since (Some f) h = absurd (h f refl)

pub blamed : (p : Protocol_data) (f : WfFault) → first_fault p ≡ Some f → Blames p f
blamed p f e = protocol_blamed p f (in_order p ∙ e)

pub no_fault : (p : Protocol_data) → first_fault p ≡ None → IsWellFormed p
no_fault p e = protocol_fits p (in_order p ∙ e)

pub right : (p : Protocol_data) → IsWellFormed p → first_fault p ≡ None
right p w = none_since (first_fault p) (λ f e. wrong p f (blamed p f e) w)
