-- Partings by flags are the partings.
use Rattle.std.proofs.Common.{◌≡◌, inl, inr, ℕ, ◌+◌, Bool, List, length, Option, Some, MatchOption, slice_get, refl, sym, subst, arith}
use Rattle.rs_model.specs.Data.{Protocol_data}
use Rattle.rs_model.specs.declared.graph.Arm.{Arm}
use Rattle.rs_model.specs.declared.graph.Node.{Node}
use Rattle.rs_model.specs.declared.graph.Node.TheVariants.{Finished, Talk}
use Rattle.rs_model.specs.declared.graph.Role.{Role}
use Rattle.rs_wellformed.specs.WellFormed.{IsWellFormed}
use Rattle.rs_project.specs.Graph.{IsReached, Involves}
use Rattle.rs_project.specs.Marks.{IsOn, arms_of_node}
use Rattle.rs_project.proofs.Cycles.{next_within}
use Rattle.rs_project.proofs.Lists.{at_short}
use Rattle.rs_partings.specs.Flags.{AreFlags}
use Rattle.rs_partings.specs.Partings.{IsFirstOf, IsNoLater, IsParting, LeadsToward, MeetsMember, PartNowhere, PartsAt}
use Rattle.rs_partings.specs.Searching.{parting_of_nodes}
use Rattle.rs_partings.specs.declared.searching.Parting.{Parting}
use Rattle.rs_partings.proofs.Flags.{flag_to, to_flag}
use Rattle.rs_partings.proofs.FirstOnes.{ArmOn, ArmOnly, AtNodes, FirstIn, first_as, nodes_first}

-- an arm toward a flagged node is one that leads toward the member
arm_leads : (pr : Protocol_data) (role : Role) (member : Option ℕ) (flags : List Bool) (n place : ℕ) (node : Node) → AreFlags (length pr.nodes) (λ m. MeetsMember pr role m member) flags
    → slice_get pr.nodes n ≡ Some node → ArmOn flags (arms_of_node node) place → LeadsToward pr role member n place
arm_leads pr role member flags n place Finished are is h = (let e = h.stands in let bad : ⊥ = cc (e) in absurd bad)
arm_leads pr role member flags n place (Talk sender receiver arms) are is h = record {
  next = h.arm.next;
  leads = record { sender = sender; receiver = receiver; arms = arms; arm = h.arm; talks = is; stands = h.stands; leads = refl };
  meets = flag_to (length pr.nodes) (λ m. MeetsMember pr role m member) flags h.arm.next are h.on;
}

leads_arm : (pr : Protocol_data) (role : Role) (member : Option ℕ) (flags : List Bool) (n place : ℕ) (node : Node) → IsWellFormed pr → AreFlags (length pr.nodes) (λ m. MeetsMember pr role m member) flags
    → slice_get pr.nodes n ≡ Some node → LeadsToward pr role member n place → ArmOn flags (arms_of_node node) place
leads_arm pr role member flags n place node wf are is l =
    let e : Talk l.leads.sender l.leads.receiver l.leads.arms ≡ node = cc (is, l.leads.talks) in
    subst (λ (z : Node). ArmOn flags (arms_of_node z) place) e (record {
      arm = l.leads.arm;
      stands = l.leads.stands;
      on = subst (λ (z : ℕ). IsOn flags z) (sym l.leads.leads)
          (to_flag (length pr.nodes) (λ m. MeetsMember pr role m member) flags l.next are (next_within pr n place l.next wf l.leads) l.meets);
    })

-- an arm toward a node that is flagged for the one way alone leads toward the one member alone
only_leads : (pr : Protocol_data) (role : Role) (other : Option ℕ) (flags others : List Bool) (n place : ℕ) (node : Node)
    → IsWellFormed pr → AreFlags (length pr.nodes) (λ m. MeetsMember pr role m other) others → slice_get pr.nodes n ≡ Some node
    → ArmOnly flags others (arms_of_node node) place → LeadsToward pr role other n place → ⊥
only_leads pr role other flags others n place node wf are is h l =
    let k = leads_arm pr role other others n place node wf are is l in
    let same = h.stands in
    let also = k.stands in
    let e : k.arm ≡ h.arm = cc (same, also) in
    h.off (subst (λ (z : Arm). IsOn others z.next) e k.on)

pub is_first : (pr : Protocol_data) (role : Role) (a : ℕ) (b : Option ℕ) (here ones others : List Bool) (o : Option Parting) → IsWellFormed pr
    → AreFlags (length pr.nodes) (λ n. IsReached pr n × (Involves pr role n → ⊥)) here
    → AreFlags (length pr.nodes) (λ n. MeetsMember pr role n (Some a)) ones → AreFlags (length pr.nodes) (λ n. MeetsMember pr role n b) others
    → o ≡ parting_of_nodes here ones others 0 pr.nodes
    → MatchOption o (PartNowhere pr role a b) (λ p. IsParting pr role a b p)
is_first pr role a b here ones others o wf h one other e =
    subst (λ (z : Option Parting). FirstIn (PartsAt pr role a b) z) (sym e)
    (first_as (AtNodes here ones others 0 pr.nodes) (PartsAt pr role a b) (parting_of_nodes here ones others 0 pr.nodes)
    (λ t i j p. (
    let q : 0 + p.m ≡ t = sym p.at.talk_is in
    let w : p.m ≡ t = omega (arith, q) in
    let is : slice_get pr.nodes t ≡ Some p.node = subst (λ (z : ℕ). slice_get pr.nodes z ≡ Some p.node) w p.stands in
    let r = flag_to (length pr.nodes) (λ n. IsReached pr n × (Involves pr role n → ⊥)) here t h (subst (λ (z : ℕ). IsOn here z) q p.at.flagged) in
    record {
      reached = r.0;
      uninvolved = r.1;
      to_a = arm_leads pr role (Some a) ones t i p.node one is record { arm = p.at.one.arm; stands = p.at.one.stands; on = p.at.one.on };
      only = only_leads pr role b ones others t i p.node wf other is p.at.one;
      to_b = arm_leads pr role b others t j p.node other is p.at.other;
    }))
    (λ t i j p. (
    let node : Node = Talk p.to_a.leads.sender p.to_a.leads.receiver p.to_a.leads.arms in
    let w : t ≡ 0 + t = omega arith in
    let on = to_flag (length pr.nodes) (λ n. IsReached pr n × (Involves pr role n → ⊥)) here t h (at_short pr.nodes t node p.to_a.leads.talks) (p.reached, p.uninvolved) in
    record {
      m = t;
      node = node;
      stands = p.to_a.leads.talks;
      at = record {
        talk_is = w;
        flagged = subst (λ (z : ℕ). IsOn here z) w on;
        one = (let arm = leads_arm pr role (Some a) ones t i node wf one p.to_a.leads.talks p.to_a in record {
          arm = arm.arm;
          stands = arm.stands;
          on = arm.on;
          off = λ on. p.only (arm_leads pr role b others t i node other p.to_a.leads.talks record { arm = arm.arm; stands = arm.stands; on = on });
        });
        other = leads_arm pr role b others t j node wf other p.to_a.leads.talks p.to_b;
      };
    }))
    (nodes_first here ones others 0 pr.nodes))

-- ---- there is one at most

pub one_at_most : (Parts : ℕ → ℕ → ℕ → Type 0) (p q : Parting) → IsFirstOf Parts p → IsFirstOf Parts q → p ≡ q
one_at_most Parts p q f g = both (f.first q.talk q.one q.other g.parts) (g.first p.talk p.one p.other f.parts)
  where
    build : p.talk ≡ q.talk → p.one ≡ q.one → p.other ≡ q.other → p ≡ q
    build x y z =
        let A : ℕ → Type 0 = λ w. p ≡ record { talk = w; one = p.one; other = p.other } in
        let B : ℕ → Type 0 = λ w. p ≡ record { talk = q.talk; one = w; other = p.other } in
        let C : ℕ → Type 0 = λ w. p ≡ record { talk = q.talk; one = q.one; other = w } in
        subst C z (subst B y (subst A x refl))

    both : IsNoLater p q.talk q.one q.other → IsNoLater q p.talk p.one p.other → p ≡ q
    both (inl x) (inl y) = absurd (omega (arith, x, y))
    both (inl x) (inr y) = (let e = y.0 in absurd (omega (arith, x, e)))
    both (inr x) (inl y) = (let e = x.0 in absurd (omega (arith, e, y)))
    both (inr (e, inl x)) (inr (d, inl y)) = absurd (omega (arith, x, y))
    both (inr (e, inl x)) (inr (d, inr y)) = (let k = y.0 in absurd (omega (arith, x, k)))
    both (inr (e, inr x)) (inr (d, inl y)) = (let k = x.0 in absurd (omega (arith, k, y)))
    both (inr (e, inr x)) (inr (d, inr y)) = (let m = x.1 in let k = y.1 in build e x.0 (omega (arith, m, k)))
