-- A machine that a text spells: its role and peers are known, each act has arms, and each arm leads to a state.
use Rattle.std.proofs.Common.{◌≡◌, ◌≢◌, ℕ, ◌<◌, ◌≤◌, List, [], length, Some, slice_get, inl, inr, refl, ap, subst, arith}
use Rattle.std.proofs.lemmas.List.{length-map}
use Rattle.rs_model.specs.Data.{Machine_data, Names_data}
use Rattle.rs_model.specs.Faults.{Blames, Chooses, LeadsOut, first_fault}
use Rattle.rs_model.specs.declared.checks.MachineFault.{MachineFault}
use Rattle.rs_model.specs.declared.checks.MachineFault.TheVariants.{BadNext, NoArms, TwiceLabel, SelfPeer, UnknownPeer}
use Rattle.rs_model.specs.declared.graph.Arm.{Arm}
use Rattle.rs_model.specs.declared.graph.Role.{Role}
use Rattle.rs_model.proofs.Faults.{blamed}
use Rattle.rs_bodies.specs.Data.{Point_data}
use Rattle.rs_bodies.specs.Leads.{PointLeads}
use Rattle.rs_bodies.specs.Places.{place_of_state, places_of_machine}
use Rattle.rs_bodies.specs.declared.dialects.Dialect.TheVariants.{Acts}
use Rattle.rs_bodies.specs.declared.dialects.Head.TheVariants as head
use Rattle.rs_bodies.specs.declared.dialects.Mark.{Mark}
use Rattle.rs_bodies.specs.declared.dialects.Mark.TheVariants as mark
use Rattle.rs_bodies.proofs.PlacesLead.{PlacesLead, spelt_leads}
use Rattle.rs_machines.specs.MachineFaults.{IsFaultOfText}
use Rattle.rs_machines.specs.Machines.{state_by_mark}
use Rattle.rs_machines.specs.Spells.{SpellsMachine}
use Rattle.rs_bodies.proofs.GraphsAgain as graphs
use Rattle.rs_machines.proofs.Canonical.{spelt_role}
use Rattle.rs_machines.proofs.Places.{act_stands, spelt_places}

record Good (machine : Machine_data) (roles : ℕ) : Type 0 where
  role : machine.role.0 < roles
  leads : PlacesLead roles (places_of_machine machine) machine.start

spelt_good : (bytes : List ℕ) (at : ℕ) (old new : Names_data) (machine : Machine_data) (until : ℕ) → SpellsMachine bytes at old new machine until → Good machine (length old.roles)
unfolding spelt_places graphs.spelt
spelt_good bytes at old new machine until s = record {
  role = spelt_role bytes at old new machine until s;
  leads = subst (λ (z : List (List ℕ)). PlacesLead (length z) (places_of_machine machine) machine.start) (ap (λ z. z.roles) s.names_are)
      (spelt_leads Acts (places_of_machine machine) machine.start (spelt_places bytes at old new machine until s));
}

-- a peer that is known, with some arms that lead to states
record ChoiceGood (roles total : ℕ) (peer : Role) (arms : List Arm) : Type 0 where
  known : peer.0 < roles
  some : arms ≢ []
  nexts : (i : ℕ) (a : Arm) → slice_get arms i ≡ Some a → a.next < total

abbrev act : Mark → Role → List Arm → Point_data
act m peer arms = record { head = head.Act peer m; arms = arms }

act_good : (machine : Machine_data) (roles n : ℕ) (m : Mark) (peer : Role) (arms : List Arm) → Good machine roles → slice_get machine.states n ≡ Some (state_by_mark m peer arms)
    → ChoiceGood roles (length machine.states) peer arms
act_good machine roles n m peer arms g e =
    let leads : PointLeads roles (length machine.states) (act m peer arms)
    = subst (λ (z : ℕ). PointLeads roles z (act m peer arms)) (length-map machine.states place_of_state) (g.leads.heads n (act m peer arms) (act_stands machine n m peer arms e)) in
    record { known = leads.known; some = leads.some; nexts = leads.nexts }

choice_good : (machine : Machine_data) (roles n : ℕ) (peer : Role) (arms : List Arm) → Good machine roles → Chooses machine n peer arms → ChoiceGood roles (length machine.states) peer arms
choice_good machine roles n peer arms g (inl e) = act_good machine roles n mark.Puts peer arms g e
choice_good machine roles n peer arms g (inr e) = act_good machine roles n mark.Takes peer arms g e

no_way_out : (m : Machine_data) (roles n : ℕ) → Good m roles → LeadsOut m n → ⊥
no_way_out m roles n g l =
    let inside : l.arm.next < length m.states = (choice_good m roles n l.peer l.arms g l.chooses).nexts l.place l.arm l.stands in
    let outside : length m.states ≤ l.arm.next = l.out in
    absurd (omega arith)

of_text : (m : Machine_data) (roles : ℕ) (f : MachineFault) → Good m roles → Blames m roles f → IsFaultOfText f
of_text m roles (BadNext n) g b = elim b [
  | inl x ↦ elim x.1 [
    | inl out ↦ (let start : m.start < length (places_of_machine m) = g.leads.start in let size : length
        (places_of_machine m) ≡ length m.states = length-map m.states place_of_state in let outside : length m.states ≤ m.start = out in absurd (omega arith))
    | inr out ↦ (let role : m.role.0 < roles = g.role in let outside : roles ≤ m.role.0 = out in absurd (omega arith))
  ]
  | inr l ↦ no_way_out m roles n g l
]
of_text m roles (NoArms n) g b = (choice_good m roles n b.0 [] g b.1).some refl
of_text m roles (TwiceLabel n l) g b = tt
of_text m roles (SelfPeer n) g b = tt
of_text m roles (UnknownPeer n) g b = (let known : b.0.0 < roles = (choice_good m roles n b.0 b.1 g b.2).known in let unknown : roles ≤ b.0.0 = b.3 in absurd (omega arith))

pub faults_of_text : (bytes : List ℕ) (at : ℕ) (old new : Names_data) (machine : Machine_data) (until : ℕ) (fault : MachineFault) → SpellsMachine bytes at old new machine until
    → first_fault machine (length old.roles) ≡ Some fault → IsFaultOfText fault
faults_of_text bytes at old new machine until fault s e = of_text machine (length old.roles) fault (spelt_good bytes at old new machine until s) (blamed machine (length old.roles) fault e)
