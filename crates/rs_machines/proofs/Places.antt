-- A machine by its places: machines are a kind of graph, and what stands at a number.
use Rattle.std.proofs.Common.{◌≡◌, ℕ, List, [], ◌++◌, map, Bool, true, false, Some, option_map, refl, sym, ap, ◌∙◌, slice_get}
use Rattle.std.proofs.lemmas.Option.{slice_get-map}
use Rattle.rs_model.specs.Data.{Names_data, Machine_data}
use Rattle.rs_model.specs.declared.graph.Arm.{Arm}
use Rattle.rs_model.specs.declared.graph.Role.{Role}
use Rattle.rs_model.specs.declared.machines.State.{State}
use Rattle.rs_model.specs.declared.machines.State.TheVariants.{Done, Puts, Takes}
use Rattle.rs_text.proofs.Basics.{all_again, found_again}
use Rattle.rs_bodies.specs.Canonical.{IsSpelt}
use Rattle.rs_bodies.specs.Dialects.{BehindRole, with_mark}
use Rattle.rs_bodies.specs.declared.dialects.Dialect.TheVariants.{Acts}
use Rattle.rs_bodies.specs.declared.dialects.Head.{Head}
use Rattle.rs_bodies.specs.declared.dialects.Head.TheVariants as head
use Rattle.rs_bodies.specs.declared.dialects.Mark.{Mark}
use Rattle.rs_bodies.specs.declared.dialects.Mark.TheVariants as mark
use Rattle.rs_bodies.specs.declared.places.Place.{Place}
use Rattle.rs_bodies.specs.declared.places.Place.TheVariants as place
use Rattle.rs_bodies.specs.Graph.{acts_in, first_of, has_end, heads_of, Numbering, role_by_name}
use Rattle.rs_bodies.specs.Openings.{Opening, of_role}
use Rattle.rs_bodies.specs.Places.{choice, end_of, place_of_state, places_of_machine}
use Rattle.rs_bodies.specs.Points.{point_of}
use Rattle.rs_bodies.specs.Spells.{numbering}
use Rattle.rs_bodies.specs.Spellings.{own_role}
use Rattle.rs_bodies.proofs.GraphLaws.{IsMade}
use Rattle.rs_bodies.proofs.GraphsAgain as graphs
use Rattle.rs_bodies.proofs.GraphsAgain.{IsKind, heads_placed}
use Rattle.rs_bodies.proofs.Heads.{heads_mapped}
use Rattle.rs_bodies.proofs.PlacesIn.{point_at}
use Rattle.rs_machines.specs.Canonical.{IsMachineTextShaped}
use Rattle.rs_machines.specs.Machines.{owner_of, state_by_mark, act_of_turn, end_states}
use Rattle.rs_machines.specs.Parts.{state_of_point}
use Rattle.rs_machines.specs.Kinds.{machines}
use Rattle.rs_machines.specs.Spells.{SpellsMachine}

-- ---- what stands at a number

abbrev pub points : List State → List Place
points states = map place_of_state states

act_place : (m : Mark) (p : Role) (arms : List Arm) → place_of_state (state_by_mark m p arms) ≡ choice (head.Act p m) arms
act_place mark.Puts p arms = refl
act_place mark.Takes p arms = refl

pub stands : (states : List State) (n : ℕ) (state : State) → slice_get states n ≡ Some state → slice_get (points states) n ≡ Some (place_of_state state)
stands states n state e = slice_get-map place_of_state states n ∙ ap (option_map place_of_state) e

pub act_stands : (p : Machine_data) (n : ℕ) (m : Mark) (peer : Role) (arms : List Arm) → slice_get p.states n ≡ Some (state_by_mark m peer arms)
    → slice_get (points p.states) n ≡ Some (choice (head.Act peer m) arms)
act_stands p n m peer arms e = stands p.states n (state_by_mark m peer arms) e ∙ ap Some (act_place m peer arms)

abbrev state_back : Place → State
state_back place.End = Done
state_back (place.Point p) = state_of_point p

back_again : (state : State) → state_back (place_of_state state) ≡ state
back_again Done = refl
back_again (Puts p arms) = refl
back_again (Takes p arms) = refl

same_states : (xs ys : List State) → points xs ≡ points ys → xs ≡ ys
same_states xs ys h = sym (all_again place_of_state state_back back_again xs) ∙ ap (map state_back) h ∙ all_again place_of_state state_back back_again ys

-- the state of a place
stands_as : (states : List State) (n : ℕ) (x : Place) → slice_get (points states) n ≡ Some x → (slice_get states n ≡ Some (state_back x)) × (x ≡ place_of_state (state_back x))
stands_as states n x e = found_again place_of_state state_back back_again states n x e

pub record IsAct (p : Machine_data) (n : ℕ) (h : Head) (arms : List Arm) : Type 0 where
  pub mark : Mark
  pub peer : Role
  pub head_is : h ≡ head.Act peer mark
  pub acts : slice_get p.states n ≡ Some (state_by_mark mark peer arms)

pub is_act : (p : Machine_data) (n : ℕ) (h : Head) (arms : List Arm) → slice_get (points p.states) n ≡ Some (choice h arms) → IsAct p n h arms
is_act p n (head.Talk s r) arms e = absurd (cc ((stands_as p.states n (choice (head.Talk s r) arms) e).1))
is_act p n (head.Act peer m) arms e = record { mark = m; peer = peer; head_is = refl; acts = (stands_as p.states n (choice (head.Act peer m) arms) e).0 }

-- ---- a kind of graph

act_is : (n : Numbering) (s : List ℕ) (t : BehindRole Acts) (arms : List Arm) → state_of_point (point_of Acts n s t arms) ≡ act_of_turn n s t arms
act_is n s (with_mark m) arms = refl

turn_place : (n : Numbering) (s : List ℕ) (t : BehindRole Acts) (arms : List Arm) → place_of_state (act_of_turn n s t arms) ≡ point_at Acts n s t arms
turn_place n s (with_mark m) arms = act_place m (role_by_name n s) arms

owner_is : (n : Numbering) (o : Opening Acts) → owner_of n o ≡ own_role Acts n o
owner_is n (of_role r) = refl

end_is : (c : Bool) → points (end_states c) ≡ end_of c
end_is true = refl
end_is false = refl

abbrev machine : Role → List State → ℕ → Machine_data
machine role states start = record { role = role; states = states; start = start }

same_role : (x y : Role) → x.0 ≡ y.0 → x ≡ y
same_role x y e = ap (λ z. record { 0 = z }) e

-- the acts of a tree are the states of its heads
is_made : IsMade machines
is_made old t =
    let n : Numbering = numbering Acts old t in
    let start : ℕ = first_of Acts t.body [] 0 (acts_in Acts t.body) in
    let last : List State = end_states (has_end Acts t.body) in
    ap (λ z. machine z (heads_of Acts (act_of_turn n) n t.body [] 0 ++ last) start) (owner_is n t.opening)
    ∙ ap (λ z. machine (own_role Acts n t.opening) (z ++ last) start) (sym (heads_mapped Acts state_of_point (point_of Acts n) (act_of_turn n) (act_is n) n t.body [] 0))

pub is_kind : IsKind machines
is_kind = record {
  made = is_made;
  places = λ old t. heads_placed Acts act_of_turn place_of_state end_states turn_place end_is (numbering Acts old t) t.body (has_end Acts t.body);
  root = λ old t. refl;
  own = λ old t. ap (λ z. z.0) (owner_is (numbering Acts old t) t.opening);
  one = λ x y e f g. ap (λ z. machine z x.states x.start) (same_role x.role y.role e) ∙ ap (λ z. machine y.role z x.start) (same_states x.states y.states f) ∙ ap (λ z. machine y.role y.states z) g;
}

-- a text of the machine spells its places
unfoldable pub spelt_places : (bytes : List ℕ) (at : ℕ) (old new : Names_data) (p : Machine_data) (until : ℕ) → SpellsMachine bytes at old new p until → IsSpelt Acts (places_of_machine p) p.start
spelt_places bytes at old new p until s = graphs.spelt machines is_kind bytes at old new p until s

pub spelt : (p : Machine_data) → IsMachineTextShaped p → IsSpelt Acts (places_of_machine p) p.start
spelt p s = spelt_places s.bytes s.at s.old s.new p s.until s.spells
