-- A machine's line is read again with any older names, as the machine with other numbers for labels, and is printed again.
use Rattle.std.proofs.Common.{◌≡◌, ℕ, suc, ◌+◌, ◌≤◌, List, [], ◌∷◌, ◌++◌, length, map, Bool, true, false, ◌&&◌, nat_lt, Option, refl, sym, ap, ◌∙◌, subst, arith}
use Rattle.std.proofs.lemmas.List.{map-append}
use Rattle.rs_documents.proofs.FewLabels.{longer}
use Rattle.rs_documents.proofs.MoreNames.{first_among, later_among, front_among, back_among, room}
use Rattle.rs_documents.specs.Again.{arm_by, state_by, machine_by}
use Rattle.rs_machines.specs.Canonical.{IsCanonicalMachineText}
use Rattle.rs_machines.specs.Machines.{act_of_turn, end_states, machine_of_tree, state_by_mark}
use Rattle.rs_machines.specs.Kinds.{names_of}
use Rattle.rs_machines.specs.Trees.{Fits, MachineTree}
use Rattle.rs_bodies.specs.declared.dialects.Mark.{Mark}
use Rattle.rs_bodies.specs.declared.dialects.Mark.TheVariants as mark
use Rattle.rs_model.specs.Data.{Machine_data, Names_data}
use Rattle.rs_model.specs.declared.graph.Arm.{Arm}
use Rattle.rs_model.specs.declared.graph.Role.{Role}
use Rattle.rs_model.specs.declared.machines.State.{State}
use Rattle.rs_model.specs.declared.machines.State.TheVariants.{Done, Puts, Takes}
use Rattle.rs_model.specs.declared.values.Sort.{Sort}
use Rattle.rs_text.proofs.Basics.{both, two_true}
use Rattle.rs_text.proofs.Naming.{grown_append}
use Rattle.rs_text.specs.Arms.{sort_or_unit}
use Rattle.rs_text.specs.Names.{BoundNames, names_with, is_among, number_or, place_of}
use Rattle.rs_bodies.specs.declared.dialects.Dialect.TheVariants.{Acts}
use Rattle.rs_bodies.specs.Canonical.{Draws}
use Rattle.rs_bodies.specs.declared.places.Place.{Place}
use Rattle.rs_bodies.specs.Graph.{Numbering, acts_in, arms_of, first_of, has_end, heads_of, heads_in, labels_of, labels_of_arms}
use Rattle.rs_bodies.specs.Places.{place_of_state, places_of_machine}
use Rattle.rs_bodies.proofs.Moved.{Moves, draws_moved, place_moved, places_moved}
use Rattle.rs_bodies.specs.Scenes.{Scene, behind, first_scene, in_act, in_braces, in_rec, with_label}
use Rattle.rs_bodies.specs.Fits.{arms_fit, body_fits, has_room_for}
use Rattle.rs_bodies.specs.Trees.{Body, ends, again, binds, acts, offers, Branches, one, more}
use Rattle.rs_bodies.specs.Dialects.{with_mark}
use Rattle.rs_bodies.specs.Openings.{Opening, of_role}
use Rattle.rs_bodies.specs.Spells.{OpeningFits}

-- ---- within the limits, with other labels before it

mutual
  body_again : (t : Body Acts) (s : Scene) (ls : List (List ℕ)) → body_fits Acts t s ≡ true → length (names_with ls (labels_of Acts t)) ≤ 256 → body_fits Acts t (record s { labels = ls }) ≡ true
  body_again ends s ls h few = refl
  body_again (again x) s ls h few = h
  body_again (binds x b) s ls h few =
      let p = both (nat_lt s.depth 200) (body_fits Acts b (in_rec x s)) h in
      two_true (nat_lt s.depth 200) (body_fits Acts b (in_rec x (record s { labels = ls }))) p.0 (body_again b (in_rec x s) ls p.1 few)
  body_again (acts x (with_mark m) l sort b) s ls h few =
      let p = both (is_among x s.roles && nat_lt s.acts 256 && has_room_for l s) (body_fits Acts b (with_label l (in_act s))) h in
      let q = both (is_among x s.roles && nat_lt s.acts 256) (has_room_for l s) p.0 in
      two_true (is_among x s.roles && nat_lt s.acts 256 && has_room_for l (record s { labels = ls })) (body_fits Acts b (with_label l (in_act (record s { labels = ls }))))
      (two_true (is_among x s.roles && nat_lt s.acts 256) (has_room_for l (record s { labels = ls })) q.0 (room l (labels_of Acts b) ls few))
      (body_again b (with_label l (in_act s)) (names_with ls (l ∷ [])) p.1 few)
  body_again (offers x (with_mark m) arms) s ls h few =
      let p = both (is_among x s.roles && nat_lt s.acts 256 && nat_lt s.depth 200) (arms_fit Acts arms (in_braces s)) h in
      two_true (is_among x s.roles && nat_lt s.acts 256 && nat_lt s.depth 200) (arms_fit Acts arms (in_braces (record s { labels = ls }))) p.0 (arms_again arms (in_braces s) ls p.1 few)

  arms_again : (arms : Branches Acts) (s : Scene) (ls : List (List ℕ)) → arms_fit Acts arms s ≡ true → length (names_with ls (labels_of_arms Acts arms)) ≤ 256
      → arms_fit Acts arms (record s { labels = ls }) ≡ true
  arms_again (one l sort b) s ls h few =
      let p = both (has_room_for l s) (body_fits Acts b (with_label l s)) h in
      two_true (has_room_for l (record s { labels = ls })) (body_fits Acts b (with_label l (record s { labels = ls }))) (room l (labels_of Acts b) ls few)
      (body_again b (with_label l s) (names_with ls (l ∷ [])) p.1 few)
  arms_again (more l sort b arms) s ls h few =
      let p = both (has_room_for l s && body_fits Acts b (with_label l s)) (arms_fit Acts arms (behind Acts b (with_label l s))) h in
      let q = both (has_room_for l s) (body_fits Acts b (with_label l s)) p.0 in
      let here : List (List ℕ) = names_with ls (l ∷ []) in
      let all : length (names_with (names_with here (labels_of Acts b)) (labels_of_arms Acts arms)) ≤ 256
      = subst (λ (z : List (List ℕ)). length z ≤ 256) (grown_append (labels_of Acts b) (labels_of_arms Acts arms) here) few in
      let part = longer (labels_of_arms Acts arms) (names_with here (labels_of Acts b)) in
      two_true (has_room_for l (record s { labels = ls }) && body_fits Acts b (with_label l (record s { labels = ls }))) (arms_fit Acts arms (behind Acts b (with_label l (record s { labels = ls }))))
      (two_true (has_room_for l (record s { labels = ls })) (body_fits Acts b (with_label l (record s { labels = ls }))) (room l (labels_of Acts b ++ labels_of_arms Acts arms) ls few)
      (body_again b (with_label l s) here q.1 (omega (arith, all, part))))
      (arms_again arms (behind Acts b (with_label l s)) (names_with here (labels_of Acts b)) p.1 all)

opening_again : (old names : Names_data) (o : Opening Acts) → old.roles ≡ names.roles → OpeningFits Acts names o → OpeningFits Acts old o
opening_again old names (of_role r) roles known = subst (λ (z : List (List ℕ)). is_among r z ≡ true) (sym roles) known

pub fits_again : (old names : Names_data) (t : MachineTree) → Fits names t → old.roles ≡ names.roles → length (names_with old.labels (labels_of Acts t.body)) ≤ 256 → Fits old t
fits_again old names t f roles few = record {
  opening = opening_again old names t.opening roles f.opening;
  body = subst (λ (z : List (List ℕ)). body_fits Acts t.body (record { roles = z; bound = []; depth = 0; acts = 0; labels = old.labels }) ≡ true) (sym roles)
      (body_again t.body (first_scene names.roles names.labels) old.labels f.body few);
}

-- ---- the machine that is read

-- each of the labels has, by its number among these labels, its number among those
abbrev pub Renumbers : (ℕ → ℕ) → (these those labels : List (List ℕ)) → Type 0
Renumbers number these those labels = (l : List ℕ) → is_among l labels ≡ true → number (number_or (place_of l these)) ≡ number_or (place_of l those)

abbrev numbers : (roles labels : List (List ℕ)) → ℕ → Numbering
numbers roles labels last = record { names = record { roles = roles; labels = labels }; last = last }

abbrev arm_at : ℕ → Option Sort → ℕ → Arm
arm_at label sort next = record { label = record { 0 = label }; sort = sort_or_unit sort; next = next }

-- the states of a body, in order of text, with these names bound and so many acts before it
abbrev states_from : Numbering → Body Acts → BoundNames → ℕ → List State
states_from m b bound k = heads_of Acts (act_of_turn m) m b bound k

abbrev states_in : Numbering → Branches Acts → BoundNames → ℕ → List State
states_in m arms bound k = heads_in Acts (act_of_turn m) m arms bound k

state_is : (number : ℕ → ℕ) (m : Mark) (peer : Role) (arms : List Arm) → state_by number (state_by_mark m peer arms) ≡ state_by_mark m peer (map (arm_by number) arms)
state_is number mark.Puts peer arms = refl
state_is number mark.Takes peer arms = refl

read_arms : (arms : Branches Acts) (number : ℕ → ℕ) (roles these those : List (List ℕ)) (last : ℕ) (bound : BoundNames) (k : ℕ) → Renumbers number these those (labels_of_arms Acts arms)
    → map (arm_by number) (arms_of Acts (numbers roles these last) arms bound k) ≡ arms_of Acts (numbers roles those last) arms bound k
read_arms (one l sort b) number roles these those last bound k f = ap (λ (z : ℕ). arm_at z sort (first_of Acts b bound k last) ∷ []) (f l (first_among l (labels_of Acts b)))
read_arms (more l sort b arms) number roles these those last bound k f =
    ap (λ (z : ℕ). arm_at z sort (first_of Acts b bound k last) ∷ map (arm_by number) (arms_of Acts (numbers roles these last) arms bound (k + acts_in Acts b)))
    (f l (first_among l (labels_of Acts b ++ labels_of_arms Acts arms)))
    ∙ ap (λ (z : List Arm). arm_at (number_or (place_of l those)) sort (first_of Acts b bound k last) ∷ z)
    (read_arms arms number roles these those last bound (k + acts_in Acts b)
    (λ x h. f x (later_among x l (labels_of Acts b ++ labels_of_arms Acts arms) (back_among x (labels_of Acts b) (labels_of_arms Acts arms) h))))

mutual
  read_states : (t : Body Acts) (number : ℕ → ℕ) (roles these those : List (List ℕ)) (last : ℕ) (bound : BoundNames) (k : ℕ) → Renumbers number these those (labels_of Acts t)
      → map (state_by number) (states_from (numbers roles these last) t bound k) ≡ states_from (numbers roles those last) t bound k
  read_states ends number roles these those last bound k f = refl
  read_states (again x) number roles these those last bound k f = refl
  read_states (binds x b) number roles these those last bound k f = read_states b number roles these those last ((x, k) ∷ bound) k f
  read_states (acts x (with_mark m) l sort b) number roles these those last bound k f =
      let peer : Role = record { 0 = number_or (place_of x roles) } in
      let next : ℕ = first_of Acts b bound (suc k) last in
      let own : state_by number (state_by_mark m peer (arm_at (number_or (place_of l these)) sort next ∷ [])) ≡ state_by_mark m peer (arm_at (number_or (place_of l those)) sort next ∷ [])
      = state_is number m peer (arm_at (number_or (place_of l these)) sort next ∷ []) ∙ ap (λ (z : ℕ). state_by_mark m peer (arm_at z sort next ∷ [])) (f l (first_among l (labels_of Acts b))) in
      ap (λ (z : State). z ∷ map (state_by number) (states_from (numbers roles these last) b bound (suc k))) own
      ∙ ap (λ (z : List State). state_by_mark m peer (arm_at (number_or (place_of l those)) sort next ∷ []) ∷ z)
      (read_states b number roles these those last bound (suc k) (λ y h. f y (later_among y l (labels_of Acts b) h)))
  read_states (offers x (with_mark m) arms) number roles these those last bound k f =
      let peer : Role = record { 0 = number_or (place_of x roles) } in
      let own : state_by number (state_by_mark m peer (arms_of Acts (numbers roles these last) arms bound (suc k))) ≡ state_by_mark m peer (arms_of Acts (numbers roles those last) arms bound (suc k))
      = state_is number m peer (arms_of Acts (numbers roles these last) arms bound (suc k))
      ∙ ap (λ (z : List Arm). state_by_mark m peer z) (read_arms arms number roles these those last bound (suc k) f) in
      ap (λ (z : State). z ∷ map (state_by number) (states_in (numbers roles these last) arms bound (suc k))) own
      ∙ ap (λ (z : List State). state_by_mark m peer (arms_of Acts (numbers roles those last) arms bound (suc k)) ∷ z) (read_states_in arms number roles these those last bound (suc k) f)

  read_states_in : (arms : Branches Acts) (number : ℕ → ℕ) (roles these those : List (List ℕ)) (last : ℕ) (bound : BoundNames) (k : ℕ) → Renumbers number these those (labels_of_arms Acts arms)
      → map (state_by number) (states_in (numbers roles these last) arms bound k) ≡ states_in (numbers roles those last) arms bound k
  read_states_in (one l sort b) number roles these those last bound k f = read_states b number roles these those last bound k (λ x h. f x (later_among x l (labels_of Acts b) h))
  read_states_in (more l sort b arms) number roles these those last bound k f =
      let j : ℕ = k + acts_in Acts b in
      map-append (state_by number) (states_from (numbers roles these last) b bound k) (states_in (numbers roles these last) arms bound j)
      ∙ ap (λ (z : List State). z ++ map (state_by number) (states_in (numbers roles these last) arms bound j))
      (read_states b number roles these those last bound k
      (λ x h. f x (later_among x l (labels_of Acts b ++ labels_of_arms Acts arms) (front_among x (labels_of Acts b) (labels_of_arms Acts arms) h))))
      ∙ ap (λ (z : List State). states_from (numbers roles those last) b bound k ++ z)
      (read_states_in arms number roles these those last bound j
      (λ x h. f x (later_among x l (labels_of Acts b ++ labels_of_arms Acts arms) (back_among x (labels_of Acts b) (labels_of_arms Acts arms) h))))

done_is : (number : ℕ → ℕ) (b : Bool) → map (state_by number) (end_states b) ≡ end_states b
done_is number true = refl
done_is number false = refl

-- the machine of a role and a body, by roles and labels
abbrev machine_with : (roles labels : List (List ℕ)) → (role : List ℕ) → Body Acts → Machine_data
machine_with roles labels role b = record {
  role = record { 0 = number_or (place_of role roles) };
  states = states_from (numbers roles labels (acts_in Acts b)) b [] 0 ++ end_states (has_end Acts b);
  start = first_of Acts b [] 0 (acts_in Acts b);
}

read_machine : (role : List ℕ) (b : Body Acts) (number : ℕ → ℕ) (roles these those : List (List ℕ)) → Renumbers number these those (labels_of Acts b)
    → machine_by number (machine_with roles these role b) ≡ machine_with roles those role b
read_machine role b number roles these those f =
    let last : ℕ = acts_in Acts b in
    let states : map (state_by number) (states_from (numbers roles these last) b [] 0 ++ end_states (has_end Acts b)) ≡ states_from (numbers roles those last) b [] 0 ++ end_states (has_end Acts b)
    = map-append (state_by number) (states_from (numbers roles these last) b [] 0) (end_states (has_end Acts b))
    ∙ ap (λ (z : List State). z ++ map (state_by number) (end_states (has_end Acts b))) (read_states b number roles these those last [] 0 f)
    ∙ ap (λ (z : List State). states_from (numbers roles those last) b [] 0 ++ z) (done_is number (has_end Acts b)) in
    ap (λ (z : List State). record { role = record { 0 = number_or (place_of role roles) }; states = z; start = first_of Acts b [] 0 last }) states

machine_is : (old : Names_data) (role : List ℕ) (b : Body Acts)
    → machine_of_tree old (record { opening = of_role role; body = b }) ≡ machine_with old.roles (names_with old.labels (labels_of Acts b)) role b
machine_is old role b = refl

body_again_as : (old names : Names_data) (machine : Machine_data) (o : Opening Acts) (b : Body Acts) (number : ℕ → ℕ) → machine_of_tree names (record { opening = o; body = b }) ≡ machine
    → names_with names.labels (labels_of Acts b) ≡ names.labels → old.roles ≡ names.roles → Renumbers number names.labels (names_with old.labels (labels_of Acts b)) (labels_of Acts b)
    → machine_by number machine ≡ machine_of_tree old (record { opening = o; body = b })
body_again_as old names machine (of_role r) b number is labels roles f =
    let own : machine ≡ machine_with names.roles names.labels r b = sym is ∙ machine_is names r b ∙ ap (λ (z : List (List ℕ)). machine_with names.roles z r b) labels in
    ap (machine_by number) own ∙ read_machine r b number names.roles names.labels (names_with old.labels (labels_of Acts b)) f
    ∙ ap (λ (z : List (List ℕ)). machine_with z (names_with old.labels (labels_of Acts b)) r b) (sym roles) ∙ sym (machine_is old r b)

pub machine_again : (old names : Names_data) (machine : Machine_data) (t : MachineTree) (number : ℕ → ℕ) → machine_of_tree names t ≡ machine → names_of names t ≡ names → old.roles ≡ names.roles
    → Renumbers number names.labels (names_with old.labels (labels_of Acts t.body)) (labels_of Acts t.body)
    → machine_by number machine ≡ machine_of_tree old t
machine_again old names machine t number is same roles f = body_again_as old names machine t.opening t.body number is (ap (λ (z : Names_data). z.labels) same) roles f

-- ---- and it is drawn as it was

place_moved_as : (number : ℕ → ℕ) (s : State) → place_of_state (state_by number s) ≡ place_moved number (place_of_state s)
place_moved_as number Done = refl
place_moved_as number (Puts peer arms) = refl
place_moved_as number (Takes peer arms) = refl

places_moved_as : (number : ℕ → ℕ) (states : List State) → map place_of_state (map (state_by number) states) ≡ places_moved number (map place_of_state states)
places_moved_as number [] = refl
places_moved_as number (s ∷ states) =
    ap (λ z. z ∷ map place_of_state (map (state_by number) states)) (place_moved_as number s) ∙ ap (λ z. place_moved number (place_of_state s) ∷ z) (places_moved_as number states)

pub machine_printed_again : (names : Names_data) (others : List (List ℕ)) (number : ℕ → ℕ) (machine : Machine_data) (line : List ℕ) (c : IsCanonicalMachineText names machine line)
    → Moves number names.labels others (labels_of Acts c.tree.body)
    → IsCanonicalMachineText (record { roles = names.roles; labels = others }) (machine_by number machine) line
machine_printed_again names others number machine line c f = record {
  tree = c.tree;
  canonical = record {
    opening = c.canonical.opening;
    body = subst (λ (z : List Place). Draws Acts (record { roles = names.roles; labels = others }) z 0 machine.start c.tree.body)
        (sym (places_moved_as number machine.states)) (draws_moved c.tree.body names others number (places_of_machine machine) 0 machine.start f c.canonical.body);
  };
  whole = c.whole;
}
