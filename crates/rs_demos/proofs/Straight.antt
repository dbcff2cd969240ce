-- The texts of the ring and of the butterfly are the canonical ones.
use Rattle.std.proofs.Common.{◌≡◌, ◌≢◌, ◌⊎◌, inl, inr, ℕ, zero, suc, ◌+◌, ◌-◌, ◌<◌, ◌≤◌, Bool, true, false, not, ◌&&◌, ◌||◌, ◌==◌, nat_lt, nat_le, if◌then◌else◌, List, [], ◌∷◌, ◌++◌, map, codes}
use Rattle.std.proofs.Common.{Option, Some, None, slice_get, refl, sym, ap, ap₂, ◌∙◌, subst, arith, append_assoc, append-nil}
use Rattle.std.specs.List.{flat_map, list_all, range_with_len}
use Rattle.std.proofs.lemmas.Bool.{and_parts, false≢true, leb-true, ltb-true}
use Rattle.std.proofs.lemmas.Bool.Decides.{eqb_tells}
use Rattle.std.proofs.lemmas.Fmt.{decimal_digit}
use Rattle.rs_model.specs.Data.{Names_data, Machine_data}
use Rattle.rs_model.specs.declared.graph.Arm.{Arm}
use Rattle.rs_model.specs.declared.graph.Node.TheVariants.{Finished, Talk}
use Rattle.rs_model.specs.declared.graph.Role.{Role}
use Rattle.rs_model.specs.declared.machines.State.TheVariants.{Done, Puts, Takes}
use Rattle.rs_model.specs.declared.values.Sort.TheVariants as sort
use Rattle.rs_model.specs.declared.demos.Demo.{Demo}
use Rattle.rs_model.specs.declared.demos.Demo.TheVariants as demo
use Rattle.rs_global.specs.Canonical as protocol
use Rattle.rs_global.specs.Texts as protocol_texts
use Rattle.rs_bodies.specs.Dialects.{sends_to}
use Rattle.rs_bodies.specs.Canonical.{Draws}
use Rattle.rs_bodies.specs.Places.{choice, place_of_node, place_of_state, places_of_protocol, places_of_machine, IsGoneBackTo}
use Rattle.rs_bodies.specs.Texts as texts
use Rattle.rs_bodies.specs.Trees as bodies
use Rattle.rs_bodies.specs.declared.dialects.Head.{Head}
use Rattle.rs_bodies.specs.declared.dialects.Head.TheVariants as head
use Rattle.rs_bodies.specs.declared.places.Place.{Place}
use Rattle.rs_bodies.specs.declared.places.Place.TheVariants as place
use Rattle.rs_text.proofs.Basics.{some_is}
use Rattle.rs_global.proofs.Places.{stands as node_stands}
use Rattle.rs_machines.proofs.Places.{act_stands, stands as state_stands}
use Rattle.rs_bodies.specs.Openings.{of_roles, of_role}
use Rattle.rs_machines.specs.Machines.{state_by_mark}
use Rattle.rs_bodies.specs.declared.dialects.Mark.{Mark}
use Rattle.rs_bodies.specs.declared.dialects.Dialect.TheVariants.{Talks, Acts}
use Rattle.rs_bodies.specs.Dialects.{with_mark}
use Rattle.rs_machines.specs.Canonical.{IsCanonicalMachineText}
use Rattle.rs_bodies.specs.declared.dialects.Mark.TheVariants as mark
use Rattle.rs_demos.specs.Sessions.{demo_names, Exchange, role, arm, machine, demo_role_name, numbers_from, nodes_from, states_from, protocol_of, has_session, ring_exchanges, ring_pairs}
use Rattle.rs_demos.specs.Sessions.{butterfly_exchanges, butterfly_pairs, machine_with_line, written_machines}
use Rattle.rs_documents.specs.Canonical.{AreCanonicalMachines, IsLine}
use Rattle.rs_demos.proofs.Printable.{AreShaped, demos_are_shaped}
use Rattle.rs_documents.proofs.Lines.{without}
use Rattle.rs_demos.specs.Texts.{IsDemoText}
use Rattle.rs_demos.specs.Writing.{exchanges_text, pairs_text, other_name, machine_line, front_text, ring_line, butterfly_line, ring_text, butterfly_text}
use Rattle.rs_demos.proofs.Playing.{only_arm}
use Rattle.rs_demos.proofs.Ranges.{in_range, mapped_at}

-- texts

abbrev body_of : List Exchange → bodies.Body Talks
body_of [] = bodies.ends
body_of (x ∷ xs) = bodies.acts (demo_role_name x.0) (sends_to (demo_role_name x.1)) (codes "v") (Some sort.Whole) (body_of xs)

abbrev acts_of : List Exchange → bodies.Body Acts
acts_of [] = bodies.ends
acts_of (x ∷ xs) =
    bodies.acts (demo_role_name x.0) (with_mark mark.Puts) (codes "v") (Some sort.Whole)
    (bodies.acts (demo_role_name x.1) (with_mark mark.Takes) (codes "v") (Some sort.Whole) (acts_of xs))

shape : (s a r c b n f e : List ℕ) → b ++ n ≡ f ++ e → (s ++ (a ++ (r ++ (c ++ b)))) ++ n ≡ ((s ++ (a ++ (r ++ c))) ++ f) ++ e
shape s a r c b n f e h = simp append_assoc (ap (λ (z : List ℕ). s ++ (a ++ (r ++ (c ++ z)))) h)

body_text_shown : (xs : List Exchange) → texts.body_text Talks (body_of xs) ++ codes "\n" ≡ exchanges_text xs ++ codes "end\n"
body_text_shown [] = refl
body_text_shown (x ∷ xs) = shape (demo_role_name x.0) (codes "->") (demo_role_name x.1) (codes ":v(int). ") (texts.body_text Talks (body_of xs)) (codes "\n") (exchanges_text xs) (codes "end\n")
    (body_text_shown xs)

acts_text : (xs : List Exchange) → texts.body_text Acts (acts_of xs) ++ codes "\n" ≡ pairs_text xs ++ codes "end\n"
acts_text [] = refl
acts_text (x ∷ xs) = shape (demo_role_name x.0) (codes "!v(int). ") (demo_role_name x.1) (codes "?v(int). ") (texts.body_text Acts (acts_of xs)) (codes "\n") (pairs_text xs) (codes "end\n")
    (acts_text xs)

names_text_shown : (k a : ℕ) → protocol_texts.names_text (map demo_role_name (range_with_len a (suc k))) ≡ demo_role_name a ++ flat_map other_name (range_with_len (a + 1) k)
names_text_shown zero a = sym (append-nil (demo_role_name a))
names_text_shown (suc k) a =
    ap (λ (z : List ℕ). demo_role_name a ++ (codes ", " ++ z)) (names_text_shown k (a + 1))
    ∙ ap (λ (z : List ℕ). demo_role_name a ++ z) (sym (append_assoc (codes ", ") (demo_role_name (a + 1)) (flat_map other_name (range_with_len (a + 1 + 1) k))))

-- names and roles

abbrev names_for : ℕ → Names_data
names_for n = record { roles = map demo_role_name (numbers_from 0 n); labels = codes "v" ∷ [] }

name_of : (n i : ℕ) → i < n → slice_get (map demo_role_name (numbers_from 0 n)) i ≡ Some (demo_role_name i)
name_of n i h = let e : 0 + i ≡ i = omega arith in mapped_at demo_role_name n 0 i h ∙ ap (λ (k : ℕ). Some (demo_role_name k)) e

abbrev is_within : ℕ → Exchange → Bool
is_within n x = nat_lt x.0 n && nat_lt x.1 n

abbrev are_within : ℕ → List Exchange → Bool
are_within n xs = list_all (is_within n) xs

-- the protocol

abbrev arms_at : Place → List Arm
arms_at place.End = []
arms_at (place.Point p) = p.arms

places_next : (xs : List Exchange) (k i : ℕ) (h : Head) (arms : List Arm) → slice_get (map place_of_node (nodes_from k xs)) i ≡ Some (choice h arms)
    → arms ≡ arm 0 sort.Whole (suc (k + i)) ∷ []
places_next [] k zero h arms e = absurd (cc (e))
places_next [] k (suc i) h arms e = absurd (cc (e))
places_next (x ∷ xs) k zero h arms e =
    let f : suc k ≡ suc (k + 0) = omega arith in
    sym (ap arms_at (some_is (choice (head.Talk (role x.0) (role x.1)) (arm 0 sort.Whole (suc k) ∷ [])) (choice h arms) e)) ∙ ap (λ (z : ℕ). arm 0 sort.Whole z ∷ []) f
places_next (x ∷ xs) k (suc i) h arms e =
    let f : suc (suc k + i) ≡ suc (k + suc i) = omega arith in
    places_next xs (suc k) i h arms e ∙ ap (λ (z : ℕ). arm 0 sort.Whole z ∷ []) f

-- where each head leads to the next place, none is gone back to
none_back : (places : List Place) → ((i : ℕ) (h : Head) (arms : List Arm) → slice_get places i ≡ Some (choice h arms) → arms ≡ arm 0 sort.Whole (suc (0 + i)) ∷ []) → (j : ℕ) → IsGoneBackTo places j
    → ⊥
none_back places next j g =
    let there = ap (λ (z : List Arm). slice_get z g.index) (sym (next g.number g.head g.arms g.stands)) ∙ g.holds in
    let a = only_arm (arm 0 sort.Whole (suc (0 + g.number))) g.arm g.index there in
    let leads : suc (0 + g.number) ≡ j = ap (λ (z : Arm). z.next) a ∙ g.leads in
    let b = g.behind in
    omega arith

free : (n : ℕ) (xs : List Exchange) (j : ℕ) → IsGoneBackTo (places_of_protocol (protocol_of n xs)) j → ⊥
free n xs j g = none_back (places_of_protocol (protocol_of n xs)) (λ i h arms e. places_next xs 0 i h arms e) j g

draws : (xs : List Exchange) (n : ℕ) (all : List Exchange) (from k : ℕ) → from ≤ k → are_within n xs ≡ true
    → ((i : ℕ) → slice_get (nodes_from 0 all) (k + i) ≡ slice_get (nodes_from k xs) i)
    → Draws Talks (names_for n) (places_of_protocol (protocol_of n all)) from k (body_of xs)
draws [] n all from k le w at = let e : k ≡ k + 0 = omega arith in node_stands (nodes_from 0 all) k Finished (ap (λ (i : ℕ). slice_get (nodes_from 0 all) i) e ∙ at 0)
draws (x ∷ xs) n all from k le w at =
    let p = and_parts (is_within n x) (are_within n xs) w in
    let q = and_parts (nat_lt x.0 n) (nat_lt x.1 n) p.0 in
    let e : k ≡ k + 0 = omega arith in
    let here : slice_get (nodes_from 0 all) k ≡ Some (Talk (role x.0) (role x.1) (arm 0 sort.Whole (suc k) ∷ [])) = ap (λ (i : ℕ). slice_get (nodes_from 0 all) i) e ∙ at 0 in
    let later : (i : ℕ) → slice_get (nodes_from 0 all) (suc k + i) ≡ slice_get (nodes_from (suc k) xs) i =
    λ i. (let f : suc k + i ≡ k + suc i = omega arith in ap (λ (z : ℕ). slice_get (nodes_from 0 all) z) f ∙ at (suc i)) in (
      le,
      free n all k,
      (
        arm 0 sort.Whole (suc k),
        record {
          head = head.Talk (role x.0) (role x.1);
          stands = node_stands (nodes_from 0 all) k (Talk (role x.0) (role x.1) (arm 0 sort.Whole (suc k) ∷ [])) here;
          named = (name_of n x.0 (ltb-true x.0 n q.0), name_of n x.1 (ltb-true x.1 n q.1));
        },
        (refl, refl),
        draws xs n all (k + 1) (suc k) (omega arith) p.1 later,
      ),
    )

-- a machine

state_places_next : (xs : List Exchange) (k i : ℕ) (h : Head) (arms : List Arm) → slice_get (map place_of_state (states_from k xs)) i ≡ Some (choice h arms)
    → arms ≡ arm 0 sort.Whole (suc (k + i)) ∷ []
state_places_next [] k zero h arms e = absurd (cc (e))
state_places_next [] k (suc i) h arms e = absurd (cc (e))
state_places_next (x ∷ xs) k zero h arms e =
    let f : suc k ≡ suc (k + 0) = omega arith in
    sym (ap arms_at (some_is (choice (head.Act (role x.0) mark.Puts) (arm 0 sort.Whole (suc k) ∷ [])) (choice h arms) e)) ∙ ap (λ (z : ℕ). arm 0 sort.Whole z ∷ []) f
state_places_next (x ∷ xs) k (suc zero) h arms e =
    let f : suc (suc k) ≡ suc (k + 1) = omega arith in
    sym (ap arms_at (some_is (choice (head.Act (role x.1) mark.Takes) (arm 0 sort.Whole (suc (suc k)) ∷ [])) (choice h arms) e)) ∙ ap (λ (z : ℕ). arm 0 sort.Whole z ∷ []) f
state_places_next (x ∷ xs) k (suc (suc i)) h arms e =
    let f : suc (suc (suc k) + i) ≡ suc (k + suc (suc i)) = omega arith in
    state_places_next xs (suc (suc k)) i h arms e ∙ ap (λ (z : ℕ). arm 0 sort.Whole z ∷ []) f

pub states_next : (xs : List Exchange) (s i : ℕ) (m : Mark) (peer : Role) (arms : List Arm) → slice_get (states_from s xs) i ≡ Some (state_by_mark m peer arms)
    → arms ≡ arm 0 sort.Whole (suc (s + i)) ∷ []
states_next xs s i m peer arms e = state_places_next xs s i (head.Act peer m) arms (act_stands (machine 0 (states_from s xs)) i m peer arms e)

machine_free : (p : ℕ) (xs : List Exchange) (j : ℕ) → IsGoneBackTo (places_of_machine (machine p (states_from 0 xs))) j → ⊥
machine_free p xs j g = none_back (places_of_machine (machine p (states_from 0 xs))) (λ i h arms e. state_places_next xs 0 i h arms e) j g

machine_draws : (xs : List Exchange) (n p : ℕ) (all : List Exchange) (from k : ℕ) → from ≤ k → are_within n xs ≡ true
    → ((i : ℕ) → slice_get (states_from 0 all) (k + i) ≡ slice_get (states_from k xs) i)
    → Draws Acts (names_for n) (places_of_machine (machine p (states_from 0 all))) from k (acts_of xs)
machine_draws [] n p all from k le w at = let e : k ≡ k + 0 = omega arith in state_stands (states_from 0 all) k Done (ap (λ (i : ℕ). slice_get (states_from 0 all) i) e ∙ at 0)
machine_draws (x ∷ xs) n p all from k le w at =
    let c = and_parts (is_within n x) (are_within n xs) w in
    let q = and_parts (nat_lt x.0 n) (nat_lt x.1 n) c.0 in
    let e : k ≡ k + 0 = omega arith in
    let f : suc k ≡ k + 1 = omega arith in
    let here : slice_get (states_from 0 all) k ≡ Some (Puts (role x.0) (arm 0 sort.Whole (suc k) ∷ [])) = ap (λ (i : ℕ). slice_get (states_from 0 all) i) e ∙ at 0 in
    let second : slice_get (states_from 0 all) (suc k) ≡ Some (Takes (role x.1) (arm 0 sort.Whole (suc (suc k)) ∷ [])) = ap (λ (i : ℕ). slice_get (states_from 0 all) i) f ∙ at 1 in
    let later : (i : ℕ) → slice_get (states_from 0 all) (suc (suc k) + i) ≡ slice_get (states_from (suc (suc k)) xs) i =
    λ i. (let g : suc (suc k) + i ≡ k + suc (suc i) = omega arith in ap (λ (z : ℕ). slice_get (states_from 0 all) z) g ∙ at (suc (suc i))) in (
      le,
      machine_free p all k,
      (
        arm 0 sort.Whole (suc k),
        record {
          head = head.Act (role x.0) mark.Puts;
          stands = state_stands (states_from 0 all) k (Puts (role x.0) (arm 0 sort.Whole (suc k) ∷ [])) here;
          named = (name_of n x.0 (ltb-true x.0 n q.0), refl);
        },
        (refl, refl),
        (
          omega arith,
          machine_free p all (suc k),
          (
            arm 0 sort.Whole (suc (suc k)),
            record {
              head = head.Act (role x.1) mark.Takes;
              stands = state_stands (states_from 0 all) (suc k) (Takes (role x.1) (arm 0 sort.Whole (suc (suc k)) ∷ [])) second;
              named = (name_of n x.1 (ltb-true x.1 n q.1), refl);
            },
            (refl, refl),
            machine_draws xs n p all (suc k + 1) (suc (suc k)) (omega arith) c.1 later,
          ),
        ),
      ),
    )

line_is : (n p : ℕ) (xs : List Exchange) → p < n → are_within n xs ≡ true → IsCanonicalMachineText (names_for n) (machine p (states_from 0 xs)) (machine_line p xs)
line_is n p xs lt w = record {
  tree = record { opening = of_role (demo_role_name p); body = acts_of xs };
  canonical = record {
    opening = name_of n p lt;
    body = machine_draws xs n p xs 0 0 (omega arith) w (λ i. (let e : 0 + i ≡ i = omega arith in ap (λ (z : ℕ). slice_get (states_from 0 xs) z) e));
  };
  whole = ap (λ (z : List ℕ). codes "machine " ++ (demo_role_name p ++ (codes ": " ++ z))) (sym (acts_text xs));
}

-- the lines of all roles but the first

abbrev AreLines : Names_data → List (Option Machine_data) → List ℕ → Type 0
AreLines names [] text = text ≡ []
AreLines names (None ∷ ms) text = AreLines names ms text
AreLines names (Some m ∷ ms) text = (line : List ℕ) × (later : List ℕ) × IsCanonicalMachineText names m line × AreLines names ms later × (text ≡ line ++ later)

own_lines : (names : Names_data) (ms : List (Option Machine_data)) (text : List ℕ) → AreShaped ms → AreLines names ms text → AreCanonicalMachines names ms text
own_lines names [] text s h = h
own_lines names (None ∷ ms) text s h = own_lines names ms text s h
own_lines names (Some m ∷ ms) text s h = (h.0, h.1, IsLine h.0 s.0 h.2, own_lines names ms h.1 s.1 h.3, h.4)

lines : (kind : Demo) (n : ℕ) (pairs : ℕ → List Exchange) (k a : ℕ) → 0 < a → a + k ≤ n → ((i : ℕ) → i < n → are_within n (pairs i) ≡ true)
    → ((m : Machine_data) → m.role.0 ≢ 0 → machine_with_line kind m ≡ Some m)
    → AreLines (names_for n) (map (machine_with_line kind) (map (λ (i : ℕ). machine i (states_from 0 (pairs i))) (range_with_len a k)))
    (flat_map (λ (i : ℕ). machine_line i (pairs i)) (range_with_len a k))
lines kind n pairs zero a low le w is = refl
lines kind n pairs (suc k) a low le w is =
    let m : Machine_data = machine a (states_from 0 (pairs a)) in
    let later = lines kind n pairs k (a + 1) (omega arith) (omega arith) w is in
    let P : Option Machine_data → Type 0 = λ o.
    AreLines (names_for n) (o ∷ map (machine_with_line kind) (map (λ (i : ℕ). machine i (states_from 0 (pairs i))) (range_with_len (a + 1) k)))
    (machine_line a (pairs a) ++ flat_map (λ (i : ℕ). machine_line i (pairs i)) (range_with_len (a + 1) k)) in
    subst P (sym (is (machine a (states_from 0 (pairs a))) (λ e. (let z : a ≡ 0 = e in omega arith))))
    (machine_line a (pairs a), flat_map (λ (i : ℕ). machine_line i (pairs i)) (range_with_len (a + 1) k), line_is n a (pairs a) (omega arith) (w a (omega arith)), later, refl)

-- the roles line and the protocol

front_shape : (a r f n p e : List ℕ) → a ++ ((r ++ f) ++ (n ++ (p ++ e))) ≡ ((a ++ r) ++ (f ++ n)) ++ (p ++ e)
front_shape a r f n p e = simp append_assoc

front_is : (k : ℕ) (xs : List Exchange) → are_within (suc (suc k)) xs ≡ true
    → protocol.IsCanonicalProtocolText (names_for (suc (suc k))) (protocol_of (suc (suc k)) xs) (front_text (suc (suc k)) xs)
front_is k xs w = record {
  tree = record { opening = of_roles (demo_role_name 0) (demo_role_name 1) (map demo_role_name (range_with_len 2 k)); body = body_of xs };
  canonical = record {
    opening = refl;
    body = draws xs (suc (suc k)) xs 0 0 (omega arith) w (λ i. (let e : 0 + i ≡ i = omega arith in ap (λ (z : ℕ). slice_get (nodes_from 0 xs) z) e));
  };
  whole =
      let zero-name : demo_role_name 0 ≡ codes "R0" = ap (λ (z : List ℕ). codes "R" ++ z) (decimal_digit 0 (omega arith)) in
      let less : suc (suc k) - 1 ≡ suc k = omega arith in
      let names : protocol_texts.names_text (map demo_role_name (range_with_len 0 (suc (suc k)))) ≡ codes "R0" ++ flat_map other_name (range_with_len 1 (suc k)) =
      names_text_shown (suc k) 0 ∙ ap (λ (z : List ℕ). z ++ flat_map other_name (range_with_len 1 (suc k))) zero-name in
      ap (λ (z : ℕ). (codes "roles R0" ++ (flat_map other_name (range_with_len 1 z) ++ codes "\n")) ++ (codes "protocol " ++ (exchanges_text xs ++ codes "end\n"))) less
      ∙ sym (front_shape (codes "roles ") (codes "R0") (flat_map other_name (range_with_len 1 (suc k))) (codes "\n") (codes "protocol ") (exchanges_text xs ++ codes "end\n"))
      ∙ ap₂ (λ (y z : List ℕ). codes "roles " ++ (y ++ (codes "\nprotocol " ++ z))) (sym names) (sym (body_text_shown xs));
}

not_first : (m : Machine_data) → m.role.0 ≢ 0 → not (m.role.0 == 0) ≡ true
not_first m ne = elim (eqb_tells m.role.0 0) [ inl t ↦ absurd (ne t.1) | inr t ↦ ap not t.0 ]

-- two roles or more

data AtLeastTwo (n : ℕ) : Type 0 where
  Some' : (k : ℕ) → n ≡ suc (suc k) → AtLeastTwo n

two_or_more : (n : ℕ) → 2 ≤ n → AtLeastTwo n
two_or_more zero h = absurd (omega arith)
two_or_more (suc zero) h = absurd (omega arith)
two_or_more (suc (suc k)) h = Some' k refl

-- the demo of n roles, of which there are two at least
abbrev tests : (ℕ → List Exchange) → (ℕ → ℕ → List Exchange) → ℕ → Bool
tests exchanges pairs n = are_within n (exchanges n) && list_all (λ (i : ℕ). are_within n (pairs n i)) (range_with_len 0 n)

pairs_within : (pairs : ℕ → ℕ → List Exchange) (n : ℕ) → list_all (λ (i : ℕ). are_within n (pairs n i)) (range_with_len 0 n) ≡ true
    → (i : ℕ) → i < n → are_within n (pairs n i) ≡ true
pairs_within pairs n h i lt =
    let e : 0 + i ≡ i = omega arith in
    let P : ℕ → Type 0 = λ z. are_within n (pairs n z) ≡ true in
    subst P e (in_range (λ (i : ℕ). are_within n (pairs n i)) n 0 i h lt)

less : (k : ℕ) → suc (suc k) - 1 ≡ suc k
less k = omega arith

ring_written : (m : Machine_data) → m.role.0 ≢ 0 → machine_with_line demo.Ring m ≡ Some m
ring_written m ne = ap (λ (b : Bool). if b then Some m else None) (not_first m ne)

butterfly_written : (m : Machine_data) → m.role.0 ≢ 0 → machine_with_line demo.Butterfly m ≡ Some m
butterfly_written m ne = ap (λ (b : Bool). if b then Some m else None) (not_first m ne)

ring_at : (k : ℕ) (text : List ℕ) → has_session demo.Ring (suc (suc k)) ≡ true → tests ring_exchanges ring_pairs (suc (suc k)) ≡ true → text ≡ ring_text (suc (suc k)) → IsDemoText demo.Ring (suc (suc k)) text
ring_at k text s t e =
    let p = and_parts (are_within (suc (suc k)) (ring_exchanges (suc (suc k)))) (list_all (λ (i : ℕ). are_within (suc (suc k)) (ring_pairs (suc (suc k)) i)) (range_with_len 0 (suc (suc k)))) t in
    record {
      front = front_text (suc (suc k)) (ring_exchanges (suc (suc k)));
      back = flat_map (ring_line (suc (suc k))) (range_with_len 1 (suc k));
      protocol = front_is k (ring_exchanges (suc (suc k))) p.0;
      machines = own_lines (demo_names demo.Ring (suc (suc k))) (written_machines demo.Ring (suc (suc k))) (flat_map (ring_line (suc (suc k))) (range_with_len 1 (suc k)))
          (demos_are_shaped demo.Ring (suc (suc k)) s)
          (lines demo.Ring (suc (suc k)) (ring_pairs (suc (suc k))) (suc k) 1 (omega arith) (omega arith) (pairs_within ring_pairs (suc (suc k)) p.1) ring_written);
      whole = e ∙ ap (λ (z : ℕ). front_text (suc (suc k)) (ring_exchanges (suc (suc k))) ++ flat_map (ring_line (suc (suc k))) (range_with_len 1 z)) (less k)
          ∙ without (demo_names demo.Ring (suc (suc k))) (demo_names demo.Ring (suc (suc k))).roles (front_text (suc (suc k)) (ring_exchanges (suc (suc k))))
          (flat_map (ring_line (suc (suc k))) (range_with_len 1 (suc k)));
    }

butterfly_at : (k : ℕ) (text : List ℕ) → has_session demo.Butterfly (suc (suc k)) ≡ true → tests butterfly_exchanges butterfly_pairs (suc (suc k)) ≡ true → text ≡ butterfly_text (suc (suc k))
    → IsDemoText demo.Butterfly (suc (suc k)) text
butterfly_at k text s t e =
    let p = and_parts (are_within (suc (suc k)) (butterfly_exchanges (suc (suc k)))) (list_all (λ (i : ℕ). are_within (suc (suc k)) (butterfly_pairs (suc (suc k)) i)) (range_with_len 0 (suc (suc k))))
    t in
    record {
      front = front_text (suc (suc k)) (butterfly_exchanges (suc (suc k)));
      back = flat_map (butterfly_line (suc (suc k))) (range_with_len 1 (suc k));
      protocol = front_is k (butterfly_exchanges (suc (suc k))) p.0;
      machines = own_lines (demo_names demo.Butterfly (suc (suc k))) (written_machines demo.Butterfly (suc (suc k))) (flat_map (butterfly_line (suc (suc k))) (range_with_len 1 (suc k)))
          (demos_are_shaped demo.Butterfly (suc (suc k)) s)
          (lines demo.Butterfly (suc (suc k)) (butterfly_pairs (suc (suc k))) (suc k) 1 (omega arith) (omega arith) (pairs_within butterfly_pairs (suc (suc k)) p.1) butterfly_written);
      whole = e ∙ ap (λ (z : ℕ). front_text (suc (suc k)) (butterfly_exchanges (suc (suc k))) ++ flat_map (butterfly_line (suc (suc k))) (range_with_len 1 z)) (less k)
          ∙ without (demo_names demo.Butterfly (suc (suc k))) (demo_names demo.Butterfly (suc (suc k))).roles (front_text (suc (suc k)) (butterfly_exchanges (suc (suc k))))
          (flat_map (butterfly_line (suc (suc k))) (range_with_len 1 (suc k)));
    }

ring_tests : list_all (tests ring_exchanges ring_pairs) (range_with_len 2 15) ≡ true
ring_tests = refl

pub ring_is : (n : ℕ) (text : List ℕ) → has_session demo.Ring n ≡ true → text ≡ ring_text n → IsDemoText demo.Ring n text
ring_is n text h e =
    let p = and_parts (nat_le 2 n) (nat_le n 16) h in
    let low : 2 ≤ n = leb-true 2 n p.0 in
    let high : n ≤ 16 = leb-true n 16 p.1 in
    go (two_or_more n low) low high
  where
    go : AtLeastTwo n → 2 ≤ n → n ≤ 16 → IsDemoText demo.Ring n text
    go (Some' k is) low high =
        let t = in_range (tests ring_exchanges ring_pairs) 15 2 k ring_tests (omega (arith, is)) in
        let f : 2 + k ≡ suc (suc k) = omega arith in
        let P : ℕ → Type 0 = λ z. tests ring_exchanges ring_pairs z ≡ true in
        let Q : ℕ → Type 0 = λ z. IsDemoText demo.Ring z text in
        let S : ℕ → Type 0 = λ z. has_session demo.Ring z ≡ true in
        subst Q (sym is) (ring_at k text (subst S is h) (subst P f t) (e ∙ ap ring_text is))

either : (a b : Bool) → (a || b) ≡ true → (a ≡ true) ⊎ (b ≡ true)
either true b h = inl refl
either false b h = inr h

eq_by : (x y : ℕ) → (x == y) ≡ true → x ≡ y
eq_by x y h = elim (eqb_tells x y) [ inl t ↦ t.1 | inr t ↦ absurd (false≢true (sym t.0 ∙ h)) ]

pub butterfly_is : (n : ℕ) (text : List ℕ) → has_session demo.Butterfly n ≡ true → text ≡ butterfly_text n → IsDemoText demo.Butterfly n text
butterfly_is n text h e =
    let Q : ℕ → Type 0 = λ z. IsDemoText demo.Butterfly z text in
    elim (either ((n == 2) || (n == 4)) ((n == 8) || (n == 16)) h) [
      | inl k ↦ elim (either (n == 2) (n == 4) k) [
        | inl f ↦ subst Q (sym (eq_by n 2 f)) (butterfly_at 0 text refl refl (e ∙ ap butterfly_text (eq_by n 2 f)))
        | inr f ↦ subst Q (sym (eq_by n 4 f)) (butterfly_at 2 text refl refl (e ∙ ap butterfly_text (eq_by n 4 f)))
      ]
      | inr k ↦ elim (either (n == 8) (n == 16) k) [
        | inl f ↦ subst Q (sym (eq_by n 8 f)) (butterfly_at 6 text refl refl (e ∙ ap butterfly_text (eq_by n 8 f)))
        | inr f ↦ subst Q (sym (eq_by n 16 f)) (butterfly_at 14 text refl refl (e ∙ ap butterfly_text (eq_by n 16 f)))
      ]
    ]
