-- The documents of the demos can be printed.
use Rattle.std.proofs.Common.{◌≡◌, ◌⊎◌, inl, inr, ℕ, zero, suc, ◌+◌, ◌-◌, ◌<◌, ◌≤◌, Bool, true, false, ◌&&◌, ◌||◌, ◌==◌, nat_lt, nat_le, List, [], ◌∷◌, length, Option, Some, None, slice_get, refl}
use Rattle.std.proofs.Common.{sym, ◌∙◌, subst, arith}
use Rattle.std.specs.Fmt.{digits}
use Rattle.std.specs.List.{list_all, range_with_len}
use Rattle.std.proofs.lemmas.Bool.{and_parts, false≢true, leb-true, ltb-true}
use Rattle.std.proofs.lemmas.Bool.Decides.{eqb_tells, leb_tells}
use Rattle.rs_model.specs.Data.{Names_data, Protocol_data, Machine_data}
use Rattle.rs_model.specs.declared.graph.Arm.{Arm}
use Rattle.rs_model.specs.declared.graph.Node.{Node}
use Rattle.rs_model.specs.declared.graph.Node.TheVariants.{Finished, Talk}
use Rattle.rs_model.specs.declared.graph.Role.{Role}
use Rattle.rs_model.specs.declared.machines.State.{State}
use Rattle.rs_model.specs.declared.machines.State.TheVariants.{Done, Puts, Takes}
use Rattle.rs_model.specs.declared.demos.Demo.{Demo}
use Rattle.rs_model.specs.declared.demos.Demo.TheVariants as demo
use Rattle.rs_text.specs.Sound.{are_sound}
use Rattle.rs_text.proofs.Naming.{decides_sound}
use Rattle.rs_global.specs.Shapes.{is_shaped}
use Rattle.rs_global.proofs.ShapeWhole as protocols
use Rattle.rs_machines.specs.Canonical.{IsMachineTextShaped}
use Rattle.rs_machines.specs.Enough.{AreEnoughFor}
use Rattle.rs_machines.specs.Machines.{state_by_mark}
use Rattle.rs_machines.specs.Shapes as machine_shapes
use Rattle.rs_bodies.specs.declared.dialects.Mark.{Mark}
use Rattle.rs_bodies.specs.declared.dialects.Mark.TheVariants as mark
use Rattle.rs_machines.proofs.ShapeWhole as machines
use Rattle.rs_documents.proofs.Parts.{none_there}
use Rattle.rs_documents.specs.Canonical.{AreShown, CanBeShown}
use Rattle.rs_demos.specs.Sessions.{has_session, demo_names, demo_protocol, written_machines}
use Rattle.rs_demos.specs.Texts.{document_of}
use Rattle.rs_demos.proofs.Ranges.{in_range}

-- tests

abbrev have_labels : ℕ → List Arm → Bool
have_labels k arms = list_all (λ (a : Arm). nat_lt a.label.0 k) arms

abbrev node_named : ℕ → Node → Bool
node_named k Finished = true
node_named k (Talk s r arms) = have_labels k arms

abbrev state_named : ℕ → ℕ → State → Bool
state_named roles k Done = true
state_named roles k (Puts p arms) = nat_lt p.0 roles && have_labels k arms
state_named roles k (Takes p arms) = nat_lt p.0 roles && have_labels k arms

abbrev machine_test : Names_data → Option Machine_data → Bool
machine_test names None = true
machine_test names (Some m) =
    machine_shapes.is_shaped m && (nat_lt m.role.0 (length names.roles) && list_all (state_named (length names.roles) (length names.labels)) m.states)

abbrev document_test : Names_data → Protocol_data → List (Option Machine_data) → Bool
document_test names p ms =
    (are_sound names && is_shaped p)
    && (((length names.roles == p.roles) && list_all (node_named (length names.labels)) p.nodes) && list_all (machine_test names) ms)

abbrev test : Demo → ℕ → Bool
test kind n = document_test (demo_names kind n) (demo_protocol kind n) (written_machines kind n)

-- what they tell

label_below : (k : ℕ) (arms : List Arm) (i : ℕ) (a : Arm) → have_labels k arms ≡ true → slice_get arms i ≡ Some a → a.label.0 < k
label_below k [] i a h e = absurd (cc (e))
label_below k (x ∷ xs) zero a h e =
    let p = and_parts (nat_lt x.label.0 k) (have_labels k xs) h in
    let same : x ≡ a = cc (e) in
    let P : Arm → Type 0 = λ z. z.label.0 < k in
    subst P same (ltb-true x.label.0 k p.0)
label_below k (x ∷ xs) (suc i) a h e = label_below k xs i a (and_parts (nat_lt x.label.0 k) (have_labels k xs) h).1 e

pub at_all : {X : Type 0} (f : X → Bool) (xs : List X) (i : ℕ) (x : X) → list_all f xs ≡ true → slice_get xs i ≡ Some x → f x ≡ true
at_all f [] i x h e = absurd (cc (e))
at_all {X = X} f (y ∷ ys) zero x h e =
    let same : y ≡ x = cc (e) in
    let P : X → Type 0 = λ z. f z ≡ true in
    subst P same (and_parts (f y) (list_all f ys) h).0
at_all f (y ∷ ys) (suc i) x h e = at_all f ys i x (and_parts (f y) (list_all f ys) h).1 e

peer_below : (roles k : ℕ) (m : Mark) (peer : Role) (arms : List Arm) → state_named roles k (state_by_mark m peer arms) ≡ true → (peer.0 < roles) × (have_labels k arms ≡ true)
peer_below roles k mark.Puts peer arms h = let p = and_parts (nat_lt peer.0 roles) (have_labels k arms) h in (ltb-true peer.0 roles p.0, p.1)
peer_below roles k mark.Takes peer arms h = let p = and_parts (nat_lt peer.0 roles) (have_labels k arms) h in (ltb-true peer.0 roles p.0, p.1)

enough_for : (names : Names_data) (m : Machine_data) → nat_lt m.role.0 (length names.roles) ≡ true
    → list_all (state_named (length names.roles) (length names.labels)) m.states ≡ true → AreEnoughFor names m
enough_for names m r h = record {
  role = ltb-true m.role.0 (length names.roles) r;
  peers = λ n k peer arms e.
      (peer_below (length names.roles) (length names.labels) k peer arms (at_all (state_named (length names.roles) (length names.labels)) m.states n (state_by_mark k peer arms) h e)).0;
  labels = λ n place k peer arms a e s.
      label_below (length names.labels) arms place a
      (peer_below (length names.roles) (length names.labels) k peer arms (at_all (state_named (length names.roles) (length names.labels)) m.states n (state_by_mark k peer arms) h e)).1 s;
}

-- each machine that is there is read from a body of acts
abbrev pub AreShaped : List (Option Machine_data) → Type 0
AreShaped [] = Unit {0}
AreShaped (None ∷ ms) = AreShaped ms
AreShaped (Some m ∷ ms) = IsMachineTextShaped m × AreShaped ms

shaped_by : (names : Names_data) (ms : List (Option Machine_data)) → list_all (machine_test names) ms ≡ true → AreShaped ms
shaped_by names [] h = tt
shaped_by names (None ∷ ms) h = shaped_by names ms h
shaped_by names (Some m ∷ ms) h =
    let p = and_parts (machine_test names (Some m)) (list_all (machine_test names) ms) h in
    let q = and_parts (machine_shapes.is_shaped m) (nat_lt m.role.0 (length names.roles) && list_all (state_named (length names.roles) (length names.labels)) m.states) p.0 in
    (machines.walked_is_shaped m q.0, shaped_by names ms p.1)

shown : (names : Names_data) (ms : List (Option Machine_data)) → list_all (machine_test names) ms ≡ true → AreShown names ms
shown names [] h = tt
shown names (None ∷ ms) h = (tt, shown names ms h)
shown names (Some m ∷ ms) h =
    let p = and_parts (machine_test names (Some m)) (list_all (machine_test names) ms) h in
    let q = and_parts (machine_shapes.is_shaped m) (nat_lt m.role.0 (length names.roles) && list_all (state_named (length names.roles) (length names.labels)) m.states) p.0 in
    let e = and_parts (nat_lt m.role.0 (length names.roles)) (list_all (state_named (length names.roles) (length names.labels)) m.states) q.1 in
    (record { enough = enough_for names m e.0 e.1; shaped = inl (machines.walked_is_shaped m q.0) }, shown names ms p.1)

eq_by : (x y : ℕ) → (x == y) ≡ true → x ≡ y
eq_by x y h = elim (eqb_tells x y) [ inl t ↦ t.1 | inr t ↦ absurd (false≢true (sym t.0 ∙ h)) ]

can_be_shown : (kind : Demo) (n : ℕ) → test kind n ≡ true → CanBeShown (document_of kind n)
can_be_shown kind n h =
    let a = and_parts (are_sound (demo_names kind n) && is_shaped (demo_protocol kind n))
    (((length (demo_names kind n).roles == (demo_protocol kind n).roles) && list_all (node_named (length (demo_names kind n).labels)) (demo_protocol kind n).nodes) && list_all
    (machine_test (demo_names kind n)) (written_machines kind n)) h in
    let b = and_parts (are_sound (demo_names kind n)) (is_shaped (demo_protocol kind n)) a.0 in
    let c = and_parts ((length (demo_names kind n).roles == (demo_protocol kind n).roles) && list_all (node_named (length (demo_names kind n).labels)) (demo_protocol kind n).nodes)
    (list_all (machine_test (demo_names kind n)) (written_machines kind n)) a.1 in
    let d = and_parts (length (demo_names kind n).roles == (demo_protocol kind n).roles) (list_all (node_named (length (demo_names kind n).labels)) (demo_protocol kind n).nodes) c.0 in
    record {
      sound = (decides_sound (demo_names kind n)).0 b.0;
      shaped = protocols.walked_is_shaped (demo_protocol kind n) b.1;
      enough = record {
        roles = eq_by (length (demo_names kind n).roles) (demo_protocol kind n).roles d.0;
        labels = λ k place s r arms a' e t.
            label_below (length (demo_names kind n).labels) arms place a'
            (at_all (node_named (length (demo_names kind n).labels)) (demo_protocol kind n).nodes k (Talk s r arms) d.1 e) t;
      };
      machines = shown (demo_names kind n) (written_machines kind n) c.1;
      derivations = λ k x e. absurd (none_there (demo_names kind n).roles k x e);
    }

-- all demos

small_rings : list_all (test demo.Ring) (range_with_len 2 7) ≡ true
unfolding digits
small_rings = refl

middle_rings : list_all (test demo.Ring) (range_with_len 9 4) ≡ true
unfolding digits
middle_rings = refl

great_rings : list_all (test demo.Ring) (range_with_len 13 4) ≡ true
unfolding digits
great_rings = refl

shifted : (a n many : ℕ) → a ≤ n → n < a + many → list_all (test demo.Ring) (range_with_len a many) ≡ true → test demo.Ring n ≡ true
shifted a n many low high h =
    let e : a + (n - a) ≡ n = omega arith in
    let P : ℕ → Type 0 = λ z. test demo.Ring z ≡ true in
    subst P e (in_range (test demo.Ring) many a (n - a) h (omega arith))

rings : (n : ℕ) → 2 ≤ n → n ≤ 16 → test demo.Ring n ≡ true
rings n low high = elim (leb_tells 9 n) [
  | inr t ↦ shifted 2 n 7 low (let k = t.1 in omega arith) small_rings
  | inl t ↦ elim (leb_tells 13 n) [
    | inr u ↦ shifted 9 n 4 t.1 (let k = u.1 in omega arith) middle_rings
    | inl u ↦ shifted 13 n 4 u.1 (omega arith) great_rings
  ]
]

double_test : (n : ℕ) → test demo.Double n ≡ true
double_test n = refl

stream_test : (n : ℕ) → test demo.Stream n ≡ true
stream_test n = refl

butterfly_2 : test demo.Butterfly 2 ≡ true
unfolding digits
butterfly_2 = refl

butterfly_4 : test demo.Butterfly 4 ≡ true
unfolding digits
butterfly_4 = refl

butterfly_8 : test demo.Butterfly 8 ≡ true
unfolding digits
butterfly_8 = refl

butterfly_16 : test demo.Butterfly 16 ≡ true
unfolding digits
butterfly_16 = refl

either : (a b : Bool) → (a || b) ≡ true → (a ≡ true) ⊎ (b ≡ true)
either true b h = inl refl
either false b h = inr h

tests : (kind : Demo) (n : ℕ) → has_session kind n ≡ true → test kind n ≡ true
tests demo.Double n s = double_test n
tests demo.Stream n s = stream_test n
tests demo.Ring n s = let c = and_parts (nat_le 2 n) (nat_le n 16) s in rings n (leb-true 2 n c.0) (leb-true n 16 c.1)
tests demo.Butterfly n s =
    let P : ℕ → Type 0 = λ z. test demo.Butterfly z ≡ true in
    elim (either ((n == 2) || (n == 4)) ((n == 8) || (n == 16)) s) [
      | inl k ↦ elim (either (n == 2) (n == 4) k) [ inl f ↦ subst P (sym (eq_by n 2 f)) butterfly_2 | inr f ↦ subst P (sym (eq_by n 4 f)) butterfly_4 ]
      | inr k ↦ elim (either (n == 8) (n == 16) k) [ inl f ↦ subst P (sym (eq_by n 8 f)) butterfly_8 | inr f ↦ subst P (sym (eq_by n 16 f)) butterfly_16 ]
    ]

pub demos_are_shaped : (kind : Demo) (n : ℕ) → has_session kind n ≡ true → AreShaped (written_machines kind n)
demos_are_shaped kind n s =
    let names : Names_data = demo_names kind n in
    let p : Protocol_data = demo_protocol kind n in
    let all = list_all (machine_test names) (written_machines kind n) in
    let named = (length names.roles == p.roles) && list_all (node_named (length names.labels)) p.nodes in
    shaped_by names (written_machines kind n) (and_parts named all (and_parts (are_sound names && is_shaped p) (named && all) (tests kind n s)).1).1

pub printable : (kind : Demo) (n : ℕ) → has_session kind n ≡ true → CanBeShown (document_of kind n)
printable kind n s = can_be_shown kind n (tests kind n s)
