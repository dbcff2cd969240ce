-- A demo's text spells the demo's document.
use Rattle.std.proofs.Common.{◌≡◌, ◌⊎◌, inl, inr, ℕ, zero, suc, ◌+◌, ◌<◌, ◌≤◌, Bool, true, false, ◌||◌, ◌==◌, nat_le, List, [], ◌∷◌, if◌then◌else◌, length, map, Some, None, slice_get, refl, sym, ap}
use Rattle.std.proofs.Common.{◌∙◌, subst, arith}
use Rattle.std.specs.List.{list_all, range_with_len}
use Rattle.std.proofs.lemmas.Bool.{and_parts, false≢true, leb-true}
use Rattle.std.proofs.lemmas.Bool.Decides.{eqb_tells}
use Rattle.std.proofs.lemmas.List.{length-map}
use Rattle.std.proofs.lemmas.Option.{slice_get_within}
use Rattle.rs_documents.specs.Again.{CanBeReadAgain, HasAllLabels, HasLabel}
use Rattle.rs_documents.specs.Documents.{SpellsDocument}
use Rattle.rs_documents.proofs.Again.{read_as_itself_by_protocol}
use Rattle.rs_documents.proofs.Parts.{none_there}
use Rattle.rs_model.specs.Data.{Machine_data, Protocol_data}
use Rattle.rs_model.specs.declared.graph.Node.{Node}
use Rattle.rs_model.specs.declared.graph.Node.TheVariants.{Finished, Talk}
use Rattle.rs_model.specs.declared.values.Sort.TheVariants as sort
use Rattle.rs_model.specs.declared.demos.Demo.{Demo}
use Rattle.rs_model.specs.declared.demos.Demo.TheVariants as demo
use Rattle.rs_demos.specs.Sessions.{arm, role, demo_machines, demo_names, demo_protocol, double_kernel, double_sink, double_source, has_line, has_session, stream_sink, stream_source}
use Rattle.rs_demos.specs.Sessions.{machine_with_line, ring_machine, butterfly_machine, demo_role_name, numbers_from}
use Rattle.rs_demos.specs.Texts.{IsDemoText, document_of}
use Rattle.rs_demos.proofs.Printable.{printable}
use Rattle.rs_demos.proofs.Ranges.{in_range, mapped_at}

-- ---- machines stand in their roles' places

mapped_length : {X Y : Type 0} (f : X → Y) (xs : List X) → length (map f xs) ≡ length xs
mapped_length f xs = length-map xs f

range_length : (a many : ℕ) → length (range_with_len a many) ≡ many
range_length a zero = refl
range_length a (suc many) = ap (λ (z : ℕ). suc z) (range_length (a + 1) many)

-- the machine at each place is that of its role
InPlace : List Machine_data → Type 0
InPlace ms = (k : ℕ) (m : Machine_data) → slice_get ms k ≡ Some m → m.role.0 ≡ k

of_numbers : (f : ℕ → Machine_data) → ((i : ℕ) → (f i).role.0 ≡ i) → (n : ℕ) → InPlace (map f (numbers_from 0 n))
unfolding InPlace
of_numbers f own n k m e =
    let within = slice_get_within (map f (numbers_from 0 n)) k m e in
    let size : length (map f (numbers_from 0 n)) ≡ n = mapped_length f (numbers_from 0 n) ∙ range_length 0 n in
    let there = mapped_at f n 0 k (omega (arith, within, size)) in
    let same : Some (f (0 + k)) ≡ Some m = sym there ∙ e in
    let is : f (0 + k) ≡ m = cc (same) in
    ap (λ (z : Machine_data). z.role.0) (sym is) ∙ own (0 + k) ∙ (let e : 0 + k ≡ k = omega arith in e)

in_place_shown : (kind : Demo) (n : ℕ) → InPlace (demo_machines kind n)
unfolding InPlace
in_place_shown demo.Double n zero m e = let is : double_kernel ≡ m = cc (e) in ap (λ (z : Machine_data). z.role.0) (sym is)
in_place_shown demo.Double n (suc zero) m e = let is : double_source ≡ m = cc (e) in ap (λ (z : Machine_data). z.role.0) (sym is)
in_place_shown demo.Double n (suc (suc zero)) m e = let is : double_sink ≡ m = cc (e) in ap (λ (z : Machine_data). z.role.0) (sym is)
in_place_shown demo.Double n (suc (suc (suc k))) m e = absurd (cc (e))
in_place_shown demo.Stream n zero m e = let is : stream_source ≡ m = cc (e) in ap (λ (z : Machine_data). z.role.0) (sym is)
in_place_shown demo.Stream n (suc zero) m e = let is : stream_sink ≡ m = cc (e) in ap (λ (z : Machine_data). z.role.0) (sym is)
in_place_shown demo.Stream n (suc (suc k)) m e = absurd (cc (e))
in_place_shown demo.Ring n k m e = of_numbers (ring_machine n) (λ i. refl) n k m e
in_place_shown demo.Butterfly n k m e = of_numbers (butterfly_machine n) (λ i. refl) n k m e

written_there : (kind : Demo) (ms : List Machine_data) (k : ℕ) (m : Machine_data) → slice_get (map (machine_with_line kind) ms) k ≡ Some (Some m) → slice_get ms k ≡ Some m
written_there kind [] k m e = absurd (cc (e))
written_there kind (x ∷ ms) zero m e = go (has_line kind x.role.0) e
  where
    go : (b : Bool) → Some (if b then Some x else None) ≡ Some (Some m) → Some x ≡ Some m
    go true e = cc (e)
    go false e = absurd (cc (e))
written_there kind (x ∷ ms) (suc k) m e = written_there kind ms k m e

as_many : (kind : Demo) (n : ℕ) → length (demo_machines kind n) ≡ length (demo_names kind n).roles
as_many demo.Double n = refl
as_many demo.Stream n = refl
as_many demo.Ring n = mapped_length (ring_machine n) (numbers_from 0 n) ∙ sym (mapped_length demo_role_name (numbers_from 0 n))
as_many demo.Butterfly n = mapped_length (butterfly_machine n) (numbers_from 0 n) ∙ sym (mapped_length demo_role_name (numbers_from 0 n))

few_labels : (kind : Demo) (n : ℕ) → length (demo_names kind n).labels ≤ 256
few_labels demo.Double n = omega arith
few_labels demo.Stream n = omega arith
few_labels demo.Ring n = omega arith
few_labels demo.Butterfly n = omega arith

pub in_place_at : (kind : Demo) (n p : ℕ) (m : Machine_data) → slice_get (demo_machines kind n) p ≡ Some m → m.role.0 ≡ p
unfolding InPlace
in_place_at kind n p m e = in_place_shown kind n p m e

-- as many machines as the count says, where there is a session
pub machines_many : (kind : Demo) (n : ℕ) → (demo_protocol kind n).roles ≡ n → length (demo_machines kind n) ≡ n
machines_many demo.Double n r = r
machines_many demo.Stream n r = r
machines_many demo.Ring n r = mapped_length (ring_machine n) (numbers_from 0 n) ∙ range_length 0 n
machines_many demo.Butterfly n r = mapped_length (butterfly_machine n) (numbers_from 0 n) ∙ range_length 0 n

pub can_be_read : (kind : Demo) (n : ℕ) → has_session kind n ≡ true → CanBeReadAgain (document_of kind n)
unfolding InPlace
can_be_read kind n s = record {
  shown = printable kind n s;
  bounded = few_labels kind n;
  machines = record {
    one_each = mapped_length (machine_with_line kind) (demo_machines kind n) ∙ as_many kind n;
    in_place = λ k m e. in_place_shown kind n k m (written_there kind (demo_machines kind n) k m e);
  };
  derivations = record {
    one_each = mapped_length (λ (name : List ℕ). None) (demo_names kind n).roles;
    in_place = λ k m e. absurd (none_there (demo_names kind n).roles k m e);
  };
  small = λ k m e. absurd (none_there (demo_names kind n).roles k m e);
}

-- ---- the protocol has all labels

-- the first node is a talk whose first arm has the first label
abbrev begins_with_first : List Node → Bool
begins_with_first (Talk s r (a ∷ arms) ∷ nodes) = a.label.0 == 0
begins_with_first nodes = false

abbrev label_test : Demo → ℕ → Bool
label_test kind n = begins_with_first (demo_protocol kind n).nodes

first_label : (p : Protocol_data) (nodes : List Node) → p.nodes ≡ nodes → begins_with_first nodes ≡ true → HasLabel p 0
first_label p [] e h = absurd (false≢true h)
first_label p (Finished ∷ nodes) e h = absurd (false≢true h)
first_label p (Talk s r [] ∷ nodes) e h = absurd (false≢true h)
first_label p (Talk s r (a ∷ arms) ∷ nodes) e h = record {
  node = 0;
  sender = s;
  receiver = r;
  arms = a ∷ arms;
  talks = ap (λ (z : List Node). slice_get z 0) e;
  place = 0;
  arm = a;
  stands = refl;
  number = elim (eqb_tells a.label.0 0) [ inl t ↦ t.1 | inr t ↦ absurd (false≢true (sym t.0 ∙ h)) ];
}

ring_labels : list_all (label_test demo.Ring) (range_with_len 2 15) ≡ true
ring_labels = refl

either : (a b : Bool) → (a || b) ≡ true → (a ≡ true) ⊎ (b ≡ true)
either true b h = inl refl
either false b h = inr h

eq_by : (x y : ℕ) → (x == y) ≡ true → x ≡ y
eq_by x y h = elim (eqb_tells x y) [ inl t ↦ t.1 | inr t ↦ absurd (false≢true (sym t.0 ∙ h)) ]

ring_label : (n : ℕ) → has_session demo.Ring n ≡ true → label_test demo.Ring n ≡ true
ring_label n s =
    let c = and_parts (nat_le 2 n) (nat_le n 16) s in
    let low = leb-true 2 n c.0 in
    let high = leb-true n 16 c.1 in
    go n low high
  where
    go : (n : ℕ) → 2 ≤ n → n ≤ 16 → label_test demo.Ring n ≡ true
    go zero low high = absurd (omega arith)
    go (suc zero) low high = absurd (omega arith)
    go (suc (suc k)) low high =
        let e : 2 + k ≡ suc (suc k) = omega arith in
        subst (λ (z : ℕ). label_test demo.Ring z ≡ true) e (in_range (label_test demo.Ring) 15 2 k ring_labels (omega arith))

butterfly_label : (n : ℕ) → has_session demo.Butterfly n ≡ true → label_test demo.Butterfly n ≡ true
butterfly_label n s =
    let P : ℕ → Type 0 = λ z. label_test demo.Butterfly z ≡ true in
    elim (either ((n == 2) || (n == 4)) ((n == 8) || (n == 16)) s) [
      | inl k ↦ elim (either (n == 2) (n == 4) k) [ inl f ↦ subst P (sym (eq_by n 2 f)) refl | inr f ↦ subst P (sym (eq_by n 4 f)) refl ]
      | inr k ↦ elim (either (n == 8) (n == 16) k) [ inl f ↦ subst P (sym (eq_by n 8 f)) refl | inr f ↦ subst P (sym (eq_by n 16 f)) refl ]
    ]

only_first : (p : Protocol_data) (k : ℕ) → k < 1 → HasLabel p 0 → HasLabel p k
only_first p k lt h = let e : 0 ≡ k = omega arith in subst (λ (z : ℕ). HasLabel p z) e h

pub all_labels : (kind : Demo) (n : ℕ) → has_session kind n ≡ true → HasAllLabels (demo_names kind n) (demo_protocol kind n)
all_labels demo.Double n s zero lt = record {
  node = 0;
  sender = role 0;
  receiver = role 1;
  arms = arm 0 sort.Unit 1 ∷ [];
  talks = refl;
  place = 0;
  arm = arm 0 sort.Unit 1;
  stands = refl;
  number = refl;
}
all_labels demo.Double n s (suc zero) lt = record {
  node = 2;
  sender = role 1;
  receiver = role 0;
  arms = arm 1 sort.Octets 3 ∷ arm 2 sort.Unit 4 ∷ [];
  talks = refl;
  place = 0;
  arm = arm 1 sort.Octets 3;
  stands = refl;
  number = refl;
}
all_labels demo.Double n s (suc (suc zero)) lt = record {
  node = 2;
  sender = role 1;
  receiver = role 0;
  arms = arm 1 sort.Octets 3 ∷ arm 2 sort.Unit 4 ∷ [];
  talks = refl;
  place = 1;
  arm = arm 2 sort.Unit 4;
  stands = refl;
  number = refl;
}
all_labels demo.Double n s (suc (suc (suc k))) lt = absurd (omega (arith, lt))
all_labels demo.Stream n s zero lt = record {
  node = 0;
  sender = role 1;
  receiver = role 0;
  arms = arm 0 sort.Unit 1 ∷ [];
  talks = refl;
  place = 0;
  arm = arm 0 sort.Unit 1;
  stands = refl;
  number = refl;
}
all_labels demo.Stream n s (suc zero) lt = record {
  node = 1;
  sender = role 0;
  receiver = role 1;
  arms = arm 1 sort.Octets 0 ∷ arm 2 sort.Unit 2 ∷ [];
  talks = refl;
  place = 0;
  arm = arm 1 sort.Octets 0;
  stands = refl;
  number = refl;
}
all_labels demo.Stream n s (suc (suc zero)) lt = record {
  node = 1;
  sender = role 0;
  receiver = role 1;
  arms = arm 1 sort.Octets 0 ∷ arm 2 sort.Unit 2 ∷ [];
  talks = refl;
  place = 1;
  arm = arm 2 sort.Unit 2;
  stands = refl;
  number = refl;
}
all_labels demo.Stream n s (suc (suc (suc k))) lt = absurd (omega (arith, lt))
all_labels demo.Ring n s k lt = only_first (demo_protocol demo.Ring n) k lt (first_label (demo_protocol demo.Ring n) (demo_protocol demo.Ring n).nodes refl (ring_label n s))
all_labels demo.Butterfly n s k lt = only_first (demo_protocol demo.Butterfly n) k lt (first_label (demo_protocol demo.Butterfly n) (demo_protocol demo.Butterfly n).nodes refl (butterfly_label n s))

pub spelt_document : (kind : Demo) (count : ℕ) (text : List ℕ) → has_session kind count ≡ true → IsDemoText kind count text → SpellsDocument text (document_of kind count)
spelt_document kind count text s t = read_as_itself_by_protocol (document_of kind count) text (can_be_read kind count s) (all_labels kind count s) t
