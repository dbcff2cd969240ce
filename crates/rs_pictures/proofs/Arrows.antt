-- The arrows of a picture are the messages of its protocol, each once.
use Rattle.std.proofs.Common.{◌≡◌, ℕ, zero, suc, ◌+◌, List, [], ◌∷◌, ◌++◌, length, take, Bool, true, false, ◌||◌, cond, Option, Some, slice_get, refl, sym, ap, ◌∙◌, subst, append_assoc, arith}
use Rattle.std.specs.List.{count_by}
use Rattle.std.specs.Str.{bytes_eq}
use Rattle.std.proofs.lemmas.List.Sums.{sum_by-append}
use Rattle.std.proofs.lemmas.Slice.Eq.{bytes_eq-Decides}
use Rattle.rs_model.specs.Data.{Names_data, Protocol_data}
use Rattle.rs_model.specs.declared.graph.Arm.{Arm}
use Rattle.rs_model.specs.declared.graph.Node.{Node}
use Rattle.rs_model.specs.declared.graph.Node.TheVariants.{Talk}
use Rattle.rs_model.specs.declared.graph.Role.{Role}
use Rattle.rs_model.specs.declared.values.Sort.{Sort}
use Rattle.rs_model.specs.declared.values.Sort.TheVariants as sort
use Rattle.rs_text.specs.Arms.{sort_or_unit}
use Rattle.rs_text.specs.NamePlaces.{name_at, text_or_none}
use Rattle.rs_text.specs.Names.{BoundNames, is_among, number_or, place_of}
use Rattle.rs_text.specs.Shown.{shown_sort}
use Rattle.rs_text.specs.Sound.{IsSound}
use Rattle.rs_text.proofs.Naming.{grown_among, place_stands, placed_by}
use Rattle.rs_bodies.specs.declared.dialects.Dialect.TheVariants.{Talks}
use Rattle.rs_bodies.specs.declared.places.Place.{Place}
use Rattle.rs_bodies.specs.Canonical.{Draws, DrawsHead, DrawsArms}
use Rattle.rs_bodies.specs.Dialects.{sends_to}
use Rattle.rs_bodies.specs.Graph.{Numbering, acts_in, arm_spelt, arms_of, first_of, heads_in, has_end, heads_of, label_by_name, labels_of, labels_of_arms, role_by_name}
use Rattle.rs_bodies.specs.Trees.{Body, ends, again, binds, acts, offers, Branches, one, more}
use Rattle.rs_bodies.specs.Places.{places_of_protocol}
use Rattle.rs_bodies.specs.Spells.{numbering}
use Rattle.rs_global.specs.Canonical.{IsCanonicalProtocolTree, IsTextShaped}
use Rattle.rs_global.specs.Enough.{AreEnough}
use Rattle.rs_global.specs.Graph.{finish_of, no_names, talk_of_turn}
use Rattle.rs_global.specs.Kinds.{graph_of, names_of}
use Rattle.rs_global.specs.Trees.{ProtocolTree}
use Rattle.rs_global.proofs.Canonical.{written}
use Rattle.rs_pictures.specs.Drawing.{case_of}
use Rattle.rs_pictures.specs.Lines.{Says, message, Line, at, closes}
use Rattle.rs_pictures.specs.Messages.{arrow_of, arrows_in, messages_of, messages_of_node, messages_of_nodes}
use Rattle.rs_pictures.specs.Sequences.{body_lines, case_lines, message_of}

-- ---- counts

counted : (test : Says → Bool) (xs ys : List Says) → count_by test (xs ++ ys) ≡ count_by test xs + count_by test ys
counted test xs ys = sum_by-append (λ x. cond (test x) 1 0) xs ys

arrows_append : (xs ys : List Line) → arrows_in (xs ++ ys) ≡ arrows_in xs ++ arrows_in ys
arrows_append [] ys = refl
arrows_append (x ∷ xs) ys = ap (λ z. arrow_of x.says ++ z) (arrows_append xs ys) ∙ sym (append_assoc (arrow_of x.says) (arrows_in xs) (arrows_in ys))

nodes_append : (names : Names_data) (xs ys : List Node) → messages_of_nodes names (xs ++ ys) ≡ messages_of_nodes names xs ++ messages_of_nodes names ys
nodes_append names [] ys = refl
nodes_append names (x ∷ xs) ys =
    ap (λ z. messages_of_node names x ++ z) (nodes_append names xs ys) ∙ sym (append_assoc (messages_of_node names x) (messages_of_nodes names xs) (messages_of_nodes names ys))

-- how many arrows of lines pass a test, and how many messages of nodes
abbrev arrows_by : (Says → Bool) → List Line → ℕ
arrows_by test lines = count_by test (arrows_in lines)

abbrev messages_by : (Says → Bool) → Names_data → List Node → ℕ
messages_by test names nodes = count_by test (messages_of_nodes names nodes)

arrows_split : (test : Says → Bool) (xs ys : List Line) → arrows_by test (xs ++ ys) ≡ arrows_by test xs + arrows_by test ys
arrows_split test xs ys = ap (count_by test) (arrows_append xs ys) ∙ counted test (arrows_in xs) (arrows_in ys)

nodes_split : (test : Says → Bool) (names : Names_data) (xs ys : List Node) → messages_by test names (xs ++ ys) ≡ messages_by test names xs + messages_by test names ys
nodes_split test names xs ys = ap (count_by test) (nodes_append names xs ys) ∙ counted test (messages_of_nodes names xs) (messages_of_nodes names ys)

plus_none : (x : ℕ) → x + 0 ≡ x
plus_none x = omega arith

two_sums : {a b c d : ℕ} → a ≡ c → b ≡ d → a + b ≡ c + d
two_sums {a} {b} {c} {d} h k = rw (h, k) refl

lone_arm : (m x : ℕ) → m + x ≡ (m + 0) + x
lone_arm m x = omega arith

arm_and_others : (m b x y : ℕ) → m + (b + (x + y)) ≡ (m + x) + (b + y)
arm_and_others m b x y = omega arith

-- ---- what is known of a body

-- each of its labels has its own name, and its sorts are shown
abbrev Named : Names_data → Numbering → List (List ℕ) → Type 0
Named names n labels = (l : List ℕ) → is_among l labels ≡ true → name_at names.labels (label_by_name n l).0 ≡ l

abbrev IsPlain : Option Sort → Type 0
IsPlain s = shown_sort (sort_or_unit s) ≡ s

abbrev mutual
  ArePlain : Body Talks → Type 0
  ArePlain ends = Unit {0}
  ArePlain (again name) = Unit {0}
  ArePlain (binds name body) = ArePlain body
  ArePlain (acts p t l s body) = IsPlain s × ArePlain body
  ArePlain (offers p t arms) = ArmsArePlain arms

  ArmsArePlain : Branches Talks → Type 0
  ArmsArePlain (one l s body) = IsPlain s × ArePlain body
  ArmsArePlain (more l s body arms) = IsPlain s × ArePlain body × ArmsArePlain arms

plain_sort : (s : Sort) (o : Option Sort) → o ≡ shown_sort s → IsPlain o
plain_sort sort.Unit o h = subst IsPlain (sym h) refl
plain_sort sort.Flag o h = subst IsPlain (sym h) refl
plain_sort sort.Natural o h = subst IsPlain (sym h) refl
plain_sort sort.Whole o h = subst IsPlain (sym h) refl
plain_sort sort.Octets o h = subst IsPlain (sym h) refl
plain_sort sort.Numbers o h = subst IsPlain (sym h) refl

mutual
  drawn_plain : (body : Body Talks) (names : Names_data) (places : List Place) (from n : ℕ) → Draws Talks names places from n body → ArePlain body
  drawn_plain ends names places from n h = tt
  drawn_plain (again name) names places from n h = tt
  drawn_plain (binds name body) names places from n h = head_plain body names places n h.3
  drawn_plain (acts p t l s body) names places from n h = (plain_sort h.2.0.sort s h.2.2.1, drawn_plain body names places (n + 1) h.2.0.next h.2.3)
  drawn_plain (offers p t arms) names places from n h = arms_plain arms names places (n + 1) (h.2.0 ∷ h.2.1 ∷ h.2.2) h.2.4

  head_plain : (body : Body Talks) (names : Names_data) (places : List Place) (n : ℕ) → DrawsHead Talks names places n body → ArePlain body
  head_plain ends names places n h = tt
  head_plain (again name) names places n h = tt
  head_plain (binds name body) names places n h = absurd h
  head_plain (acts p t l s body) names places n h = (plain_sort h.0.sort s h.2.1, drawn_plain body names places (n + 1) h.0.next h.3)
  head_plain (offers p t arms) names places n h = arms_plain arms names places (n + 1) (h.0 ∷ h.1 ∷ h.2) h.4

  arms_plain : (branches : Branches Talks) (names : Names_data) (places : List Place) (from : ℕ) (ours : List Arm) → DrawsArms Talks names places from ours branches → ArmsArePlain branches
  arms_plain (one l s body) names places from [] h = absurd h
  arms_plain (one l s body) names places from (a ∷ []) h = (plain_sort a.sort s h.0.1, drawn_plain body names places from a.next h.1)
  arms_plain (one l s body) names places from (a ∷ b ∷ ours) h = absurd h
  arms_plain (more l s body arms) names places from [] h = absurd h
  arms_plain (more l s body arms) names places from (a ∷ []) h = (plain_sort a.sort s h.0.1, drawn_plain body names places from a.next h.1, arms_plain arms names places from [] h.2)
  arms_plain (more l s body arms) names places from (a ∷ b ∷ ours) h =
      (plain_sort a.sort s h.0.1, drawn_plain body names places from a.next h.1, arms_plain arms names places from (b ∷ ours) h.2)

-- ---- each body

or_then : (a b c : Bool) → (a || b) ≡ true → (b ≡ true → c ≡ true) → (a || c) ≡ true
or_then true b c e next = refl
or_then false b c e next = next e

or_last : (a b : Bool) → b ≡ true → (a || b) ≡ true
or_last true b e = refl
or_last false b e = e

among_left : (xs ys : List (List ℕ)) (l : List ℕ) → is_among l xs ≡ true → is_among l (xs ++ ys) ≡ true
among_left [] ys l e = absurd (cc e)
among_left (x ∷ xs) ys l e = or_then (bytes_eq x l) (is_among l xs) (is_among l (xs ++ ys)) e (among_left xs ys l)

among_right : (xs ys : List (List ℕ)) (l : List ℕ) → is_among l ys ≡ true → is_among l (xs ++ ys) ≡ true
among_right [] ys l e = e
among_right (x ∷ xs) ys l e = or_last (bytes_eq x l) (is_among l (xs ++ ys)) (among_right xs ys l e)

left_named : (names : Names_data) (n : Numbering) (xs ys : List (List ℕ)) → Named names n (xs ++ ys) → Named names n xs
left_named names n xs ys h l e = h l (among_left xs ys l e)

right_named : (names : Names_data) (n : Numbering) (xs ys : List (List ℕ)) → Named names n (xs ++ ys) → Named names n ys
right_named names n xs ys h l e = h l (among_right xs ys l e)

first_named : (names : Names_data) (n : Numbering) (x : List ℕ) (xs : List (List ℕ)) → Named names n (x ∷ xs) → name_at names.labels (label_by_name n x).0 ≡ x
first_named names n x xs h = h x (rw ((bytes_eq-Decides x x).1 refl) refl)

-- a message by its names is that of the arm that is spelt
arm_message : (names : Names_data) (n : Numbering) (p q l : List ℕ) (s : Option Sort) (next : ℕ) → n.names.roles ≡ names.roles → name_at names.labels (label_by_name n l).0 ≡ l → IsPlain s
    → message_of names p (sends_to q) l s ≡ message (role_by_name n p) (role_by_name n q) (name_at names.labels (arm_spelt n l s next).label.0) (shown_sort (arm_spelt n l s next).sort)
arm_message names n p q l s next roles label plain = rw (roles, label, plain) refl

-- how many messages of arms pass a test
abbrev arms_by : (Says → Bool) → Names_data → Role → Role → List Arm → ℕ
arms_by test names s r arms = count_by test (messages_of_node names (Talk s r arms))

from_none : (x y z : ℕ) → z ≡ (0 + x) + y → z ≡ x + y
from_none x y z h = omega arith

counted_first : (test : Says → Bool) (x : Says) (xs : List Says) → count_by test (x ∷ xs) ≡ cond (test x) 1 0 + count_by test xs
counted_first test x xs = from_none (cond (test x) 1 0) (count_by test xs) (count_by test (x ∷ xs)) (counted test (x ∷ []) xs)

-- one arrow more, and one message more
one_more : (test : Says → Bool) (a b : Says) (xs : List Says) (y : ℕ) → a ≡ b → count_by test xs ≡ y → count_by test (a ∷ xs) ≡ cond (test b) 1 0 + y
one_more test a b xs y h k = counted_first test a xs ∙ ap (λ z. cond (test z) 1 0 + count_by test xs) h ∙ ap (λ z. cond (test b) 1 0 + z) k

case_line : (test : Says → Bool) (first : Bool) (label : List ℕ) (depth : ℕ) (lines : List Line) → arrows_by test (at depth (case_of first label) ∷ lines) ≡ arrows_by test lines
case_line test true label depth lines = refl
case_line test false label depth lines = refl

mutual
  body_arrows : (body : Body Talks) (names : Names_data) (n : Numbering) (bound : BoundNames) (count depth : ℕ) (test : Says → Bool) → n.names.roles ≡ names.roles
      → Named names n (labels_of Talks body) → ArePlain body
      → arrows_by test (body_lines names depth body) ≡ messages_by test names (heads_of Talks (talk_of_turn n) n body bound count)
  body_arrows ends names n bound count depth test roles named plain = refl
  body_arrows (again name) names n bound count depth test roles named plain = refl
  body_arrows (binds name body) names n bound count depth test roles named plain =
      let inner = body_arrows body names n ((name, count) ∷ bound) count (depth + 1) test roles named plain in
      let split = arrows_split test (body_lines names (depth + 1) body) (at depth closes ∷ []) in
      split ∙ plus_none (arrows_by test (body_lines names (depth + 1) body)) ∙ inner
  body_arrows (acts p (sends_to q) l s body) names n bound count depth test roles named plain =
      let next = first_of Talks body bound (suc count) n.last in
      one_more test (message_of names p (sends_to q) l s) (message (role_by_name n p) (role_by_name n q) (name_at names.labels (arm_spelt n l s next).label.0) (shown_sort (arm_spelt n l s next).sort))
      (arrows_in (body_lines names depth body)) (messages_by test names (heads_of Talks (talk_of_turn n) n body bound (suc count)))
      (arm_message names n p q l s next roles (first_named names n l (labels_of Talks body) named) plain.0)
      (body_arrows body names n bound (suc count) depth test roles (right_named names n (l ∷ []) (labels_of Talks body) named) plain.1)
      ∙ sym (counted_first test (message (role_by_name n p) (role_by_name n q) (name_at names.labels (arm_spelt n l s next).label.0) (shown_sort (arm_spelt n l s next).sort))
      (messages_of_nodes names (heads_of Talks (talk_of_turn n) n body bound (suc count))))
  body_arrows (offers p (sends_to q) arms) names n bound count depth test roles named plain =
      arrows_split test (case_lines names depth p (sends_to q) (case_of true) arms) (at depth closes ∷ []) ∙ plus_none (arrows_by test (case_lines names depth p (sends_to q) (case_of true) arms))
      ∙ cases_arrows arms names n bound (suc count) depth test p q true roles named plain
      ∙ sym (counted test (messages_of_node names (Talk (role_by_name n p) (role_by_name n q) (arms_of Talks n arms bound (suc count)))) (messages_of_nodes names (heads_in Talks (talk_of_turn n) n arms bound (suc count))))

  cases_arrows : (arms : Branches Talks) (names : Names_data) (n : Numbering) (bound : BoundNames) (count depth : ℕ) (test : Says → Bool) (p q : List ℕ) (first : Bool) → n.names.roles ≡ names.roles
      → Named names n (labels_of_arms Talks arms) → ArmsArePlain arms
      → arrows_by test (case_lines names depth p (sends_to q) (case_of first) arms)
      ≡ arms_by test names (role_by_name n p) (role_by_name n q) (arms_of Talks n arms bound count) + messages_by test names (heads_in Talks (talk_of_turn n) n arms bound count)
  cases_arrows (one l s body) names n bound count depth test p q first roles named plain =
      let next = first_of Talks body bound count n.last in
      let lines = body_lines names (depth + 1) body in
      let m = message (role_by_name n p) (role_by_name n q) (name_at names.labels (arm_spelt n l s next).label.0) (shown_sort (arm_spelt n l s next).sort) in
      case_line test first l depth (at (depth + 1) (message_of names p (sends_to q) l s) ∷ lines)
      ∙ one_more test (message_of names p (sends_to q) l s) m (arrows_in lines) (messages_by test names (heads_of Talks (talk_of_turn n) n body bound count))
      (arm_message names n p q l s next roles (first_named names n l (labels_of Talks body) named) plain.0)
      (body_arrows body names n bound count (depth + 1) test roles (right_named names n (l ∷ []) (labels_of Talks body) named) plain.1)
      ∙ lone_arm (cond (test m) 1 0) (messages_by test names (heads_of Talks (talk_of_turn n) n body bound count))
      ∙ ap (λ z. z + messages_by test names (heads_of Talks (talk_of_turn n) n body bound count)) (sym (counted_first test m []))
  cases_arrows (more l s body arms) names n bound count depth test p q first roles named plain =
      let next = first_of Talks body bound count n.last in
      let lines = body_lines names (depth + 1) body in
      let others = case_lines names depth p (sends_to q) (case_of false) arms in
      let m = message (role_by_name n p) (role_by_name n q) (name_at names.labels (arm_spelt n l s next).label.0) (shown_sort (arm_spelt n l s next).sort) in
      let later = right_named names n (l ∷ []) (labels_of Talks body ++ labels_of_arms Talks arms) named in
      let k = count + acts_in Talks body in
      case_line test first l depth (at (depth + 1) (message_of names p (sends_to q) l s) ∷ (lines ++ others))
      ∙ one_more test (message_of names p (sends_to q) l s) m (arrows_in (lines ++ others))
      (messages_by test names (heads_of Talks (talk_of_turn n) n body bound count)
      + (arms_by test names (role_by_name n p) (role_by_name n q) (arms_of Talks n arms bound k) + messages_by test names (heads_in Talks (talk_of_turn n) n arms bound k)))
      (arm_message names n p q l s next roles (first_named names n l (labels_of Talks body ++ labels_of_arms Talks arms) named) plain.0)
      (arrows_split test lines others ∙ two_sums
      (body_arrows body names n bound count (depth + 1) test roles (left_named names n (labels_of Talks body) (labels_of_arms Talks arms) later) plain.1)
      (cases_arrows arms names n bound k depth test p q false roles (right_named names n (labels_of Talks body) (labels_of_arms Talks arms) later) plain.2))
      ∙ arm_and_others (cond (test m) 1 0) (messages_by test names (heads_of Talks (talk_of_turn n) n body bound count))
      (arms_by test names (role_by_name n p) (role_by_name n q) (arms_of Talks n arms bound k)) (messages_by test names (heads_in Talks (talk_of_turn n) n arms bound k))
      ∙ ap (λ z. cond (test m) 1 0 + arms_by test names (role_by_name n p) (role_by_name n q) (arms_of Talks n arms bound k) + z)
      (sym (nodes_split test names (heads_of Talks (talk_of_turn n) n body bound count) (heads_in Talks (talk_of_turn n) n arms bound k)))
      ∙ ap (λ z. z + messages_by test names (heads_of Talks (talk_of_turn n) n body bound count ++ heads_in Talks (talk_of_turn n) n arms bound k))
      (sym (counted_first test m (messages_of_node names (Talk (role_by_name n p) (role_by_name n q) (arms_of Talks n arms bound k)))))

-- ---- a protocol

taken : (m : ℕ) (xs : List (List ℕ)) (k : ℕ) (x : List ℕ) → slice_get (take m xs) k ≡ Some x → slice_get xs k ≡ Some x
taken zero xs k x e = absurd (cc e)
taken (suc m) [] k x e = absurd (cc e)
taken (suc m) (y ∷ xs) zero x e = e
taken (suc m) (y ∷ xs) (suc k) x e = taken m xs k x e

tree_named : (names : Names_data) (tree : ProtocolTree) (m : ℕ) → (names_of tree).labels ≡ take m names.labels → Named names (numbering Talks no_names tree) (labels_of Talks tree.body)
tree_named names tree m same l e =
    let own : List (List ℕ) = (names_of tree).labels in
    let place = placed_by (place_of l own) l own refl (grown_among (labels_of Talks tree.body) [] l ∙ e) in
    let there : slice_get own place.0 ≡ Some l = (place_stands own l place.0 place.1).present in
    ap (λ z. name_at names.labels (number_or z)) place.1
    ∙ ap text_or_none (taken m names.labels place.0 l (subst (λ (z : List (List ℕ)). slice_get z place.0 ≡ Some l) same there))

none_in_the_end : (test : Says → Bool) (names : Names_data) (ended : Bool) → messages_by test names (finish_of ended) ≡ 0
none_in_the_end test names true = refl
none_in_the_end test names false = refl

tree_arrows : (names : Names_data) (tree : ProtocolTree) (test : Says → Bool) → (names_of tree).roles ≡ names.roles → Named names (numbering Talks no_names tree) (labels_of Talks tree.body)
    → ArePlain tree.body → arrows_by test (body_lines names 1 tree.body) ≡ count_by test (messages_of names (graph_of tree))
tree_arrows names tree test roles named plain =
    let n = numbering Talks no_names tree in
    let heads = heads_of Talks (talk_of_turn n) n tree.body [] 0 in
    body_arrows tree.body names n [] 0 1 test roles named plain ∙ sym (plus_none (messages_by test names heads))
    ∙ ap (λ z. messages_by test names heads + z) (sym (none_in_the_end test names (has_end Talks tree.body)))
    ∙ sym (nodes_split test names heads (finish_of (has_end Talks tree.body)))

pub arrows_are_messages : (names : Names_data) (protocol : Protocol_data) (tree : ProtocolTree) (test : Says → Bool) → IsTextShaped protocol → IsSound names → AreEnough names protocol
    → IsCanonicalProtocolTree names protocol tree → count_by test (arrows_in (body_lines names 1 tree.body)) ≡ count_by test (messages_of names protocol)
arrows_are_messages names protocol tree test shaped sound enough canonical =
    let w = written names protocol tree shaped sound enough canonical in
    let m = length (names_of tree).labels in
    tree_arrows names tree test (ap (λ (z : Names_data). z.roles) w.names_are) (tree_named names tree m (ap (λ (z : Names_data). z.labels) w.names_are))
    (drawn_plain tree.body names (places_of_protocol protocol) 0 protocol.root canonical.body)
    ∙ ap (λ (z : Protocol_data). count_by test (messages_of names z)) w.graph_is
