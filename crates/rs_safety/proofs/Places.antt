-- Where a role stands in its walk along the projection, and what is under way between two roles.
use Rattle.std.proofs.Common.{◌≡◌, ◌≢◌, inl, inr, ℕ, suc, ◌+◌, ◌<◌, ◌≤◌, List, [], ◌∷◌, ◌++◌, Some, slice_get, length, refl, sym, ap, ◌∙◌, subst, arith, append_assoc}
use Rattle.std.proofs.lemmas.Bool.Decides.{eqb_tells}
use Rattle.std.proofs.lemmas.List.{append_cancel_right}
use Rattle.rs_model.specs.Data.{Machine_data}
use Rattle.rs_model.specs.declared.graph.Label.{Label}
use Rattle.rs_model.specs.declared.graph.Role.{Role}
use Rattle.rs_model.specs.declared.values.Sort.{Sort}
use Rattle.rs_core.specs.declared.messages.Message.{Message}
use Rattle.rs_core.specs.Configurations.{Configuration}
use Rattle.rs_derive.specs.Data.{DNode_data, Derivation_data}
use Rattle.rs_derive.specs.Derivations.{IsDerivation, Remembers}
use Rattle.rs_core.proofs.Items.{Item, Give, Get, Entry, sends, recvs, sends_append, recvs_append, Each, Balance}
use Rattle.rs_core.proofs.Stands.{Known, Stands}
use Rattle.rs_safety.proofs.Kept.{place_of, Below, each_right, seen, Spaced, IsGive}
use Rattle.rs_safety.proofs.Derived.{Path, Begin, Passed, AtOnce, PaidFor, acts_length}
use Rattle.rs_safety.proofs.Lag.{Aged, tally}
use Rattle.rs_safety.proofs.Limits.{Limits}
use Rattle.rs_safety.proofs.Cut.{SameLines, Next, AtEnd, NextPaid, NextOnce, cut, rest_lines}

-- spaces of a list in two parts
spaced_left : (n s : ℕ) (xs ys : List Item) → Spaced n s (xs ++ ys) → Spaced n s xs
spaced_left n s [] ys h = tt
spaced_left n s (x ∷ xs) ys h = (h.0, h.1, spaced_left n (suc (place_of x)) xs ys h.2)

spaced_right : (n s : ℕ) (xs ys : List Item) → Spaced n s (xs ++ ys) → Spaced n (seen s xs) ys
spaced_right n s [] ys h = h
spaced_right n s (x ∷ xs) ys h = spaced_right n (suc (place_of x)) xs ys h.2

spaced_up : (n s k : ℕ) (xs : List Item) → k ≤ s → Spaced n s xs → Each (λ x. k ≤ place_of x) xs
spaced_up n s k [] h sp = tt
spaced_up n s k (x ∷ xs) h sp = let a = sp.0 in (omega arith, spaced_up n (suc (place_of x)) k xs (omega arith) sp.2)

-- the last node of a path owes as many acts as are owed
path_pending : (d : Derivation_data) (sub above : Machine_data) → IsDerivation d sub above
    → (i : ℕ) (eaten done owed : List Item) → Path d sub above i eaten done owed → (n : DNode_data)
    × (slice_get d.nodes i ≡ Some n) × (length n.pending ≡ length owed)
path_pending d sub above is i eaten done owed Begin = (is.first, is.stands, ap length (ap (λ z. z.pending) is.starts))
path_pending d sub above is j eaten done owed (Passed i _ e _ o x p ed) = (ed.to, ed.is_to, ap length ed.after ∙ acts_length (o ++ (x ∷ [])))
path_pending d sub above is j eaten done owed (AtOnce i _ e dn _ x p ed free give) = (ed.to, ed.is_to, ap length ed.after ∙ acts_length owed)
path_pending d sub above is j eaten done owed (PaidFor i _ _ dn l r x p ed free) = (ed.to, ed.is_to, ap length ed.after ∙ acts_length (l ++ r))

-- what is recorded of a role: the walk along its projection by which it comes to do all this
pub record Recorded (d : Derivation_data) (sub above : Machine_data) (nodes : ℕ) (whole owed : List Item) : Type 0 where
  pub place : ℕ
  pub eaten : List Item
  pub path : Path d sub above place eaten whole owed
  pub spaced : Spaced nodes 0 eaten

-- where a role stands in its walk: it has passed the acts `eaten0`, up to place `at`; of those it owes `owed0`; it will
-- still pass the acts `later`, and what it has still to do are these and those
pub record Here (long top nodes : ℕ) (past future owed : List Item) : Type 0 where
  pub at : ℕ
  pub owed0 : List Item
  pub later : List Item
  pub rank : ℕ
  pub eaten0 : List Item
  pub place_is : at ≡ seen 0 eaten0
  pub counts : length past + length owed0 ≡ length eaten0
  pub spaced0 : Spaced nodes 0 eaten0
  pub spaced : Spaced nodes at later
  pub aged : Aged long top nodes rank eaten0 past 0 owed0
  pub past_below : Below at past
  pub owed_below : Below at owed0
  pub up : Each (λ x. at ≤ place_of x) later
  pub rest : SameLines (future ++ owed) (owed0 ++ later)
  pub short : length owed0 ≤ long
  pub next : Next future later owed0 owed

pub stand_here : (d : Derivation_data) (sub above : Machine_data) (long top nodes : ℕ) → IsDerivation d sub above
    → Remembers d sub above → Limits d long top → (past future owed : List Item)
    → Recorded d sub above nodes (past ++ future) owed
    → Here long top nodes past future owed
stand_here d sub above long top nodes is rem lim past future owed w =
    let c = cut d sub above w.place w.eaten (past ++ future) owed past future w.path refl in
    let sp : Spaced nodes 0 (c.eaten0 ++ c.later) = (let P : List Item → Type 0 = λ z. Spaced nodes 0 z in subst P c.splits w.spaced) in
    let s0 = spaced_left nodes 0 c.eaten0 c.later sp in
    let s1 = spaced_right nodes 0 c.eaten0 c.later sp in
    let n = path_pending d sub above is c.place c.eaten0 past c.owed0 c.path in
    let t = tally d sub above long top nodes rem lim c.place c.eaten0 past c.owed0 c.path s0 n.0 n.1 in
    let few : length n.0.pending ≤ long = lim.pending c.place n.0 n.1 in
    let e = n.2 in
    record {
      at = seen 0 c.eaten0;
      owed0 = c.owed0;
      later = c.later;
      rank = n.0.rank;
      eaten0 = c.eaten0;
      place_is = refl;
      counts = t.counts;
      spaced0 = s0;
      spaced = s1;
      aged = t.aged;
      past_below = t.done_below;
      owed_below = t.owed_below;
      up = spaced_up nodes (seen 0 c.eaten0) (seen 0 c.eaten0) c.later (omega arith) s1;
      rest = rest_lines d sub above w.place w.eaten past future owed w.path c;
      short = omega arith;
      next = c.next;
    }

-- P holds of each entry
abbrev pub EachEntry : (Entry → Type 0) → List Entry → Type 0
EachEntry P [] = Unit {0}
EachEntry P (e ∷ es) = P e × EachEntry P es

pub entries_left : (P : Entry → Type 0) (xs ys : List Entry) → EachEntry P (xs ++ ys) → EachEntry P xs
entries_left P [] ys h = tt
entries_left P (x ∷ xs) ys h = (h.0, entries_left P xs ys h.1)

pub entries_right : (P : Entry → Type 0) (xs ys : List Entry) → EachEntry P (xs ++ ys) → EachEntry P ys
entries_right P [] ys h = h
entries_right P (x ∷ xs) ys h = entries_right P xs ys h.1

pub sends_each : (P : ℕ → Type 0) (q : ℕ) (xs : List Item) → Each (λ x. P (place_of x)) xs → EachEntry (λ e. P e.place) (sends q xs)
sends_each P q [] h = tt
sends_each P q (Get k r l so ∷ xs) h = sends_each P q xs h.1
sends_each P q (Give k r l so ∷ xs) h = elim (eqb_tells r.0 q) [
  | inl t ↦ rw t.0 (h.0, sends_each P q xs h.1)
  | inr t ↦ rw t.0 (sends_each P q xs h.1)
]

pub recvs_each : (P : ℕ → Type 0) (q : ℕ) (xs : List Item) → Each (λ x. P (place_of x)) xs → EachEntry (λ e. P e.place) (recvs q xs)
recvs_each P q [] h = tt
recvs_each P q (Give k r l so ∷ xs) h = recvs_each P q xs h.1
recvs_each P q (Get k r l so ∷ xs) h = elim (eqb_tells r.0 q) [
  | inl t ↦ rw t.0 (h.0, recvs_each P q xs h.1)
  | inr t ↦ rw t.0 (recvs_each P q xs h.1)
]

-- what is under way from a to b: what a has sent and b has not yet taken
pub record Flight (ms : List Machine_data) (W : Known) (done : ℕ → ℕ) (f : ℕ → ℕ → ℕ) (n : ℕ) (c : Configuration) (s : Stands ms W done f n c) (a b : ℕ) : Type 0 where
  pub entries : List Entry
  pub many : length entries ≡ length (c.queue a b)
  pub sent : sends b (s.past a) ≡ recvs a (s.past b) ++ entries
  pub come : entries ++ sends b (s.future a ++ s.owed a) ≡ recvs a (s.future b ++ s.owed b)

balance_flight : (q : List Message) (xs ys : List Entry) → Balance q xs ys → (fl : List Entry) × (length fl ≡ length q) × (fl ++ xs ≡ ys)
balance_flight [] xs ys b = ([], refl, b)
balance_flight (m ∷ q) xs [] b = absurd b
balance_flight (m ∷ q) xs (y ∷ ys) b = let r = balance_flight q xs ys b.1 in (y ∷ r.0, ap suc r.1, ap (λ (z : List Entry). y ∷ z) r.2)

pub flight : (ms : List Machine_data) (W : Known) (done : ℕ → ℕ) (f : ℕ → ℕ → ℕ) (n : ℕ) (c : Configuration) (s : Stands ms W done f n c) (a b : ℕ)
    → a < length ms → b < length ms → a ≢ b → Flight ms W done f n c s a b
flight ms W done f n c s a b ha hb ne =
    let r = balance_flight (c.queue a b) (sends b (s.future a ++ s.owed a)) (recvs a (s.future b ++ s.owed b)) (s.balance a b ha hb ne) in
    let l : sends b ((s.past a ++ s.future a) ++ s.owed a) ≡ recvs a ((s.past b ++ s.future b) ++ s.owed b) = s.lines a b ha hb ne in
    let x : sends b (s.past a) ++ sends b (s.future a ++ s.owed a) ≡ sends b ((s.past a ++ s.future a) ++ s.owed a) =
    sym (sends_append b (s.past a) (s.future a ++ s.owed a)) ∙ ap (λ (z : List Item). sends b z) (sym (append_assoc (s.past a) (s.future a) (s.owed a))) in
    let y : recvs a (s.past b) ++ recvs a (s.future b ++ s.owed b) ≡ recvs a ((s.past b ++ s.future b) ++ s.owed b) =
    sym (recvs_append a (s.past b) (s.future b ++ s.owed b)) ∙ ap (λ (z : List Item). recvs a z) (sym (append_assoc (s.past b) (s.future b) (s.owed b))) in
    let z : sends b (s.past a) ++ sends b (s.future a ++ s.owed a) ≡ (recvs a (s.past b) ++ r.0) ++ sends b (s.future a ++ s.owed a) =
    x ∙ l ∙ sym y ∙ ap (λ (w : List Entry). recvs a (s.past b) ++ w) (sym r.2) ∙ sym (append_assoc (recvs a (s.past b)) r.0 (sends b (s.future a ++ s.owed a))) in
    record {
      entries = r.0;
      many = r.1;
      come = r.2;
      sent = append_cancel_right (sends b (s.past a)) (recvs a (s.past b) ++ r.0) (sends b (s.future a ++ s.owed a)) z;
    }

-- a role that waits at a receive has passed it
pub wait_passed : (long top nodes : ℕ) (past future owed : List Item) (h : Here long top nodes past future owed) (k : ℕ) (q : Role) (l : Label) (so : Sort) (tail : List Item)
    → future ≡ Get k q l so ∷ tail → k < h.at
wait_passed long top nodes past future owed h k q l so tail e = go h.next
  where
    go : Next future h.later h.owed0 owed → k < h.at
    go (AtEnd f l' o) = absurd (cc (e, f))
    go (NextOnce x t more f l' give) = (let same : x ≡ Get k q l so = (let a : x ∷ t ≡ Get k q l so ∷ tail = sym f ∙ e in cc (a)) in
        let P : Item → Type 0 = λ z. IsGive z in absurd (subst P same give))
    go (NextPaid x t left right f o) = (
        let same : x ≡ Get k q l so = (let a : x ∷ t ≡ Get k q l so ∷ tail = sym f ∙ e in cc (a)) in
        let P : List Item → Type 0 = λ z. Below h.at z in
        let b = each_right (λ z. place_of z < h.at) left (x ∷ right) (subst P o h.owed_below) in
        let Q : Item → Type 0 = λ z. place_of z < h.at in
        subst Q same b.0)
