-- A derivation has no fault exactly where it is one and forgets nothing.
use Rattle.std.proofs.Common.{◌≡◌, ℕ, zero, suc, ◌+◌, ◌<◌, List, [], ◌∷◌, length, slice_get, Bool, true, false, cond, eqb, ltb, leb, ◌&&◌, ◌||◌, Option, Some, None, ⊎_elim, sym, refl, ap, subst, ◌∙◌}
use Rattle.std.proofs.Common.{arith}
use Rattle.std.proofs.lemmas.Bool.{eqb-true, eq-eqb, ltb-true, leb-true, leb-false, lt-ltb, lt-leb, le-leb, and_parts, or_cases, false≢true}
use Rattle.std.proofs.lemmas.Option.{none-some, same_Some}
use Rattle.rs_model.specs.Data.{Machine_data}
use Rattle.rs_model.specs.declared.machines.Act.{Act}
use Rattle.rs_model.specs.FirstFailed.{or_later}
use Rattle.rs_model.proofs.FirstFailed.{or_none}
use Rattle.rs_derive.proofs.Acts.{acts_are, acts_same}
use Rattle.rs_derive.proofs.Order.{in_order}
use Rattle.rs_derive.proofs.Rows.{Is, complete, sound}
use Rattle.rs_derive.specs.Checks.{derive_fault, edge_fault, fault_of_edge, length_fault, move_fault, node_fault, nodes_fault, nexts_fault, state_fault}
use Rattle.rs_derive.specs.Nodes.{names, starts}
use Rattle.rs_derive.specs.Targets.{same_acts, same_spot}
use Rattle.rs_derive.specs.Data.{DNode_data, Derivation_data}
use Rattle.rs_derive.specs.Derivations.{IsDerivation, NameResults, NodeFits, Remembers, spot_of}
use Rattle.rs_derive.specs.Due.{Chosen, Due, due}
use Rattle.rs_derive.specs.Faults.{first_fault}
use Rattle.rs_derive.specs.Moves.{Spot, spot}
use Rattle.rs_derive.specs.declared.faults.DeriveFault.{DeriveFault}
use Rattle.rs_derive.specs.declared.faults.DeriveFault.TheVariants.{BadStart, BadState, TooLongPending, NoMove, WrongNext, Forgets}

passed : (b : Bool) (f : DeriveFault) → cond b None (Some f) ≡ None → b ≡ true
passed true f e = refl
passed false f e = absurd (none-some f (sym e))

-- spots

three : (s s' : ℕ) (x x' : List Act) (t t' : ℕ) → s ≡ s' → x ≡ x' → t ≡ t' → spot s x t ≡ spot s' x' t'
three s s' x x' t t' a b c = rw (a, b, c) refl

spot_is : (p q : Spot) → same_spot p q ≡ true → p ≡ q
spot_is p q e =
    let x = and_parts (eqb p.state q.state) (eqb p.above q.above && same_acts p.pending q.pending) e in
    let y = and_parts (eqb p.above q.above) (same_acts p.pending q.pending) x.1 in
    three p.state q.state p.pending q.pending p.above q.above (eqb-true p.state q.state x.0) (acts_are p.pending q.pending y.1) (eqb-true p.above q.above y.0)

spot_same : (p : Spot) → same_spot p p ≡ true
spot_same p = rw (eq-eqb p.state p.state refl, eq-eqb p.above p.above refl, acts_same p.pending) refl

pub named_is : (m : DNode_data) (spots : List Spot) → names m spots ≡ true → Is spots (spot_of m)
named_is m [] e = absurd (false≢true e)
named_is m (r ∷ rs) e =
    ⊎_elim (λ h. (zero, ap Some (sym (spot_is (spot_of m) r h)))) (λ h. let k = named_is m rs h in (suc k.0, k.1))
    (or_cases (same_spot (spot_of m) r) (names m rs) e)

either : (a b : Bool) → b ≡ true → (a || b) ≡ true
either true b e = refl
either false b e = e

named_in : (m : DNode_data) (x : Spot) (rs : List Spot) (r : Spot) → spot_of m ≡ r → (i : ℕ) → slice_get (x ∷ rs) i ≡ Some r
    → ((j : ℕ) → slice_get rs j ≡ Some r → names m rs ≡ true) → names m (x ∷ rs) ≡ true
named_in m x rs r e zero g later =
    rw (subst (λ y. same_spot (spot_of m) y ≡ true) (e ∙ sym (same_Some x r g)) (spot_same (spot_of m))) refl
named_in m x rs r e (suc i) g later = either (same_spot (spot_of m) x) (names m rs) (later i g)

pub is_named : (m : DNode_data) (spots : List Spot) (r : Spot) → spot_of m ≡ r → Is spots r → names m spots ≡ true
is_named m [] r e i = absurd (none-some r i.1)
is_named m (x ∷ rs) r e i = named_in m x rs r e i.0 i.1 (λ j g. is_named m rs r e (j, g))

-- nexts that have no fault name results

abbrev Falls : List DNode_data → List ℕ → ℕ → Type 0
Falls nodes js rank = (k j : ℕ) (m : DNode_data) → slice_get js k ≡ Some j → slice_get nodes j ≡ Some m → m.rank < rank

record Named (nodes : List DNode_data) (keeps : Bool) (rank : ℕ) (ds : List (List Spot)) (js : List ℕ) : Type 0 where
  results : List Spot
  picks : Chosen ds results
  named : NameResults nodes js results
  falls : keeps ≡ true → Falls nodes js rank

kept : (b : Bool) (rank there : ℕ) (f : DeriveFault) → leb rank there ≡ b → cond b (Some f) None ≡ None → there < rank
kept true rank there f h e = absurd (none-some f (sym e))
kept false rank there f h e = leb-false rank there h

judged_none : (keeps : Bool) (rank i k : ℕ) (b : Bool) (there : ℕ) → fault_of_edge keeps rank i k b there ≡ None
    → (b ≡ true) × (keeps ≡ true → there < rank)
judged_none keeps rank i k false there e = absurd (none-some (WrongNext i k) (sym e))
judged_none false rank i k true there e = (refl, λ h. absurd (false≢true h))
judged_none true rank i k true there e = (refl, λ h. kept (leb rank there) rank there (Forgets i k) refl e)

edge_none : (nodes : List DNode_data) (keeps : Bool) (rank i k : ℕ) (d : List Spot) (o : Option DNode_data) → edge_fault keeps rank i k d o ≡ None
    → (m : DNode_data) × (o ≡ Some m) × Is d (spot_of m) × (keeps ≡ true → m.rank < rank)
edge_none nodes keeps rank i k d None e = absurd (none-some (WrongNext i k) (sym e))
edge_none nodes keeps rank i k d (Some m) e =
    let r = judged_none keeps rank i k (names m d) m.rank e in
    (m, refl, named_is m d r.0, r.1)

falls_more : (nodes : List DNode_data) (j : ℕ) (js : List ℕ) (rank : ℕ) (m : DNode_data) → slice_get nodes j ≡ Some m → m.rank < rank → Falls nodes js rank
    → Falls nodes (j ∷ js) rank
falls_more nodes j js rank m g h later zero i x gi gx =
    let e : j ≡ i = same_Some j i gi in
    let k : m ≡ x = same_Some m x (sym g ∙ ap (λ y. slice_get nodes y) e ∙ gx) in
    subst (λ y. y.rank < rank) k h
falls_more nodes j js rank m g h later (suc k) i x gi gx = later k i x gi gx

nexts_none : (nodes : List DNode_data) (keeps : Bool) (rank i : ℕ) (ds : List (List Spot)) (js : List ℕ) (k : ℕ)
    → nexts_fault nodes keeps rank i ds js k ≡ None → Named nodes keeps rank ds js
nexts_none nodes keeps rank i [] [] k e =
    record { results = []; picks = tt; named = tt; falls = λ h n j m g l. absurd (none-some j g) }
nexts_none nodes keeps rank i [] (j ∷ js) k e = absurd (none-some (WrongNext i k) (sym e))
nexts_none nodes keeps rank i (d ∷ ds) [] k e = absurd (none-some (WrongNext i k) (sym e))
nexts_none nodes keeps rank i (d ∷ ds) (j ∷ js) k e =
    let p = or_none (edge_fault keeps rank i k d (slice_get nodes j)) (nexts_fault nodes keeps rank i ds js (k + 1)) e in
    let x = edge_none nodes keeps rank i k d (slice_get nodes j) p.0 in
    let later = nexts_none nodes keeps rank i ds js (k + 1) p.1 in
    record {
      results = spot_of x.0 ∷ later.results;
      picks = (x.2, later.picks);
      named = ((x.0, x.1, refl), later.named);
      falls = λ h. falls_more nodes j js rank x.0 x.1 (x.3 h) (later.falls h);
    }

-- and nexts that name results have no fault

judged_right : (keeps : Bool) (rank i k there : ℕ) → (keeps ≡ true → there < rank) → fault_of_edge keeps rank i k true there ≡ None
judged_right false rank i k there h = refl
judged_right true rank i k there h = rw (lt-leb rank there (h refl)) refl

edge_right : (keeps : Bool) (rank i k : ℕ) (d : List Spot) (o : Option DNode_data) (m : DNode_data) (r : Spot) → o ≡ Some m → spot_of m ≡ r → Is d r
    → (keeps ≡ true → m.rank < rank) → edge_fault keeps rank i k d o ≡ None
edge_right keeps rank i k d o m r eo er h falls =
    ap (λ x. edge_fault keeps rank i k d x) eo
    ∙ ap (λ b. fault_of_edge keeps rank i k b m.rank) (is_named m d r er h)
    ∙ judged_right keeps rank i k m.rank falls

nexts_right : (nodes : List DNode_data) (keeps : Bool) (rank i : ℕ) (ds : List (List Spot)) (js : List ℕ) (k : ℕ) (rs : List Spot) → Chosen ds rs
    → NameResults nodes js rs → (keeps ≡ true → Falls nodes js rank) → nexts_fault nodes keeps rank i ds js k ≡ None
nexts_right nodes keeps rank i [] [] k rs p n f = refl
nexts_right nodes keeps rank i [] (j ∷ js) k [] p n f = absurd n
nexts_right nodes keeps rank i [] (j ∷ js) k (r ∷ rs) p n f = absurd p
nexts_right nodes keeps rank i (d ∷ ds) js k [] p n f = absurd p
nexts_right nodes keeps rank i (d ∷ ds) [] k (r ∷ rs) p n f = absurd n
nexts_right nodes keeps rank i (d ∷ ds) (j ∷ js) k (r ∷ rs) p n f =
    let x = n.0 in
    ap (λ o. or_later o (nexts_fault nodes keeps rank i ds js (k + 1)))
    (edge_right keeps rank i k d (slice_get nodes j) x.0 r x.1 x.2 p.0 (λ h. f h zero j x.0 refl x.1))
    ∙ nexts_right nodes keeps rank i ds js (k + 1) rs p.1 n.1 (λ h a b m g l. f h (suc a) b m g l)

-- nodes

record Moved (d : Derivation_data) (sub above : Machine_data) (n : DNode_data) : Type 0 where
  due' : Due
  due_is : due sub above (spot_of n) ≡ Some due'
  named : Named d.nodes due'.keeps n.rank due'.nexts n.next

move_none : (d : Derivation_data) (sub above : Machine_data) (i : ℕ) (n : DNode_data) (o : Option Due) → due sub above (spot_of n) ≡ o
    → move_fault d.nodes i n o ≡ None → Moved d sub above n
move_none d sub above i n None g e = absurd (none-some (NoMove i) (sym e))
move_none d sub above i n (Some x) g e =
    record { due' = x; due_is = g; named = nexts_none d.nodes x.keeps n.rank i x.nexts n.next 0 e }

fits : (d : Derivation_data) (sub above : Machine_data) (n : DNode_data) → ltb n.state (length sub.states) ≡ true → ltb n.above (length above.states) ≡ true
    → leb (length n.pending) d.bound ≡ true → Moved d sub above n → NodeFits d.nodes d.bound sub above n
fits d sub above n a b c m =
    let s = sound sub above (spot_of n) m.due' m.named.results m.due_is m.named.picks in
    record {
      state = ltb-true n.state (length sub.states) a;
      present = ltb-true n.above (length above.states) b;
      short = leb-true (length n.pending) d.bound c;
      makes = s.makes;
      results = m.named.results;
      move = s.move;
      named = m.named.named;
    }

record Right (d : Derivation_data) (sub above : Machine_data) (n : DNode_data) : Type 0 where
  fit : NodeFits d.nodes d.bound sub above n
  moved : Moved d sub above n

node_none : (d : Derivation_data) (sub above : Machine_data) (i : ℕ) (n : DNode_data) → node_fault d sub above i n ≡ None → Right d sub above n
node_none d sub above i n e =
    let p = or_none (state_fault sub above i n) (or_later (length_fault d.bound i n) (move_fault d.nodes i n (due sub above (spot_of n)))) e in
    let q = or_none (length_fault d.bound i n) (move_fault d.nodes i n (due sub above (spot_of n))) p.1 in
    let s = and_parts (ltb n.state (length sub.states)) (ltb n.above (length above.states)) (passed _ (BadState i) p.0) in
    let m = move_none d sub above i n (due sub above (spot_of n)) refl q.1 in
    record { fit = fits d sub above n s.0 s.1 (passed _ (TooLongPending i) q.0) m; moved = m }

nodes_none : (d : Derivation_data) (sub above : Machine_data) (ns : List DNode_data) (i : ℕ) → nodes_fault d sub above ns i ≡ None
    → (k : ℕ) (n : DNode_data) → slice_get ns k ≡ Some n → Right d sub above n
nodes_none d sub above [] i e k n g = absurd (none-some n g)
nodes_none d sub above (x ∷ ns) i e zero n g =
    let p = or_none (node_fault d sub above i x) (nodes_fault d sub above ns (i + 1)) e in
    subst (λ y. Right d sub above y) (same_Some x n g) (node_none d sub above i x p.0)
nodes_none d sub above (x ∷ ns) i e (suc k) n g =
    let p = or_none (node_fault d sub above i x) (nodes_fault d sub above ns (i + 1)) e in
    nodes_none d sub above ns (i + 1) p.1 k n g

record Begins (d : Derivation_data) (sub above : Machine_data) : Type 0 where
  first : DNode_data
  stands : slice_get d.nodes 0 ≡ Some first
  starts' : spot_of first ≡ spot sub.start [] above.start

nil_is : (pending : List Act) → length pending ≡ 0 → pending ≡ []
nil_is [] e = refl
nil_is (x ∷ xs) e = absurd (omega arith)

begins : (sub above : Machine_data) (ns : List DNode_data) → starts sub above ns ≡ true → (n : DNode_data) × (slice_get ns 0 ≡ Some n) × (spot_of n ≡ spot sub.start [] above.start)
begins sub above [] e = absurd (false≢true e)
begins sub above (n ∷ ns) e =
    let x = and_parts (eqb n.state sub.start) (eqb n.above above.start && eqb (length n.pending) 0) e in
    let y = and_parts (eqb n.above above.start) (eqb (length n.pending) 0) x.1 in
    (n, refl, three n.state sub.start n.pending [] n.above above.start (eqb-true n.state sub.start x.0) (nil_is n.pending (eqb-true (length n.pending) 0 y.1)) (eqb-true n.above above.start y.0))

parts : (d : Derivation_data) (sub above : Machine_data) → derive_fault d sub above ≡ None → (starts sub above d.nodes ≡ true) × (nodes_fault d sub above d.nodes 0 ≡ None)
parts d sub above e =
    let p = or_none (cond (starts sub above d.nodes) None (Some BadStart)) (nodes_fault d sub above d.nodes 0) e in
    (passed (starts sub above d.nodes) BadStart p.0, p.1)

pub derives : (d : Derivation_data) (sub above : Machine_data) → derive_fault d sub above ≡ None → IsDerivation d sub above
derives d sub above e =
    let p = parts d sub above e in
    let b = begins sub above d.nodes p.0 in
    record {
      first = b.0;
      stands = b.1;
      starts = b.2;
      each = λ i n g. (nodes_none d sub above d.nodes 0 p.1 i n g).fit;
    }

pub remembers : (d : Derivation_data) (sub above : Machine_data) → derive_fault d sub above ≡ None → Remembers d sub above
remembers d sub above e =
    let p = parts d sub above e in
    record {
      falls = λ i n makes results g move keeps k j m gk gj. (
          let r = nodes_none d sub above d.nodes 0 p.1 i n g in
          let t = complete sub above (spot_of n) makes results move in
          let same : t.d ≡ r.moved.due' = same_Some t.d r.moved.due' (sym t.due_is ∙ r.moved.due_is) in
          r.moved.named.falls (ap (λ x. x.keeps) (sym same) ∙ t.agrees.to keeps) k j m gk gj);
    }

-- a derivation that forgets nothing has no fault

pub starts_right : (sub above : Machine_data) (ns : List DNode_data) (n : DNode_data) → slice_get ns 0 ≡ Some n → spot_of n ≡ spot sub.start [] above.start → starts sub above ns ≡ true
starts_right sub above [] n g e = absurd (none-some n g)
starts_right sub above (x ∷ ns) n g e =
    let k : spot_of x ≡ spot sub.start [] above.start = ap spot_of (same_Some x n g) ∙ e in
    rw (eq-eqb x.state sub.start (ap (λ p. p.state) k), eq-eqb x.above above.start (ap (λ p. p.above) k), eq-eqb (length x.pending) 0 (ap (λ p. length p.pending) k)) refl

node_right : (d : Derivation_data) (sub above : Machine_data) (i k : ℕ) (n : DNode_data) → slice_get d.nodes k ≡ Some n → NodeFits d.nodes d.bound sub above n
    → Remembers d sub above → node_fault d sub above i n ≡ None
node_right d sub above i k n g fit rem =
    let t = complete sub above (spot_of n) fit.makes fit.results fit.move in
    let s : state_fault sub above i n ≡ None = rw (lt-ltb n.state (length sub.states) fit.state, lt-ltb n.above (length above.states) fit.present) refl in
    let l : length_fault d.bound i n ≡ None = rw (le-leb (length n.pending) d.bound fit.short) refl in
    let m : move_fault d.nodes i n (due sub above (spot_of n)) ≡ None =
    ap (λ o. move_fault d.nodes i n o) t.due_is
    ∙ nexts_right d.nodes t.d.keeps n.rank i t.d.nexts n.next 0 fit.results t.picks fit.named
    (λ h a j x gj gx. rem.falls k n fit.makes fit.results g fit.move (t.agrees.from h) a j x gj gx) in
    ap (λ o. or_later o (or_later (length_fault d.bound i n) (move_fault d.nodes i n (due sub above (spot_of n))))) s
    ∙ ap (λ o. or_later o (move_fault d.nodes i n (due sub above (spot_of n)))) l
    ∙ m

nodes_right : (d : Derivation_data) (sub above : Machine_data) (ns : List DNode_data) (i : ℕ)
    → ((j k : ℕ) (n : DNode_data) → slice_get ns k ≡ Some n → node_fault d sub above j n ≡ None) → nodes_fault d sub above ns i ≡ None
nodes_right d sub above [] i h = refl
nodes_right d sub above (n ∷ ns) i h =
    ap (λ o. or_later o (nodes_fault d sub above ns (i + 1))) (h i zero n refl)
    ∙ nodes_right d sub above ns (i + 1) (λ j k m g. h j (suc k) m g)

faultless : (d : Derivation_data) (sub above : Machine_data) → IsDerivation d sub above → Remembers d sub above → derive_fault d sub above ≡ None
faultless d sub above is rem =
    ap (λ b. or_later (cond b None (Some BadStart)) (nodes_fault d sub above d.nodes 0)) (starts_right sub above d.nodes is.first is.stands is.starts)
    ∙ nodes_right d sub above d.nodes 0 (λ j k n g. node_right d sub above j k n g (is.each k n g) rem)

pub no_fault : (d : Derivation_data) (sub above : Machine_data) → first_fault d sub above ≡ None → IsDerivation d sub above × Remembers d sub above
no_fault d sub above e =
    let k = sym (in_order d sub above) ∙ e in
    (derives d sub above k, remembers d sub above k)

pub no_fault_back : (d : Derivation_data) (sub above : Machine_data) → IsDerivation d sub above × Remembers d sub above → first_fault d sub above ≡ None
no_fault_back d sub above h = in_order d sub above ∙ faultless d sub above h.0 h.1
