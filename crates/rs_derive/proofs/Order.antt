-- The fault that the code finds is that of the first test that isn't passed.
use Rattle.std.proofs.Common.{◌≡◌, ℕ, ◌+◌, ◌≤◌, List, [], ◌∷◌, ◌++◌, length, Bool, true, false, not, cond, ltb, leb, ◌&&◌, ◌||◌, Option, Some, None, slice_get, ⊎_elim, sym, refl, ap, ◌∙◌}
use Rattle.std.proofs.lemmas.Bool.{cases_lt, lt-ltb, le-ltb, le-leb, lt-leb}
use Rattle.std.proofs.lemmas.Option.{slice_get_within}
use Rattle.rs_model.specs.Data.{Machine_data}
use Rattle.rs_model.specs.declared.machines.State.{State}
use Rattle.rs_model.specs.FirstFailed.{Test, first_failed, or_later}
use Rattle.rs_derive.specs.Checks.{derive_fault, edge_fault, move_fault, node_fault, nodes_fault, nexts_fault}
use Rattle.rs_derive.specs.Nodes.{names, starts}
use Rattle.rs_derive.specs.Data.{DNode_data, Derivation_data}
use Rattle.rs_derive.specs.Derivations.{spot_of}
use Rattle.rs_derive.specs.Due.{Due, due, due_at}
use Rattle.rs_derive.specs.Faults.{falls, first_fault, is_named, move_tests, next_tests, node_tests, nodes_tests}
use Rattle.rs_derive.specs.Moves.{Spot}
use Rattle.rs_derive.specs.declared.faults.DeriveFault.{DeriveFault}
use Rattle.rs_derive.specs.declared.faults.DeriveFault.TheVariants.{BadStart, BadState, TooLongPending, WrongNext, Forgets}

test_or : (b : Bool) (x y : Option DeriveFault) (f : DeriveFault) → x ≡ y
    → cond b x (Some f) ≡ or_later (cond b None (Some f)) y
test_or true x y f e = e
test_or false x y f e = refl

passed_or : (p : Bool) (x y z : Option DeriveFault) (f : DeriveFault) → x ≡ or_later y z
    → cond p x (Some f) ≡ or_later (cond p y (Some f)) z
passed_or true x y z f e = e
passed_or false x y z f e = refl

failed_append : (a b : List (Test DeriveFault)) → first_failed (a ++ b) ≡ or_later (first_failed a) (first_failed b)
failed_append [] b = refl
failed_append (t ∷ ts) b =
    passed_or t.passes (first_failed (ts ++ b)) (first_failed ts) (first_failed b) t.fault (failed_append ts b)

not_past : (n count : ℕ) → leb count n ≡ not (ltb n count)
not_past n count =
    ⊎_elim (λ h. lt-leb count n h ∙ ap not (sym (lt-ltb n count h)))
    (λ h. le-leb count n h ∙ ap not (sym (le-ltb n count h))) (cases_lt n count)

judged_told : (a keeps p q : Bool) (x y : Option DeriveFault) (f w : DeriveFault) → q ≡ not p → x ≡ y
    → cond a (cond (not keeps || p) x (Some f)) (Some w) ≡ or_later (cond a (cond (keeps && q) (Some f) None) (Some w)) y
judged_told false keeps p q x y f w g e = refl
judged_told true false p q x y f w g e = e
judged_told true true true q x y f w g e = rw g e
judged_told true true false q x y f w g e = rw g refl

edge_told : (keeps : Bool) (rank i k : ℕ) (d : List Spot) (o : Option DNode_data) (x y : Option DeriveFault) → x ≡ y
    → cond (is_named d o) (cond (not keeps || falls rank o) x (Some (Forgets i k))) (Some (WrongNext i k))
    ≡ or_later (edge_fault keeps rank i k d o) y
edge_told keeps rank i k d None x y e = refl
edge_told keeps rank i k d (Some m) x y e =
    judged_told (names m d) keeps (ltb m.rank rank) (leb rank m.rank) x y (Forgets i k) (WrongNext i k) (not_past m.rank rank) e

nexts_told : (nodes : List DNode_data) (keeps : Bool) (rank i : ℕ) (ds : List (List Spot)) (js : List ℕ) (k : ℕ)
    → first_failed (next_tests nodes keeps rank i ds js k) ≡ nexts_fault nodes keeps rank i ds js k
nexts_told nodes keeps rank i [] [] k = refl
nexts_told nodes keeps rank i [] (j ∷ js) k = refl
nexts_told nodes keeps rank i (d ∷ ds) [] k = refl
nexts_told nodes keeps rank i (d ∷ ds) (j ∷ js) k =
    edge_told keeps rank i k d (slice_get nodes j) (first_failed (next_tests nodes keeps rank i ds js (k + 1)))
    (nexts_fault nodes keeps rank i ds js (k + 1)) (nexts_told nodes keeps rank i ds js (k + 1))

move_told : (nodes : List DNode_data) (i : ℕ) (n : DNode_data) (o : Option Due)
    → first_failed (move_tests nodes i n o) ≡ move_fault nodes i n o
move_told nodes i n None = refl
move_told nodes i n (Some d) = nexts_told nodes d.keeps n.rank i d.nexts n.next 0

node_told : (d : Derivation_data) (sub above : Machine_data) (i : ℕ) (n : DNode_data)
    → first_failed (node_tests d sub above i n) ≡ node_fault d sub above i n
node_told d sub above i n =
    test_or (ltb n.state (length sub.states) && ltb n.above (length above.states)) _ _ (BadState i)
    (test_or (leb (length n.pending) d.bound) _ _ (TooLongPending i) (move_told d.nodes i n (due sub above (spot_of n))))

nodes_told : (d : Derivation_data) (sub above : Machine_data) (ns : List DNode_data) (i : ℕ)
    → first_failed (nodes_tests d sub above ns i) ≡ nodes_fault d sub above ns i
nodes_told d sub above [] i = refl
nodes_told d sub above (n ∷ later) i =
    failed_append (node_tests d sub above i n) (nodes_tests d sub above later (i + 1))
    ∙ ap (λ o. or_later o (first_failed (nodes_tests d sub above later (i + 1)))) (node_told d sub above i n)
    ∙ ap (λ o. or_later (node_fault d sub above i n) o) (nodes_told d sub above later (i + 1))

pub in_order : (d : Derivation_data) (sub above : Machine_data) → first_fault d sub above ≡ derive_fault d sub above
unfolding first_fault
in_order d sub above =
    test_or (starts sub above d.nodes) _ _ BadStart (nodes_told d sub above d.nodes 0)

-- a node that stands at states, and owes no more than the bound

pub node_row : (d : Derivation_data) (sub above : Machine_data) (i : ℕ) (n : DNode_data) (s t : State) (nodes : List DNode_data)
    → nodes ≡ d.nodes → slice_get sub.states n.state ≡ Some s → slice_get above.states n.above ≡ Some t → length n.pending ≤ d.bound
    → move_fault nodes i n (due_at (spot_of n) (Some s) (Some t)) ≡ node_fault d sub above i n
node_row d sub above i n s t nodes e gs gt h =
    rw (
      lt-ltb n.state (length sub.states) (slice_get_within sub.states n.state s gs),
      lt-ltb n.above (length above.states) (slice_get_within above.states n.above t gt),
      le-leb (length n.pending) d.bound h,
      gs,
      gt,
      e,
    ) refl
