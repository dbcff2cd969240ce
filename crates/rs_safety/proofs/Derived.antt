-- A machine with a derivation follows its projection: whatever it chooses, it comes to do the acts of some walk along the
-- projection, in an order that the queues allow.
use Rattle.std.proofs.Common.{◌≡◌, ◌⊎◌, inl, inr, ℕ, zero, suc, ◌+◌, ◌<◌, ◌≤◌, Bool, true, false, not, List, [], ◌∷◌, ◌++◌, map, take, drop, Option, Some, None, slice_get, length, refl, sym, ap, ◌∙◌}
use Rattle.std.proofs.Common.{subst, subst₂, ◌==◌, nat_lt, arith, append-nil, append_assoc, length-append}
use Rattle.std.proofs.lemmas.Bool.Decides.{leb_tells, eqb_tells}
use Rattle.std.proofs.lemmas.Bool.{false≢true}
use Rattle.std.proofs.lemmas.Option.{slice_get-map, none-some, same_Some}
use Rattle.rs_model.specs.Data.{Machine_data}
use Rattle.rs_model.proofs.Serving.{has_served_sort}
use Rattle.rs_model.specs.Serving.{Serves}
use Rattle.rs_model.specs.WellFormed.{IsWellFormedMachine}
use Rattle.rs_model.specs.declared.graph.Arm.{Arm}
use Rattle.rs_model.specs.declared.graph.Label.{Label}
use Rattle.rs_model.specs.declared.graph.Role.{Role}
use Rattle.rs_model.specs.declared.machines.Act.{Act}
use Rattle.rs_model.specs.declared.machines.Act.TheVariants as act
use Rattle.rs_model.specs.declared.machines.State.{State}
use Rattle.rs_model.specs.declared.machines.State.TheVariants.{Done, Puts, Takes}
use Rattle.rs_model.specs.declared.values.Sort.{Sort}
use Rattle.rs_prefix.specs.Earliest.{IsFound, IsAbsent, IsFreeTo, without}
use Rattle.rs_prefix.specs.declared.earliest.ActKind.{ActKind}
use Rattle.rs_prefix.specs.declared.earliest.ActKind.TheVariants.{Send, Receive}
use Rattle.rs_derive.specs.Data.{DNode_data, Derivation_data}
use Rattle.rs_derive.specs.Derivations.{spot_of, NameResults, IsDerivation}
use Rattle.rs_derive.specs.Moves.{Spot, spot, arm_of, Both, HasMove, Stops, PaysSend, SendsBoth, Guesses, SendsAhead, PaysReceive, ReceivesAhead}
use Rattle.rs_core.proofs.Items as items
use Rattle.rs_core.proofs.Items.{Item, Give, Get, sends, recvs, Each}
use Rattle.rs_core.proofs.Stands.{Trace, Does, Gives, pick}
use Rattle.rs_safety.proofs.Kept.{Kept, kept_refl, kept_trans, kept_hop, IsGet, IsGive, Free}
use Rattle.rs_safety.proofs.Grow.{Follower, Given, Taken, Finishes}
use Rattle.rs_safety.proofs.Equal.{trace_snoc, picked}

-- an item as an act
abbrev pub act_of : Item → Act
act_of (Give k q l so) = act.Puts q l so
act_of (Get k q l so) = act.Takes q l so

abbrev pub acts : List Item → List Act
acts xs = map act_of xs

acts_append : (xs ys : List Item) → acts (xs ++ ys) ≡ acts xs ++ acts ys
acts_append [] ys = refl
acts_append (x ∷ xs) ys = ap (λ (z : List Act). act_of x ∷ z) (acts_append xs ys)

pub acts_length : (xs : List Item) → length (acts xs) ≡ length xs
acts_length [] = refl
acts_length (x ∷ xs) = ap suc (acts_length xs)

abbrev pub no_items : List Item → Bool
no_items [] = true
no_items (x ∷ xs) = false

-- the act at a place among the acts of items is that of one of them
pub record Split (xs : List Item) (place : ℕ) (a : Act) : Type 0 where
  pub left : List Item
  pub item : Item
  pub right : List Item
  pub items_are : xs ≡ left ++ (item ∷ right)
  pub act : act_of item ≡ a
  pub rest : acts left ++ acts right ≡ without (acts xs) place
  pub before : (i : ℕ) (b : Act) → slice_get (acts left) i ≡ Some b → (i < place) × (slice_get (acts xs) i ≡ Some b)
  pub first : no_items left ≡ false → place ≡ 0 → ⊥

rest_on : (x : Act) (xs us vs : List Act) (n : ℕ) → us ++ vs ≡ without xs n → (x ∷ us) ++ vs ≡ without (x ∷ xs) (suc n)
rest_on x xs us vs n e =
    let k : suc n + 1 ≡ suc (n + 1) = omega arith in
    let P : ℕ → Type 0 = λ m. (x ∷ us) ++ vs ≡ take (suc n) (x ∷ xs) ++ drop m (x ∷ xs) in
    let h : (x ∷ us) ++ vs ≡ take (suc n) (x ∷ xs) ++ drop (suc (n + 1)) (x ∷ xs) = ap (λ (z : List Act). x ∷ z) e in
    subst P (sym k) h

split : (xs : List Item) (place : ℕ) (a : Act) → slice_get (acts xs) place ≡ Some a → Split xs place a
split [] place a e = absurd (none-some a e)
split (x ∷ xs) zero a e = record {
  left = [];
  item = x;
  right = xs;
  items_are = refl;
  act = same_Some (act_of x) a e;
  rest = refl;
  before = λ i b g. absurd (none-some b g);
  first = λ h g. absurd (cc (h));
}
split (x ∷ xs) (suc n) a e =
    let r = split xs n a e in
    record {
      left = x ∷ r.left;
      item = r.item;
      right = r.right;
      items_are = ap (λ (z : List Item). x ∷ z) r.items_are;
      act = r.act;
      rest = rest_on (act_of x) (acts xs) (acts r.left) (acts r.right) n r.rest;
      before = earlier x xs n r.left r.before;
      first = λ h g. absurd (omega (arith, g));
    }
  where
    earlier : (x : Item) (xs : List Item) (n : ℕ) (left : List Item)
        → ((i : ℕ) (b : Act) → slice_get (acts left) i ≡ Some b → (i < n) × (slice_get (acts xs) i ≡ Some b))
        → (i : ℕ) (b : Act) → slice_get (acts (x ∷ left)) i ≡ Some b → (i < suc n) × (slice_get (acts (x ∷ xs)) i ≡ Some b)
    earlier x xs n left h zero b g = (omega arith, g)
    earlier x xs n left h (suc i) b g = let k = h i b g in (omega (arith, k.0), k.1)

-- acts that may be overtaken by a send to q, or by a receive from q, are none of that kind with q
not_true : (b : Bool) → not b ≡ true → b ≡ false
not_true true e = absurd (false≢true e)
not_true false e = refl

no_send : (q : Role) (xs : List Item) → IsAbsent (acts xs) Send q → sends q.0 xs ≡ []
no_send q [] h = refl
no_send q (Get k r l so ∷ xs) h = no_send q xs (λ i a g. h (suc i) a g)
no_send q (Give k r l so ∷ xs) h =
    let e : (r.0 == q.0) ≡ false = not_true (r.0 == q.0) (h 0 (act.Puts r l so) refl) in
    rw e (no_send q xs (λ i a g. h (suc i) a g))

no_receive : (q : Role) (xs : List Item) → IsAbsent (acts xs) Receive q → recvs q.0 xs ≡ []
no_receive q [] h = refl
no_receive q (Give k r l so ∷ xs) h = no_receive q xs (λ i a g. h (suc i) a g)
no_receive q (Get k r l so ∷ xs) h =
    let e : (r.0 == q.0) ≡ false = not_true (r.0 == q.0) (h 0 (act.Takes r l so) refl) in
    rw e (no_receive q xs (λ i a g. h (suc i) a g))

no_output : (q : Role) (xs : List Item) → IsAbsent (acts xs) Receive q → Each IsGet xs
no_output q [] h = tt
no_output q (Give k r l so ∷ xs) h = absurd (false≢true (h 0 (act.Puts r l so) refl))
no_output q (Get k r l so ∷ xs) h = (tt, no_output q xs (λ i a g. h (suc i) a g))

absent_left : (kind : ActKind) (q : Role) (xs : List Item) (place : ℕ) (a : Act) (sp : Split xs place a)
    → IsFreeTo (acts xs) kind q place → IsAbsent (acts sp.left) kind q
absent_left kind q xs place a sp free i b g = let k = sp.before i b g in free i b k.0 k.1

-- an edge of the derivation, with what is owed before it and after it; `head` tells whether it makes the first of that
pub record Edge (d : Derivation_data) (sub above : Machine_data) (i j : ℕ) (owed owed' : List Item) (head : Bool) : Type 0 where
  pub from : DNode_data
  pub to : DNode_data
  pub nth : ℕ
  pub is_from : slice_get d.nodes i ≡ Some from
  pub is_to : slice_get d.nodes j ≡ Some to
  pub next : slice_get from.next nth ≡ Some j
  pub before : from.pending ≡ acts owed
  pub after : to.pending ≡ acts owed'
  pub makes : Option ℕ
  pub results : List Spot
  pub move : HasMove sub above (spot_of from) makes results
  pub keeps : head ≡ false → makes ≡ Some 0 → ⊥

-- a walk from the start: the node that it has come to, the acts that it has passed, those that it has done, and those that
-- it owes. A walk passes an act and owes it, passes one and does it at once, or does one that it owes.
pub data Path (d : Derivation_data) (sub above : Machine_data) : ℕ → List Item → List Item → List Item → Type 0 where
  Begin : Path d sub above 0 [] [] []
  Passed : (i j : ℕ) (eaten done owed : List Item) (x : Item) → Path d sub above i eaten done owed
      → Edge d sub above i j owed (owed ++ (x ∷ [])) false
      → Path d sub above j (eaten ++ (x ∷ [])) done (owed ++ (x ∷ []))
  AtOnce : (i j : ℕ) (eaten done owed : List Item) (x : Item) → Path d sub above i eaten done owed
      → Edge d sub above i j owed owed false → Free x owed → IsGive x
      → Path d sub above j (eaten ++ (x ∷ [])) (done ++ (x ∷ [])) owed
  PaidFor : (i j : ℕ) (eaten done left right : List Item) (x : Item) → Path d sub above i eaten done (left ++ (x ∷ right))
      → Edge d sub above i j (left ++ (x ∷ right)) (left ++ right) (no_items left) → Free x left
      → Path d sub above j eaten (done ++ (x ∷ [])) (left ++ right)

-- a walk that has come to a node: what was done, what is owed
pub record Walked (d : Derivation_data) (sub above' : Machine_data) (f : ℕ → ℕ) (eaten done owed : List Item) (t : ℕ) : Type 0 where
  pub place : ℕ
  pub node : DNode_data
  pub stands : slice_get d.nodes place ≡ Some node
  pub pending : node.pending ≡ acts owed
  pub above : node.above ≡ t
  pub trace : Trace sub f sub.start done node.state
  pub path : Path d sub above' place eaten done owed

-- moves that make nothing that is owed
pub data Steady (sub above : Machine_data) (s : ℕ) (owed : List Item) (t : ℕ) (rs : List Spot) : Type 0 where
  Stopped : slice_get sub.states s ≡ Some Done → owed ≡ [] → slice_get above.states t ≡ Some Done → Steady sub above s owed t rs
  BothPut : (q : Role) (arms bs : List Arm) → slice_get sub.states s ≡ Some (Puts q arms) → sends q.0 owed ≡ []
      → slice_get above.states t ≡ Some (Puts q bs) → Both bs (acts owed) arms rs → Steady sub above s owed t rs
  Guessed : (r : Role) (j : ℕ) (bs : List Arm) (b : Arm) → slice_get above.states t ≡ Some (Puts r bs) → slice_get bs j ≡ Some b
      → rs ≡ spot s (acts owed ++ (act.Puts r b.label b.sort ∷ [])) b.next ∷ [] → Steady sub above s owed t rs
  Followed : (r : Role) (bs : List Arm) → slice_get above.states t ≡ Some (Takes r bs)
      → rs ≡ map (λ (b : Arm). spot s (acts owed ++ (act.Takes r b.label b.sort ∷ [])) b.next) bs → Steady sub above s owed t rs

-- the walk has done what it owes as far as its next move does none of it
pub record Settled (d : Derivation_data) (sub above : Machine_data) (f : ℕ → ℕ) (eaten done owed : List Item) (t : ℕ) : Type 0 where
  pub done' : List Item
  pub owed' : List Item
  pub walked : Walked d sub above f eaten done' owed' t
  pub results : List Spot
  pub steady : Steady sub above walked.node.state owed' t results
  pub named : NameResults d.nodes walked.node.next results
  pub makes : Option ℕ
  pub move : HasMove sub above (spot_of walked.node) makes results
  pub keeps : makes ≡ Some 0 → ⊥
  pub kept : (ys : List Item) → Kept (done ++ (owed ++ ys)) (done' ++ (owed' ++ ys))

-- the walk has done one more act that it owed
pub record Paid (d : Derivation_data) (sub above : Machine_data) (f : ℕ → ℕ) (eaten done owed : List Item) (t : ℕ) : Type 0 where
  pub done' : List Item
  pub owed' : List Item
  pub walked : Walked d sub above f eaten done' owed' t
  pub shorter : suc (length owed') ≡ length owed
  pub kept : (ys : List Item) → Kept (done ++ (owed ++ ys)) (done' ++ (owed' ++ ys))

-- doing what is owed keeps the order that the queues allow
kept_pay : (done owed left right : List Item) (x : Item) (ys : List Item) → owed ≡ left ++ (x ∷ right) → Free x left
    → Kept (done ++ (owed ++ ys)) ((done ++ (x ∷ [])) ++ ((left ++ right) ++ ys))
kept_pay done owed left right x ys e free =
    let a : done ++ (owed ++ ys) ≡ done ++ (left ++ (x ∷ (right ++ ys))) = ap (λ (z : List Item). done ++ z) (ap (λ (z : List Item). z ++ ys) e ∙ append_assoc left (x ∷ right) ys) in
    let b : (done ++ (x ∷ [])) ++ ((left ++ right) ++ ys) ≡ (done ++ (x ∷ [])) ++ (left ++ (right ++ ys)) = ap (λ (z : List Item). (done ++ (x ∷ [])) ++ z) (append_assoc left right ys) in
    let P : List Item → Type 0 = λ z. Kept z ((done ++ (x ∷ [])) ++ ((left ++ right) ++ ys)) in
    let Q : List Item → Type 0 = λ z. Kept (done ++ (left ++ (x ∷ (right ++ ys)))) z in
    subst P (sym a) (subst Q (sym b) (kept_hop done left x (right ++ ys) free))

-- the walk does the act at that place of what it owes
pay : (d : Derivation_data) (sub above : Machine_data) (f : ℕ → ℕ) (eaten done owed : List Item) (t next j nth place : ℕ) (n : DNode_data) (a : Act) (makes : Option ℕ) (rs : List Spot)
    → (w : Walked d sub above f eaten done owed t) → (sp : Split owed place a)
    → slice_get d.nodes j ≡ Some n → slice_get w.node.next nth ≡ Some j → spot_of n ≡ spot next (without (acts owed) place) t
    → HasMove sub above (spot_of w.node) makes rs → makes ≡ Some place
    → Does sub (f (length done)) w.node.state sp.item next → Free sp.item sp.left → Paid d sub above f eaten done owed t
pay d sub above f eaten done owed t next j nth place n a makes rs w sp at nx e move mk does free =
    let Q : List Item → Type 0 = λ z. Path d sub above w.place eaten done z in
    let after' : n.pending ≡ acts (sp.left ++ sp.right) = ap (λ (z : Spot). z.pending) e ∙ sym sp.rest ∙ sym (acts_append sp.left sp.right) in
    let P : ℕ → Type 0 = λ z. Trace sub f sub.start (done ++ (sp.item ∷ [])) z in
    record {
      done' = done ++ (sp.item ∷ []);
      owed' = sp.left ++ sp.right;
      walked = record {
        place = j;
        node = n;
        stands = at;
        pending = after';
        above = ap (λ (z : Spot). z.above) e;
        trace = subst P (sym (ap (λ (z : Spot). z.state) e)) (trace_snoc sub f sub.start w.node.state next done sp.item w.trace does);
        path = PaidFor w.place j eaten done sp.left sp.right sp.item (subst Q sp.items_are w.path) record {
          from = w.node;
          to = n;
          nth = nth;
          is_from = w.stands;
          is_to = at;
          next = nx;
          before = w.pending ∙ ap acts sp.items_are;
          after = after';
          makes = makes;
          results = rs;
          move = move;
          keeps = λ h g. sp.first h (same_Some place 0 (sym mk ∙ g));
        } free;
      };
      shorter = (let l : length owed ≡ length (sp.left ++ (sp.item ∷ sp.right)) = ap length sp.items_are in
          omega (arith, l, length-append sp.left (sp.item ∷ sp.right), length-append sp.left sp.right));
      kept = λ ys. kept_pay done owed sp.left sp.right sp.item ys sp.items_are free;
    }

-- of one arm, any choice picks it
pick_one : (a : ℕ) (arm : Arm) → slice_get (arm ∷ []) (pick a (arm ∷ [])) ≡ Some arm
pick_one zero arm = refl
pick_one (suc a) arm = elim (leb_tells (suc (suc a)) 1) [
  | inl t ↦ absurd (omega (arith, t.1))
  | inr t ↦ (let e : nat_lt (suc a) (length (arm ∷ [])) ≡ false = t.0 in rw e refl)
]

-- a value of a sort that serves is one of the other sort
values : (a b : Sort) → Serves a b → items.IsSubsort a b
values a b s v h = has_served_sort v a b h s

-- the machine does the send, or the receive, that it owes
does_send : (sub : Machine_data) (a s : ℕ) (q : Role) (arm : Arm) (so : Sort) (x : Item)
    → slice_get sub.states s ≡ Some (Puts q (arm ∷ [])) → act_of x ≡ act.Puts q arm.label so → Serves arm.sort so
    → Does sub a s x arm.next
does_send sub a s q arm so (Give k r l so') st e sv =
    let er : r ≡ q = cc (e) in
    let same : so ≡ so' = cc (e) in
    let es : Serves arm.sort so' = subst (λ (z : Sort). Serves arm.sort z) same sv in
    record { arms = arm ∷ []; arm = arm; puts = cc (st, er); chosen = pick_one a arm; label = cc (e); serves = values arm.sort so' es; next = refl }
does_send sub a s q arm so (Get k r l so') st e sv = absurd (cc (e))

-- the arm with a label stands at some place
pub arm_of_is : (arms : List Arm) (l : Label) (a : Arm) → arm_of arms l ≡ Some a → (k : ℕ) × (slice_get arms k ≡ Some a) × (a.label ≡ l)
arm_of_is [] l a e = absurd (none-some a e)
arm_of_is (x ∷ xs) l a e = elim (eqb_tells x.label.0 l.0) [
  | inl t ↦ (
      let h : (x.label.0 == l.0) ≡ true = t.0 in
      let same : Some x ≡ Some a = (rw h at e) in
      let ea : x ≡ a = same_Some x a same in
      let label : ℕ → Label = λ n. record { 0 = n } in
      let el : x.label ≡ l = ap label t.1 in
      (zero, same, ap (λ (z : Arm). z.label) (sym ea) ∙ el))
  | inr t ↦ (
      let h : (x.label.0 == l.0) ≡ false = t.0 in
      let on : arm_of xs l ≡ Some a = (rw h at e) in
      let r = arm_of_is xs l a on in
      (suc r.0, r.1, r.2))
]

does_take : (sub : Machine_data) (roles a s : ℕ) (q : Role) (l : Label) (arms : List Arm) (arm : Arm) (so : Sort) (x : Item)
    → IsWellFormedMachine sub roles → slice_get sub.states s ≡ Some (Takes q arms) → act_of x ≡ act.Takes q l so
    → arm_of arms l ≡ Some arm → Serves so arm.sort → Does sub a s x arm.next
does_take sub roles a s q l arms arm so (Give k r l' so') isub st e ch sv = absurd (cc (e))
does_take sub roles a s q l arms arm so (Get k r l' so') isub st e ch sv =
    let er : r ≡ q = cc (e) in
    let el : l' ≡ l = cc (e) in
    let same : so ≡ so' = cc (e) in
    let es : Serves so' arm.sort = subst (λ (z : Sort). Serves z arm.sort) same sv in
    let i = arm_of_is arms l arm ch in
    let once = (isub.takes s q arms st).once in
    record {
      arms = arms;
      arm = arm;
      place = i.0;
      takes = cc (st, er);
      chosen = i.1;
      label = i.2 ∙ sym el;
      only = λ j y h g. (
          let ey : y.label ≡ arm.label = g ∙ el ∙ sym i.2 in
          let same : j ≡ i.0 = once j i.0 y arm h i.1 ey in
          let P : ℕ → Type 0 = λ z. slice_get arms z ≡ Some y in
          let there : slice_get arms i.0 ≡ Some y = subst P same h in
          same_Some y arm (sym there ∙ i.1));
      serves = values so' arm.sort es;
      next = refl;
    }

-- a send may be done before what is owed ahead of it
free_send : (q : Role) (l : Label) (so : Sort) (x : Item) (left : List Item) → act_of x ≡ act.Puts q l so → IsAbsent (acts left) Send q → Free x left
free_send q l so (Give k r l' so') left e h = let er : q ≡ r = cc (e) in (let P : Role → Type 0 = λ z. sends z.0 left ≡ [] in subst P er (no_send q left h))
free_send q l so (Get k r l' so') left e h = absurd (cc (e))

free_take : (q : Role) (l : Label) (so : Sort) (x : Item) (left : List Item) → act_of x ≡ act.Takes q l so
    → IsAbsent (acts left) Receive q → Free x left
free_take q l so (Give k r l' so') left e h = absurd (cc (e))
free_take q l so (Get k r l' so') left e h = let er : q ≡ r = cc (e) in (let P : Role → Type 0 = λ z. recvs z.0 left ≡ [] in (subst P er (no_receive q left h), no_output q left h))

-- a result of a move, named
pub record Named (nodes : List DNode_data) (js : List ℕ) (r : Spot) : Type 0 where
  pub place : ℕ
  pub node : DNode_data
  pub nth : ℕ
  pub next : slice_get js nth ≡ Some place
  pub stands : slice_get nodes place ≡ Some node
  pub spot' : spot_of node ≡ r

one_named : (nodes : List DNode_data) (js : List ℕ) (r : Spot) (rs : List Spot) → rs ≡ r ∷ [] → NameResults nodes js rs → Named nodes js r
one_named nodes js r rs e h = go js (let P : List Spot → Type 0 = λ z. NameResults nodes js z in subst P e h)
  where
    go : (js : List ℕ) → NameResults nodes js (r ∷ []) → Named nodes js r
    go [] h' = absurd h'
    go (j ∷ js') h' = record { place = j; node = h'.0.0; nth = 0; next = refl; stands = h'.0.1; spot' = h'.0.2 }

kept_same : (done owed ys : List Item) → Kept (done ++ (owed ++ ys)) (done ++ (owed ++ ys))
kept_same done owed ys = kept_refl (done ++ (owed ++ ys))

stay : (d : Derivation_data) (sub above : Machine_data) (f : ℕ → ℕ) (eaten done owed : List Item) (t : ℕ) (w : Walked d sub above f eaten done owed t) (makes : Option ℕ) (rs : List Spot)
    → Steady sub above w.node.state owed t rs → NameResults d.nodes w.node.next rs → HasMove sub above (spot_of w.node) makes rs
    → makes ≡ None → Settled d sub above f eaten done owed t
stay d sub above f eaten done owed t w makes rs st nm move mk =
    record { done' = done; owed' = owed; walked = w; results = rs; steady = st; named = nm; makes = makes; move = move; keeps = λ g. none-some 0 (sym mk ∙ g); kept = kept_same done owed }

nil_acts : (xs : List Item) → acts xs ≡ [] → xs ≡ []
nil_acts [] h = refl
nil_acts (x ∷ xs) h = absurd (cc (h))

there : (above : Machine_data) (n t : ℕ) (st : State) → n ≡ t → slice_get above.states n ≡ Some st → slice_get above.states t ≡ Some st
there above n t st e h = let P : ℕ → Type 0 = λ z. slice_get above.states z ≡ Some st in subst P e h

at_acts : (pending : List Act) (owed : List Item) (place : ℕ) (a : Act) → pending ≡ acts owed → slice_get pending place ≡ Some a
    → slice_get (acts owed) place ≡ Some a
at_acts pending owed place a e h = let P : List Act → Type 0 = λ z. slice_get z place ≡ Some a in subst P e h

free_acts : (kind : ActKind) (q : Role) (pending : List Act) (owed : List Item) (place : ℕ) → pending ≡ acts owed
    → IsFound pending kind q place → IsFreeTo (acts owed) kind q place
free_acts kind q pending owed place e h = let P : List Act → Type 0 = λ z. IsFreeTo z kind q place in subst P e h.free

paid_spot : (pending : List Act) (owed : List Item) (place next n t : ℕ) (rs : List Spot) → pending ≡ acts owed → n ≡ t
    → rs ≡ spot next (without pending place) n ∷ [] → rs ≡ spot next (without (acts owed) place) t ∷ []
paid_spot pending owed place next n t rs e f h = let P : List Act → ℕ → Type 0 = λ z u. rs ≡ spot next (without z place) u ∷ [] in subst₂ P e f h

-- one move: something owed is made, or the walk is settled
one_move : (d : Derivation_data) (sub above : Machine_data) (roles : ℕ) (f : ℕ → ℕ) → IsWellFormedMachine sub roles
    → (eaten done owed : List Item) (t : ℕ) (w : Walked d sub above f eaten done owed t) (makes : Option ℕ) (rs : List Spot)
    → (m : HasMove sub above (spot_of w.node) makes rs) → NameResults d.nodes w.node.next rs
    → Paid d sub above f eaten done owed t ⊎ Settled d sub above f eaten done owed t
one_move d sub above roles f isub eaten done owed t w makes rs (Stops st pe ab mk e) nm =
    inr (stay d sub above f eaten done owed t w makes rs (Stopped st (nil_acts owed (sym w.pending ∙ pe)) (there above w.node.above t Done w.above ab)) nm (Stops st pe ab mk e) mk)
one_move d sub above roles f isub eaten done owed t w makes rs (PaysSend q arm place so st found at sv mk e) nm =
    let sp = split owed place (act.Puts q arm.label so) (at_acts w.node.pending owed place (act.Puts q arm.label so) w.pending at) in
    let n = one_named d.nodes w.node.next (spot arm.next (without (acts owed) place) t) rs (paid_spot w.node.pending owed place arm.next w.node.above t rs w.pending w.above e) nm in
    inl (pay d sub above f eaten done owed t arm.next n.place n.nth place n.node (act.Puts q arm.label so) makes rs w sp n.stands n.next n.spot' (PaysSend q arm place so st found at sv mk e) mk
    (does_send sub (f (length done)) w.node.state q arm so sp.item st sp.act sv)
    (free_send q arm.label so sp.item sp.left sp.act (absent_left Send q owed place (act.Puts q arm.label so) sp (free_acts Send q w.node.pending owed place w.pending found))))
one_move d sub above roles f isub eaten done owed t w makes rs (SendsBoth q arms bs st none ab mk both) nm =
    let P : List Act → Type 0 = λ z. IsAbsent z Send q in
    let Q : List Act → Type 0 = λ z. Both bs z arms rs in
    inr (stay d sub above f eaten done owed t w makes rs (BothPut q arms bs st (no_send q owed (subst P w.pending none)) (there above w.node.above t (Puts q bs) w.above ab) (subst Q w.pending both))
    nm (SendsBoth q arms bs st none ab mk both) mk)
one_move d sub above roles f isub eaten done owed t w makes rs (Guesses q r arms bs j b st none ab ne ch mk e) nm =
    let P : List Act → Type 0 = λ z. rs ≡ spot w.node.state (z ++ (act.Puts r b.label b.sort ∷ [])) b.next ∷ [] in
    inr (stay d sub above f eaten done owed t w makes rs (Guessed r j bs b (there above w.node.above t (Puts r bs) w.above ab) ch (subst P w.pending e)) nm
    (Guesses q r arms bs j b st none ab ne ch mk e) mk)
one_move d sub above roles f isub eaten done owed t w makes rs (SendsAhead q r arms bs st none ab mk e) nm =
    let P : List Act → Type 0 = λ z. rs ≡ map (λ (b : Arm). spot w.node.state (z ++ (act.Takes r b.label b.sort ∷ [])) b.next) bs in
    inr (stay d sub above f eaten done owed t w makes rs (Followed r bs (there above w.node.above t (Takes r bs) w.above ab) (subst P w.pending e)) nm (SendsAhead q r arms bs st none ab mk e) mk)
one_move d sub above roles f isub eaten done owed t w makes rs (PaysReceive q arms place l so arm st found at ch sv mk e) nm =
    let sp = split owed place (act.Takes q l so) (at_acts w.node.pending owed place (act.Takes q l so) w.pending at) in
    let n = one_named d.nodes w.node.next (spot arm.next (without (acts owed) place) t) rs (paid_spot w.node.pending owed place arm.next w.node.above t rs w.pending w.above e) nm in
    inl (pay d sub above f eaten done owed t arm.next n.place n.nth place n.node (act.Takes q l so) makes rs w sp n.stands n.next n.spot' (PaysReceive q arms place l so arm st found at ch sv mk e) mk
    (does_take sub roles (f (length done)) w.node.state q l arms arm so sp.item isub st sp.act ch sv)
    (free_take q l so sp.item sp.left sp.act (absent_left Receive q owed place (act.Takes q l so) sp (free_acts Receive q w.node.pending owed place w.pending found))))
one_move d sub above roles f isub eaten done owed t w makes rs (ReceivesAhead q r arms bs st none ab mk e) nm =
    let P : List Act → Type 0 = λ z. rs ≡ map (λ (b : Arm). spot w.node.state (z ++ (act.Takes r b.label b.sort ∷ [])) b.next) bs in
    inr (stay d sub above f eaten done owed t w makes rs (Followed r bs (there above w.node.above t (Takes r bs) w.above ab) (subst P w.pending e)) nm (ReceivesAhead q r arms bs st none ab mk e) mk)

move_at : (d : Derivation_data) (sub above : Machine_data) (roles : ℕ) (f : ℕ → ℕ) → IsWellFormedMachine sub roles
    → (eaten done owed : List Item) (t : ℕ) → IsDerivation d sub above → (w : Walked d sub above f eaten done owed t)
    → Paid d sub above f eaten done owed t ⊎ Settled d sub above f eaten done owed t
move_at d sub above roles f isub eaten done owed t is w =
    let fit = is.each w.place w.node w.stands in
    one_move d sub above roles f isub eaten done owed t w fit.makes fit.results fit.move fit.named

-- every walk settles: each act that is done leaves fewer owed
pub settle : (d : Derivation_data) (sub above : Machine_data) (roles : ℕ) (f : ℕ → ℕ) → IsWellFormedMachine sub roles
    → IsDerivation d sub above → (k : ℕ) (eaten done owed : List Item) (t : ℕ) → length owed ≤ k
    → Walked d sub above f eaten done owed t → Settled d sub above f eaten done owed t
settle d sub above roles f isub is zero eaten done owed t h w = elim (move_at d sub above roles f isub eaten done owed t is w) [
  | inl p ↦ absurd (omega (arith, p.shorter))
  | inr s ↦ s
]
settle d sub above roles f isub is (suc k) eaten done owed t h w = elim (move_at d sub above roles f isub eaten done owed t is w) [
  | inl p ↦ (let s = settle d sub above roles f isub is k eaten p.done' p.owed' t (omega (arith, p.shorter)) p.walked in
      record {
        done' = s.done';
        owed' = s.owed';
        walked = s.walked;
        results = s.results;
        steady = s.steady;
        named = s.named;
        makes = s.makes;
        move = s.move;
        keeps = s.keeps;
        kept = λ ys. kept_trans (done ++ (owed ++ ys)) (p.done' ++ (p.owed' ++ ys)) (s.done' ++ (s.owed' ++ ys)) (p.kept ys) (s.kept ys);
      })
  | inr s ↦ s
]

both_at : (bs : List Arm) (pending : List Act) (arms : List Arm) (rs : List Spot) (j : ℕ) (a : Arm) → Both bs pending arms rs
    → slice_get arms j ≡ Some a
    → (b : Arm) × (arm_of bs a.label ≡ Some b) × Serves a.sort b.sort × (slice_get rs j ≡ Some (spot a.next pending b.next))
both_at bs pending [] rs j a h e = absurd (none-some a e)
both_at bs pending (x ∷ xs) [] j a h e = absurd h
both_at bs pending (x ∷ xs) (r ∷ rs) zero a h e =
    let same : x ≡ a = cc (e) in
    let P : Arm → Type 0 = λ z. (b : Arm) × (arm_of bs z.label ≡ Some b) × Serves z.sort b.sort × (Some r ≡ Some (spot z.next pending b.next)) in
    subst P same (h.0.0, h.0.1, h.0.2, ap Some h.0.3)
both_at bs pending (x ∷ xs) (r ∷ rs) (suc j) a h e = both_at bs pending xs rs j a h.1 e

name_at : (nodes : List DNode_data) (js : List ℕ) (rs : List Spot) (j : ℕ) (r : Spot) → NameResults nodes js rs → slice_get rs j ≡ Some r → Named nodes js r
name_at nodes [] [] j r h e = absurd (none-some r e)
name_at nodes [] (x ∷ rs) j r h e = absurd h
name_at nodes (i ∷ js) [] j r h e = absurd h
name_at nodes (i ∷ js) (x ∷ rs) zero r h e = let same : x ≡ r = cc (e) in record { place = i; node = h.0.0; nth = 0; next = refl; stands = h.0.1; spot' = h.0.2 ∙ same }
name_at nodes (i ∷ js) (x ∷ rs) (suc j) r h e = let n = name_at nodes js rs j r h.1 e in record { place = n.place; node = n.node; nth = suc n.nth; next = n.next; stands = n.stands; spot' = n.spot' }

-- the kept order, with one more item at the end
kept_at_end : (done owed done' owed' : List Item) (x : Item)
    → ((ys : List Item) → Kept (done ++ (owed ++ ys)) (done' ++ (owed' ++ ys)))
    → Kept ((done ++ owed) ++ (x ∷ [])) (done' ++ (owed' ++ (x ∷ [])))
kept_at_end done owed done' owed' x h =
    let P : List Item → Type 0 = λ z. Kept z (done' ++ (owed' ++ (x ∷ []))) in
    subst P (sym (append_assoc done owed (x ∷ []))) (h (x ∷ []))

kept_both : (done owed done' owed' : List Item) (x : Item)
    → ((ys : List Item) → Kept (done ++ (owed ++ ys)) (done' ++ (owed' ++ ys))) → Free x owed'
    → Kept ((done ++ owed) ++ (x ∷ [])) ((done' ++ (x ∷ [])) ++ owed')
kept_both done owed done' owed' x h free =
    let a = kept_at_end done owed done' owed' x h in
    let b = kept_hop done' owed' x [] free in
    let P : List Item → Type 0 = λ z. Kept (done' ++ (owed' ++ (x ∷ []))) ((done' ++ (x ∷ [])) ++ z) in
    kept_trans ((done ++ owed) ++ (x ∷ [])) (done' ++ (owed' ++ (x ∷ []))) ((done' ++ (x ∷ [])) ++ owed') a (subst P (append-nil owed') b)

-- one more item owed
push : (d : Derivation_data) (sub above : Machine_data) (f : ℕ → ℕ) (eaten done owed : List Item) (t u i nth : ℕ) (n : DNode_data) (x : Item) (a : Act) (makes : Option ℕ) (rs : List Spot)
    (w : Walked d sub above f eaten done owed t)
    → slice_get d.nodes i ≡ Some n → slice_get w.node.next nth ≡ Some i
    → spot_of n ≡ spot w.node.state (acts owed ++ (a ∷ [])) u → act_of x ≡ a → HasMove sub above (spot_of w.node) makes rs
    → (makes ≡ Some 0 → ⊥) → Walked d sub above f (eaten ++ (x ∷ [])) done (owed ++ (x ∷ [])) u
push d sub above f eaten done owed t u i nth n x a makes rs w at nx e h move keeps =
    let after' : n.pending ≡ acts (owed ++ (x ∷ [])) = ap (λ (z : Spot). z.pending) e ∙ ap (λ (z : Act). acts owed ++ (z ∷ [])) (sym h) ∙ sym (acts_append owed (x ∷ [])) in
    let P : ℕ → Type 0 = λ z. Trace sub f sub.start done z in
    record {
      place = i;
      node = n;
      stands = at;
      pending = after';
      above = ap (λ (z : Spot). z.above) e;
      trace = subst P (sym (ap (λ (z : Spot). z.state) e)) w.trace;
      path = Passed w.place i eaten done owed x w.path record {
        from = w.node;
        to = n;
        nth = nth;
        is_from = w.stands;
        is_to = at;
        next = nx;
        before = w.pending;
        after = after';
        makes = makes;
        results = rs;
        move = move;
        keeps = λ g. keeps;
      };
    }

-- where the projection sends, a settled walk follows one of its arms
pub gives_steady : (d : Derivation_data) (sub above : Machine_data) (roles : ℕ) (f : ℕ → ℕ) → IsWellFormedMachine sub roles
    → (eaten done owed : List Item) (t : ℕ) (q : Role) (k : ℕ) (arms : List Arm)
    → slice_get above.states t ≡ Some (Puts q arms) → (s : Settled d sub above f eaten done owed t)
    → Steady sub above s.walked.node.state s.owed' t s.results → Given (Walked d sub above f) eaten done owed q k arms
gives_steady d sub above roles f isub eaten done owed t q k arms at s (Stopped st nil ab) = absurd (cc (at, ab))
gives_steady d sub above roles f isub eaten done owed t q k arms at s (Followed r bs ab e) = absurd (cc (at, ab))
gives_steady d sub above roles f isub eaten done owed t q k arms at s (Guessed r j bs b ab ch e) =
    let same : Some (Puts r bs) ≡ Some (Puts q arms) = sym ab ∙ at in
    let er : r ≡ q = cc (same) in
    let eb : bs ≡ arms = cc (same) in
    let ch' : slice_get arms j ≡ Some b = cc (ch, eb) in
    let n = one_named d.nodes s.walked.node.next (spot s.walked.node.state (acts s.owed' ++ (act.Puts r b.label b.sort ∷ [])) b.next) s.results e s.named in
    let x : Item = Give k q b.label b.sort in
    record {
      index = j;
      arm = b;
      done' = s.done';
      owed' = s.owed' ++ (x ∷ []);
      stands = ch';
      follows = push d sub above f eaten s.done' s.owed' t b.next n.place n.nth n.node x (act.Puts r b.label b.sort) s.makes s.results s.walked n.stands n.next n.spot' (cc (er)) s.move s.keeps;
      kept = kept_at_end done owed s.done' s.owed' x s.kept;
    }
gives_steady d sub above roles f isub eaten done owed t q k arms at s (BothPut r as' bs st none ab both) =
    let same : Some (Puts r bs) ≡ Some (Puts q arms) = sym ab ∙ at in
    let er : r ≡ q = cc (same) in
    let eb : bs ≡ arms = cc (same) in
    let a = picked (f (length s.done')) as' (isub.puts s.walked.node.state r as' st).some in
    let b = both_at bs (acts s.owed') as' s.results (pick (f (length s.done')) as') a.0 both a.1 in
    let lab = arm_of_is bs a.0.label b.0 b.1 in
    let n = name_at d.nodes s.walked.node.next s.results (pick (f (length s.done')) as') (spot a.0.next (acts s.owed') b.0.next) s.named b.3 in
    let x : Item = Give k q b.0.label b.0.sort in
    let does : Gives sub (f (length s.done')) s.walked.node.state q b.0.label b.0.sort a.0.next =
    record { arms = as'; arm = a.0; puts = cc (st, er); chosen = a.1; label = sym lab.2; serves = values a.0.sort b.0.sort b.2; next = refl } in
    let P : ℕ → Type 0 = λ z. Trace sub f sub.start (s.done' ++ (x ∷ [])) z in
    let Q : Role → Type 0 = λ z. sends z.0 s.owed' ≡ [] in
    record {
      index = lab.0;
      arm = b.0;
      done' = s.done' ++ (x ∷ []);
      owed' = s.owed';
      stands = cc (lab.1, eb);
      follows = record {
        place = n.place;
        node = n.node;
        stands = n.stands;
        pending = ap (λ (z : Spot). z.pending) n.spot';
        above = ap (λ (z : Spot). z.above) n.spot';
        trace = subst P (sym (ap (λ (z : Spot). z.state) n.spot')) (trace_snoc sub f sub.start s.walked.node.state a.0.next s.done' x s.walked.trace does);
        path = AtOnce s.walked.place n.place eaten s.done' s.owed' x s.walked.path record {
          from = s.walked.node;
          to = n.node;
          nth = n.nth;
          is_from = s.walked.stands;
          is_to = n.stands;
          next = n.next;
          before = s.walked.pending;
          after = ap (λ (z : Spot). z.pending) n.spot';
          makes = s.makes;
          results = s.results;
          move = s.move;
          keeps = λ g. s.keeps;
        } (subst Q er none) tt;
      };
      kept = kept_both done owed s.done' s.owed' x s.kept (subst Q er none);
    }

-- where it receives, the walk follows any arm
pub takes_steady : (d : Derivation_data) (sub above : Machine_data) (f : ℕ → ℕ)
    → (eaten done owed : List Item) (t : ℕ) (q : Role) (k : ℕ) (arms : List Arm) (place : ℕ) (arm : Arm)
    → slice_get above.states t ≡ Some (Takes q arms) → slice_get arms place ≡ Some arm
    → (s : Settled d sub above f eaten done owed t) → Steady sub above s.walked.node.state s.owed' t s.results
    → Taken (Walked d sub above f) eaten done owed q k arm
takes_steady d sub above f eaten done owed t q k arms place arm at ch s (Stopped st nil ab) = absurd (cc (at, ab))
takes_steady d sub above f eaten done owed t q k arms place arm at ch s (BothPut r as' bs st none ab both) = absurd (cc (at, ab))
takes_steady d sub above f eaten done owed t q k arms place arm at ch s (Guessed r j bs b ab c e) = absurd (cc (at, ab))
takes_steady d sub above f eaten done owed t q k arms place arm at ch s (Followed r bs ab e) =
    let same : Some (Takes r bs) ≡ Some (Takes q arms) = sym ab ∙ at in
    let er : r ≡ q = cc (same) in
    let eb : bs ≡ arms = cc (same) in
    let g : Arm → Spot = λ b. spot s.walked.node.state (acts s.owed' ++ (act.Takes r b.label b.sort ∷ [])) b.next in
    let ge : slice_get bs place ≡ Some arm = rw eb ch in
    let at_j : slice_get s.results place ≡ Some (g arm) = rw (e, slice_get-map g bs place, ge) refl in
    let n = name_at d.nodes s.walked.node.next s.results place (g arm) s.named at_j in
    let x : Item = Get k q arm.label arm.sort in
    record {
      done' = s.done';
      owed' = s.owed' ++ (x ∷ []);
      follows = push d sub above f eaten s.done' s.owed' t arm.next n.place n.nth n.node x (act.Takes r arm.label arm.sort) s.makes s.results s.walked n.stands n.next n.spot' (cc (er)) s.move s.keeps;
      kept = kept_at_end done owed s.done' s.owed' x s.kept;
    }

-- where it ends, the machine ends, with nothing owed
pub ends_steady : (d : Derivation_data) (sub above : Machine_data) (f : ℕ → ℕ) → (eaten done owed : List Item) (t : ℕ)
    → slice_get above.states t ≡ Some Done
    → (s : Settled d sub above f eaten done owed t) → Steady sub above s.walked.node.state s.owed' t s.results
    → Finishes (Walked d sub above f) sub f eaten done owed t
ends_steady d sub above f eaten done owed t at s (BothPut r as' bs st none ab both) = absurd (cc (at, ab))
ends_steady d sub above f eaten done owed t at s (Guessed r j bs b ab c e) = absurd (cc (at, ab))
ends_steady d sub above f eaten done owed t at s (Followed r bs ab e) = absurd (cc (at, ab))
ends_steady d sub above f eaten done owed t at s (Stopped st nil ab) =
    let k : Kept (done ++ (owed ++ [])) (s.done' ++ (s.owed' ++ [])) = s.kept [] in
    let P : List Item → List Item → Type 0 = λ u v. Kept (done ++ u) (s.done' ++ v) in
    let k' : Kept (done ++ owed) (s.done' ++ []) = subst₂ P (append-nil owed) (append-nil s.owed' ∙ nil) k in
    let Q : List Item → Type 0 = λ z. Kept (done ++ owed) z in
    let W : List Item → Type 0 = λ z. Walked d sub above f eaten s.done' z t in
    record { done' = s.done'; last = s.walked.node.state; follows = subst W nil s.walked; trace = s.walked.trace; stands = st; kept = subst Q (append-nil s.done') k' }

-- a machine with a derivation follows its projection
unfoldable pub derived : (d : Derivation_data) (sub above : Machine_data) (roles : ℕ) (f : ℕ → ℕ)
    → IsWellFormedMachine sub roles → IsDerivation d sub above → Follower sub above f d.bound
derived d sub above roles f isub is = record {
  F = Walked d sub above f;
  start = record {
    place = 0;
    node = is.first;
    stands = is.stands;
    pending = ap (λ (z : Spot). z.pending) is.starts;
    above = ap (λ (z : Spot). z.above) is.starts;
    trace = ap (λ (z : Spot). z.state) (sym is.starts);
    path = Begin;
  };
  gives = λ eaten done owed t q k arms w at.
      let s = settle d sub above roles f isub is (length owed) eaten done owed t (omega arith) w in
      gives_steady d sub above roles f isub eaten done owed t q k arms at s s.steady;
  takes = λ eaten done owed t q k arms place arm w at ch.
      let s = settle d sub above roles f isub is (length owed) eaten done owed t (omega arith) w in
      takes_steady d sub above f eaten done owed t q k arms place arm at ch s s.steady;
  ends = λ eaten done owed t w at.
      let s = settle d sub above roles f isub is (length owed) eaten done owed t (omega arith) w in
      ends_steady d sub above f eaten done owed t at s s.steady;
  trace = λ eaten done owed t w. (w.node.state, w.trace);
  short = λ eaten done owed t w.
      let h = (is.each w.place w.node w.stands).short in
      let e : length w.node.pending ≡ length owed = ap length w.pending ∙ acts_length owed in
      omega arith;
}
