-- How long an act may stay pending (the lemma Lag): for fewer edges than the greatest number of pending acts times one more
-- than the greatest rank.
use Rattle.std.proofs.Common.{◌≡◌, ◌≢◌, inl, inr, ℕ, suc, ◌+◌, ◌*◌, ◌<◌, ◌≤◌, true, false, List, [], ◌∷◌, ◌++◌, Some, slice_get, length, refl, sym, ap, ◌∙◌, subst, arith, length-append}
use Rattle.std.proofs.Common.{mul-le-mul_right, suc-mul, mul-suc, if◌then◌else◌, ltb}
use Rattle.std.proofs.lemmas.Bool.Decides.{eqb_tells, leb_tells}
use Rattle.rs_model.specs.Data.{Machine_data}
use Rattle.rs_derive.specs.Data.{DNode_data, Derivation_data}
use Rattle.rs_derive.specs.Derivations.{Remembers}
use Rattle.rs_safety.proofs.Limits.{Limits}
use Rattle.rs_core.proofs.Items.{Item, Give, Get, Entry, entry, sends, sends_append, Each, each_append}
use Rattle.rs_safety.proofs.Kept.{place_of, Below, each_left, each_right, each_more, seen, Spaced, seen_snoc}
use Rattle.rs_safety.proofs.Derived.{Edge, Path, Begin, Passed, AtOnce, PaidFor, acts, acts_length, no_items}

-- how many of the entries have a place above k
abbrev pub over : ℕ → List Entry → ℕ
over k [] = 0
over k (e ∷ es) = (if ltb k e.place then 1 else 0) + over k es

-- x has been pending for so many edges, and j acts are pending before it. These edges, and those for which the acts before
-- it may still be pending, are fewer than `long * suc top`. Each of them has brought the walk on by at most `nodes` places,
-- and has done at most one act, so that at most so many sends to one role have gone ahead of x.
pub record Age (long top nodes rank : ℕ) (eaten done : List Item) (j : ℕ) (x : Item) : Type 0 where
  pub edges : ℕ
  pub late : edges + (j * suc top + rank) < long * suc top
  pub seen' : seen 0 eaten ≤ suc (place_of x) + nodes * edges
  pub acts' : length done ≤ place_of x + edges
  pub over' : (z : ℕ) → over (place_of x) (sends z done) ≤ edges

-- the ages of what is pending, the first at place j
abbrev pub Aged : ℕ → ℕ → ℕ → ℕ → List Item → List Item → ℕ → List Item → Type 0
Aged long top nodes rank eaten done j [] = Unit {0}
Aged long top nodes rank eaten done j (x ∷ xs) = Age long top nodes rank eaten done j x × Aged long top nodes rank eaten done (suc j) xs

aged_map : (long top nodes r r' : ℕ) (e e' d d' : List Item) → ((j : ℕ) (x : Item) → Age long top nodes r e d j x → Age long top nodes r' e' d' j x)
    → (j : ℕ) (xs : List Item) → Aged long top nodes r e d j xs → Aged long top nodes r' e' d' j xs
aged_map long top nodes r r' e e' d d' f j [] h = tt
aged_map long top nodes r r' e e' d d' f j (x ∷ xs) h = (f j x h.0, aged_map long top nodes r r' e e' d d' f (suc j) xs h.1)

aged_shift : (long top nodes r r' : ℕ) (e e' d d' : List Item)
    → ((j : ℕ) (x : Item) → Age long top nodes r e d (suc j) x → Age long top nodes r' e' d' j x)
    → (j : ℕ) (xs : List Item) → Aged long top nodes r e d (suc j) xs → Aged long top nodes r' e' d' j xs
aged_shift long top nodes r r' e e' d d' f j [] h = tt
aged_shift long top nodes r r' e e' d d' f j (x ∷ xs) h = (f j x h.0, aged_shift long top nodes r r' e e' d d' f (suc j) xs h.1)

aged_snoc : (long top nodes r : ℕ) (e d : List Item) (j : ℕ) (xs : List Item) (y : Item) → Aged long top nodes r e d j xs
    → Age long top nodes r e d (j + length xs) y → Aged long top nodes r e d j (xs ++ (y ∷ []))
aged_snoc long top nodes r e d j [] y h a = (let P : ℕ → Type 0 = λ z. Age long top nodes r e d z y in let q : j + 0 ≡ j = omega arith in subst P q a, tt)
aged_snoc long top nodes r e d j (x ∷ xs) y h a =
    (h.0, aged_snoc long top nodes r e d (suc j) xs y h.1 (let P : ℕ → Type 0 = λ z. Age long top nodes r e d z y in let q : j + suc (length xs) ≡ suc j + length xs = omega arith in subst P q a))

-- an item in the middle is left out
aged_out : (long top nodes r r' : ℕ) (e e' d d' : List Item)
    → ((j : ℕ) (x : Item) → Age long top nodes r e d j x → Age long top nodes r' e' d' j x)
    → ((j : ℕ) (x : Item) → Age long top nodes r e d (suc j) x → Age long top nodes r' e' d' j x)
    → (j : ℕ) (left : List Item) (y : Item) (right : List Item) → Aged long top nodes r e d j (left ++ (y ∷ right))
    → Aged long top nodes r' e' d' j (left ++ right)
aged_out long top nodes r r' e e' d d' f g j [] y right h = aged_shift long top nodes r r' e e' d d' g j right h.1
aged_out long top nodes r r' e e' d d' f g j (x ∷ left) y right h = (f j x h.0, aged_out long top nodes r r' e e' d d' f g (suc j) left y right h.1)

pub over_append : (k : ℕ) (xs ys : List Entry) → over k (xs ++ ys) ≡ over k xs + over k ys
over_append k [] ys = omega arith
over_append k (x ∷ xs) ys = let h = over_append k xs ys in omega arith

one_over : (k : ℕ) (e : Entry) → over k (e ∷ []) ≤ 1
one_over k e = elim (leb_tells (suc k) e.place) [
  | inl t ↦ (let h : ltb k e.place ≡ true = t.0 in rw h (omega arith))
  | inr t ↦ (let h : ltb k e.place ≡ false = t.0 in rw h (omega arith))
]

over_one_more : (k z : ℕ) (xs : List Item) (x : Item) → over k (sends z (xs ++ (x ∷ []))) ≤ suc (over k (sends z xs))
over_one_more k z xs x = rw (sends_append z xs (x ∷ []), over_append k (sends z xs) (sends z (x ∷ []))) (let h = few x in omega arith)
  where
    few : (x : Item) → over k (sends z (x ∷ [])) ≤ 1
    few (Get k' r l so) = omega arith
    few (Give k' r l so) = elim (eqb_tells r.0 z) [
      | inl t ↦ rw t.0 (one_over k (entry k' l so))
      | inr t ↦ rw t.0 (omega arith)
    ]

-- where all places are at most k, none is above
pub over_none : (k z : ℕ) (xs : List Item) → Each (λ x. place_of x ≤ k) xs → over k (sends z xs) ≡ 0
over_none k z [] h = refl
over_none k z (Get k' r l so ∷ xs) h = over_none k z xs h.1
over_none k z (Give k' r l so ∷ xs) h = elim (eqb_tells r.0 z) [
  | inl t ↦ rw t.0 (elim (leb_tells (suc k) k') [
    | inl u ↦ absurd (let h' = h.0 in omega (arith, u.1))
    | inr u ↦ (let e : ltb k k' ≡ false = u.0 in rw e (let ih = over_none k z xs h.1 in omega arith))
  ])
  | inr t ↦ rw t.0 (over_none k z xs h.1)
]

-- one edge more
older : (long top nodes r r' : ℕ) (e e' d d' : List Item) (j j' : ℕ) (x : Item) → j' * suc top + r' < j * suc top + r
    → seen 0 e' ≤ seen 0 e + nodes → length d' ≤ suc (length d)
    → ((k z : ℕ) → over k (sends z d') ≤ suc (over k (sends z d))) → Age long top nodes r e d j x → Age long top nodes r' e' d' j' x
older long top nodes r r' e e' d d' j j' x falls hs hd ho a =
    let late = a.late in
    let sn = a.seen' in
    let ac = a.acts' in
    record {
      edges = suc a.edges;
      late = omega arith;
      seen' = rw (mul-suc nodes a.edges) (omega arith);
      acts' = omega arith;
      over' = λ z. (let o = a.over' z in let o' = ho (place_of x) z in omega arith);
    }

spaced_before : (n s : ℕ) (xs : List Item) (x : Item) → Spaced n s (xs ++ (x ∷ [])) → Spaced n s xs × (seen s xs ≤ place_of x)
    × (place_of x < seen s xs + n)
spaced_before n s [] x h = (tt, h.0, h.1)
spaced_before n s (y ∷ ys) x h = let r = spaced_before n (suc (place_of y)) ys x h.2 in ((h.0, h.1, r.0), r.1, r.2)

pub spaced_length : (n s : ℕ) (xs : List Item) → Spaced n s xs → s + length xs ≤ seen s xs
spaced_length n s [] h = omega arith
spaced_length n s (x ∷ xs) h = let ih = spaced_length n (suc (place_of x)) xs h.2 in let a = h.0 in omega arith

-- what holds of a walk that has come to a node of this rank
pub record Tally (long top nodes rank : ℕ) (eaten done owed : List Item) : Type 0 where
  pub counts : length done + length owed ≡ length eaten
  pub done_below : Below (seen 0 eaten) done
  pub owed_below : Below (seen 0 eaten) owed
  pub aged : Aged long top nodes rank eaten done 0 owed

below_more : (n m : ℕ) (xs : List Item) → n ≤ m → Below n xs → Below m xs
below_more n m xs h b = each_more (λ z. place_of z < n) (λ z. place_of z < m) xs (λ z g. omega arith) b

below_le : (n k : ℕ) (xs : List Item) → n ≤ k → Below n xs → Each (λ x. place_of x ≤ k) xs
below_le n k xs h b = each_more (λ z. place_of z < n) (λ z. place_of z ≤ k) xs (λ z g. omega arith) b

same_over : (d : List Item) (k z : ℕ) → over k (sends z d) ≤ suc (over k (sends z d))
same_over d k z = omega arith

-- the new item has just been passed
new_age : (long top nodes r : ℕ) (eaten done owed : List Item) (x : Item) → suc (length owed) ≤ long → r ≤ top
    → length done ≤ seen 0 eaten → seen 0 eaten ≤ place_of x → Below (seen 0 eaten) done
    → Age long top nodes r (eaten ++ (x ∷ [])) done (0 + length owed) x
new_age long top nodes r eaten done owed x hl hr hd hs hb =
    let m : suc (length owed) * suc top ≤ long * suc top = mul-le-mul_right (suc top) hl in
    let e : suc (length owed) * suc top ≡ length owed * suc top + suc top = suc-mul (length owed) (suc top) in
    record {
      edges = 0;
      late = omega arith;
      seen' = rw (seen_snoc 0 eaten x) (omega arith);
      acts' = omega arith;
      over' = λ z. (let o = over_none (place_of x) z done (below_le (seen 0 eaten) (place_of x) done hs hb) in omega arith);
    }

keep_pushed : (long top nodes r r' : ℕ) (eaten done owed : List Item) (x : Item) → (owed ≢ [] → r' < r)
    → seen 0 eaten ≤ place_of x → place_of x < seen 0 eaten + nodes
    → Aged long top nodes r eaten done 0 owed → Aged long top nodes r' (eaten ++ (x ∷ [])) done 0 owed
keep_pushed long top nodes r r' eaten done [] x falls hs hn h = tt
keep_pushed long top nodes r r' eaten done (y ∷ ys) x falls hs hn h =
    let f : r' < r = falls (λ e. cc (e)) in
    aged_map long top nodes r r' eaten (eaten ++ (x ∷ [])) done done
    (λ j w. older long top nodes r r' eaten (eaten ++ (x ∷ [])) done done j j w (omega arith) (rw (seen_snoc 0 eaten x) (omega arith)) (omega arith) (same_over done)) 0 (y ∷ ys) h

keep_both : (long top nodes r r' : ℕ) (eaten done owed : List Item) (x : Item) → (owed ≢ [] → r' < r)
    → seen 0 eaten ≤ place_of x → place_of x < seen 0 eaten + nodes
    → Aged long top nodes r eaten done 0 owed → Aged long top nodes r' (eaten ++ (x ∷ [])) (done ++ (x ∷ [])) 0 owed
keep_both long top nodes r r' eaten done [] x falls hs hn h = tt
keep_both long top nodes r r' eaten done (y ∷ ys) x falls hs hn h =
    let f : r' < r = falls (λ e. cc (e)) in
    aged_map long top nodes r r' eaten (eaten ++ (x ∷ [])) done (done ++ (x ∷ []))
    (λ j w. older long top nodes r r' eaten (eaten ++ (x ∷ [])) done (done ++ (x ∷ [])) j j w (omega arith) (rw (seen_snoc 0 eaten x) (omega arith)) (omega (arith, length-append done (x ∷ [])))
    (λ k z. over_one_more k z done x)) 0 (y ∷ ys) h

shift_one : (long top nodes r r' : ℕ) (eaten done : List Item) (x : Item) → r' ≤ top → (j : ℕ) (w : Item)
    → Age long top nodes r eaten done (suc j) w → Age long top nodes r' eaten (done ++ (x ∷ [])) j w
shift_one long top nodes r r' eaten done x hr j w a =
    let e : suc j * suc top ≡ j * suc top + suc top = suc-mul j (suc top) in
    older long top nodes r r' eaten eaten done (done ++ (x ∷ [])) (suc j) j w (omega arith) (omega arith) (omega (arith, length-append done (x ∷ []))) (λ k z. over_one_more k z done x) a

keep_paid : (long top nodes r r' : ℕ) (eaten done left right : List Item) (x : Item) → r' ≤ top → (no_items left ≡ false → r' < r)
    → Aged long top nodes r eaten done 0 (left ++ (x ∷ right)) → Aged long top nodes r' eaten (done ++ (x ∷ [])) 0 (left ++ right)
keep_paid long top nodes r r' eaten done [] right x hr falls h =
    aged_shift long top nodes r r' eaten eaten done (done ++ (x ∷ [])) (shift_one long top nodes r r' eaten done x hr) 0 right h.1
keep_paid long top nodes r r' eaten done (y ∷ left) right x hr falls h =
    let f : r' < r = falls refl in
    aged_out long top nodes r r' eaten eaten done (done ++ (x ∷ []))
    (λ j w. older long top nodes r r' eaten eaten done (done ++ (x ∷ [])) j j w (omega arith) (omega arith) (omega (arith, length-append done (x ∷ []))) (λ k z. over_one_more k z done x))
    (shift_one long top nodes r r' eaten done x hr) 0 (y ∷ left) x right h

same_node : (d : Derivation_data) (j : ℕ) (n m : DNode_data) → slice_get d.nodes j ≡ Some n → slice_get d.nodes j ≡ Some m → n ≡ m
same_node d j n m a b = let e : Some n ≡ Some m = sym a ∙ b in cc (e)

not_nil : (n : DNode_data) (owed : List Item) → n.pending ≡ acts owed → owed ≢ [] → n.pending ≢ []
not_nil n [] e ne h = ne refl
not_nil n (x ∷ xs) e ne h = cc (e, h)

edge_falls : (d : Derivation_data) (sub above : Machine_data) (i j : ℕ) (owed owed' : List Item) (n : DNode_data)
    → Remembers d sub above → (e : Edge d sub above i j owed owed' false) → slice_get d.nodes j ≡ Some n → owed ≢ []
    → n.rank < e.from.rank
edge_falls d sub above i j owed owed' n rem e at ne =
    rem.falls i e.from e.makes e.results e.is_from e.move record { owes = not_nil e.from owed e.before ne; other = e.keeps refl } e.nth j n e.next at

paid_falls : (d : Derivation_data) (sub above : Machine_data) (i j : ℕ) (left right : List Item) (x : Item) (n : DNode_data)
    → Remembers d sub above → (e : Edge d sub above i j (left ++ (x ∷ right)) (left ++ right) (no_items left))
    → slice_get d.nodes j ≡ Some n
    → no_items left ≡ false → n.rank < e.from.rank
paid_falls d sub above i j left right x n rem e at ne =
    rem.falls i e.from e.makes e.results e.is_from e.move record { owes = not_nil e.from (left ++ (x ∷ right)) e.before (some left); other = e.keeps ne } e.nth j n e.next at
  where
    some : (left : List Item) → left ++ (x ∷ right) ≢ []
    some [] h = cc (h)
    some (y ∷ ys) h = cc (h)

-- the lemma Lag: along a walk, what is pending has been so for few edges
pub tally : (d : Derivation_data) (sub above : Machine_data) (long top nodes : ℕ) → Remembers d sub above → Limits d long top
    → (i : ℕ) (eaten done owed : List Item) → Path d sub above i eaten done owed → Spaced nodes 0 eaten
    → (n : DNode_data) → slice_get d.nodes i ≡ Some n → Tally long top nodes n.rank eaten done owed
tally d sub above long top nodes rem lim i eaten done owed Begin sp n at = record { counts = refl; done_below = tt; owed_below = tt; aged = tt }
tally d sub above long top nodes rem lim j eaten' done owed' (Passed i _ eaten _ owed x p e) sp n at =
    let s = spaced_before nodes 0 eaten x sp in
    let ih = tally d sub above long top nodes rem lim i eaten done owed p s.0 e.from e.is_from in
    let same : n ≡ e.to = same_node d j n e.to at e.is_to in
    let len : length e.to.pending ≡ length (owed ++ (x ∷ [])) = ap length e.after ∙ acts_length (owed ++ (x ∷ [])) in
    let few : length e.to.pending ≤ long = lim.pending j e.to e.is_to in
    let top' : n.rank ≤ top = lim.rank j n at in
    let cnt = ih.counts in
    let sl = spaced_length nodes 0 eaten s.0 in
    let up : seen 0 (eaten ++ (x ∷ [])) ≡ suc (place_of x) = seen_snoc 0 eaten x in
    let hs = s.1 in
    record {
      counts = omega (arith, length-append owed (x ∷ []), length-append eaten (x ∷ []));
      done_below = below_more (seen 0 eaten) (seen 0 (eaten ++ (x ∷ []))) done (omega arith) ih.done_below;
      owed_below = each_append (λ z. place_of z < seen 0 (eaten ++ (x ∷ []))) owed (x ∷ []) (below_more (seen 0 eaten) (seen 0 (eaten ++ (x ∷ []))) owed (omega arith) ih.owed_below) (omega arith, tt);
      aged = aged_snoc long top nodes n.rank (eaten ++ (x ∷ [])) done 0 owed x
          (keep_pushed long top nodes e.from.rank n.rank eaten done owed x (edge_falls d sub above i j owed (owed ++ (x ∷ [])) n rem e at) s.1 s.2 ih.aged)
          (new_age long top nodes n.rank eaten done owed x (omega (arith, length-append owed (x ∷ []))) top' (omega arith) s.1 ih.done_below);
    }
tally d sub above long top nodes rem lim j eaten' done' owed (AtOnce i _ eaten done _ x p e free give) sp n at =
    let s = spaced_before nodes 0 eaten x sp in
    let ih = tally d sub above long top nodes rem lim i eaten done owed p s.0 e.from e.is_from in
    let cnt = ih.counts in
    let up : seen 0 (eaten ++ (x ∷ [])) ≡ suc (place_of x) = seen_snoc 0 eaten x in
    let hs = s.1 in
    record {
      counts = omega (arith, length-append done (x ∷ []), length-append eaten (x ∷ []));
      done_below = each_append (λ z. place_of z < seen 0 (eaten ++ (x ∷ []))) done (x ∷ []) (below_more (seen 0 eaten) (seen 0 (eaten ++ (x ∷ []))) done (omega arith) ih.done_below) (omega arith, tt);
      owed_below = below_more (seen 0 eaten) (seen 0 (eaten ++ (x ∷ []))) owed (omega arith) ih.owed_below;
      aged = keep_both long top nodes e.from.rank n.rank eaten done owed x (edge_falls d sub above i j owed owed n rem e at) s.1 s.2 ih.aged;
    }
tally d sub above long top nodes rem lim j eaten done' owed' (PaidFor i _ _ done left right x p e free) sp n at =
    let ih = tally d sub above long top nodes rem lim i eaten done (left ++ (x ∷ right)) p sp e.from e.is_from in
    let cnt = ih.counts in
    let top' : n.rank ≤ top = lim.rank j n at in
    let ol = each_left (λ z. place_of z < seen 0 eaten) left (x ∷ right) ih.owed_below in
    let or' = each_right (λ z. place_of z < seen 0 eaten) left (x ∷ right) ih.owed_below in
    record {
      counts = omega (arith, length-append done (x ∷ []), length-append left (x ∷ right), length-append left right);
      done_below = each_append (λ z. place_of z < seen 0 eaten) done (x ∷ []) ih.done_below (or'.0, tt);
      owed_below = each_append (λ z. place_of z < seen 0 eaten) left right ol or'.1;
      aged = keep_paid long top nodes e.from.rank n.rank eaten done left right x top' (paid_falls d sub above i j left right x n rem e at) ih.aged;
    }
