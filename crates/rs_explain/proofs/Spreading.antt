-- Distances spread from the ends along the edges, node by node.
use Rattle.std.proofs.Common.{◌≡◌, ◌⊎◌, inl, inr, ℕ, ◌<◌, ◌≤◌, ◌+◌, ◌*◌, zero, suc, Bool, true, false, List, [], ◌∷◌, ◌++◌, length, set, get_or, replicate, slice_get, Option, Some, None, refl, sym, ap, subst, ◌∙◌, arith}
use Rattle.std.proofs.lemmas.Bool.{cases_lt, false≢true}
use Rattle.std.proofs.lemmas.List.{get_or-set_same, get_or-set_other, get_or_default, get_or_past, get_or-replicate, length-replicate, length-set}
use Rattle.std.proofs.lemmas.List.Sums.{sum_by-cons}
use Rattle.std.proofs.lemmas.Option.{none-some, same_Some}
use Rattle.std.specs.List.{sum_by}
use Rattle.rs_graph.proofs.Growth.{at_in, at_short, at_within, has_last, has_left, no_more, push_at, push_is, push_once}
use Rattle.rs_graph.proofs.Removed.{upto, upto_has, upto_length}
use Rattle.rs_graph.specs.Graphs.{pair_of}
use Rattle.rs_graph.specs.Lists.{Among}
use Rattle.rs_graph.specs.Removal.{IsInto, Leads, edges_in}
use Rattle.rs_graph.specs.declared.graph.Move.{Move}
use Rattle.rs_search.proofs.Discovering.{same_number}
use Rattle.rs_explain.specs.Distances.{AreDistances, AreEnds, AreQueued, AreSpread, AreSteps, IsNear, IsBegun, IsNoted, Begins, Known, New, Outside, Passes, far_at, flag_at}

-- in between: of the moves that lead to the next node the first so many were told
pub record AreSpreading (outs : List (List (List ℕ))) (inside ends : List Bool) (far : List (Option ℕ)) (queue : List ℕ) (count node distance : ℕ) (into : List Move) (nth : ℕ) : Type 0 where
  pub spread : AreSpread outs inside ends far queue count
  pub next : slice_get queue count ≡ Some node
  pub distance_is : far_at far node ≡ Some distance
  pub part : (k : ℕ) (m : Move) → k < nth → slice_get into k ≡ Some m → flag_at inside m.node ≡ true → IsNear far m.node (suc distance)

-- one distance more

far_same : (far : List (Option ℕ)) (n d : ℕ) → n < length far → far_at (set far n (Some d)) n ≡ Some d
far_same far n d lt = get_or-set_same far n (Some d) None lt

far_kept : (far : List (Option ℕ)) (n d m e : ℕ) → far_at far n ≡ None → far_at far m ≡ Some e → far_at (set far n (Some d)) m ≡ Some e
far_kept far n d m e none some = elim (same_number n m) [
  | inl q ↦ absurd (none-some e (sym (ap (λ (z : ℕ). far_at far z) (sym q) ∙ none) ∙ some))
  | inr ne ↦ get_or-set_other far n m (Some d) None (λ q. ne (sym q)) ∙ some
]

far_was : (far : List (Option ℕ)) (n d m e : ℕ) → n < length far → far_at (set far n (Some d)) m ≡ Some e → ((n ≡ m) × (d ≡ e)) ⊎ (far_at far m ≡ Some e)
far_was far n d m e lt h = elim (same_number n m) [
  | inl q ↦ inl (q, same_Some d e (sym (far_same far n d lt) ∙ ap (λ (z : ℕ). far_at (set far n (Some d)) z) q ∙ h))
  | inr ne ↦ inr (sym (get_or-set_other far n m (Some d) None (λ q. ne (sym q))) ∙ h)
]

one_far : (far : List (Option ℕ)) (n d e : ℕ) → far_at far n ≡ Some d → far_at far n ≡ Some e → d ≡ e
one_far far n d e a b = same_Some d e (sym a ∙ b)

pub far_within : (far : List (Option ℕ)) (n d : ℕ) → far_at far n ≡ Some d → n < length far
far_within far n d h = elim (cases_lt n (length far)) [
  | inl a ↦ a
  | inr a ↦ absurd (none-some d (sym (get_or_past far n None a) ∙ h))
]

near_kept : (far : List (Option ℕ)) (n d m most : ℕ) → far_at far n ≡ None → IsNear far m most → IsNear (set far n (Some d)) m most
near_kept far n d m most none h = (h.0, far_kept far n d m h.0 none h.1, h.2)

pub leads_source : (outs : List (List (List ℕ))) (n p r : ℕ) → Leads outs n p r → n < length outs
leads_source outs n p r h = elim (cases_lt n (length outs)) [
  | inl a ↦ a
  | inr a ↦ (let e = get_or_past outs n [] a in let q : get_or {A = List ℕ} [] p [] ≡ [] = get_or_past [] p [] (omega arith) in
      let bad : Among [] r = subst (λ (z : List ℕ). Among z r) (ap (λ (z : List (List ℕ)). get_or z p []) e ∙ q) h in absurd bad)
]

pub flag_within : (flags : List Bool) (n : ℕ) → flag_at flags n ≡ true → n < length flags
flag_within flags n h = elim (cases_lt n (length flags)) [
  | inl a ↦ a
  | inr a ↦ absurd (false≢true (sym (get_or_past flags n false a) ∙ h))
]

-- a node is noted

-- of a queue whose new node has the distance
record Noting (outs : List (List (List ℕ))) (inside ends : List Bool) (far : List (Option ℕ)) (queue : List ℕ) (count node distance n place : ℕ) : Type 0 where
  pub spread : AreSpread outs inside ends far queue count
  pub next : slice_get queue count ≡ Some node
  pub distance_is : far_at far node ≡ Some distance
  pub inside_is : flag_at inside n ≡ true
  pub leads : Leads outs n place node
  pub none : far_at far n ≡ None

within_far : (outs : List (List (List ℕ))) (inside ends : List Bool) (far : List (Option ℕ)) (queue : List ℕ) (count node distance n place : ℕ) → Noting outs inside ends far queue count node distance n place
    → n < length far
within_far outs inside ends far queue count node distance n place h = let a = leads_source outs n place node h.leads in let b = h.spread.steps.size in omega arith

noted_steps : (outs : List (List (List ℕ))) (inside ends : List Bool) (far : List (Option ℕ)) (queue : List ℕ) (count node distance n place : ℕ) → Noting outs inside ends far queue count node distance n place
    → AreSteps outs inside ends (set far n (Some (distance + 1)))
noted_steps outs inside ends far queue count node distance n place h = record {
  size = length-set far n (Some (distance + 1)) ∙ s.size;
  lie = λ m d e. elim (far_was far n (distance + 1) m d lt e) [ inl q ↦ subst (λ (z : ℕ). flag_at inside z ≡ true) q.0 h.inside_is | inr o ↦ s.lie m d o ];
  begin = λ m w. far_kept far n (distance + 1) m 0 h.none (s.begin m w);
  only = λ m e. elim (far_was far n (distance + 1) m 0 lt e) [ inl q ↦ (let k = q.1 in let bad : ⊥ = omega arith in absurd bad) | inr o ↦ s.only m o ];
  tight = λ m d e. elim (far_was far n (distance + 1) m (suc d) lt e) [
    | inl q ↦ (let k : distance ≡ d = (let z = q.1 in omega arith) in
        (place, node, subst (λ (z : ℕ). Leads outs z place node) q.0 h.leads, far_kept far n (distance + 1) node d h.none (h.distance_is ∙ ap Some k)))
    | inr o ↦ (let t = s.tight m d o in (t.0, t.1, t.2, far_kept far n (distance + 1) t.1 d h.none t.3))
  ];
}
  where
    s : AreSteps outs inside ends far
    s = h.spread.steps

    lt : n < length far
    lt = within_far outs inside ends far queue count node distance n place h

noted_queue : (outs : List (List (List ℕ))) (inside ends : List Bool) (far : List (Option ℕ)) (queue : List ℕ) (count node distance n place : ℕ) → Noting outs inside ends far queue count node distance n place
    → AreQueued (set far n (Some (distance + 1))) (queue ++ n ∷ [])
noted_queue outs inside ends far queue count node distance n place h = record {
  once = push_once queue n q.once (λ m. let i = at_in queue n m in let k = q.known i.0 n i.1 in none-some k.0 (sym h.none ∙ k.1));
  within = λ i m e. (let l = length-set far n (Some (distance + 1)) in elim (push_is queue n i m e) [
    | inl o ↦ (let w = q.within i m o in omega arith)
    | inr x ↦ (let y = x.1 in let w = lt in omega arith)
  ]);
  known = λ i m e. elim (push_is queue n i m e) [
    | inl o ↦ (let k = q.known i m o in (k.0, far_kept far n (distance + 1) m k.0 h.none k.1, k.2))
    | inr x ↦ (distance + 1, subst (λ (z : ℕ). far_at (set far n (Some (distance + 1))) z ≡ Some (distance + 1)) x.1 (far_same far n (distance + 1) lt), (let a = low in let b = x.0 in omega arith))
  ];
  listed = λ m d e. elim (far_was far n (distance + 1) m d lt e) [
    | inl x ↦ subst (λ (z : ℕ). Among (queue ++ n ∷ []) z) x.0 (has_last queue n)
    | inr o ↦ has_left queue (n ∷ []) m (q.listed m d o)
  ];
  order = λ i j m o d e le a b x y. elim (push_is queue n i m a) [
    | inl old ↦ elim (push_is queue n j o b) [
      | inl old' ↦ q.order i j m o d e le old old' (back i m d old x) (back j o e old' y)
      | inr new ↦ (let k = h.spread.near node m distance d h.next h.distance_is (back i m d old x) in
          let v = one_far (set far n (Some (distance + 1))) o e (distance + 1) y (subst (λ (z : ℕ). far_at (set far n (Some (distance + 1))) z ≡ Some (distance + 1)) new.1 (far_same far n (distance + 1) lt)) in
          omega arith)
    ]
    | inr new ↦ elim (push_is queue n j o b) [
      | inl old' ↦ (let k = at_short queue j o old' in let z = new.0 in let bad : ⊥ = omega arith in absurd bad)
      | inr new' ↦ (let same : m ≡ o = sym new.1 ∙ new'.1 in
          let v = one_far (set far n (Some (distance + 1))) o d e (subst (λ (z : ℕ). far_at (set far n (Some (distance + 1))) z ≡ Some d) same x) y in omega arith)
    ]
  ];
}
  where
    q : AreQueued far queue
    q = h.spread.queued

    lt : n < length far
    lt = within_far outs inside ends far queue count node distance n place h

    low : distance + 1 ≤ length queue
    low = let k = q.known count node h.next in let v = one_far far node k.0 distance k.1 h.distance_is in let w = at_short queue count node h.next in let z = k.2 in omega arith

    back : (i m d : ℕ) → slice_get queue i ≡ Some m → far_at (set far n (Some (distance + 1))) m ≡ Some d → far_at far m ≡ Some d
    back i m d o e =
        let k = q.known i m o in
        let v = one_far (set far n (Some (distance + 1))) m k.0 d (far_kept far n (distance + 1) m k.0 h.none k.1) e in k.1 ∙ ap Some v

noted_spread : (outs : List (List (List ℕ))) (inside ends : List Bool) (far : List (Option ℕ)) (queue : List ℕ) (count node distance n place : ℕ) → Noting outs inside ends far queue count node distance n place
    → AreSpread outs inside ends (set far n (Some (distance + 1))) (queue ++ n ∷ []) count
noted_spread outs inside ends far queue count node distance n place h = record {
  steps = noted_steps outs inside ends far queue count node distance n place h;
  queued = noted_queue outs inside ends far queue count node distance n place h;
  told = λ i r small e m p d g le y. elim (push_is queue n i r e) [
    | inr new ↦ (let w = at_short queue count node h.next in let z = new.0 in let bad : ⊥ = omega arith in absurd bad)
    | inl o ↦ (let k = h.spread.queued.known i r o in
        let v = one_far (set far n (Some (distance + 1))) r k.0 d (far_kept far n (distance + 1) r k.0 h.none k.1) y in
        near_kept far n (distance + 1) m (suc d) h.none (h.spread.told i r small o m p d g le (k.1 ∙ ap Some v)))
  ];
  near = λ m o d e a x y. (
      let same : node ≡ m = same_Some node m (sym (push_at queue n count node h.next) ∙ a) in
      let v = one_far (set far n (Some (distance + 1))) m distance d
      (subst (λ (z : ℕ). far_at (set far n (Some (distance + 1))) z ≡ Some distance) same (far_kept far n (distance + 1) node distance h.none h.distance_is)) x in
      elim (far_was far n (distance + 1) o e (within_far outs inside ends far queue count node distance n place h) y) [
        | inl z ↦ (let w = z.1 in omega arith)
        | inr old ↦ (let w = h.spread.near node o distance e h.next h.distance_is old in omega arith)
      ]);
}

-- one move more that leads to the next node
pub note_on : (outs : List (List (List ℕ))) (inside ends : List Bool) (far : List (Option ℕ)) (queue : List ℕ) (far' : List (Option ℕ)) (queue' : List ℕ) (count node distance : ℕ) (into : List Move) (nth : ℕ) (m : Move)
    → AreSpreading outs inside ends far queue count node distance into nth → slice_get into nth ≡ Some m → m.node < length outs → Leads outs m.node m.place node
    → IsNoted inside m.node (distance + 1) far queue far' queue' → AreSpreading outs inside ends far' queue' count node distance into (nth + 1)
note_on outs inside ends far queue far' queue' count node distance into nth m s e w le (Outside out ef eq) = rw (ef, eq) record {
  spread = s.spread;
  next = s.next;
  distance_is = s.distance_is;
  part = λ k x lt g lies. elim (cases_lt k nth) [
    | inl a ↦ s.part k x a g lies
    | inr a ↦ (let same : k ≡ nth = omega arith in let same_m : m ≡ x = same_Some m x (sym e ∙ ap (λ (z : ℕ). slice_get into z) (sym same) ∙ g) in
        absurd (false≢true (sym out ∙ subst (λ (z : Move). flag_at inside z.node ≡ true) (sym same_m) lies)))
  ];
}
note_on outs inside ends far queue far' queue' count node distance into nth m s e w le (Known d known ef eq) = rw (ef, eq) record {
  spread = s.spread;
  next = s.next;
  distance_is = s.distance_is;
  part = λ k x lt g lies. elim (cases_lt k nth) [
    | inl a ↦ s.part k x a g lies
    | inr a ↦ (let same : k ≡ nth = omega arith in let same_m : m ≡ x = same_Some m x (sym e ∙ ap (λ (z : ℕ). slice_get into z) (sym same) ∙ g) in
        subst (λ (z : Move). IsNear far z.node (suc distance)) same_m (d, known, s.spread.near node m.node distance d s.next s.distance_is known))
  ];
}
note_on outs inside ends far queue far' queue' count node distance into nth m s e w le (New lies none ef eq) = rw (ef, eq) record {
  spread = noted_spread outs inside ends far queue count node distance m.node m.place h;
  next = push_at queue m.node count node s.next;
  distance_is = far_kept far m.node (distance + 1) node distance none s.distance_is;
  part = λ k x lt g out. elim (cases_lt k nth) [
    | inl a ↦ near_kept far m.node (distance + 1) x.node (suc distance) none (s.part k x a g out)
    | inr a ↦ (let same : k ≡ nth = omega arith in let same_m : m ≡ x = same_Some m x (sym e ∙ ap (λ (z : ℕ). slice_get into z) (sym same) ∙ g) in
        subst (λ (z : Move). IsNear (set far m.node (Some (distance + 1))) z.node (suc distance)) same_m
        (distance + 1, far_same far m.node (distance + 1) (within_far outs inside ends far queue count node distance m.node m.place h), omega arith))
  ];
}
  where
    h : Noting outs inside ends far queue count node distance m.node m.place
    h = record { spread = s.spread; next = s.next; distance_is = s.distance_is; inside_is = lies; leads = le; none = none }

-- the next node is told

pub tell_begins : (outs : List (List (List ℕ))) (inside ends : List Bool) (far : List (Option ℕ)) (queue : List ℕ) (count node distance : ℕ) (into : List Move) → AreSpread outs inside ends far queue count
    → slice_get queue count ≡ Some node → far_at far node ≡ Some distance → AreSpreading outs inside ends far queue count node distance into 0
tell_begins outs inside ends far queue count node distance into s e d = record { spread = s; next = e; distance_is = d; part = λ k m lt g lies. (let bad : ⊥ = omega arith in absurd bad) }

pub tell_ends : (outs : List (List (List ℕ))) (intos : List (List Move)) (inside ends : List Bool) (far : List (Option ℕ)) (queue : List ℕ) (count node distance nth : ℕ) → IsInto outs intos
    → AreSpreading outs inside ends far queue count node distance (get_or intos node []) nth → length (get_or intos node []) ≤ nth → AreSpread outs inside ends far queue (count + 1)
tell_ends outs intos inside ends far queue count node distance nth into s le = record {
  steps = s.spread.steps;
  queued = s.spread.queued;
  told = λ i r lt e m place d lies leads y. elim (cases_lt i count) [
    | inl a ↦ s.spread.told i r a e m place d lies leads y
    | inr a ↦ (let same : i ≡ count = omega arith in
        let at : node ≡ r = same_Some node r (sym s.next ∙ ap (λ (z : ℕ). slice_get queue z) (sym same) ∙ e) in
        let v : distance ≡ d = one_far far node distance d s.distance_is (ap (λ (z : ℕ). far_at far z) at ∙ y) in
        let x : Move = record { node = m; place = place } in
        let k = at_in (get_or intos node []) x (into.to x node (subst (λ (z : ℕ). Leads outs m place z) (sym at) leads)) in
        let w = at_short (get_or intos node []) k.0 x k.1 in
        let n = s.part k.0 x (omega arith) k.1 lies in
        (n.0, n.1, (let z = n.2 in omega arith)))
  ];
  near = λ m o d e a x y. (
      let first = s.spread.queued.order count (count + 1) node m distance d (omega arith) s.next a s.distance_is x in
      let far' = s.spread.near node o distance e s.next s.distance_is y in omega arith);
}

-- begin and end

pub spread_begins : (outs : List (List (List ℕ))) (inside ends : List Bool) (far : List (Option ℕ)) (queue : List ℕ) → length ends ≡ length outs
    → ((n : ℕ) → flag_at ends n ≡ true → flag_at inside n ≡ true) → AreEnds ends far queue (length ends) → AreSpread outs inside ends far queue 0
spread_begins outs inside ends far queue size within h = record {
  steps = record {
    size = h.size ∙ size;
    lie = λ n d e. (let k = at_in queue n (h.only n d e).1 in within n (h.to k.0 n k.1).1);
    begin = λ n e. (let k = at_in queue n (h.from n (flag_within ends n e) e) in (h.to k.0 n k.1).2);
    only = λ n e. (let k = at_in queue n (h.only n 0 e).1 in (h.to k.0 n k.1).1);
    tight = λ n d e. (let z = (h.only n (suc d) e).0 in let bad : ⊥ = omega arith in absurd bad);
  };
  queued = record {
    once = h.once;
    within = λ i n e. (let t = (h.to i n e).0 in let z = h.size in omega arith);
    known = λ i n e. (0, (h.to i n e).2, omega arith);
    listed = λ n d e. (h.only n d e).1;
    order = λ i j n m d e le a b x y. (let z = (h.only n d x).0 in omega arith);
  };
  told = λ i r lt e. (let bad : ⊥ = omega arith in absurd bad);
  near = λ n m d e a x y. (let z = (h.only m e y).0 in omega arith);
}

pub spread_ends : (outs : List (List (List ℕ))) (inside ends : List Bool) (far : List (Option ℕ)) (queue : List ℕ) (count : ℕ) → AreSpread outs inside ends far queue count → length queue ≤ count
    → AreDistances outs inside ends far
spread_ends outs inside ends far queue count s le = record {
  steps = s.steps;
  told = λ r n place d lies leads e. (let k = at_in queue r (s.queued.listed r d e) in let w = at_short queue k.0 r k.1 in
      s.told k.0 r (omega arith) k.1 n place d lies leads e);
}

pub queue_few : (outs : List (List (List ℕ))) (inside ends : List Bool) (far : List (Option ℕ)) (queue : List ℕ) (count : ℕ) → AreSpread outs inside ends far queue count → length queue ≤ length outs
queue_few outs inside ends far queue count s =
    let n = no_more queue (upto 0 outs) s.queued.once (λ x h. let k = at_in queue x h in upto_has 0 outs x (omega arith) (let w = s.queued.within k.0 x k.1 in let z = s.steps.size in omega arith)) in
    let l = upto_length 0 outs in omega arith

-- a node's distance fits
pub distance_few : (outs : List (List (List ℕ))) (inside ends : List Bool) (far : List (Option ℕ)) (queue : List ℕ) (count node distance : ℕ) → AreSpread outs inside ends far queue count
    → slice_get queue count ≡ Some node → far_at far node ≡ Some distance → distance < length outs
distance_few outs inside ends far queue count node distance s e d =
    let k = s.queued.known count node e in
    let v = one_far far node k.0 distance k.1 d in
    let w = at_short queue count node e in
    let f = queue_few outs inside ends far queue count s in
    let z = k.2 in omega arith

-- the ends

pub ends_begin : (ends : List Bool) (far : List (Option ℕ)) (queue : List ℕ) → length far ≡ length ends → ((n : ℕ) → far_at far n ≡ None) → queue ≡ [] → AreEnds ends far queue 0
ends_begin ends far queue size none e = rw e record {
  size = size;
  once = λ i j x a b. absurd (none-some x a);
  to = λ i n a. absurd (none-some n a);
  from = λ n lt. (let bad : ⊥ = omega arith in absurd bad);
  only = λ n d a. absurd (none-some d (sym (none n) ∙ a));
}

pub ends_past : (ends : List Bool) (far : List (Option ℕ)) (queue : List ℕ) (count : ℕ) → AreEnds ends far queue count → flag_at ends count ≡ false → AreEnds ends far queue (count + 1)
ends_past ends far queue count h some = record {
  size = h.size;
  once = h.once;
  to = λ i n a. (let t = h.to i n a in ((let z = t.0 in omega arith), t.1, t.2));
  from = λ n lt z. elim (cases_lt n count) [
    | inl a ↦ h.from n a z
    | inr a ↦ (let same : n ≡ count = omega arith in absurd (false≢true (sym some ∙ ap (λ (y : ℕ). flag_at ends y) (sym same) ∙ z)))
  ];
  only = h.only;
}

pub ends_on : (ends : List Bool) (far : List (Option ℕ)) (queue queue' : List ℕ) (count : ℕ) → AreEnds ends far queue count → flag_at ends count ≡ true
    → queue' ≡ queue ++ count ∷ [] → AreEnds ends (set far count (Some 0)) queue' (count + 1)
ends_on ends far queue queue' count h z e = rw e record {
  size = length-set far count (Some 0) ∙ h.size;
  once = push_once queue count h.once (λ m. let k = at_in queue count m in let t = (h.to k.0 count k.1).0 in let bad : ⊥ = omega arith in bad);
  to = λ i n a. elim (push_is queue count i n a) [
    | inl o ↦ (let t = h.to i n o in ((let y = t.0 in omega arith), t.1, kept n t.2))
    | inr x ↦ ((let y = x.1 in omega arith), subst (λ (y : ℕ). flag_at ends y ≡ true) x.1 z, subst (λ (y : ℕ). far_at (set far count (Some 0)) y ≡ Some 0) x.1 (far_same far count 0 lt))
  ];
  from = λ n less y. elim (cases_lt n count) [
    | inl a ↦ has_left queue (count ∷ []) n (h.from n a y)
    | inr a ↦ (let same : count ≡ n = omega arith in subst (λ (x : ℕ). Among (queue ++ count ∷ []) x) same (has_last queue count))
  ];
  only = λ n d a. elim (far_was far count 0 n d lt a) [
    | inl x ↦ (sym x.1, subst (λ (y : ℕ). Among (queue ++ count ∷ []) y) x.0 (has_last queue count))
    | inr o ↦ (let t = h.only n d o in (t.0, has_left queue (count ∷ []) n t.1))
  ];
}
  where
    lt : count < length far
    lt = let w = flag_within ends count z in let s = h.size in omega arith

    kept : (n : ℕ) → far_at far n ≡ Some 0 → far_at (set far count (Some 0)) n ≡ Some 0
    kept n a = elim (same_number count n) [
      | inl q ↦ subst (λ (y : ℕ). far_at (set far count (Some 0)) y ≡ Some 0) q (far_same far count 0 lt)
      | inr ne ↦ get_or-set_other far count n (Some 0) None (λ q. ne (sym q)) ∙ a
    ]

pub ends_step : (ends : List Bool) (far : List (Option ℕ)) (queue : List ℕ) (far' : List (Option ℕ)) (queue' : List ℕ) (count : ℕ) → AreEnds ends far queue count
    → IsBegun ends count far queue far' queue' → AreEnds ends far' queue' (count + 1)
ends_step ends far queue far' queue' count h (Passes some ef eq) = rw (ef, eq) (ends_past ends far queue count h some)
ends_step ends far queue far' queue' count h (Begins z ef eq) = rw (ef) (ends_on ends far queue queue' count h z eq)

-- what is read

pub far_read : (far : List (Option ℕ)) (n : ℕ) (v : Option ℕ) → n < length far → v ≡ get_or far n v → far_at far n ≡ v
far_read far n v lt e = sym (e ∙ get_or_default far n v None lt)

pub pair_read : (row : List Move) (nth n p : ℕ) → Some (n, p) ≡ pair_of (slice_get row nth) → (m : Move) × (slice_get row nth ≡ Some m) × (m.node ≡ n)
pair_read row nth n p e = go (slice_get row nth) refl e
  where
    go : (o : Option Move) → slice_get row nth ≡ o → Some (n, p) ≡ pair_of o → (m : Move) × (slice_get row nth ≡ Some m) × (m.node ≡ n)
    go None g e = absurd (none-some (n, p) (sym e))
    go (Some m) g e = (m, g, ap (λ (z : ℕ × ℕ). z.0) (sym (same_Some (n, p) (m.node, m.place) e)))

pub none_by : (row : List Move) (nth : ℕ) (o : Option (ℕ × ℕ)) → o ≡ pair_of (slice_get row nth) → ((n p : ℕ) → o ≡ Some (n, p) → ⊥) → length row ≤ nth
none_by row nth o e none = elim (cases_lt nth (length row)) [
  | inr le ↦ le
  | inl lt ↦ (let m = at_within row nth lt in absurd (none m.0.node m.0.place (e ∙ ap pair_of m.1)))
]

pub none_all : (far : List (Option ℕ)) (count n : ℕ) → far ≡ replicate count None → far_at far n ≡ None
none_all far count n e = rw e (elim (cases_lt n count) [
  | inl a ↦ get_or-replicate count n None None a
  | inr a ↦ get_or_past (replicate count None) n None (let l = length-replicate {A = Option ℕ} count None in omega arith)
])

pub flag_read : (flags : List Bool) (n : ℕ) (b : Bool) → n < length flags → b ≡ get_or flags n b → flag_at flags n ≡ b
flag_read flags n b lt e = sym (e ∙ get_or_default flags n b false lt)

-- the edges of a graph are few where each node has few

pub rows_most : (intos : List (List Move)) (n : ℕ) → length (get_or intos n []) ≤ sum_by (λ (row : List Move). length row) intos
rows_most [] n = let e : length (get_or {A = List Move} [] n []) ≡ 0 = ap (λ (z : List Move). length z) (get_or_past [] n [] (omega arith)) in omega arith
rows_most (r ∷ rows) zero = let a = sum_by-cons (λ (row : List Move). length row) r rows in omega arith
rows_most (r ∷ rows) (suc n) = let a = sum_by-cons (λ (row : List Move). length row) r rows in let b = rows_most rows n in omega arith

pub edges_few : (outs : List (List (List ℕ))) → ((n : ℕ) → sum_by (λ (results : List ℕ). length results) (get_or outs n []) ≤ 65537) → edges_in outs ≤ 65537 * length outs
edges_few [] few = omega arith
edges_few (moves ∷ outs) few =
    let a = sum_by-cons (λ (ms : List (List ℕ)). sum_by (λ (results : List ℕ). length results) ms) moves outs in
    let b = few 0 in
    let c = edges_few outs (λ n. few (suc n)) in omega arith
