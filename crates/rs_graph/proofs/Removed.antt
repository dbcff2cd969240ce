-- The removal of nodes, step by step.
use Rattle.std.proofs.Common.{◌≡◌, ◌≢◌, ◌⊎◌, inl, inr, ℕ, ◌<◌, ◌≤◌, Bool, true, false, List, [], ◌∷◌, ◌++◌, length, get_or, set, refl, sym, ap, ◌∙◌, subst, arith, ◌+◌, suc, zero, Some, slice_get}
use Rattle.std.proofs.Common.{length-append, take, drop, replicate, eqb, if◌then◌else◌, Option}
use Rattle.std.proofs.lemmas.Bool.Decides.{eqb_tells}
use Rattle.std.proofs.lemmas.Bool.{cases_lt}
use Rattle.std.proofs.lemmas.List.{get_or-set_same, get_or-set_other, length-set, get_or_default, get_or_past, length-replicate, get_or-replicate, drop_all}
use Rattle.rs_graph.specs.Lists.{Among}
use Rattle.rs_graph.specs.Order.{Once}
use Rattle.rs_graph.specs.Removal.{moves_at, Leads, IsInto, at, Behind, IsRemoval}
use Rattle.rs_graph.specs.Removing.{is_lost, Going, From, Rest, IsNextMove, lowered_flags, moveless}
use Rattle.rs_graph.specs.declared.graph.Move.{Move}
use Rattle.std.specs.List.{sum_by}
use Rattle.std.proofs.lemmas.List.Sums.{sum_by-append}
use Rattle.rs_graph.proofs.Growth.{drop_here}
use Rattle.rs_graph.proofs.Growth.{in_at, at_in, at_short, at_within, push_at, push_new, push_is, push_once, no_more, reads_at, take_on, take_kept}

-- evidence of a lost move stays evidence while the order grows
pub later : (outs : List (List (List ℕ))) (order order' : List ℕ) (n place before before' : ℕ) → ((j x : ℕ) → slice_get order j ≡ Some x → slice_get order' j ≡ Some x) → before ≤ before'
    → Behind outs order n place before → Behind outs order' n place before'
later outs order order' n place before before' kept le b = record {
  result = b.result;
  leads = b.leads;
  index = b.index;
  stands = kept b.index b.result b.stands;
  early = (let a = b.early in omega arith);
}

-- a flag that is set
pub flags_length : (lost : List (List Bool)) (n k p : ℕ) → n < length lost → length (get_or (set lost n (set (get_or lost n []) p true)) k []) ≡ length (get_or lost k [])
flags_length lost n k p inn = elim (eqb_tells k n) [
  | inl e ↦ (let P : ℕ → Type 0 = λ z. length (get_or (set lost n (set (get_or lost n []) p true)) z []) ≡ length (get_or lost z []) in
      subst P (sym e.1) (ap (λ (z : List Bool). length z) (get_or-set_same lost n (set (get_or lost n []) p true) [] inn) ∙ length-set (get_or lost n []) p true))
  | inr e ↦ ap (λ (z : List Bool). length z) (get_or-set_other lost n k (set (get_or lost n []) p true) [] e.1)
]

set_here : (lost : List (List Bool)) (n p : ℕ) → n < length lost → p < length (get_or lost n []) → is_lost (set lost n (set (get_or lost n []) p true)) n p ≡ true
set_here lost n p inn inp = ap (λ (z : List Bool). get_or z p false) (get_or-set_same lost n (set (get_or lost n []) p true) [] inn) ∙ get_or-set_same (get_or lost n []) p true false inp

-- it reads as it was, or is the one that was set
set_reads : (lost : List (List Bool)) (n p k q : ℕ) → n < length lost
    → ((k ≡ n) × (q ≡ p)) ⊎ (is_lost (set lost n (set (get_or lost n []) p true)) k q ≡ is_lost lost k q)
set_reads lost n p k q inn = elim (eqb_tells k n) [
  | inl e ↦ elim (eqb_tells q p) [
    | inl d ↦ inl (e.1, d.1)
    | inr d ↦ inr (let P : ℕ → Type 0 = λ z. is_lost (set lost n (set (get_or lost n []) p true)) z q ≡ is_lost lost z q in
        subst P (sym e.1) (ap (λ (z : List Bool). get_or z q false) (get_or-set_same lost n (set (get_or lost n []) p true) [] inn) ∙ get_or-set_other (get_or lost n []) p q true false d.1))
  ]
  | inr e ↦ inr (ap (λ (z : List Bool). get_or z q false) (get_or-set_other lost n k (set (get_or lost n []) p true) [] e.1))
]

set_keeps : (lost : List (List Bool)) (n p k q : ℕ) → n < length lost → p < length (get_or lost n []) → is_lost lost k q ≡ true → is_lost (set lost n (set (get_or lost n []) p true)) k q ≡ true
set_keeps lost n p k q inn inp h = elim (set_reads lost n p k q inn) [
  | inl e ↦ (let P : ℕ → ℕ → Type 0 = λ y z. is_lost (set lost n (set (get_or lost n []) p true)) y z ≡ true in
      let a : P n q = subst (λ (z : ℕ). P n z) (sym e.1) (set_here lost n p inn inp) in subst (λ (y : ℕ). P y q) (sym e.0) a)
  | inr e ↦ e ∙ h
]

set_true : (lost : List (List Bool)) (n p k q : ℕ) → n < length lost → is_lost (set lost n (set (get_or lost n []) p true)) k q ≡ true → ((k ≡ n) × (q ≡ p)) ⊎ (is_lost lost k q ≡ true)
set_true lost n p k q inn h = elim (set_reads lost n p k q inn) [ inl e ↦ inl e | inr e ↦ inr (sym e ∙ h) ]

set_false : (lost : List (List Bool)) (n p k q : ℕ) → n < length lost → p < length (get_or lost n []) → is_lost (set lost n (set (get_or lost n []) p true)) k q ≡ false
    → (((k ≡ n) × (q ≡ p)) → ⊥) × (is_lost lost k q ≡ false)
set_false lost n p k q inn inp h =
    let no : ((k ≡ n) × (q ≡ p)) → ⊥ = λ e. (let P : ℕ → ℕ → Type 0 = λ y z. is_lost (set lost n (set (get_or lost n []) p true)) y z ≡ true in
    let a : P n q = subst (λ (z : ℕ). P n z) (sym e.1) (set_here lost n p inn inp) in let b : P k q = subst (λ (y : ℕ). P y q) (sym e.0) a in cc) in
    (no, (elim (set_reads lost n p k q inn) [ inl e ↦ absurd (no e) | inr e ↦ sym e ∙ h ]))

-- how the order may grow as node n goes on to `next`
pub record Noted (count n next : ℕ) (was : ℕ) (order order' : List ℕ) : Type 0 where
  pub kept : (j x : ℕ) → slice_get order j ≡ Some x → slice_get order' j ≡ Some x
  pub only : (j x : ℕ) → slice_get order' j ≡ Some x → (slice_get order j ≡ Some x) ⊎ ((x ≡ n) × (next ≡ count) × (was ≢ count) × (j ≡ length order))
  pub has : next ≡ count → Among order' n
  pub once : Once order'
  pub longer : length order ≤ length order'

-- a node goes on to its next move: where that is none, it is removed
pub moved : (outs : List (List (List ℕ))) (lost : List (List Bool)) (current current' order order' : List ℕ) (k n p next doing : ℕ) (rest : List Move)
    → n < length lost → p < length (get_or lost n [])
    → slice_get order k ≡ Some doing → Leads outs n p doing
    → length current' ≡ length current → at current' n ≡ next → ((x : ℕ) → x ≢ n → at current' x ≡ at current x)
    → next ≤ moves_at outs n → at current n ≤ next
    → (next < moves_at outs n → is_lost (set lost n (set (get_or lost n []) p true)) n next ≡ false)
    → ((place : ℕ) → at current n ≤ place → place < next → is_lost (set lost n (set (get_or lost n []) p true)) n place ≡ true)
    → Noted (moves_at outs n) n next (at current n) order order'
    → Going outs lost current order (Rest k (record { node = n; place = p } ∷ rest))
    → Going outs (set lost n (set (get_or lost n []) p true)) current' order' (Rest k rest)
moved outs lost current current' order order' k n p next doing rest inn inp is leads len here others most on unlost past noted g =
    let lost' : List (List Bool) = set lost n (set (get_or lost n []) p true) in
    let rows' : length (set lost n (set (get_or lost n []) p true)) ≡ length lost = length-set lost n (set (get_or lost n []) p true) in
    let inn' : n < length outs = (let a = g.rows in omega arith) in
    let short : k < length order = at_short order k doing is in
    let gone' : (m q : ℕ) → is_lost (set lost n (set (get_or lost n []) p true)) m q ≡ true → Behind outs order m q (length order) = λ m q h. elim (set_true lost n p m q inn h) [
      | inl e ↦ (let P : ℕ → ℕ → Type 0 = λ y z. Behind outs order y z (length order) in
          let a : P n p = record { result = doing; leads = leads; index = k; stands = is; early = short } in
          let b : P n q = subst (λ (z : ℕ). P n z) (sym e.1) a in subst (λ (y : ℕ). P y q) (sym e.0) b)
      | inr h' ↦ g.gone m q h'
    ] in
    record {
      rows = rows' ∙ g.rows;
      nodes = len ∙ g.nodes;
      flags = λ m. flags_length lost n m p inn ∙ g.flags m;
      within = λ m. elim (eqb_tells m n) [
        | inl e ↦ (let P : ℕ → Type 0 = λ z. at current' z ≤ moves_at outs z in subst P (sym e.1) (let a = here in omega arith))
        | inr e ↦ (let a = others m e.1 in let b = g.within m in omega arith)
      ];
      unlost = λ m h. elim (eqb_tells m n) [
        | inl e ↦ (let P : ℕ → Type 0 = λ z. at current' z < moves_at outs z → is_lost (set lost n (set (get_or lost n []) p true)) z (at current' z) ≡ false in
            let base : P n = λ h'. (let a : next < moves_at outs n = (let b = here in omega arith) in
            ap (λ (z : ℕ). is_lost (set lost n (set (get_or lost n []) p true)) n z) here ∙ unlost a) in subst P (sym e.1) base h)
        | inr e ↦ (let a = others m e.1 in let h' : at current m < moves_at outs m = omega arith in
            ap (λ (z : ℕ). is_lost (set lost n (set (get_or lost n []) p true)) m z) a
            ∙ (elim (set_reads lost n p m (at current m) inn) [ inl q ↦ absurd (e.1 q.0) | inr q ↦ q ∙ g.unlost m h' ]))
      ];
      past = λ m q h. elim (eqb_tells m n) [
        | inl e ↦ (let P : ℕ → Type 0 = λ z. q < at current' z → is_lost (set lost n (set (get_or lost n []) p true)) z q ≡ true in
            let base : P n = λ h'. (let a : q < next = (let b = here in omega arith) in elim (cases_lt q (at current n)) [
              | inl lt ↦ set_keeps lost n p n q inn inp (g.past n q lt)
              | inr ge ↦ past q ge a
            ]) in subst P (sym e.1) base h)
        | inr e ↦ (let a = others m e.1 in set_keeps lost n p m q inn inp (g.past m q (let b = h in omega arith)))
      ];
      gone = λ m q h. later outs order order' m q (length order) (length order') noted.kept noted.longer (gone' m q h);
      removed = λ i m h. elim (noted.only i m h) [
        | inl q ↦ (let r = g.removed i m q in (
          r.0,
          (elim (eqb_tells m n) [
            | inl e ↦ (let P : ℕ → Type 0 = λ z. at current z ≡ moves_at outs z → at current' z ≡ moves_at outs z in
                let base : P n = λ full. (let a = here in omega arith) in subst P (sym e.1) base r.1)
            | inr e ↦ others m e.1 ∙ r.1
          ]),
        ))
        | inr q ↦ (let P : ℕ → Type 0 = λ z. (z < length outs) × (at current' z ≡ moves_at outs z) in subst P (sym q.0) (inn', here ∙ q.1))
      ];
      ordered = λ i m q h lt. elim (noted.only i m h) [
        | inl r ↦ later outs order order' m q i i noted.kept (omega arith) (g.ordered i m q r lt)
        | inr r ↦ (let P : ℕ → Type 0 = λ z. q < moves_at outs z → Behind outs order z q (length order) in
            let base : P n = λ lt'. gone' n q (elim (cases_lt q (at current n)) [
              | inl a ↦ set_keeps lost n p n q inn inp (g.past n q a)
              | inr a ↦ past q a (let b = r.1 in omega arith)
            ]) in
            later outs order order' m q (length order) i noted.kept (let b = r.3 in omega arith) (subst P (sym r.0) base lt))
      ];
      listed = λ m inm full. elim (eqb_tells m n) [
        | inl e ↦ (let P : ℕ → Type 0 = λ z. at current' z ≡ moves_at outs z → Among order' z in
            let base : P n = λ f. noted.has (sym here ∙ f) in subst P (sym e.1) base full)
        | inr e ↦ (let s = at_in order m (g.listed m inm (sym (others m e.1) ∙ full)) in in_at order' s.0 m (noted.kept s.0 m s.1))
      ];
      once = noted.once;
      told = λ m x l le inx full. (let o = set_false lost n p m.node m.place inn inp l in
          let old : at current x ≡ moves_at outs x → (j : ℕ) × (slice_get order' j ≡ Some x) × Rest k rest j m = λ full'. (
          let t = g.told m x o.1 le inx full' in (
            t.0,
            noted.kept t.0 x t.1,
            (elim t.2 [
              | inl a ↦ inl a
              | inr a ↦ elim a.1 [
                | inl e ↦ absurd (o.0 (sym (ap (λ (z : Move). z.node) e), sym (ap (λ (z : Move). z.place) e)))
                | inr b ↦ inr (a.0, b)
              ]
            ]),
          )) in
          elim (eqb_tells x n) [
            | inl e ↦ (let nf : next ≡ moves_at outs n = sym here ∙ subst (λ (z : ℕ). at current' z ≡ moves_at outs z) e.1 full in
                let s = at_in order' n (noted.has nf) in
                let s1 : slice_get order' s.0 ≡ Some x = subst (λ (z : ℕ). slice_get order' s.0 ≡ Some z) (sym e.1) s.1 in
                elim (noted.only s.0 x s1) [
                  | inl q ↦ old (g.removed s.0 x q).1
                  | inr q ↦ (s.0, s1, inl (let b = q.3 in omega arith))
                ])
            | inr e ↦ old (sym (others x e.1) ∙ full)
          ]);
    }

-- the next node of the order begins to tell its news
pub starts : (outs : List (List (List ℕ))) (intos : List (List Move)) (lost : List (List Bool)) (current order : List ℕ) (k doing : ℕ) → IsInto outs intos → slice_get order k ≡ Some doing
    → Going outs lost current order (From k) → Going outs lost current order (Rest k (get_or intos doing []))
starts outs intos lost current order k doing into is g = record {
  rows = g.rows;
  nodes = g.nodes;
  flags = g.flags;
  within = g.within;
  unlost = g.unlost;
  past = g.past;
  gone = g.gone;
  removed = g.removed;
  ordered = g.ordered;
  listed = g.listed;
  once = g.once;
  told = λ m x l le inx full. (let t = g.told m x l le inx full in (
    t.0,
    t.1,
    (elim (cases_lt k t.0) [
      | inl a ↦ inl a
      | inr a ↦ (let e : t.0 ≡ k = (let b = t.2 in omega arith) in
          let t1 : slice_get order k ≡ Some x = subst (λ (z : ℕ). slice_get order z ≡ Some x) e t.1 in
          let same : doing ≡ x = cc (is, t1) in
          inr (e, subst (λ (z : ℕ). Among (get_or intos z []) m) (sym same) (into.to m x le)))
    ]),
  ));
}

-- the next node of the order has told its news
pub tells : (outs : List (List (List ℕ))) (lost : List (List Bool)) (current order : List ℕ) (k : ℕ) → Going outs lost current order (Rest k []) → Going outs lost current order (From (k + 1))
tells outs lost current order k g = record {
  rows = g.rows;
  nodes = g.nodes;
  flags = g.flags;
  within = g.within;
  unlost = g.unlost;
  past = g.past;
  gone = g.gone;
  removed = g.removed;
  ordered = g.ordered;
  listed = g.listed;
  once = g.once;
  told = λ m x l le inx full. (let t = g.told m x l le inx full in (t.0, t.1, (elim t.2 [ inl a ↦ (let b : k < t.0 = a in omega arith) | inr a ↦ absurd a.1 ])));
}

leads_within : (outs : List (List (List ℕ))) (n p r : ℕ) → Leads outs n p r → p < moves_at outs n
leads_within outs n p r h = elim (cases_lt p (moves_at outs n)) [ inl a ↦ a | inr a ↦ (let e = get_or_past (get_or outs n []) p [] a in let bad : Among [] r = rw e at h in absurd bad) ]

pub into_within : (outs : List (List (List ℕ))) (intos : List (List Move)) → IsInto outs intos → (m : Move) (r : ℕ) → Leads outs m.node m.place r → r < length outs
into_within outs intos into m r h =
    elim (cases_lt r (length outs)) [
      | inl a ↦ a
      | inr a ↦
          (let e = get_or_past intos r [] (let b = into.size in omega arith) in let i = into.to m r h in let bad : Among [] m = rw e at i in absurd bad)
    ]

-- all news are told
pub finish : (outs : List (List (List ℕ))) (intos : List (List Move)) (lost : List (List Bool)) (current order : List ℕ) (k : ℕ) → IsInto outs intos → length order ≤ k
    → Going outs lost current order (From k) → IsRemoval outs current order
finish outs intos lost current order k into done g = record {
  size = g.nodes;
  within = g.within;
  stays = λ n r lt le. (let inr' = into_within outs intos into (record { node = n; place = at current n }) r le in elim (cases_lt (at current r) (moves_at outs r)) [
    | inl a ↦ a
    | inr a ↦ (let w = g.within r in let t = g.told (record { node = n; place = at current n }) r (g.unlost n lt) le inr' (omega arith) in
        let s = at_short order t.0 r t.1 in let b : k ≤ t.0 = t.2 in let bad : ⊥ = omega arith in absurd bad)
  ]);
  passed = λ n p lt. g.gone n p (g.past n p lt);
  gone = g.removed;
  ordered = g.ordered;
  listed = g.listed;
  once = g.once;
}

noted_same : (outs : List (List (List ℕ))) (lost : List (List Bool)) (current order : List ℕ) (Left : ℕ → Move → Type 0) (n next : ℕ) → n < length outs
    → (next ≡ moves_at outs n → at current n ≡ moves_at outs n) → Going outs lost current order Left
    → Noted (moves_at outs n) n next (at current n) order order
noted_same outs lost current order Left n next inn full g = record { kept = λ j x h. h; only = λ j x h. inl h; has = λ e. g.listed n inn (full e); once = g.once; longer = omega arith }

-- the flag of a move at which its node doesn't stand
pub lose_flag : (outs : List (List (List ℕ))) (lost : List (List Bool)) (current order : List ℕ) (k : ℕ) (m : Move) (doing : ℕ) (rest : List Move) (row' : List Bool)
    → m.node < length lost → m.place < length (get_or lost m.node []) → row' ≡ set (get_or lost m.node []) m.place true → at current m.node ≢ m.place
    → slice_get order k ≡ Some doing → Leads outs m.node m.place doing
    → Going outs lost current order (Rest k (m ∷ rest)) → Going outs (set lost m.node row') current order (Rest k rest)
lose_flag outs lost current order k m doing rest row' inn inp r other is leads g =
    let n = m.node in let p = m.place in
    let inn' : m.node < length outs = (let a = g.rows in omega arith) in
    let k' = moved outs lost current current order order k m.node m.place (at current m.node) doing rest inn inp is leads refl refl (λ x ne. refl) (g.within m.node) (omega arith)
    (λ lt. elim (set_reads lost m.node m.place m.node (at current m.node) inn) [ inl q ↦ absurd (other q.1) | inr q ↦ q ∙ g.unlost m.node lt ])
    (λ q a b. let bad : ⊥ = omega arith in absurd bad)
    (noted_same outs lost current order (Rest k (m ∷ rest)) m.node (at current m.node) inn' (λ e. e) g) g in
    subst (λ (z : List Bool). Going outs (set lost m.node z) current order (Rest k rest)) (sym r) k'

next_unlost : (lost : List (List Bool)) (n p next : ℕ) (row' : List Bool) → n < length lost → row' ≡ set (get_or lost n []) p true → get_or row' next false ≡ true
    → is_lost (set lost n (set (get_or lost n []) p true)) n next ≡ true
next_unlost lost n p next row' inn r h =
    ap (λ (z : List Bool). get_or z next false) (get_or-set_same lost n (set (get_or lost n []) p true) [] inn) ∙ ap (λ (z : List Bool). get_or z next false) (sym r) ∙ h

next_unlost' : (lost : List (List Bool)) (n p next : ℕ) (row' : List Bool) → n < length lost → row' ≡ set (get_or lost n []) p true → get_or row' next false ≡ false
    → is_lost (set lost n (set (get_or lost n []) p true)) n next ≡ false
next_unlost' lost n p next row' inn r h =
    ap (λ (z : List Bool). get_or z next false) (get_or-set_same lost n (set (get_or lost n []) p true) [] inn) ∙ ap (λ (z : List Bool). get_or z next false) (sym r) ∙ h

row_length : (lost : List (List Bool)) (n p : ℕ) (row' : List Bool) → row' ≡ set (get_or lost n []) p true → length row' ≡ length (get_or lost n [])
row_length lost n p row' r = ap (λ (z : List Bool). length z) r ∙ length-set (get_or lost n []) p true

-- the flag of the move at which its node stands; the node goes on
pub lose_on : (outs : List (List (List ℕ))) (lost : List (List Bool)) (current order : List ℕ) (k : ℕ) (m : Move) (doing next : ℕ) (rest : List Move) (row' : List Bool)
    → m.node < length lost → m.place < length (get_or lost m.node []) → length current ≡ length lost → row' ≡ set (get_or lost m.node []) m.place true → at current m.node ≡ m.place
    → IsNextMove row' m.place next → next ≢ length row'
    → slice_get order k ≡ Some doing → Leads outs m.node m.place doing
    → Going outs lost current order (Rest k (m ∷ rest)) → Going outs (set lost m.node row') (set current m.node next) order (Rest k rest)
lose_on outs lost current order k m doing next rest row' inn inp size r here nx part is leads g =
    let inn' : m.node < length outs = (let a = g.rows in omega arith) in
    let inc : m.node < length current = omega arith in
    let l : length row' ≡ moves_at outs m.node = row_length lost m.node m.place row' r ∙ g.flags m.node in
    let k' = moved outs lost current (set current m.node next) order order k m.node m.place next doing rest inn inp is leads (length-set current m.node next)
    (get_or-set_same current m.node next 0 inc) (λ x ne. get_or-set_other current m.node x next 0 ne)
    (let a = nx.most in omega arith) (let a = nx.on in omega arith)
    (λ lt. next_unlost' lost m.node m.place next row' inn r (nx.unlost (omega arith)))
    (λ q a b. next_unlost lost m.node m.place q row' inn r (nx.past q (omega arith) b))
    (noted_same outs lost current order (Rest k (m ∷ rest)) m.node next inn' (λ e. absurd (part (omega arith))) g) g in
    subst (λ (z : List Bool). Going outs (set lost m.node z) (set current m.node next) order (Rest k rest)) (sym r) k'

-- the node at whose last move a flag is set is removed
pub lose_last : (outs : List (List (List ℕ))) (lost : List (List Bool)) (current order order' : List ℕ) (k : ℕ) (m : Move) (doing next : ℕ) (rest : List Move) (row' : List Bool)
    → m.node < length lost → m.place < length (get_or lost m.node []) → length current ≡ length lost → row' ≡ set (get_or lost m.node []) m.place true → at current m.node ≡ m.place
    → IsNextMove row' m.place next → next ≡ length row' → order' ≡ order ++ (m.node ∷ [])
    → slice_get order k ≡ Some doing → Leads outs m.node m.place doing
    → Going outs lost current order (Rest k (m ∷ rest)) → Going outs (set lost m.node row') (set current m.node next) order' (Rest k rest)
lose_last outs lost current order order' k m doing next rest row' inn inp size r here nx all o is leads g =
    let inn' : m.node < length outs = (let a = g.rows in omega arith) in
    let inc : m.node < length current = omega arith in
    let l : length row' ≡ moves_at outs m.node = row_length lost m.node m.place row' r ∙ g.flags m.node in
    let inm : m.place < moves_at outs m.node = (let a = g.flags m.node in omega arith) in
    let new : Among order m.node → ⊥ = λ h. (let s = at_in order m.node h in let q = (g.removed s.0 m.node s.1).1 in let bad : ⊥ = omega arith in bad) in
    let noted : Noted (moves_at outs m.node) m.node next (at current m.node) order (order ++ (m.node ∷ [])) = record {
      kept = λ j x h. push_at order m.node j x h;
      only = λ j x h. (elim (push_is order m.node j x h) [ inl q ↦ inl q | inr q ↦ inr (sym q.1, all ∙ l, (λ e. let bad : ⊥ = omega arith in bad), q.0) ]);
      has = λ e. in_at (order ++ (m.node ∷ [])) (length order) m.node (push_new order m.node);
      once = push_once order m.node g.once new;
      longer = (let a = length-append order (m.node ∷ []) in omega arith);
    } in
    let k' = moved outs lost current (set current m.node next) order (order ++ (m.node ∷ [])) k m.node m.place next doing rest inn inp is leads (length-set current m.node next)
    (get_or-set_same current m.node next 0 inc) (λ x ne. get_or-set_other current m.node x next 0 ne)
    (let a = nx.most in omega arith) (let a = nx.on in omega arith)
    (λ lt. next_unlost' lost m.node m.place next row' inn r (nx.unlost (omega arith)))
    (λ q a b. next_unlost lost m.node m.place q row' inn r (nx.past q (omega arith) b))
    noted g in
    let k'' = subst (λ (z : List Bool). Going outs (set lost m.node z) (set current m.node next) (order ++ (m.node ∷ [])) (Rest k rest)) (sym r) k' in
    subst (λ (z : List ℕ). Going outs (set lost m.node row') (set current m.node next) z (Rest k rest)) (sym o) k''

pub pushed_kept : (order order' : List ℕ) (n : ℕ) → order' ≡ order ++ (n ∷ []) → (j x : ℕ) → slice_get order j ≡ Some x → slice_get order' j ≡ Some x
pushed_kept order order' n e j x h = rw e (push_at order n j x h)

-- a row that is written
pub row_at : {A : Type 0} (xs : List (List A)) (n : ℕ) (row r : List A) → n < length xs → row ≡ r → r ≡ get_or xs n r → row ≡ get_or xs n []
row_at xs n row r h a b = a ∙ b ∙ get_or_default xs n r [] h

pub raised : (lost : List (List Bool)) (n p : ℕ) (row' r : List Bool) → n < length lost → row' ≡ set r p true → r ≡ get_or lost n r → row' ≡ set (get_or lost n []) p true
raised lost n p row' r h a b = a ∙ ap (λ (z : List Bool). set z p true) (b ∙ get_or_default lost n r [] h)

pub index_at : (xs : List ℕ) (n v : ℕ) → n < length xs → v ≡ get_or xs n v → get_or xs n 0 ≡ v
index_at xs n v h e = sym (e ∙ get_or_default xs n v 0 h)

pub reads_self : (xs : List ℕ) (i x : ℕ) → i < length xs → x ≡ get_or xs i x → slice_get xs i ≡ Some x
reads_self xs i x h e = reads_at xs i x x h (sym e)

leads_node : (outs : List (List (List ℕ))) (n p r : ℕ) → Leads outs n p r → n < length outs
leads_node outs n p r h =
    elim (cases_lt n (length outs)) [
      | inl a ↦ a
      | inr a ↦
          (let w = leads_within outs n p r h in let e = get_or_past outs n [] a in let z : length (get_or outs n []) ≡ 0 = ap
          (λ (z : List (List ℕ)). length z) e in let bad : ⊥ = omega arith in absurd bad)
    ]

-- what a reader of the moves that lead to a node knows of the one it read
pub read_move : (outs : List (List (List ℕ))) (intos : List (List Move)) (lost : List (List Bool)) (current order : List ℕ) (Left : ℕ → Move → Type 0) (node nth : ℕ) (m : Move) → IsInto outs intos
    → Some m ≡ slice_get (get_or intos node []) nth
    → Going outs lost current order Left → Leads outs m.node m.place node × (m.node < length lost) × (m.place < length (get_or lost m.node [])) × (nth < length (get_or intos node []))
read_move outs intos lost current order Left node nth m into e g =
    let l = into.from m node (in_at (get_or intos node []) nth m (sym e)) in
    let a = leads_node outs m.node m.place node l in
    let b = leads_within outs m.node m.place node l in
    (l, (let r = g.rows in omega arith), (let f = g.flags m.node in omega arith), at_short (get_or intos node []) nth m (sym e))

pub row_on : (row : List Move) (nth : ℕ) (m : Move) → Some m ≡ slice_get row nth → drop nth row ≡ m ∷ drop (nth + 1) row
row_on row nth m e = drop_here row nth m (sym e)

pub got_none : (xs : List Move) (i : ℕ) (r : Option Move) → r ≡ slice_get xs i → ((m : Move) → r ≡ Some m → ⊥) → length xs ≤ i
got_none [] i r e h = omega arith
got_none (x ∷ xs) zero r e h = absurd (h x e)
got_none (x ∷ xs) (suc i) r e h = let k = got_none xs i r e h in omega arith

pub row_done : (outs : List (List (List ℕ))) (lost : List (List Bool)) (current order : List ℕ) (k i : ℕ) (row : List Move) → length row ≤ i → Going outs lost current order (Rest k (drop i row))
    → Going outs lost current order (From (k + 1))
row_done outs lost current order k i row h g = tells outs lost current order k (subst (λ (z : List Move). Going outs lost current order (Rest k z)) (drop_all i row h) g)

abbrev pub upto : ℕ → List (List (List ℕ)) → List ℕ
upto n [] = []
upto n (row ∷ outs) = n ∷ upto (n + 1) outs

pub upto_length : (n : ℕ) (outs : List (List (List ℕ))) → length (upto n outs) ≡ length outs
upto_length n [] = refl
upto_length n (row ∷ outs) = let k = upto_length (n + 1) outs in omega arith

pub upto_has : (n : ℕ) (outs : List (List (List ℕ))) (x : ℕ) → n ≤ x → x < n + length outs → Among (upto n outs) x
upto_has n [] x a b = let bad : ⊥ = omega arith in absurd bad
upto_has n (row ∷ outs) x a b = elim (eqb_tells n x) [ inl e ↦ inl e.1 | inr e ↦ inr (upto_has (n + 1) outs x (let q = e.1 in omega arith) (omega arith)) ]

pub order_few : (outs : List (List (List ℕ))) (lost : List (List Bool)) (current order : List ℕ) (Left : ℕ → Move → Type 0) → Going outs lost current order Left → length order ≤ length outs
order_few outs lost current order Left g =
    let n = no_more order (upto 0 outs) g.once (λ x h. let s = at_in order x h in upto_has 0 outs x (omega arith) (let r = (g.removed s.0 x s.1).0 in omega arith)) in
    let l = upto_length 0 outs in omega arith

-- the start of the removal
moveless_is : (n : ℕ) (outs : List (List (List ℕ))) (i x : ℕ) → slice_get (moveless n outs) i ≡ Some x → (k : ℕ) × (x ≡ n + k) × (k < length outs) × (length (get_or outs k []) ≡ 0)
moveless_is n [] i x h = absurd cc
moveless_is n (row ∷ outs) i x h =
    let on : (j : ℕ) → slice_get (moveless (n + 1) outs) j ≡ Some x → (k : ℕ) × (x ≡ n + k) × (k < length (row ∷ outs)) × (length (get_or (row ∷ outs) k []) ≡ 0) =
    λ j h'. let r = moveless_is (n + 1) outs j x h' in (suc r.0, (let a = r.1 in omega arith), (let a = r.2 in omega arith), r.3) in
    elim (eqb_tells (length row) 0) [
      | inl e ↦ (let h' : slice_get (n ∷ moveless (n + 1) outs) i ≡ Some x = rw e.0 at h in first i h' e.1 on)
      | inr e ↦ (let h' : slice_get (moveless (n + 1) outs) i ≡ Some x = rw e.0 at h in on i h')
    ]
  where
    first : (j : ℕ) → slice_get (n ∷ moveless (n + 1) outs) j ≡ Some x → length row ≡ 0
        → ((j : ℕ) → slice_get (moveless (n + 1) outs) j ≡ Some x → (k : ℕ) × (x ≡ n + k) × (k < length (row ∷ outs)) × (length (get_or (row ∷ outs) k []) ≡ 0))
        → (k : ℕ) × (x ≡ n + k) × (k < length (row ∷ outs)) × (length (get_or (row ∷ outs) k []) ≡ 0)
    first zero g z on = (zero, (let e : n ≡ x = cc in omega arith), omega arith, z)
    first (suc j) g z on = on j g

moveless_has : (n : ℕ) (outs : List (List (List ℕ))) (k : ℕ) → k < length outs → length (get_or outs k []) ≡ 0 → Among (moveless n outs) (n + k)
moveless_has n [] k h e = let bad : ⊥ = omega arith in absurd bad
moveless_has n (row ∷ outs) zero h e = let y : n + 0 ≡ n = omega arith in let b : eqb (length row) 0 ≡ true = rw e refl in rw (y, b) (inl refl)
moveless_has n (row ∷ outs) (suc k) h e =
    let y : n + suc k ≡ (n + 1) + k = omega arith in
    let r = moveless_has (n + 1) outs k (omega arith) e in
    rw y (elim (eqb (length row) 0) as (λ b. Among (if b then n ∷ moveless (n + 1) outs else moveless (n + 1) outs) ((n + 1) + k)) [ true ↦ inr r | false ↦ r ])

moveless_once : (n : ℕ) (outs : List (List (List ℕ))) → Once (moveless n outs)
moveless_once n [] i j x a b = absurd cc
moveless_once n (row ∷ outs) i j x a b = elim (eqb_tells (length row) 0) [
  | inl e ↦ (let a' : slice_get (n ∷ moveless (n + 1) outs) i ≡ Some x = rw e.0 at a in let b' : slice_get (n ∷ moveless (n + 1) outs) j ≡ Some x = rw e.0 at b in both
      (λ i j a b. moveless_once (n + 1) outs i j x a b) i j a' b')
  | inr e ↦ (let a' : slice_get (moveless (n + 1) outs) i ≡ Some x = rw e.0 at a in let b' : slice_get (moveless (n + 1) outs) j ≡ Some x = rw e.0 at b in moveless_once (n + 1) outs i j x a' b')
]
  where
    both : ((i j : ℕ) → slice_get (moveless (n + 1) outs) i ≡ Some x → slice_get (moveless (n + 1) outs) j ≡ Some x → i ≡ j) → (i j : ℕ) → slice_get (n ∷ moveless (n + 1) outs) i ≡ Some x
        → slice_get (n ∷ moveless (n + 1) outs) j ≡ Some x → i ≡ j
    both on zero zero a b = refl
    both on zero (suc j) a b = let r = moveless_is (n + 1) outs j x b in let e : n ≡ x = cc in let bad : ⊥ = (let q = r.1 in omega arith) in absurd bad
    both on (suc i) zero a b = let r = moveless_is (n + 1) outs i x a in let e : n ≡ x = cc in let bad : ⊥ = (let q = r.1 in omega arith) in absurd bad
    both on (suc i) (suc j) a b = let e = on i j a b in omega arith

zeros : (count n : ℕ) → at (replicate count 0) n ≡ 0
zeros count n =
    elim (cases_lt n count) [
      | inl a ↦ get_or-replicate count n 0 0 a
      | inr a ↦ get_or_past (replicate count 0) n 0
          (let l : length (replicate {A = ℕ} count 0) ≡ count = length-replicate count 0 in omega arith)
    ]

unflagged_at : (outs : List (List (List ℕ))) (n : ℕ) → get_or (lowered_flags outs) n [] ≡ replicate (length (get_or outs n [])) false
unflagged_at [] n = refl
unflagged_at (row ∷ outs) zero = refl
unflagged_at (row ∷ outs) (suc n) = unflagged_at outs n

unflagged_length : (outs : List (List (List ℕ))) → length (lowered_flags outs) ≡ length outs
unflagged_length [] = refl
unflagged_length (row ∷ outs) = let k = unflagged_length outs in omega arith

unflagged_no : (outs : List (List (List ℕ))) (n p : ℕ) → is_lost (lowered_flags outs) n p ≡ false
unflagged_no outs n p = ap (λ (z : List Bool). get_or z p false) (unflagged_at outs n) ∙ (elim (cases_lt p (length (get_or outs n []))) [
  | inl a ↦ get_or-replicate (length (get_or outs n [])) p false false a
  | inr a ↦ get_or_past (replicate (length (get_or outs n [])) false) p false (let l = length-replicate (length (get_or outs n [])) false in omega arith)
])

pub begin : (outs : List (List (List ℕ))) → Going outs (lowered_flags outs) (replicate (length outs) 0) (moveless 0 outs) (From 0)
begin outs = record {
  rows = unflagged_length outs;
  nodes = length-replicate (length outs) 0;
  flags = λ n. ap (λ (z : List Bool). length z) (unflagged_at outs n) ∙ length-replicate (length (get_or outs n [])) false;
  within = λ n. (let z = zeros (length outs) n in omega arith);
  unlost = λ n h. unflagged_no outs n (at (replicate (length outs) 0) n);
  past = λ n p h. (let z = zeros (length outs) n in let bad : ⊥ = omega arith in absurd bad);
  gone = λ n p h. (let e = unflagged_no outs n p in absurd cc);
  removed = λ i n h. (let r = moveless_is 0 outs i n h in let e : n ≡ r.0 = (let q = r.1 in omega arith) in
      (let q = r.2 in omega arith, zeros (length outs) n ∙ sym (ap (λ (z : ℕ). moves_at outs z) e ∙ r.3)));
  ordered = λ i n p h lt. (let r = moveless_is 0 outs i n h in let e : n ≡ r.0 = (let q = r.1 in omega arith) in
      let z : moves_at outs n ≡ 0 = ap (λ (z : ℕ). moves_at outs z) e ∙ r.3 in let bad : ⊥ = omega arith in absurd bad);
  listed = λ n inn full. (let z = zeros (length outs) n in let y : 0 + n ≡ n = omega arith in
      subst (λ (w : ℕ). Among (moveless 0 outs) w) y (moveless_has 0 outs n inn (sym full ∙ z)));
  once = moveless_once 0 outs;
  told = λ m x l le inx full. (let z = zeros (length outs) x in let y : 0 + x ≡ x = omega arith in
      let s = at_in (moveless 0 outs) x (subst (λ (w : ℕ). Among (moveless 0 outs) w) y (moveless_has 0 outs x inx (sym full ∙ z))) in
      (s.0, s.1, omega arith));
}

pub begins : (outs : List (List (List ℕ))) (lost : List (List Bool)) (current order : List ℕ) → lost ≡ lowered_flags outs → current ≡ replicate (length outs) 0 → order ≡ moveless 0 outs
    → Going outs lost current order (From 0)
begins outs lost current order a b d = rw (a, b, d) (begin outs)

-- what the nodes that were told have cost
pub cost_on : (f : ℕ → ℕ) (order order' : List ℕ) (k : ℕ) → ((j x : ℕ) → slice_get order j ≡ Some x → slice_get order' j ≡ Some x) → k < length order
    → sum_by f (take (k + 1) order') ≡ sum_by f (take k order) + f (get_or order k 0)
cost_on f order order' k kept h =
    let p = at_within order k h in
    let e : get_or order k 0 ≡ p.0 = got order k p.0 p.1 in
    let t : take (k + 1) order' ≡ take k order ++ (p.0 ∷ []) = take_kept order order' (k + 1) kept (omega arith) ∙ take_on order k p.0 p.1 in
    let z : f (get_or order k 0) ≡ f p.0 = ap f e in
    let y : sum_by f (take (k + 1) order') ≡ sum_by f (take k order) + sum_by f (p.0 ∷ []) = ap (sum_by f) t ∙ sum_by-append f (take k order) (p.0 ∷ []) in
    omega arith
  where
    got : (xs : List ℕ) (i x : ℕ) → slice_get xs i ≡ Some x → get_or xs i 0 ≡ x
    got [] i x g = absurd cc
    got (y ∷ ys) zero x g = cc
    got (y ∷ ys) (suc i) x g = got ys i x g

pub same_row : (lost : List (List Bool)) (n : ℕ) (row' r f : List Bool) → n < length lost → f ≡ r → r ≡ get_or (set lost n row') n r → f ≡ row'
same_row lost n row' r f h a b = a ∙ b ∙ get_or-set_same lost n row' r h

-- the news of removed nodes cost no more than all
sum_cut : (f : ℕ → ℕ) (xs : List ℕ) (x : ℕ) → Among xs x → (ys : List ℕ) × (sum_by f xs ≡ f x + sum_by f ys) × ((z : ℕ) → Among xs z → z ≢ x → Among ys z)
sum_cut f [] x h = absurd h
sum_cut f (y ∷ xs) x h = let a = sum_by-append f (y ∷ []) xs in elim (eqb_tells y x) [
  | inl e ↦ (let q : f y ≡ f x = ap f e.1 in (xs, omega arith, λ z m ne. elim m [ inl k ↦ absurd (ne (sym k ∙ e.1)) | inr k ↦ k ]))
  | inr e ↦ elim h [
    | inl k ↦ absurd (e.1 k)
    | inr k ↦ (let r = sum_cut f xs x k in let b = sum_by-append f (y ∷ []) r.0 in (y ∷ r.0, (let c = r.1 in omega arith), λ z m ne. elim m [ inl q ↦ inl q | inr q ↦ inr (r.2 z q ne) ]))
  ]
]

pub sum_less : (f : ℕ → ℕ) (xs ys : List ℕ) → Once xs → ((x : ℕ) → Among xs x → Among ys x) → sum_by f xs ≤ sum_by f ys
sum_less f [] ys once all = omega arith
sum_less f (x ∷ xs) ys once all =
    let c = sum_cut f ys x (all x (inl refl)) in
    let a = sum_by-append f (x ∷ []) xs in
    let r = sum_less f xs c.0 (λ i j z p q. let e = once (suc i) (suc j) z p q in omega arith)
    (λ z m. c.2 z (all z (inr m)) (λ e. let p = at_in xs z m in let b = once zero (suc p.0) x refl (p.1 ∙ ap Some e) in let bad : ⊥ = omega arith in bad)) in
    let d = c.1 in omega arith
