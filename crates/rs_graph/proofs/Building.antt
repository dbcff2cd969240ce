-- A graph that is built move by move.
use Rattle.std.proofs.Common.{◌≡◌, ◌≢◌, ◌⊎◌, inl, inr, ℕ, ◌<◌, Bool, true, false, List, [], ◌∷◌, ◌++◌, length, get_or, set, refl, sym, ap, ◌∙◌, subst, arith, ◌+◌, suc, zero, Some, slice_get}
use Rattle.std.proofs.Common.{length-append, take, map}
use Rattle.std.proofs.lemmas.Bool.Decides.{eqb_tells}
use Rattle.std.proofs.lemmas.List.{get_or-set_same, get_or-set_other, length-set}
use Rattle.rs_graph.specs.Built.{IsBuilt}
use Rattle.rs_graph.specs.Filling.{IsFilled}
use Rattle.rs_graph.specs.Graphs.{Graph_data, with_end, with_move, with_result}
use Rattle.rs_graph.specs.Lists.{Among, ArePlacesOf}
use Rattle.std.specs.List.{sum_by}
use Rattle.std.proofs.lemmas.List.Sums.{sum_by-set, sum_by_push}
use Rattle.rs_graph.specs.Removal.{IsInto, Leads, edges_in}
use Rattle.rs_graph.specs.Graphs.{moves_of}
use Rattle.rs_graph.specs.declared.graph.Move.{Move}
use Rattle.rs_graph.proofs.Growth.{take_on, at_short, at_within, has_last, has_left, has_push}
use Rattle.rs_graph.proofs.Buckets.{got}
use Rattle.rs_graph.proofs.Kept.{Pictures}

-- an empty move more changes no result
push_empty : (row : List (List ℕ)) (b : ℕ) → get_or (row ++ ([] ∷ [])) b [] ≡ get_or row b []
push_empty [] zero = refl
push_empty [] (suc b) = refl
push_empty (r ∷ row) zero = refl
push_empty (r ∷ row) (suc b) = push_empty row b

move_leads : (outs : List (List (List ℕ))) (n a b : ℕ) → n < length outs → get_or (get_or (with_move outs n) a []) b [] ≡ get_or (get_or outs a []) b []
move_leads outs n a b inn = elim (eqb_tells a n) [
  | inl e ↦ (let P : ℕ → Type 0 = λ z. get_or (get_or (with_move outs n) z []) b [] ≡ get_or (get_or outs z []) b [] in
      subst P (sym e.1) (ap (λ (y : List (List ℕ)). get_or y b []) (get_or-set_same outs n (get_or outs n [] ++ ([] ∷ [])) [] inn) ∙ push_empty (get_or outs n []) b))
  | inr e ↦ ap (λ (y : List (List ℕ)). get_or y b []) (get_or-set_other outs n a (get_or outs n [] ++ ([] ∷ [])) [] e.1)
]

move_count : (outs : List (List (List ℕ))) (n : ℕ) → n < length outs → edges_in (with_move outs n) ≡ edges_in outs
move_count outs n inn =
    let s = sum_by-set (λ (moves : List (List ℕ)). sum_by (λ (results : List ℕ). length results) moves) outs n (get_or outs n [] ++ ([] ∷ [])) [] inn in
    let p = sum_by_push (λ (results : List ℕ). length results) (get_or outs n []) [] in
    omega arith

edge_count : (outs : List (List (List ℕ))) (n p r : ℕ) → n < length outs → p < length (get_or outs n []) → edges_in (with_result outs n p r) ≡ edges_in outs + 1
edge_count outs n p r inn inp =
    let s = sum_by-set (λ (moves : List (List ℕ)). sum_by (λ (results : List ℕ). length results) moves) outs n (set (get_or outs n []) p (get_or (get_or outs n []) p [] ++ (r ∷ []))) [] inn in
    let q = sum_by-set (λ (results : List ℕ). length results) (get_or outs n []) p (get_or (get_or outs n []) p [] ++ (r ∷ [])) [] inp in
    let l = length-append (get_or (get_or outs n []) p []) (r ∷ []) in
    omega arith

end_count : (intos : List (List Move)) (r : ℕ) (m : Move) → r < length intos → sum_by (λ (row : List Move). length row) (with_end intos r m) ≡ sum_by (λ (row : List Move). length row) intos + 1
end_count intos r m h =
    let s = sum_by-set (λ (row : List Move). length row) intos r (get_or intos r [] ++ (m ∷ [])) [] h in
    let l = length-append (get_or intos r []) (m ∷ []) in
    omega arith

pub into_move : (outs : List (List (List ℕ))) (intos : List (List Move)) (n : ℕ) → n < length outs → IsInto outs intos → IsInto (with_move outs n) intos
into_move outs intos n inn i = record {
  size = i.size ∙ sym (length-set outs n (get_or outs n [] ++ ([] ∷ [])));
  to = λ m r h. i.to m r (subst (λ (z : List ℕ). Among z r) (move_leads outs n m.node m.place inn) h);
  from = λ m r h. subst (λ (z : List ℕ). Among z r) (sym (move_leads outs n m.node m.place inn)) (i.from m r h);
  count = i.count ∙ sym (move_count outs n inn);
}

-- how the results of a move read with one more
result_leads : (outs : List (List (List ℕ))) (n p r a b : ℕ) → n < length outs → p < length (get_or outs n [])
    → ((a ≡ n) × (b ≡ p) × (get_or (get_or (with_result outs n p r) a []) b [] ≡ get_or (get_or outs n []) p [] ++ (r ∷ [])))
    ⊎ (((a ≡ n) × (b ≡ p) → ⊥) × (get_or (get_or (with_result outs n p r) a []) b [] ≡ get_or (get_or outs a []) b []))
result_leads outs n p r a b inn inp =
    let row : List (List ℕ) = set (get_or outs n []) p (get_or (get_or outs n []) p [] ++ (r ∷ [])) in
    let here : get_or (with_result outs n p r) n [] ≡ set (get_or outs n []) p (get_or (get_or outs n []) p [] ++ (r ∷ []))
    = get_or-set_same outs n (set (get_or outs n []) p (get_or (get_or outs n []) p [] ++ (r ∷ []))) [] inn in
    elim (eqb_tells a n) [
      | inl e ↦ elim (eqb_tells b p) [
        | inl d ↦ inl (
          e.1,
          d.1,
          (let P : ℕ → ℕ → Type 0 = λ x y. get_or (get_or (with_result outs n p r) x []) y [] ≡ get_or (get_or outs n []) p [] ++ (r ∷ []) in
              let base : P n p = ap (λ (y : List (List ℕ)). get_or y p []) here ∙ get_or-set_same (get_or outs n []) p (get_or (get_or outs n []) p [] ++ (r ∷ [])) [] inp in
              let q : P n b = subst (λ (y : ℕ). P n y) (sym d.1) base in subst (λ (x : ℕ). P x b) (sym e.1) q),
        )
        | inr d ↦ inr (
          (λ q. d.1 q.1),
          (let P : ℕ → Type 0 = λ x. get_or (get_or (with_result outs n p r) x []) b [] ≡ get_or (get_or outs x []) b [] in
              subst P (sym e.1) (ap (λ (y : List (List ℕ)). get_or y b []) here ∙ get_or-set_other (get_or outs n []) p b (get_or (get_or outs n []) p [] ++ (r ∷ [])) [] d.1)),
        )
      ]
      | inr e ↦ inr ((λ q. e.1 q.0), ap (λ (y : List (List ℕ)). get_or y b []) (get_or-set_other outs n a (set (get_or outs n []) p (get_or (get_or outs n []) p [] ++ (r ∷ []))) [] e.1))
    ]

end_reads : (intos : List (List Move)) (r x : ℕ) (m : Move) → r < length intos
    → ((x ≡ r) × (get_or (with_end intos r m) x [] ≡ get_or intos r [] ++ (m ∷ []))) ⊎ ((x ≢ r) × (get_or (with_end intos r m) x [] ≡ get_or intos x []))
end_reads intos r x m inr' = elim (eqb_tells x r) [
  | inl e ↦ inl (
    e.1,
    (let P : ℕ → Type 0 = λ z. get_or (with_end intos r m) z [] ≡ get_or intos r [] ++ (m ∷ []) in subst P (sym e.1)
        (get_or-set_same intos r (get_or intos r [] ++ (m ∷ [])) [] inr')),
  )
  | inr e ↦ inr (e.1, get_or-set_other intos r x (get_or intos r [] ++ (m ∷ [])) [] e.1)
]

pub into_edge : (outs : List (List (List ℕ))) (intos : List (List Move)) (n p r : ℕ) → n < length outs → p < length (get_or outs n []) → r < length outs → IsInto outs intos
    → IsInto (with_result outs n p r) (with_end intos r (record { node = n; place = p }))
into_edge outs intos n p r inn inp inr' i =
    let m0 : Move = record { node = n; place = p } in
    let inr2 : r < length intos = (let a = i.size in omega arith) in
    let grows : (x : ℕ) (m : Move) → Among (get_or intos x []) m → Among (get_or (with_end intos r (record { node = n; place = p })) x []) m
    = λ x m h. elim (end_reads intos r x (record { node = n; place = p }) inr2) [
      | inl e ↦ (let h' : Among (get_or intos r []) m = subst (λ (z : ℕ). Among (get_or intos z []) m) e.0 h in subst (λ (z : List Move). Among z m) (sym e.1)
          (has_left (get_or intos r []) ((record { node = n; place = p }) ∷ []) m h'))
      | inr e ↦ subst (λ (z : List Move). Among z m) (sym e.1) h
    ] in
    record {
      size = length-set intos r (get_or intos r [] ++ ((record { node = n; place = p }) ∷ [])) ∙ i.size
          ∙ sym (length-set outs n (set (get_or outs n []) p (get_or (get_or outs n []) p [] ++ (r ∷ []))));
      to = λ m x h. elim (result_leads outs n p r m.node m.place inn inp) [
        | inl e ↦ (let h' : Among (get_or (get_or outs n []) p [] ++ (r ∷ [])) x = subst (λ (z : List ℕ). Among z x) e.2 h in
            let same : (record { node = n; place = p }) ≡ m = ap (λ (y : ℕ). record { node = y; place = p }) (sym e.0) ∙ ap (λ (y : ℕ). record { node = m.node; place = y }) (sym e.1) in
            elim (has_push (get_or (get_or outs n []) p []) r x h') [
              | inl k ↦ grows x m (i.to m x (subst (λ (z : Move). Among (get_or (get_or outs z.node []) z.place []) x) same k))
              | inr k ↦ (let P : ℕ → Type 0 = λ z. Among (get_or (with_end intos r (record { node = n; place = p })) z []) m in
                  let base : P r = (let last = has_last (get_or intos r []) (record { node = n; place = p }) in
                  let e2 = get_or-set_same intos r (get_or intos r [] ++ ((record { node = n; place = p }) ∷ [])) [] inr2 in
                  subst (λ (z : Move). Among (get_or (with_end intos r (record { node = n; place = p })) r []) z) same
                  (subst (λ (z : List Move). Among z (record { node = n; place = p })) (sym e2) last)) in
                  subst P k base)
            ])
        | inr e ↦ grows x m (i.to m x (subst (λ (z : List ℕ). Among z x) e.1 h))
      ];
      from = λ m x h.
          let old : Leads outs m.node m.place x → Leads (with_result outs n p r) m.node m.place x = λ k. (elim (result_leads outs n p r m.node m.place inn inp) [
            | inl e ↦ subst (λ (z : List ℕ). Among z x) (sym e.2)
                (has_left (get_or (get_or outs n []) p []) (r ∷ []) x (let k1 = subst (λ (y : ℕ). Leads outs y m.place x) e.0 k in subst (λ (y : ℕ). Leads outs n y x) e.1 k1))
            | inr e ↦ subst (λ (z : List ℕ). Among z x) (sym e.1) k
          ]) in
          (elim (end_reads intos r x (record { node = n; place = p }) inr2) [
            | inl e ↦ (let h' : Among (get_or intos r [] ++ ((record { node = n; place = p }) ∷ [])) m = subst (λ (z : List Move). Among z m) e.1 h in elim
                (has_push (get_or intos r []) (record { node = n; place = p }) m h') [
                  | inl k ↦ old (i.from m x (subst (λ (z : ℕ). Among (get_or intos z []) m) (sym e.0) k))
                  | inr k ↦ (let P : Move → Type 0 = λ z. Leads (with_result outs n p r) z.node z.place x in
                      let base : P (record { node = n; place = p }) = (elim (result_leads outs n p r n p inn inp) [
                        | inl f ↦ subst (λ (z : List ℕ). Among z x) (sym f.2)
                            (subst (λ (z : ℕ). Among (get_or (get_or outs n []) p [] ++ (r ∷ [])) z) (sym e.0) (has_last (get_or (get_or outs n []) p []) r))
                        | inr f ↦ absurd (f.0 (refl, refl))
                      ]) in subst P k base)
                ])
            | inr e ↦ old (i.from m x (subst (λ (z : List Move). Among z m) e.1 h))
          ]);
      count = (let a = end_count intos r (record { node = n; place = p }) inr2 in let b = edge_count outs n p r inn inp in let c = i.count in omega arith);
    }

pub fill_none : (g : Graph_data) (n : ℕ) → get_or g.outs n [] ≡ [] → IsInto g.outs g.intos → IsFilled g g n []
fill_none g n e i = record { size = refl; here = e; others = λ k ne. refl; into = i }

pub fill_move : (old g new : Graph_data) (n : ℕ) (moves : List (List ℕ)) → n < length old.outs → IsFilled old g n moves → new.outs ≡ with_move g.outs n → new.intos ≡ g.intos
    → IsFilled old new n (moves ++ ([] ∷ []))
fill_move old g new n moves inn f eo ei =
    let inn' : n < length g.outs = (let a = f.size in omega arith) in
    let i : IsInto (with_move g.outs n) g.intos = into_move g.outs g.intos n inn' f.into in
    record {
      size = ap (λ (z : List (List (List ℕ))). length z) eo ∙ length-set g.outs n (get_or g.outs n [] ++ ([] ∷ [])) ∙ f.size;
      here = ap (λ (z : List (List (List ℕ))). get_or z n []) eo ∙ get_or-set_same g.outs n (get_or g.outs n [] ++ ([] ∷ [])) [] inn' ∙ ap (λ (z : List (List ℕ)). z ++ ([] ∷ [])) f.here;
      others = λ k ne. ap (λ (z : List (List (List ℕ))). get_or z k []) eo ∙ get_or-set_other g.outs n k (get_or g.outs n [] ++ ([] ∷ [])) [] ne ∙ f.others k ne;
      into = subst (λ (z : List (List (List ℕ))). IsInto z new.intos) (sym eo) (subst (λ (z : List (List Move)). IsInto (with_move g.outs n) z) (sym ei) i);
    }

pub fill_edge : (old g new : Graph_data) (n p r : ℕ) (moves : List (List ℕ)) → n < length old.outs → p < length moves → r < length old.outs → IsFilled old g n moves
    → new.outs ≡ with_result g.outs n p r → new.intos ≡ with_end g.intos r (record { node = n; place = p })
    → IsFilled old new n (set moves p (get_or moves p [] ++ (r ∷ [])))
fill_edge old g new n p r moves inn inp inr' f eo ei =
    let inn' : n < length g.outs = (let a = f.size in omega arith) in
    let inr2 : r < length g.outs = (let a = f.size in omega arith) in
    let l : length (get_or g.outs n []) ≡ length moves = ap (λ (z : List (List ℕ)). length z) f.here in
    let inp' : p < length (get_or g.outs n []) = omega arith in
    let i = into_edge g.outs g.intos n p r inn' inp' inr2 f.into in
    let row : List (List ℕ) = set (get_or g.outs n []) p (get_or (get_or g.outs n []) p [] ++ (r ∷ [])) in
    record {
      size = ap (λ (z : List (List (List ℕ))). length z) eo ∙ length-set g.outs n (set (get_or g.outs n []) p (get_or (get_or g.outs n []) p [] ++ (r ∷ []))) ∙ f.size;
      here = ap (λ (z : List (List (List ℕ))). get_or z n []) eo ∙ get_or-set_same g.outs n (set (get_or g.outs n []) p (get_or (get_or g.outs n []) p [] ++ (r ∷ []))) [] inn'
          ∙ ap (λ (z : List (List ℕ)). set z p (get_or z p [] ++ (r ∷ []))) f.here;
      others = λ k ne. ap (λ (z : List (List (List ℕ))). get_or z k []) eo ∙ get_or-set_other g.outs n k (set (get_or g.outs n []) p (get_or (get_or g.outs n []) p [] ++ (r ∷ []))) [] ne
          ∙ f.others k ne;
      into = subst (λ (z : List (List (List ℕ))). IsInto z new.intos) (sym eo) (subst (λ (z : List (List Move)). IsInto (with_result g.outs n p r) z) (sym ei) i);
    }

set_last : (ms : List (List ℕ)) (r : ℕ) → set (ms ++ ([] ∷ [])) (length ms) (get_or (ms ++ ([] ∷ [])) (length ms) [] ++ (r ∷ [])) ≡ ms ++ ((r ∷ []) ∷ [])
set_last [] r = refl
set_last (m ∷ ms) r = ap (λ (z : List (List ℕ)). m ∷ z) (set_last ms r)

map_push : (xs : List ℕ) (x : ℕ) → map (λ (y : ℕ). y ∷ []) (xs ++ (x ∷ [])) ≡ map (λ (y : ℕ). y ∷ []) xs ++ ((x ∷ []) ∷ [])
map_push [] x = refl
map_push (y ∷ xs) x = ap (λ (z : List (List ℕ)). (y ∷ []) ∷ z) (map_push xs x)

-- a further move to one number
pub any_on : (old g h new : Graph_data) (n i r p : ℕ) (row : List ℕ) → n < length old.outs → r < length old.outs → slice_get row i ≡ Some r → IsFilled old g n (moves_of true (take i row))
    → h.outs ≡ with_move g.outs n → h.intos ≡ g.intos → p ≡ length (get_or g.outs n []) → new.outs ≡ with_result h.outs n p r → new.intos ≡ with_end h.intos r (record { node = n; place = p })
    → IsFilled old new n (moves_of true (take (i + 1) row))
any_on old g h new n i r p row inn inr' e f eo ei ep fo fi =
    let ms : List (List ℕ) = map (λ (y : ℕ). y ∷ []) (take i row) in
    let a = fill_move old g h n (map (λ (y : ℕ). y ∷ []) (take i row)) inn f eo ei in
    let ep' : p ≡ length (map (λ (y : ℕ). y ∷ []) (take i row)) = ep ∙ ap (λ (z : List (List ℕ)). length z) f.here in
    let l = length-append (map (λ (y : ℕ). y ∷ []) (take i row)) ([] ∷ []) in
    let b = fill_edge old h new n p r (map (λ (y : ℕ). y ∷ []) (take i row) ++ ([] ∷ [])) inn (omega arith) inr' a fo fi in
    let s : set (map (λ (y : ℕ). y ∷ []) (take i row) ++ ([] ∷ [])) p (get_or (map (λ (y : ℕ). y ∷ []) (take i row) ++ ([] ∷ [])) p [] ++ (r ∷ [])) ≡ map (λ (y : ℕ). y ∷ []) (take (i + 1) row) =
    subst (λ (q : ℕ). set (map (λ (y : ℕ). y ∷ []) (take i row) ++ ([] ∷ [])) q (get_or (map (λ (y : ℕ). y ∷ []) (take i row) ++ ([] ∷ [])) q [] ++ (r ∷ [])) ≡ map (λ (y : ℕ). y ∷ [])
    (take (i + 1) row)) (sym ep')
    (set_last (map (λ (y : ℕ). y ∷ []) (take i row)) r ∙ sym (ap (map (λ (y : ℕ). y ∷ [])) (take_on row i r e) ∙ map_push (take i row) r)) in
    subst (λ (z : List (List ℕ)). IsFilled old new n z) s b

-- one more number for the one move
pub all_on : (old g new : Graph_data) (n i r : ℕ) (row : List ℕ) → n < length old.outs → r < length old.outs → slice_get row i ≡ Some r → IsFilled old g n (moves_of false (take i row))
    → new.outs ≡ with_result g.outs n 0 r → new.intos ≡ with_end g.intos r (record { node = n; place = 0 }) → IsFilled old new n (moves_of false (take (i + 1) row))
all_on old g new n i r row inn inr' e f eo ei =
    let b = fill_edge old g new n 0 r (take i row ∷ []) inn (omega arith) inr' f eo ei in
    subst (λ (z : List ℕ). IsFilled old new n (z ∷ [])) (sym (take_on row i r e)) b

pub all_begin : (old new : Graph_data) (n : ℕ) (row : List ℕ) → n < length old.outs → get_or old.outs n [] ≡ [] → IsInto old.outs old.intos → new.outs ≡ with_move old.outs n → new.intos ≡ old.intos
    → IsFilled old new n (moves_of false (take 0 row))
all_begin old new n row inn e i eo ei = fill_move old old new n [] inn (fill_none old n e i) eo ei

-- the graph of what was discovered pictures the moves
names_length : {X : Type 0} (found : List X) (ns : List ℕ) (xs : List X) → ArePlacesOf found ns xs → length ns ≡ length xs
names_length found [] [] h = refl
names_length found [] (x ∷ xs) h = elim h [ ]
names_length found (n ∷ ns) [] h = elim h [ ]
names_length found (n ∷ ns) (x ∷ xs) h = let k = names_length found ns xs h.1 in omega arith

moves_count : {X : Type 0} (any : Bool) (row : List ℕ) (xs : List X) → length row ≡ length xs → length (moves_of any row) ≡ length (moves_of any xs)
moves_count true [] [] e = refl
moves_count true [] (x ∷ xs) e = absurd cc
moves_count true (n ∷ row) [] e = absurd cc
moves_count true (n ∷ row) (x ∷ xs) e = let k = moves_count true row xs (omega arith) in omega arith
moves_count false row xs e = refl

moves_name : {X : Type 0} (found : List X) (any : Bool) (row : List ℕ) (xs : List X) (place : ℕ) (rs : List X) → ArePlacesOf found row xs → slice_get (moves_of any xs) place ≡ Some rs
    → ArePlacesOf found (get_or (moves_of any row) place []) rs
moves_name found true [] [] place rs h e = absurd cc
moves_name found true [] (x ∷ xs) place rs h e = elim h [ ]
moves_name found true (n ∷ row) [] place rs h e = elim h [ ]
moves_name {X = X} found true (n ∷ row) (x ∷ xs) zero rs h e = let k : (x ∷ []) ≡ rs = cc in subst (λ (z : List X). ArePlacesOf found (n ∷ []) z) k (h.0, tt)
moves_name found true (n ∷ row) (x ∷ xs) (suc place) rs h e = moves_name found true row xs place rs h.1 e
moves_name {X = X} found false row xs zero rs h e = let k : xs ≡ rs = cc in subst (λ (z : List X). ArePlacesOf found row z) k h
moves_name found false row xs (suc place) rs h e = absurd cc

pub pictured : {X : Type 0} (any : X → Bool) (next : X → List X) (found : List X) (anys : List Bool) (rows : List (List ℕ)) (g : Graph_data) → length rows ≡ length found
    → ((k : ℕ) (x : X) (row : List ℕ) → slice_get found k ≡ Some x → slice_get rows k ≡ Some row → ArePlacesOf found row (next x))
    → ((k : ℕ) (x : X) → slice_get found k ≡ Some x → get_or anys k false ≡ any x)
    → IsBuilt anys rows (length rows) g → Pictures (λ (x : X). moves_of (any x) (next x)) found g.outs
pictured {X = X} any next found anys rows g len names flags b =
    let at-row : (k : ℕ) (x : X) → slice_get found k ≡ Some x → (row : List ℕ) × (slice_get rows k ≡ Some row) × (get_or rows k [] ≡ row) = λ k x e. (
    let p = at_within rows k (let a = at_short found k x e in omega arith) in (p.0, p.1, got rows k p.0 [] p.1)) in
    let reads : (k : ℕ) (x : X) → slice_get found k ≡ Some x → get_or g.outs k [] ≡ moves_of (any x) (get_or rows k []) = λ k x e.
    b.done k (let a = at_short found k x e in omega arith) ∙ ap (λ (z : Bool). moves_of z (get_or rows k [])) (flags k x e) in
    record {
      size = b.size ∙ len;
      count = λ n x e. (let r = at-row n x e in let nm = names n x r.0 e r.1 in
          ap (λ (z : List (List ℕ)). length z) (reads n x e) ∙ moves_count (any x) (get_or rows n []) (next x) (ap (λ (z : List ℕ). length z) r.2 ∙ names_length found r.0 (next x) nm));
      names = λ n place x rs e m. (let r = at-row n x e in let nm = names n x r.0 e r.1 in
          subst (λ (z : List (List ℕ)). ArePlacesOf found (get_or z place []) rs) (sym (reads n x e))
          (moves_name found (any x) (get_or rows n []) (next x) place rs (subst (λ (z : List ℕ). ArePlacesOf found z (next x)) (sym r.2) nm) m));
    }
