-- Of each graph the nodes that have no move left can be removed: the removal, carried out on the definitions.
use Rattle.std.proofs.Common.{◌≡◌, ◌⊎◌, inl, inr, ℕ, ◌<◌, ◌≤◌, List, [], ◌∷◌, ◌++◌, length, get_or, refl, sym, ap, ◌∙◌, subst, arith, ◌+◌, suc, zero, Some, slice_get, length-append}
use Rattle.std.proofs.lemmas.Bool.{cases_lt}
use Rattle.std.proofs.lemmas.List.{get_or_past}
use Rattle.std.proofs.lemmas.Option.{none-some}
use Rattle.rs_graph.proofs.Growth.{at_in, at_short, in_at, no_more, push_at, push_is, push_once}
use Rattle.rs_graph.proofs.Removed.{later, upto, upto_has, upto_length}
use Rattle.rs_graph.specs.Lists.{Among}
use Rattle.rs_graph.specs.Order.{Once}
use Rattle.rs_graph.specs.Removal.{Behind, IsRemoval, Leads, at, moves_at}
use Rattle.rs_search.proofs.Discovering.{among_or_not, same_number}

-- some number of the row stands in the order, or none does
meets : (order row : List ℕ) → ((r : ℕ) × Among row r × Among order r) ⊎ ((r : ℕ) → Among row r → Among order r → ⊥)
meets order [] = inr (λ r h m. h)
meets order (r ∷ row) = elim (among_or_not same_number order r) [
  | inl m ↦ inl (r, inl refl, m)
  | inr out ↦ elim (meets order row) [
    | inl f ↦ inl (f.0, inr f.1, f.2)
    | inr none ↦ inr (λ s h m. elim h [ inl e ↦ out (subst (λ (z : ℕ). Among order z) (sym e) m) | inr k ↦ none s k m ])
  ]
]

-- the first of the moves of which no result stands in the order, or the number of all
record FirstFree (order : List ℕ) (moves : List (List ℕ)) : Type 0 where
  pub place : ℕ
  pub most : place ≤ length moves
  pub past : (p : ℕ) → p < place → (r : ℕ) × Among (get_or moves p []) r × Among order r
  pub free : place < length moves → (r : ℕ) → Among (get_or moves place []) r → Among order r → ⊥

first_free : (order : List ℕ) (moves : List (List ℕ)) → FirstFree order moves
first_free order [] = record { place = zero; most = omega arith; past = λ p h. (let bad : ⊥ = omega arith in absurd bad); free = λ h. (let bad : ⊥ = omega arith in absurd bad) }
first_free order (m ∷ moves) = elim (meets order m) [
  | inr none ↦ record { place = zero; most = omega arith; past = λ p h. (let bad : ⊥ = omega arith in absurd bad); free = λ h. none }
  | inl hit ↦ (let k = first_free order moves in record { place = suc k.place; most = (let a = k.most in omega arith); past = past hit k; free = λ h. k.free (omega arith) })
]
  where
    past : (r : ℕ) × Among m r × Among order r → (k : FirstFree order moves) → (p : ℕ) → p < suc k.place → (r : ℕ) × Among (get_or (m ∷ moves) p []) r × Among order r
    past hit k zero h = hit
    past hit k (suc p) h = k.past p (omega arith)

-- nodes that have been removed, in order
record Removing (outs : List (List (List ℕ))) (order : List ℕ) : Type 0 where
  pub once : Once order
  pub within : (i n : ℕ) → slice_get order i ≡ Some n → n < length outs
  pub ordered : (i n p : ℕ) → slice_get order i ≡ Some n → p < moves_at outs n → Behind outs order n p i

-- where node n stands
record Stand (outs : List (List (List ℕ))) (order : List ℕ) (n : ℕ) : Type 0 where
  pub place : ℕ
  pub most : place ≤ moves_at outs n
  pub full : Among order n → place ≡ moves_at outs n
  pub past : (p : ℕ) → p < place → (r : ℕ) × Leads outs n p r × Among order r
  pub free : place < moves_at outs n → (r : ℕ) → Leads outs n place r → Among order r → ⊥

stand : (outs : List (List (List ℕ))) (order : List ℕ) → Removing outs order → (n : ℕ) → Stand outs order n
stand outs order rem n = elim (among_or_not same_number order n) [
  | inl m ↦ (let i = at_in order n m in record {
    place = moves_at outs n;
    most = omega arith;
    full = λ a. refl;
    past = λ p h. (let b = rem.ordered i.0 n p i.1 h in (b.result, b.leads, in_at order b.index b.result b.stands));
    free = λ h. (let bad : ⊥ = omega arith in absurd bad);
  })
  | inr out ↦ (let f = first_free order (get_or outs n []) in record { place = f.place; most = f.most; full = λ a. absurd (out a); past = f.past; free = f.free })
]

-- a node that has no move left, and isn't removed yet
record IsLost (outs : List (List (List ℕ))) (order : List ℕ) (rem : Removing outs order) : Type 0 where
  pub node : ℕ
  pub present : node < length outs
  pub new : Among order node → ⊥
  pub none : (stand outs order rem node).place ≡ moves_at outs node

-- of the first n nodes those that have no move left are removed
abbrev AllGone : (outs : List (List (List ℕ))) (order : List ℕ) → Removing outs order → ℕ → Type 0
AllGone outs order rem count = (n : ℕ) → n < count → (stand outs order rem n).place ≡ moves_at outs n → Among order n

lost_or_gone : (outs : List (List (List ℕ))) (order : List ℕ) (rem : Removing outs order) (count : ℕ) → count ≤ length outs → IsLost outs order rem ⊎ AllGone outs order rem count
lost_or_gone outs order rem zero h = inr (λ n lt. let bad : ⊥ = omega arith in absurd bad)
lost_or_gone outs order rem (suc m) h = elim (lost_or_gone outs order rem m (omega arith)) [
  | inl l ↦ inl l
  | inr all ↦ elim (among_or_not same_number order m) [
    | inl a ↦ inr (more all (λ e. a))
    | inr new ↦ elim (same_number (stand outs order rem m).place (moves_at outs m)) [
      | inl e ↦ inl record { node = m; present = omega arith; new = new; none = e }
      | inr ne ↦ inr (more all (λ e. absurd (ne e)))
    ]
  ]
]
  where
    more : AllGone outs order rem m → ((stand outs order rem m).place ≡ moves_at outs m → Among order m) → AllGone outs order rem (suc m)
    more all here n lt e = elim (same_number m n) [
      | inl q ↦ (let P : ℕ → Type 0 = λ z. (stand outs order rem z).place ≡ moves_at outs z → Among order z in subst P q here e)
      | inr ne ↦ all n (omega arith) e
    ]

removing_on : (outs : List (List (List ℕ))) (order : List ℕ) (rem : Removing outs order) → IsLost outs order rem → (order' : List ℕ) × Removing outs order' × (length order' ≡ suc (length order))
removing_on outs order rem l = (
  order ++ (l.node ∷ []),
  record {
    once = push_once order l.node rem.once l.new;
    within = λ i n e. elim (push_is order l.node i n e) [ inl q ↦ rem.within i n q | inr q ↦ subst (λ (z : ℕ). z < length outs) q.1 l.present ];
    ordered = λ i n p e lt. elim (push_is order l.node i n e) [
      | inl q ↦ later outs order (order ++ (l.node ∷ [])) n p i i (push_at order l.node) (omega arith) (rem.ordered i n p q lt)
      | inr q ↦ (let P : ℕ → Type 0 = λ z. p < moves_at outs z → Behind outs (order ++ (l.node ∷ [])) z p i in
          let base : P l.node = λ h. (let s = (stand outs order rem l.node).past p (let a = l.none in omega arith) in let j = at_in order s.0 s.2 in
          record { result = s.0; leads = s.1; index = j.0; stands = push_at order l.node j.0 s.0 j.1; early = (let b = at_short order j.0 s.0 j.1 in let c = q.0 in omega arith) }) in
          subst P q.1 base lt)
    ];
  },
  (let a = length-append order (l.node ∷ []) in omega arith),
)

removing_few : (outs : List (List (List ℕ))) (order : List ℕ) → Removing outs order → length order ≤ length outs
removing_few outs order rem =
    let m = no_more order (upto 0 outs) rem.once (λ x h. let p = at_in order x h in let w = rem.within p.0 x p.1 in upto_has 0 outs x (omega arith) (omega arith)) in
    let l = upto_length 0 outs in omega arith

-- all are removed that have no move left
record Ended (outs : List (List (List ℕ))) : Type 0 where
  pub order : List ℕ
  pub rem : Removing outs order
  pub all : AllGone outs order rem (length outs)

ended : (outs : List (List (List ℕ))) (k : ℕ) (order : List ℕ) → length outs < length order + k → Removing outs order → Ended outs
ended outs zero order lt rem = let f = removing_few outs order rem in let bad : ⊥ = omega arith in absurd bad
ended outs (suc k) order lt rem = elim (lost_or_gone outs order rem (length outs) (omega arith)) [
  | inl l ↦ (let r = removing_on outs order rem l in ended outs k r.0 (let a = r.2 in omega arith) r.1)
  | inr all ↦ record { order = order; rem = rem; all = all }
]

-- what a function gives for so many numbers
abbrev tabled : (ℕ → ℕ) → ℕ → ℕ → List ℕ
tabled f n zero = []
tabled f n (suc k) = f n ∷ tabled f (suc n) k

tabled_length : (f : ℕ → ℕ) (n k : ℕ) → length (tabled f n k) ≡ k
tabled_length f n zero = refl
tabled_length f n (suc k) = ap suc (tabled_length f (suc n) k)

tabled_at : (f : ℕ → ℕ) (n k i : ℕ) → i < k → get_or (tabled f n k) i 0 ≡ f (n + i)
tabled_at f n zero i h = let bad : ⊥ = omega arith in absurd bad
tabled_at f n (suc k) zero h = let e : n ≡ n + 0 = omega arith in ap f e
tabled_at f n (suc k) (suc i) h = let e : suc n + i ≡ n + suc i = omega arith in tabled_at f (suc n) k i (omega arith) ∙ ap f e

pub record IsLeft (outs : List (List (List ℕ))) : Type 0 where
  pub current : List ℕ
  pub order : List ℕ
  pub removal : IsRemoval outs current order

pub left : (outs : List (List (List ℕ))) → ((n p r : ℕ) → Leads outs n p r → r < length outs) → IsLeft outs
left outs inside = record {
  current = tabled places 0 (length outs);
  order = end.order;
  removal = record {
    size = tabled_length places 0 (length outs);
    within = λ n. elim (cases_lt n (length outs)) [ inl a ↦ (let e = here n a in let s = (stands n).most in omega arith) | inr a ↦ (let e = past n a in omega arith) ];
    stays = λ n r lt le. (let ir = inside n (at (tabled places 0 (length outs)) n) r le in let hr = here r ir in
        elim (cases_lt n (length outs)) [
          | inr a ↦ (let e = past n a in let z = none n a in let bad : ⊥ = omega arith in absurd bad)
          | inl a ↦ (let e = here n a in let lt' : places n < moves_at outs n = omega arith in
              let apart = (stands n).free lt' r (subst (λ (z : ℕ). Leads outs n z r) e le) in
              let w = (stands r).most in
              elim (cases_lt (places r) (moves_at outs r)) [ inl b ↦ (let q = hr in omega arith) | inr b ↦ absurd (apart (end.all r ir (omega arith))) ])
        ]);
    passed = λ n p lt. elim (cases_lt n (length outs)) [
      | inr a ↦ (let e = past n a in let bad : ⊥ = omega arith in absurd bad)
      | inl a ↦ (let e = here n a in let s = (stands n).past p (omega arith) in let i = at_in end.order s.0 s.2 in
          record { result = s.0; leads = s.1; index = i.0; stands = i.1; early = at_short end.order i.0 s.0 i.1 })
    ];
    gone = λ i n e. (let w = end.rem.within i n e in (w, here n w ∙ (stands n).full (in_at end.order i n e)));
    ordered = end.rem.ordered;
    listed = λ n w e. end.all n w (sym (here n w) ∙ e);
    once = end.rem.once;
  };
}
  where
    end : Ended outs
    end = ended outs (suc (length outs)) [] (omega arith) record { once = λ i j x a b. absurd (none-some x a); within = λ i n e. absurd (none-some n e); ordered = λ i n p e h. absurd (none-some n e) }

    stands : (n : ℕ) → Stand outs end.order n
    stands n = stand outs end.order end.rem n

    places : ℕ → ℕ
    places n = (stands n).place

    here : (n : ℕ) → n < length outs → at (tabled places 0 (length outs)) n ≡ places n
    here n h = let e : 0 + n ≡ n = omega arith in tabled_at places 0 (length outs) n h ∙ ap places e

    past : (n : ℕ) → length outs ≤ n → at (tabled places 0 (length outs)) n ≡ 0
    past n h = get_or_past (tabled places 0 (length outs)) n 0 (let l = tabled_length places 0 (length outs) in omega arith)

    none : (n : ℕ) → length outs ≤ n → moves_at outs n ≡ 0
    none n h = ap (λ (z : List (List ℕ)). length z) (get_or_past outs n [] h)
