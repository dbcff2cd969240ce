-- What is found grows item by item.
use Rattle.std.proofs.Common.{◌≡◌, ◌≢◌, ◌⊎◌, inl, inr, ℕ, ◌<◌, ◌≤◌, Bool, true, false, List, [], ◌∷◌, ◌++◌, length, refl, sym, ap, ◌∙◌, subst, arith, ◌+◌, suc, zero, Some, slice_get, get_or, take}
use Rattle.std.proofs.Common.{drop, length-append, map, ◌||◌}
use Rattle.std.specs.List.{list_any}
use Rattle.std.proofs.lemmas.Option.{none-some, same_Some}
use Rattle.rs_graph.specs.Lists.{Among, ArePlacesOf}
use Rattle.rs_graph.specs.Order.{Once, Numbered, NoMore, Known, New, Worked, AllDone, Next}
use Rattle.rs_graph.specs.Discovery.{Reached, Begin, Step, IsDiscovery}
use Rattle.rs_graph.specs.Naming.{MoreThan, Adds, AreNamed, Grown, Growing, IsNamed}

pub drop_here : {A : Type 0} (xs : List A) (k : ℕ) (x : A) → slice_get xs k ≡ Some x → drop k xs ≡ x ∷ drop (k + 1) xs
drop_here [] k x g = absurd (none-some x g)
drop_here (y ∷ xs) zero x g = let e : y ≡ x = same_Some y x g in rw e refl
drop_here (y ∷ xs) (suc k) x g = let n : suc k + 1 ≡ suc (k + 1) = omega arith in drop_here xs k x g ∙ ap (λ m. x ∷ drop m (y ∷ xs)) (sym n)

-- what is found is all that is reached
pub in_at : {X : Type 0} (xs : List X) (i : ℕ) (x : X) → slice_get xs i ≡ Some x → Among xs x
in_at [] i x e = absurd cc
in_at (y ∷ ys) zero x e = inl cc
in_at (y ∷ ys) (suc i) x e = inr (in_at ys i x e)

pub at_in : {X : Type 0} (xs : List X) (x : X) → Among xs x → (i : ℕ) × (slice_get xs i ≡ Some x)
at_in [] x h = elim h [ ]
at_in (y ∷ ys) x (inl e) = (zero, ap Some e)
at_in (y ∷ ys) x (inr h) = let r = at_in ys x h in (suc r.0, r.1)

pub at_within : {X : Type 0} (xs : List X) (i : ℕ) → i < length xs → (x : X) × (slice_get xs i ≡ Some x)
at_within [] i h = let bad : ⊥ = omega arith in absurd bad
at_within (y ∷ ys) zero h = (y, refl)
at_within (y ∷ ys) (suc i) h = at_within ys i (omega arith)

pub at_short : {X : Type 0} (xs : List X) (i : ℕ) (x : X) → slice_get xs i ≡ Some x → i < length xs
at_short [] i x e = absurd cc
at_short (y ∷ ys) zero x e = omega arith
at_short (y ∷ ys) (suc i) x e = let k = at_short ys i x e in omega arith

names_have : {X : Type 0} (found : List X) (ns : List ℕ) (ys : List X) → ArePlacesOf found ns ys → (y : X) → Among ys y → Among found y
names_have found [] [] h y k = elim k [ ]
names_have found [] (z ∷ ys) h y k = elim h [ ]
names_have found (n ∷ ns) [] h y k = elim k [ ]
names_have found (n ∷ ns) (z ∷ ys) h y (inl e) = in_at found n y (h.0 ∙ ap Some e)
names_have found (n ∷ ns) (z ∷ ys) h y (inr k) = names_have found ns ys h.1 y k

pub all_found : {X : Type 0} (next : X → List X) (start : X) (found : List X) (rows : List (List ℕ)) → IsDiscovery next start found rows → (x : X) → Reached next start x → Among found x
all_found next start found rows d _ Begin = in_at found 0 start d.first
all_found next start found rows d _ (Step x y r h) =
    let p = at_in found x (all_found next start found rows d x r) in
    let q = at_within rows p.0 (rw d.all (at_short found p.0 x p.1)) in
    names_have found q.0 (next x) (d.names p.0 x q.0 p.1 q.1) y h

-- a list that grows at its end
pub push_at : {X : Type 0} (xs : List X) (y : X) (i : ℕ) (x : X) → slice_get xs i ≡ Some x → slice_get (xs ++ (y ∷ [])) i ≡ Some x
push_at [] y i x e = absurd cc
push_at (z ∷ xs) y zero x e = e
push_at (z ∷ xs) y (suc i) x e = push_at xs y i x e

pub push_new : {X : Type 0} (xs : List X) (y : X) → slice_get (xs ++ (y ∷ [])) (length xs) ≡ Some y
push_new [] y = refl
push_new (z ∷ xs) y = push_new xs y

pub push_is : {X : Type 0} (xs : List X) (y : X) (i : ℕ) (x : X) → slice_get (xs ++ (y ∷ [])) i ≡ Some x → (slice_get xs i ≡ Some x) ⊎ ((i ≡ length xs) × (y ≡ x))
push_is [] y zero x e = inr (refl, cc)
push_is [] y (suc i) x e = absurd cc
push_is (z ∷ xs) y zero x e = inl e
push_is (z ∷ xs) y (suc i) x e = elim (push_is xs y i x e) [ inl k ↦ inl k | inr p ↦ inr ((let a = p.0 in omega arith), p.1) ]

pub push_once : {X : Type 0} (xs : List X) (y : X) → Once xs → (Among xs y → ⊥) → Once (xs ++ (y ∷ []))
push_once xs y once new = λ i j x a b. elim (push_is xs y i x a) [
  | inl p ↦ elim (push_is xs y j x b) [ inl q ↦ once i j x p q | inr q ↦ absurd (new (in_at xs i y (p ∙ ap Some (sym q.1)))) ]
  | inr p ↦ elim (push_is xs y j x b) [ inl q ↦ absurd (new (in_at xs j y (q ∙ ap Some (sym p.1)))) | inr q ↦ p.0 ∙ sym q.0 ]
]

pub names_push : {X : Type 0} (found : List X) (ns : List ℕ) (ys : List X) (n : ℕ) (y : X) → ArePlacesOf found ns ys → slice_get found n ≡ Some y → ArePlacesOf found (ns ++ (n ∷ [])) (ys ++ (y ∷ []))
names_push found [] [] n y h e = (e, tt)
names_push found [] (z ∷ ys) n y h e = elim h [ ]
names_push found (m ∷ ns) [] n y h e = elim h [ ]
names_push found (m ∷ ns) (z ∷ ys) n y h e = (h.0, names_push found ns ys n y h.1 e)

pub numbered_known : (known after n : ℕ) (ns : List ℕ) → Numbered known ns after → n < after → Numbered known (ns ++ (n ∷ [])) after
numbered_known known _ n _ (NoMore _) h = Known known n known [] h (NoMore known)
numbered_known known after n _ (Known _ m _ ns lt k) h = Known known m after (ns ++ (n ∷ [])) lt (numbered_known known after n ns k h)
numbered_known known after n _ (New _ _ ns k) h = New known after (ns ++ (n ∷ [])) (numbered_known (suc known) after n ns k h)

pub numbered_new : (known after : ℕ) (ns : List ℕ) → Numbered known ns after → Numbered known (ns ++ (after ∷ [])) (suc after)
numbered_new known _ _ (NoMore _) = New known (suc known) [] (NoMore (suc known))
numbered_new known after _ (Known _ m _ ns lt k) = Known known m (suc after) (ns ++ (after ∷ [])) lt (numbered_new known after ns k)
numbered_new known after _ (New _ _ ns k) = New known (suc after) (ns ++ (after ∷ [])) (numbered_new (suc known) after ns k)

pub worked_push : (k known mid after : ℕ) (rows : List (List ℕ)) (row : List ℕ) → Worked k known rows mid → k + length rows < mid → Numbered mid row after → Worked k known (rows ++ (row ∷ [])) after
worked_push k known _ after _ row (AllDone _ _) h n = Next k known after after row [] (omega arith) n (AllDone (suc k) after)
worked_push k known mid after _ row (Next _ _ m _ r rows lt nu w) h n = Next k known m after r (rows ++ (row ∷ [])) lt nu (worked_push (suc k) m mid after rows row w (omega arith) n)

pub names_kept : {X : Type 0} (old new : List X) → ((n : ℕ) (x : X) → slice_get old n ≡ Some x → slice_get new n ≡ Some x) → (ns : List ℕ) (ys : List X) → ArePlacesOf old ns ys → ArePlacesOf new ns ys
names_kept old new kept [] [] h = tt
names_kept old new kept [] (y ∷ ys) h = elim h [ ]
names_kept old new kept (n ∷ ns) [] h = elim h [ ]
names_kept old new kept (n ∷ ns) (y ∷ ys) h = (kept n y h.0, names_kept old new kept ns ys h.1)

pub has_left : {X : Type 0} (xs ys : List X) (x : X) → Among xs x → Among (xs ++ ys) x
has_left [] ys x h = elim h [ ]
has_left (z ∷ xs) ys x (inl e) = inl e
has_left (z ∷ xs) ys x (inr h) = inr (has_left xs ys x h)

pub has_push : {X : Type 0} (xs : List X) (y x : X) → Among (xs ++ (y ∷ [])) x → Among xs x ⊎ (y ≡ x)
has_push [] y x (inl e) = inr e
has_push [] y x (inr h) = elim h [ ]
has_push (z ∷ xs) y x (inl e) = inl (inl e)
has_push (z ∷ xs) y x (inr h) = elim (has_push xs y x h) [ inl k ↦ inl (inr k) | inr e ↦ inr e ]

pub has_last : {X : Type 0} (xs : List X) (x : X) → Among (xs ++ (x ∷ [])) x
has_last [] x = inl refl
has_last (z ∷ xs) x = inr (has_last xs x)

pub grown_adds : {X : Type 0} (old ys cur : List X) (y : X) (new : List X) → Grown old ys cur → Adds cur y new → Grown old (ys ++ (y ∷ [])) new
grown_adds old ys cur y new g (inl e) = record {
  once = λ o. rw e (g.once o);
  only = λ n x h. elim (g.only n x (rw e at h)) [ inl k ↦ inl k | inr k ↦ inr (has_left ys (y ∷ []) x k) ];
  kept = λ n x h. rw e (g.kept n x h);
}
grown_adds {X = X} old ys cur y new g (inr p) = record {
  once = λ o. rw p.1 (push_once cur y (g.once o) p.0);
  only = λ n x h. elim (push_is cur y n x (rw p.1 at h)) [
    | inl k ↦ elim (g.only n x k) [ inl q ↦ inl q | inr q ↦ inr (has_left ys (y ∷ []) x q) ]
    | inr q ↦ inr
        (subst (λ (z : X). Among (ys ++ (y ∷ [])) z) q.1 (has_last ys y))
  ];
  kept = λ n x h. rw p.1 (push_at cur y n x (g.kept n x h));
}

pub take_on : {X : Type 0} (ys : List X) (i : ℕ) (y : X) → slice_get ys i ≡ Some y → take (i + 1) ys ≡ take i ys ++ (y ∷ [])
take_on [] i y e = absurd cc
take_on {X = X} (z ∷ ys) zero y e = (let k : z ≡ y = cc in ap (λ (w : X). w ∷ []) k)
take_on {X = X} (z ∷ ys) (suc i) y e = let k : suc i + 1 ≡ suc (i + 1) = omega arith in rw k (ap (λ (ws : List X). z ∷ ws) (take_on ys i y e))

-- an item that is there, and one that isn't
pub named_known : {X : Type 0} (old : List X) (y : X) (n : ℕ) → slice_get old n ≡ Some y → IsNamed old y old n
named_known old y n h = record { adds = inl refl; longer = omega arith; at = h; known = λ q. at_short old n y h; fresh = λ other. absurd (other refl) }

pub named_new : {X : Type 0} (old new : List X) (y : X) (n : ℕ) → (Among old y → ⊥) → new ≡ old ++ (y ∷ []) → n ≡ length old → IsNamed old y new n
named_new {X = X} old new y n out e l =
    let more : length new ≡ length old + 1 = ap (λ (z : List X). length z) e ∙ length-append old (y ∷ []) in
    record {
      adds = inr (out, e);
      longer = omega arith;
      at = rw (e, l) (push_new old y);
      known = λ q. (let b = ap (λ (z : List X). length z) q in let bad : ⊥ = omega arith in absurd bad);
      fresh = λ q. l;
    }

pub named_none : {X : Type 0} (old : List X) → AreNamed old [] old []
named_none old = record { grown = record { once = λ o. o; only = λ n x h. inl h; kept = λ n x h. h }; names = tt; numbered = NoMore (length old); longer = omega arith }

-- one more is named
pub named_push : {X : Type 0} (old ys cur new : List X) (y : X) (n : ℕ) (row row' : List ℕ) → AreNamed old ys cur row → IsNamed cur y new n → row' ≡ row ++ (n ∷ [])
    → AreNamed old (ys ++ (y ∷ [])) new row'
named_push {X = X} old ys cur new y n row row' a one er =
    let kept : (m : ℕ) (x : X) → slice_get cur m ≡ Some x → slice_get new m ≡ Some x = λ m x k. elim one.adds [ inl e ↦ rw e k | inr p ↦ rw p.1 (push_at cur y m x k) ] in
    rw er record {
      grown = grown_adds old ys cur y new a.grown one.adds;
      names = names_push new row ys n y (names_kept cur new kept row ys a.names) one.at;
      numbered = elim one.adds [
        | inl e ↦ (let nu = numbered_known (length old) (length cur) n row a.numbered (one.known e) in subst (λ (z : List X). Numbered (length old) (row ++ (n ∷ [])) (length z)) (sym e) nu)
        | inr p ↦ (let l : length new ≡ suc (length cur) = ap (λ (z : List X). length z) p.1 ∙ (let k = length-append cur (y ∷ []) in omega arith) in
            let e : n ≡ length cur = one.fresh (λ q. let b = ap (λ (z : List X). length z) q in let bad : ⊥ = omega arith in absurd bad) in
            rw l (rw e (numbered_new (length old) (length cur) row a.numbered)))
      ];
      longer = (let o = a.longer in let l = one.longer in omega arith);
    }

-- one more is named, the next of these
pub named_on : {X : Type 0} (old ys cur new : List X) (i : ℕ) (y : X) (n : ℕ) (row row' : List ℕ) → slice_get ys i ≡ Some y → AreNamed old (take i ys) cur row → IsNamed cur y new n
    → row' ≡ row ++ (n ∷ []) → AreNamed old (take (i + 1) ys) new row'
named_on {X = X} old ys cur new i y n row row' h a one er = subst (λ (z : List X). AreNamed old z new row') (sym (take_on ys i y h)) (named_push old (take i ys) cur new y n row row' a one er)

pub growing_begin : {X : Type 0} (next : X → List X) (start : X) → Growing next start (start ∷ []) []
growing_begin {X = X} next start = record {
  first = refl;
  once = λ i j x a b. (let p = at_short (start ∷ []) i x a in let q = at_short (start ∷ []) j x b in omega arith);
  reached = λ n x h. (elim (push_is [] start n x h) [ inl k ↦ absurd cc | inr p ↦ subst (λ (z : X). Reached next start z) p.1 Begin ]);
  names = λ k x row a b. absurd cc;
  order = AllDone 0 1;
  ahead = omega arith;
}

pub growing_reach : {X : Type 0} (next : X → List X) (start : X) (found : List X) (rows : List (List ℕ)) (x : X) (new : List X) → Growing next start found rows → slice_get found (length rows) ≡ Some x
    → Grown found (next x) new
    → (n : ℕ) (y : X) → slice_get new n ≡ Some y → Reached next start y
growing_reach next start found rows x new g here gr n y h = elim (gr.only n y h) [ inl k ↦ g.reached n y k | inr k ↦ Step x y (g.reached (length rows) x here) k ]

pub growing_on : {X : Type 0} (next : X → List X) (start : X) (found : List X) (rows : List (List ℕ)) (x : X) (new : List X) (row : List ℕ) → Growing next start found rows
    → slice_get found (length rows) ≡ Some x → AreNamed found (next x) new row
    → Growing next start new (rows ++ (row ∷ []))
growing_on {X = X} next start found rows x new row g here named = let gr = named.grown in record {
  first = gr.kept 0 start g.first;
  once = gr.once g.once;
  reached = growing_reach next start found rows x new g here gr;
  names = λ k y r a b. elim (push_is rows row k r b) [
    | inl q ↦ (let short = at_short rows k r q in let y' = at_within found k (let z = g.ahead in omega arith) in
        let same : y'.0 ≡ y = cc (gr.kept k y'.0 y'.1, a) in
        names_kept found new gr.kept r (next y) (g.names k y r (y'.1 ∙ ap Some same) q))
    | inr q ↦ (let a' : slice_get new (length rows) ≡ Some y = rw q.0 at a in
        let same : x ≡ y = cc (gr.kept (length rows) x here, a') in
        (let na1 : ArePlacesOf new r (next x) = subst (λ (z : List ℕ). ArePlacesOf new z (next x)) q.1 named.names in subst (λ (z : X). ArePlacesOf new r (next z)) same na1))
  ];
  order = worked_push 0 1 (length found) (length new) rows row g.order (let k = at_short found (length rows) x here in omega arith) named.numbered;
  ahead = (let k = at_short found (length rows) x here in let l = length-append rows (row ∷ []) in let o = named.longer in omega arith);
}

pub growing_done : {X : Type 0} (next : X → List X) (start : X) (found : List X) (rows : List (List ℕ)) → Growing next start found rows → length found ≤ length rows → IsDiscovery next start found rows
growing_done next start found rows g h = record { first = g.first; once = g.once; all = (let a = g.ahead in omega arith); names = g.names; reached = g.reached; order = g.order }

pub growing_large : {X : Type 0} (next : X → List X) (start : X) (found : List X) (rows : List (List ℕ)) (x : X) (limit : ℕ) (new : List X) → Growing next start found rows
    → slice_get found (length rows) ≡ Some x → Grown found (next x) new
    → limit < length new → MoreThan limit next start
growing_large next start found rows x limit new g here gr h = record { some = new; once = gr.once g.once; reached = growing_reach next start found rows x new g here gr; many = h }

pub reads_at : {X : Type 0} (xs : List X) (i : ℕ) (x d : X) → i < length xs → get_or xs i d ≡ x → slice_get xs i ≡ Some x
reads_at [] i x d h e = let bad : ⊥ = omega arith in absurd bad
reads_at (y ∷ xs) zero x d h e = ap Some e
reads_at (y ∷ xs) (suc i) x d h e = reads_at xs i x d (omega arith) e

-- items of which none stands twice, all in another list, are no more than those of it
abbrev cut : {X : Type 0} → ℕ → List X → List X
cut k [] = []
cut zero (y ∷ ys) = ys
cut (suc k) (y ∷ ys) = y ∷ cut k ys

cut_length : {X : Type 0} (ys : List X) (k : ℕ) (x : X) → slice_get ys k ≡ Some x → length ys ≡ suc (length (cut k ys))
cut_length [] k x e = absurd cc
cut_length (y ∷ ys) zero x e = refl
cut_length (y ∷ ys) (suc k) x e = let r = cut_length ys k x e in omega arith

cut_has : {X : Type 0} (ys : List X) (k j : ℕ) (z : X) → slice_get ys j ≡ Some z → j ≢ k → Among (cut k ys) z
cut_has [] k j z e ne = absurd cc
cut_has (y ∷ ys) zero zero z e ne = absurd (ne refl)
cut_has (y ∷ ys) zero (suc j) z e ne = in_at ys j z e
cut_has (y ∷ ys) (suc k) zero z e ne = inl cc
cut_has (y ∷ ys) (suc k) (suc j) z e ne = inr (cut_has ys k j z e (λ q. ne (omega arith)))

pub no_more : {X : Type 0} (xs ys : List X) → Once xs → ((x : X) → Among xs x → Among ys x) → length xs ≤ length ys
no_more [] ys once all = omega arith
no_more {X = X} (x ∷ xs) ys once all =
    let p = at_in ys x (all x (inl refl)) in
    let l = cut_length ys p.0 x p.1 in
    let k = no_more xs (cut p.0 ys) (λ i j z a b. let e = once (suc i) (suc j) z a b in omega arith)
    (λ z m. let q = at_in ys z (all z (inr m)) in cut_has ys p.0 q.0 z q.1 (λ e. let s = at_in xs z m in
    let q' : slice_get ys p.0 ≡ Some z = subst (λ (w : ℕ). slice_get ys w ≡ Some z) e q.1 in
    let same : x ≡ z = cc (p.1, q') in
    let bad = once zero (suc s.0) x refl (s.1 ∙ ap Some (sym same)) in let no : ⊥ = omega arith in no)) in
    omega arith

-- found whole and more than the limit can't both be
pub not_both : {X : Type 0} (next : X → List X) (start : X) (found : List X) (rows : List (List ℕ)) (limit : ℕ) → IsDiscovery next start found rows → length found ≤ limit → MoreThan limit next start
    → ⊥
not_both next start found rows limit d few m =
    let k = no_more m.some found m.once (λ x h. let p = at_in m.some x h in all_found next start found rows d x (m.reached p.0 x p.1)) in
    let b = m.many in let bad : ⊥ = omega arith in bad

-- what is taken of a list that grew
pub take_kept : {X : Type 0} (old new : List X) (k : ℕ) → ((j : ℕ) (x : X) → slice_get old j ≡ Some x → slice_get new j ≡ Some x) → k ≤ length old → take k new ≡ take k old
take_kept old new zero kept h = refl
take_kept {X = X} old new (suc k) kept h =
    let p = at_within old k (omega arith) in
    let r = take_kept old new k kept (omega arith) in
    let e : k + 1 ≡ suc k = omega arith in
    rw (← e) (take_on new k p.0 (kept k p.0 p.1) ∙ ap (λ (z : List X). z ++ (p.0 ∷ [])) r ∙ sym (take_on old k p.0 p.1))

take_next : {X : Type 0} (old new : List X) (k : ℕ) (x : X) → ((j : ℕ) (y : X) → slice_get old j ≡ Some y → slice_get new j ≡ Some y) → slice_get old k ≡ Some x
    → take (k + 1) new ≡ take k old ++ (x ∷ [])
take_next {X = X} old new k x kept g = take_on new k x (kept k x g) ∙ ap (λ (z : List X). z ++ (x ∷ [])) (take_kept old new k kept (let a = at_short old k x g in omega arith))

map_append : {X Y : Type 0} (f : X → Y) (xs ys : List X) → map f (xs ++ ys) ≡ map f xs ++ map f ys
map_append f [] ys = refl
map_append {X = X} {Y = Y} f (x ∷ xs) ys = ap (λ (z : List Y). f x ∷ z) (map_append f xs ys)

pub map_next : {X Y : Type 0} (f : X → Y) (old new : List X) (k m : ℕ) (x : X) (ys ys' : List Y) (y : Y) → ((j : ℕ) (z : X) → slice_get old j ≡ Some z → slice_get new j ≡ Some z)
    → slice_get old k ≡ Some x
    → m ≡ k + 1 → ys ≡ map f (take k old) → y ≡ f x → ys' ≡ ys ++ (y ∷ []) → ys' ≡ map f (take m new)
map_next {X = X} {Y = Y} f old new k m x ys ys' y kept g em e ey e' =
    let t : take m new ≡ take k old ++ (x ∷ []) = ap (λ (z : ℕ). take z new) em ∙ take_next old new k x kept g in
    e' ∙ ap (λ (z : List Y). z ++ (y ∷ [])) e ∙ ap (λ (z : Y). map f (take k old) ++ (z ∷ [])) ey ∙ sym (ap (map f) t ∙ map_append f (take k old) (x ∷ []))

or_false : (b : Bool) → (b || false) ≡ b
or_false true = refl
or_false false = refl

or_assoc : (a b c : Bool) → (a || (b || c)) ≡ ((a || b) || c)
or_assoc true b c = refl
or_assoc false b c = refl

any_push : {X : Type 0} (f : X → Bool) (xs : List X) (x : X) → list_any f (xs ++ (x ∷ [])) ≡ (list_any f xs || f x)
any_push f [] x = or_false (f x)
any_push f (y ∷ xs) x = ap (λ (b : Bool). f y || b) (any_push f xs x) ∙ or_assoc (f y) (list_any f xs) (f x)

pub any_next : {X : Type 0} (f : X → Bool) (old new : List X) (k m : ℕ) (x : X) (a b c : Bool) → ((j : ℕ) (z : X) → slice_get old j ≡ Some z → slice_get new j ≡ Some z) → slice_get old k ≡ Some x
    → m ≡ k + 1 → a ≡ list_any f (take k old) → b ≡ f x → c ≡ (a || b) → c ≡ list_any f (take m new)
any_next {X = X} f old new k m x a b c kept g em ea eb ec =
    let t : take m new ≡ take k old ++ (x ∷ []) = ap (λ (z : ℕ). take z new) em ∙ take_next old new k x kept g in
    rw (ec, ea, eb) (sym (ap (list_any f) t ∙ any_push f (take k old) x))
