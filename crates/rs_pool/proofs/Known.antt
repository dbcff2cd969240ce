-- What the views say: who holds which task, who counted which role, and what they know of the word of ends.
use Rattle.std.proofs.Common.{◌≡◌, ◌≢◌, ℕ, ◌+◌, ◌<◌, ◌≤◌, if◌then◌else◌, ◌==◌, List, [], ◌∷◌, ◌++◌, sum_by, set, refl, sym, ap, ◌∙◌, subst, inl, inr, ⊎_elim, arith, eq-eqb, ne_eqb, Option, Some, None}
use Rattle.std.proofs.lemmas.Bool.Decides.{eqb_tells}
use Rattle.std.proofs.lemmas.List.Sums.{sum_by-cons, sum_by-append}
use Rattle.std.proofs.Math.Nat.{max-le}
use mathlib.Core.Option.{some, some-injective}
use native.Mathlib.Decide.{ℕ_discrete}
use mathlib.Core.Logic.{dite}
use lib.ListN.{get_elem?}
use Rattle.atomic_table.proofs.Lists.{at_set, set_here, set_else, at_longer}
use Rattle.rs_pool.specs.declared.views.Count.{Count}
use Rattle.rs_pool.specs.declared.views.JobView.{JobView}
use Rattle.rs_pool.specs.Rule.{Held, RolesAreCounted, EndsWord, amount_in, count_of_view, holding, view_without_job, counting, sum_of_views, view_of_nothing}
use Rattle.rs_pool.proofs.Sums.{at_put, put_case, sum_set, total_put}
use Rattle.rs_rings.proofs.OneRing.{at_below, at_snoc_where}

pub some_same : {A : Type 0} (x y : A) → Some x ≡ Some y → x ≡ y
some_same x y e = cc

pub some_none : {A : Type 0} (x : A) (o : Option A) → o ≡ Some x → o ≡ None → ⊥
some_none x o e n = cc

-- who holds which task
module _ (n : ℕ) (holder : ℕ → Option ℕ) (views : List JobView) (hl : Held n holder views) where
  pub held_snoc : (w : JobView) → w.held ≡ None → Held n holder (views ++ w ∷ [])
  held_snoc w nil = record {
    each = λ r j l h. let e = hl.each r j l h in (e.0, at_longer views (w ∷ []) j e.0 e.1, e.2);
    only = λ j d r there h. ⊎_elim (λ t. hl.only j d r t h) (λ t. absurd (some_none r d.held h (ap (λ (u : JobView). u.held) (sym t.1) ∙ nil))) (at_snoc_where views w d j there);
  }

  module _ (id : ℕ) (v : JobView) (at : get_elem? views id ≡ some v) where
    -- a view that holds what it held
    pub held_same : (w : JobView) → w.held ≡ v.held → ((r : ℕ) → w.held ≡ Some r → 0 < w.shares) → Held n holder (set views id w)
    held_same w same pos = record {
      each = λ r j l h. let e = hl.each r j l h in dite (ℕ_discrete j id)
          (λ is. (
            w,
            ap (get_elem? (set views id w)) is ∙ set_here views id w (at_below views id v at),
            same
                ∙ ap (λ (u : JobView). u.held) (some-injective v e.0 (sym at ∙ ap (get_elem? views) (sym is) ∙ e.1)) ∙ e.2,
          ))
          (λ ne. (e.0, set_else views id j w ne ∙ e.1, e.2));
      only = λ j d r there h. ⊎_elim
          (λ t. let h' : w.held ≡ Some r = ap (λ (u : JobView). u.held) t.1
          ∙ h in let o = hl.only id v r at (sym same ∙ h') in (o.0, o.1 ∙ ap Some (sym t.0), subst (λ (u : JobView). 0 < u.shares) t.1 (pos r h')))
          (λ t. hl.only j d r t.1 h)
          (at_set views id j w d there);
    }

    pub held_claim : (r : ℕ) → r < n → holder r ≡ None → v.held ≡ None → 0 < v.shares → Held n (at_put holder r (Some id)) (set views id (holding r v))
    held_claim r l free empty pos = let w : JobView = holding r v in record {
      each = λ y j b h. dite (ℕ_discrete y r)
          (λ is. let own : id ≡ j = some_same id j (sym (put_case holder r (Some id) y (λ z. z ≡ Some id) (λ _. refl) (λ no. absurd (no is))) ∙ h) in
          (w, ap (get_elem? (set views id w)) (sym own) ∙ set_here views id w (at_below views id v at), ap Some (sym is)))
          (λ ne. let h' : holder y ≡ Some j = sym (put_case holder r (Some id) y (λ z. z ≡ holder y) (λ e. absurd (ne e)) (λ _. refl)) ∙ h in let e = hl.each y j b h' in
          let other : j ≢ id = λ is. some_none y v.held (ap (λ (u : JobView). u.held) (some-injective v e.0 (sym at ∙ ap (get_elem? views) (sym is) ∙ e.1)) ∙ e.2) empty in
          (e.0, set_else views id j w other ∙ e.1, e.2));
      only = λ j d y there h. ⊎_elim
          (λ t. let is : r ≡ y = some_same r y (ap (λ (u : JobView). u.held) t.1 ∙ h) in
          (subst (λ (z : ℕ). z < n) is l, put_case holder r (Some id) y (λ z. z ≡ Some j) (λ _. ap Some (sym t.0)) (λ no. absurd (no (sym is))), subst (λ (u : JobView). 0 < u.shares) t.1 pos))
          (λ t. let o = hl.only j d y t.1 h in (o.0, put_case holder r (Some id) y (λ z. z ≡ Some j) (λ is. absurd (some_none j (holder y) o.1 (ap holder is ∙ free))) (λ _. o.1), o.2))
          (at_set views id j w d there);
    }

    pub held_free : (r : ℕ) → v.held ≡ Some r → Held n (at_put holder r None) (set views id (view_without_job v))
    held_free r has = let w : JobView = view_without_job v in let mine = hl.only id v r at has in record {
      each = λ y j b h. put_case holder r None y (λ z. z ≡ Some j → (d : JobView) × (get_elem? (set views id w) j ≡ some d) × (d.held ≡ Some y))
          (λ _ e. absurd (some_none j None e refl))
          (λ ne h'. let e = hl.each y j b h' in
          let other : j ≢ id = λ is. ne (some_same y r (sym e.2 ∙ ap (λ (u : JobView). u.held) (some-injective e.0 v (sym e.1 ∙ ap (get_elem? views) is ∙ at)) ∙ has)) in
          (e.0, set_else views id j w other ∙ e.1, e.2))
          h;
      only = λ j d y there h. ⊎_elim
          (λ t. absurd (some_none y d.held h (ap (λ (u : JobView). u.held) (sym t.1))))
          (λ t. let o = hl.only j d y t.1 h in (o.0, put_case holder r None y (λ z. z ≡ Some j) (λ is. absurd (t.0 (some_same j id (sym o.1 ∙ ap holder is ∙ mine.1)))) (λ _. o.1), o.2))
          (at_set views id j w d there);
    }

-- who counted which role
pub amount_append : (r : ℕ) (xs ys : List Count) → amount_in r (xs ++ ys) ≡ amount_in r xs + amount_in r ys
amount_append r [] ys = omega arith
amount_append r (x ∷ xs) ys =
    let h = amount_append r xs ys in let k : ℕ = if r == x.role then x.amount else 0 in let h' : amount_in r ((x ∷ xs) ++ ys) ≡ k + amount_in r (xs ++ ys) = refl in let g : amount_in r
    (x ∷ xs) ≡ k + amount_in r xs = refl in omega arith

pub amount_here : (r a : ℕ) (cs : List Count) → amount_in r (record { role = r; amount = a } ∷ cs) ≡ a + amount_in r cs
amount_here r a cs = rw (eq-eqb r r refl) refl

pub amount_other : (y r a : ℕ) (cs : List Count) → y ≢ r → amount_in y (record { role = r; amount = a } ∷ cs) ≡ amount_in y cs
amount_other y r a cs ne = rw (ne_eqb y r ne) (omega arith)

module _ (n : ℕ) (counter amount : ℕ → ℕ) (views : List JobView) (ct : RolesAreCounted n counter amount views) where
  pub counts_snoc : (w : JobView) → w.counted ≡ [] → RolesAreCounted n counter amount (views ++ w ∷ [])
  counts_snoc w nil = record {
    each = λ r l c. let e = ct.each r l c in (e.0, at_longer views (w ∷ []) (counter r) e.0 e.1, e.2);
    only = λ j d r there c. ⊎_elim (λ t. ct.only j d r t c) (λ t. absurd (c (ap (λ (u : JobView). amount_in r u.counted) (sym t.1) ∙ ap (amount_in r) nil))) (at_snoc_where views w d j there);
  }

  module _ (id : ℕ) (v : JobView) (at : get_elem? views id ≡ some v) where
    pub counts_same : (w : JobView) → w.counted ≡ v.counted → RolesAreCounted n counter amount (set views id w)
    counts_same w same = record {
      each = λ r l c. let e = ct.each r l c in dite (ℕ_discrete (counter r) id)
          (λ is. (
            w,
            ap (get_elem? (set views id w)) is ∙ set_here views id w (at_below views id v at),
            ap (amount_in r) same
                ∙ ap (λ (u : JobView). amount_in r u.counted) (some-injective v e.0 (sym at ∙ ap (get_elem? views) (sym is) ∙ e.1)) ∙ e.2,
          ))
          (λ ne. (e.0, set_else views id (counter r) w ne ∙ e.1, e.2));
      only = λ j d r there c. ⊎_elim
          (λ t. let q : amount_in r d.counted ≡ amount_in r v.counted = ap (λ (u : JobView). amount_in r u.counted) (sym t.1)
          ∙ ap (amount_in r) same in let o = ct.only id v r at (λ z. c (q ∙ z)) in (o.0, o.1 ∙ sym t.0, q ∙ o.2))
          (λ t. ct.only j d r t.1 c)
          (at_set views id j w d there);
    }

    pub counts_add : (r a : ℕ) → r < n → amount r ≡ 0 → RolesAreCounted n (at_put counter r id) (at_put amount r a) (set views id (counting r a v))
    counts_add r a l free = let w : JobView = counting r a v in
        let none : (j : ℕ) (d : JobView) → get_elem? views j ≡ some d → amount_in r d.counted ≡ 0
        = λ j d there. dite (ℕ_discrete (amount_in r d.counted) 0) (λ z. z) (λ c. let o = ct.only j d r there c in o.2 ∙ free) in
        let here : amount_in r w.counted ≡ a = amount_here r a v.counted ∙ ap (λ (k : ℕ). a + k) (none id v at) ∙ omega arith in record {
          each = λ y b c. dite (ℕ_discrete y r)
              (λ is. (
                w,
                ap (get_elem? (set views id w)) (put_case counter r id y (λ z. z ≡ id) (λ _. refl) (λ no. absurd (no is))) ∙ set_here views id w (at_below views id v at),
                ap (λ (k : ℕ). amount_in k w.counted) is ∙ here ∙ sym (put_case amount r a y (λ z. z ≡ a) (λ _. refl) (λ no. absurd (no is))),
              ))
              (λ ne. let ca : at_put amount r a y ≡ amount y = put_case amount r a y (λ z. z ≡ amount y) (λ e. absurd (ne e))
              (λ _. refl) in let cc' : at_put counter r id y ≡ counter y = put_case counter r id y (λ z. z ≡ counter y) (λ e. absurd (ne e)) (λ _. refl) in
              let e = ct.each y b (λ z. c (ca ∙ z)) in dite (ℕ_discrete (counter y) id)
              (λ is. let q : v ≡ e.0 = some-injective v e.0 (sym at ∙ ap (get_elem? views) (sym is) ∙ e.1) in (
                w,
                ap (get_elem? (set views id w)) (cc' ∙ is) ∙ set_here views id w (at_below views id v at),
                amount_other y r a v.counted ne ∙ ap (λ (u : JobView). amount_in y u.counted) q ∙ e.2
                    ∙ sym ca,
              ))
              (λ no. (e.0, ap (get_elem? (set views id w)) cc' ∙ set_else views id (counter y) w no ∙ e.1, e.2 ∙ sym ca)));
          only = λ j d y there c. ⊎_elim
              (λ t. let q : amount_in y d.counted ≡ amount_in y w.counted = ap (λ (u : JobView). amount_in y u.counted) (sym t.1) in dite (ℕ_discrete y r)
              (λ is. (
                subst (λ (z : ℕ). z < n) (sym is) l,
                put_case counter r id y (λ z. z ≡ j) (λ _. sym t.0) (λ no. absurd (no is)),
                q ∙ ap (λ (k : ℕ). amount_in k w.counted) is ∙ here ∙ sym (put_case amount r a y (λ z. z ≡ a) (λ _. refl) (λ no. absurd (no is))),
              ))
              (λ ne. let q' : amount_in y d.counted ≡ amount_in y v.counted = q ∙ amount_other y r a v.counted ne in let o = ct.only id v y at (λ z. c (q' ∙ z)) in
              (o.0, put_case counter r id y (λ z. z ≡ j) (λ e. absurd (ne e)) (λ _. o.1 ∙ sym t.0), q' ∙ o.2 ∙ sym (put_case amount r a y (λ z. z ≡ amount y) (λ e. absurd (ne e)) (λ _. refl)))))
              (λ t. let ne : y ≢ r = λ is. c (ap (λ (k : ℕ). amount_in k d.counted) is ∙ none j d t.1) in let o = ct.only j d y t.1 c in
              (o.0, put_case counter r id y (λ z. z ≡ j) (λ e. absurd (ne e)) (λ _. o.1), o.2 ∙ sym (put_case amount r a y (λ z. z ≡ amount y) (λ e. absurd (ne e)) (λ _. refl))))
              (at_set views id j w d there);
        }

    pub counts_join : (other : ℕ) (u : JobView) → other ≢ id → get_elem? views other ≡ some u
        → RolesAreCounted n (λ y. if counter y == other then id else counter y) amount (set (set views id (sum_of_views v u)) other view_of_nothing)
    counts_join other u apart at' = let w : JobView = sum_of_views v u in let us : List JobView = set views id w in let vs : List JobView = set us other view_of_nothing in
        let there : get_elem? vs id ≡ some w = set_else us other id view_of_nothing (λ e. apart (sym e)) ∙ set_here views id w (at_below views id v at) in
        let both : (y : ℕ) → amount_in y w.counted ≡ amount_in y v.counted + amount_in y u.counted = λ y. amount_append y v.counted u.counted in record {
          each = λ y b c. let e = ct.each y b c in elim (eqb_tells (counter y) other) [
            | inl h ↦ let same : u ≡ e.0 = some-injective u e.0 (sym at' ∙ ap (get_elem? views) (sym h.1) ∙ e.1) in
                let quiet : amount_in y v.counted ≡ 0 = dite (ℕ_discrete (amount_in y v.counted) 0) (λ z. z) (λ m. absurd (apart (sym h.1 ∙ (ct.only id v y at m).1))) in
                let sum : amount_in y v.counted + amount_in y u.counted ≡ amount_in y u.counted = omega arith in
                (w, ap (λ b. get_elem? vs (if b then id else counter y)) h.0 ∙ there, both y ∙ sum ∙ ap (λ (d : JobView). amount_in y d.counted) same ∙ e.2)
            | inr h ↦ dite (ℕ_discrete (counter y) id)
                (λ own. let same : v ≡ e.0 = some-injective v e.0 (sym at ∙ ap (get_elem? views) (sym own) ∙ e.1) in
                let quiet : amount_in y u.counted ≡ 0 = dite (ℕ_discrete (amount_in y u.counted) 0) (λ z. z) (λ m. absurd (h.1 (ct.only other u y at' m).1)) in
                let sum : amount_in y v.counted + amount_in y u.counted ≡ amount_in y v.counted = omega arith in
                (w, ap (λ b. get_elem? vs (if b then id else counter y)) h.0 ∙ ap (get_elem? vs) own ∙ there, both y ∙ sum ∙ ap (λ (d : JobView). amount_in y d.counted) same ∙ e.2))
                (λ not. (e.0, ap (λ b. get_elem? vs (if b then id else counter y)) h.0 ∙ set_else us other (counter y) view_of_nothing h.1 ∙ set_else views id (counter y) w not ∙ e.1, e.2))
          ];
          only = λ j d y found c. ⊎_elim
              (λ t. absurd (c (ap (λ (k : JobView). amount_in y k.counted) (sym t.1))))
              (λ t. ⊎_elim
              (λ t'. let q : amount_in y d.counted ≡ amount_in y v.counted + amount_in y u.counted = ap (λ (k : JobView). amount_in y k.counted) (sym t'.1)
              ∙ both y in dite (ℕ_discrete (amount_in y v.counted) 0)
              (λ z. let m : amount_in y u.counted ≢ 0 = λ z'. c
              (q ∙ omega arith) in let o = ct.only other u y at' m in let sum : amount_in y v.counted + amount_in y u.counted ≡ amount_in y u.counted = omega arith in
              (o.0, ap (λ b. if b then id else counter y) (eq-eqb (counter y) other o.1) ∙ sym t'.0, q ∙ sum ∙ o.2))
              (λ m. let o = ct.only id v y at m in
              let quiet : amount_in y u.counted ≡ 0 = dite (ℕ_discrete (amount_in y u.counted) 0) (λ z. z) (λ m'. absurd (apart (sym (ct.only other u y at' m').1 ∙ o.1))) in
              let sum : amount_in y v.counted + amount_in y u.counted ≡ amount_in y v.counted = omega arith in
              (o.0, ap (λ b. if b then id else counter y) (ne_eqb (counter y) other (λ e. apart (sym e ∙ o.1))) ∙ o.1 ∙ sym t'.0, q ∙ sum ∙ o.2)))
              (λ t'. let o = ct.only j d y t'.1 c in (o.0, ap (λ b. if b then id else counter y) (ne_eqb (counter y) other (λ e. t.0 (sym o.1 ∙ e))) ∙ o.1, o.2))
              (at_set views id j w d t.1))
              (at_set us other j view_of_nothing d found);
        }

-- what they know of the word of ends
module _ (n word : ℕ) (amount : ℕ → ℕ) (views : List JobView) (en : EndsWord n word amount views) where
  pub ends_snoc : (w : JobView) → w.counted ≡ [] → w.seen ≡ 0 → EndsWord n word amount (views ++ w ∷ [])
  ends_snoc w nil zero' = record {
    roles = en.roles;
    counted = let a = sum_by-append count_of_view views (w ∷ []) in let b' = sum_by-cons count_of_view w [] in let b : count_of_view w ≡ 0 = ap
        (λ cs. sum_by {X = Count} (λ c. c.amount) cs) nil in let c = en.counted in omega arith;
    seen = λ j d there. ⊎_elim (λ t. en.seen j d t) (λ t. let e : d.seen ≡ 0 = ap (λ (u : JobView). u.seen) (sym t.1) ∙ zero' in omega arith) (at_snoc_where views w d j there);
  }

  module _ (id : ℕ) (v : JobView) (at : get_elem? views id ≡ some v) where
    pub ends_same : (w : JobView) → w.counted ≡ v.counted → w.seen ≤ word → EndsWord n word amount (set views id w)
    ends_same w same le = record {
      roles = en.roles;
      counted = let a = sum_set count_of_view views id v w at in let b : count_of_view w ≡ count_of_view v = ap (λ cs. sum_by {X = Count} (λ c. c.amount) cs) same in let c = en.counted in omega arith;
      seen = λ j d there. ⊎_elim (λ t. subst (λ (u : JobView). u.seen ≤ word) t.1 le) (λ t. en.seen j d t.1) (at_set views id j w d there);
    }

    pub ends_add : (r a : ℕ) → r < n → amount r ≡ 0 → EndsWord n (word + a) (at_put amount r a) (set views id (counting r a v))
    ends_add r a l free = let w : JobView = counting r a v in record {
      roles = let t = total_put amount r a n l in let c = en.roles in omega arith;
      counted = let t = sum_set count_of_view views id v w at in let b : count_of_view w ≡ a + count_of_view v = sum_by-cons {X = Count} (λ c. c.amount)
          (record { role = r; amount = a }) v.counted in let c = en.counted in omega arith;
      seen = λ j d there. ⊎_elim (λ t. let s = en.seen id v at in let e : d.seen ≡ v.seen = ap (λ (u : JobView). u.seen) (sym t.1) in omega arith) (λ t. let s = en.seen j d t.1 in omega arith)
          (at_set views id j w d there);
    }

    pub ends_join : (other : ℕ) (u : JobView) → other ≢ id → get_elem? views other ≡ some u → EndsWord n word amount (set (set views id (sum_of_views v u)) other view_of_nothing)
    ends_join other u apart at' = let w : JobView = sum_of_views v u in let us : List JobView = set views id w in let at'' : get_elem? us other ≡ some u = set_else views id other w apart ∙ at' in
        record {
          roles = en.roles;
          counted = let a = sum_set count_of_view views id v w at in let b = sum_set count_of_view us other u view_of_nothing at'' in let b' : count_of_view view_of_nothing ≡ 0 =
              refl in let c : count_of_view w ≡ count_of_view v + count_of_view u = sum_by-append {X = Count} (λ c. c.amount) v.counted u.counted in let d = en.counted in omega arith;
          seen = λ j d there. ⊎_elim (λ t. let e : d.seen ≡ 0 = ap (λ (k : JobView). k.seen) (sym t.1) in omega arith)
              (λ t. ⊎_elim (λ t'. subst (λ (k : JobView). k.seen ≤ word) t'.1 (max-le (en.seen id v at) (en.seen other u at'))) (λ t'. en.seen j d t'.1) (at_set views id j w d t.1))
              (at_set us other j view_of_nothing d there);
        }
