-- How the table of jobs starts, and what its end says.
use Rattle.std.proofs.Common.{◌≡◌, ◌⊎◌, ℕ, zero, suc, ◌+◌, ◌<◌, ◌≤◌, List, [], ◌∷◌, ◌++◌, length, map, replicate, take, take_all, get_or, set, Bool, true, false, get_or-set_same, get_or-set_other}
use Rattle.std.proofs.Common.{slice_index, refl, sym, ap, ◌∙◌, subst, inl, inr, ⊎_elim, arith, Option, Some, None, zero-le}
use Rattle.std.proofs.lemmas.List.Sums.{sum_by-cons}
use mathlib.Core.Option.{some, some-injective, some-ne-none}
use native.Mathlib.Decide.{ℕ_discrete}
use mathlib.Core.Logic.{dite}
use lib.ListN.{get_elem?, length-map, length-replicate}
use Rattle.atomic_table.specs.Table.{State, Seen, Final, opening}
use Rattle.atomic_table.proofs.Lists.{at_map}
use Rattle.rs_rings.proofs.Seats.{zeros}
use Rattle.rs_pool.specs.declared.views.JobView.{JobView}
use Rattle.rs_pool.specs.Rule.{PoolShows, view_at_start, sum_over_roles, amount_in}
use Rattle.rs_pool.specs.Calls.{AreCollected, AreSeated}
use Rattle.rs_pool.proofs.Sums.{two_le, all_or_some}
use Rattle.rs_rings.proofs.OneRing.{at_below}
use Rattle.rs_pool.proofs.Known.{some_none}

-- what the slots hold in the end: each role's job, and all have ended or one has stopped
pub record AreSettled {T : Type 0} (Fits : ℕ → T → Type 0) (Over : ℕ → T → Type 0) (n : ℕ) (xs : List (Option T)) : Type 0 where
  pub count : length xs ≡ n
  pub tasks : (r : ℕ) → r < n → (t : T) × (get_elem? xs r ≡ some (Some t)) × Fits r t
  pub over : ((r : ℕ) (t : T) → r < n → get_elem? xs r ≡ some (Some t) → Over 1 t) ⊎ ((r : ℕ) × (t : T) × (r < n) × (get_elem? xs r ≡ some (Some t)) × Over 16 t)

one_view : (v d : JobView) (j : ℕ) → get_elem? (v ∷ []) j ≡ some d → v ≡ d
one_view v d zero e = some-injective v d e
one_view v d (suc j) e = absurd (some-ne-none d (sym e))

nothing : (n : ℕ) → sum_over_roles (λ _. 0) n ≡ 0
nothing zero = refl
nothing (suc n) = let h = nothing n in omega arith

pub some_task : {T : Type 0} (t u : T) → some (Some t) ≡ some (Some u) → t ≡ u
some_task t u e = cc

pub some_no_task : {T : Type 0} (t : T) → some (Some t) ≡ some None → ⊥
some_no_task t e = cc

pub map_at : {A : Type 0} (l : List A) (i : ℕ) (a : A) → get_elem? (map Some l) i ≡ some (Some a) → get_elem? l i ≡ some a
map_at [] i a e = absurd (some-ne-none (Some a) (sym e))
map_at (x ∷ xs) zero a e = ap some (some_task x a e)
map_at (x ∷ xs) (suc i) a e = map_at xs i a e

pub take_at : {A : Type 0} (l : List A) (i : ℕ) (a : A) → get_elem? l i ≡ some a → take (i + 1) l ≡ take i l ++ a ∷ []
take_at l i a e = ap (λ (k : ℕ). take k l) plus ∙ go l i a e
  where
    plus : i + 1 ≡ suc i
    plus = omega arith

    go : {A : Type 0} (l : List A) (i : ℕ) (a : A) → get_elem? l i ≡ some a → take (suc i) l ≡ take i l ++ a ∷ []
    go [] i a e = absurd (some-ne-none a (sym e))
    go (x ∷ xs) zero a e = ap (λ y. y ∷ []) (some-injective x a e)
    go (x ∷ xs) (suc i) a e = ap (λ ys. x ∷ ys) (go xs i a e)

pub map_snoc : {A : Type 0} (l : List A) (a : A) → map Some (l ++ a ∷ []) ≡ map Some l ++ Some a ∷ []
map_snoc [] a = refl
map_snoc (x ∷ xs) a = ap (λ ys. Some x ∷ ys) (map_snoc xs a)

-- one more is taken out
pub takes_one : {A : Type 0} (ts us : List A) (xs : List (Option A)) (i : ℕ) (a : A) → map Some ts ≡ take i xs → us ≡ ts ++ a ∷ [] → get_elem? xs i ≡ some (Some a) → map Some us ≡ take (i + 1) xs
takes_one ts us xs i a e is at = ap (map Some) is ∙ map_snoc ts a ∙ ap (λ ys. ys ++ Some a ∷ []) e ∙ sym (take_at xs i (Some a) at)

-- a slot is taken out
pub still_filled : (fs gs : List Bool) (i m m' : ℕ) → gs ≡ set fs i false → m' ≡ m → ((k : ℕ) → i ≤ k → k < m → get_or fs k false ≡ true) → (k : ℕ) → i + 1 ≤ k → k < m' → get_or gs k false ≡ true
still_filled fs gs i m m' e f h k lo hi = ap (λ l. get_or l k false) e ∙ get_or-set_other fs i k false false (λ q. omega arith) ∙ h k (omega arith) (omega arith)

pub now_empty : (fs gs : List Bool) (i : ℕ) → gs ≡ set fs i false → i < length fs → ((k : ℕ) → k < i → get_or fs k false ≡ false) → (k : ℕ) → k < i + 1 → get_or gs k false ≡ false
now_empty fs gs i e near h k lt = ap (λ l. get_or l k false) e ∙ dite (ℕ_discrete k i)
    (λ is. ap (λ z. get_or (set fs i false) z false) is ∙ get_or-set_same fs i false false near)
    (λ ne. get_or-set_other fs i k false false ne ∙ h k (omega arith))

module _ {T : Type 0} (Fits : ℕ → T → Type 0) (Over : ℕ → T → Type 0) (n shares : ℕ) where
  pub begins : (words : ℕ) (xs : List (Option T)) → n ≤ 16 → words ≡ n + 1 → ((t : T) → Over 0 t) → AreSeated Fits n xs
      → PoolShows Fits Over n shares (opening (replicate words 0) xs (view_at_start shares))
  begins words xs few w none' b = record {
    holder = λ _. None;
    counter = λ _. 0;
    amount = λ _. 0;
    bounded = few;
    words_are = length-replicate words 0 ∙ w ∙ omega arith;
    homes_are = length-map xs some ∙ b.count;
    held = record {
      each = λ r j l e. absurd (some_none j None e refl);
      only = λ j d r at h. absurd (some_none r d.held h (ap (λ (u : JobView). u.held) (sym (one_view (view_at_start shares) d j at))));
    };
    counts = record {
      each = λ r l m. absurd (m refl);
      only = λ j d r at m. absurd (m (ap (λ (u : JobView). amount_in r u.counted) (sym (one_view (view_at_start shares) d j at))));
    };
    places = λ r l. let t = b.tasks r l in record {
      word_is = zeros words r;
      amount_is = inl refl;
      home = λ _. (t.0, at_map some xs r (Some t.0) t.1, t.2, none' t.0);
      own = λ j e m. absurd (m refl);
    };
    ends = record {
      roles = zeros words n ∙ sym (nothing n);
      counted = zeros words n ∙ refl;
      seen = λ j d at. let e : d.seen ≡ 0 = ap (λ (u : JobView). u.seen) (sym (one_view (view_at_start shares) d j at)) in subst (λ (k : ℕ). k ≤ slice_index (replicate {A = ℕ} words 0) n) (sym e)
          zero-le;
    };
    shared = let a = sum_by-cons {X = JobView} (λ d. d.shares) (view_at_start shares) [] in omega arith;
  }

  -- nobody else holds a task where one view has all shares
  all_home : (s : State (Option T) JobView) (sh : PoolShows Fits Over n shares s) (id : ℕ) (v : JobView) → get_elem? s.views id ≡ some v → v.held ≡ None → v.shares ≡ shares → (r : ℕ) → r < n
      → sh.holder r ≡ None
  all_home s sh id v at rests whole r l = go (sh.holder r) refl
    where
      go : (o : Option ℕ) → sh.holder r ≡ o → sh.holder r ≡ None
      go None e = e
      go (Some j) e = let h = sh.held.each r j l e in let p = (sh.held.only j h.0 r h.1 h.2).2 in dite (ℕ_discrete id j)
          (λ is. absurd (some_none r v.held (ap (λ (u : JobView). u.held) (some-injective v h.0 (sym at ∙ ap (get_elem? s.views) is ∙ h.1)) ∙ h.2) rests))
          (λ ne. let t = two_le {A = JobView} (λ d. d.shares) s.views id j v h.0 ne at h.1 in let w = sh.shared in absurd (omega arith))

  pub closes : (id : ℕ) (v : JobView) (ws : List ℕ) (xs : List (Option T)) → v.held ≡ None → v.shares ≡ shares → n ≤ v.seen → Final (Seen (PoolShows Fits Over n shares) id v) ws xs
      → AreSettled Fits Over n xs
  closes id v ws xs rests whole over f = let s = f.0 in let sh = f.1.0 in let at = f.1.1 in let same : length s.homes ≡ length xs = f.3 in
      let home = λ (r : ℕ) (l : r < n). (sh.places r l).home (all_home s sh id v at rests whole r l) in
      let there = λ (r : ℕ) (l : r < n). f.4 r (Some (home r l).0) (home r l).1 in
      let word : n ≤ slice_index s.words n = (let a = sh.ends.seen id v at in omega arith) in let e = sh.ends.roles in record {
        count = sym same ∙ sh.homes_are;
        tasks = λ r l. ((home r l).0, there r l, (home r l).2);
        over = ⊎_elim
            (λ all. inl (λ r t l e'. let is : (home r l).0 ≡ t = some_task (home r l).0 t (sym (there r l) ∙ e') in subst (λ (z : ℕ). Over z t) (all r l) (subst (Over (sh.amount r)) is (home r l).3)))
            (λ m. inr (m.0, (home m.0 m.1).0, m.1, there m.0 m.1, subst (λ (z : ℕ). Over z (home m.0 m.1).0) m.2 (home m.0 m.1).3))
            (all_or_some sh.amount n (λ r l. (sh.places r l).amount_is) (omega arith));
      }

  pub collected : (k : ℕ) (ts : List T) (xs : List (Option T)) → map Some ts ≡ take k xs → n ≤ k → AreSettled Fits Over n xs → AreCollected Fits Over n ts
  collected k ts xs e le st = let c = st.count in let whole : map Some ts ≡ xs = e ∙ take_all k xs (omega arith) in
      let up = λ (r : ℕ) (t : T) (at : get_elem? ts r ≡ some t). sym (ap (λ l. get_elem? l r) whole) ∙ at_map Some ts r t at in
      let long : length ts ≡ n = sym (length-map ts Some) ∙ ap length whole ∙ c in
      let near = λ (r : ℕ) (t : T) (at : get_elem? ts r ≡ some t). subst (λ (z : ℕ). r < z) long (at_below ts r t at) in record {
        count = long;
        tasks = λ r t at. let h = st.tasks r (near r t at) in subst (Fits r) (some_task h.0 t (sym h.1 ∙ up r t at)) h.2;
        over = ⊎_elim (λ all. inl (λ r t at. all r t (near r t at) (up r t at))) (λ m. inr (m.0, m.1, map_at ts m.0 m.1 (ap (λ l. get_elem? l m.0) whole ∙ m.3), m.4)) st.over;
      }
