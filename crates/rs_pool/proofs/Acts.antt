-- The six kinds of step keep the rule.
use Rattle.std.proofs.Common.{◌≡◌, ◌≢◌, ◌⊎◌, ℕ, zero, suc, ◌+◌, ◌%◌, ◌^◌, ◌<◌, ◌≤◌, if◌then◌else◌, ◌==◌, List, [], ◌∷◌, length, sum_by, set, slice_index, refl, sym, ap, ap₂, ◌∙◌, subst, inl, inr}
use Rattle.std.proofs.Common.{⊎_elim, arith, Bool, true, false, length-set, get_or-set_same, get_or-set_other, eq-eqb, ne_eqb, Option, Some, None, le_refl}
use Rattle.std.proofs.Math.Nat.{mod-eq_of_lt}
use Rattle.std.proofs.lemmas.List.Sums.{sum_by-cons, sum_by-append}
use prog.Atomic.{either}
use mathlib.Core.Option.{some, none, some-injective}
use mathlib.Core.Option as maybe
use native.Mathlib.Decide.{ℕ_discrete}
use mathlib.Core.Logic.{dite}
use lib.ListN.{get_elem?}
use lib.Seq.{set-get_or}
use Rattle.atomic_table.specs.Table.{State, Me, step, keeps, takes, gives, put_back, Allows, Splits, Joins}
use Rattle.atomic_table.proofs.Lists.{set_here, set_else, set_again}
use Rattle.rs_pool.specs.declared.views.JobView.{JobView}
use Rattle.rs_pool.specs.Rule.{JobIsPlaced, JobsArePlaced, facts, PoolShows, EndsWord, IsAmount, word_of}
use Rattle.rs_pool.specs.Rule.{amount_in, holding, view_without_job, counting, seeing, view_behind_share, view_with_one_share}
use Rattle.rs_pool.specs.Rule.{sum_of_views, view_of_nothing}
use Rattle.rs_pool.specs.Plays.{ClaimTells, GiveTells, CountTells, ReadTells}
use Rattle.rs_pool.proofs.Sums.{at_put, put_case, sum_set, total_le}
use Rattle.rs_pool.proofs.Known.{some_same, some_none, held_snoc, held_same, held_claim, held_free, counts_snoc, counts_same, counts_add, counts_join, ends_snoc, ends_same, ends_add, ends_join}

word_zero : (h : Option ℕ) (a : ℕ) → word_of h a ≡ 0 → (h ≡ None) × (a ≡ 0)
word_zero (Some j) a e = absurd (omega arith)
word_zero None zero e = (refl, refl)
word_zero None (suc a) e = absurd (omega arith)

pub home_word : (a w : ℕ) (b : Bool) → (b ≡ false → a ≡ 0) → (b ≡ true → 0 < a) → (b ≡ true → w ≡ 2) → (b ≡ false → w ≡ 0) → w ≡ word_of None a
home_word zero w true n y two nought = absurd (let l = y refl in omega arith)
home_word zero w false n y two nought = nought refl
home_word (suc a) w true n y two nought = two refl
home_word (suc a) w false n y two nought = absurd (let e = n refl in omega arith)

module _ {T : Type 0} (Fits : ℕ → T → Type 0) (Over : ℕ → T → Type 0) (n shares : ℕ) where
  abbrev St : Type 0
  St = State (Option T) JobView

  abbrev Homes : Type 0
  Homes = List (maybe.Option (Option T))

  -- one place changes, and the others stay
  pub places_put : (words words' : List ℕ) (homes homes' : Homes) (holder holder' : ℕ → Option ℕ) (counter counter' amount amount' : ℕ → ℕ) (r : ℕ)
      → JobsArePlaced Fits Over n words homes holder counter amount
      → ((y : ℕ) → y < n → y ≢ r → facts {T = T} words homes holder counter amount y ≡ facts words' homes' holder' counter' amount' y)
      → JobIsPlaced (Fits r) Over (facts words' homes' holder' counter' amount' r) → JobsArePlaced Fits Over n words' homes' holder' counter' amount'
  places_put words words' homes homes' holder holder' counter counter' amount amount' r ps stay mine y l = dite (ℕ_discrete y r)
      (λ is. subst (λ (z : ℕ). JobIsPlaced (Fits z) Over (facts words' homes' holder' counter' amount' z)) (sym is) mine)
      (λ ne. subst (JobIsPlaced (Fits y) Over) (stay y l ne) (ps y l))

  module _ (s : St) (sh : PoolShows Fits Over n shares s) (id : ℕ) (v : JobView) (at : get_elem? s.views id ≡ some v) where
    -- what is known of a role whose task this view holds
    pub mine_is : (r : ℕ) → v.held ≡ Some r → (r < n) × (sh.holder r ≡ Some id) × (sh.amount r ≡ amount_in r v.counted)
    mine_is r has = let o = sh.held.only id v r at has in let p = sh.places r o.0 in (
      o.0,
      o.1,
      dite (ℕ_discrete (sh.amount r) 0)
          (λ z. dite (ℕ_discrete (amount_in r v.counted) 0) (λ z'. z ∙ sym z') (λ m. sym (sh.counts.only id v r at m).2))
          (λ m. let e = sh.counts.each r o.0 m in sym e.2 ∙ ap (λ (d : JobView). amount_in r d.counted) (some-injective e.0 v (sym e.1 ∙ ap (get_elem? s.views) (p.own id o.1 m) ∙ at))),
    )

    pub same_shares : (w : JobView) → w.shares ≡ v.shares → sum_by (λ d. d.shares) (set s.views id w) ≡ shares
    same_shares w e = let t = sum_set {A = JobView} (λ d. d.shares) s.views id v w at in let h = sh.shared in omega arith

    quiet : (words' : List ℕ) (views' : List JobView) → words' ≡ s.words → views' ≡ s.views → PoolShows Fits Over n shares record { words = words'; homes = s.homes; views = views' }
    quiet words' views' p q = subst {A = St} (PoolShows Fits Over n shares) (λ i. record { words = sym p i; homes = s.homes; views = sym q i }) sh

    claim_hits : (r : ℕ) (t : T) → r < n → v.held ≡ None → 0 < v.shares → sh.holder r ≡ None → sh.amount r ≡ 0 → PoolShows Fits Over n shares record {
      words = set s.words r 1;
      homes = set s.homes r none;
      views = set s.views id (holding r v);
    }
    claim_hits r t l empty pos free zero' = let here : r < length s.words = subst (λ (z : ℕ). r < z) (sym sh.words_are) (omega arith) in record {
      holder = at_put sh.holder r (Some id);
      counter = sh.counter;
      amount = sh.amount;
      bounded = sh.bounded;
      words_are = length-set s.words r 1 ∙ sh.words_are;
      homes_are = length-set s.homes r none ∙ sh.homes_are;
      held = held_claim n sh.holder s.views sh.held id v at r l free empty pos;
      counts = counts_same n sh.counter sh.amount s.views sh.counts id v at (holding r v) refl;
      places = places_put s.words (set s.words r 1) s.homes (set s.homes r none) sh.holder (at_put sh.holder r (Some id)) sh.counter sh.counter sh.amount sh.amount r sh.places
          (λ y b ne i. record {
            word = sym (get_or-set_other s.words r y 1 0 ne) i;
            slot = sym (set_else s.homes r y none ne) i;
            holder = put_case sh.holder r (Some id) y (λ z. sh.holder y ≡ z) (λ e. absurd (ne e)) (λ _. refl) i;
            counter = sh.counter y;
            amount = sh.amount y;
          })
          (let mine : at_put sh.holder r (Some id) r ≡ Some id = put_case sh.holder r (Some id) r (λ z. z ≡ Some id) (λ _. refl) (λ ne. absurd (ne refl)) in record {
            word_is = get_or-set_same s.words r 1 0 here ∙ ap (λ h. word_of h (sh.amount r)) (sym mine);
            amount_is = inl zero';
            home = λ e. absurd (some_none id (at_put sh.holder r (Some id) r) mine e);
            own = λ j e m. absurd (m zero');
          });
      ends = subst (λ (z : ℕ). EndsWord n z sh.amount (set s.views id (holding r v))) (sym (get_or-set_other s.words r n 1 0 (λ e. omega arith)))
          (ends_same n (slice_index s.words n) sh.amount s.views sh.ends id v at (holding r v) refl (sh.ends.seen id v at));
      shared = same_shares (holding r v) refl;
    }

    give_home : (r : ℕ) (t : T) (new : ℕ) → v.held ≡ Some r → Fits r t → Over (amount_in r v.counted) t → new ≡ word_of None (amount_in r v.counted)
        → PoolShows Fits Over n shares record { words = set s.words r new; homes = set s.homes r (some (Some t)); views = set s.views id (view_without_job v) }
    give_home r t new has fits over is = let k = mine_is r has in let l = k.0 in let h : maybe.Option (Option T) = some (Some t) in let here : r < length s.words =
        subst (λ (z : ℕ). r < z) (sym sh.words_are) (omega arith) in record {
          holder = at_put sh.holder r None;
          counter = sh.counter;
          amount = sh.amount;
          bounded = sh.bounded;
          words_are = length-set s.words r new ∙ sh.words_are;
          homes_are = length-set s.homes r h ∙ sh.homes_are;
          held = held_free n sh.holder s.views sh.held id v at r has;
          counts = counts_same n sh.counter sh.amount s.views sh.counts id v at (view_without_job v) refl;
          places = places_put s.words (set s.words r new) s.homes (set s.homes r h) sh.holder (at_put sh.holder r None) sh.counter sh.counter sh.amount sh.amount r sh.places
              (λ y b ne i. record {
                word = sym (get_or-set_other s.words r y new 0 ne) i;
                slot = sym (set_else s.homes r y h ne) i;
                holder = put_case sh.holder r None y (λ z. sh.holder y ≡ z) (λ e. absurd (ne e)) (λ _. refl) i;
                counter = sh.counter y;
                amount = sh.amount y;
              })
              (let mine : at_put sh.holder r None r ≡ None = put_case sh.holder r None r (λ z. z ≡ None) (λ _. refl) (λ ne. absurd (ne refl)) in record {
                word_is = get_or-set_same s.words r new 0 here ∙ is ∙ ap₂ word_of (sym mine) (sym k.2);
                amount_is = (sh.places r l).amount_is;
                home = λ e. (t, set_here s.homes r h (subst (λ (z : ℕ). r < z) (sym sh.homes_are) l), fits, subst (λ (z : ℕ). Over z t) (sym k.2) over);
                own = λ j e m. absurd (some_none j (at_put sh.holder r None r) e mine);
              });
          ends = subst (λ (z : ℕ). EndsWord n z sh.amount (set s.views id (view_without_job v))) (sym (get_or-set_other s.words r n new 0 (λ e. omega arith)))
              (ends_same n (slice_index s.words n) sh.amount s.views sh.ends id v at (view_without_job v) refl (sh.ends.seen id v at));
          shared = same_shares (view_without_job v) refl;
        }

    add_end : (r a : ℕ) → v.held ≡ Some r → amount_in r v.counted ≡ 0 → (a ≡ 1) ⊎ (a ≡ 16)
        → PoolShows Fits Over n shares record { words = set s.words n (slice_index s.words n + a); homes = s.homes; views = set s.views id (counting r a v) }
    add_end r a has new is = let k = mine_is r has in let l = k.0 in let free : sh.amount r ≡ 0 = k.2 ∙ new in let word : ℕ = slice_index s.words n in let here : n < length s.words =
        subst (λ (z : ℕ). n < z) (sym sh.words_are) (omega arith) in record {
          holder = sh.holder;
          counter = at_put sh.counter r id;
          amount = at_put sh.amount r a;
          bounded = sh.bounded;
          words_are = length-set s.words n (word + a) ∙ sh.words_are;
          homes_are = sh.homes_are;
          held = held_same n sh.holder s.views sh.held id v at (counting r a v) refl (λ y e. (sh.held.only id v y at e).2);
          counts = counts_add n sh.counter sh.amount s.views sh.counts id v at r a l free;
          places = places_put s.words (set s.words n (word + a)) s.homes s.homes sh.holder sh.holder sh.counter (at_put sh.counter r id) sh.amount (at_put sh.amount r a) r sh.places
              (λ y b ne i. record {
                word = sym (get_or-set_other s.words n y (word + a) 0 (λ e. omega arith)) i;
                slot = get_elem? s.homes y;
                holder = sh.holder y;
                counter = put_case sh.counter r id y (λ z. sh.counter y ≡ z) (λ e. absurd (ne e)) (λ _. refl) i;
                amount = put_case sh.amount r a y (λ z. sh.amount y ≡ z) (λ e. absurd (ne e)) (λ _. refl) i;
              })
              (let p = sh.places r l in let mine : at_put sh.amount r a r ≡ a = put_case sh.amount r a r (λ z. z ≡ a) (λ _. refl) (λ ne. absurd (ne refl))
              in let who : at_put sh.counter r id r ≡ id = put_case sh.counter r id r (λ z. z ≡ id) (λ _. refl) (λ ne. absurd (ne refl)) in record {
                word_is = get_or-set_other s.words n r (word + a) 0 (λ e. omega arith) ∙ p.word_is ∙ ap (λ h. word_of h (sh.amount r)) k.1 ∙ sym (ap (λ h. word_of h (at_put sh.amount r a r)) k.1);
                amount_is = subst IsAmount (sym mine) (inr is);
                home = λ e. absurd (some_none id (sh.holder r) k.1 e);
                own = λ j e m. who ∙ some_same id j (sym k.1 ∙ e);
              });
          ends = subst (λ (z : ℕ). EndsWord n z (at_put sh.amount r a) (set s.views id (counting r a v))) (sym (get_or-set_same s.words n (word + a) 0 here))
              (ends_add n word sh.amount s.views sh.ends id v at r a l free);
          shared = same_shares (counting r a v) refl;
        }

    pub word_small : slice_index s.words n ≤ 256
    word_small = let t = total_le sh.amount n (λ r l. (sh.places r l).amount_is) in let e = sh.ends.roles in let f = sh.bounded in omega arith

    see_ends : (words' : List ℕ) → words' ≡ s.words → PoolShows Fits Over n shares record { words = words'; homes = s.homes; views = set s.views id (seeing (slice_index s.words n) v) }
    see_ends words' p = let w : JobView = seeing (slice_index s.words n) v in subst (λ (ws : List ℕ). PoolShows Fits Over n shares record { words = ws; homes = s.homes; views = set s.views id w })
        (sym p) record {
          holder = sh.holder;
          counter = sh.counter;
          amount = sh.amount;
          bounded = sh.bounded;
          words_are = sh.words_are;
          homes_are = sh.homes_are;
          held = held_same n sh.holder s.views sh.held id v at w refl (λ y e. (sh.held.only id v y at e).2);
          counts = counts_same n sh.counter sh.amount s.views sh.counts id v at w refl;
          places = sh.places;
          ends = ends_same n (slice_index s.words n) sh.amount s.views sh.ends id v at w refl (le_refl (slice_index s.words n));
          shared = same_shares w refl;
        }

  -- kind 1
  pub claims : (slots id r : ℕ) (me : Me (Option T) JobView) → r < n → me.0.held ≡ None → 0 < me.0.shares
      → Allows (PoolShows Fits Over n shares) slots id me r (λ k. either (k == 0) 1 k) (ClaimTells Fits (step slots r 0 1 none) me)
  claims slots id r me l empty pos s sh long at small = let v : JobView = me.0 in let p = sh.places r l in let k : ℕ = slice_index s.words r in dite (ℕ_discrete k 0)
      (λ hit. let z = word_zero (sh.holder r) (sh.amount r) (sym p.word_is ∙ hit) in let h = p.home z.0 in
      let none' : amount_in r v.counted ≡ 0 = dite (ℕ_discrete (amount_in r v.counted) 0) (λ e. e) (λ m. (sh.counts.only id v r at m).2 ∙ z.1) in (
        holding r v,
        takes r (Some h.0),
        h.1,
        subst (λ (b : ℕ). PoolShows Fits Over n shares record { words = set s.words r b; homes = set s.homes r none; views = set s.views id (holding r v) })
            (ap (λ b. either b 1 k) (sym (eq-eqb k 0 hit))) (claim_hits s sh id v at r h.0 l empty pos z.0 z.1),
        ((λ _. (h.0, h.2, none', refl)), λ miss. absurd (miss hit)),
      ))
      (λ miss. (
        v,
        keeps,
        tt,
        quiet s sh id v at (set s.words r (either (k == 0) 1 k)) (set s.views id v) (ap (λ b. set s.words r (either b 1 k)) (ne_eqb k 0 miss) ∙ set-get_or s.words r 0) (set_again s.views id v at),
        ((λ hit. absurd (miss hit)), λ _. refl),
      ))

  -- kind 2
  pub gives_back : (slots id r new : ℕ) (me : Me (Option T) JobView) (t : T) (cs : List (ℕ × Option T)) → me.1 ≡ (r, Some t) ∷ cs → me.0.held ≡ Some r → Fits r t → Over (amount_in r me.0.counted) t
      → new ≡ word_of None (amount_in r me.0.counted)
      → Allows (PoolShows Fits Over n shares) slots id me r (λ _. new) (λ _. GiveTells (step slots r new 0 none) me new)
  gives_back slots id r new (v, ds) t cs carries has fits over is s sh long at small = (
    view_without_job v,
    gives,
    tt,
    subst (λ (ms : List (ℕ × Option T)). PoolShows Fits Over n shares record { words = set s.words r new; homes = put_back s.homes ms; views = set s.views id (view_without_job v) }) (sym carries)
        (give_home s sh id v at r t new has fits over is),
    refl,
  )

  -- kind 3
  pub counts_end : (slots id r a : ℕ) (me : Me (Option T) JobView) → me.0.held ≡ Some r → amount_in r me.0.counted ≡ 0 → (a ≡ 1) ⊎ (a ≡ 16)
      → Allows (PoolShows Fits Over n shares) slots id me n (λ k. (k + a) % 2 ^ 64) (CountTells (step slots n a 0 none) me)
  counts_end slots id r a (v, ds) has new is s sh long at small = let word : ℕ = slice_index s.words n in let w = word_small s sh id v at in let a_small : a ≤ 16 =
      ⊎_elim (λ e. omega arith) (λ e. omega arith) is in
      let e : (word + a) % 2 ^ 64 ≡ word + a = mod-eq_of_lt (omega arith) in (
        counting r a v,
        keeps,
        tt,
        subst (λ (b : ℕ). PoolShows Fits Over n shares record { words = set s.words n b; homes = s.homes; views = set s.views id (counting r a v) }) (sym e) (add_end s sh id v at r a has new is),
        λ y has'. ap (λ (k : ℕ). (counting k a v, ds)) (some_same r y (sym has ∙ has')),
      )

  -- kind 4
  pub sees : (slots id : ℕ) (me : Me (Option T) JobView) → Allows (PoolShows Fits Over n shares) slots id me n (λ k. k) (ReadTells (step slots n 0 0 none) me)
  sees slots id (v, ds) s sh long at small = let k : ℕ = slice_index s.words n in (
    seeing k v,
    keeps,
    tt,
    see_ends s sh id v at (set s.words n k) (set-get_or s.words n 0),
    (sh.ends.seen id v at, refl),
  )

  -- kind 5
  pub splits : (id : ℕ) (v : JobView) → 2 ≤ v.shares → Splits (PoolShows Fits Over n shares) id v (view_behind_share v) (view_with_one_share v)
  splits id v two s sh at = let us : List JobView = set s.views id (view_behind_share v) in record {
    holder = sh.holder;
    counter = sh.counter;
    amount = sh.amount;
    bounded = sh.bounded;
    words_are = sh.words_are;
    homes_are = sh.homes_are;
    held = held_snoc n sh.holder us (held_same n sh.holder s.views sh.held id v at (view_behind_share v) refl (λ r e. omega arith)) (view_with_one_share v) refl;
    counts = counts_snoc n sh.counter sh.amount us (counts_same n sh.counter sh.amount s.views sh.counts id v at (view_behind_share v) refl) (view_with_one_share v) refl;
    places = sh.places;
    ends = ends_snoc n (slice_index s.words n) sh.amount us (ends_same n (slice_index s.words n) sh.amount s.views sh.ends id v at (view_behind_share v) refl (sh.ends.seen id v at))
        (view_with_one_share v) refl refl;
    shared = let t = sum_set {A = JobView} (λ d. d.shares) s.views id v (view_behind_share v) at in let a = sum_by-append {X = JobView} (λ d. d.shares) us (view_with_one_share v ∷ []) in let b =
        sum_by-cons {X = JobView} (λ d. d.shares) (view_with_one_share v) [] in let h = sh.shared in omega arith;
  }

  -- kind 6
  pub joins : (id : ℕ) (v : JobView) (other : ℕ) (u : JobView) → u.held ≡ None → Joins (PoolShows Fits Over n shares) id v other u (sum_of_views v u) view_of_nothing
  joins id v other u empty s sh at apart at' = let w : JobView = sum_of_views v u in let us : List JobView = set s.views id w in let there : get_elem? s.views other ≡ some u =
      sym (set_else s.views id other w apart) ∙ at' in record {
        holder = sh.holder;
        counter = λ y. if sh.counter y == other then id else sh.counter y;
        amount = sh.amount;
        bounded = sh.bounded;
        words_are = sh.words_are;
        homes_are = sh.homes_are;
        held = held_same n sh.holder us (held_same n sh.holder s.views sh.held id v at w refl (λ r e. let o = (sh.held.only id v r at e).2 in omega arith)) other u at' view_of_nothing (sym empty)
            (λ r e. absurd (some_none r None e refl));
        counts = counts_join n sh.counter sh.amount s.views sh.counts id v at other u apart there;
        places = λ r l. let p = sh.places r l in record {
          word_is = p.word_is;
          amount_is = p.amount_is;
          home = p.home;
          own = λ j e m. let c = p.own j e m in let h = sh.held.each r j l e in
              let ne : j ≢ other = λ is. some_none r u.held (ap (λ (d : JobView). d.held) (some-injective u h.0 (sym there ∙ ap (get_elem? s.views) (sym is) ∙ h.1)) ∙ h.2) empty in
              ap (λ b. if b then id else sh.counter r) (ne_eqb (sh.counter r) other (λ q. ne (sym c ∙ q))) ∙ c;
        };
        ends = ends_join n (slice_index s.words n) sh.amount s.views sh.ends id v at other u apart there;
        shared = let t = sum_set {A = JobView} (λ d. d.shares) s.views id v w at in let t' = sum_set {A = JobView} (λ d. d.shares) us other u view_of_nothing at' in let h = sh.shared in omega arith;
      }

  -- kinds 3 and 4, where the number of roles is known by another name
  pub counts_end_at : (i : ℕ) → n ≡ i → (slots id r a : ℕ) (me : Me (Option T) JobView) → me.0.held ≡ Some r → amount_in r me.0.counted ≡ 0 → (a ≡ 1) ⊎ (a ≡ 16)
      → Allows (PoolShows Fits Over n shares) slots id me i (λ k. (k + a) % 2 ^ 64) (CountTells (step slots i a 0 none) me)
  counts_end_at i e slots id r a me has new is = subst (λ (j : ℕ). Allows (PoolShows Fits Over n shares) slots id me j (λ k. (k + a) % 2 ^ 64) (CountTells (step slots j a 0 none) me)) e
      (counts_end slots id r a me has new is)

  pub sees_at : (i : ℕ) → n ≡ i → (slots id : ℕ) (me : Me (Option T) JobView) → Allows (PoolShows Fits Over n shares) slots id me i (λ k. k) (ReadTells (step slots i 0 0 none) me)
  sees_at i e slots id me = subst (λ (j : ℕ). Allows (PoolShows Fits Over n shares) slots id me j (λ k. k) (ReadTells (step slots j 0 0 none) me)) e (sees slots id me)
