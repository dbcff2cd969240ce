-- Rings of the stated room: no configuration is stuck.
use Rattle.std.proofs.Common.{◌≡◌, ◌⊎◌, inl, inr, ℕ, zero, suc, ◌+◌, ◌*◌, ◌<◌, ◌≤◌, true, List, [], ◌∷◌, ◌++◌, Option, Some, None, slice_get, length, refl, sym, ap, ap₂, ◌∙◌, subst, subst₂, arith}
use Rattle.std.proofs.Common.{length-append, ltb}
use Rattle.std.proofs.lemmas.Bool.Decides.{eqb_tells, leb_tells}
use Rattle.rs_model.specs.Data.{Machine_data}
use Rattle.rs_model.specs.declared.graph.Arm.{Arm}
use Rattle.rs_model.specs.declared.graph.Role.{Role}
use Rattle.rs_model.specs.declared.machines.State.{State}
use Rattle.rs_model.specs.declared.machines.State.TheVariants.{Done, Puts, Takes}
use Rattle.rs_core.specs.declared.messages.Message.{Message}
use Rattle.rs_core.specs.Configurations.{Configuration, state_at}
use Rattle.rs_core.specs.Safety.{AllEnded}
use Rattle.rs_core.proofs.Items.{Item, Give, Get, Entry, entry, sends, recvs, sends_append, recvs_append, Ordered}
use Rattle.rs_core.proofs.Stands.{Known, Good, Stands, Peered}
use Rattle.rs_core.proofs.Going.{Stance, Over, Putting, Taking, stance, sends_above, Waits, owes, IsOver, all_ended, here_of}
use Rattle.rs_safety.proofs.Kept.{place_of, each_more}
use Rattle.rs_room.specs.Bounded.{CanMoveWithin, MayPut, MayTake, CanStepWithin}
use Rattle.rs_safety.proofs.Lag.{over, over_append, over_none, Aged}
use Rattle.rs_safety.proofs.Limits.{Bounds}
use Rattle.rs_safety.proofs.Places.{Here, EachEntry, entries_left, entries_right, sends_each, recvs_each, flight, wait_passed}

recvs_short : (q : ℕ) (xs : List Item) → length (recvs q xs) ≤ length xs
recvs_short q [] = omega arith
recvs_short q (Give k r l so ∷ xs) = let h = recvs_short q xs in omega arith
recvs_short q (Get k r l so ∷ xs) = elim (eqb_tells r.0 q) [
  | inl t ↦ rw t.0 (let h = recvs_short q xs in omega arith)
  | inr t ↦ rw t.0 (let h = recvs_short q xs in omega arith)
]

-- all above: as many above as there are
over_all : (k : ℕ) (es : List Entry) → EachEntry (λ e. k < e.place) es → over k es ≡ length es
over_all k [] h = refl
over_all k (e ∷ es) h = elim (leb_tells (suc k) e.place) [
  | inl t ↦ (let b : ltb k e.place ≡ true = t.0 in rw b (let ih = over_all k es h.1 in omega arith))
  | inr t ↦ absurd (let h' = h.0 in omega (arith, t.1))
]

entries_more : (P Q : Entry → Type 0) (es : List Entry) → ((e : Entry) → P e → Q e) → EachEntry P es → EachEntry Q es
entries_more P Q [] f h = tt
entries_more P Q (e ∷ es) f h = (f e h.0, entries_more P Q es f h.1)

-- one list is a beginning of the other
prefix : (fl X A B : List Entry) → fl ++ X ≡ A ++ B → length A ≤ length fl → (fl2 : List Entry) × (fl ≡ A ++ fl2) × (B ≡ fl2 ++ X)
prefix fl X [] B e h = (fl, refl, sym e)
prefix [] X (a ∷ A) B e h = absurd (omega arith)
prefix (f ∷ fl) X (a ∷ A) B e h =
    let e' : fl ++ X ≡ A ++ B = cc (e) in
    let same : f ≡ a = cc (e) in
    let r = prefix fl X A B e' (omega arith) in
    (r.0, ap₂ (λ (u : Entry) (v : List Entry). u ∷ v) same r.1, r.2)

-- the age of the first send to w that is pending
aged_first : (long top nodes rank : ℕ) (eaten done : List Item) (j w : ℕ) (xs : List Item) (e : Entry) (more : List Entry)
    → Aged long top nodes rank eaten done j xs → sends w xs ≡ e ∷ more
    → (z : ℕ) → over e.place (sends z done) < long * suc top
aged_first long top nodes rank eaten done j w [] e more h eq z = absurd (cc (eq))
aged_first long top nodes rank eaten done j w (Get k r l so ∷ xs) e more h eq z = aged_first long top nodes rank eaten done (suc j) w xs e more h.1 eq z
aged_first long top nodes rank eaten done j w (Give k r l so ∷ xs) e more h eq z = elim (eqb_tells r.0 w) [
  | inl t ↦ (let eq' : entry k l so ∷ sends w xs ≡ e ∷ more = rw t.0 at eq in
      let same : entry k l so ≡ e = cc (eq') in
      let P : Entry → Type 0 = λ y. over y.place (sends z done) < long * suc top in
      let a = h.0 in
      let o = a.over' z in
      let la = a.late in
      let here' : over k (sends z done) < long * suc top = omega arith in
      subst P same here')
  | inr t ↦ aged_first long top nodes rank eaten done (suc j) w xs e more h.1 (let eq' : sends w xs ≡ e ∷ more = rw t.0 at eq in eq') z
]

-- of what a role has sent elsewhere, few acts lie above one that it has still to send
owed_over : (long top nodes : ℕ) (past future owed : List Item) (h : Here long top nodes past future owed) (w : ℕ) (e : Entry) (more : List Entry)
    → sends w (future ++ owed) ≡ e ∷ more
    → (z : ℕ) → over e.place (sends z past) ≤ long * suc top
owed_over long top nodes past future owed h w e more eq z = go (sends w h.owed0) refl
  where
    all : sends w h.owed0 ++ sends w h.later ≡ e ∷ more
    all = sym (sends_append w h.owed0 h.later) ∙ sym (h.rest.sent w) ∙ eq

    go : (es : List Entry) → sends w h.owed0 ≡ es → over e.place (sends z past) ≤ long * suc top
    go (x ∷ xs) q = (
        let a : x ∷ (xs ++ sends w h.later) ≡ e ∷ more = sym (ap (λ (y : List Entry). y ++ sends w h.later) q) ∙ all in
        let same : x ≡ e = cc (a) in
        let P : Entry → Type 0 = λ y. over y.place (sends z past) ≤ long * suc top in
        let o : over x.place (sends z past) < long * suc top = aged_first long top nodes h.rank h.eaten0 past 0 w h.owed0 x xs h.aged q z in
        subst P same (omega arith))
    go [] q = (
        let l : sends w h.later ≡ e ∷ more = sym (ap (λ (y : List Entry). y ++ sends w h.later) q) ∙ all in
        let up : EachEntry (λ y. h.at ≤ y.place) (e ∷ more) = (let P : List Entry → Type 0 = λ y. EachEntry (λ u. h.at ≤ u.place) y in subst P l (sends_each (λ k. h.at ≤ k) w h.later h.up)) in
        let u = up.0 in
        let none : over e.place (sends z past) ≡ 0 = over_none e.place z past (each_more (λ x. place_of x < h.at) (λ x. place_of x ≤ e.place) past (λ x g. omega arith) h.past_below) in
        omega arith)

-- a ring with more than L messages: the receiver has not passed all of them
ring_split : (long top nodes L : ℕ) (pz fz oz pu fu ou : List Item) (hz : Here long top nodes pz fz oz) (z u : ℕ) (longu topu : ℕ) (hu : Here longu topu nodes pu fu ou) (fl : List Entry)
    → fl ++ sends u (fz ++ oz) ≡ recvs z (fu ++ ou) → longu ≤ L → L ≤ length fl
    → (fl2 : List Entry) × (fl ≡ recvs z hu.owed0 ++ fl2) × (recvs z hu.later ≡ fl2 ++ sends u (fz ++ oz)) × (length (recvs z hu.owed0) ≤ L)
ring_split long top nodes L pz fz oz pu fu ou hz z u longu topu hu fl come hl hc =
    let e : fl ++ sends u (fz ++ oz) ≡ recvs z hu.owed0 ++ recvs z hu.later = come ∙ hu.rest.got z ∙ recvs_append z hu.owed0 hu.later in
    let a : length (recvs z hu.owed0) ≤ length hu.owed0 = recvs_short z hu.owed0 in
    let b = hu.short in
    let c : length (recvs z hu.owed0) ≤ L = omega arith in
    let r = prefix fl (sends u (fz ++ oz)) (recvs z hu.owed0) (recvs z hu.later) e (omega arith) in
    (r.0, r.1, r.2, c)

-- where a ring has more than L messages, its receiver's place is after that of the sender
pub ring_falls : (nodes L : ℕ) (long top longu topu : ℕ) (pz fz oz pu fu ou : List Item) (hz : Here long top nodes pz fz oz) (hu : Here longu topu nodes pu fu ou) (z u : ℕ) (fl taken : List Entry)
    → sends u pz ≡ taken ++ fl → fl ++ sends u (fz ++ oz) ≡ recvs z (fu ++ ou) → longu ≤ L → L < length fl → hu.at < hz.at
ring_falls nodes L long top longu topu pz fz oz pu fu ou hz hu z u fl taken sent come hl hc =
    let r = ring_split long top nodes L pz fz oz pu fu ou hz z u longu topu hu fl come hl (omega arith) in
    let bz : EachEntry (λ e. e.place < hz.at) fl =
    (let P : List Entry → Type 0 = λ y. EachEntry (λ e. e.place < hz.at) y in entries_right (λ e. e.place < hz.at) taken fl (subst P sent (sends_each (λ k. k < hz.at) u pz hz.past_below))) in
    let bz2 : EachEntry (λ e. e.place < hz.at) r.0 =
    (let P : List Entry → Type 0 = λ y. EachEntry (λ e. e.place < hz.at) y in entries_right (λ e. e.place < hz.at) (recvs z hu.owed0) r.0 (subst P r.1 bz)) in
    let bu : EachEntry (λ e. hu.at ≤ e.place) r.0 =
    (let P : List Entry → Type 0 = λ y. EachEntry (λ e. hu.at ≤ e.place) y in entries_left (λ e. hu.at ≤ e.place) r.0 (sends u (fz ++ oz))
    (subst P r.2 (recvs_each (λ k. hu.at ≤ k) z hu.later hu.up))) in
    let len : length fl ≡ length (recvs z hu.owed0) + length r.0 = ap length r.1 ∙ length-append (recvs z hu.owed0) r.0 in
    let few = r.3 in
    some r.0 bz2 bu (omega arith)
  where
    some : (es : List Entry) → EachEntry (λ e. e.place < hz.at) es → EachEntry (λ e. hu.at ≤ e.place) es → 0 < length es → hu.at < hz.at
    some [] a b h = absurd (omega arith)
    some (e ∷ es) a b h = let x = a.0 in let y = b.0 in omega arith

-- a full ring of which few messages lie above m: its receiver has not passed m
pub ring_blocked : (nodes L B : ℕ) (long top longu topu : ℕ) (pz fz oz pu fu ou : List Item) (hz : Here long top nodes pz fz oz) (hu : Here longu topu nodes pu fu ou) (z u m : ℕ)
    (fl taken : List Entry)
    → sends u pz ≡ taken ++ fl → fl ++ sends u (fz ++ oz) ≡ recvs z (fu ++ ou) → longu ≤ L → 1 + L + B ≤ length fl
    → over m (sends u pz) ≤ B → hu.at ≤ m
ring_blocked nodes L B long top longu topu pz fz oz pu fu ou hz hu z u m fl taken sent come hl hc ho = elim (leb_tells (suc m) hu.at) [
  | inr t ↦ omega (arith, t.1)
  | inl t ↦ (
      let r = ring_split long top nodes L pz fz oz pu fu ou hz z u longu topu hu fl come hl (omega arith) in
      let bu : EachEntry (λ e. hu.at ≤ e.place) r.0 =
      (let P : List Entry → Type 0 = λ y. EachEntry (λ e. hu.at ≤ e.place) y in entries_left (λ e. hu.at ≤ e.place) r.0 (sends u (fz ++ oz))
      (subst P r.2 (recvs_each (λ k. hu.at ≤ k) z hu.later hu.up))) in
      let bm : EachEntry (λ e. m < e.place) r.0 = entries_more (λ e. hu.at ≤ e.place) (λ e. m < e.place) r.0 (λ e g. omega (arith, t.1)) bu in
      let all : over m r.0 ≡ length r.0 = over_all m r.0 bm in
      let len : length fl ≡ length (recvs z hu.owed0) + length r.0 = ap length r.1 ∙ length-append (recvs z hu.owed0) r.0 in
      let o1 : over m (sends u pz) ≡ over m taken + over m fl = ap (over m) sent ∙ over_append m taken fl in
      let o2 : over m fl ≡ over m (recvs z hu.owed0) + over m r.0 = ap (over m) r.1 ∙ over_append m (recvs z hu.owed0) r.0 in
      let few = r.3 in
      omega arith)
]

-- everything that the proof looks at: a configuration in which no role can move at capacity C
pub record Scene (ms : List Machine_data) (W : Known) (done : ℕ → ℕ) (f : ℕ → ℕ → ℕ) (n : ℕ) (c : Configuration) (nodes L B C : ℕ) (long top : ℕ → ℕ) (s : Stands ms W done f (suc n) c) : Type 0 where
  pub peered : Peered ms
  pub bounds : Bounds (length ms) long top L B
  pub room : 1 + L + B ≤ C
  pub here' : (p : ℕ) → p < length ms → Here (long p) (top p) nodes (s.past p) (s.future p) (s.owed p)
  pub full : (p : ℕ) (q : Role) (arms : List Arm) (m : Machine_data) → p < length ms → slice_get ms p ≡ Some m
      → slice_get m.states (c.at p) ≡ Some (Puts q arms) → C ≤ length (c.queue p q.0)
  pub empty : (p : ℕ) (q : Role) (arms : List Arm) (m : Machine_data) → p < length ms → slice_get ms p ≡ Some m
      → slice_get m.states (c.at p) ≡ Some (Takes q arms) → c.queue q.0 p ≡ []

-- who has nothing to do receives nothing
over_none_come : (future owed : List Item) (z : ℕ) (fl X : List Entry) → future ≡ [] → owed ≡ [] → fl ++ X ≡ recvs z (future ++ owed) → length fl ≡ 0
over_none_come future owed z fl X ef eo come =
    let P : List Item → List Item → Type 0 = λ x y. fl ++ X ≡ recvs z (x ++ y) in
    let e : fl ++ X ≡ [] = subst₂ P ef eo come in
    let l : length (fl ++ X) ≡ 0 = ap length e in
    omega (arith, length-append fl X)

NoWaitBelow : (ms : List Machine_data) (W : Known) (done : ℕ → ℕ) (f : ℕ → ℕ → ℕ) (n : ℕ) (c : Configuration) (s : Stands ms W done f (suc n) c)
    → ℕ → Type 0
NoWaitBelow ms W done f n c s k = (p j : ℕ) (q : Role) → j < k → Waits ms W done f (suc n) c s p j q → ⊥

-- full rings cannot be followed without end
follow : (ms : List Machine_data) (W : Known) (done : ℕ → ℕ) (f : ℕ → ℕ → ℕ) (n : ℕ) (c : Configuration) (nodes L B C : ℕ) (long top : ℕ → ℕ) (s : Stands ms W done f (suc n) c)
    (sc : Scene ms W done f n c nodes L B C long top s)
    (k : ℕ) → NoWaitBelow ms W done f n c s k → (bound z : ℕ) (hz : z < length ms) → (sc.here' z hz).at < bound → (sc.here' z hz).at ≤ k
    → (u : Role) (arms : List Arm) (m : Machine_data) → slice_get ms z ≡ Some m → slice_get m.states (c.at z) ≡ Some (Puts u arms) → ⊥
unfolding NoWaitBelow
follow ms W done f n c nodes L B C long top s sc k none zero z hz hb hk u arms m is st = absurd (omega arith)
follow ms W done f n c nodes L B C long top s sc k none (suc bound) z hz hb hk u arms m is st =
    let peer = sc.peered.puts z m (c.at z) u arms is st in
    let hu : u.0 < length ms = peer.0 in
    let fl = flight ms W done f (suc n) c s z u.0 hz hu (λ e. peer.1 (sym e)) in
    let many = fl.many in
    let fullness = sc.full z u arms m hz is st in
    let room = sc.room in
    let long' = sc.bounds.long' u.0 hu in
    let falls : (sc.here' u.0 hu).at < (sc.here' z hz).at =
    ring_falls nodes L (long z) (top z) (long u.0) (top u.0) (s.past z) (s.future z) (s.owed z) (s.past u.0) (s.future u.0) (s.owed u.0) (sc.here' z hz) (sc.here' u.0 hu) z u.0 fl.entries
    (recvs z (s.past u.0)) fl.sent fl.come long' (omega arith) in
    let pl = s.plays u.0 hu in
    next (stance pl.machine (f u.0) n (c.at u.0) (s.future u.0) (s.owed u.0) pl.last pl.trace pl.lasts) pl.stands hu falls fl.entries fl.come (omega arith)
    (λ u' arms' st' a b. follow ms W done f n c nodes L B C long top s sc k none bound u.0 hu a b u' arms' pl.machine pl.stands st')
  where
    next : {pm : Machine_data} → Stance pm (c.at u.0) (s.future u.0) (s.owed u.0) → slice_get ms u.0 ≡ Some pm
        → (hu : u.0 < length ms) → (sc.here' u.0 hu).at < (sc.here' z hz).at → (fl : List Entry)
        → fl ++ sends u.0 (s.future z ++ s.owed z) ≡ recvs z (s.future u.0 ++ s.owed u.0) → 0 < length fl
        → ((u' : Role) (arms' : List Arm) → slice_get pm.states (c.at u.0) ≡ Some (Puts u' arms') → (sc.here' u.0 hu).at < bound → (sc.here' u.0 hu).at ≤ k → ⊥)
        → ⊥
    next (Over ef eo d) is' hu falls fl come some ih = absurd (let e = over_none_come (s.future u.0) (s.owed u.0) z fl (sends u.0 (s.future z ++ s.owed z)) ef eo come in omega arith)
    next (Putting u' arms' st') is' hu falls fl come some ih = ih u' arms' st' (omega arith) (omega arith)
    next {pm} (Taking j r l so tail arms' e st') is' hu falls fl come some ih =
        let passed : j < (sc.here' u.0 hu).at = wait_passed (long u.0) (top u.0) nodes (s.past u.0) (s.future u.0) (s.owed u.0) (sc.here' u.0 hu) j r l so tail e in
        none u.0 j r (omega arith) record { here' = hu; label = l; sort = so; tail = tail; arms = arms'; machine = pm; stands = is'; head = e; takes = st'; empty = sc.empty u.0 r arms' pm hu is' st' }

-- nobody waits: take the wait with the least place
no_wait_at : (ms : List Machine_data) (W : Known) (done : ℕ → ℕ) (f : ℕ → ℕ → ℕ) (n : ℕ) (c : Configuration) (nodes L B C : ℕ) (long top : ℕ → ℕ) (s : Stands ms W done f (suc n) c)
    (sc : Scene ms W done f n c nodes L B C long top s)
    (m p : ℕ) (q : Role) → NoWaitBelow ms W done f n c s m → Waits ms W done f (suc n) c s p m q → ⊥
unfolding NoWaitBelow
no_wait_at ms W done f n c nodes L B C long top s sc m p q none w =
    let o = owes ms W done f (suc n) c s p m q sc.peered w in
    let pl = s.plays q.0 o.0 in
    next (stance pl.machine (f q.0) n (c.at q.0) (s.future q.0) (s.owed q.0) pl.last pl.trace pl.lasts) pl.stands o.0 o.1.0 o.1.1
  where
    next : {pm : Machine_data} → Stance pm (c.at q.0) (s.future q.0) (s.owed q.0) → slice_get ms q.0 ≡ Some pm
        → (hq : q.0 < length ms) → (more : List Entry) → sends p (s.future q.0 ++ s.owed q.0) ≡ entry m w.label w.sort ∷ more
        → ⊥
    next (Over ef eo d) is hq more e =
        let P : List Item → List Item → Type 0 = λ x y. sends p (x ++ y) ≡ entry m w.label w.sort ∷ more in
        let no : [] ≡ entry m w.label w.sort ∷ more = subst₂ P ef eo e in
        cc (no)
    next {pm} (Taking j r l so tail arms ef st) is hq more e =
        let P : List Item → Type 0 = λ x. Ordered (x ++ s.owed q.0) in
        let Q : List Item → Type 0 = λ x. sends p (x ++ s.owed q.0) ≡ entry m w.label w.sort ∷ more in
        let od = subst P ef (s.order q.0 hq) in
        let falls : j < m = sends_above p j (tail ++ s.owed q.0) (entry m w.label w.sort) more od.0 (subst Q ef e) in
        none q.0 j r falls record { here' = hq; label = l; sort = so; tail = tail; arms = arms; machine = pm; stands = is; head = ef; takes = st; empty = sc.empty q.0 r arms pm hq is st }
    next {pm} (Putting z arms st) is hq more e =
        let peer = sc.peered.puts q.0 pm (c.at q.0) z arms is st in
        let fl = flight ms W done f (suc n) c s q.0 z.0 hq peer.0 (λ h. peer.1 (sym h)) in
        let many = fl.many in
        let fullness = sc.full q.0 z arms pm hq is st in
        let room = sc.room in
        let ov : over m (sends z.0 (s.past q.0)) ≤ long q.0 * suc (top q.0)
        = owed_over (long q.0) (top q.0) nodes (s.past q.0) (s.future q.0) (s.owed q.0) (sc.here' q.0 hq) p (entry m w.label w.sort) more e z.0 in
        let lag = sc.bounds.lag q.0 hq in
        let blocked : (sc.here' z.0 peer.0).at ≤ m =
        ring_blocked nodes L B (long q.0) (top q.0) (long z.0) (top z.0) (s.past q.0) (s.future q.0) (s.owed q.0) (s.past z.0) (s.future z.0) (s.owed z.0) (sc.here' q.0 hq)
        (sc.here' z.0 peer.0) q.0 z.0 m fl.entries (recvs q.0 (s.past z.0)) fl.sent fl.come
        (sc.bounds.long' z.0 peer.0) (omega arith) (omega arith) in
        let plz = s.plays z.0 peer.0 in
        after (stance plz.machine (f z.0) n (c.at z.0) (s.future z.0) (s.owed z.0) plz.last plz.trace plz.lasts) plz.stands peer.0 blocked fl.entries fl.come (omega arith)
      where
        after : {zm : Machine_data} → Stance zm (c.at z.0) (s.future z.0) (s.owed z.0) → slice_get ms z.0 ≡ Some zm
            → (hz : z.0 < length ms) → (sc.here' z.0 hz).at ≤ m → (es : List Entry)
            → es ++ sends z.0 (s.future q.0 ++ s.owed q.0) ≡ recvs q.0 (s.future z.0 ++ s.owed z.0) → 0 < length es → ⊥
        after (Over ef eo d) is' hz at es come some = absurd (let x = over_none_come (s.future z.0) (s.owed z.0) q.0 es (sends z.0 (s.future q.0 ++ s.owed q.0)) ef eo come in omega arith)
        after {zm} (Taking j r l so tail arms' ef st') is' hz at es come some =
            let passed : j < (sc.here' z.0 hz).at = wait_passed (long z.0) (top z.0) nodes (s.past z.0) (s.future z.0) (s.owed z.0) (sc.here' z.0 hz) j r l so tail ef in
            none z.0 j r (omega arith) record {
              here' = hz;
              label = l;
              sort = so;
              tail = tail;
              arms = arms';
              machine = zm;
              stands = is';
              head = ef;
              takes = st';
              empty = sc.empty z.0 r arms' zm hz is' st';
            }
        after {zm} (Putting u arms' st') is' hz at es come some =
            follow ms W done f n c nodes L B C long top s sc m none (suc (sc.here' z.0 hz).at) z.0 hz (omega arith) at u arms' zm is' st'

no_wait : (ms : List Machine_data) (W : Known) (done : ℕ → ℕ) (f : ℕ → ℕ → ℕ) (n : ℕ) (c : Configuration) (nodes L B C : ℕ) (long top : ℕ → ℕ) (s : Stands ms W done f (suc n) c)
    (sc : Scene ms W done f n c nodes L B C long top s)
    (k : ℕ) → NoWaitBelow ms W done f n c s k
unfolding NoWaitBelow
no_wait ms W done f n c nodes L B C long top s sc zero p j q h w = absurd (omega arith)
no_wait ms W done f n c nodes L B C long top s sc (suc k) p j q h w = no_wait_at ms W done f n c nodes L B C long top s sc j p q
    (λ p' j' q' h' w'. no_wait ms W done f n c nodes L B C long top s sc k p' j' q' (omega arith) w') w

-- where no role can move, all have ended
pub not_stuck : (ms : List Machine_data) (W : Known) (done : ℕ → ℕ) (f : ℕ → ℕ → ℕ) (n : ℕ) (c : Configuration) (nodes L B C : ℕ) (long top : ℕ → ℕ) (s : Stands ms W done f (suc n) c)
    → Scene ms W done f n c nodes L B C long top s → AllEnded ms c
unfolding NoWaitBelow
not_stuck ms W done f n c nodes L B C long top s sc = all_ended ms W done f (suc n) c s
    (λ p hp. (let pl = s.plays p hp in one p hp pl.stands (stance pl.machine (f p) n (c.at p) (s.future p) (s.owed p) pl.last pl.trace pl.lasts)))
  where
    one : (p : ℕ) (hp : p < length ms) {pm : Machine_data} → slice_get ms p ≡ Some pm
        → Stance pm (c.at p) (s.future p) (s.owed p) → IsOver ms W done f (suc n) c s p
    one p hp {pm} is (Over ef eo d) = record { done' = here_of ms c p pm Done is d; future' = ef; owed' = eo }
    one p hp {pm} is (Putting u arms st) = absurd (follow ms W done f n c nodes L B C long top s sc (sc.here' p hp).at (no_wait ms W done f n c nodes L B C long top s sc (sc.here' p hp).at)
        (suc (sc.here' p hp).at) p hp (omega arith) (omega arith) u arms pm is st)
    one p hp {pm} is (Taking j r l so tail arms e st) = absurd (no_wait ms W done f n c nodes L B C long top s sc (suc j) p j r (omega arith)
        record { here' = hp; label = l; sort = so; tail = tail; arms = arms; machine = pm; stands = is; head = e; takes = st; empty = sc.empty p r arms pm hp is st })

-- whether p can move
movable_within : (ms : List Machine_data) (c : Configuration) (C p : ℕ) (o : Option State) → state_at ms c p ≡ o
    → CanMoveWithin ms C c p ⊎ (CanMoveWithin ms C c p → ⊥)
movable_within ms c C p None e = inr (λ m. none m)
  where
    none : CanMoveWithin ms C c p → ⊥
    none (MayPut q arms h l) = cc (e, h)
    none (MayTake q arms m t h l) = cc (e, h)
movable_within ms c C p (Some Done) e = inr (λ m. none m)
  where
    none : CanMoveWithin ms C c p → ⊥
    none (MayPut q arms h l) = cc (e, h)
    none (MayTake q arms m t h l) = cc (e, h)
movable_within ms c C p (Some (Puts q arms)) e = elim (leb_tells (suc (length (c.queue p q.0))) C) [
  | inl t ↦ inl (MayPut q arms e t.1)
  | inr t ↦ inr (none t.1)
]
  where
    none : C < suc (length (c.queue p q.0)) → CanMoveWithin ms C c p → ⊥
    none g (MayPut q' arms' h l) = (let s : Some (Puts q arms) ≡ Some (Puts q' arms') = sym e ∙ h in
        let eq : q' ≡ q = cc (s) in
        let P : Role → Type 0 = λ z. length (c.queue p z.0) < C in
        let l' = subst P eq l in omega arith)
    none g (MayTake q' arms' m t h l) = cc (e, h)
movable_within ms c C p (Some (Takes q arms)) e = go (c.queue q.0 p) refl
  where
    go : (ms' : List Message) → c.queue q.0 p ≡ ms' → CanMoveWithin ms C c p ⊎ (CanMoveWithin ms C c p → ⊥)
    go (m ∷ t) h = inl (MayTake q arms m t e h)
    go [] h = inr (λ x. none x)
      where
        none : CanMoveWithin ms C c p → ⊥
        none (MayPut q' arms' h' l) = cc (e, h')
        none (MayTake q' arms' m t h' l) = (let s : Some (Takes q arms) ≡ Some (Takes q' arms') = sym e ∙ h' in
            let eq : q' ≡ q = cc (s) in
            let P : Role → Type 0 = λ z. c.queue z.0 p ≡ m ∷ t in
            let l' : c.queue q.0 p ≡ m ∷ t = subst P eq l in cc (h, l'))

scan_at : (ms : List Machine_data) (c : Configuration) (C r : ℕ) → r ≤ length ms
    → CanStepWithin ms C c ⊎ ((p : ℕ) → p < r → CanMoveWithin ms C c p → ⊥)
scan_at ms c C zero h = inr (λ p hp m. absurd (omega arith))
scan_at ms c C (suc r) h = elim (scan_at ms c C r (omega arith)) [
  | inl can ↦ inl can
  | inr below ↦ elim (movable_within ms c C r (state_at ms c r) refl) [
    | inl m ↦ inl (r, h, m)
    | inr not ↦ inr (λ p hp. elim (eqb_tells p r) [
      | inl t ↦ (let P : ℕ → Type 0 = λ z. CanMoveWithin ms C c z → ⊥ in subst P (sym t.1) not)
      | inr t ↦ below p (omega (arith, t.1))
    ])
  ]
]

scene : (ms : List Machine_data) (W : Known) (done : ℕ → ℕ) (f : ℕ → ℕ → ℕ) (n : ℕ) (c : Configuration) (nodes L B C : ℕ) (long top : ℕ → ℕ) (s : Stands ms W done f (suc n) c)
    → Peered ms → Bounds (length ms) long top L B → 1 + L + B ≤ C
    → ((p : ℕ) → p < length ms → Here (long p) (top p) nodes (s.past p) (s.future p) (s.owed p))
    → ((p : ℕ) → p < length ms → CanMoveWithin ms C c p → ⊥) → Scene ms W done f n c nodes L B C long top s
scene ms W done f n c nodes L B C long top s peered bounds room here'' not = record {
  peered = peered;
  bounds = bounds;
  room = room;
  here' = here'';
  full = λ p q arms m hp is st. elim (leb_tells (suc (length (c.queue p q.0))) C) [
    | inl t ↦ absurd (not p hp (MayPut q arms (here_of ms c p m (Puts q arms) is st) t.1))
    | inr t ↦ omega (arith, t.1)
  ];
  empty = λ p q arms m hp is st. nothing p q arms m hp is st (c.queue q.0 p) refl;
}
  where
    nothing : (p : ℕ) (q : Role) (arms : List Arm) (m : Machine_data) → p < length ms → slice_get ms p ≡ Some m
        → slice_get m.states (c.at p) ≡ Some (Takes q arms) → (ms' : List Message) → c.queue q.0 p ≡ ms' → c.queue q.0 p ≡ []
    nothing p q arms m hp is st [] h = h
    nothing p q arms m hp is st (x ∷ t) h = absurd (not p hp (MayTake q arms x t (here_of ms c p m (Takes q arms) is st) h))

-- at a capacity of at least 1 + L + B some role can move, or all have ended
pub roomy : (ms : List Machine_data) (W : Known) (done : ℕ → ℕ) (c : Configuration) (nodes L B C : ℕ) (long top : ℕ → ℕ)
    → Peered ms → Bounds (length ms) long top L B → 1 + L + B ≤ C
    → ((p : ℕ) (past future owed : List Item) → p < length ms → W p (past ++ future) owed → Here (long p) (top p) nodes past future owed)
    → Good ms W done c → CanStepWithin ms C c ⊎ AllEnded ms c
roomy ms W done c nodes L B C long top peered bounds room stands good =
    let zeros : ℕ → ℕ → ℕ = λ r k. 0 in
    let s : Stands ms W done zeros 1 c = good zeros 1 in
    elim (scan_at ms c C (length ms) (omega arith)) [
      | inl can ↦ inl can
      | inr not ↦ inr (not_stuck ms W done zeros 0 c nodes L B C long top s
          (scene ms W done zeros 0 c nodes L B C long top s peered bounds room (λ p hp. stands p (s.past p) (s.future p) (s.owed p) hp (s.known p hp)) not))
    ]
