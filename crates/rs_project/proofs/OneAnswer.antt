-- There is one answer at most.
use Rattle.std.proofs.Common.{◌≡◌, inl, inr, ℕ, zero, suc, ◌+◌, ◌<◌, ◌≤◌, List, [], ◌∷◌, ◌++◌, length, Option, Some, slice_get, refl, sym, ap, ap₂, ◌∙◌, subst, subst₂, arith, length-append}
use Rattle.std.proofs.lemmas.Bool.{cases_lt}
use Rattle.rs_model.specs.Data.{Protocol_data}
use Rattle.rs_model.specs.declared.limits.TheConstants.{MOST_STATES}
use Rattle.rs_model.specs.declared.graph.Role.{Role}
use Rattle.rs_project.specs.Data.{Front_data}
use Rattle.rs_project.specs.Graph.{MeetsFirst, MeetsTheEnd}
use Rattle.rs_graph.specs.Order.{Once, Numbered, NoMore, Known, New, Worked, AllDone, Next}
use Rattle.rs_project.specs.Projection.{LabelChoice, merged_choices, MeetsBehind, EndsBehind}
use Rattle.rs_project.specs.Refusals.{IsFrontAt, Merges, AreBehind, FirstClash, ComesTo, ComesToAClash, ComesToTooMany, FirstRefusal}
use Rattle.rs_project.specs.declared.projecting.ProjFault.{ProjFault}
use Rattle.rs_project.specs.declared.projecting.ProjFault.TheVariants.{Unmergeable, Unreached, TooManyStates, NoMemory}
use Rattle.rs_project.proofs.Numbers.{same_front}
use Rattle.rs_project.proofs.Lockstep.{Same, same_numbers, Rows, rows_from, Alike, along, one_clash, clash_not_merged, cut, rows_cut, append_same, at_cut}

-- what is known of a work on the states: some rows are whole, and others may follow
pub record Work (pr : Protocol_data) (role : Role) (fs : List Front_data) (rows tail : List (List ℕ)) : Type 0 where
  pub first : IsFrontAt fs 0 (MeetsFirst pr role pr.root) (MeetsTheEnd pr role pr.root)
  pub once : Once fs
  pub bounded : length fs ≤ MOST_STATES
  pub order : Worked 0 1 (rows ++ tail) (length fs)
  pub behind : Rows pr role fs 0 rows
  pub each : (k : ℕ) (f : Front_data) (r : List ℕ) → slice_get fs k ≡ Some f → slice_get rows k ≡ Some r
      → Merges pr role f × AreBehind pr role fs f.talks (merged_choices pr f.talks) r

pub work_of : (pr : Protocol_data) (role : Role) (fs : List Front_data) (rows : List (List ℕ)) (row : List ℕ) (f : Front_data) → ComesTo pr role fs rows row f → Work pr role fs rows (row ∷ [])
work_of pr role fs rows row f c = record {
  first = c.first;
  once = c.once;
  bounded = c.bounded;
  order = c.order;
  behind = rows_from pr role fs 0 rows (λ j g r hr hg. (let e : 0 + j ≡ j = omega arith in let P : ℕ → Type 0 = λ z. slice_get fs z ≡ Some g in c.behind j g r (subst P e hg) hr));
  each = λ k g r hg hr. (c.merged k g r hg hr, c.behind k g r hg hr);
}

start_same : (pr : Protocol_data) (role : Role) (fs gs : List Front_data) (rows rows' tail tail' : List (List ℕ)) → Work pr role fs rows tail → Work pr role gs rows' tail' → Same fs gs 1
start_same pr role fs gs rows rows' tail tail' w v i lt =
    let e : 0 ≡ i = omega (arith, lt) in
    let s = same_front w.first.front v.first.front (MeetsFirst pr role pr.root) (MeetsTheEnd pr role pr.root) w.first.is_front v.first.is_front in
    let P : ℕ → Type 0 = λ z. (f : Front_data) × (slice_get fs z ≡ Some f) × (slice_get gs z ≡ Some f) in
    subst P e (w.first.front, w.first.stands, v.first.stands ∙ ap Some (sym s))

-- two works with as many whole rows
pub level : (pr : Protocol_data) (role : Role) (fs gs : List Front_data) (rows rows' tail tail' : List (List ℕ)) → Work pr role fs rows tail → Work pr role gs rows' tail' → length rows ≡ length rows'
    → (rows ≡ rows') × Alike fs gs (length rows) tail tail' (length fs) (length gs)
level pr role fs gs rows rows' tail tail' w v l =
    let a = along pr role fs gs w.once v.once 0 1 (length fs) (length gs) rows rows' tail tail' l (start_same pr role fs gs rows rows' tail tail' w v) w.order v.order w.behind v.behind in
    let e : 0 + length rows ≡ length rows = omega arith in
    let P : ℕ → Type 0 = λ z. Alike fs gs z tail tail' (length fs) (length gs) in
    (a.0, subst P e a.1)

-- the front at which the one work stands, and the row that the other has for it
pub record Beyond (pr : Protocol_data) (role : Role) (fs gs : List Front_data) (k : ℕ) (row : List ℕ) (f : Front_data) : Type 0 where
  pub r : List ℕ
  pub rest : List (List ℕ)
  pub alike : Alike fs gs k (row ∷ []) (r ∷ rest) (length fs) (length gs)
  pub merges : Merges pr role f
  pub behind : AreBehind pr role gs f.talks (merged_choices pr f.talks) r

alike_at : (fs gs : List Front_data) (k : ℕ) (row : List ℕ) (tail : List (List ℕ)) (after after' : ℕ) (f : Front_data) → Alike fs gs k (row ∷ []) tail after after' → slice_get fs k ≡ Some f
    → slice_get gs k ≡ Some f
alike_at fs gs k row tail after after' f a h = go a.known a.one a.same
  where
    go : (known : ℕ) → Worked k known (row ∷ []) after → Same fs gs known → slice_get gs k ≡ Some f
    go known (Next _ _ mid _ _ _ lt nu w) same = let s = same k lt in let e : s.0 ≡ f = (let x = s.1 in cc (x, h)) in s.2 ∙ ap Some e

pub beyond : (pr : Protocol_data) (role : Role) (fs gs : List Front_data) (rows rows' tail' : List (List ℕ)) (row : List ℕ) (f : Front_data) → Work pr role fs rows (row ∷ [])
    → Work pr role gs rows' tail'
    → slice_get fs (length rows) ≡ Some f → length rows < length rows' → Beyond pr role fs gs (length rows) row f
beyond pr role fs gs rows rows' tail' row f w v here lt =
    let c = cut rows' (length rows) (omega (arith, lt)) in
    go c.0 c.1 c.2 c.3
  where
    go : (front rest : List (List ℕ)) → rows' ≡ front ++ rest → length front ≡ length rows → Beyond pr role fs gs (length rows) row f
    go front [] e l = (let k = length-append front [] in let q = ap (λ (z : List (List ℕ)). length z) e in absurd (omega (arith, k, q, l, lt)))
    go front (r ∷ rest) e l =
        let P : List (List ℕ) → Type 0 = λ z. Worked 0 1 (z ++ tail') (length gs) in
        let Q : List (List ℕ) → Type 0 = λ z. Worked 0 1 z (length gs) in
        let R : List (List ℕ) → Type 0 = λ z. Rows pr role gs 0 z in
        let S : ℕ → List (List ℕ) → Type 0 = λ n z. slice_get z n ≡ Some r in
        let u : Work pr role gs front (r ∷ (rest ++ tail')) = record {
          first = v.first;
          once = v.once;
          bounded = v.bounded;
          order = subst Q (append_same front (r ∷ rest) tail') (subst P e v.order);
          behind = rows_cut pr role gs 0 front (r ∷ rest) (subst R e v.behind);
          each = λ k g s hg hs. v.each k g s hg (let T : List (List ℕ) → Type 0 = λ z. slice_get z k ≡ Some s in subst T (sym e) (at_left_rows front (r ∷ rest) k s hs));
        } in
        let a = level pr role fs gs rows front (row ∷ []) (r ∷ (rest ++ tail')) w u (sym l) in
        let at = alike_at fs gs (length rows) row (r ∷ (rest ++ tail')) (length fs) (length gs) f a.1 here in
        let m = v.each (length rows) f r at (subst₂ S l (sym e) (at_cut front rest r)) in
        record { r = r; rest = rest ++ tail'; alike = a.1; merges = m.0; behind = m.1 }
      where
        at_left_rows : (xs ys : List (List ℕ)) (i : ℕ) (x : List ℕ) → slice_get xs i ≡ Some x → slice_get (xs ++ ys) i ≡ Some x
        at_left_rows [] ys i x h = absurd (cc (h))
        at_left_rows (z ∷ xs) ys zero x h = h
        at_left_rows (z ∷ xs) ys (suc i) x h = at_left_rows xs ys i x h

numbered_grows : (known after : ℕ) (ns : List ℕ) → Numbered known ns after → known ≤ after
numbered_grows known _ _ (NoMore _) = omega arith
numbered_grows known after _ (Known _ n _ ns lt k) = numbered_grows known after ns k
numbered_grows known after _ (New _ _ ns k) = let a = numbered_grows (suc known) after ns k in omega (arith, a)

worked_grows : (k known after : ℕ) (rows : List (List ℕ)) → Worked k known rows after → known ≤ after
worked_grows k known _ _ (AllDone _ _) = omega arith
worked_grows k known after _ (Next _ _ mid _ row rows lt nu w) = let a = numbered_grows known mid row nu in let b = worked_grows (suc k) mid after rows w in omega (arith, a, b)

numbered_split : (known after : ℕ) (ns ms : List ℕ) → Numbered known (ns ++ ms) after → (mid : ℕ) × Numbered known ns mid × Numbered mid ms after
numbered_split known after [] ms h = (known, NoMore known, h)
numbered_split known after (n ∷ ns) ms (Known _ _ _ _ lt k) = let r = numbered_split known after ns ms k in (r.0, Known known n r.0 ns lt r.1, r.2)
numbered_split known after (n ∷ ns) ms (New _ _ _ k) = let r = numbered_split (suc known) after ns ms k in (r.0, New known r.0 ns r.1, r.2)

-- a row after choices, split where the choices are
record SplitRow (pr : Protocol_data) (role : Role) (gs : List Front_data) (talks : List ℕ) (before : List LabelChoice) (c : LabelChoice) (row : List ℕ) : Type 0 where
  ns : List ℕ
  n : ℕ
  ms : List ℕ
  whole : row ≡ ns ++ (n ∷ ms)
  behind : AreBehind pr role gs talks before ns
  at : IsFrontAt gs n (MeetsBehind pr role talks c.label) (EndsBehind pr role talks c.label)

split_row : (pr : Protocol_data) (role : Role) (gs : List Front_data) (talks : List ℕ) (before : List LabelChoice) (c : LabelChoice) (after : List LabelChoice) (row : List ℕ)
    → AreBehind pr role gs talks (before ++ (c ∷ after)) row
    → SplitRow pr role gs talks before c row
split_row pr role gs talks [] c after [] h = absurd h
split_row pr role gs talks [] c after (n ∷ row) h = record { ns = []; n = n; ms = row; whole = refl; behind = tt; at = h.0 }
split_row pr role gs talks (b ∷ before) c after [] h = absurd h
split_row pr role gs talks (b ∷ before) c after (m ∷ row) h =
    let r = split_row pr role gs talks before c after row h.1 in
    record { ns = m ∷ r.ns; n = r.n; ms = r.ms; whole = ap (λ z. m ∷ z) r.whole; behind = (h.0, r.behind); at = r.at }

-- no work goes beyond where there are too many
pub no_overflow : (pr : Protocol_data) (role : Role) (t : ComesToTooMany pr role) (gs : List Front_data) → Once gs → length gs ≤ MOST_STATES → Beyond pr role t.fronts gs (length t.rows) t.row t.front
    → ⊥
no_overflow pr role t gs once few b = go b.alike.known b.alike.one b.alike.other b.alike.same
  where
    s : SplitRow pr role gs t.front.talks t.before t.choice b.r
    s = let P : List LabelChoice → Type 0 = λ z. AreBehind pr role gs t.front.talks z b.r in split_row pr role gs t.front.talks t.before t.choice t.after b.r (subst P t.choices b.behind)

    last : (mid m1 mid' : ℕ) → mid ≡ m1 → mid ≡ MOST_STATES → Same t.fronts gs mid → Numbered m1 (s.n ∷ s.ms) mid' → mid' ≤ MOST_STATES → ⊥
    last mid m1 mid' e f same (Known _ _ _ _ lt k) le =
        let a = same s.n (omega (arith, e, lt)) in
        let x : a.0 ≡ s.at.front = (let y = a.2 in let z = s.at.stands in cc (y, z)) in
        t.another s.n record { front = s.at.front; stands = a.1 ∙ ap Some x; is_front = s.at.is_front }
    last mid m1 mid' e f same (New _ _ _ k) le = (let g = numbered_grows (suc m1) mid' s.ms k in absurd (omega (arith, e, f, g, le)))

    mids : (k mid : ℕ) → Worked k mid [] (length t.fronts) → mid ≡ MOST_STATES
    mids k mid (AllDone _ _) = t.many

    go : (known : ℕ) → Worked (length t.rows) known (t.row ∷ []) (length t.fronts) → Worked (length t.rows) known (b.r ∷ b.rest) (length gs) → Same t.fronts gs known → ⊥
    go known (Next _ _ mid _ _ _ lt nu w) (Next _ _ mid' _ _ _ lt' nu' w') same =
        let P : List ℕ → Type 0 = λ z. Numbered known z mid' in
        let p = numbered_split known mid' s.ns (s.n ∷ s.ms) (subst P s.whole nu') in
        let q = same_numbers pr role t.fronts gs t.front.talks t.comes.once once known mid p.0 t.row s.ns t.before same nu p.1 t.behind s.behind in
        last mid p.0 mid' q.1 (mids (suc (length t.rows)) mid w) q.2 p.2 (let g = worked_grows (suc (length t.rows)) mid' (length gs) b.rest w' in omega (arith, g, few))

pub clash_clash : (pr : Protocol_data) (role : Role) (a a' : ℕ) (b b' : Option ℕ) → ComesToAClash pr role a b → ComesToAClash pr role a' b' → (a ≡ a') × (b ≡ b')
clash_clash pr role a a' b b' c d =
    let w = work_of pr role c.fronts c.rows [] c.front c.comes in
    let v = work_of pr role d.fronts d.rows [] d.front d.comes in
    elim (cases_lt (length c.rows) (length d.rows)) [
      | inl l ↦ absurd (clash_not_merged pr role c.front a b c.clash (beyond pr role c.fronts d.fronts c.rows d.rows ([] ∷ []) [] c.front w v c.comes.here l).merges)
      | inr l ↦ elim (cases_lt (length d.rows) (length c.rows)) [
        | inl k ↦ absurd (clash_not_merged pr role d.front a' b' d.clash (beyond pr role d.fronts c.fronts d.rows c.rows ([] ∷ []) [] d.front v w d.comes.here k).merges)
        | inr k ↦ (let e : length c.rows ≡ length d.rows = omega (arith, l, k) in
            let x = level pr role c.fronts d.fronts c.rows d.rows ([] ∷ []) ([] ∷ []) w v e in
            let at = alike_at c.fronts d.fronts (length c.rows) [] ([] ∷ []) (length c.fronts) (length d.fronts) c.front x.1 c.comes.here in
            let P : ℕ → Type 0 = λ z. slice_get d.fronts z ≡ Some c.front in
            let at' = subst P e at in let h = d.comes.here in
            let f : d.front ≡ c.front = cc (at', h) in
            let Q : Front_data → Type 0 = λ z. FirstClash pr role z a' b' in
            one_clash pr role c.front a a' b b' c.clash (subst Q f d.clash))
      ]
    ]

pub clash_many : (pr : Protocol_data) (role : Role) (a : ℕ) (b : Option ℕ) → ComesToAClash pr role a b → ComesToTooMany pr role → ⊥
clash_many pr role a b c t =
    let w = work_of pr role c.fronts c.rows [] c.front c.comes in
    let v = work_of pr role t.fronts t.rows t.row t.front t.comes in
    elim (cases_lt (length c.rows) (length t.rows)) [
      | inl l ↦ clash_not_merged pr role c.front a b c.clash (beyond pr role c.fronts t.fronts c.rows t.rows (t.row ∷ []) [] c.front w v c.comes.here l).merges
      | inr l ↦ elim (cases_lt (length t.rows) (length c.rows)) [
        | inl k ↦ no_overflow pr role t c.fronts c.comes.once c.comes.bounded (beyond pr role t.fronts c.fronts t.rows c.rows ([] ∷ []) t.row t.front v w t.comes.here k)
        | inr k ↦ (let e : length c.rows ≡ length t.rows = omega (arith, l, k) in
            let x = level pr role c.fronts t.fronts c.rows t.rows ([] ∷ []) (t.row ∷ []) w v e in
            let at = alike_at c.fronts t.fronts (length c.rows) [] (t.row ∷ []) (length c.fronts) (length t.fronts) c.front x.1 c.comes.here in
            let P : ℕ → Type 0 = λ z. slice_get t.fronts z ≡ Some c.front in
            let at' = subst P e at in let h = t.comes.here in
            let f : t.front ≡ c.front = cc (at', h) in
            let Q : Front_data → Type 0 = λ z. Merges pr role z in
            clash_not_merged pr role c.front a b c.clash (subst Q f t.merges))
      ]
    ]

pub one_refusal_shown : (pr : Protocol_data) (role : Role) (e e' : ProjFault) → FirstRefusal pr role e → FirstRefusal pr role e' → e ≡ e'
one_refusal_shown pr role (Unreached r n) (Unreached s m) h k =
    let mk : Role → ℕ → ProjFault = λ x y. Unreached x y in
    ap₂ mk (h.0 ∙ sym k.0) (let p = h.2 m k.1 in let q = k.2 n h.1 in omega (arith, p, q))
one_refusal_shown pr role (Unreached r n) (Unmergeable s a b) h k = absurd (k.1 n h.1)
one_refusal_shown pr role (Unreached r n) (TooManyStates s) h k = absurd (k.1 n h.1)
one_refusal_shown pr role (Unreached r n) NoMemory h k = absurd k
one_refusal_shown pr role (Unmergeable r a b) (Unreached s m) h k = absurd (h.1 m k.1)
one_refusal_shown pr role (Unmergeable r a b) (Unmergeable s a' b') h k =
    let c = clash_clash pr role a a' b b' h.2 k.2 in
    let mk : Role → ℕ → Option ℕ → ProjFault = λ x y z. Unmergeable x y z in
    ap (λ x. mk x a b) (h.0 ∙ sym k.0) ∙ ap₂ (mk s) c.0 c.1
one_refusal_shown pr role (Unmergeable r a b) (TooManyStates s) h k = absurd (clash_many pr role a b h.2 k.2)
one_refusal_shown pr role (Unmergeable r a b) NoMemory h k = absurd k
one_refusal_shown pr role (TooManyStates r) (Unreached s m) h k = absurd (h.1 m k.1)
one_refusal_shown pr role (TooManyStates r) (Unmergeable s a b) h k = absurd (clash_many pr role a b k.2 h.2)
one_refusal_shown pr role (TooManyStates r) (TooManyStates s) h k = ap (λ (x : Role). TooManyStates x) (h.0 ∙ sym k.0)
one_refusal_shown pr role (TooManyStates r) NoMemory h k = absurd k
one_refusal_shown pr role NoMemory e' h k = absurd h
