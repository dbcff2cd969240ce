-- A walk cut in two, where some of the acts that it leads to have been done.
use Rattle.std.proofs.Common.{◌≡◌, ◌⊎◌, inl, inr, ℕ, List, [], ◌∷◌, ◌++◌, refl, sym, ap, ap₂, ◌∙◌, subst, append-nil, append_assoc}
use Rattle.std.proofs.lemmas.List.{append_cancel_left}
use Rattle.rs_model.specs.Data.{Machine_data}
use Rattle.rs_derive.specs.Data.{Derivation_data}
use Rattle.rs_core.proofs.Items.{Item, Entry, sends, recvs, sends_append, recvs_append}
use Rattle.rs_safety.proofs.Kept.{Kept, kept_hop, IsGive}
use Rattle.rs_safety.proofs.Derived.{Path, Begin, Passed, AtOnce, PaidFor}

-- the same sends to each role, in order, and the same receives from each
pub record SameLines (xs ys : List Item) : Type 0 where
  pub sent : (q : ℕ) → sends q xs ≡ sends q ys
  pub got : (q : ℕ) → recvs q xs ≡ recvs q ys

lines_snoc : (xs ys : List Item) (x : Item) → SameLines xs ys → SameLines (xs ++ (x ∷ [])) (ys ++ (x ∷ []))
lines_snoc xs ys x h = record {
  sent = λ q. sends_append q xs (x ∷ []) ∙ ap (λ (z : List Entry). z ++ sends q (x ∷ [])) (h.sent q) ∙ sym (sends_append q ys (x ∷ []));
  got = λ q. recvs_append q xs (x ∷ []) ∙ ap (λ (z : List Entry). z ++ recvs q (x ∷ [])) (h.got q) ∙ sym (recvs_append q ys (x ∷ []));
}

lines_from : (xs ys zs : List Item) → xs ≡ ys → SameLines ys zs → SameLines xs zs
lines_from xs ys zs e h = let P : List Item → Type 0 = λ z. SameLines z zs in subst P (sym e) h

lines_kept : (xs ys zs : List Item) → Kept ys xs → SameLines ys zs → SameLines xs zs
lines_kept xs ys zs k h = record { sent = λ q. k.sent q ∙ h.sent q; got = λ q. k.got q ∙ h.got q }

-- what a walk has done and owes has the lines of what it has passed
pub path_lines : (d : Derivation_data) (sub above : Machine_data) (i : ℕ) (eaten done owed : List Item)
    → Path d sub above i eaten done owed → SameLines (done ++ owed) eaten
path_lines d sub above i eaten done owed Begin = record { sent = λ q. refl; got = λ q. refl }
path_lines d sub above j eaten' done owed' (Passed i _ eaten _ owed x p e) =
    lines_from (done ++ (owed ++ (x ∷ []))) ((done ++ owed) ++ (x ∷ [])) (eaten ++ (x ∷ [])) (sym (append_assoc done owed (x ∷ [])))
    (lines_snoc (done ++ owed) eaten x (path_lines d sub above i eaten done owed p))
path_lines d sub above j eaten' done' owed (AtOnce i _ eaten done _ x p e free give) =
    let h = lines_snoc (done ++ owed) eaten x (path_lines d sub above i eaten done owed p) in
    let h' = lines_from (done ++ (owed ++ (x ∷ []))) ((done ++ owed) ++ (x ∷ [])) (eaten ++ (x ∷ [])) (sym (append_assoc done owed (x ∷ []))) h in
    let k = kept_hop done owed x [] free in
    let P : List Item → Type 0 = λ z. Kept (done ++ (owed ++ (x ∷ []))) ((done ++ (x ∷ [])) ++ z) in
    lines_kept ((done ++ (x ∷ [])) ++ owed) (done ++ (owed ++ (x ∷ []))) (eaten ++ (x ∷ [])) (subst P (append-nil owed) k) h'
path_lines d sub above j eaten done' owed' (PaidFor i _ _ done left right x p e free) =
    lines_kept ((done ++ (x ∷ [])) ++ (left ++ right)) (done ++ (left ++ (x ∷ right))) eaten (kept_hop done left x right free) (path_lines d sub above i eaten done (left ++ (x ∷ right)) p)

-- what the role does next: nothing, an act that is owed, or the next act that is passed
pub data Next (future later owed0 owed : List Item) : Type 0 where
  AtEnd : future ≡ [] → later ≡ [] → owed0 ≡ owed → Next future later owed0 owed
  NextPaid : (x : Item) (tail left right : List Item) → future ≡ x ∷ tail → owed0 ≡ left ++ (x ∷ right) → Next future later owed0 owed
  NextOnce : (x : Item) (tail more : List Item) → future ≡ x ∷ tail → later ≡ x ∷ more → IsGive x → Next future later owed0 owed

-- a walk that comes to do `past` and then `future`, cut where `past` is done: the node at which it was then, what it had
-- passed and owed, and what it passes later
pub record Cut (d : Derivation_data) (sub above : Machine_data) (eaten past future owed : List Item) : Type 0 where
  pub place : ℕ
  pub eaten0 : List Item
  pub owed0 : List Item
  pub later : List Item
  pub path : Path d sub above place eaten0 past owed0
  pub splits : eaten ≡ eaten0 ++ later
  pub next : Next future later owed0 owed

next_later : (future later owed0 owed owed' : List Item) (x : Item) → (future ≡ [] → ⊥) → Next future later owed0 owed
    → Next future (later ++ (x ∷ [])) owed0 owed'
next_later future later owed0 owed owed' x ne (AtEnd e l o) = absurd (ne e)
next_later future later owed0 owed owed' x ne (NextPaid y tail left right e o) = NextPaid y tail left right e o
next_later future later owed0 owed owed' x ne (NextOnce y tail more e l g) = NextOnce y tail (more ++ (x ∷ [])) e (ap (λ (z : List Item). z ++ (x ∷ [])) l) g

next_more : (future later owed0 owed owed' : List Item) (x : Item) → (future ≡ [] → ⊥) → Next future later owed0 owed
    → Next (future ++ (x ∷ [])) later owed0 owed'
next_more future later owed0 owed owed' x ne (AtEnd e l o) = absurd (ne e)
next_more future later owed0 owed owed' x ne (NextPaid y tail left right e o) = NextPaid y (tail ++ (x ∷ [])) left right (ap (λ (z : List Item). z ++ (x ∷ [])) e) o
next_more future later owed0 owed owed' x ne (NextOnce y tail more e l g) = NextOnce y (tail ++ (x ∷ [])) more (ap (λ (z : List Item). z ++ (x ∷ [])) e) l g

-- a list with one more item at its end, cut in two
pub data LastOf (whole : List Item) (x : Item) (past future : List Item) : Type 0 where
  InPast : future ≡ [] → past ≡ whole ++ (x ∷ []) → LastOf whole x past future
  InFuture : (front : List Item) → future ≡ front ++ (x ∷ []) → whole ≡ past ++ front → LastOf whole x past future

last_of : (whole : List Item) (x : Item) (past future : List Item) → whole ++ (x ∷ []) ≡ past ++ future → LastOf whole x past future
last_of whole x [] future e = InFuture whole (sym e) refl
last_of [] x (y ∷ ys) future e = go ys future (cc (e)) (cc (e))
  where
    go : (ys future : List Item) → x ≡ y → [] ≡ ys ++ future → LastOf [] x (y ∷ ys) future
    go [] [] a b = InPast refl (cc (a))
    go [] (z ∷ zs) a b = absurd (cc (b))
    go (z ∷ zs) future a b = absurd (cc (b))
last_of (w ∷ ws) x (y ∷ ys) future e = go (last_of ws x ys future (cc (e))) (cc (e))
  where
    go : LastOf ws x ys future → w ≡ y → LastOf (w ∷ ws) x (y ∷ ys) future
    go (InPast a b) h = InPast a (ap₂ (λ (u : Item) (v : List Item). u ∷ v) (sym h) b)
    go (InFuture front a b) h = InFuture front a (ap₂ (λ (u : Item) (v : List Item). u ∷ v) h b)

list_case : (xs : List Item) → (xs ≡ []) ⊎ (xs ≡ [] → ⊥)
list_case [] = inl refl
list_case (x ∷ xs) = inr (λ e. cc (e))

nil_both : (xs ys : List Item) → [] ≡ xs ++ ys → (xs ≡ []) × (ys ≡ [])
nil_both [] ys e = (refl, sym e)
nil_both (x ∷ xs) ys e = absurd (cc (e))

snoc_some : (xs : List Item) (x : Item) → xs ++ (x ∷ []) ≡ [] → ⊥
snoc_some [] x e = cc (e)
snoc_some (y ∷ ys) x e = cc (e)

-- the whole walk, where nothing is to come
cut_all : (d : Derivation_data) (sub above : Machine_data) (i : ℕ) (eaten whole owed past future : List Item)
    → Path d sub above i eaten whole owed → whole ≡ past → future ≡ [] → Cut d sub above eaten past future owed
cut_all d sub above i eaten whole owed past future p e f =
    let P : List Item → Type 0 = λ z. Path d sub above i eaten z owed in
    record { place = i; eaten0 = eaten; owed0 = owed; later = []; path = subst P e p; splits = sym (append-nil eaten); next = AtEnd f refl refl }

-- the walk goes on, and passes x
cut_later : (d : Derivation_data) (sub above : Machine_data) (eaten past future owed owed' : List Item) (x : Item)
    → (future ≡ [] → ⊥) → Cut d sub above eaten past future owed → Cut d sub above (eaten ++ (x ∷ [])) past future owed'
cut_later d sub above eaten past future owed owed' x ne r =
    record {
      place = r.place;
      eaten0 = r.eaten0;
      owed0 = r.owed0;
      later = r.later ++ (x ∷ []);
      path = r.path;
      splits = ap (λ (z : List Item). z ++ (x ∷ [])) r.splits ∙ append_assoc r.eaten0 r.later (x ∷ []);
      next = next_later future r.later r.owed0 owed owed' x ne r.next;
    }

-- the walk goes on, and does x
cut_more : (d : Derivation_data) (sub above : Machine_data) (eaten past future owed owed' : List Item) (x : Item)
    → (future ≡ [] → ⊥) → Cut d sub above eaten past future owed → Cut d sub above eaten past (future ++ (x ∷ [])) owed'
cut_more d sub above eaten past future owed owed' x ne r =
    record {
      place = r.place;
      eaten0 = r.eaten0;
      owed0 = r.owed0;
      later = r.later;
      path = r.path;
      splits = r.splits;
      next = next_more future r.later r.owed0 owed owed' x ne r.next;
    }

cut_at : (d : Derivation_data) (sub above : Machine_data) (eaten past future future' owed : List Item) → future ≡ future'
    → Cut d sub above eaten past future' owed → Cut d sub above eaten past future owed
cut_at d sub above eaten past future future' owed e r = let P : List Item → Type 0 = λ z. Cut d sub above eaten past z owed in subst P (sym e) r

pub cut : (d : Derivation_data) (sub above : Machine_data) (i : ℕ) (eaten whole owed past future : List Item)
    → (p : Path d sub above i eaten whole owed) → whole ≡ past ++ future → Cut d sub above eaten past future owed
cut d sub above i eaten whole owed past future Begin h =
    let e = nil_both past future h in
    cut_all d sub above 0 [] [] [] past future Begin (sym e.0) e.1
cut d sub above j eaten' whole owed' past future (Passed i _ eaten _ owed x p e) h =
    elim (list_case future) [
      | inl f ↦ cut_all d sub above j (eaten ++ (x ∷ [])) whole (owed ++ (x ∷ [])) past future (Passed i j eaten whole owed x p e) (rw (h, f) (append-nil past)) f
      | inr ne ↦ cut_later d sub above eaten past future owed (owed ++ (x ∷ [])) x ne (cut d sub above i eaten whole owed past future p h)
    ]
cut d sub above j eaten' whole' owed past future (AtOnce i _ eaten whole _ x p e free give) h =
    once (last_of whole x past future h) (λ front ew. cut d sub above i eaten whole owed past front p ew)
  where
    once : LastOf whole x past future → ((front : List Item) → whole ≡ past ++ front → Cut d sub above eaten past front owed)
        → Cut d sub above (eaten ++ (x ∷ [])) past future owed
    once (InPast f ep) ih = cut_all d sub above j (eaten ++ (x ∷ [])) (whole ++ (x ∷ [])) owed past future (AtOnce i j eaten whole owed x p e free give) (sym ep) f
    once (InFuture front f ew) ih = elim (list_case front) [
      | inl none ↦ (let P : List Item → Type 0 = λ z. Path d sub above i eaten z owed in
          let ew' : whole ≡ past = rw (ew, none) (append-nil past) in
          let f' : future ≡ x ∷ [] = rw (f, none) refl in
          record { place = i; eaten0 = eaten; owed0 = owed; later = x ∷ []; path = subst P ew' p; splits = refl; next = NextOnce x [] [] f' refl give })
      | inr ne ↦ cut_at d sub above (eaten ++ (x ∷ [])) past future (front ++ (x ∷ [])) owed f
          (cut_later d sub above eaten past (front ++ (x ∷ [])) owed owed x (snoc_some front x) (cut_more d sub above eaten past front owed owed x ne (ih front ew)))
    ]
cut d sub above j eaten whole' owed' past future (PaidFor i _ _ whole left right x p e free) h =
    paid (last_of whole x past future h) (λ front ew. cut d sub above i eaten whole (left ++ (x ∷ right)) past front p ew)
  where
    paid : LastOf whole x past future
        → ((front : List Item) → whole ≡ past ++ front → Cut d sub above eaten past front (left ++ (x ∷ right)))
        → Cut d sub above eaten past future (left ++ right)
    paid (InPast f ep) ih = cut_all d sub above j eaten (whole ++ (x ∷ [])) (left ++ right) past future (PaidFor i j eaten whole left right x p e free) (sym ep) f
    paid (InFuture front f ew) ih = elim (list_case front) [
      | inl none ↦ (let P : List Item → Type 0 = λ z. Path d sub above i eaten z (left ++ (x ∷ right)) in
          let ew' : whole ≡ past = rw (ew, none) (append-nil past) in
          let f' : future ≡ x ∷ [] = rw (f, none) refl in
          record { place = i; eaten0 = eaten; owed0 = left ++ (x ∷ right); later = []; path = subst P ew' p; splits = sym (append-nil eaten); next = NextPaid x [] left right f' refl })
      | inr ne ↦ cut_at d sub above eaten past future (front ++ (x ∷ [])) (left ++ right) f (cut_more d sub above eaten past front (left ++ (x ∷ right)) (left ++ right) x ne (ih front ew))
    ]

-- what is still to be done is what is owed now and what is to be passed
pub rest_lines : (d : Derivation_data) (sub above : Machine_data) (i : ℕ) (eaten past future owed : List Item)
    → Path d sub above i eaten (past ++ future) owed → (c : Cut d sub above eaten past future owed)
    → SameLines (future ++ owed) (c.owed0 ++ c.later)
rest_lines d sub above i eaten past future owed p c =
    let all = path_lines d sub above i eaten (past ++ future) owed p in
    let now = path_lines d sub above c.place c.eaten0 past c.owed0 c.path in
    record {
      sent = λ q.
          let a : sends q past ++ sends q (future ++ owed) ≡ sends q eaten = sym (sends_append q past (future ++ owed)) ∙ ap (λ (z : List Item). sends q z) (sym (append_assoc past future owed))
          ∙ all.sent q in
          let b : sends q past ++ sends q c.owed0 ≡ sends q c.eaten0 = sym (sends_append q past c.owed0) ∙ now.sent q in
          let e : sends q eaten ≡ sends q c.eaten0 ++ sends q c.later = ap (λ (z : List Item). sends q z) c.splits ∙ sends_append q c.eaten0 c.later in
          let f : sends q past ++ (sends q c.owed0 ++ sends q c.later) ≡ sends q c.eaten0 ++ sends q c.later = sym (append_assoc (sends q past) (sends q c.owed0) (sends q c.later))
          ∙ ap (λ (z : List Entry). z ++ sends q c.later) b in
          append_cancel_left (sends q past) (sends q (future ++ owed)) (sends q c.owed0 ++ sends q c.later) (a ∙ e ∙ sym f) ∙ sym (sends_append q c.owed0 c.later);
      got = λ q.
          let a : recvs q past ++ recvs q (future ++ owed) ≡ recvs q eaten = sym (recvs_append q past (future ++ owed)) ∙ ap (λ (z : List Item). recvs q z) (sym (append_assoc past future owed))
          ∙ all.got q in
          let b : recvs q past ++ recvs q c.owed0 ≡ recvs q c.eaten0 = sym (recvs_append q past c.owed0) ∙ now.got q in
          let e : recvs q eaten ≡ recvs q c.eaten0 ++ recvs q c.later = ap (λ (z : List Item). recvs q z) c.splits ∙ recvs_append q c.eaten0 c.later in
          let f : recvs q past ++ (recvs q c.owed0 ++ recvs q c.later) ≡ recvs q c.eaten0 ++ recvs q c.later = sym (append_assoc (recvs q past) (recvs q c.owed0) (recvs q c.later))
          ∙ ap (λ (z : List Entry). z ++ recvs q c.later) b in
          append_cancel_left (recvs q past) (recvs q (future ++ owed)) (recvs q c.owed0 ++ recvs q c.later) (a ∙ e ∙ sym f) ∙ sym (recvs_append q c.owed0 c.later);
    }
