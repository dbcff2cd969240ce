-- Queues are first in, first out: what was taken from one, and then what stands in it, is what was sent.
use Rattle.std.proofs.Common.{◌≡◌, ◌≢◌, inl, inr, ℕ, List, [], ◌∷◌, ◌++◌, refl, sym, ap, ap₂, ◌∙◌, append-nil, append_assoc, if◌then◌else◌, ◌==◌}
use Rattle.std.proofs.lemmas.Bool.Decides.{eqb_tells}
use Rattle.std.proofs.lemmas.List.{append_cancel_left}
use Rattle.rs_model.specs.Data.{Machine_data}
use Rattle.rs_model.specs.declared.graph.Label.{Label}
use Rattle.rs_model.specs.declared.graph.Role.{Role}
use Rattle.rs_model.specs.declared.values.Value.{Value}
use Rattle.rs_core.specs.Configurations.{Message, Configuration, Event, Send, Receive, Sends, Receives, StartsAt}
use Rattle.rs_core.specs.Histories.{Sent, Got, History}
use Rattle.rs_core.proofs.Stories.{Histories, Tells, Story, no_histories}

-- the messages that a history sends to q, and that it takes from q
abbrev pub sents : ℕ → History → List Message
sents q [] = []
sents q (Sent r l v ∷ h) = if r.0 == q then record { label = l; value = v } ∷ sents q h else sents q h
sents q (Got r l v ∷ h) = sents q h

abbrev pub gots : ℕ → History → List Message
gots q [] = []
gots q (Sent r l v ∷ h) = gots q h
gots q (Got r l v ∷ h) = if r.0 == q then record { label = l; value = v } ∷ gots q h else gots q h

abbrev pub message : Label → Value → Message
message l v = record { label = l; value = v }

pub sents_append : (q : ℕ) (xs ys : History) → sents q (xs ++ ys) ≡ sents q xs ++ sents q ys
sents_append q [] ys = refl
sents_append q (Got r l v ∷ xs) ys = sents_append q xs ys
sents_append q (Sent r l v ∷ xs) ys = elim (eqb_tells r.0 q) [
  | inl t ↦ rw t.0 (ap (λ (z : List Message). message l v ∷ z) (sents_append q xs ys))
  | inr t ↦ rw t.0 (sents_append q xs ys)
]

pub gots_append : (q : ℕ) (xs ys : History) → gots q (xs ++ ys) ≡ gots q xs ++ gots q ys
gots_append q [] ys = refl
gots_append q (Sent r l v ∷ xs) ys = gots_append q xs ys
gots_append q (Got r l v ∷ xs) ys = elim (eqb_tells r.0 q) [
  | inl t ↦ rw t.0 (ap (λ (z : List Message). message l v ∷ z) (gots_append q xs ys))
  | inr t ↦ rw t.0 (gots_append q xs ys)
]

pub sents_one : (q : ℕ) (r : Role) (l : Label) (v : Value) → r.0 ≡ q → sents q (Sent r l v ∷ []) ≡ message l v ∷ []
sents_one q r l v e = elim (eqb_tells r.0 q) [ inl t ↦ rw t.0 refl | inr t ↦ absurd (t.1 e) ]

pub sents_none : (q : ℕ) (r : Role) (l : Label) (v : Value) → r.0 ≢ q → sents q (Sent r l v ∷ []) ≡ []
sents_none q r l v n = elim (eqb_tells r.0 q) [ inl t ↦ absurd (n t.1) | inr t ↦ rw t.0 refl ]

pub gots_one : (q : ℕ) (r : Role) (l : Label) (v : Value) → r.0 ≡ q → gots q (Got r l v ∷ []) ≡ message l v ∷ []
gots_one q r l v e = elim (eqb_tells r.0 q) [ inl t ↦ rw t.0 refl | inr t ↦ absurd (t.1 e) ]

pub gots_none : (q : ℕ) (r : Role) (l : Label) (v : Value) → r.0 ≢ q → gots q (Got r l v ∷ []) ≡ []
gots_none q r l v n = elim (eqb_tells r.0 q) [ inl t ↦ absurd (n t.1) | inr t ↦ rw t.0 refl ]

-- what b took from a, and what stands in the queue, is what a sent to b
abbrev pub Fifo : Configuration → Histories → Type 0
Fifo c h = (a b : ℕ) → a ≢ b → gots a (h b) ++ c.queue a b ≡ sents b (h a)

fifo_send : (ms : List Machine_data) (c d : Configuration) (p a : ℕ) (v : Value) (h k : Histories) (st : Sends ms c p a v d)
    → k p ≡ h p ++ (Sent st.peer st.arm.label v ∷ []) → ((r : ℕ) → r ≢ p → k r ≡ h r) → Fifo c h → Fifo d k
fifo_send ms c d p a v h k st now others f x y ne = elim (eqb_tells y p) [
  | inl u ↦ (
      let nx : x ≢ p = λ e. ne (e ∙ sym u.1) in
      let g : gots x (k y) ≡ gots x (h y) =
      ap (λ (z : ℕ). gots x (k z)) u.1 ∙ ap (λ (z : History). gots x z) now ∙ gots_append x (h p) (Sent st.peer st.arm.label v ∷ []) ∙ append-nil (gots x (h p))
      ∙ ap (λ (z : ℕ). gots x (h z)) (sym u.1) in
      rw (st.other_queues x y (inl nx), g, others x nx) (f x y ne))
  | inr u ↦ elim (eqb_tells x p) [
    | inr t ↦ rw (st.other_queues x y (inl t.1), others x t.1, others y u.1) (f x y ne)
    | inl t ↦ (
        let sn : sents y (k x) ≡ sents y (h x) ++ sents y (Sent st.peer st.arm.label v ∷ []) =
        ap (λ (z : ℕ). sents y (k z)) t.1 ∙ ap (λ (z : History). sents y z) now ∙ sents_append y (h p) (Sent st.peer st.arm.label v ∷ [])
        ∙ ap (λ (z : ℕ). sents y (h z) ++ sents y (Sent st.peer st.arm.label v ∷ [])) (sym t.1) in
        let g : gots x (k y) ≡ gots x (h y) = ap (λ (z : History). gots x z) (others y u.1) in
        elim (eqb_tells y st.peer.0) [
          | inl w ↦ (
              let q : d.queue x y ≡ c.queue x y ++ (message st.arm.label v ∷ []) = rw (t.1, w.1) st.appends in
              ap₂ (λ (z z' : List Message). z ++ z') g q ∙ sym (append_assoc (gots x (h y)) (c.queue x y) (message st.arm.label v ∷ []))
              ∙ ap (λ (z : List Message). z ++ (message st.arm.label v ∷ [])) (f x y ne)
              ∙ ap (λ (z : List Message). sents y (h x) ++ z) (sym (sents_one y st.peer st.arm.label v (sym w.1))) ∙ sym sn)
          | inr w ↦ (
              let q : d.queue x y ≡ c.queue x y = st.other_queues x y (inr w.1) in
              ap₂ (λ (z z' : List Message). z ++ z') g q ∙ f x y ne ∙ sym (append-nil (sents y (h x)))
              ∙ ap (λ (z : List Message). sents y (h x) ++ z) (sym (sents_none y st.peer st.arm.label v (λ e. w.1 (sym e)))) ∙ sym sn)
        ])
  ]
]

fifo_receive : (ms : List Machine_data) (c d : Configuration) (p : ℕ) (h k : Histories) (st : Receives ms c p d)
    → k p ≡ h p ++ (Got st.peer st.message.label st.message.value ∷ []) → ((r : ℕ) → r ≢ p → k r ≡ h r) → Fifo c h → Fifo d k
fifo_receive ms c d p h k st now others f x y ne = elim (eqb_tells x p) [
  | inl t ↦ (
      let ny : y ≢ p = λ e. ne (t.1 ∙ sym e) in
      let g : sents y (k x) ≡ sents y (h x) =
      ap (λ (z : ℕ). sents y (k z)) t.1 ∙ ap (λ (z : History). sents y z) now ∙ sents_append y (h p) (Got st.peer st.message.label st.message.value ∷ []) ∙ append-nil (sents y (h p))
      ∙ ap (λ (z : ℕ). sents y (h z)) (sym t.1) in
      rw (st.other_queues x y (inr ny), g, others y ny) (f x y ne))
  | inr t ↦ elim (eqb_tells y p) [
    | inr u ↦ rw (st.other_queues x y (inr u.1), others x t.1, others y u.1) (f x y ne)
    | inl u ↦ (
        let gn : gots x (k y) ≡ gots x (h y) ++ gots x (Got st.peer st.message.label st.message.value ∷ []) =
        ap (λ (z : ℕ). gots x (k z)) u.1 ∙ ap (λ (z : History). gots x z) now ∙ gots_append x (h p) (Got st.peer st.message.label st.message.value ∷ [])
        ∙ ap (λ (z : ℕ). gots x (h z) ++ gots x (Got st.peer st.message.label st.message.value ∷ [])) (sym u.1) in
        let sn : sents y (k x) ≡ sents y (h x) = ap (λ (z : History). sents y z) (others x t.1) in
        elim (eqb_tells x st.peer.0) [
          | inl w ↦ (
              let q : c.queue x y ≡ st.message ∷ d.queue x y = rw (u.1, w.1) st.removes in
              ap (λ (z : List Message). z ++ d.queue x y) (gn ∙ ap (λ (z : List Message). gots x (h y) ++ z) (gots_one x st.peer st.message.label st.message.value (sym w.1)))
              ∙ append_assoc (gots x (h y)) (st.message ∷ []) (d.queue x y) ∙ ap (λ (z : List Message). gots x (h y) ++ z) (sym q) ∙ f x y ne ∙ sym sn)
          | inr w ↦ (
              let q : d.queue x y ≡ c.queue x y = st.other_queues x y (inl w.1) in
              ap₂ (λ (z z' : List Message). z ++ z') (gn ∙ ap (λ (z : List Message). gots x (h y) ++ z) (gots_none x st.peer st.message.label st.message.value (λ e. w.1 (sym e)))
              ∙ append-nil (gots x (h y))) q ∙ f x y ne ∙ sym sn)
        ])
  ]
]

pub fifo_step : (ms : List Machine_data) (c d : Configuration) (e : Event) (h k : Histories) → Tells ms c e d h k → Fifo c h → Fifo d k
fifo_step ms c d (Send r a v) h k t f = fifo_send ms c d r.0 a v h k t.0 t.1 t.2 f
fifo_step ms c d (Receive r) h k t f = fifo_receive ms c d r.0 h k t.0 t.1 t.2 f

pub fifo_story : (ms : List Machine_data) (c d : Configuration) (es : List Event) (h k : Histories) → Story ms c h es d k → Fifo c h → Fifo d k
fifo_story ms c d [] h k s f a b ne =
    let q : c.queue a b ≡ d.queue a b = ap (λ (z : Configuration). z.queue a b) s.0 in
    ap₂ (λ (z z' : List Message). z ++ z') (ap (λ (z : History). gots a z) (s.1 b)) (sym q) ∙ f a b ne ∙ ap (λ (z : History). sents b z) (sym (s.1 a))
fifo_story ms c d (e ∷ es) h k s f a b ne = fifo_story ms s.0 d es s.1 k s.3 (fifo_step ms c s.0 e h s.1 s.2 f) a b ne

pub fifo_start : (ms : List Machine_data) (c : Configuration) → StartsAt ms c → Fifo c no_histories
fifo_start ms c s a b ne = s.queues a b

-- one list is a beginning of the other
pub data Comparable {A : Type 0} (xs ys : List A) : Type 0 where
  Shorter : (zs : List A) → ys ≡ xs ++ zs → Comparable xs ys
  Longer : (zs : List A) → xs ≡ ys ++ zs → Comparable xs ys

-- what stands at the same place of comparable lists is the same
pub same_place : {A : Type 0} (g : List A) (a b : A) (as' bs : List A) → Comparable (g ++ (a ∷ as')) (g ++ (b ∷ bs)) → a ≡ b
same_place g a b as' bs (Shorter zs e) =
    let f : b ∷ bs ≡ a ∷ (as' ++ zs) = append_cancel_left g (b ∷ bs) (a ∷ (as' ++ zs)) (e ∙ append_assoc g (a ∷ as') zs) in
    cc (f)
same_place g a b as' bs (Longer zs e) =
    let f : a ∷ as' ≡ b ∷ (bs ++ zs) = append_cancel_left g (a ∷ as') (b ∷ (bs ++ zs)) (e ∙ append_assoc g (b ∷ bs) zs) in
    cc (f)

pub sents_comparable : (q : ℕ) (xs ys : History) → Comparable xs ys → Comparable (sents q xs) (sents q ys)
sents_comparable q xs ys (Shorter zs e) = Shorter (sents q zs) (ap (λ (z : History). sents q z) e ∙ sents_append q xs zs)
sents_comparable q xs ys (Longer zs e) = Longer (sents q zs) (ap (λ (z : History). sents q z) e ∙ sents_append q ys zs)
