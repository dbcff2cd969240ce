-- Waits lead to one role, after fewer of them than there are roles.
use Rattle.std.proofs.Common.{◌≡◌, ◌≢◌, inl, inr, ℕ, zero, suc, ◌+◌, ◌-◌, ◌<◌, ◌≤◌, List, [], ◌∷◌, Option, Some, None, slice_get, length, refl, sym, ap, ◌∙◌, subst, arith, if◌then◌else◌, ◌==◌}
use Rattle.std.proofs.lemmas.Bool.Decides.{eqb_tells, leb_tells}
use Rattle.std.proofs.lemmas.Option.{same_Some}
use Rattle.rs_model.specs.Data.{Machine_data}
use Rattle.rs_model.specs.declared.graph.Arm.{Arm}
use Rattle.rs_model.specs.declared.graph.Role.{Role}
use Rattle.rs_model.specs.declared.machines.State.{State}
use Rattle.rs_model.specs.declared.machines.State.TheVariants.{Done, Puts, Takes}
use Rattle.rs_core.specs.declared.messages.Message.{Message}
use Rattle.rs_core.specs.Choices.{AreWellFormed}
use Rattle.rs_core.specs.Configurations.{Configuration, state_at}
use Rattle.rs_core.proofs.Stands.{here_is}
use Rattle.rs_alive.specs.Schedule.{CanLeadOn, Chain, WaitsLeadOn, waits_by, waits_for}

-- who stands at a receive from an empty queue waits for its peer
pub waits : (ms : List Machine_data) (c : Configuration) (p : ℕ) (peer : Role) (arms : List Arm) → state_at ms c p ≡ Some (Takes peer arms) → c.queue peer.0 p ≡ []
    → waits_for ms c p ≡ Some peer
waits ms c p peer arms h none = rw h (rw none refl)

-- whoever doesn't stand at a receive from an empty queue doesn't wait
pub goes : (ms : List Machine_data) (c : Configuration) (p : ℕ) (peer : Role) (arms : List Arm) → state_at ms c p ≡ Some (Puts peer arms) → waits_for ms c p ≡ None
goes ms c p peer arms h = rw h refl

pub gets : (ms : List Machine_data) (c : Configuration) (p : ℕ) (peer : Role) (arms : List Arm) (m : Message) (later : List Message) → state_at ms c p ≡ Some (Takes peer arms)
    → c.queue peer.0 p ≡ m ∷ later → waits_for ms c p ≡ None
gets ms c p peer arms m later h some = elim (leb_tells 1 (length (c.queue peer.0 p))) [
  | inl t ↦ rw h (rw t.0 refl)
  | inr t ↦ absurd (let e = ap (λ (z : List Message). length z) some in omega (arith, t.1, e))
]

-- for whom a role waits is one of the roles
known_by : (ms : List Machine_data) (c : Configuration) → AreWellFormed ms → (p : ℕ) (peer : Role) (o : Option State) → state_at ms c p ≡ o → waits_by o (λ q. c.queue q p) ≡ Some peer
    → peer.0 < length ms
known_by ms c wf p peer None h w = absurd (cc (w))
known_by ms c wf p peer (Some Done) h w = absurd (cc (w))
known_by ms c wf p peer (Some (Puts q arms)) h w = absurd (cc (w))
known_by ms c wf p peer (Some (Takes q arms)) h w = elim (leb_tells 1 (length (c.queue q.0 p))) [
  | inl t ↦ (let e : waits_by (Some (Takes q arms)) (λ r. c.queue r p) ≡ None = rw t.0 refl in absurd (cc (e, w)))
  | inr t ↦ (let e : waits_by (Some (Takes q arms)) (λ r. c.queue r p) ≡ Some q = rw t.0 refl in
      let same : q ≡ peer = same_Some q peer (sym e ∙ w) in
      let at = here_is (slice_get ms p) (c.at p) (Takes q arms) h in
      let P : Role → Type 0 = λ z. z.0 < length ms in
      subst P same ((wf.fits p at.0 at.1).takes (c.at p) q arms at.2).known)
]

pub known : (ms : List Machine_data) (c : Configuration) → AreWellFormed ms → (p : ℕ) (peer : Role) → waits_for ms c p ≡ Some peer → peer.0 < length ms
known ms c wf p peer w = known_by ms c wf p peer (state_at ms c p) refl w

-- a chain has one length and one end
pub one_chain : (ms : List Machine_data) (c : Configuration) (n m p x y : ℕ) → Chain ms c n p x → Chain ms c m p y → (n ≡ m) × (x ≡ y)
one_chain ms c zero zero p x y g h = (refl, sym g.1 ∙ h.1)
one_chain ms c zero (suc m) p x y g h = absurd (let a = g.0 in let b = h.1 in cc (a, b))
one_chain ms c (suc n) zero p x y g h = absurd (let a = g.1 in let b = h.0 in cc (a, b))
one_chain ms c (suc n) (suc m) p x y g h =
    let same : g.0 ≡ h.0 = same_Some g.0 h.0 (sym g.1 ∙ h.1) in
    let P : Role → Type 0 = λ z. Chain ms c n z.0 x in
    let ih = one_chain ms c n m h.0.0 x y (subst P same g.2) h.2 in
    (ap suc ih.0, ih.1)

-- where so many waits lead
hop_by : Option Role → (ℕ → ℕ) → ℕ → ℕ
hop_by None next p = p
hop_by (Some peer) next p = next peer.0

hop : List Machine_data → Configuration → ℕ → ℕ → ℕ
hop ms c zero p = p
hop ms c (suc k) p = hop_by (waits_for ms c p) (hop ms c k) p

-- from there on the chain is as long as is left
left_of : (ms : List Machine_data) (c : Configuration) (k m n p last : ℕ) → n ≡ k + m → Chain ms c n p last → Chain ms c m (hop ms c k p) last
unfolding hop hop_by
left_of ms c zero m n p last e g = let P : ℕ → Type 0 = λ z. Chain ms c z p last in let same : n ≡ m = omega (arith, e) in subst P same g
left_of ms c (suc k) m zero p last e g = absurd (omega (arith, e))
left_of ms c (suc k) m (suc n) p last e g = rw g.1 (left_of ms c k m n g.0.0 last (omega (arith, e)) g.2)

hop_known_by : (ms : List Machine_data) (c : Configuration) → AreWellFormed ms → (k p : ℕ) → p < length ms → (o : Option Role) → waits_for ms c p ≡ o
    → ((q : ℕ) → q < length ms → hop ms c k q < length ms) → hop_by o (hop ms c k) p < length ms
unfolding hop_by
hop_known_by ms c wf k p hp None e ih = hp
hop_known_by ms c wf k p hp (Some peer) e ih = ih peer.0 (known ms c wf p peer e)

hop_known : (ms : List Machine_data) (c : Configuration) → AreWellFormed ms → (k p : ℕ) → p < length ms → hop ms c k p < length ms
unfolding hop
hop_known ms c wf zero p hp = hp
hop_known ms c wf (suc k) p hp = hop_known_by ms c wf k p hp (waits_for ms c p) refl (λ q hq. hop_known ms c wf k q hq)

-- numbers below m with values below n that all differ: there are no more than n

without : (ℕ → ℕ) → ℕ → ℕ → ℕ → ℕ
without f m n k = if f k == n then f m else f k

pigeons : (n m : ℕ) (f : ℕ → ℕ) → ((k : ℕ) → k < m → f k < n) → ((i j : ℕ) → i < m → j < m → f i ≡ f j → i ≡ j) → m ≤ n
unfolding without
pigeons n zero f low differ = omega arith
pigeons zero (suc m) f low differ = let h = low 0 (omega arith) in absurd (omega arith)
pigeons (suc n) (suc m) f low differ = let rest = pigeons n m (without f m n) lower apart in omega arith
  where
    lower : (k : ℕ) → k < m → without f m n k < n
    lower k hk =
        let here = low k (omega arith) in
        let last = low m (omega arith) in
        elim (eqb_tells (f k) n) [
          | inl t ↦ (let e : without f m n k ≡ f m = rw t.0 refl in
              let other : f m ≢ n = λ h. (let same = differ k m (omega arith) (omega arith) (t.1 ∙ sym h) in absurd (omega arith)) in
              omega (arith, e, other))
          | inr t ↦ (let e : without f m n k ≡ f k = rw t.0 refl in omega (arith, e, t.1))
        ]

    apart : (i j : ℕ) → i < m → j < m → without f m n i ≡ without f m n j → i ≡ j
    apart i j hi hj e = elim (eqb_tells (f i) n) [
      | inl t ↦ (let ei : without f m n i ≡ f m = rw t.0 refl in
          elim (eqb_tells (f j) n) [
            | inl u ↦ differ i j (omega arith) (omega arith) (t.1 ∙ sym u.1)
            | inr u ↦ (let ej : without f m n j ≡ f j = rw u.0 refl in
                let same = differ m j (omega arith) (omega arith) (sym ei ∙ e ∙ ej) in absurd (omega arith))
          ])
      | inr t ↦ (let ei : without f m n i ≡ f i = rw t.0 refl in
          elim (eqb_tells (f j) n) [
            | inl u ↦ (let ej : without f m n j ≡ f m = rw u.0 refl in
                let same = differ i m (omega arith) (omega arith) (sym ei ∙ e ∙ ej) in absurd (omega arith))
            | inr u ↦ (let ej : without f m n j ≡ f j = rw u.0 refl in differ i j (omega arith) (omega arith) (sym ei ∙ e ∙ ej))
          ])
    ]

-- a chain comes to no role twice, so it has fewer waits than there are roles
pub few_waits : (ms : List Machine_data) (c : Configuration) → AreWellFormed ms → (n p last : ℕ) → p < length ms → Chain ms c n p last → n < length ms
few_waits ms c wf n p last hp g = pigeons (length ms) (suc n) (λ k. hop ms c k p) (λ k hk. hop_known ms c wf k p hp) differ
  where
    rest : (i m : ℕ) → i + m ≡ n → Chain ms c m (hop ms c i p) last
    rest i m e = left_of ms c i m n p last (sym e) g

    differ : (i j : ℕ) → i < suc n → j < suc n → hop ms c i p ≡ hop ms c j p → i ≡ j
    differ i j hi hj e =
        let P : ℕ → Type 0 = λ z. Chain ms c (n - i) z last in
        let one = one_chain ms c (n - i) (n - j) (hop ms c j p) last last (subst P e (rest i (n - i) (omega arith))) (rest j (n - j) (omega arith)) in
        let same = one.0 in
        omega arith

-- the search for the last role has come to `at` by so many waits
pub record Sought (ms : List Machine_data) (c : Configuration) (from at hops : ℕ) : Type 0 where
  pub last : ℕ
  pub many : ℕ
  pub rest : ℕ
  pub whole : Chain ms c many from last
  pub ahead : Chain ms c rest at last
  pub all : hops + rest ≡ many
  pub present : at < length ms

pub seek : (ms : List Machine_data) (c : Configuration) (from : ℕ) → from < length ms → CanLeadOn ms c from → Sought ms c from from 0
seek ms c from there can = record { last = can.0; many = can.1.0; rest = can.1.0; whole = can.1.1; ahead = can.1.1; all = omega arith; present = there }

pub seek_on : (ms : List Machine_data) (c : Configuration) (from at hops : ℕ) (peer : Role) → Sought ms c from at hops → waits_for ms c at ≡ Some peer → peer.0 < length ms
    → Sought ms c from peer.0 (hops + 1)
seek_on ms c from at hops peer s w there = by s.rest s.ahead s.all
  where
    by : (rest : ℕ) → Chain ms c rest at s.last → hops + rest ≡ s.many → Sought ms c from peer.0 (hops + 1)
    by zero ahead all = absurd (let a = ahead.0 in cc (a, w))
    by (suc rest) ahead all =
        let same : ahead.0 ≡ peer = same_Some ahead.0 peer (sym ahead.1 ∙ w) in
        let P : Role → Type 0 = λ z. Chain ms c rest z.0 s.last in
        record { last = s.last; many = s.many; rest = rest; whole = s.whole; ahead = subst P same ahead.2; all = omega (arith, all); present = there }

pub sought : (ms : List Machine_data) (c : Configuration) (from at hops : ℕ) → Sought ms c from at hops → waits_for ms c at ≡ None → WaitsLeadOn ms c from at
sought ms c from at hops s w = by s.rest s.ahead
  where
    by : (rest : ℕ) → Chain ms c rest at s.last → WaitsLeadOn ms c from at
    by zero ahead = let P : ℕ → Type 0 = λ z. Chain ms c s.many from z in (s.many, subst P (sym ahead.1) s.whole)
    by (suc rest) ahead = absurd (let a = ahead.1 in cc (a, w))

pub not_lost : (ms : List Machine_data) (c : Configuration) → AreWellFormed ms → (from at hops : ℕ) → from < length ms → Sought ms c from at hops → length ms ≤ hops → ⊥
not_lost ms c wf from at hops hf s far = let few = few_waits ms c wf s.many from s.last hf s.whole in let all = s.all in absurd (omega arith)
