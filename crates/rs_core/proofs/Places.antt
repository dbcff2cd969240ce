-- Where no label stands twice there are at most as many arms as labels.
use Rattle.std.proofs.Common.{◌≡◌, inl, inr, ℕ, zero, suc, ◌<◌, ◌≤◌, List, Option, Some, None, slice_get, length, refl, sym, ap, ◌∙◌, arith, if◌then◌else◌, ◌==◌, ◌≢◌}
use Rattle.std.proofs.lemmas.Bool.Decides.{eqb_tells}
use Rattle.rs_model.specs.declared.graph.Arm.{Arm}
use Rattle.rs_model.specs.declared.graph.Label.{Label}
use Rattle.rs_core.specs.Choosable.{label_of}
use Rattle.rs_core.proofs.Ends.{get_there}

-- f without m and n: what f takes to n goes where m went
abbrev without : (ℕ → ℕ) → ℕ → ℕ → ℕ → ℕ
without f m n k = if f k == n then f m else f k

-- numbers below m with values below n that all differ: there are no more than n
pigeons : (n m : ℕ) (f : ℕ → ℕ) → ((k : ℕ) → k < m → f k < n) → ((i j : ℕ) → i < m → j < m → f i ≡ f j → i ≡ j) → m ≤ n
pigeons n zero f low differ = omega arith
pigeons zero (suc m) f low differ = let h = low 0 (omega arith) in absurd (omega arith)
pigeons (suc n) (suc m) f low differ = let rest = pigeons n m (without f m n) lower apart in omega arith
  where
    lower : (k : ℕ) → k < m → without f m n k < n
    lower k hk =
        let here = low k (omega arith) in
        let last = low m (omega arith) in
        elim (eqb_tells (f k) n) [
          | inl t ↦ (let e : without f m n k ≡ f m = rw t.0 refl in
              let other : f m ≢ n = λ h. (let same = differ k m (omega arith) (omega arith) (t.1 ∙ sym h) in absurd (omega arith)) in
              omega (arith, e, other))
          | inr t ↦ (let e : without f m n k ≡ f k = rw t.0 refl in omega (arith, e, t.1))
        ]

    apart : (i j : ℕ) → i < m → j < m → without f m n i ≡ without f m n j → i ≡ j
    apart i j hi hj e = elim (eqb_tells (f i) n) [
      | inl t ↦ (let ei : without f m n i ≡ f m = rw t.0 refl in
          elim (eqb_tells (f j) n) [
            | inl u ↦ differ i j (omega arith) (omega arith) (t.1 ∙ sym u.1)
            | inr u ↦ (let ej : without f m n j ≡ f j = rw u.0 refl in
                let same = differ m j (omega arith) (omega arith) (sym ei ∙ e ∙ ej) in absurd (omega arith))
          ])
      | inr t ↦ (let ei : without f m n i ≡ f i = rw t.0 refl in
          elim (eqb_tells (f j) n) [
            | inl u ↦ (let ej : without f m n j ≡ f m = rw u.0 refl in
                let same = differ i m (omega arith) (omega arith) (sym ei ∙ e ∙ ej) in absurd (omega arith))
            | inr u ↦ (let ej : without f m n j ≡ f j = rw u.0 refl in differ i j (omega arith) (omega arith) (sym ei ∙ e ∙ ej))
          ])
    ]

number_at : Option Arm → ℕ
number_at None = 0
number_at (Some a) = a.label.0

-- the first n arms, whose labels are below many
pub few_labels : (arms : List Arm) (n many : ℕ)
    → ((i j : ℕ) (a b : Arm) → slice_get arms i ≡ Some a → slice_get arms j ≡ Some b → a.label ≡ b.label → i ≡ j)
    → ((k : ℕ) (a : Arm) → k < n → slice_get arms k ≡ Some a → a.label.0 < many) → n ≤ length arms → n ≤ many
unfolding number_at
few_labels arms n many once small there = pigeons many n (λ k. number_at (slice_get arms k)) low differ
  where
    low : (k : ℕ) → k < n → number_at (slice_get arms k) < many
    low k hk = let a = get_there arms k (omega arith) in rw a.1 (small k a.0 hk a.1)

    differ : (i j : ℕ) → i < n → j < n → number_at (slice_get arms i) ≡ number_at (slice_get arms j) → i ≡ j
    differ i j hi hj e =
        let a = get_there arms i (omega arith) in
        let b = get_there arms j (omega arith) in
        let label : ℕ → Label = λ x. record { 0 = x } in
        let same : a.0.label.0 ≡ b.0.label.0 = sym (ap number_at a.1) ∙ e ∙ ap number_at b.1 in
        once i j a.0 b.0 a.1 b.1 (ap label same)

pub labelled : (o : Option Arm) (l : Label) → label_of o ≡ Some l → (a : Arm) × (o ≡ Some a) × (a.label ≡ l)
labelled None l e = absurd (cc (e))
labelled (Some a) l e = (a, refl, cc (e))
