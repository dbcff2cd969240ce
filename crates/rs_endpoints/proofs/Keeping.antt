-- Opening and closing a locker keeps its rule.
use Rattle.std.proofs.Common.{◌≡◌, ℕ, List, [], ◌∷◌, get_or, refl, sym, ap, ◌∙◌, subst, arith, Option, Some, None, length-set, get_or-set_same}
use mathlib.Core.Logic.{dite}
use mathlib.Core.Option.{some}
use native.Mathlib.Decide.{ℕ_discrete}
use Rattle.atomic_table.specs.Table.{Me, keeps, takes, gives, Allows, Arrives, rest}
use Rattle.atomic_table.proofs.Lists.{set_here}
use Rattle.rs_endpoints.specs.Lockers.{IsKept, HasOpened}

module _ {T V : Type 0} (fits : T → Type 0) where
  pub opens : (slots : ℕ) (v : V) → Arrives (IsKept fits) slots 0 (λ _. 0) (λ n m. HasOpened {V = V} fits n m)
  opens slots v s kept count wide =
      let long = kept.one_word in let stored : get_or (Rattle.std.proofs.Common.set s.words 0 0) 0 0 ≡ 0 = get_or-set_same s.words 0 0 0 (omega arith) in
      let after = length-set s.words 0 0 ∙ long in
      dite (ℕ_discrete (get_or s.words 0 0) 1)
      (λ empty. (v, takes 0 None, kept.empty empty, record { one_word = after; empty = λ e. absurd (omega arith); filled = λ e. absurd (omega arith) }, record { empty = λ _. refl; filled = λ e. absurd (omega arith) }))
      (λ other. dite (ℕ_discrete (get_or s.words 0 0) 2)
      (λ filled. let t = kept.filled filled in
      (v, takes 0 (Some t.0), t.1, record { one_word = after; empty = λ e. absurd (omega arith); filled = λ e. absurd (omega arith) }, record { empty = λ e. absurd (other e); filled = λ _. (t.0, refl, t.2) }))
      (λ out. (v, keeps, tt, record { one_word = after; empty = λ e. absurd (omega arith); filled = λ e. absurd (omega arith) }, record { empty = λ e. absurd (other e); filled = λ e. absurd (out e) })))

  pub closes : (slots id : ℕ) (m : Me (Option T) V) (v : V) (value : T) (more : List (ℕ × Option T)) → slots ≡ 1 → m ≡ (v, (0, Some value) ∷ more) → fits value
      → Allows (IsKept fits) slots id m 0 (λ _. 2) (λ _ _. Unit {0})
  closes slots id m v value more one e ok = subst (λ (n : ℕ). Allows (IsKept fits) n id m 0 (λ _. 2) (λ _ _. Unit {0})) (sym one)
      (subst (λ (x : Me (Option T) V). Allows (IsKept fits) 1 id x 0 (λ _. 2) (λ _ _. Unit {0})) (sym e)
      (λ s kept count me wide. let long = kept.one_word in let stored : get_or (Rattle.std.proofs.Common.set s.words 0 2) 0 0 ≡ 2 = get_or-set_same s.words 0 2 0 (omega arith) in
      (v, gives, tt, record { one_word = length-set s.words 0 2 ∙ long; empty = λ e. absurd (omega arith); filled = λ _. (value, set_here s.homes 0 (some (Some value)) (omega arith), ok) }, tt)))

  -- a seat that opened a filled locker holds the slot, as an exchange asks
  pub holds : (n : ℕ) (m : Me (Option T) V) → HasOpened fits n m → n ≡ 2 → (content : Option T) × (m.1 ≡ (0, content) ∷ rest m.1)
  holds n m opened is = let t = opened.filled is in (Some t.0, t.1 ∙ ap (λ l. (0, Some t.0) ∷ rest l) (sym t.1))

  -- what an exchange then gets out of it fits
  pub fits_out : (n : ℕ) (m : Me (Option T) V) → HasOpened fits n m → n ≡ 2 → (content : Option T) → m.1 ≡ (0, content) ∷ rest m.1 → (value : T) → content ≡ Some value → fits value
  fits_out n m opened is content e value c =
      let t = opened.filled is in
      let head : Some t.0 ≡ content = ap (λ (l : List (ℕ × Option T)). (get_or l 0 (0, content)).1) (sym t.1 ∙ e) in
      let both : Some t.0 ≡ Some value = head ∙ c in
      let same : t.0 ≡ value = cc (both) in
      subst fits same t.2
