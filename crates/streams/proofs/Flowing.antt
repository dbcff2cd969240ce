-- What the sink has got is what the source gave.
use Rattle.std.proofs.Common.{◌≡◌, ◌⊎◌, inl, inr, ℕ, zero, suc, List, [], ◌∷◌, Option, None, Some, IfSome, option_map, slice_get, length, sym, ap, ◌∙◌, arith}
use Rattle.rs_rings.specs.Acts.{parcels_got, parcels_sent}
use Rattle.rs_rings.specs.Closed.{Closed_data, IsOver}
use Rattle.rs_rings.specs.Views.{history_in, part_of}
use Rattle.rs_rings.specs.declared.views.Part.{Part}
use Rattle.rs_session.specs.Data.{Stage_data}
use Rattle.rs_session.specs.Ends.{IsThere, KnowsFrom}
use Rattle.streams.specs.Streams.{bytes_got, bytes_in, bytes_sent}

module _ (closed : Closed_data) (a b c : Stage_data) (of_a : a.role.0 ≡ 0) (of_b : b.role.0 ≡ 1) (of_c : c.role.0 ≡ 2) (all : length closed.machines ≡ 3) (over : IsOver closed)
    (knows : KnowsFrom (a ∷ b ∷ c ∷ []) closed) where
  which : (x : Stage_data) (k : ℕ) → slice_get (a ∷ b ∷ c ∷ []) k ≡ Some x → (a ≡ x) ⊎ ((b ≡ x) ⊎ (c ≡ x))
  which x zero is = inl (cc is)
  which x (suc zero) is = inr (inl (cc is))
  which x (suc (suc zero)) is = inr (inr (cc is))
  which x (suc (suc (suc k))) is = absurd (cc is)

  apart : (x y : Stage_data) (m n : ℕ) → x ≡ y → x.role.0 ≡ m → y.role.0 ≡ n → m ≡ n
  apart x y m n same of_x of_y = sym of_x ∙ ap (λ (s : Stage_data). s.role.0) same ∙ of_y

  did : (r : ℕ) (x : Stage_data) (from : IsThere (a ∷ b ∷ c ∷ []) r) → x ≡ from.stage → part_of closed.last r ≡ from.stage.part → history_in closed.last r ≡ x.part.history
  did r x from same part = ap (λ (p : Part). p.history) part ∙ ap (λ (s : Stage_data). s.part.history) (sym same)

  source_did : history_in closed.last 0 ≡ a.part.history
  source_did = let k = knows 0 (omega (arith, all)) in elim (which k.0.stage k.0.place k.0.stands) [
    | inl e ↦ did 0 a k.0 e k.1
    | inr (inl e) ↦ absurd (let n = apart b k.0.stage 1 0 e of_b k.0.role in omega (arith, n))
    | inr (inr e) ↦ absurd (let n = apart c k.0.stage 2 0 e of_c k.0.role in omega (arith, n))
  ]

  kernel_did : history_in closed.last 1 ≡ b.part.history
  kernel_did = let k = knows 1 (omega (arith, all)) in elim (which k.0.stage k.0.place k.0.stands) [
    | inl e ↦ absurd (let n = apart a k.0.stage 0 1 e of_a k.0.role in omega (arith, n))
    | inr (inl e) ↦ did 1 b k.0 e k.1
    | inr (inr e) ↦ absurd (let n = apart c k.0.stage 2 1 e of_c k.0.role in omega (arith, n))
  ]

  sink_did : history_in closed.last 2 ≡ c.part.history
  sink_did = let k = knows 2 (omega (arith, all)) in elim (which k.0.stage k.0.place k.0.stands) [
    | inl e ↦ absurd (let n = apart a k.0.stage 0 2 e of_a k.0.role in omega (arith, n))
    | inr (inl e) ↦ absurd (let n = apart b k.0.stage 1 2 e of_b k.0.role in omega (arith, n))
    | inr (inr e) ↦ did 2 c k.0 e k.1
  ]

  flowed : (input output : List ℕ) → bytes_sent 1 a.part.history ≡ input → bytes_sent 2 b.part.history ≡ bytes_got 0 b.part.history → output ≡ bytes_got 1 c.part.history → output ≡ input
  flowed input output gave handed_on gathered =
      let into : parcels_sent 1 (history_in closed.last 0) ≡ parcels_got 0 (history_in closed.last 1) = over.same 0 1 (omega (arith, all)) (omega (arith, all)) (λ e. cc e) in
      let out : parcels_sent 2 (history_in closed.last 1) ≡ parcels_got 1 (history_in closed.last 2) = over.same 1 2 (omega (arith, all)) (omega (arith, all)) (λ e. cc e) in
      gathered
      ∙ ap (bytes_got 1) (sym sink_did) ∙ ap bytes_in (sym out) ∙ ap (bytes_sent 2) kernel_did
      ∙ handed_on
      ∙ ap (bytes_got 0) (sym kernel_did) ∙ ap bytes_in (sym into) ∙ ap (bytes_sent 1) source_did
      ∙ gave

  pub output_is : {A : Type 0} (items : A → List ℕ) (input : List ℕ) (output : Option A) → bytes_sent 1 a.part.history ≡ input → bytes_sent 2 b.part.history ≡ bytes_got 0 b.part.history
      → IfSome (option_map items output) (λ bytes. bytes ≡ bytes_got 1 c.part.history) → IfSome output (λ x. items x ≡ input)
  output_is items input None gave handed_on gathered = tt
  output_is items input (Some x) gave handed_on gathered = flowed input (items x) gave handed_on gathered
