-- The first stages of three roles, at their places.
use Rattle.std.proofs.Common.{◌≡◌, ◌<◌, ℕ, List, [], ◌∷◌, ◌++◌, length, Some, slice_get, sym, ap, ◌∙◌, subst, arith, length-append}
use Rattle.rs_rings.specs.Passes.{Rings_data}
use Rattle.rs_session.specs.Data.{Stage_data}
use Rattle.rs_session.specs.Stages.{AreFirst, IsOf, first_stage, sight_of_stage}
use Rattle.rs_session.specs.declared.stages.Stage.{Stage}
use Rattle.streams.specs.Streams.{IsPlaceOf}

module _ (session : Rings_data) (stages : List Stage) (count : length session.machines ≡ 3) (first : AreFirst session stages) where
  place : (r : ℕ) (stage : Stage) → r < 3 → slice_get stages r ≡ Some stage → IsPlaceOf session r (Some stage)
  place r stage within is =
      let at = first.each r (omega (arith, within, count)) in
      let same : at.0 ≡ stage = cc (sym at.1 ∙ is) in
      let shows : sight_of_stage stage ≡ first_stage session r = ap sight_of_stage (sym same) ∙ at.3 in (
        record { of = subst (IsOf session) same at.2; role = ap (λ (s : Stage_data). s.role.0) shows },
        ap (λ (s : Stage_data). s.part.history) shows,
      )

  three : (none : List Stage) (a b c : Stage) → length none ≡ 0 → stages ≡ ((none ++ a ∷ []) ++ b ∷ []) ++ c ∷ []
      → IsPlaceOf session 0 (Some a) × IsPlaceOf session 1 (Some b) × IsPlaceOf session 2 (Some c)
  three [] a b c empty is = (
    place 0 a (omega arith) (ap (λ (l : List Stage). slice_get l 0) is),
    place 1 b (omega arith) (ap (λ (l : List Stage). slice_get l 1) is),
    place 2 c (omega arith) (ap (λ (l : List Stage). slice_get l 2) is),
  )
  three (x ∷ none) a b c empty is = absurd (let bad : ⊥ = omega (arith, empty) in bad)

  pub places : (two one none : List Stage) (a b c : Stage) → stages ≡ two ++ c ∷ [] → two ≡ one ++ b ∷ [] → one ≡ none ++ a ∷ []
      → IsPlaceOf session 0 (Some a) × IsPlaceOf session 1 (Some b) × IsPlaceOf session 2 (Some c)
  places two one none a b c last before front =
      let of_last = ap length last ∙ length-append two (c ∷ []) in
      let of_before = ap length before ∙ length-append one (b ∷ []) in
      let of_front = ap length front ∙ length-append none (a ∷ []) in
      three none a b c (omega (arith, of_last, of_before, of_front, first.count, count))
      (last ∙ ap (λ (l : List Stage). l ++ c ∷ []) (before ∙ ap (λ (l : List Stage). l ++ b ∷ []) front))
