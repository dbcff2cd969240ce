-- The first three stages of a session of three machines.
use Rattle.std.proofs.Common.{◌≡◌, ◌<◌, ◌+◌, ℕ, List, [], ◌∷◌, ◌++◌, length, Some, slice_get, refl, sym, ap, ◌∙◌, subst, arith, length-append}
use Rattle.std.proofs.lemmas.Option.{slice_get_within}
use Rattle.rs_model.specs.Data.{Machine_data}
use Rattle.rs_rings.specs.Acts.{role_of_number}
use Rattle.rs_rings.specs.Passes.{Rings_data}
use Rattle.rs_rings.specs.Views.{start_of}
use Rattle.rs_session.specs.Data.{Stage_data}
use Rattle.rs_session.specs.Stages.{AreFirst, IsOf, first_stage, sight_of_stage}
use Rattle.rs_session.specs.declared.stages.Stage.{Stage}
use Rattle.rs_session.proofs.HandedIn.{at_end, in_front}
use Rattle.rs_typed.specs.Endpoints.{CanEnter}
use Rattle.double_buffering.specs.Machines.{all_machines, kernel, sink, source}

-- the stage at a place can enter at the start of the machine there
enters_at : (session : Rings_data) (stages : List Stage) (r : ℕ) (machine : Machine_data) (stage : Stage) → AreFirst session stages → slice_get session.machines r ≡ Some machine → role_of_number r ≡ machine.role → slice_get stages r ≡ Some stage
    → IsOf session stage × CanEnter session machine machine.start stage
enters_at session stages r machine stage first runs of is =
    let within : r < length stages = slice_get_within stages r stage is in
    let at = first.each r (omega (arith, within, first.count)) in
    let same : at.0 ≡ stage = cc (sym at.1 ∙ is) in
    let shows : sight_of_stage stage ≡ first_stage session r = ap sight_of_stage (sym same) ∙ at.3 in (
      subst (IsOf session) same at.2,
      record {
        role_is = ap (λ (s : Stage_data). s.role) shows ∙ of;
        state_is = ap (λ (s : Stage_data). s.part.state) shows ∙ ap start_of runs;
        runs = ap (λ (s : Stage_data). slice_get session.machines s.role.0) shows ∙ runs;
      },
    )

pub one_less : (xs ys : List Stage) (x : Stage) → xs ≡ ys ++ x ∷ [] → length xs ≡ length ys + 1
one_less xs ys x is = ap length is ∙ length-append ys (x ∷ [])

pub three : (session : Rings_data) (stages : List Stage) → session.machines ≡ all_machines → AreFirst session stages → length stages ≡ 3
three session stages machines first = first.count ∙ ap length machines

module _ (session : Rings_data) (stages two one none : List Stage) (k s t : Stage) (machines : session.machines ≡ all_machines) (first : AreFirst session stages)
    (last : stages ≡ two ++ t ∷ []) (before : two ≡ one ++ s ∷ []) (front : one ≡ none ++ k ∷ []) where
  counts : (length two ≡ 2) × (length one ≡ 1) × (length none ≡ 0)
  counts =
      let a = three session stages machines first in
      let b = one_less stages two t last in
      let c = one_less two one s before in
      let d = one_less one none k front in
      (omega (arith, a, b), omega (arith, a, b, c), omega (arith, a, b, c, d))

  pub sink_enters : IsOf session t × CanEnter session sink 0 t
  sink_enters = enters_at session stages 2 sink t first (ap (λ (l : List Machine_data). slice_get l 2) machines) refl
      (subst (λ (n : ℕ). slice_get stages n ≡ Some t) counts.0 (ap (λ (l : List Stage). slice_get l (length two)) last ∙ at_end two t))

  pub source_enters : IsOf session s × CanEnter session source 0 s
  source_enters = enters_at session stages 1 source s first (ap (λ (l : List Machine_data). slice_get l 1) machines) refl
      (subst (λ (n : ℕ). slice_get stages n ≡ Some s) counts.1
      (ap (λ (l : List Stage). slice_get l (length one)) last ∙ in_front two t s (length one) (ap (λ (l : List Stage). slice_get l (length one)) before ∙ at_end one s)))

  pub kernel_enters : IsOf session k × CanEnter session kernel 0 k
  kernel_enters = enters_at session stages 0 kernel k first (ap (λ (l : List Machine_data). slice_get l 0) machines) refl
      (subst (λ (n : ℕ). slice_get stages n ≡ Some k) counts.2 (
      ap (λ (l : List Stage). slice_get l (length none)) last
      ∙ in_front two t k (length none) (ap (λ (l : List Stage). slice_get l (length none)) before ∙ in_front one s k (length none) (ap (λ (l : List Stage). slice_get l (length none)) front ∙ at_end none k))))
