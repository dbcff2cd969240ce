use Rattle.std.proofs.Common.{◌≡◌, ℕ, List, get_or, MatchOption, Some, slice_get, ap, subst, ◌∙◌, arith}
use Rattle.std.proofs.lemmas.List.{get_or_default}
use Rattle.rs_project.specs.Data.{Front_data}
use Rattle.rs_model.specs.Chains.{IsChained}
use Rattle.rs_project.specs.Filing.{bucket_of_front}
use Rattle.rs_project.specs.Working.{FrontIsNew}
use Rattle.rs_project.proofs.Buckets.{looked_all}
use Rattle.rs_project.proofs.filing.Fronts.number_of_shared.Goals as goal

pub returns : goal.returns
returns c =
    let size = c.self.invariant.filed.buckets in
    let lt = c.requires.within in
    let head : c.index-head.result.now ≡ get_or c.self.inside.heads.items (bucket_of_front c.args.front.now) 0 =
    c.index-head.ensures
    ∙ get_or_default c.self.inside.heads.items c.args.bucket c.index-head.result.now 0 (omega (arith, size, lt))
    ∙ ap (λ (z : ℕ). get_or c.self.inside.heads.items z 0) c.requires.is in
    let P : List Front_data → Type 0 = λ z. MatchOption c.number_along.result (FrontIsNew z c.args.front.now) (λ n. slice_get z n ≡ Some c.args.front.now) in
    let Q : List Front_data → Type 0
    = λ z. MatchOption c.number_along.result ((n : ℕ) → IsChained c.deref-2.result.now c.index-head.result.now n → slice_get z n ≡ Some c.args.front.now → ⊥)
    (λ n. slice_get z n ≡ Some c.args.front.now) in
    let R : List ℕ → Type 0
    = λ z. MatchOption c.number_along.result ((n : ℕ) → IsChained z c.index-head.result.now n → slice_get c.self.inside.items.items n ≡ Some c.args.front.now → ⊥)
    (λ n. slice_get c.self.inside.items.items n ≡ Some c.args.front.now) in
    subst P c.self.view_is
    (looked_all c.self.inside.items.items c.self.inside.heads.items c.self.inside.links.items c.args.front.now c.index-head.result.now c.number_along.result c.requires.shared c.self.invariant.filed head
    (subst R c.deref-2.ensures.value (subst Q c.deref.ensures.value c.number_along.ensures)))
