use Rattle.std.proofs.Common.{rules, ◌≡◌, ◌<◌, ◌-◌, ◌∙◌, ℕ, slice_get, subst, sym, List, length, get_or, map, ap}
use Rattle.std.proofs.lemmas.List.{get_or_default}
use Rattle.rs_model.specs.Chains.{IsChained}
use Rattle.rs_model.specs.declared.machines.Act.{Act}
use Rattle.rs_derivations.specs.ListTables.{bucket_among}
use Rattle.rs_derivations.specs.PendingLists.{list_number}
use Rattle.rs_derivations.proofs.Filing.{number_is}
use Rattle.rs_derivations.proofs.lists.ListTable.number_of.Goals as goal

pub returns : goal.returns
returns c =
    let heads = c.self.inside.heads.items in
    let a = c.self.invariant in
    let size : c.len.result ≡ length heads = search rules in
    let b = c.bucket_among.result in
    let lt : b < length heads = subst (λ (z : ℕ). b < z) size c.bucket_among.ensures.within in
    let eh = c.index-head.ensures ∙ get_or_default heads b c.index-head.result.now 0 lt ∙ ap (λ (z : ℕ). get_or heads z 0) (c.bucket_among.ensures.bucket ∙ ap (λ (z : ℕ). bucket_among z c.args.acts.now) size) in
    let some : 0 < length c.args.acts.now = search rules in
    number_is (map (λ x. x.now) c.self.inside.lists.items) heads c.self.inside.links.items c.args.acts.now c.index-head.result.now c.number_along.result a some eh
    (λ z n ch e. c.number_along.ensures.none z n (subst (λ (l : List ℕ). IsChained l c.index-head.result.now n) (sym c.deref.ensures.value) ch)
    (ap (λ l. slice_get (map (λ x. x.now) l) n) c.as_slice.ensures.value ∙ e))
    (λ h. ap (λ l. slice_get (map (λ x. x.now) l) (c.number_along.result - 1)) (sym c.as_slice.ensures.value) ∙ c.number_along.ensures.found h)
    ∙ ap (λ (z : List (List Act)). list_number z c.args.acts.now) c.self.view_is
