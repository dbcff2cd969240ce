use Rattle.std.proofs.Common.{rules, ◌≡◌, ◌<◌, ℕ, subst, [], ◌∷◌, ◌++◌, List, suc, length, get_or, map, refl, ap, ◌∙◌}
use Rattle.std.proofs.lemmas.List.{get_or_default, length-map, map_push}
use Rattle.rs_model.specs.declared.machines.Act.{Act}
use Rattle.rs_derivations.specs.ListTables.{bucket_among}
use Rattle.rs_derivations.specs.PendingLists.{is_one_of}
use Rattle.rs_derivations.proofs.Filing.{filed_on}
use Rattle.rs_derivations.proofs.lists.ListTable.push.Goals as goal

pub invariant_of-self-2 : goal.invariant_of-self-2
invariant_of-self-2 c =
    let lists = c.self.inside.lists.items in
    let heads = c.self.inside.heads.items in
    let a = c.self.invariant in
    let size : c.len.result ≡ length heads = search rules in
    let b = c.bucket_among-bucket.result in
    let w : b < length heads = subst (λ (z : ℕ). b < z) size c.bucket_among-bucket.ensures.within in
    let eb : b ≡ bucket_among (length heads) c.args.acts.now = c.bucket_among-bucket.ensures.bucket ∙ ap (λ (z : ℕ). bucket_among z c.args.acts.now) size in
    let head : c.index.result.now ≡ get_or heads b 0 = c.index.ensures ∙ get_or_default heads b c.index.result.now 0 w in
    let more : c.push_reserved.new.self.items ≡ lists ++ c.args.acts ∷ [] = search (rules, c.in_ok-reserve.ensures.items) in
    let links : c.push_reserved-2.new.self.items ≡ c.self.inside.links.items ++ c.index.result.now ∷ [] = search (rules, c.in_ok-reserve-2.ensures.items) in
    let count : c.len-2.result ≡ suc (length (map (λ x. x.now) lists)) = (let l = length-map lists (λ x. x.now) in search rules) in
    filed_on (map (λ x. x.now) lists) (map (λ x. x.now) c.push_reserved.new.self.items) heads c.self.inside.links.items _ c.push_reserved-2.new.self.items c.args.acts.now b c.index.result.now
    c.len-2.result
    eb w count head (ap (map (λ x. x.now)) more ∙ map_push (λ x. x.now) lists c.args.acts) links refl
    (ap (λ (z : List (List Act)). is_one_of z c.args.acts.now) c.self.view_is ∙ c.requires.new) a
