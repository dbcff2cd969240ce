use Rattle.std.proofs.Common.{rules, arith, ◌≡◌, ◌++◌, ◌∷◌, [], List, length, length-append, get_or, None, ap, refl, ◌∙◌, suc, ◌+◌}
use Rattle.std.proofs.lemmas.List.{get_or_default}
use Rattle.rs_project.specs.Data.{Front_data}
use Rattle.rs_project.proofs.Buckets.{filed_on}
use Rattle.rs_project.proofs.Singles.{lone_on}
use Rattle.rs_project.proofs.filing.Fronts.add_shared.Goals as goal

pub invariant_of-self-2 : goal.invariant_of-self-2
invariant_of-self-2 c =
    let size = c.self.invariant.filed.buckets in
    let lt = c.requires.bucket.within in
    let number : c.len-number.result ≡ length c.self.inside.items.items = search rules in
    let head : c.index-head.result.now ≡ get_or c.self.inside.heads.items c.args.bucket 0 =
    c.index-head.ensures ∙ get_or_default c.self.inside.heads.items c.args.bucket c.index-head.result.now 0 (omega (arith, size, lt)) in
    let links : c.push_reserved-2.new.self.items ≡ c.self.inside.links.items ++ (c.index-head.result.now ∷ []) = search (rules, c.in_ok-reserve-2.ensures.items) in
    let items : c.push_reserved.new.self.items ≡ c.self.inside.items.items ++ (c.args.front ∷ []) = search (rules, c.in_ok-reserve.ensures.items) in
    let top : c.len-number.result + 1 ≡ suc (length c.self.inside.items.items) = omega (arith, number) in
    let view = ap (λ (z : List Front_data). length z) c.self.view_is in
    let room = c.requires.room in
    let grown = ap (λ (z : List Front_data). length z) items ∙ length-append c.self.inside.items.items (c.args.front ∷ []) in
    record {
      filed = filed_on c.self.inside.items.items c.push_reserved.new.self.items c.self.inside.heads.items c.self.inside.links.items _ c.push_reserved-2.new.self.items c.args.front
          c.args.bucket c.index-head.result.now c.len-number.result
          c.requires.bucket.is lt number head items links refl c.self.invariant.filed;
      lone = lone_on c.self.inside.items.items c.push_reserved.new.self.items c.self.inside.lone.items c.self.inside.lone.items c.args.front None
          (c.len-number.result + 1) c.requires.bucket.shared tt top items refl c.self.invariant.lone;
      bounded = omega (arith, view, room, grown);
    }
