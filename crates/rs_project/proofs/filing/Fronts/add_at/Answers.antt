use Rattle.std.proofs.Common.{rules, arith, ◌≡◌, suc, ◌+◌, List, [], ◌∷◌, ◌++◌, length, length-append, Some, ap, ◌∙◌}
use Rattle.rs_project.specs.Data.{Front_data}
use Rattle.rs_project.proofs.Buckets.{filed_lone}
use Rattle.rs_project.proofs.Singles.{lone_on, lone_same}
use Rattle.rs_project.proofs.filing.Fronts.add_at.Goals as goal

pub invariant_of-self-2 : goal.invariant_of-self-2
invariant_of-self-2 c =
    let front = c.args.front in
    let number : c.len-number.result ≡ length c.self.inside.items.items = search rules in
    let links : c.push_reserved-2.new.self.items ≡ c.self.inside.links.items ++ (0 ∷ []) = search (rules, c.in_ok-reserve-2.ensures.items) in
    let items : c.push_reserved.new.self.items ≡ c.self.inside.items.items ++ (front ∷ []) = search (rules, c.in_ok-reserve.ensures.items) in
    let top : c.len-number.result + 1 ≡ suc (length c.self.inside.items.items) = omega (arith, number) in
    let view = ap (λ (z : List Front_data). length z) c.self.view_is in
    let room = c.requires.room in
    let grown = ap (λ (z : List Front_data). length z) items ∙ length-append c.self.inside.items.items (front ∷ []) in
    record {
      filed = filed_lone c.self.inside.items.items c.push_reserved.new.self.items c.self.inside.heads.items c.self.inside.links.items c.push_reserved-2.new.self.items front c.args.talk
          c.requires.lone items links c.self.invariant.filed;
      lone = lone_on c.self.inside.items.items c.push_reserved.new.self.items c.make_room.new.numbers.items c.set_number.new.numbers.items front (Some c.args.talk) (c.len-number.result + 1)
          c.requires.lone c.in_ok-make_room.ensures.room top items c.set_number.ensures
          (lone_same c.self.inside.items.items c.self.inside.lone.items c.make_room.new.numbers.items c.make_room.ensures.same c.self.invariant.lone);
      bounded = omega (arith, view, room, grown);
    }
