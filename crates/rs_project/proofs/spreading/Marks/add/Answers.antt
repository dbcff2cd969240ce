use Rattle.std.proofs.Common.{rules, ◌<◌, ℕ, List, true, length, set, subst, sym}
use Rattle.rs_project.specs.Marks.{AreListed}
use Rattle.rs_project.proofs.Walks.{listed_more}
use Rattle.rs_project.proofs.spreading.Marks.add.Goals as goal

pub invariant_of-self-2 : goal.invariant_of-self-2
invariant_of-self-2 c =
    let lt : c.args.number < length c.self.inside.flags.items = search (rules, c.requires, c.self.view_is) in
    let P : List ℕ → Type 0 = λ z. AreListed (set c.self.inside.flags.items c.args.number true) z in
    subst P (sym c.in_ok-push.ensures.items) (listed_more c.self.inside.flags.items c.self.inside.numbers.items c.args.number lt c.self.invariant)
