use Rattle.std.proofs.Common.{rules, ◌≡◌, ℕ, ◌+◌, ◌≤◌, List, replicate, vec_len, refl, sym, ◌∙◌, subst}
use Rattle.atomic_table.specs.Table.{opening}
use Rattle.rs_pool.specs.Rule.{PoolShows, view_at_start}
use Rattle.rs_pool.specs.Jobs.{JobFits, Over}
use Rattle.rs_pool.specs.Calls.{AreSeated}
use Rattle.rs_pool.proofs.Bounds.{begins}
use Rattle.rs_pool.proofs.tables.PoolTable.open.Goals as goal

pub new-requires : goal.new-requires
new-requires g c = let n : ℕ = c.len-roles.result in let shares : ℕ = c.args.workers + 1 in let is : n ≡ vec_len c.args.slots = search rules in
    let e : c.args.words.now ≡ replicate (n + 1) 0 = c.requires.words ∙ (λ i. replicate (sym is i + 1) 0) in
    subst (λ (ws : List ℕ). PoolShows (JobFits g.A.Actor.behaviour g.N.StartName.start) Over n shares (opening ws c.args.slots.items (view_at_start shares))) (sym e)
    (begins (JobFits g.A.Actor.behaviour g.N.StartName.start) Over n shares (n + 1) c.args.slots.items (subst (λ (k : ℕ). k ≤ 16) (sym is) c.requires.bounded) refl (λ t. tt)
    (subst (λ (k : ℕ). AreSeated (JobFits g.A.Actor.behaviour g.N.StartName.start) k c.args.slots.items) (sym is) c.requires.begun))
