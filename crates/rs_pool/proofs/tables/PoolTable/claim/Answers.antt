use Rattle.std.proofs.Common.{rules, ℕ, ◌<◌, ◌∷◌, Some, sym, ap, ◌∙◌, subst}
use Rattle.rs_pool.specs.Jobs.{JobFits, Over}
use Rattle.atomic_table.specs.Table.{rest}
use Rattle.rs_pool.proofs.Acts.{claims}
use Rattle.rs_pool.proofs.tables.PoolTable.claim.Goals as goal

pub compare_exchange-word-requires : goal.compare_exchange-word-requires
compare_exchange-word-requires g c = (
  search rules,
  search rules,
  claims
      (JobFits g.A.Actor.behaviour g.N.StartName.start) Over c.args.self.now.table.shared.key.roles c.args.self.now.table.shared.key.shares _ _ c.args.role c.args.seat.now.me
      (subst (λ (n : ℕ). c.args.role < n) (sym c.args.self.now.keyed) c.requires.role) c.requires.rests.0 c.requires.rests.2,
)

pub exchange-requires : goal.exchange-requires
exchange-requires g c = let zero' = c.if-word-ne0.false in let t = c.compare_exchange-word.ensures.2.0 zero' in
    (search rules, (Some t.0, ap (λ m. m.1) t.3 ∙ (λ i. (c.args.role, Some t.0) ∷ sym (ap (λ m. rest m.1) t.3) i)))
