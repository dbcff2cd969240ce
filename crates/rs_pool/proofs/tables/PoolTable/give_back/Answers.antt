use Rattle.std.proofs.Common.{rules, ◌≡◌, [], ◌∷◌, Some, None, sym, ap, ◌∙◌, subst}
use Rattle.atomic_table.specs.Table.{rest}
use Rattle.rs_pool.specs.Rule.{amount_in, word_of}
use Rattle.rs_pool.specs.Jobs.{JobFits, Over}
use Rattle.rs_pool.proofs.Acts.{gives_back, home_word}
use Rattle.rs_pool.proofs.tables.PoolTable.give_back.Goals as goal

pub store-requires : goal.store-requires
store-requires g c = let e = c.exchange.ensures in let v = c.args.seat.now.me.0 in let same : c.exchange.new.seat.me.0 ≡ v = ap (λ m. m.0) e.3 in (
  search rules,
  search rules,
  gives_back (JobFits g.A.Actor.behaviour g.N.StartName.start)
      Over c.args.self.now.table.shared.key.roles c.args.self.now.table.shared.key.shares _ _ c.args.role _ c.exchange.new.seat.me c.args.job []
      (ap (λ m. m.1) e.3 ∙ (λ i. (c.args.role, Some c.args.job) ∷ rest (c.requires.holds.1 i)))
      (ap (λ u. u.held) same ∙ c.requires.holds.0)
      c.requires.fits
      (subst (λ u. Over (amount_in c.args.role u.counted) c.args.job) (sym same) c.requires.over)
      (home_word (amount_in c.args.role v.counted) c.home_word.result c.args.counted c.requires.counted.0 c.requires.counted.1 c.home_word.ensures.counted c.home_word.ensures.free
      ∙ ap (λ u. word_of None (amount_in c.args.role u.counted)) (sym same)),
)
