use Rattle.std.proofs.Common.{rules, ◌∙◌, Some, sym}
use Rattle.rs_pool.proofs.Lists.{last_of, moves_back}
use Rattle.rs_pool.proofs.vectors.unseated.Goals as goal

pub loop-slot-preserved : goal.loop-slot-preserved
loop-slot-preserved g c = let l = last_of c.pop.new.self.items c.in-Some.slot c.loop-slot.invariant.0.0 (sym c.in-Some.ensures.items ∙ c.loop-slot.invariant.0.1) in (
  (l.rest, l.rest_is),
  moves_back Some c.loop-slot.slots.items c.pop.new.self.items c.loop-slot.jobs.items c.put.new.list.items c.in-Some-slot.job c.in-Some.slot c.args.slots.items c.loop-slot.invariant.1
      c.in-Some.ensures.items c.in-Some-slot.is c.put.ensures.items,
  search rules,
)

pub unreachable-requires : goal.unreachable-requires
unreachable-requires g c = let l = last_of c.pop.new.self.items _ c.loop-slot.invariant.0.0 (sym c.in-Some.ensures.items ∙ c.loop-slot.invariant.0.1) in let is = l.last_is in cc (is, c.in-None.is)
