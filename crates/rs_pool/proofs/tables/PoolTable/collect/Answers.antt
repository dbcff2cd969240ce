use Rattle.std.proofs.Common.{rules, ◌≡◌, ℕ, ◌+◌, ◌<◌, ◌≤◌, length, map, take, Some, sym, ap, ◌∙◌, subst, arith}
use mathlib.Core.Option.{some}
use Rattle.std.specs.Mem.Slots.{slots_items, slots_len, slots_filled, slots_counts}
use Rattle.rs_pool.specs.Jobs.{JobFits, Over}
use Rattle.rs_pool.proofs.Bounds.{AreSettled, closes, collected, some_no_task, takes_one, still_filled, now_empty}
use Rattle.rs_pool.proofs.tables.PoolTable.collect.Goals as goal

pub loop-i-init : goal.loop-i-init
loop-i-init g c = let key = c.args.self.table.shared.key in let keyed : key.roles ≡ c.args.self.roles = c.args.self.keyed in let v = c.args.main.me.0 in let row = c.close_with-closed.result.slots in
    let st : AreSettled (JobFits g.A.Actor.behaviour g.N.StartName.start) Over c.args.self.roles (slots_items row)
    = subst (λ (n : ℕ). AreSettled (JobFits g.A.Actor.behaviour g.N.StartName.start) Over n (slots_items c.close_with-closed.result.slots)) keyed
    (closes (JobFits g.A.Actor.behaviour g.N.StartName.start) Over key.roles key.shares c.args.main.id v _ (slots_items c.close_with-closed.result.slots) c.requires.main.0 c.requires.main.2
    (subst (λ (n : ℕ). n ≤ v.seen) (sym keyed) c.requires.over) c.close_with-closed.ensures.values.2) in (
      search rules,
      search rules,
      st,
      (let a = st.count in let b = (slots_counts row).0 in omega arith),
      ap (map Some) c.requires.room.0,
      search rules,
      c.requires.room.1,
    )

pub unreachable-requires : goal.unreachable-requires
unreachable-requires g c =
    let st = c.loop-i.invariant.2 in let near : c.loop-i.i < c.args.self.roles = (let a = c.loop-i-test.true in let b = c.slot_count.ensures in let d = c.loop-i.invariant.3 in omega arith) in let h =
    st.tasks c.loop-i.i near in some_no_task h.0 (sym h.1 ∙ c.take.ensures.value ∙ ap some c.in-None.is)

pub loop-i-preserved : goal.loop-i-preserved
loop-i-preserved g c =
    let o = c.take.ensures.others in let same : slots_items c.take.new.self.slots ≡ slots_items c.loop-i.closed.slots = o.0 in let row = c.loop-i.closed.slots in let near : c.loop-i.i < length
    (slots_filled row) = (let a = c.loop-i-test.true in let b = c.slot_count.ensures in let d = (slots_counts row).1 in omega arith) in (
      still_filled (slots_filled row) (slots_filled c.take.new.self.slots) c.loop-i.i (slots_len row) (slots_len c.take.new.self.slots) o.1 o.2 c.loop-i.invariant.0,
      now_empty (slots_filled row) (slots_filled c.take.new.self.slots) c.loop-i.i o.1 near c.loop-i.invariant.1,
      subst (AreSettled (JobFits g.A.Actor.behaviour g.N.StartName.start) Over c.args.self.roles) (sym same) c.loop-i.invariant.2,
      (let a = o.2 in let b = c.loop-i.invariant.3 in omega arith),
      takes_one c.loop-i.jobs.items c.put.new.list.items (slots_items c.loop-i.closed.slots) c.loop-i.i c.in-Some.job c.loop-i.invariant.4 c.put.ensures.items
          (c.take.ensures.value ∙ ap some c.in-Some.is)
          ∙ ap (take (c.loop-i.i + 1)) (sym same),
      search rules,
      search rules,
    )

pub returns : goal.returns
returns g c =
    record {
      collected = collected (JobFits g.A.Actor.behaviour g.N.StartName.start) Over c.args.self.roles 0 c.loop-i.i c.loop-i.jobs.items (slots_items c.loop-i.closed.slots) c.loop-i.invariant.4
          (let a = c.loop-i-test.false in let b = c.slot_count.ensures in let d = c.loop-i.invariant.3 in omega arith) c.loop-i.invariant.2;
    }
