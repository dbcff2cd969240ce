use Rattle.std.proofs.Common.{◌≡◌, ◌+◌, ◌-◌, map, length, ap, sym, ◌∙◌, subst, arith}
use Rattle.rs_rings.specs.Passes.{Rings_data}
use Rattle.rs_rings.specs.Views.{SpeaksFor}
use Rattle.rs_session.specs.Ends.{AreAll}
use Rattle.rs_session.specs.Stages.{first_stage, sight_of_stage}
use Rattle.rs_session.proofs.Beginning.{all_again, all_begun, all_first, begun_more, begun_tables, from_it_on, rest_first}
use Rattle.rs_session.proofs.sessions.Session.first_stages.Goals as goal

pub loop-number-init : goal.loop-number-init
loop-number-init c = record {
  count = ap length c.requires.none;
  each = λ r below. absurd (omega arith);
  room = c.requires.room;
  same = c.requires.table;
  pass = all_first c.args.self.now.machines c.args.pass.view c.requires.pass;
}

pub loop-number-preserved : goal.loop-number-preserved
loop-number-preserved c =
    let i = c.loop-number.invariant in
    let more = begun_more c.args.self.now c.loop-number.number c.loop-number.stages.items c.push_stage.new.stages.items c.in-Ok.stage record {
      count = i.count;
      each = i.each;
    } c.in-Ok.ensures.of c.in-Ok.ensures.first c.push_stage.ensures.items in
    record {
      count = more.count;
      each = more.each;
      room = omega (arith, i.room, c.push_stage.ensures.capacity);
      same = c.split-own.ensures.table.0 ∙ i.same;
      pass = rest_first c.args.self.now.machines c.loop-number.number c.loop-number.pass.view c.split-own.new.pass.view i.pass c.split-own.ensures.old;
    }

pub returns-in-Ok-first-clause-first : goal.returns-in-Ok-first-clause-first
returns-in-Ok-first-clause-first c =
    let i = c.loop-number.invariant in
    let last : c.args.count - 1 ≡ c.loop-number.number = omega (arith, c.loop-number-test.false, c.loop-number.auto.number-end) in
    let first : sight_of_stage c.in-Ok-first.stage ≡ first_stage c.args.self.now c.loop-number.number = c.in-Ok-first.ensures.first ∙ ap (first_stage c.args.self.now) last in
    let more = begun_more c.args.self.now c.loop-number.number c.loop-number.stages.items c.push_stage-in-Ok-first.new.stages.items c.in-Ok-first.stage record {
      count = i.count;
      each = i.each;
    } c.in-Ok-first.ensures.of first c.push_stage-in-Ok-first.ensures.items in
    all_begun c.args.self.now (c.loop-number.number + 1) c.push_stage-in-Ok-first.new.stages.items more (omega (arith, last, c.requires.count, c.requires.some))

pub gather_into-requires-clause-tables : goal.gather_into-requires-clause-tables
gather_into-requires-clause-tables c =
    let i = c.loop-number.invariant in
    subst (λ (z : Rings_data). AreAll (λ s. s.table ≡ z.table) (map sight_of_stage c.loop-number.stages.items)) (sym c.self.view_is)
    (begun_tables c.args.self.now c.loop-number.number c.loop-number.stages.items record { count = i.count; each = i.each })

pub returns-in-Err-clause-back : goal.returns-in-Err-clause-back
returns-in-Err-clause-back c =
    let i = c.loop-number.invariant in (
      c.gather_into.ensures.table ∙ ap (λ (z : Rings_data). z.table) c.self.view_is,
      all_again c.args.self.now c.loop-number.number c.loop-number.stages.items c.join.new.pass.view c.gather_into.result.view record { count = i.count; each = i.each }
          (from_it_on c.args.self.now.machines c.loop-number.number c.split-own.new.pass.view c.in-Err.back.view c.join.new.pass.view
          (rest_first c.args.self.now.machines c.loop-number.number c.loop-number.pass.view c.split-own.new.pass.view i.pass c.split-own.ensures.old) c.in-Err.ensures.back.1 c.join.ensures.both)
          c.gather_into.ensures.kept c.gather_into.ensures.speaks,
    )

pub gather_into-requires-in-Err-first-clause-tables : goal.gather_into-requires-in-Err-first-clause-tables
gather_into-requires-in-Err-first-clause-tables c =
    let i = c.loop-number.invariant in
    subst (λ (z : Rings_data). AreAll (λ s. s.table ≡ z.table) (map sight_of_stage c.loop-number.stages.items)) (sym c.self.view_is)
    (begun_tables c.args.self.now c.loop-number.number c.loop-number.stages.items record { count = i.count; each = i.each })

pub returns-in-Err-first-clause-back : goal.returns-in-Err-first-clause-back
returns-in-Err-first-clause-back c =
    let i = c.loop-number.invariant in
    let last : c.args.count - 1 ≡ c.loop-number.number = omega (arith, c.loop-number-test.false, c.loop-number.auto.number-end) in (
      c.gather_into-in-Err-first.ensures.table ∙ ap (λ (z : Rings_data). z.table) c.self.view_is,
      all_again c.args.self.now c.loop-number.number c.loop-number.stages.items c.in-Err-first.back.view c.gather_into-in-Err-first.result.view record { count = i.count; each = i.each }
          (λ r from below. subst (SpeaksFor c.in-Err-first.back.view) (omega (arith, last, from, below, c.requires.count, c.requires.some)) c.in-Err-first.ensures.back.1)
          c.gather_into-in-Err-first.ensures.kept c.gather_into-in-Err-first.ensures.speaks,
    )
