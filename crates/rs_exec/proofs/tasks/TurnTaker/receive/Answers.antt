use Rattle.std.proofs.Common.{◌∙◌, inr, true, refl}
use Rattle.rs_model.specs.declared.graph.Arm.{Arm}
use Rattle.rs_model.specs.declared.values.Sort.TheVariants.{Unit}
use Rattle.rs_exec.specs.Tasks.{Told}
use Rattle.rs_session.specs.declared.stages.Stage.TheVariants.{Receiving}
use Rattle.rs_exec.proofs.Played.{empty_on, got_on, told_on}
use Rattle.rs_exec.proofs.tasks.TurnTaker.receive.Goals as goal

abbrev blank : Arm
blank = record { label = record { 0 = 0 }; sort = Unit; next = 0 }

pub receive_by-requires-clause-of : goal.receive_by-requires-clause-of
receive_by-requires-clause-of g c =
    (record { table = c.requires.of.of.table; peer = c.receiving_arms.result.0; arms = c.receiving_arms.result.1.now; stands = c.receiving_arms.ensures }, refl, refl)

pub returns-in-Empty-clause-tells : goal.returns-in-Empty-clause-tells
returns-in-Empty-clause-tells g c = (
  record { below = c.requires.below; limit = refl; was = c.requires.well; unfailed = c.requires.well },
  empty_on c.args.session.now c.args.stage c.in-Empty.stage c.args.self.now c.receiving_arms.result.0 c.receiving_arms.result.1.now c.in-Empty.seen c.receiving_arms.ensures c.in-Empty.ensures.told,
)

pub returns-in-Ok-clause-in_time : goal.returns-in-Ok-clause-in_time
returns-in-Ok-clause-in_time g c =
    let n = c.note.ensures in
    (got_on c.args.session.now c.args.stage c.in-Got.stage c.args.self.now c.note.new.self c.receiving_arms.result.0 c.receiving_arms.result.1.now c.in-Got.arm c.in-Got.value blank
    c.receiving_arms.ensures
    c.requires.in_time c.requires.below c.in-Got.ensures.told n.others.2 n.entries n.room n.others.1).in_time

pub returns-in-Ok-clause-tells : goal.returns-in-Ok-clause-tells
returns-in-Ok-clause-tells g c =
    let n = c.note.ensures in
    let one = got_on c.args.session.now c.args.stage c.in-Got.stage c.args.self.now c.note.new.self c.receiving_arms.result.0 c.receiving_arms.result.1.now c.in-Got.arm c.in-Got.value blank
    c.receiving_arms.ensures
    c.requires.in_time c.requires.below c.in-Got.ensures.told n.others.2 n.entries n.room n.others.1 in (
      record { below = c.requires.below; limit = n.others.1; was = c.requires.well; unfailed = n.others.3 ∙ c.requires.well },
      inr (told_on c.args.session.now g.A.Actor.behaviour c.in-Got.stage (Receiving c.args.stage) c.args.self.now c.note.new.self c.receiving_arms.result.1.now c.in-Got.arm c.in-Got.value one
          (n.others.0 ∙ c.in-Ok.ensures.becomes)),
    )

pub returns-in-Err-clause-in_time : goal.returns-in-Err-clause-in_time
returns-in-Err-clause-in_time g c =
    let n = c.note.ensures in
    (got_on c.args.session.now c.args.stage c.in-Got.stage c.args.self.now (record {
      actor = c.note.new.self.actor;
      limit = c.note.new.self.limit;
      kept = c.note.new.self.kept;
      entries = c.note.new.self.entries;
      failed = true;
    })
    c.receiving_arms.result.0 c.receiving_arms.result.1.now c.in-Got.arm c.in-Got.value blank c.receiving_arms.ensures c.requires.in_time c.requires.below c.in-Got.ensures.told n.others.2
    n.entries n.room n.others.1).in_time

pub returns-in-Err-clause-tells : goal.returns-in-Err-clause-tells
returns-in-Err-clause-tells g c =
    let n = c.note.ensures in
    let one = got_on c.args.session.now c.args.stage c.in-Got.stage c.args.self.now (record {
      actor = c.note.new.self.actor;
      limit = c.note.new.self.limit;
      kept = c.note.new.self.kept;
      entries = c.note.new.self.entries;
      failed = true;
    })
    c.receiving_arms.result.0 c.receiving_arms.result.1.now c.in-Got.arm c.in-Got.value blank c.receiving_arms.ensures c.requires.in_time c.requires.below c.in-Got.ensures.told n.others.2
    n.entries n.room n.others.1 in
    Told c.requires.well record { gets = one.gets; below = c.requires.below; actor = n.others.0 ∙ c.in-Err.ensures.err; limit = n.others.1; failed = refl }
