use Rattle.rs_session.proofs.Telling.{got, kept, present_then, receives_at}
use Rattle.rs_session.proofs.stages.Receiving.receive_by.Goals as goal

pub stage-requires-clause-present : goal.stage-requires-clause-present
stage-requires-clause-present c =
    let at = receives_at c.args.session.now c.args.self c.self.inside.standing c.args.peer c.args.arms.now c.self.view_is c.requires.of.0 c.requires.of.1 c.requires.of.2 in
    present_then c.args.session.now c.rings.result.now c.self.inside.standing c.look_take.new.self c.args.peer c.args.arms.now c.in-One.arm c.in-One.value
    c.rings.ensures.whole.well_formed at c.in-One.ensures.told

pub returns-in-One : goal.returns-in-One
returns-in-One c =
    let at = receives_at c.args.session.now c.args.self c.self.inside.standing c.args.peer c.args.arms.now c.self.view_is c.requires.of.0 c.requires.of.1 c.requires.of.2 in
    record {
      told =
          got c.args.session.now c.rings.result.now c.args.self c.self.inside.standing c.look_take.new.self c.in-One.arm c.in-One.value c.args.peer c.args.arms.now
          c.stage.result
          c.rings.ensures.rings c.self.view_is at c.in-One.ensures.told c.stage.ensures.of c.stage.ensures.same;
    }

pub returns-in-Nothing : goal.returns-in-Nothing
returns-in-Nothing c =
    let at = receives_at c.args.session.now c.args.self c.self.inside.standing c.args.peer c.args.arms.now c.self.view_is c.requires.of.0 c.requires.of.1 c.requires.of.2 in
    record {
      told = kept c.args.session.now c.rings.result.now c.args.self c.self.inside.standing c.look_take.new.self c.args.peer c.args.arms.now c.in-Nothing.seen
          c.rings.ensures.rings c.self.view_is
          c.requires.of.0.table at c.in-Nothing.ensures.told;
    }
