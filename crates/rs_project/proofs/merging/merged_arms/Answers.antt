use Rattle.std.proofs.Common.{rules, map, get_or}
use Rattle.std.proofs.lemmas.Option.{slice_get-get_or}
use Rattle.rs_project.specs.Projection.{choice_of, merged_choices}
use Rattle.rs_project.proofs.Lists.{read_via}
use Rattle.rs_project.proofs.Merged.{choices_on}
use Rattle.rs_project.proofs.merging.merged_arms.Goals as goal

pub loop-talk-preserved : goal.loop-talk-preserved
loop-talk-preserved c =
    let talk = get_or c.args.talks.now c.loop-talk.talk-index 0 in
    choices_on c.args.protocol.now c.args.talks.now c.loop-talk.talk-index talk c.index.result.now
    (map choice_of c.loop-talk.merged.items) (map choice_of c.add_node.new.merged.items) (merged_choices c.args.protocol.now c.args.talks.now)
    (slice_get-get_or c.args.talks.now c.loop-talk.talk-index 0 c.loop-talk-test.true)
    (read_via c.args.protocol.now.nodes c.protocol.inside.nodes.items talk c.index.result.now (search rules) (c.requires c.loop-talk.talk-index 0 c.loop-talk-test.true) c.index.ensures)
    c.in_ok-add_node.ensures c.loop-talk.invariant
