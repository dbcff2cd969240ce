use Rattle.std.proofs.Common.{rules, get_or, slice_get}
use Rattle.std.specs.List.{flat_map}
use Rattle.std.proofs.lemmas.Option.{slice_get-get_or}
use Rattle.rs_project.specs.Marks.{labelled_nexts_of}
use Rattle.rs_project.proofs.Lists.{read_via}
use Rattle.rs_project.proofs.Merged.{starts_on}
use Rattle.rs_project.proofs.merging.starts_behind.Goals as goal

pub loop-talk-preserved : goal.loop-talk-preserved
loop-talk-preserved c =
    let talk = get_or c.args.talks.now c.loop-talk.talk-index 0 in
    starts_on c.args.protocol.now c.args.label c.args.talks.now c.loop-talk.talk-index talk c.index.result.now
    c.loop-talk.starts.items c.add_starts.new.starts.items (flat_map (λ t. labelled_nexts_of c.args.label (slice_get c.args.protocol.now.nodes t)) c.args.talks.now)
    (slice_get-get_or c.args.talks.now c.loop-talk.talk-index 0 c.loop-talk-test.true)
    (read_via c.args.protocol.now.nodes c.protocol.inside.nodes.items talk c.index.result.now (search rules) (c.requires c.loop-talk.talk-index 0 c.loop-talk-test.true) c.index.ensures)
    c.in_ok-add_starts.ensures c.loop-talk.invariant
