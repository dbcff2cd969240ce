use Rattle.std.specs.Global.{Global}
use Rattle.std.proofs.Common.{Some, Vec, ℕ, rules}
use Rattle.streams.specs.Streams.{IsPlaceOf}
use Rattle.streams.proofs.First.{places}
use Rattle.streams.proofs.Flowing.{output_is}
use Rattle.streams.proofs.flow.Goals as goal

pub all_play-fed-requires-clause-source : goal.all_play-fed-requires-clause-source
all_play-fed-requires-clause-source g c =
    let first : IsPlaceOf c.args.session 0 (Some c.last_stage-source.result) =
    (places c.args.session c.args.stages.items c.requires.machines c.requires.first c.last_stage-sink.new.stages.items c.last_stage-kernel.new.stages.items c.last_stage-source.new.stages.items
    c.last_stage-source.result c.last_stage-kernel.result c.last_stage-sink.result c.last_stage-sink.ensures c.last_stage-kernel.ensures c.last_stage-source.ensures).0 in
    search rules

pub all_play-fed-requires-clause-kernel : goal.all_play-fed-requires-clause-kernel
all_play-fed-requires-clause-kernel g c =
    let first : IsPlaceOf c.args.session 1 (Some c.last_stage-kernel.result) =
    (places c.args.session c.args.stages.items c.requires.machines c.requires.first c.last_stage-sink.new.stages.items c.last_stage-kernel.new.stages.items c.last_stage-source.new.stages.items
    c.last_stage-source.result c.last_stage-kernel.result c.last_stage-sink.result c.last_stage-sink.ensures c.last_stage-kernel.ensures c.last_stage-source.ensures).1 in
    search rules

pub all_play-fed-requires-clause-sink : goal.all_play-fed-requires-clause-sink
all_play-fed-requires-clause-sink g c =
    let first : IsPlaceOf c.args.session 2 (Some c.last_stage-sink.result) =
    (places c.args.session c.args.stages.items c.requires.machines c.requires.first c.last_stage-sink.new.stages.items c.last_stage-kernel.new.stages.items c.last_stage-source.new.stages.items
    c.last_stage-source.result c.last_stage-kernel.result c.last_stage-sink.result c.last_stage-sink.ensures c.last_stage-kernel.ensures c.last_stage-source.ensures).2 in
    search rules

pub returns-then-is_whole : goal.returns-then-is_whole
returns-then-is_whole g c =
    let r = c.all_play-fed.result in let e = c.all_play-fed.ensures in
    output_is c.close.result r.0.0 r.1.0 r.1.1.0 e.gives.ends.role e.hands_on.ends.role e.gathers.ends.role c.close.ensures.machines c.close.ensures.over c.close.ensures.knows
    (λ (v : Vec ℕ Global). v.items) c.args.input.now r.1.1.1 (e.gives.gives c.if-is_whole.true) e.hands_on.same e.gathers.gathers
