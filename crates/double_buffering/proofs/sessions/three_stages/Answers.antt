use Rattle.double_buffering.proofs.First.{kernel_enters, sink_enters, source_enters}
use Rattle.double_buffering.proofs.sessions.three_stages.Goals as goal

pub returns-clause-kernel : goal.returns-clause-kernel
returns-clause-kernel c =
    kernel_enters c.args.session.now c.args.stages.items c.last_stage-sink.new.stages.items c.last_stage-source.new.stages.items c.last_stage-kernel.new.stages.items
    c.last_stage-kernel.result c.last_stage-source.result c.last_stage-sink.result c.requires.machines c.requires.first
    c.last_stage-sink.ensures c.last_stage-source.ensures c.last_stage-kernel.ensures

pub returns-clause-source : goal.returns-clause-source
returns-clause-source c =
    source_enters c.args.session.now c.args.stages.items c.last_stage-sink.new.stages.items c.last_stage-source.new.stages.items c.last_stage-kernel.new.stages.items
    c.last_stage-kernel.result c.last_stage-source.result c.last_stage-sink.result c.requires.machines c.requires.first
    c.last_stage-sink.ensures c.last_stage-source.ensures c.last_stage-kernel.ensures

pub returns-clause-sink : goal.returns-clause-sink
returns-clause-sink c =
    sink_enters c.args.session.now c.args.stages.items c.last_stage-sink.new.stages.items c.last_stage-source.new.stages.items c.last_stage-kernel.new.stages.items
    c.last_stage-kernel.result c.last_stage-source.result c.last_stage-sink.result c.requires.machines c.requires.first
    c.last_stage-sink.ensures c.last_stage-source.ensures c.last_stage-kernel.ensures
