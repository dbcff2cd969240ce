use Rattle.rs_core.proofs.Sessions.{standing}
use Rattle.rs_run_pictures.proofs.plain.PlainQueuesQueues.state.Goals as goal

pub returns-clause-standing : goal.returns-clause-standing
returns-clause-standing c = standing c.args.self.now.core c.machines-machines.ensures.session
