use Rattle.rs_runs.proofs.Leading.{made_leads}
use Rattle.rs_tool.specs.Sessions.{Gives}
use Rattle.rs_tool.proofs.MadeReady.{long_alone}
use Rattle.rs_words.specs.Tasks.{workers_of}
use Rattle.rs_tool.proofs.preparing.on_long_input.Goals as goal

pub returns-clause-leads : goal.returns-clause-leads
returns-clause-leads c = λ task bytes reads long.
    made_leads (workers_of task) _ (Gives task bytes) c.too_large.result c.answered.result c.answered.ensures c.too_large.ensures (λ a e. long_alone task bytes a reads long e)
