-- Headline: who makes the turns of a task's run.
use Rattle.rs_model.specs.declared.runs.Workers.{Workers}
use Rattle.rs_model.specs.declared.runs.Workers.TheVariants.{One}
use Rattle.rs_words.specs.declared.tasks.DocumentTask.TheVariants.{Run}
use Rattle.rs_words.specs.declared.tasks.Task.{Task}
use Rattle.rs_words.specs.declared.tasks.Task.TheVariants.{OnDocument, OnData}

-- who makes the turns of its run; a task that runs nothing needs one worker
abbrev pub workers_of : Task → Workers
workers_of (OnDocument (Run options workers)) = workers
workers_of (OnData demo) = demo.workers
workers_of _ = One
