use Rattle.std.proofs.Common.{◌∙◌, ap, true}
use Rattle.std.proofs.lemmas.Result.{IfOk-weaker}
use Rattle.clap.specs.Words.{with_rule}
use Rattle.rs_words.specs.Clap.{choice_rule}
use Rattle.rs_words.proofs.commands.with_values.Goals as goal

pub returns-clause-app : goal.returns-clause-app
returns-clause-app c = IfOk-weaker c.with_value-2.result _ _ (λ r h. h ∙ ap (λ a. with_rule a (choice_rule c.args.second.now true)) c.in_ok-command.ensures.app) c.with_value-2.ensures.app

pub returns-clause-local : goal.returns-clause-local
returns-clause-local c = IfOk-weaker c.with_value-2.result _ _ (λ r h e. h (c.in_ok-command.ensures.local e)) c.with_value-2.ensures.local
