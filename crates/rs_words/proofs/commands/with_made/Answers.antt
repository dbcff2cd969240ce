use Rattle.std.proofs.Common.{◌≡◌, ◌∙◌, Ok, IfOk, Result, ap, subst}
use Rattle.std.proofs.lemmas.Result.{IfOk-weaker}
use Rattle.clap.specs.Words.{App, app_of, with_subcommand}
use Rattle.rs_words.proofs.commands.with_made.Goals as goal

at_ok : {A E : Type 0} (P : A → Type 0) {x : Result A E} {a : A} → x ≡ Ok a → IfOk x P → P a
at_ok P e h = subst (λ z. IfOk z P) e h

pub returns : goal.returns
returns c = IfOk-weaker c.with_command.result _ _ (λ r h made e. h ∙ ap (λ (a : App). with_subcommand (app_of c.args.program) a.top) (at_ok (λ x. app_of x ≡ made) c.in_ok-command.was e))
    c.with_command.ensures.app
