use Rattle.std.proofs.Common.{◌≡◌, ◌∙◌, ap, sym, Some, List, ℕ}
use Rattle.std.specs.Box.{box_value}
use Rattle.std.proofs.lemmas.Result.{IfOk-weaker}
use Rattle.clap.specs.Walk.{rows_of}
use Rattle.clap.specs.Words.{Row, found_of, subcommand_rows_of}
use Rattle.clap.specs.declared.parser.matches.ArgMatches.TheViews.{out-ArgMatches, out-SubCommand}
use Rattle.rs_words.specs.Clap.{task_found}
use Rattle.rs_words.proofs.Pairs.{pair_is}
use Rattle.rs_words.proofs.meaning.task_in.Goals as goal

pub returns-in-Some : goal.returns-in-Some
returns-in-Some c =
    let pair : subcommand_rows_of c.args.found.now ≡ Some (c.in-Some.name.now, rows_of (found_of c.in-Some.inner.now)) =
    pair_is {X = List ℕ} {Y = List Row} (λ b. ((out-SubCommand (box_value b)).name.now, rows_of (found_of (out-SubCommand (box_value b)).matches)))
    (out-ArgMatches c.args.found.now).subcommand c.in-Some.name.now (rows_of (found_of c.in-Some.inner.now)) c.in-Some.ensures.name c.in-Some.ensures.rows in
    IfOk-weaker c.task_of.result _ _ (λ r h. h ∙ ap task_found (sym pair)) c.task_of.ensures
