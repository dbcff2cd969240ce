use Rattle.std.proofs.Common.{◌∙◌, ap, codes, sym}
use Rattle.std.proofs.lemmas.Result.{IfOk-weaker}
use Rattle.clap.specs.Words.{found_of, rows_of}
use Rattle.rs_words.specs.Clap.{found_text}
use Rattle.rs_words.specs.Meaning.{task_of}
use Rattle.rs_words.proofs.Found.{draw_found}
use Rattle.rs_words.proofs.Lookups.{same_text}
use Rattle.rs_words.proofs.meaning.task_of.Goals as goal

pub returns-then-eq-11 : goal.returns-then-eq-11
returns-then-eq-11 c =
    let is_draw = same_text c.args.name.now (codes "draw") (sym c.if-eq-11.ensures) in
    IfOk-weaker c.draw_task_in.result _ _ (λ r h. h ∙ draw_found (rows_of (found_of c.args.found.now)) ∙ ap (λ name. task_of name (found_text (rows_of (found_of c.args.found.now)))) (sym is_draw))
    c.draw_task_in.ensures
