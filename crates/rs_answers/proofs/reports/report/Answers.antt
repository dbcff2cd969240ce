use Rattle.std.proofs.Common.{◌≡◌, ◌∙◌, ap, subst}
use Rattle.std.specs.Prelude.{IfOk}
use Rattle.rs_answers.specs.Lines.{report_by}
use Rattle.rs_answers.specs.Data.{Answer_data}
use Rattle.rs_answers.proofs.Reporting.{report_by_shown}
use Rattle.rs_answers.proofs.reports.report.Goals as goal

pub returns : goal.returns
returns c =
    subst (λ (z : Answer_data). IfOk c.report_by_figures.result (λ a. a ≡ z))
    (ap (report_by c.args.names.now) (c.as_slice.ensures.value ∙ c.in_ok-all.ensures) ∙ report_by_shown c.args.names.now c.args.derivations.now) c.report_by_figures.ensures
