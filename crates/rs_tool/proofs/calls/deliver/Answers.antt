use Rattle.std.proofs.Common.{None, refl, ap, ◌∙◌}
use Rattle.rs_answers.specs.Data.{Answer_data}
use Rattle.rs_tool.specs.Preparing.{DeliversAll, DeliversPart, DeliversNone}
use Rattle.rs_tool.specs.Statuses.{status_of}
use Rattle.rs_tool.specs.declared.statuses.Reply.{Reply}
use Rattle.rs_tool.specs.declared.statuses.Status.{Status}
use Rattle.rs_tool.proofs.calls.deliver.Goals as goal

pub returns-in-Ok-write_all : goal.returns-in-Ok-write_all
returns-in-Ok-write_all g c =
    let status = c.from.ensures ∙ ap (λ (a : Answer_data). status_of a.verdict) c.answer.view_is in
    let reply : Status → Reply = λ s. record { status = s; closed = c.in-Ok.given.closed } in
    DeliversAll c.in-Ok.given c.in-Ok.is (rw (ap (λ (a : Answer_data). a.text) c.answer.view_is) at (rw c.as_slice.ensures at c.in-Ok-write_all.ensures.ok)) (ap reply status)

pub returns-in-Ok : goal.returns-in-Ok
returns-in-Ok g c = DeliversPart c.in-Ok.given c.in-Ok.is (rw (ap (λ (a : Answer_data). a.text) c.answer.view_is) at (rw c.as_slice.ensures at c.in-Err-write_all.ensures.err))
    c.in-Err-write_all.ensures.cause refl

pub returns : goal.returns
returns g c =
    let reply : Status → Reply = λ s. record { status = s; closed = None } in
    DeliversNone c.in-Err.stop c.in-Err.is refl (ap reply c.from-in-Err.ensures)
