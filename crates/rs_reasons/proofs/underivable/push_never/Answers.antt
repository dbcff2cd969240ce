use Rattle.std.proofs.Common.{◌++◌, ◌∙◌, Option, codes, ap, slice_get}
use Rattle.std.proofs.lemmas.Result.{on_ok_weaker}
use Rattle.rs_model.specs.declared.machines.Act.{Act}
use Rattle.rs_reasons.specs.Underivable.{never_text}
use Rattle.rs_reasons.proofs.Joins.{three}
use Rattle.rs_reasons.proofs.underivable.push_never.Goals as goal

pub returns : goal.returns
returns c =
    on_ok_weaker c.push-2.result
    (λ e.
    three c.args.text.now c.push.new.self c.push_undone.new.text c.push-2.new.self (codes "why: ") (never_text c.args.names.now (slice_get c.args.pending.now 0)) (codes "\n")
    c.in_ok-push.ensures.ok (c.in_ok-push_undone.ensures ∙ ap (λ (z : Option Act). c.push.new.self ++ never_text c.args.names.now z) c.oldest.ensures) e) c.push-2.ensures.ok
