use Rattle.std.proofs.Common.{codes}
use Rattle.std.proofs.lemmas.Result.{on_ok_weaker}
use Rattle.std.specs.Fmt.{decimal}
use Rattle.rs_reasons.proofs.Joins.{three}
use Rattle.rs_reasons.proofs.underivable.push_with_bound.Goals as goal

pub returns : goal.returns
returns c =
    on_ok_weaker c.push-2.result
    (λ e. three c.args.text.now c.push.new.self c.push_number.new.self c.push-2.new.self (codes "with --bound ") (decimal c.args.bound) (codes " ") c.in_ok-push.ensures.ok (rw c.from.ensures at c.in_ok-push_number.ensures.ok) e) c.push-2.ensures.ok
