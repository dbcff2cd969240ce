use Rattle.std.proofs.Common.{rules, subst, sym}
use Rattle.rs_numbered.specs.declared.statuses.CallStatus.{CallStatus}
use Rattle.rs_held.specs.Monitors.{WatchTells}
use Rattle.rs_held.proofs.Telling.{is_refusal, refuses_to_watch}
use Rattle.rs_held.proofs.monitors.open_text.Goals as goal

pub returns-in-Ok-kept : goal.returns-in-Ok-kept
returns-in-Ok-kept c = subst (λ (s : CallStatus). WatchTells c.args.text.now c.args.name.now c.args.monitor.now.value c.args.monitor.now.value c.args.refusal.now.value c.put-in-Ok-kept.new.self.value s) (sym c.status_of.ensures)
    (refuses_to_watch _ _ _ _ _ _ c.in-Err-Answered.verdict (search rules)
    (is_refusal c.args.text.now c.args.refusal.now.value _ c.in-Ok-kept.kept.value c.in-Err-Answered.text c.in-Err-Answered.verdict c.put-in-Ok-kept.ensures (search rules) _ (search rules) c.in-Err-Answered.ensures.refused))
