use Rattle.rs_derive.proofs.Ruled.{once_arms}
use Rattle.rs_derive.proofs.checks.next_fault.Goals as goal

pub rule_fault-requires-clause-ours : goal.rule_fault-requires-clause-ours
rule_fault-requires-clause-ours c = once_arms c.args.state.now c.arms_at.result.now c.requires.ours c.arms_at.ensures
