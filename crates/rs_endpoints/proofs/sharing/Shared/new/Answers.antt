use Rattle.std.proofs.Common.{rules}
use Rattle.rs_endpoints.proofs.Beginning.{all_and_one}
use Rattle.rs_endpoints.proofs.sharing.Shared.new.Goals as goal

pub loop-preserved : goal.loop-preserved
loop-preserved c = all_and_one _ _ _ _ c.in_ok-push.ensures.items c.loop.invariant (search rules)
