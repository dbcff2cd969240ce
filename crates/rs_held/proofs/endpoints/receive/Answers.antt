use Rattle.std.proofs.Common.{rules}
use Rattle.rs_held.proofs.Keeping.{changed}
use Rattle.rs_held.proofs.endpoints.receive.Goals as goal

pub returns-in-Some : goal.returns-in-Some
returns-in-Some c = changed _ _ _ _ _ c.deref_mut.result.now _ (search rules) c.put.ensures c.fetch-status.ensures
