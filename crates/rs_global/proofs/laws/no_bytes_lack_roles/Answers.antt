use Rattle.rs_global.proofs.Examples.{lacks}
use Rattle.rs_global.proofs.laws.no_bytes_lack_roles.Goals as goal

pub returns : goal.returns
returns c = lacks
