use Rattle.std.proofs.Common.{refl}
use Rattle.rs_actors.specs.Common.{placeholder_conduct}
use Rattle.rs_actors.proofs.Keeping.{silent}
use Rattle.rs_actors.proofs.Playing.{talks_keeping}
use Rattle.rs_actors.proofs.laws.placeholders_send_empty_values.Goals as goal

pub returns : goal.returns
returns c machine one after history kept p =
    let t = talks_keeping placeholder_conduct machine one history kept after p in
    silent placeholder_conduct (λ x. refl) history one t.before t.talks
