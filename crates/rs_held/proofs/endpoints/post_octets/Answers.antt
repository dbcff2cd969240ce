use Rattle.std.proofs.Common.{List, ℕ, subst}
use Rattle.rs_model.specs.declared.values.Sort.TheVariants as sort
use Rattle.rs_model.specs.declared.values.Value.TheVariants as value
use Rattle.rs_held.specs.Endpoints.{CopySendTells}
use Rattle.rs_held.proofs.Copying.{no_copy, octets_alone, seen_copy}
use Rattle.rs_held.proofs.endpoints.post_octets.Goals as goal

pub returns-in-Ok-of : goal.returns-in-Ok-of
returns-in-Ok-of c =
    let told = seen_copy c.args.endpoint.now c.in-Ok.place sort.Octets (value.Octets c.in-Ok-of.octets) (octets_alone c.in-Ok-of.octets) c.args.label c.post_at.new.endpoint c.see_room.new.endpoint c.post_at.result c.in-Ok.ensures.room.0 c.in-Ok.ensures.room.1 c.post_at.ensures in
    subst (λ (x : List ℕ). CopySendTells c.args.endpoint.now c.args.label (value.Octets x) c.post_at.new.endpoint c.post_at.result) c.in-Ok-of.ensures told

pub returns-in-Err : goal.returns-in-Err
returns-in-Err c = no_copy c.args.endpoint.now 0 sort.Octets (value.Octets c.args.bytes.now) (octets_alone c.args.bytes.now) c.args.label c.see_room.new.endpoint c.in-Err.status c.in-Err.ensures.none
