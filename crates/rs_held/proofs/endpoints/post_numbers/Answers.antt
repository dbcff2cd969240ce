use Rattle.std.proofs.Common.{List, ℤ, subst}
use Rattle.rs_model.specs.declared.values.Sort.TheVariants as sort
use Rattle.rs_model.specs.declared.values.Value.TheVariants as value
use Rattle.rs_held.specs.Endpoints.{CopySendTells}
use Rattle.rs_held.proofs.Copying.{no_copy, numbers_alone, seen_copy}
use Rattle.rs_held.proofs.endpoints.post_numbers.Goals as goal

pub returns-in-Ok-of : goal.returns-in-Ok-of
returns-in-Ok-of c =
    let told = seen_copy c.args.endpoint.now c.in-Ok.place sort.Numbers (value.Numbers c.in-Ok-of.numbers) (numbers_alone c.in-Ok-of.numbers) c.args.label c.post_at.new.endpoint c.see_room.new.endpoint c.post_at.result c.in-Ok.ensures.room.0 c.in-Ok.ensures.room.1 c.post_at.ensures in
    subst (λ (x : List ℤ). CopySendTells c.args.endpoint.now c.args.label (value.Numbers x) c.post_at.new.endpoint c.post_at.result) c.in-Ok-of.ensures told

pub returns-in-Err : goal.returns-in-Err
returns-in-Err c = no_copy c.args.endpoint.now 0 sort.Numbers (value.Numbers c.args.items.now) (numbers_alone c.args.items.now) c.args.label c.see_room.new.endpoint c.in-Err.status c.in-Err.ensures.none
