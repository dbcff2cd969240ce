use Rattle.std.proofs.Common.{◌≡◌, ℤ, w64, subst}
use Rattle.std.proofs.lemmas.Int.{to_z-of_z}
use Rattle.std.specs.Prelude.{⊤}
use Rattle.rs_model.specs.declared.values.Value.TheVariants as kind
use Rattle.rs_held.specs.Endpoints.{SendTells}
use Rattle.rs_held.specs.Opens.{Changes}
use Rattle.rumpsteak_c.proofs.endpoints.rumpsteak_send_int.Goals as goal

pub returns : goal.returns
returns c = (
  c.send.result,
  c.number.ensures,
  subst (λ (z : ℤ). Changes c.args.endpoint.now.value c.send.new.endpoint.value ⊤ (λ before after. SendTells before.endpoint c.args.label (kind.Whole z) after.endpoint c.send.result × (after.last ≡ before.last)) c.send.result)
      (to_z-of_z w64 c.args.value c.ranges.value) c.send.ensures,
)
