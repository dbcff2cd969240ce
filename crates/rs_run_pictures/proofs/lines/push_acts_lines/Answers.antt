use Rattle.std.proofs.Common.{◌∙◌}
use Rattle.rs_model.specs.declared.machines.Act.TheVariants.{Puts}
use Rattle.rs_model.specs.declared.values.Sort.TheVariants.{Unit}
use Rattle.rs_run_pictures.proofs.Texts.{acts_behind}
use Rattle.rs_run_pictures.proofs.lines.push_acts_lines.Goals as goal

pub loop-place-preserved : goal.loop-place-preserved
loop-place-preserved c =
    acts_behind c.args.names.now c.loop-place.before c.loop-place.place c.args.acts.now (record { role = 0; act = Puts (record { 0 = 0 }) (record { 0 = 0 }) Unit; waiting = 0 })
    c.act_at.result c.loop-place.text c.push_drawn.new.text c.loop-place-test.true c.act_at.ensures c.in_ok-push_drawn.ensures
    ∙ c.loop-place.invariant
