use Rattle.std.proofs.Common.{◌≡◌, drop, slice_get, ◌||◌}
use Rattle.std.specs.List.{list_all}
use Rattle.rs_model.specs.declared.machines.Act.{Act}
use Rattle.rs_derive.specs.Targets.{same_act}
use Rattle.rs_explain.specs.Growth.{overtakes}
use Rattle.rs_explain.proofs.growth.needs_no_other.Given as goal

abbrev pub invariant-loop-act : goal.invariant-loop-act
invariant-loop-act l =
    list_all (λ (a : Act). same_act a l.needed || overtakes (slice_get l.sub.states l.state) a) (drop l.act-index l.acts) ≡ list_all (λ (a : Act). same_act a l.needed || overtakes (slice_get l.sub.states l.state) a) l.acts
