use Rattle.std.proofs.Common.{◌≡◌, drop}
use Rattle.std.specs.List.{list_any}
use Rattle.rs_model.specs.declared.machines.Act.{Act}
use Rattle.rs_explain.specs.Growth as spec
use Rattle.rs_explain.proofs.growth.needs_one.Given as goal

abbrev pub invariant-loop-act : goal.invariant-loop-act
invariant-loop-act l =
    list_any (λ (b : Act). spec.is_repeatable l.sub b l.acts l.first.state l.first.pending l.steps) (drop l.act-index l.acts) ≡ list_any (λ (b : Act). spec.is_repeatable l.sub b l.acts l.first.state l.first.pending l.steps) l.acts
