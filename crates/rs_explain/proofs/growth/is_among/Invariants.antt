use Rattle.std.proofs.Common.{◌≡◌, drop}
use Rattle.std.specs.List.{list_any}
use Rattle.rs_model.specs.declared.machines.Act.{Act}
use Rattle.rs_derive.specs.Targets.{same_act}
use Rattle.rs_explain.proofs.growth.is_among.Given as goal

abbrev pub invariant-loop-other : goal.invariant-loop-other
invariant-loop-other l = list_any (λ (c : Act). same_act l.act c) (drop l.other-index l.acts) ≡ list_any (λ (c : Act). same_act l.act c) l.acts
