use Rattle.std.proofs.Common.{◌≡◌, ◌++◌, ◌-◌}
use Rattle.std.specs.List.{flat_map}
use Rattle.rs_demos.specs.Sessions.{both_ways, numbers_from}
use Rattle.rs_demos.specs.Writing.{exchanges_text}
use Rattle.rs_demos.proofs.documents.push_butterfly_round.Given as goal

abbrev pub invariant-loop-role : goal.invariant-loop-role
invariant-loop-role l = l.text ++ exchanges_text (flat_map (λ i. both_ways l.step i) (numbers_from l.role (l.roles - l.role))) ≡ l.fn.text ++ exchanges_text
    (flat_map (λ i. both_ways l.step i) (numbers_from 0 l.roles))
