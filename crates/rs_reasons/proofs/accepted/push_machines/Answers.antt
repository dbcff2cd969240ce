use Rattle.std.proofs.Common.{arith, map}
use Rattle.rs_reasons.proofs.Telling.{roles_end, roles_step}
use Rattle.rs_reasons.proofs.accepted.push_machines.Goals as goal

pub loop-role-preserved : goal.loop-role-preserved
loop-role-preserved c =
    let t = c.loop-role-test.true in
    let a = c.min.ensures in
    let b = c.min-count.ensures in
    roles_step c.args.names.now (map (λ m. m.items) c.args.places.now) c.args.machines.now c.args.projections.now c.args.derivations.now c.loop-role.role c.index-machines-role.result _
    c.index-projections-role.result _ c.index-derivations-role.result _ c.loop-role.text c.push_own.new.text _ (omega (arith, t, a, b)) (omega (arith, t, a, b)) (omega (arith, t, a, b))
    c.index-machines-role.is c.index-projections-role.is c.index-derivations-role.is c.in_ok-push_own.ensures c.loop-role.invariant

pub returns : goal.returns
returns c =
    let t = c.loop-role-test.false in
    let a = c.min.ensures in
    let b = c.min-count.ensures in
    roles_end c.args.names.now (map (λ m. m.items) c.args.places.now) c.args.machines.now c.args.projections.now c.args.derivations.now c.loop-role.role c.loop-role.text _ (omega (arith, t, a, b))
    c.loop-role.invariant
