use Rattle.std.proofs.Common.{◌<◌, ap, sym, ◌∙◌, inl, inr, length, map, arith, slice_get}
use Rattle.std.proofs.lemmas.Bool.Decides.{eqb_tells}
use Rattle.std.proofs.lemmas.List.{length-map}
use Rattle.std.proofs.lemmas.Option.{slice_get_within}
use Rattle.rs_session.proofs.HandedIn.{not_here}
use Rattle.rs_session.proofs.gathering.is_there.Goals as goal

pub loop-stage-preserved : goal.loop-stage-preserved
loop-stage-preserved g c = λ place stage below at same. elim (eqb_tells place c.loop-stage.stage-index) [
  | inl t ↦ not_here g.S.Stands.stage c.args.stages.now c.loop-stage.stage-index c.stage-item.result c.role_of.result c.args.role c.eq.result c.loop-stage-test.true c.stage-item.is
      c.role_of.ensures c.eq.ensures c.if-eq.false stage
      (ap (slice_get (map g.S.Stands.stage c.args.stages.now)) (sym t.1) ∙ at) same
  | inr t ↦ (let ne = t.1 in c.loop-stage.invariant place stage (omega arith) at same)
]

pub returns-clause-missing : goal.returns-clause-missing
returns-clause-missing g c = λ no place stage at same.
    (let within : place < length (map g.S.Stands.stage c.args.stages.now) = slice_get_within (map g.S.Stands.stage c.args.stages.now) place stage at in
    c.loop-stage.invariant place stage (omega (arith, within, length-map c.args.stages.now g.S.Stands.stage, c.loop-stage-test.false)) at same)
