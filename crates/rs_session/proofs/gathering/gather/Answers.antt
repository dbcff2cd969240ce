use Rattle.std.proofs.Common.{◌≡◌, ◌<◌, List, [], map, ap, ◌∙◌, subst, length, arith}
use Rattle.rs_session.specs.Data.{Stage_data}
use Rattle.rs_session.proofs.HandedIn.{IsOwn, IsJoined, map_last, none_of, joined_first, joined_more, joined_all, next_table}
use Rattle.rs_session.proofs.gathering.gather.Goals as goal

pub loop-stage-init : goal.loop-stage-init
loop-stage-init g c =
    let f = g.S.Stands.stage in let e = c.into_pass-pass.ensures in
    let own : IsOwn (f c.in-Some.stage) c.into_pass-pass.result
    = subst (λ (s : Stage_data). IsOwn s c.into_pass-pass.result) c.into_standing.ensures record { table = e.table; speaks = e.speaks; only = e.only; part = e.part } in
    joined_first c.args.rings.now.table (map f c.args.stages.items) (map f c.pop.new.self.items) (f c.in-Some.stage) c.into_pass-pass.result c.requires.tables
    (ap (map f) c.in-Some.ensures.items ∙ map_last f c.pop.new.self.items c.in-Some.stage) own

pub join-requires : goal.join-requires
join-requires g c =
    let f = g.S.Stands.stage in let e = c.into_pass.ensures in
    let own : IsOwn (f c.in-Some-pop.stage) c.into_pass.result
    = subst (λ (s : Stage_data). IsOwn s c.into_pass.result) c.into_standing-in-Some-pop.ensures record { table = e.table; speaks = e.speaks; only = e.only; part = e.part } in
    record {
      table = (
        c.loop-stage.invariant.same,
        next_table c.args.rings.now.table (map f c.args.stages.items) (map f c.loop-stage.stages.items) (map f c.pop-in-loop-stage.new.self.items)
            (f c.in-Some-pop.stage) c.loop-stage.pass c.into_pass.result
            c.requires.tables (ap (map f) c.in-Some-pop.ensures.items ∙ map_last f c.pop-in-loop-stage.new.self.items c.in-Some-pop.stage) c.loop-stage.invariant own,
      );
    }

pub loop-stage-preserved : goal.loop-stage-preserved
loop-stage-preserved g c =
    let f = g.S.Stands.stage in let e = c.into_pass.ensures in
    let own : IsOwn (f c.in-Some-pop.stage) c.into_pass.result
    = subst (λ (s : Stage_data). IsOwn s c.into_pass.result) c.into_standing-in-Some-pop.ensures record { table = e.table; speaks = e.speaks; only = e.only; part = e.part } in
    joined_more c.args.rings.now.table (map f c.args.stages.items) (map f c.loop-stage.stages.items) (map f c.pop-in-loop-stage.new.self.items)
    (f c.in-Some-pop.stage) c.loop-stage.pass c.into_pass.result c.join.new.pass
    (ap (map f) c.in-Some-pop.ensures.items ∙ map_last f c.pop-in-loop-stage.new.self.items c.in-Some-pop.stage) c.loop-stage.invariant own c.join.ensures.table c.join.ensures.both

pub returns-clause-table : goal.returns-clause-table
returns-clause-table g c = c.loop-stage.invariant.same

pub returns-clause-speaks : goal.returns-clause-speaks
returns-clause-speaks g c =
    let f = g.S.Stands.stage in
    let none : c.loop-stage.stages.items ≡ []
    = none_of c.loop-stage.stages.items (λ (p : 0 < length c.loop-stage.stages.items). (let t = c.in_default.ensures.variant.1 (omega (arith, c.loop-stage.stages.ok)) in absurd (cc (t)))) in
    joined_all c.args.rings.now.table (map f c.args.stages.items) c.loop-stage.pass
    (subst (λ (l : List Stage_data). IsJoined c.args.rings.now.table (map f c.args.stages.items) l c.loop-stage.pass) (ap (map f) none) c.loop-stage.invariant)

pub returns-clause-parts : goal.returns-clause-parts
returns-clause-parts g c = c.loop-stage.invariant.parts
