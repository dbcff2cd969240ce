use Rattle.std.proofs.Common.{rules, arith, ◌≡◌, ◌+◌, ◌∙◌, ◌∷◌, [], List, length, ap, length-append}
use Rattle.rs_graph.specs.declared.cycles.PathPart.{PathPart}
use Rattle.rs_graph.proofs.Following.{joins_all, joins_end, joins_on}
use Rattle.rs_graph.proofs.cycles.join.Goals as goal

pub loop-joined-preserved : goal.loop-joined-preserved
loop-joined-preserved c =
    let e = c.in-Some.ensures.items in
    let l : length c.loop-joined.parts.items ≡ length c.pop.new.self.items + 1
    = ap (λ (z : List PathPart). length z) e ∙ (let k = length-append c.pop.new.self.items (c.in-Some.before ∷ []) in omega arith) in (
      λ rows marks path edges y right on j. joins_on rows marks path edges c.loop-joined.parts.items c.pop.new.self.items c.in-Some.before c.loop-joined.joined.start c.loop-joined.joined.edges y
          c.args.place
          e (grind (arith, c.loop-joined-test.true)) right on (c.loop-joined.invariant.0 rows marks path edges y right on j),
      (let i = c.loop-joined.invariant.1 in omega arith),
    )

pub returns-in-None-clause-joined : goal.returns-in-None-clause-joined
returns-in-None-clause-joined c = λ rows marks path edges y right on j.
    let z = joins_all rows marks path edges c.loop-joined.parts.items c.loop-joined.joined.start c.loop-joined.joined.edges y (search rules)
    (c.loop-joined.invariant.0 rows marks path edges y right on j) in
    absurd (grind (arith, z, c.loop-joined-test.true))

pub returns-clause-joined : goal.returns-clause-joined
returns-clause-joined c = λ rows marks path edges y right on j.
    joins_end rows marks path edges c.loop-joined.parts.items c.push.new.self.items c.loop-joined.joined.start c.loop-joined.joined.edges y c.args.place (search rules)
    (grind (arith, c.loop-joined-test.false)) right on
    (c.loop-joined.invariant.0 rows marks path edges y right on j)
