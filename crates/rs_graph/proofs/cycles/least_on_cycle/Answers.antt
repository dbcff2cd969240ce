use Rattle.std.proofs.Common.{rules, arith, ◌≡◌, inl, inr, ℕ, subst}
use Rattle.std.proofs.lemmas.Bool.{cases_lt}
use Rattle.rs_graph.specs.Ranks.{Edge}
use Rattle.rs_graph.specs.Walks.{IsOnCycle}
use Rattle.rs_graph.proofs.Following.{begins, none_on_cycle}
use Rattle.rs_graph.proofs.Ranking.{cycle_within}
use Rattle.rs_graph.proofs.cycles.least_on_cycle.Goals as goal

pub returns-then-order-rows : goal.returns-then-order-rows
returns-then-order-rows c = none_on_cycle c.args.rows.now c.args.order.now c.requires.ordered (search rules)

pub loop-v-init : goal.loop-v-init
loop-v-init c =
    let e = c.in_ok-search.ensures in (
      (λ k lt h. let bad : ⊥ = omega
          (arith, lt) in bad),
      record {
        searching = begins c.args.rows.now c.in_ok-search.search.marks.items c.in_ok-search.search.path.items c.in_ok-search.search.edges.items c.in_ok-search.search.parts.items (search rules)
            e.path e.edges e.parts;
        none = e.path;
      },
    )

pub returns-then-branch : goal.returns-then-branch
returns-then-branch c = record { cycle = c.in_ok-is_on_cycle.ensures.yes c.if-branch.true; least = λ k h. elim (cases_lt k c.loop-v.v) [ inl a ↦ absurd (c.loop-v.invariant.0 k a h) | inr a ↦ a ] }

pub loop-v-preserved : goal.loop-v-preserved
loop-v-preserved c = (
  (λ k lt h. elim (cases_lt k c.loop-v.v) [
    | inl a ↦ c.loop-v.invariant.0 k a h
    | inr a ↦ (let e : k ≡ c.loop-v.v = omega arith in c.in_ok-is_on_cycle.ensures.no c.if-branch.false (subst (λ (z : ℕ). IsOnCycle (Edge c.args.rows.now) z) e h))
  ]),
  c.in_ok-is_on_cycle.ensures.resting,
)

pub returns : goal.returns
returns c = λ k h. c.loop-v.invariant.0 k (let w = cycle_within c.args.rows.now k h in grind arith) h
