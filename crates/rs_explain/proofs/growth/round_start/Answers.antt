use Rattle.std.proofs.Common.{rules, ◌≡◌, ◌≤◌, ◌∙◌, ℕ, zero, suc, None, length, sym, true, false, arith, ◌-◌}
use Rattle.rs_search.specs.Candidates.{start_spot}
use Rattle.rs_explain.proofs.Growing.{round_at}
use Rattle.rs_explain.specs.Growth as spec
use Rattle.rs_explain.proofs.growth.round_start.Goals as goal

pub returns-then-is_further-clause-first : goal.returns-then-is_further-clause-first
returns-then-is_further-clause-first c =
    let p = start_spot c.args.sub.now c.args.above.now in
    let steps = c.args.steps.now in
    let e : spec.is_further (spec.spot_after p steps (c.loop-count.count - 1)) (spec.spot_after p steps (length steps)) ≡ true = search rules in
    sym (round_at p steps c.loop-count.count true (omega arith) e) ∙ c.loop-count.invariant.same

pub loop-count-preserved : goal.loop-count-preserved
loop-count-preserved c =
    let p = start_spot c.args.sub.now c.args.above.now in
    let steps = c.args.steps.now in
    let e : spec.is_further (spec.spot_after p steps (c.loop-count.count - 1)) (spec.spot_after p steps (length steps)) ≡ false = search rules in
    let few = c.loop-count.invariant.few in
    record { few = omega arith; same = sym (round_at p steps c.loop-count.count false (omega arith) e) ∙ c.loop-count.invariant.same }

pub returns-clause-first : goal.returns-clause-first
returns-clause-first c = none c.loop-count.count (omega arith) c.loop-count.invariant.same
  where
    none : (n : ℕ) → n ≤ 0 → spec.round_start (start_spot c.args.sub.now c.args.above.now) c.args.steps.now n ≡ spec.round_start (start_spot c.args.sub.now c.args.above.now) c.args.steps.now (length c.args.steps.now)
        → None ≡ spec.round_start (start_spot c.args.sub.now c.args.above.now) c.args.steps.now (length c.args.steps.now)
    none zero h e = e
    none (suc n) h e = absurd (omega arith)
