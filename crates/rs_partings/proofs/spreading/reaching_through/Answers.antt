use Rattle.std.proofs.Common.{arith, List, ℕ, ap, length, subst, sym, ◌∙◌}
use Rattle.std.proofs.lemmas.Result.{IfOk-weaker}
use Rattle.rs_project.specs.Marks.{AreRows}
use Rattle.rs_partings.specs.Flags.{AreFlags, ReachesThrough}
use Rattle.rs_partings.specs.Rows.{IsReachedAlong}
use Rattle.rs_partings.proofs.Turning.{AreTurned, are_turned, rows_within, turned_within}
use Rattle.rs_partings.proofs.Ways.{reaching_along}
use Rattle.rs_partings.proofs.spreading.reaching_through.Goals as goal

pub turn_round-requires-clause-within : goal.turn_round-requires-clause-within
turn_round-requires-clause-within c =
    let P : List (List ℕ) → Type 0 = λ z. AreRows c.args.protocol.now c.args.through.now (length c.args.protocol.now.nodes) z in
    rows_within c.args.protocol.now c.args.through.now c.deref.result.now c.requires.well_formed (subst P (sym c.deref.ensures.value) c.in_ok-rows.ensures)

pub spread_along-requires-clause-bounded : goal.spread_along-requires-clause-bounded
spread_along-requires-clause-bounded c =
    let P : List (List ℕ) → Type 0 = λ z. AreRows c.args.protocol.now c.args.through.now (length c.args.protocol.now.nodes) z in
    let are = subst P (sym c.deref.ensures.value) c.in_ok-rows.ensures in
    let within = rows_within c.args.protocol.now c.args.through.now c.deref.result.now c.requires.well_formed are in
    let turn = are_turned c.deref.result.now c.in_ok-back.back.items within c.in_ok-back.ensures in
    let s = ap (λ (z : List (List ℕ)). length z) c.deref-2.ensures.value ∙ turn.size ∙ are.size in
    let b = c.requires.bounded in
    omega (arith, s, b)

pub spread_along-requires-clause-size : goal.spread_along-requires-clause-size
spread_along-requires-clause-size c =
    let P : List (List ℕ) → Type 0 = λ z. AreRows c.args.protocol.now c.args.through.now (length c.args.protocol.now.nodes) z in
    let are = subst P (sym c.deref.ensures.value) c.in_ok-rows.ensures in
    let within = rows_within c.args.protocol.now c.args.through.now c.deref.result.now c.requires.well_formed are in
    let turn = are_turned c.deref.result.now c.in_ok-back.back.items within c.in_ok-back.ensures in
    c.requires.targets ∙ sym (ap (λ (z : List (List ℕ)). length z) c.deref-2.ensures.value ∙ turn.size ∙ are.size)

pub spread_along-requires-clause-within : goal.spread_along-requires-clause-within
spread_along-requires-clause-within c =
    let P : List (List ℕ) → Type 0 = λ z. AreRows c.args.protocol.now c.args.through.now (length c.args.protocol.now.nodes) z in
    let are = subst P (sym c.deref.ensures.value) c.in_ok-rows.ensures in
    let within = rows_within c.args.protocol.now c.args.through.now c.deref.result.now c.requires.well_formed are in
    let T : List (List ℕ) → Type 0 = λ z. AreTurned c.deref.result.now z in
    let turn = subst T (sym c.deref-2.ensures.value) (are_turned c.deref.result.now c.in_ok-back.back.items within c.in_ok-back.ensures) in
    turned_within c.deref.result.now c.deref-2.result.now turn

pub returns : goal.returns
returns c =
    let pr = c.args.protocol.now in
    let P : List (List ℕ) → Type 0 = λ z. AreRows pr c.args.through.now (length pr.nodes) z in
    let are = subst P (sym c.deref.ensures.value) c.in_ok-rows.ensures in
    let within = rows_within pr c.args.through.now c.deref.result.now c.requires.well_formed are in
    let T : List (List ℕ) → Type 0 = λ z. AreTurned c.deref.result.now z in
    let turn = subst T (sym c.deref-2.ensures.value) (are_turned c.deref.result.now c.in_ok-back.back.items within c.in_ok-back.ensures) in
    let back = c.deref-2.result.now in
    IfOk-weaker c.spread_along.result (λ v. AreFlags (length back) (λ n. IsReachedAlong back c.args.targets.now n) v.items)
    (λ v. AreFlags (length pr.nodes) (λ n. ReachesThrough pr c.args.through.now c.args.targets.now n) v.items)
    (λ v is. reaching_along pr c.args.through.now c.args.targets.now v.items c.deref.result.now back are turn is) c.spread_along.ensures
