use Rattle.std.proofs.Common.{arith, subst}
use Rattle.rs_improve.proofs.SwapLaws.{swapped_proper}
use Rattle.rs_improve.proofs.Once.{attempted}
use Rattle.rs_improve.specs.Improved.{IsAsked, HasNoSwap, HasTooManyStates}
use Rattle.rs_improve.specs.Swaps.{IsSwapAnswer}
use Rattle.rs_improve.specs.declared.swaps.SwapAnswer.{SwapAnswer}
use Rattle.rs_improve.proofs.improving.attempt_swap.Goals as goal

pub returns-then-swaps-asked : goal.returns-then-swaps-asked
returns-then-swaps-asked c = IsAsked c.if-swaps-asked.true

pub derive_next-requires-clause-proper : goal.derive_next-requires-clause-proper
derive_next-requires-clause-proper c =
    let h = subst (λ (z : SwapAnswer). IsSwapAnswer c.args.machine.now z) c.in-To.is c.in_ok-swap.ensures in
    swapped_proper c.args.machine.now c.in-To.next c.requires.proper h.0

pub returns-in-Nothing : goal.returns-in-Nothing
returns-in-Nothing c =
    HasNoSwap (omega arith) (subst (λ (z : SwapAnswer). IsSwapAnswer c.args.machine.now z) c.in-Nothing.is c.in_ok-swap.ensures)

pub returns-in-TooManyStates : goal.returns-in-TooManyStates
returns-in-TooManyStates c =
    HasTooManyStates (omega arith) (subst (λ (z : SwapAnswer). IsSwapAnswer c.args.machine.now z) c.in-TooManyStates.is c.in_ok-swap.ensures)

pub returns-in-To : goal.returns-in-To
returns-in-To c =
    let h = subst (λ (z : SwapAnswer). IsSwapAnswer c.args.machine.now z) c.in-To.is c.in_ok-swap.ensures in
    attempted c.args.above.now c.args.bound c.args.asked c.args.swaps c.args.machine.now c.in-To.next (omega arith) h.0 h.1
    (swapped_proper c.args.machine.now c.in-To.next c.requires.proper h.0) c.derive_next.result c.derive_next.ensures
