use Rattle.std.proofs.Common.{arith, ◌++◌, ◌∷◌, [], ◌∙◌, ap, sym, List}
use Rattle.rs_improve.specs.declared.swaps.SwappedState.{SwappedState}
use Rattle.rs_improve.specs.declared.swaps.SwappedState.TheVariants.{New}
use Rattle.rs_improve.proofs.Leading.{numbers_on}
use Rattle.rs_improve.proofs.swaps.states.new_nexts.Goals as goal

pub loop-send-preserved : goal.loop-send-preserved
loop-send-preserved c =
    c.in_ok-push.ensures.items ∙ ap (λ (z : List SwappedState). z ++ (New c.loop-send.send ∷ [])) c.loop-send.invariant ∙ sym (numbers_on c.args.puts.now 0 c.loop-send.send c.loop-send.send c.loop-send-test.true (omega arith))
