use Rattle.std.proofs.Common.{rules}
use Rattle.std.proofs.lemmas.Option.{slice_get_read}
use Rattle.streams.proofs.acts.sends_to.Goals as goal

pub returns-in-Some : goal.returns-in-Some
returns-in-Some c = λ fits. (
  record {
    peer = c.sending_arms.result.0;
    arms = c.sending_arms.result.1.now;
    arm = c.in-Some.arm.now;
    stands = c.sending_arms.ensures;
    picks = search (rules, slice_get_read, c.in-Some.ensures);
    has_sort = search rules;
  },
  search rules,
)
