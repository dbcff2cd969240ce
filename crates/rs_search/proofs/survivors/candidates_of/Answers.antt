use Rattle.rs_model.specs.declared.limits.TheConstants.{MOST_CANDIDATES}
use Rattle.rs_search.proofs.Verdicts.{more_than}
use Rattle.rs_search.proofs.survivors.candidates_of.Goals as goal

pub returns-in-Err-TooLarge-clause-err : goal.returns-in-Err-TooLarge-clause-err
returns-in-Err-TooLarge-clause-err c = more_than c.args.sub.now c.args.above.now c.args.bound MOST_CANDIDATES (c.in-Err-TooLarge.ensures.large c.in-Err-TooLarge.field-0-is)
