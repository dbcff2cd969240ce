use Rattle.std.proofs.Common.{rules}
use Rattle.rs_text.proofs.Fronts.{next_is}
use Rattle.rs_text.proofs.lexing.next_token.Goals as goal

pub returns-clause-token : goal.returns-clause-token
returns-clause-token c =
    next_is c.args.bytes.now c.behind_gap-here.result.now c.args.at _ _ c.requires (rw c.split_at.ensures.back at c.behind_gap-here.ensures.behind) (search rules)
