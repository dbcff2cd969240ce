use Rattle.rs_text.proofs.Comments.{to_line, to_end}
use Rattle.rs_text.proofs.lexing.comment_size.Goals as goal

pub returns-in-Some-clause-passed : goal.returns-in-Some-clause-passed
returns-in-Some-clause-passed c =
    let found = c.in-Some.ensures in
    to_line c.args.bytes.now c.in-Some.place found.0.high found.0.before found.1

pub returns-in-None-clause-passed : goal.returns-in-None-clause-passed
returns-in-None-clause-passed c = to_end c.args.bytes.now c.in-None.ensures
