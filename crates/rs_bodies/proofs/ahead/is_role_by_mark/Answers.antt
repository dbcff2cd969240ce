use Rattle.std.proofs.Common.{◌∷◌, drop, rules}
use Rattle.rs_bodies.proofs.RolesTold.{arrow_tells, bang_tells, brace_tells, comma_tells, question_tells, told_in}
use Rattle.rs_bodies.proofs.ahead.is_role_by_mark.Goals as goal

pub returns-in-45 : goal.returns-in-45
returns-in-45 c = told_in c.args.dialect c.args.bytes.now (45 ∷ 62 ∷ drop 2 c.args.bytes.now) _ _ (arrow_tells c.args.dialect (drop 2 c.args.bytes.now)) (search rules) (search rules)

pub returns-in-33 : goal.returns-in-33
returns-in-33 c = told_in c.args.dialect c.args.bytes.now (33 ∷ drop 1 c.args.bytes.now) _ _ (bang_tells c.args.dialect (drop 1 c.args.bytes.now)) (search rules) (search rules)

pub returns-in-63 : goal.returns-in-63
returns-in-63 c = told_in c.args.dialect c.args.bytes.now (63 ∷ drop 1 c.args.bytes.now) _ _ (question_tells c.args.dialect (drop 1 c.args.bytes.now)) (search rules) (search rules)

pub returns-in-44 : goal.returns-in-44
returns-in-44 c = told_in c.args.dialect c.args.bytes.now (44 ∷ drop 1 c.args.bytes.now) _ _ (comma_tells c.args.dialect (drop 1 c.args.bytes.now)) (search rules) (search rules)

pub returns-in-125 : goal.returns-in-125
returns-in-125 c = told_in c.args.dialect c.args.bytes.now (125 ∷ drop 1 c.args.bytes.now) _ _ (brace_tells c.args.dialect (drop 1 c.args.bytes.now)) (search rules) (search rules)
