use Rattle.std.proofs.Common.{ℕ, get_or, ap}
use Rattle.rs_text.proofs.Tabling.{least_is}
use Rattle.rs_text.proofs.tables.find_filed.Goals as goal

pub returns : goal.returns
returns c =
    least_is c.args.names.now c.args.heads.now c.args.links.now c.args.word.now (get_or c.args.heads.now c.bucket_of.result 0) c.place_along.result c.requires
    (ap (λ (z : ℕ). get_or c.args.heads.now z 0) c.bucket_of.ensures.bucket)
    c.place_along.ensures
