use Rattle.std.proofs.Common.{arith}
use Rattle.rs_demos.proofs.Digits.{below}
use Rattle.rs_demos.proofs.numbers.number_of.Goals as goal

pub signed-requires : goal.signed-requires
signed-requires c =
    let d = c.in_ok-magnitude_of.ensures.digits in
    omega (arith, c.in_ok-magnitude_of.ensures.some, below _ d.0.1 d.1)
