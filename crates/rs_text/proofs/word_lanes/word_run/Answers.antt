use Rattle.std.proofs.Common.{ℕ, leb, cond, bit_and, refl, rules, arith}
use Rattle.std.proofs.lemmas.Simd.{zip2_splat, length-chunk}
use lib.Lanes.{chunk}
use Rattle.rs_text.proofs.WordLanes.{joined, splat_is, run_found}
use Rattle.rs_text.proofs.word_lanes.word_run.Goals as goal

pub returns : goal.returns
returns c =
    let v = chunk 0 16 c.args.bytes.now in
    let long = length-chunk 0 16 c.args.bytes.now (omega arith) in
    run_found c.args.bytes.now _ _ _ c.requires (search rules) c.first_set.ensures
    (joined bit_and _ _ v (joined bit_and _ _ v (joined (λ a b. cond (leb a b) 255 0) _ _ v (splat_is v 16 26 long) (joined _ _ _ v (zip2_splat {Y = ℕ} _ v 16 32 long) (splat_is v 16 97 long)))
    (joined (λ a b. cond (leb a b) 255 0) _ _ v (splat_is v 16 10 long) (zip2_splat {Y = ℕ} _ v 16 48 long))) (zip2_splat {Y = ℕ} _ v 16 95 long)) refl
