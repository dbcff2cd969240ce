-- Public: what contracts see of answers.
use Rattle.std.specs.Prelude.{ℕ, List}
use Rattle.rs_answers.specs.declared.verdicts.Verdict.{Verdict}

-- the text that is written, and what it says
pub record Answer_data : Type 0 where
  pub text : List ℕ
  pub verdict : Verdict
