-- Public: the status of a call whose source and sink never fail.
use Rattle.std.specs.Prelude.{◌≡◌, ℕ, List}
use Rattle.rs_answers.specs.Data.{Answer_data}
use Rattle.rs_tool.specs.Answers.{Answers}
use Rattle.rs_tool.specs.Statuses.{status_of}
use Rattle.rs_tool.specs.declared.statuses.Status.{Status}

-- the status is that of the one answer to the words, where the input is these bytes
pub record IsStatusOfAnswer (words : List (List ℕ)) (bytes : List ℕ) (status : Status) : Type 0 where
  pub answer : Answer_data
  pub answers : Answers words bytes answer
  pub one : (other : Answer_data) → Answers words bytes other → other ≡ answer
  pub status_is : status ≡ status_of answer.verdict
