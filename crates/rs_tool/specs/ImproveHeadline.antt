-- Public: what the status 0 of `improve` says.
use Rattle.std.specs.Prelude.{ℕ, List}
use Rattle.std.specs.Io.KnownBytes.{Appends}
use Rattle.rs_answers.specs.Data.{Answer_data}
use Rattle.rs_tool.specs.Answers.{Answers}
use Rattle.rs_tool.specs.Data.{CallOutput}
use Rattle.rs_tool.specs.Headline.{SpellsSafeMachines}

-- the text of the answer to these words and bytes is written, after what the sink had, and it spells safe machines
pub record WritesSafeMachines {K : Type 0} (words : List (List ℕ)) (bytes : List ℕ) (output : CallOutput K) : Type 0 where
  pub answer : Answer_data
  pub answers : Answers words bytes answer
  pub written : Appends output.written output.later answer.text
  pub safe : SpellsSafeMachines answer.text
