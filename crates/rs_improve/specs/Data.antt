-- Public: what contracts see of an improved machine.
use Rattle.std.specs.Prelude.{ℕ}
use Rattle.rs_model.specs.Data.{Machine_data}
use Rattle.rs_derive.specs.Data.{Derivation_data}
use Rattle.rs_improve.specs.declared.improving.Ceased.{Ceased}

-- a machine that sends earlier, how many swaps lead to it, why there are no more, and its derivation from the machine before
pub record Improved_data : Type 0 where
  pub machine : Machine_data
  pub swaps : ℕ
  pub ceased : Ceased
  pub derivation : Derivation_data
