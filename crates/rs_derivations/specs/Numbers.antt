-- Public: derivations whose numbers a text can have.
use Rattle.std.specs.Prelude.{◌≤◌}
use Rattle.std.specs.List.{All}
use Rattle.rs_model.specs.declared.limits.TheConstants.{MOST_NUMBER}
use Rattle.rs_derive.specs.Data.{DNode_data, Derivation_data}

-- no number of the node is above 4,294,967,295
pub record HasSmallNumbers (n : DNode_data) : Type 0 where
  pub state : n.state ≤ MOST_NUMBER
  pub above : n.above ≤ MOST_NUMBER
  pub rank : n.rank ≤ MOST_NUMBER
  pub next : All (λ k. k ≤ MOST_NUMBER) n.next

-- the numbers of any node of the derivation are small
abbrev pub AreSmall : Derivation_data → Type 0
AreSmall d = All HasSmallNumbers d.nodes
