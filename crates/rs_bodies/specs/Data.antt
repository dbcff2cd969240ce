-- Public: what contracts see of the types with vectors, and of the reader's own ones.
use Rattle.std.specs.Prelude.{ℕ, List, Option, Bool}
use Rattle.rs_model.specs.declared.graph.Arm.{Arm}
use Rattle.rs_model.specs.declared.graph.Role.{Role}
use Rattle.rs_text.specs.Names.{BoundNames}
use Rattle.rs_bodies.specs.declared.dialects.Head.{Head}
use Rattle.rs_bodies.specs.declared.drafts.DraftArm.{DraftArm}
use Rattle.rs_bodies.specs.declared.reading.Frame.{Frame}
use Rattle.rs_bodies.specs.declared.reading.Mode.{Mode}

-- a head with its arms
pub record Point_data : Type 0 where
  pub head : Head
  pub arms : List Arm

-- what a part spells: the role of a machine, the heads in order of text, whether an end stands behind them, and where the body begins
pub record Spelling_data : Type 0 where
  pub role : Role
  pub points : List Point_data
  pub ended : Bool
  pub start : ℕ

-- a head whose arms may lead to an end that has no number yet
pub record Draft_data : Type 0 where
  pub head : Head
  pub arms : List DraftArm

-- how far the reading has come
pub record Reader_data : Type 0 where
  pub roles : List (List ℕ)
  pub labels : List (List ℕ)
  pub role : Role
  pub drafts : List Draft_data
  pub start : Option ℕ
  pub ended : Bool
  pub bound : BoundNames
  pub depth : ℕ
  pub frames : List Frame
  pub mode : Mode
