-- Public: why a session isn't given up yet.
use Rattle.std.specs.Prelude.{◌≡◌, List, length}
use Rattle.rs_rings.specs.Passes.{Rings_data}
use Rattle.rs_session.specs.Data.{Stage_data}
use Rattle.rs_session.specs.Ends.{AreAllThere, IsLeastMissing}
use Rattle.rs_session.specs.declared.leaving.LeftFault.{LeftFault}
use Rattle.rs_session.specs.declared.leaving.LeftFault.TheVariants.{Missing, NoMemory}

-- the stage's pass is one of the session's rings
abbrev pub IsFrom : Rings_data → Stage_data → Type 0
IsFrom session stage = stage.table ≡ session.table

-- all is handed back. The least missing role is told; where memory was refused none is missing
abbrev pub LeavingRefuses : Rings_data → List Stage_data → LeftFault → Type 0
LeavingRefuses session left (Missing back stages missing) = (back ≡ session) × (stages.items ≡ left) × IsLeastMissing (length session.machines) left missing.0
LeavingRefuses session left (NoMemory back stages) = (back ≡ session) × (stages.items ≡ left) × AreAllThere (length session.machines) left
