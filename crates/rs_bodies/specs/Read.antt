-- Public: what the reader of a part gives.
use Rattle.std.specs.Prelude.{ℕ, ◌≤◌, List, length}
use Rattle.rs_model.specs.Data.{Names_data}
use Rattle.rs_bodies.specs.declared.dialects.Dialect.{Dialect}
use Rattle.rs_bodies.specs.Data.{Spelling_data}
use Rattle.rs_bodies.specs.Dialects.{most}
use Rattle.rs_bodies.specs.Spellings.{Spells}

-- the bytes spell it, with no more heads than there may be, up to an offset within them
pub record IsPartRead (d : Dialect) (bytes : List ℕ) (at : ℕ) (old new : Names_data) (spelling : Spelling_data) (until : ℕ) : Type 0 where
  pub spells : Spells d bytes at old new spelling until
  pub bounded : length spelling.points ≤ most d
  pub within : until ≤ length bytes
