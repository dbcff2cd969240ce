-- Public: how texts of the machine grammar are built.
use Rattle.std.specs.Prelude.{List}
use Rattle.rs_model.specs.Data.{Names_data}
use Rattle.rs_text.specs.Signs.{Sign}
use Rattle.rs_bodies.specs.declared.dialects.Dialect.TheVariants.{Acts}
use Rattle.rs_bodies.specs.Spells as parts
use Rattle.rs_bodies.specs.Spells.{Tree, tree_signs}

-- a machine: its role and a body of acts
abbrev pub MachineTree : Type 0
MachineTree = Tree Acts

-- the tokens of a machine
abbrev pub machine_signs : MachineTree → List Sign
machine_signs t = tree_signs Acts t

-- names and limits
abbrev pub Fits : (old : Names_data) → MachineTree → Type 0
Fits old t = parts.Fits Acts old t
