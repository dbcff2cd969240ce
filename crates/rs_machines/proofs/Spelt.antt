-- What the reader of parts gives is what the text spells as a machine.
use Rattle.std.proofs.Common.{◌≡◌, ℕ, List, sym, subst}
use Rattle.rs_model.specs.Data.{Machine_data, Names_data}
use Rattle.rs_bodies.specs.declared.dialects.Dialect.TheVariants.{Acts}
use Rattle.rs_bodies.specs.Data.{Spelling_data}
use Rattle.rs_bodies.specs.Spellings.{Spells}
use Rattle.rs_bodies.proofs.GraphLaws.{graph_spelt}
use Rattle.rs_machines.specs.Kinds.{machines}
use Rattle.rs_machines.specs.Parts.{machine_spelt}
use Rattle.rs_machines.specs.Spells.{SpellsMachine}
use Rattle.rs_machines.proofs.Places.{is_kind}

pub spells : (bytes : List ℕ) (at : ℕ) (old new : Names_data) (s : Spelling_data) (machine : Machine_data) (until : ℕ) → Spells Acts bytes at old new s until → machine ≡ machine_spelt s
    → SpellsMachine bytes at old new machine until
spells bytes at old new s machine until k e =
    subst (λ (z : Machine_data). SpellsMachine bytes at old new z until) (sym e) (graph_spelt machines is_kind.made bytes at old new s until k)
