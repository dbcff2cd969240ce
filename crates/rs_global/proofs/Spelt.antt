-- What the reader of parts gives is what the text spells as a protocol.
use Rattle.std.proofs.Common.{◌≡◌, ℕ, List, length, sym, ap, ◌∙◌, subst}
use Rattle.rs_model.specs.Data.{Protocol_data, Names_data}
use Rattle.rs_bodies.specs.declared.dialects.Dialect.TheVariants.{Talks}
use Rattle.rs_bodies.specs.Data.{Spelling_data}
use Rattle.rs_bodies.specs.Spellings.{Spells}
use Rattle.rs_bodies.proofs.GraphLaws.{graph_spelt}
use Rattle.rs_global.specs.Graph.{no_names}
use Rattle.rs_global.specs.Kinds.{protocols}
use Rattle.rs_global.specs.Parts as parts
use Rattle.rs_global.specs.Spells.{SpellsProtocol}
use Rattle.rs_global.proofs.Places.{is_kind}

pub spells : (bytes : List ℕ) (at : ℕ) (old names : Names_data) (s : Spelling_data) (roles : ℕ) (protocol : Protocol_data) (until : ℕ) → old ≡ no_names → Spells Talks bytes at old names s until
    → roles ≡ length names.roles → protocol ≡ parts.graph_spelt roles s → SpellsProtocol bytes at names protocol until
spells bytes at old names s roles protocol until none k count e =
    subst (λ (z : Protocol_data). SpellsProtocol bytes at names z until) (sym (e ∙ ap (λ z. parts.graph_spelt z s) count))
    (graph_spelt protocols is_kind.made bytes at no_names names s until (subst (λ (z : Names_data). Spells Talks bytes at z names s until) none k))
