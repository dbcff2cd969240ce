-- A protocol has one picture.
use Rattle.std.proofs.Common.{◌≡◌, List, ℕ, refl, sym, ap, ◌∙◌}
use Rattle.rs_model.specs.Data.{Names_data, Protocol_data}
use Rattle.rs_bodies.proofs.GraphsAgain.{one_tree}
use Rattle.rs_global.proofs.Canonical.{canonical_is_there}
use Rattle.rs_global.proofs.Places.{spelt}
use Rattle.rs_global.specs.Canonical.{IsTextShaped}
use Rattle.rs_global.specs.Enough.{AreEnough}
use Rattle.rs_global.specs.Kinds.{protocols}
use Rattle.rs_pictures.specs.Sequences.{IsPictureOf, sequence_text}

pub one_picture : (names : Names_data) (protocol : Protocol_data) (text other : List ℕ) → IsTextShaped protocol → IsPictureOf names protocol text → IsPictureOf names protocol other → text ≡ other
one_picture names protocol text other shaped h k =
    h.whole ∙ ap (sequence_text names) (one_tree protocols names protocol h.tree k.tree (spelt protocol shaped) h.canonical k.canonical) ∙ sym k.whole

pub some_picture : (names : Names_data) (protocol : Protocol_data) → IsTextShaped protocol → AreEnough names protocol → (text : List ℕ) × IsPictureOf names protocol text
some_picture names protocol shaped enough =
    let tree = canonical_is_there names protocol shaped enough.roles enough.labels in
    (sequence_text names tree.0, record { tree = tree.0; canonical = tree.1; whole = refl })
