-- What one turn does.
use Rattle.std.proofs.Common.{rules, ◌≡◌, ℕ, ◌<◌, false, List, [], ◌∷◌, ◌++◌, Option, Some, None, slice_get, slice_index_or, length, refl, sym, ap, ◌∙◌, subst, subst₂}
use Rattle.std.proofs.lemmas.Option.{get_or_from_slice_get, slice_get_within}
use Rattle.rs_model.specs.Data.{Machine_data}
use Rattle.rs_model.specs.Sorts.{HasSort}
use Rattle.rs_model.specs.declared.graph.Arm.{Arm}
use Rattle.rs_model.specs.declared.graph.Label.{Label}
use Rattle.rs_model.specs.declared.graph.Role.{Role}
use Rattle.rs_model.specs.declared.machines.State.TheVariants.{Puts, Takes}
use Rattle.rs_model.specs.declared.values.Value.{Value}
use Rattle.rs_core.specs.Actors.{Choice, Behaviour, ChoosesWell}
use Rattle.rs_core.specs.Configurations.{Message, Sends, Receives, state_at, state_of}
use Rattle.rs_core.specs.Choices.{AreWellFormed}
use Rattle.rs_core.specs.Core.{Core_data, HasReceived, configuration_of}
use Rattle.rs_core.specs.Plain.{HasRoom, offer_of}
use Rattle.rs_core.specs.Turns.{KeepsWell, Offers, HasMoved, HasSent, HasGot, is_full}
use Rattle.rs_core.specs.Choosable.{CanChoose, label_of}
use Rattle.rs_core.specs.declared.players.Player.{Player}
use Rattle.rs_core.specs.declared.transcripts.Entry.{Entry}
use Rattle.rs_core.specs.declared.transcripts.Entry.TheVariants as entry
use Rattle.rs_core.proofs.Places.{labelled}
use Rattle.rs_core.proofs.Stands.{here_is}

pub has_room : (capacity : Option ℕ) (queue : List Message) → is_full capacity (length queue) ≡ false → HasRoom capacity queue
has_room None queue e = tt
has_room (Some many) queue e = search rules

-- in a state that takes, a label stands at one place
pub one_place : (machines : List Machine_data) (p s : ℕ) (peer : Role) (arms : List Arm) (i j : ℕ) (arm : Arm) (label : Label) → AreWellFormed machines
    → state_of (slice_get machines p) s ≡ Some (Takes peer arms) → slice_get arms i ≡ Some arm → arm.label ≡ label → label_of (slice_get arms j) ≡ Some label → i ≡ j
one_place machines p s peer arms i j arm label well takes one same other =
    let at = here_is (slice_get machines p) s (Takes peer arms) takes in
    let there = labelled (slice_get arms j) label other in
    ((well.fits p at.0 at.1).takes s peer arms at.2).once i j arm there.0 one there.1 (same ∙ sym there.2)

module _ {A : Type 0} (b : Behaviour A) where
  -- what a player offers at the arms of a state that sends is one of them, with a value of its sort
  can_choose : (c : Core_data) (p : ℕ) (x : Player A) (peer : Role) (arms : List Arm) → ChoosesWell b → AreWellFormed c.machines → KeepsWell c p x
      → state_at c.machines (configuration_of c) p ≡ Some (Puts peer arms) → (kept : Option Choice) → x.kept ≡ kept → (choice : Choice) (y : A) → offer_of b x.actor kept arms ≡ (choice, y)
      → (can : CanChoose c p choice peer) × (can.arms ≡ arms)
  can_choose c p x peer arms well s keeps puts None e choice y o =
      let at = here_is (slice_get c.machines p) ((configuration_of c).at p) (Puts peer arms) puts in
      let g = well x.actor arms ((s.fits p at.0 at.1).puts ((configuration_of c).at p) peer arms at.2).some in
      let same : b.chooses x.actor arms ≡ choice = ap (λ (z : Choice × A). z.0) o in
      let P : Choice → Type 0 = λ z. HasSort z.1 g.0.sort in
      (record { arms = arms; arm = g.0; puts = puts; picks = ap (λ (z : Choice). slice_get arms z.0) (sym same) ∙ g.1; has_sort = subst P same g.2 }, refl)
  can_choose c p x peer arms well s keeps puts (Some ch) e choice y o =
      let k = keeps ch e in
      let same : Some (Puts k.0 k.1.arms) ≡ Some (Puts peer arms) = sym k.1.puts ∙ puts in
      let one : ch ≡ choice = ap (λ (z : Choice × A). z.0) o in
      let list : k.1.arms ≡ arms = cc (same) in
      let picks : slice_get arms choice.0 ≡ Some k.1.arm = ap (λ (z : List Arm). slice_get z choice.0) (sym list) ∙ ap (λ (z : Choice). slice_get k.1.arms z.0) (sym one) ∙ k.1.picks in
      let P : Choice → Type 0 = λ z. HasSort z.1 k.1.arm.sort in
      (record { arms = arms; arm = k.1.arm; puts = puts; picks = picks; has_sort = subst P one k.1.has_sort }, refl)

  pub in_range : (c : Core_data) (p : ℕ) (x : Player A) (peer : Role) (arms : List Arm) (place : ℕ) (value : Value) (y : A) → ChoosesWell b → AreWellFormed c.machines → KeepsWell c p x
      → state_at c.machines (configuration_of c) p ≡ Some (Puts peer arms) → offer_of b x.actor x.kept arms ≡ ((place, value), y) → place < length arms
  in_range c p x peer arms place value y well s keeps puts o =
      let can = can_choose c p x peer arms well s keeps puts x.kept refl (place, value) y o in
      let P : List Arm → Type 0 = λ z. place < length z in
      subst P can.1 (slice_get_within can.0.arms place can.0.arm can.0.picks)

  pub offering : (c : Core_data) (p : ℕ) (x y : Player A) (peer : Role) (arms : List Arm) (place : ℕ) (value : Value) (other : Arm) → ChoosesWell b → AreWellFormed c.machines → KeepsWell c p x
      → state_at c.machines (configuration_of c) p ≡ Some (Puts peer arms) → offer_of b x.actor x.kept arms ≡ ((place, value), y.actor) → y.kept ≡ None → y.transcript ≡ x.transcript
      → Offers b c p x y peer (slice_index_or arms place other) (place, value)
  offering c p x y peer arms place value other well s keeps puts o kept same =
      let can = can_choose c p x peer arms well s keeps puts x.kept refl (place, value) y.actor o in
      let at = here_is (slice_get c.machines p) ((configuration_of c).at p) (Puts peer arms) puts in
      let P : List Arm → Type 0 = λ z. offer_of b x.actor x.kept z ≡ ((place, value), y.actor) in
      record {
        can = can.0;
        present = ((s.fits p at.0 at.1).puts ((configuration_of c).at p) peer arms at.2).known;
        same_arm = sym (get_or_from_slice_get can.0.arms place can.0.arm other can.0.picks) ∙ ap (λ (z : List Arm). slice_index_or z place other) can.1;
        offers = subst P (sym can.1) o;
        kept = kept;
        transcript = same;
      }

  pub sent_turn : (capacity : Option ℕ) (c d : Core_data) (p : ℕ) (x y z : Player A) (peer : Role) (by : Arm) (place : ℕ) (value : Value) → Offers b c p x y peer by (place, value)
      → HasRoom capacity ((configuration_of c).queue p peer.0) → Sends c.machines (configuration_of c) p place value (configuration_of d)
      → z.actor ≡ y.actor → z.kept ≡ y.kept → z.transcript ≡ y.transcript ++ (entry.Sent peer by.label ∷ []) → HasMoved b capacity c x p d z
  sent_turn capacity c d p x y z peer by place value n room step ea ek et =
      let same : Some (Puts peer n.can.arms) ≡ Some (Puts step.peer step.arms) = sym n.can.puts ∙ step.puts in
      let peers : peer ≡ step.peer = cc (same) in
      let arms : n.can.arms ≡ step.arms = cc (same) in
      let arm : n.can.arm ≡ step.arm = cc (arms, n.can.picks, step.picks) in
      let labels : by.label ≡ step.arm.label = ap (λ (w : Arm). w.label) (sym n.same_arm ∙ arm) in
      let choice : Choice = (place, value) in
      HasSent record {
        choice = (place, value);
        step = step;
        room = let R : Role → Type 0 = λ r. HasRoom capacity ((configuration_of c).queue p r.0) in subst R peers room;
        offers = ap (λ (w : List Arm). offer_of b x.actor x.kept w) (sym arms) ∙ n.offers ∙ ap (λ (w : A). (choice, w)) (sym ea);
        kept = ek ∙ n.kept;
        entry = let P : Role → Label → Type 0 = λ r l. z.transcript ≡ x.transcript ++ (entry.Sent r l ∷ []) in
            subst₂ P peers labels (et ∙ ap (λ (w : List Entry). w ++ (entry.Sent peer by.label ∷ [])) n.transcript);
      }

  pub got_turn : (capacity : Option ℕ) (c d : Core_data) (p : ℕ) (x y : Player A) (peer : Role) (arms : List Arm) (label : Label) (value : Value)
      → state_at c.machines (configuration_of c) p ≡ Some (Takes peer arms) → HasReceived c.machines (configuration_of c) p (configuration_of d) record { label = label; value = value }
      → ((peer : Role) (arms : List Arm) (place : ℕ) (arm : Arm) → state_at c.machines (configuration_of c) p ≡ Some (Takes peer arms) → slice_get arms place ≡ Some arm → arm.label ≡ label
      → b.told x.actor arms place value ≡ y.actor)
      → y.kept ≡ x.kept → y.transcript ≡ x.transcript ++ (entry.Got peer label value ∷ []) → HasMoved b capacity c x p d y
  got_turn capacity c d p x y peer arms label value takes got told kept e =
      let step : Receives c.machines (configuration_of c) p (configuration_of d) = got.0 in
      let same : Some (Takes peer arms) ≡ Some (Takes got.0.peer got.0.arms) = sym takes ∙ got.0.takes in
      let peers : peer ≡ got.0.peer = cc (same) in
      let labels : got.0.message.label ≡ label = ap (λ (z : Message). z.label) got.1 in
      let values : got.0.message.value ≡ value = ap (λ (z : Message). z.value) got.1 in
      HasGot record {
        step = got.0;
        told = ap (λ (z : Value). b.told x.actor got.0.arms got.0.place z) values ∙ told got.0.peer got.0.arms got.0.place got.0.arm got.0.takes got.0.follows (got.0.same_label ∙ labels);
        kept = kept;
        entry = let P : Role → Message → Type 0 = λ r m. y.transcript ≡ x.transcript ++ (entry.Got r m.label m.value ∷ []) in subst₂ P peers (sym got.1) e;
      }
