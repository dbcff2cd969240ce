-- What sources and mappers send, over their histories.
use Rattle.std.proofs.Common.{◌≡◌, inl, inr, ℕ, List, [], ◌∷◌, ◌++◌, map, drop, Option, Some, None, slice_get, refl, sym, ap, ap₂, ◌∙◌, subst, append_assoc, append-nil}
use Rattle.rs_model.specs.Data.{Machine_data}
use Rattle.rs_model.specs.declared.graph.Arm.{Arm}
use Rattle.rs_model.specs.declared.graph.Role.{Role}
use Rattle.rs_model.specs.declared.machines.State.TheVariants.{Puts}
use Rattle.rs_model.specs.declared.values.Sort.TheVariants as sort
use Rattle.rs_model.specs.declared.values.Value.{Value}
use Rattle.rs_core.specs.Actors.{Choice, PlaysFrom}
use Rattle.rs_core.specs.Histories.{Sent, Got, History}
use Rattle.rs_actors.specs.Common.{next_or_unit, source_conduct, mapper_conduct}
use Rattle.rs_actors.specs.Data.{Mapper_data}
use Rattle.rs_actors.specs.Talking.{carried, sort_of, arm_for, by_sorts}
use Rattle.rs_actors.specs.Talks.{AreEmpty, HandsOut, HasArmsFor, HasArmsForAll, HasKept, Says, SendsInOrder, Talks, value_kept, values_got, values_sent}
use Rattle.rs_actors.proofs.Playing.{Spoken, TalksKeeping, AtHand, Empty, spoken, talks, nowhere}

-- one value more is sent, of these or an empty one
one_more : (values later : List Value) (v : Value) (sent left : List Value) → v ≡ carried (next_or_unit values) → drop 1 values ≡ later → HandsOut later sent left → HandsOut values (v ∷ sent) left
one_more [] later v sent left e f h = inr ((sort.Unit, e), subst (λ (z : List Value). HandsOut z sent left) (sym f) h)
one_more (next ∷ values) later v sent left e f h = inl (next, values, refl, e, subst (λ (z : List Value). HandsOut z sent left) (sym f) h)

pub handed : (h : History) (x y : List Value) → Talks source_conduct x h y → HandsOut x (values_sent h) y
handed [] x y t = t
handed (Sent peer label v ∷ h) x y t = go t.1 (handed h t.0 y t.2)
  where
    go : Says source_conduct x v t.0 → HandsOut t.0 (values_sent h) y → HandsOut x (v ∷ values_sent h) y
    go (inl e) k = one_more x t.0 v (values_sent h) y e.0 e.1 k
    go (inr e) k = inr (e.0, subst (λ (z : List Value). HandsOut z (values_sent h) y) (sym e.1) k)
handed (Got peer label v ∷ h) x y t = handed h x y t

-- behind the last value a source sends empty ones
drained : (h : History) (y : List Value) → Talks source_conduct [] h y → AreEmpty (values_sent h) × (y ≡ [])
drained [] y t = (tt, sym t)
drained (Sent peer label v ∷ h) y t = go t.1 (λ e. drained h y (subst (λ (z : List Value). Talks source_conduct z h y) (sym e) t.2))
  where
    go : Says source_conduct [] v t.0 → ([] ≡ t.0 → AreEmpty (values_sent h) × (y ≡ [])) → AreEmpty (v ∷ values_sent h) × (y ≡ [])
    go (inl e) later = let k = later e.1 in (((sort.Unit, e.0), k.0), k.1)
    go (inr e) later = let k = later e.1 in ((e.0, k.0), k.1)
drained (Got peer label v ∷ h) y t = drained h y t

-- so many values of a list were sent, and empty ones behind the last
none_yet : (values : List Value) → SendsInOrder values [] values
none_yet values = record { gone = []; behind = []; parts = refl; sent_are = refl; empty = tt; only_behind = inl refl }

none_at_all : (h : History) (y : List Value) → Talks source_conduct [] h y → SendsInOrder [] (values_sent h) y
none_at_all h y t =
    let k = drained h y t in
    record { gone = []; behind = values_sent h; parts = sym k.1; sent_are = refl; empty = k.0; only_behind = inr k.1 }

one_before : (next v : Value) (later sent left : List Value) → v ≡ carried next → SendsInOrder later sent left → SendsInOrder (next ∷ later) (v ∷ sent) left
one_before next v later sent left e k = record {
  gone = next ∷ k.gone;
  behind = k.behind;
  parts = ap (λ (z : List Value). next ∷ z) k.parts;
  sent_are = ap₂ (λ (z : Value) (zs : List Value). z ∷ zs) e k.sent_are;
  empty = k.empty;
  only_behind = k.only_behind;
}

-- there is no state that sends without an arm for the next value
never_empty : (machine : Machine_data) (s : ℕ) (next : Value) (later : List Value) (peer : Role) (arms : List Arm) → HasArmsFor machine (sort_of next)
    → slice_get machine.states s ≡ Some (Puts peer arms) → arm_for source_conduct (next ∷ later) arms ≡ None → ⊥
never_empty machine s next later peer arms has st none =
    let k = has s peer arms st in
    nowhere arms (sort_of next) 0 k.0 k.1 none k.2 k.3

pub in_order : (machine : Machine_data) (h : History) (s t : ℕ) (x y : List Value) → HasArmsForAll machine x → PlaysFrom (by_sorts source_conduct) machine s x h t y
    → SendsInOrder x (values_sent h) y
in_order machine h s t [] y has p = none_at_all h y (talks source_conduct machine h s t [] y p)
in_order machine [] s t (next ∷ later) y has p = subst (λ (z : List Value). SendsInOrder (next ∷ later) [] z) p.1 (none_yet (next ∷ later))
in_order machine (Sent peer label v ∷ h) s t (next ∷ later) y has p =
    go (spoken source_conduct machine s (next ∷ later) peer label v p.0 p.1 p.2) (λ e. in_order machine h p.0 t later y has.1 (subst (λ (z : List Value). PlaysFrom (by_sorts source_conduct) machine p.0 z h t y) (sym e) p.3))
  where
    go : Spoken source_conduct machine s (next ∷ later) v p.1 → (later ≡ p.1 → SendsInOrder later (values_sent h) y) → SendsInOrder (next ∷ later) (v ∷ values_sent h) y
    go (AtHand e f) rest = one_before next v later (values_sent h) y e (rest f)
    go (Empty q arms st none e f) rest = absurd (never_empty machine s next later q arms has.0 st none)
in_order machine (Got peer label v ∷ h) s t (next ∷ later) y has p =
    in_order machine h p.0 t (next ∷ later) y has (subst (λ (z : List Value). PlaysFrom (by_sorts source_conduct) machine p.0 z h t y) (sym p.2.becomes) p.3)

-- what a mapper holds goes out, and behind it the images of what comes
module _ {F : Type 0} (image : F → Value → Value) where
  abbrev mapping : F → List Value → Mapper_data F
  mapping f images = record { function = f; images = images }

  record Mapped (f : F) (images : List Value) (h : History) (y : Mapper_data F) : Type 0 where
    pub hands : HandsOut (images ++ map (image f) (values_got h)) (values_sent h) y.images
    pub same : y.function ≡ f

  one_image : (f : F) (images later : List Value) (v : Value) (h : History) (y : Mapper_data F) → v ≡ carried (next_or_unit images) → drop 1 images ≡ later → Mapped f later h y
      → HandsOut (images ++ map (image f) (values_got h)) (v ∷ values_sent h) y.images
  one_image f [] later v h y e g k =
      inr ((sort.Unit, e), subst (λ (z : List Value). HandsOut (z ++ map (image f) (values_got h)) (values_sent h) y.images) (sym g) k.hands)
  one_image f (next ∷ images) later v h y e g k =
      inl (next, images ++ map (image f) (values_got h), refl, e, subst (λ (z : List Value). HandsOut (z ++ map (image f) (values_got h)) (values_sent h) y.images) (sym g) k.hands)

  mapped : (h : History) (f : F) (images : List Value) (y : Mapper_data F) → Talks (mapper_conduct image) (mapping f images) h y → Mapped f images h y
  mapped [] f images y t = record {
    hands = append-nil images ∙ ap (λ (m : Mapper_data F). m.images) t;
    same = ap (λ (m : Mapper_data F). m.function) (sym t);
  }
  mapped (Sent peer label v ∷ h) f images y t = go t.1 (λ later e. mapped h f later y (subst (λ (z : Mapper_data F). Talks (mapper_conduct image) z h y) (sym e) t.2))
    where
      go : Says (mapper_conduct image) (mapping f images) v t.0 → ((later : List Value) → mapping f later ≡ t.0 → Mapped f later h y) → Mapped f images (Sent peer label v ∷ h) y
      go (inl e) rest = let k = rest (drop 1 images) e.1 in record { hands = one_image f images (drop 1 images) v h y e.0 refl k; same = k.same }
      go (inr e) rest = let k = rest images e.1 in record { hands = inr (e.0, k.hands); same = k.same }
  mapped (Got peer label v ∷ h) f images y t =
      let k = mapped h f (images ++ image f v ∷ []) y t in
      record {
        hands = subst (λ (z : List Value). HandsOut z (values_sent h) y.images) (append_assoc images (image f v ∷ []) (map (image f) (values_got h))) k.hands;
        same = k.same;
      }

-- what is kept is one value more
one_behind : (sent values z : List Value) (v : Value) (y : List Value) → HandsOut values sent z → Says source_conduct z v y → HandsOut values (sent ++ v ∷ []) y
one_behind [] values z v y h (inl e) = subst (λ (xs : List Value). HandsOut xs (v ∷ []) y) (sym h) (one_more z y v [] y e.0 e.1 refl)
one_behind [] values z v y h (inr e) = inr (e.0, h ∙ e.1)
one_behind (w ∷ sent) values z v y (inl h) k = inl (h.0, h.1, h.2, h.3, one_behind sent h.1 z v y h.4 k)
one_behind (w ∷ sent) values z v y (inr h) k = inr (h.0, one_behind sent values z v y h.1 k)

with_kept : (sent values z : List Value) (kept : Option Choice) (y : List Value) → HandsOut values sent z → HasKept source_conduct z kept y → HandsOut values (sent ++ value_kept kept) y
with_kept sent values z None y h k =
    subst (λ (s : List Value). HandsOut values s y) (sym (append-nil sent)) (subst (λ (left : List Value). HandsOut values sent left) k h)
with_kept sent values z (Some o) y h k = one_behind sent values z o.1 y h k

pub handed_keeping : (x : List Value) (h : History) (kept : Option Choice) (y : List Value) → TalksKeeping source_conduct x h kept y → HandsOut x (values_sent h ++ value_kept kept) y
handed_keeping x h kept y t = with_kept (values_sent h) x t.before kept y (handed h x t.before t.talks) t.has_kept

module _ {F : Type 0} (image : F → Value → Value) where
  record Keeps (z : Mapper_data F) (kept : Option Choice) (y : Mapper_data F) : Type 0 where
    pub images : HasKept source_conduct z.images kept y.images
    pub same : y.function ≡ z.function

  keeps : (z : Mapper_data F) (kept : Option Choice) (y : Mapper_data F) → HasKept (mapper_conduct image) z kept y → Keeps z kept y
  keeps z None y k = record { images = ap (λ (m : Mapper_data F). m.images) k; same = ap (λ (m : Mapper_data F). m.function) (sym k) }
  keeps z (Some o) y (inl k) = record { images = inl (k.0, ap (λ (m : Mapper_data F). m.images) k.1); same = ap (λ (m : Mapper_data F). m.function) (sym k.1) }
  keeps z (Some o) y (inr k) = record { images = inr (k.0, ap (λ (m : Mapper_data F). m.images) k.1); same = ap (λ (m : Mapper_data F). m.function) (sym k.1) }

  pub record MapsAll (x : Mapper_data F) (h : History) (kept : Option Choice) (y : Mapper_data F) : Type 0 where
    pub hands : HandsOut (x.images ++ map (image x.function) (values_got h)) (values_sent h ++ value_kept kept) y.images
    pub same : y.function ≡ x.function

  pub mapped_keeping : (x : Mapper_data F) (h : History) (kept : Option Choice) (y : Mapper_data F) → TalksKeeping (mapper_conduct image) x h kept y → MapsAll x h kept y
  mapped_keeping x h kept y t =
      let m = mapped image h x.function x.images t.before t.talks in
      let k = keeps t.before kept y t.has_kept in
      record {
        hands = with_kept (values_sent h) (x.images ++ map (image x.function) (values_got h)) t.before.images kept y.images m.hands k.images;
        same = k.same ∙ m.same;
      }
