-- What collectors keep, and what sends empty values alone.
use Rattle.std.proofs.Common.{◌≡◌, inl, inr, List, [], ◌∷◌, ◌++◌, Option, Some, None, sym, ap, ◌∙◌, append_assoc, append-nil}
use Rattle.rs_model.specs.declared.values.Sort.TheVariants as sort
use Rattle.rs_model.specs.declared.values.Value.{Value}
use Rattle.rs_model.specs.declared.values.Value.TheVariants as value
use Rattle.rs_core.specs.Actors.{Choice}
use Rattle.rs_core.specs.Histories.{Sent, Got, History}
use Rattle.rs_actors.specs.Common.{collector_conduct}
use Rattle.rs_actors.specs.Talking.{Conduct, carried}
use Rattle.rs_actors.specs.Talks.{AreEmpty, HasKept, IsEmpty, Says, Talks, values_got, values_sent}
use Rattle.rs_actors.proofs.Playing.{TalksKeeping}

-- what has nothing but the unit at hand sends empty values
pub silent : {T : Type 0} (c : Conduct T) → ((x : T) → c.at_hand x ≡ value.Unit) → (h : History) (x y : T) → Talks c x h y → AreEmpty (values_sent h)
silent c unit [] x y t = tt
silent {T} c unit (Sent peer label v ∷ h) x y t = (go t.1, silent c unit h t.0 y t.2)
  where
    go : Says c x v t.0 → IsEmpty v
    go (inl e) = (sort.Unit, e.0 ∙ ap carried (unit x))
    go (inr e) = e.0
silent c unit (Got peer label v ∷ h) x y t = silent c unit h (c.behind_value x v) y t

-- sending changes no collector
stays : (x : List Value) (v : Value) (y : List Value) → Says collector_conduct x v y → x ≡ y
stays x v y (inl e) = e.1
stays x v y (inr e) = e.1

pub kept : (h : History) (x y : List Value) → Talks collector_conduct x h y → y ≡ x ++ values_got h
kept [] x y t = sym t ∙ sym (append-nil x)
kept (Sent peer label v ∷ h) x y t = kept h t.0 y t.2 ∙ ap (λ (z : List Value). z ++ values_got h) (sym (stays x v t.0 t.1))
kept (Got peer label v ∷ h) x y t = kept h (x ++ v ∷ []) y t ∙ append_assoc x (v ∷ []) (values_got h)

-- and so with a choice that is kept
same_kept : (x : List Value) (o : Option Choice) (y : List Value) → HasKept collector_conduct x o y → x ≡ y
same_kept x None y k = k
same_kept x (Some o) y k = stays x o.1 y k

pub kept_keeping : (x : List Value) (h : History) (o : Option Choice) (y : List Value) → TalksKeeping collector_conduct x h o y → y ≡ x ++ values_got h
kept_keeping x h o y t = sym (same_kept t.before o y t.has_kept) ∙ kept h x t.before t.talks
