-- What events lead to, one by one.
use Rattle.std.proofs.Common.{◌≡◌, ℕ, zero, suc, List, [], ◌∷◌, ◌++◌, Some, slice_get, take, sym, ap, subst}
use Rattle.rs_model.specs.Data.{Machine_data}
use Rattle.rs_core.specs.declared.messages.Event.{Event}
use Rattle.rs_core.specs.Configurations.{Configuration, Step, Steps}
use Rattle.rs_core.proofs.Sessions.{steps_snoc}
use Rattle.rs_alive.specs.Pasts.{PastLeadsTo}

take_more : (es : List Event) (i : ℕ) (e : Event) → slice_get es i ≡ Some e → take (suc i) es ≡ take i es ++ (e ∷ [])
take_more [] i e h = absurd (cc (h))
take_more (x ∷ es) zero e h = let same : x ≡ e = cc (h) in ap (λ (z : Event). z ∷ []) same
take_more (x ∷ es) (suc i) e h = ap (λ (z : List Event). x ∷ z) (take_more es i e h)

pub leads_more : (ms : List Machine_data) (past : List Event) (i n : ℕ) (e : Event) (c d : Configuration) → n ≡ suc i → slice_get past i ≡ Some e → PastLeadsTo ms (take i past) c → Step ms c e d
    → PastLeadsTo ms (take n past) d
leads_more ms past i n e c d more at l st =
    let P : List Event → Type 0 = λ z. Steps ms l.first z d in
    let N : ℕ → Type 0 = λ z. PastLeadsTo ms (take z past) d in
    subst N (sym more) record { first = l.first; starts = l.starts; steps = subst P (sym (take_more past i e at)) (steps_snoc ms l.first (take i past) c e d l.steps st) }
