-- On a way round the oldest act that is owed stays the oldest.
use Rattle.std.proofs.Common.{◌≡◌, ◌≢◌, inl, inr, ℕ, zero, suc, List, [], ◌∷◌, ◌++◌, slice_get, Option, Some, refl, sym, ap, subst, ◌∙◌}
use Rattle.std.proofs.lemmas.Option.{none-some, same_Some}
use Rattle.rs_model.specs.Data.{Machine_data}
use Rattle.rs_model.specs.declared.graph.Arm.{Arm}
use Rattle.rs_model.specs.declared.machines.Act.{Act}
use Rattle.rs_model.specs.declared.machines.Act.TheVariants as act
use Rattle.rs_prefix.specs.Earliest.{without}
use Rattle.rs_derive.specs.Derivations.{KeepsItsHead}
use Rattle.rs_derive.specs.Moves.{Both, HasMove, Stops, PaysSend, SendsBoth, Guesses, SendsAhead, PaysReceive, ReceivesAhead, Spot, owing_receive, owing_send, spot}
use Rattle.rs_graph.specs.Lists.{Among}
use Rattle.rs_search.proofs.Choices.{among_map}
use Rattle.rs_explain.specs.Forgetting.{Forgetting_data, IsForgetting, IsKeepingWalk}
use Rattle.rs_explain.specs.Walks.{WalkStep_data}

-- the oldest act
abbrev oldest : Spot → Option Act
oldest p = slice_get p.pending 0

more : (xs : List Act) (x : Act) → xs ≢ [] → slice_get (xs ++ x ∷ []) 0 ≡ slice_get xs 0
more [] x ne = absurd (ne refl)
more (y ∷ ys) x ne = refl

less : (xs : List Act) (n : ℕ) → (n ≡ 0 → ⊥) → xs ≢ [] → slice_get (without xs n) 0 ≡ slice_get xs 0
less xs zero other ne = absurd (other refl)
less [] (suc n) other ne = absurd (ne refl)
less (y ∷ ys) (suc n) other ne = refl

both_owe : (theirs : List Arm) (pending : List Act) (arms : List Arm) (results : List Spot) (q : Spot) → Both theirs pending arms results → Among results q → q.pending ≡ pending
both_owe theirs pending [] [] q b m = absurd m
both_owe theirs pending [] (r ∷ rs) q b m = absurd b
both_owe theirs pending (a ∷ arms) [] q b m = absurd m
both_owe theirs pending (a ∷ arms) (r ∷ rs) q b (inl e) = ap (λ (z : Spot). z.pending) (sym e ∙ b.0.3)
both_owe theirs pending (a ∷ arms) (r ∷ rs) q b (inr m) = both_owe theirs pending arms rs q b.1 m

one_of : (results : List Spot) (r q : Spot) → results ≡ r ∷ [] → Among results q → r ≡ q
one_of results r q e m = elim (subst (λ (z : List Spot). Among z q) e m) [ inl k ↦ k | inr k ↦ absurd k ]

oldest_stays : (sub above : Machine_data) (p q : Spot) (makes : Option ℕ) (results : List Spot) → HasMove sub above p makes results → KeepsItsHead p.pending makes → Among results q → oldest q ≡ oldest p
oldest_stays sub above p q makes results (Stops s e t m r) k h = absurd (subst (λ (z : List Spot). Among z q) r h)
oldest_stays sub above p q makes results (PaysSend peer arm place sort s f o v m r) k h =
    ap oldest (sym (one_of results (spot arm.next (without p.pending place) p.above) q r h)) ∙ less p.pending place (λ z. k.other (m ∙ ap Some z)) k.owes
oldest_stays sub above p q makes results (SendsBoth peer arms theirs s f t m b) k h = ap (λ (z : List Act). slice_get z 0) (both_owe theirs p.pending arms results q b h)
oldest_stays sub above p q makes results (Guesses peer other arms theirs place b s f t ne g m r) k h =
    ap oldest (sym (one_of results (owing_send p other b) q r h)) ∙ more p.pending (act.Puts other b.label b.sort) k.owes
oldest_stays sub above p q makes results (SendsAhead peer other arms theirs s f t m r) k h =
    let a = among_map (λ (b : Arm). owing_receive p other b) theirs q (subst (λ (z : List Spot). Among z q) r h) in
    ap oldest (sym a.3) ∙ more p.pending (act.Takes other a.1.label a.1.sort) k.owes
oldest_stays sub above p q makes results (PaysReceive peer arms place label sort arm s f o g v m r) k h =
    ap oldest (sym (one_of results (spot arm.next (without p.pending place) p.above) q r h)) ∙ less p.pending place (λ z. k.other (m ∙ ap Some z)) k.owes
oldest_stays sub above p q makes results (ReceivesAhead peer other arms theirs s f t m r) k h =
    let a = among_map (λ (b : Arm). owing_receive p other b) theirs q (subst (λ (z : List Spot). Among z q) r h) in
    ap oldest (sym a.3) ∙ more p.pending (act.Takes other a.1.label a.1.sort) k.owes

walked : (sub above : Machine_data) (bound : ℕ) (p : Spot) (steps : List WalkStep_data) → IsKeepingWalk sub above bound p steps → (i : ℕ) (s : WalkStep_data) → slice_get steps i ≡ Some s
    → oldest s.spot ≡ oldest p
walked sub above bound p [] w i s e = absurd (none-some s e)
walked sub above bound p (o ∷ later) w zero s e =
    let k = w.0.keeps in
    ap (λ (z : WalkStep_data). oldest z.spot) (sym (same_Some o s e)) ∙ oldest_stays sub above p o.spot k.makes k.results k.move k.keeps k.among
walked sub above bound p (o ∷ later) w (suc i) s e =
    let k = w.0.keeps in
    walked sub above bound o.spot later w.1 i s e ∙ oldest_stays sub above p o.spot k.makes k.results k.move k.keeps k.among

pub never_made : (sub above : Machine_data) (bound node : ℕ) (f : Forgetting_data) → IsForgetting sub above bound node f → (i : ℕ) (s : WalkStep_data) → slice_get f.steps i ≡ Some s
    → slice_get s.spot.pending 0 ≡ slice_get f.spot.pending 0
never_made sub above bound node f h i s e = walked sub above bound f.spot f.steps h.first.is.walk i s e

some_owed : (xs : List Act) → xs ≢ [] → (a : Act) × (slice_get xs 0 ≡ Some a)
some_owed [] ne = absurd (ne refl)
some_owed (x ∷ xs) ne = (x, refl)

pub owed : (sub above : Machine_data) (bound node : ℕ) (f : Forgetting_data) → IsForgetting sub above bound node f → (a : Act) × (slice_get f.spot.pending 0 ≡ Some a)
owed sub above bound node f h = go f.steps h.first.is.some h.first.is.walk
  where
    go : (steps : List WalkStep_data) → steps ≢ [] → IsKeepingWalk sub above bound f.spot steps → (a : Act) × (slice_get f.spot.pending 0 ≡ Some a)
    go [] some w = absurd (some refl)
    go (s ∷ later) some w = some_owed f.spot.pending w.0.keeps.keeps.owes
