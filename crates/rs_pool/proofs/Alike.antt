-- Two runs by workers are alike, and so is one on one thread.
use Rattle.std.proofs.Common.{◌≡◌, ℕ, zero, suc, ◌<◌, List, [], ◌∷◌, length, slice_get, Some, refl, sym, ap, subst, ◌∙◌, arith}
use Rattle.std.proofs.lemmas.Option.{same_Some}
use Rattle.rs_core.specs.Actors.{Behaviour, ChoosesWell}
use Rattle.rs_core.specs.Determined.{EndsWith, IsSafePlain, WasStopped}
use Rattle.rs_core.specs.Histories.{History, transcript_of}
use Rattle.rs_core.specs.Plain as plain
use Rattle.rs_core.specs.Plain.{Ending, IsStoppedEventually, Moment}
use Rattle.rs_core.specs.Runs.{EndingShows, HasActors, HasTranscripts}
use Rattle.rs_core.specs.declared.runs.Outcome.{Outcome}
use Rattle.rs_core.specs.declared.runs.Outcome.TheVariants as outcome
use Rattle.rs_core.specs.declared.transcripts.Entry.{Entry}
use Rattle.rs_model.specs.Data.{Machine_data}
use Rattle.rs_model.specs.declared.graph.Role.{Role}
use Rattle.rs_core.proofs.Determined.{determined_capacity, determined_capacity_stopped}
use Rattle.rs_pool.specs.Pool.{AgreesWithPlain, ComeToTheSame}

same_lists : {A : Type 0} (n : ℕ) (xs ys : List A) → length xs ≡ n → length ys ≡ n → ((p : ℕ) → p < n → slice_get xs p ≡ slice_get ys p) → xs ≡ ys
same_lists n [] [] a b same = refl
same_lists n [] (y ∷ ys) a b same = absurd (omega (arith, a, b))
same_lists n (x ∷ xs) [] a b same = absurd (omega (arith, a, b))
same_lists zero (x ∷ xs) (y ∷ ys) a b same = absurd (omega (arith, a))
same_lists (suc n) (x ∷ xs) (y ∷ ys) a b same =
    let first : x ≡ y = same_Some x y (same 0 (omega arith)) in
    let rest : xs ≡ ys = same_lists n xs ys (omega (arith, a)) (omega (arith, b)) (λ p l. same (suc p) (omega arith)) in
    (λ i. first i ∷ rest i)

module _ {A : Type 0} (b : Behaviour A) where
  both_shown : (roles : ℕ) (o : Ending A) (one other : List (List Entry)) (left right : List A) → EndingShows roles o (outcome.Ended one) left → EndingShows roles o (outcome.Ended other) right
      → (one ≡ other) × (left ≡ right)
  both_shown roles (plain.Ended k) one other left right x y = (
    same_lists roles one other x.0.many y.0.many (λ p l. x.0.each p l ∙ sym (y.0.each p l)),
    same_lists roles left right x.1.many y.1.many (λ p l. x.1.each p l ∙ sym (y.1.each p l)),
  )
  both_shown roles (plain.Stopped p k) one other left right x y = absurd x
  both_shown roles (plain.Stuck k) one other left right x y = absurd x

  shown_stopped : (roles : ℕ) (o : Ending A) (one : List (List Entry)) (left : List A) → EndingShows roles o (outcome.Ended one) left → WasStopped o → ⊥
  shown_stopped roles (plain.Ended k) one left x y = y
  shown_stopped roles (plain.Stopped p k) one left x y = x
  shown_stopped roles (plain.Stuck k) one left x y = x

  pub both_ended : (machines : List Machine_data) (given : ℕ → A) (limit : ℕ) (one other : List (List Entry)) (left right : List A) → AgreesWithPlain machines b given limit (outcome.Ended one) left
      → AgreesWithPlain machines b given limit (outcome.Ended other) right → (one ≡ other) × (left ≡ right)
  both_ended machines given limit one other left right x y = both_shown (length machines) x.some.0 one other left right (x.each x.some.0 x.some.1) (y.each x.some.0 x.some.1)

  pub not_both : (machines : List Machine_data) (given : ℕ → A) (limit : ℕ) (one : List (List Entry)) (role : Role) (left right : List A)
      → AgreesWithPlain machines b given limit (outcome.Ended one) left
      → AgreesWithPlain machines b given limit (outcome.Stopped role) right → ⊥
  not_both machines given limit one role left right x y = shown_stopped (length machines) x.some.0 one left (x.each x.some.0 x.some.1) (y.0.each x.some.0 x.some.1)

  -- what a run has come to, an outcome with the same histories and actors shows too
  shown_too : (machines : List Machine_data) (k : Moment A) (transcripts : List (List Entry)) (left : List A) → HasTranscripts (length machines) k.history transcripts
      → HasActors (length machines) k.actor left → (e : Ending A) → EndsWith machines k.history k.actor e → EndingShows (length machines) e (outcome.Ended transcripts) left
  shown_too machines k transcripts left ts xs (plain.Ended m) same = (
    record { many = ts.many; each = λ p l. ts.each p l ∙ ap (λ (h : History). Some (transcript_of h)) (sym (same p l).0) },
    record { many = xs.many; each = λ p l. xs.each p l ∙ ap Some (sym (same p l).1) },
  )
  shown_too machines k transcripts left ts xs (plain.Stopped p m) same = absurd same
  shown_too machines k transcripts left ts xs (plain.Stuck m) same = absurd same

  module _ (well : ChoosesWell b) where
    -- the plain run with queues of a capacity agrees with the one over unbounded queues
    pub alone_agrees : (machines : List Machine_data) (given : ℕ → A) (limit capacity : ℕ) (o : Ending A) (out : Outcome) (left : List A) → IsSafePlain machines b given limit (Some capacity) o
        → EndingShows (length machines) o out left → AgreesWithPlain machines b given limit out left
    alone_agrees machines given limit capacity (plain.Ended k) (outcome.Ended transcripts) left is shows =
        let d = determined_capacity b well machines given limit (Some capacity) k is.safe is.well_formed is.plain in
        record { some = d.some; each = λ e p. shown_too machines k transcripts left shows.0 shows.1 e (d.each e p) }
    alone_agrees machines given limit capacity (plain.Stopped p k) (outcome.Stopped role) left is shows =
        let d = determined_capacity_stopped b well machines given limit (Some capacity) p k is.safe is.well_formed is.plain in
        (d.0, subst (λ (r : ℕ). IsStoppedEventually machines b given limit r) shows.0 d.1)
    alone_agrees machines given limit capacity (plain.Ended k) (outcome.Stopped role) left is shows = absurd shows
    alone_agrees machines given limit capacity (plain.Stopped p k) (outcome.Ended transcripts) left is shows = absurd shows
    alone_agrees machines given limit capacity (plain.Stuck k) (outcome.Ended transcripts) left is shows = absurd shows
    alone_agrees machines given limit capacity (plain.Stuck k) (outcome.Stopped role) left is shows = absurd shows

    same_come : (machines : List Machine_data) (given : ℕ → A) (limit : ℕ) (one other : Outcome) (left right : List A) → AgreesWithPlain machines b given limit one left
        → AgreesWithPlain machines b given limit other right → ComeToTheSame one left other right
    same_come machines given limit (outcome.Ended one) (outcome.Ended other) left right x y = both_ended machines given limit one other left right x y
    same_come machines given limit (outcome.Ended one) (outcome.Stopped role) left right x y = not_both machines given limit one role left right x y
    same_come machines given limit (outcome.Stopped role) (outcome.Ended other) left right x y = not_both machines given limit other role right left y x
    same_come machines given limit (outcome.Stopped role) (outcome.Stopped another) left right x y = tt

    pub alone_is_alike : (machines : List Machine_data) (given : ℕ → A) (limit capacity : ℕ) (o : Ending A) (one other : Outcome) (left right : List A)
        → IsSafePlain machines b given limit (Some capacity) o → EndingShows (length machines) o one left → AgreesWithPlain machines b given limit other right
        → ComeToTheSame one left other right
    alone_is_alike machines given limit capacity o one other left right is shows agrees =
        same_come machines given limit one other left right (alone_agrees machines given limit capacity o one left is shows) agrees
