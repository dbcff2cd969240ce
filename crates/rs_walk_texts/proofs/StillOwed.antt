-- The talks that are owed after a walk are talks that it passes.
use Rattle.std.proofs.Common.{◌≡◌, ◌⊎◌, inl, inr, ℕ, zero, suc, List, [], ◌∷◌, Option, Some, None, length, slice_get, ap}
use Rattle.std.proofs.lemmas.Option.{none-some}
use Rattle.std.specs.List.{remove}
use Rattle.rs_derive.specs.Moves.{Spot}
use Rattle.rs_derive.specs.declared.rules.Rule.{Rule}
use Rattle.rs_derive.specs.declared.rules.Rule.TheVariants.{Stops, Pays, SendsBoth, Guesses, Follows}
use Rattle.rs_explain.specs.Walks.{WalkStep_data}
use Rattle.rs_model.proofs.Lists.{either_at}
use Rattle.rs_walk_texts.specs.Data.{WalkSource_data}
use Rattle.rs_walk_texts.specs.Owing.{owed_after, owed_along, talks_owed}
use Rattle.rs_walk_texts.specs.Walks.{rule_of, talks_along}
use Rattle.rs_walk_texts.specs.declared.passed.TalkArm.{TalkArm}

-- it stands at some place
abbrev StandsIn : {A : Type 0} → List A → A → Type 0
StandsIn xs x = (k : ℕ) × (slice_get xs k ≡ Some x)

-- what is left when one is taken away was there
was_there : {A : Type 0} (xs : List A) (place k : ℕ) (x : A) → slice_get (remove xs place) k ≡ Some x → StandsIn xs x
was_there [] zero k x e = absurd (none-some x e)
was_there [] (suc place) k x e = absurd (none-some x e)
was_there (y ∷ xs) zero k x e = (suc k, e)
was_there (y ∷ xs) (suc place) zero x e = (zero, e)
was_there (y ∷ xs) (suc place) (suc k) x e = let w = was_there xs place k x e in (suc w.0, w.1)

-- what is owed after a step was owed before, or is the talk that the step passes
after_step : (rule : Option Rule) (talk : Option TalkArm) (owed : List (Option TalkArm)) (k : ℕ) (t : Option TalkArm) → slice_get (owed_after rule talk owed) k ≡ Some t
    → StandsIn owed t ⊎ (talk ≡ t)
after_step (Some (Pays place arm)) talk owed k t e = inl (was_there owed place k t e)
after_step (Some (Guesses peer)) talk owed k t e = pushed (either_at owed talk k t e)
  where
    pushed : (slice_get owed k ≡ Some t) ⊎ ((k ≡ length owed) × (talk ≡ t)) → StandsIn owed t ⊎ (talk ≡ t)
    pushed (inl h) = inl (k, h)
    pushed (inr h) = inr h.1
after_step (Some (Follows peer)) talk owed k t e = pushed (either_at owed talk k t e)
  where
    pushed : (slice_get owed k ≡ Some t) ⊎ ((k ≡ length owed) × (talk ≡ t)) → StandsIn owed t ⊎ (talk ≡ t)
    pushed (inl h) = inl (k, h)
    pushed (inr h) = inr h.1
after_step (Some Stops) talk owed k t e = inl (k, e)
after_step (Some SendsBoth) talk owed k t e = inl (k, e)
after_step None talk owed k t e = inl (k, e)

along : (source : WalkSource_data) (p : Spot) (steps : List WalkStep_data) (talks owed : List (Option TalkArm)) (k : ℕ) (t : Option TalkArm) → slice_get (owed_along source p steps talks owed) k ≡ Some t
    → StandsIn owed t ⊎ StandsIn talks t
along source p [] talks owed k t e = inl (k, e)
along source p (s ∷ later) [] owed k t e = inl (k, e)
along source p (s ∷ later) (u ∷ talks) owed k t e = before (along source s.spot later talks (owed_after (rule_of source p) u owed) k t e)
  where
    at_once : StandsIn owed t ⊎ (u ≡ t) → StandsIn owed t ⊎ StandsIn (u ∷ talks) t
    at_once (inl h) = inl h
    at_once (inr h) = inr (zero, ap (λ (z : Option TalkArm). Some z) h)

    before : StandsIn (owed_after (rule_of source p) u owed) t ⊎ StandsIn talks t → StandsIn owed t ⊎ StandsIn (u ∷ talks) t
    before (inl h) = at_once (after_step (rule_of source p) u owed h.0 t h.1)
    before (inr h) = inr (suc h.0, h.1)

pub owed_was_passed : (source : WalkSource_data) (p : Spot) (steps : List WalkStep_data) (place : ℕ) (talk : Option TalkArm) → slice_get (talks_owed source p steps) place ≡ Some talk
    → (k : ℕ) × (slice_get (talks_along source p steps) k ≡ Some talk)
owed_was_passed source p steps place talk e = elim (along source p steps (talks_along source p steps) [] place talk e) [
  | inl h ↦ absurd (none-some talk h.1)
  | inr h ↦ h
]
