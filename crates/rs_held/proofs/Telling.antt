-- The status of a refusal is that of no other answer.
use Rattle.std.proofs.Common.{◌≡◌, List, ℕ, Option, Some, refl, sym, subst}
use Rattle.rs_answers.specs.declared.verdicts.Verdict.{Verdict}
use Rattle.rs_answers.specs.declared.verdicts.Verdict.TheVariants as verdict
use Rattle.rs_model.specs.declared.limits.TheConstants.{DEFAULT_BOUND}
use Rattle.rs_open.specs.declared.opening.OpenRefused.{OpenRefused}
use Rattle.rs_open.specs.declared.opening.OpenRefused.TheVariants as refused
use Rattle.rs_held.specs.Monitors.{WatchTells}
use Rattle.rs_held.specs.Refusals.{IsExplained, RefusesWithReason}
use Rattle.rs_held.specs.Sessions.{IsRefusal, OpenTells, status_of}
use Rattle.rs_held.specs.declared.monitor_handles.HeldMonitor.{HeldMonitor}
use Rattle.rs_held.specs.declared.session_handles.BegunSession.{BegunSession}
use Rattle.rs_held.specs.declared.text_handles.KeptText.{KeptText}

module _ (text : List ℕ) (refusal_old refusal : Option KeptText) where
  pub is_refusal : (kept : KeptText) (answer : List ℕ) (why : Verdict) → refusal ≡ Some kept → kept.bytes.items ≡ answer → (told : OpenRefused) → told ≡ refused.Answered answer why → RefusesWithReason DEFAULT_BOUND text told
      → IsRefusal text refusal (status_of why)
  is_refusal kept answer why is same told answered refuses =
      (kept, why, is, subst (λ (t : List ℕ). IsExplained DEFAULT_BOUND text (record { text = t; verdict = why })) (sym same) (subst (λ (r : OpenRefused). RefusesWithReason DEFAULT_BOUND text r) answered refuses), refl)

  pub refuses_to_open : (asked : ℕ) (old new : Option BegunSession) (why : Verdict) → new ≡ old → IsRefusal text refusal (status_of why) → OpenTells text asked old new refusal_old refusal (status_of why)
  refuses_to_open asked old new verdict.Fine same is = (same, is)
  refuses_to_open asked old new verdict.Refused same is = (same, is)
  refuses_to_open asked old new verdict.Usage same is = (same, is)
  refuses_to_open asked old new verdict.Malformed same is = (same, is)
  refuses_to_open asked old new verdict.Unprojectable same is = (same, is)
  refuses_to_open asked old new verdict.TooLarge same is = (same, is)
  refuses_to_open asked old new verdict.Stopped same is = (same, is)
  refuses_to_open asked old new verdict.Full same is = (same, is)
  refuses_to_open asked old new verdict.RoomTooSmall same is = (same, is)

  pub refuses_to_watch : (name : List ℕ) (old new : Option HeldMonitor) (why : Verdict) → new ≡ old → IsRefusal text refusal (status_of why) → WatchTells text name old new refusal_old refusal (status_of why)
  refuses_to_watch name old new verdict.Fine same is = (same, is)
  refuses_to_watch name old new verdict.Refused same is = (same, is)
  refuses_to_watch name old new verdict.Usage same is = (same, is)
  refuses_to_watch name old new verdict.Malformed same is = (same, is)
  refuses_to_watch name old new verdict.Unprojectable same is = (same, is)
  refuses_to_watch name old new verdict.TooLarge same is = (same, is)
  refuses_to_watch name old new verdict.Stopped same is = (same, is)
  refuses_to_watch name old new verdict.Full same is = (same, is)
  refuses_to_watch name old new verdict.RoomTooSmall same is = (same, is)
