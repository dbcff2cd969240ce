-- Only what is fine has the number 0.
use Rattle.std.proofs.Common.{◌≡◌, ℕ, List, Option, refl, sym, ap, ◌∙◌, inl, inr}
use Rattle.rs_calls.specs.declared.answering.CallAnswer.{CallAnswer}
use Rattle.rs_held.specs.declared.text_handles.KeptText.{KeptText}
use Rattle.rs_numbered.specs.Statuses.{number_of}
use Rattle.rs_numbered.specs.declared.statuses.CallStatus.{CallStatus}
use Rattle.rs_tool.specs.declared.statuses.Status.{Status}
use Rattle.rs_tool.specs.declared.statuses.Status.TheVariants as ended
use Rattle.rumpsteak_c.specs.Answers.{HandOutTells, KeepTells, status_of}

fine_is_zero : (s : Status) → number_of (status_of s) ≡ 0 → s ≡ ended.Fine
fine_is_zero ended.Fine e = refl
fine_is_zero ended.Refused e = absurd (cc (e))
fine_is_zero ended.Usage e = absurd (cc (e))
fine_is_zero ended.Malformed e = absurd (cc (e))
fine_is_zero ended.Unprojectable e = absurd (cc (e))
fine_is_zero ended.TooLarge e = absurd (cc (e))
fine_is_zero ended.ReadFault e = absurd (cc (e))
fine_is_zero ended.WriteFault e = absurd (cc (e))
fine_is_zero ended.NoMemory e = absurd (cc (e))
fine_is_zero ended.Stopped e = absurd (cc (e))
fine_is_zero ended.Full e = absurd (cc (e))
fine_is_zero ended.RoomTooSmall e = absurd (cc (e))

pub kept_fine : (told : CallAnswer) (old new : Option KeptText) (status : CallStatus) → KeepTells told old new status → number_of status ≡ 0 → told.status ≡ ended.Fine
kept_fine told old new status (inl is) zero = fine_is_zero told.status (sym (ap number_of is.3) ∙ zero)
kept_fine told old new status (inr is) zero = absurd (cc (sym (ap number_of is.1) ∙ zero))

pub handed_fine : (told : CallAnswer) (old new : List ℕ) (written : ℕ) (status : CallStatus) → HandOutTells told old new written status → number_of status ≡ 0 → told.status ≡ ended.Fine
handed_fine told old new written status (inl is) zero = fine_is_zero told.status (sym (ap number_of is.1) ∙ zero)
handed_fine told old new written status (inr is) zero = absurd (cc (sym (ap number_of is.1) ∙ zero))
