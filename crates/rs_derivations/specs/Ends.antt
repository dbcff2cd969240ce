-- Steps: the reader never takes the end.
use Rattle.std.proofs.Common.{◌≡◌, ℕ, false, Ok, Err, refl, subst}
use Rattle.rs_text.specs.declared.messages.MessagePlace.TheVariants as place
use Rattle.rs_text.specs.Readings.{StopsAtEnd}
use Rattle.rs_text.specs.Signs.{finish}
use Rattle.rs_derivations.specs.declared.formats.Format.{Format}
use Rattle.rs_derivations.specs.declared.formats.Format.TheVariants.{One, Two}
use Rattle.rs_derivations.specs.Data.{Reader_data}
use Rattle.rs_derivations.specs.declared.reading.Mode.{Mode}
use Rattle.rs_derivations.specs.declared.reading.Mode.TheVariants as mode
use Rattle.rs_derivations.specs.Feeding.{Fed, feed_at, feed_behind_acts, feed_no_act, feeding}

-- it is a fault
abbrev IsRefused : Fed → Type 0
IsRefused (Ok d) = ⊥
IsRefused (Err e) = Unit {0}

no_act_refused : (f : Format) (at : ℕ) (r : Reader_data) → IsRefused (feed_no_act f false at r)
no_act_refused One at r = tt
no_act_refused Two at r = tt

behind_acts_refused : (f : Format) (at : ℕ) (r : Reader_data) → IsRefused (feed_behind_acts f finish at r)
behind_acts_refused One at r = tt
behind_acts_refused Two at r = tt

end_refused : (m : Mode) (at : ℕ) (r : Reader_data) → IsRefused (feed_at m finish at r)
end_refused mode.AtAct at r = no_act_refused r.format at r
end_refused mode.BehindAct at r = behind_acts_refused r.format at r
end_refused mode.Derivation at r = tt
end_refused (mode.InMessage p m place.Label) at r = tt
end_refused _ at r = tt

end_stops : (m : Mode) (at : ℕ) (r d : Reader_data) → feed_at m finish at r ≡ Ok d → ⊥
end_stops m at r d h = subst IsRefused h (end_refused m at r)

-- the end is never taken, and nothing after it counts
pub at_end_stops : StopsAtEnd feeding
at_end_stops = record { never = λ at n r d h. end_stops r.mode at r d h; same = λ at n k r. refl }
