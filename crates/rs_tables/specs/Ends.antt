-- Steps: the reader never takes the end.
use Rattle.std.proofs.Common.{◌≡◌, ℕ, Ok, Err, refl, subst}
use Rattle.rs_text.specs.declared.messages.MessagePlace.TheVariants as place
use Rattle.rs_text.specs.Readings.{StopsAtEnd}
use Rattle.rs_text.specs.Signs.{finish}
use Rattle.rs_tables.specs.Data.{Reader_data}
use Rattle.rs_tables.specs.declared.reading.Mode.{Mode}
use Rattle.rs_tables.specs.declared.reading.Mode.TheVariants as mode
use Rattle.rs_tables.specs.Feeding.{Fed, feed_at, feeding}

-- it is a fault
abbrev IsRefused : Fed → Type 0
IsRefused (Ok d) = ⊥
IsRefused (Err e) = Unit {0}

end_refused : (m : Mode) (at : ℕ) (r : Reader_data) → IsRefused (feed_at m finish at r)
end_refused mode.Table at r = tt
end_refused (mode.InMessage p m place.Label) at r = tt
end_refused _ at r = tt

end_stops : (m : Mode) (at : ℕ) (r d : Reader_data) → feed_at m finish at r ≡ Ok d → ⊥
end_stops m at r d h = subst IsRefused h (end_refused m at r)

-- the end is never taken, and nothing behind it counts
pub at_end_stops : StopsAtEnd feeding
at_end_stops = record { never = λ at n r d h. end_stops r.mode at r d h; same = λ at n k r. refl }
