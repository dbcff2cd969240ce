-- Steps: the reader never takes the end.
use Rattle.std.proofs.Common.{◌≡◌, ℕ, List, [], ◌∷◌, Ok, Err, refl, ap}
use Rattle.rs_model.specs.declared.graph.Role.{Role}
use Rattle.rs_text.specs.declared.messages.MessagePlace.TheVariants as place
use Rattle.rs_text.specs.Lexemes.{Lexeme}
use Rattle.rs_text.specs.Readings.{StopsAtEnd}
use Rattle.rs_text.specs.Signs.{finish}
use Rattle.rs_bodies.specs.declared.dialects.Dialect.{Dialect}
use Rattle.rs_bodies.specs.declared.dialects.Dialect.TheVariants.{Talks, Acts}
use Rattle.rs_bodies.specs.declared.parts.PartReader.{PartReader}
use Rattle.rs_bodies.specs.declared.reading.Frame.{Frame}
use Rattle.rs_bodies.specs.declared.reading.Link.{Link}
use Rattle.rs_bodies.specs.declared.reading.Mode.{Mode}
use Rattle.rs_bodies.specs.declared.reading.Mode.TheVariants as mode
use Rattle.rs_bodies.specs.Data.{Reader_data}
use Rattle.rs_bodies.specs.Feeding.{Fed, feed_at, feed_next, feed_of, feed_turn, feeding}
use Rattle.rs_bodies.specs.PartFeeding.{feeding_part, in_dialect}

end_next : (fs : List Frame) (at : ℕ) (r d : Reader_data) → feed_next fs finish at r ≡ Ok d → ⊥
end_next [] at r d h = cc
end_next (f ∷ fs) at r d h = cc

end_turn : (dia : Dialect) (from : Link) (p : Role) (at : ℕ) (r d : Reader_data) → feed_turn dia from p finish at r ≡ Ok d → ⊥
end_turn Talks from p at r d h = cc
end_turn Acts from p at r d h = cc

end_arms : (dia : Dialect) (act : ℕ) (at : ℕ) (n : Lexeme) (r d : Reader_data) → feed_at dia (mode.AtArms act) finish at n r ≡ Ok d → ⊥
end_arms Talks act at n r d h = cc
end_arms Acts act at n r d h = cc

end_stops : (dia : Dialect) (m : Mode) (at : ℕ) (next : Lexeme) (r d : Reader_data) → feed_at dia m finish at next r ≡ Ok d → ⊥
end_stops dia mode.Next at next r d h = end_next r.frames at r d h
end_stops dia (mode.AtTurn from p) at next r d h = end_turn dia from p at r d h
end_stops dia (mode.AtArms act) at next r d h = end_arms dia act at next r d h
end_stops dia (mode.InMessage act place.Label) at next r d h = cc
end_stops dia _ at next r d h = cc

end_same : (dia : Dialect) (m : Mode) (at : ℕ) (n k : Lexeme) (r : Reader_data) → feed_at dia m finish at n r ≡ feed_at dia m finish at k r
end_same dia mode.Next at n k r = refl
end_same dia _ at n k r = refl

-- the end is never taken, and nothing behind it counts
pub at_end : (dia : Dialect) → StopsAtEnd (feeding dia)
at_end dia = record { never = λ at n r d h. end_stops dia r.mode at n r d h; same = λ at n k r. end_same dia r.mode at n k r }

-- what is taken in a dialect is taken
taken_in : (d : Dialect) (x : Fed) (p : PartReader) → in_dialect d x ≡ Ok p → x ≡ Ok p.reader
taken_in d (Err e) p h = absurd (cc h)
taken_in d (Ok r) p h = let e : record { dialect = d; reader = r } ≡ p = cc in ap (λ (z : PartReader). Ok z.reader) e

-- so it is of the reader of a part
pub part_stops_at_end : StopsAtEnd feeding_part
part_stops_at_end = record {
  never = λ at n p d h. (at_end p.dialect).never at n p.reader d.reader (taken_in p.dialect (feed_of p.dialect finish at n p.reader) d h);
  same = λ at n k p. ap (in_dialect p.dialect) ((at_end p.dialect).same at n k p.reader);
}
