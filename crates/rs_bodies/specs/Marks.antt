-- Steps: marks that stand directly behind a token, in modes that want just them.
use Rattle.std.specs.Prelude.{◌≡◌, ℕ, ◌+◌, List, drop}
use Rattle.rs_model.specs.declared.graph.Label.{Label}
use Rattle.rs_model.specs.declared.values.Sort.{Sort}
use Rattle.rs_text.specs.declared.messages.MessagePlace.TheVariants as place
use Rattle.rs_bodies.specs.declared.dialects.Dialect.{Dialect}
use Rattle.rs_bodies.specs.declared.dialects.Mark.{Mark}
use Rattle.rs_bodies.specs.declared.dialects.Mark.TheVariants as mark
use Rattle.rs_bodies.specs.declared.reading.Link.TheVariants as link
use Rattle.rs_bodies.specs.declared.reading.Mode.{Mode}
use Rattle.rs_bodies.specs.declared.reading.Mode.TheVariants as mode
use Rattle.rs_bodies.specs.Data.{Reader_data}
use Rattle.rs_bodies.specs.Feeding.{feeding}
use Rattle.rs_bodies.specs.Turns.{Passes}

-- marks of that size in front of these bytes lead a reader from one mode to the other, and change nothing else
abbrev pub MarksLead : Dialect → (mode : Mode) → List ℕ → (behind : Mode) → (size : ℕ) → Type 0
MarksLead d mode here behind size = (bytes : List ℕ) → (at : ℕ) → (r : Reader_data) → drop at bytes ≡ here → r.mode ≡ mode → Passes (feeding d) bytes at r (at + size) (record r { mode = behind })

-- a sort, or none, with the marks behind it: of that size, in front of these bytes
abbrev pub SortLeads : List ℕ → Sort → (size : ℕ) → Type 0
SortLeads here s size = (d : Dialect) → (act : ℕ) → (label : Label) → MarksLead d (mode.InMessage act (place.Sort label)) here (mode.Body (link.OfArm act label s)) size

-- the byte of the mark of an act
abbrev pub byte_of : Mark → ℕ
byte_of mark.Puts = 33
byte_of mark.Takes = 63
