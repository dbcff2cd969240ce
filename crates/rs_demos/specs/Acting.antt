-- Public: what the talkers of the demos would send next, and what they become.
use Rattle.std.specs.Prelude.{ℕ, ◌/◌, ◌%◌, ◌^◌, ℤ, pos, ◌+ℤ◌, ◌-ℤ◌, List, [], ◌∷◌, ◌++◌, take, drop, ◌==◌, nat_lt, if◌then◌else◌, Option, Some, None}
use Rattle.rs_demos.specs.declared.parts.TheConstants.{PIECE_BYTES}
use Rattle.rs_model.specs.declared.values.Value.{Value}
use Rattle.rs_model.specs.declared.values.Value.TheVariants as value
use Rattle.rs_core.specs.Actors.{Behaviour}
use Rattle.rs_actors.specs.Talking.{Conduct, by_sorts}
use Rattle.rs_demos.specs.Results.{inverse_bytes, in_64_bits}
use Rattle.rs_demos.specs.declared.actors.DemoTalker.{DemoTalker}
use Rattle.rs_demos.specs.declared.actors.DemoTalker.TheVariants as actor
use Rattle.rs_demos.specs.declared.parts.RingMember.{RingMember}
use Rattle.rs_demos.specs.declared.parts.ButterflyMember.{ButterflyMember}

-- the next piece of bytes that are left: the first 4,096, or all where there are fewer
abbrev pub piece_of : List ℕ → List ℕ
piece_of bytes = take PIECE_BYTES bytes

-- what follows it
abbrev pub behind_piece : List ℕ → List ℕ
behind_piece bytes = drop PIECE_BYTES bytes

-- the bytes, where there are some, else the unit
abbrev pub octets_or_unit : Option (List ℕ) → Value
octets_or_unit None = value.Unit
octets_or_unit (Some bytes) = value.Octets bytes

-- the next piece, where bytes are left
abbrev pub next_piece : List ℕ → Option (List ℕ)
next_piece [] = None
next_piece (b ∷ bytes) = Some (piece_of (b ∷ bytes))

-- what a talker would send next: a source its next piece, or the unit if no bytes are left; a kernel the piece that it
-- holds, or the unit where it holds none; a sink the unit; a member of a ring or of a butterfly the number that it holds
abbrev pub value_at_hand : DemoTalker → Value
value_at_hand (actor.Source bytes) = octets_or_unit (next_piece bytes)
value_at_hand (actor.Kernel k) = octets_or_unit k.piece
value_at_hand (actor.Sink bytes) = value.Unit
value_at_hand (actor.RingMember m) = value.Whole m.last
value_at_hand (actor.ButterflyMember m) = value.Whole m.held

-- what a talker is when it has sent that
abbrev pub after_sending : DemoTalker → DemoTalker
after_sending (actor.Source bytes) = actor.Source (behind_piece bytes)
after_sending (actor.Kernel k) = actor.Kernel (record { piece = None })
after_sending x = x

-- the number of a value of the sort `int`, also if it is a natural number; any other value has none
abbrev pub number_told : Value → Option ℤ
number_told (value.Whole c) = Some c
number_told (value.Natural n) = if nat_lt n (2 ^ 63) then Some (pos n) else None
number_told v = None

-- a member of a ring receives a number: it is the last one, and is added to the sum
abbrev pub ring_told : RingMember → ℤ → RingMember
ring_told m c = record { last = c; sum = in_64_bits (m.sum +ℤ c) }

-- a member of a ring that received a value with this number, if any
abbrev pub ring_behind : RingMember → Option ℤ → RingMember
ring_behind m (Some c) = ring_told m c
ring_behind m None = m

-- a member of a butterfly that holds a receives a number c: if this round's bit of its role is clear, it then holds
-- a + c, and c - a where the bit is set
abbrev pub butterfly_sum : ButterflyMember → ℤ → ℤ
butterfly_sum m c = if m.bits % 2 == 0 then in_64_bits (m.held +ℤ c) else in_64_bits (c -ℤ m.held)

-- a member that receives a number: it has the sum or the difference, and the next bit is that of the next round
abbrev pub butterfly_told : ButterflyMember → ℤ → ButterflyMember
butterfly_told m c = record { bits = m.bits / 2; held = butterfly_sum m c }

-- a member of a butterfly that received a value with this number, if any
abbrev pub butterfly_behind : ButterflyMember → Option ℤ → ButterflyMember
butterfly_behind m (Some c) = butterfly_told m c
butterfly_behind m None = m

-- what a talker becomes when a value comes: a kernel holds the piece, each byte inverted; a sink joins the pieces; a
-- member receives the number
abbrev pub talker_behind_value : DemoTalker → Value → DemoTalker
talker_behind_value (actor.Kernel k) (value.Octets bytes) = actor.Kernel (record { piece = Some (inverse_bytes bytes) })
talker_behind_value (actor.Sink bytes) (value.Octets piece) = actor.Sink (bytes ++ piece)
talker_behind_value (actor.RingMember m) v = actor.RingMember (ring_behind m (number_told v))
talker_behind_value (actor.ButterflyMember m) v = actor.ButterflyMember (butterfly_behind m (number_told v))
talker_behind_value x v = x

-- how the talkers of the demos do
abbrev pub demo_conduct : Conduct DemoTalker
demo_conduct = record {
  at_hand = value_at_hand;
  behind_sending = after_sending;
  behind_value = talker_behind_value;
}

-- how their actors behave: they choose by sorts
abbrev pub by_demo : Behaviour DemoTalker
by_demo = by_sorts demo_conduct
