-- Public: the words and slots of the ring from one role to another.
use Rattle.std.specs.Prelude.{ℕ}
use Rattle.rs_slots.specs.Places.{ring_of, head_word, tail_word, slot_of}

-- the head word of the ring from p to q
abbrev pub head_word_of : ℕ → ℕ → ℕ → ℕ
head_word_of roles p q = head_word (ring_of roles p q)

-- its tail word
abbrev pub tail_of : ℕ → ℕ → ℕ → ℕ
tail_of roles p q = tail_word (ring_of roles p q)

-- the slot of the ring's parcel number k, from 0
abbrev pub slot_place : ℕ → ℕ → ℕ → ℕ → ℕ → ℕ
slot_place roles capacity p q k = slot_of capacity (ring_of roles p q) k
