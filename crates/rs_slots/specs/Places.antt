-- Public: which words and which slots belong to which ring. There is one ring for each ordered pair of different roles.
-- Rings are numbered sender by sender, and each sender's by its receivers.
use Rattle.std.specs.Prelude.{◌≢◌, ℕ, ◌+◌, ◌*◌, ◌-◌, ◌%◌, ◌<◌, nat_lt, if◌then◌else◌}

-- an ordered pair of different roles among so many
pub record IsPair (roles p q : ℕ) : Type 0 where
  pub sender : p < roles
  pub receiver : q < roles
  pub differ : p ≢ q

-- how many ordered pairs of different roles there are
abbrev pub ring_count : ℕ → ℕ
ring_count roles = roles * (roles - 1)

-- the place of receiver q among the roles that aren't p
abbrev pub column : ℕ → ℕ → ℕ
column p q = if nat_lt q p then q else q - 1

-- the number of the ring from p to q
abbrev pub ring_of : ℕ → ℕ → ℕ → ℕ
ring_of roles p q = p * (roles - 1) + column p q

-- each ring has two words: in its head word stands how many parcels its receiver has taken, and in its tail word how
-- many its sender has put
abbrev pub head_word : ℕ → ℕ
head_word ring = 2 * ring

-- its tail word
abbrev pub tail_word : ℕ → ℕ
tail_word ring = 2 * ring + 1

-- each ring has as many slots as its capacity, and uses them in turn: the slot of its parcel number k, from 0
abbrev pub slot_of : ℕ → ℕ → ℕ → ℕ
slot_of capacity ring k = ring * capacity + k % capacity
