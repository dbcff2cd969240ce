-- Steps: what is found on the way through a text.
use Rattle.std.specs.Prelude.{◌≡◌, ℕ, ◌≤◌, ◌<◌, List, [], ◌∷◌, ◌++◌, Option, Some, None, if◌then◌else◌, length, replicate, slice_set, slice_index_or}
use Rattle.rs_places.specs.declared.places.Position.{Position}
use Rattle.rs_places.specs.declared.tokens.Part.{Part}
use Rattle.rs_places.specs.declared.tokens.Part.TheVariants as part
use Rattle.rs_places.specs.declared.tokens.StateStart.{StateStart}
use Rattle.rs_places.specs.Data.{Places_data}
use Rattle.rs_places.specs.Places.{position_of}
use Rattle.rs_places.specs.Starts.{Trio, is_arrow, part_behind, state_at}

-- the text and its roles, the offset to which lines are counted with its place, the part that it has come to, and the
-- places so far
pub record Finder_data : Type 0 where
  pub bytes : List ℕ
  pub roles : List (List ℕ)
  pub at : ℕ
  pub position : Position
  pub part : Part
  pub places : Places_data

-- before the first token
abbrev pub begin : List ℕ → List (List ℕ) → Finder_data
begin bytes roles = record { bytes = bytes; roles = roles; at = 0; position = position_of bytes 0; part = part.Other; places = record { talks = []; machines = replicate (length roles) [] } }

-- the place is that of its offset, and the other offset lies after it
pub record IsOnWay (f : Finder_data) (offset : ℕ) : Type 0 where
  pub counted : f.position ≡ position_of f.bytes f.at
  pub ahead : f.at ≤ offset
  pub within : offset ≤ length f.bytes

-- lines are counted up to this offset
abbrev pub moved_to : Finder_data → ℕ → Finder_data
moved_to f offset = record f { at = offset; position = position_of f.bytes offset }

-- one more talk
abbrev pub with_talk : Finder_data → ℕ → Finder_data
with_talk f offset = record f { places = record { talks = f.places.talks ++ position_of f.bytes offset ∷ []; machines = f.places.machines } }

-- one more state
abbrev pub with_state : Finder_data → StateStart → Finder_data
with_state f s = record f { places = record { talks = f.places.talks; machines = slice_set f.places.machines s.role (slice_index_or f.places.machines s.role [] ++ position_of f.bytes s.from ∷ []) } }

-- the part is that of one of n roles, or of none
abbrev pub IsOfRole : ℕ → Part → Type 0
IsOfRole count (part.Body role) = role < count
IsOfRole count (part.Table role) = role < count
IsOfRole count part.Other = Unit {0}

-- there is a list of states for each role, and the part is one of theirs
pub record AreOfRoles (f : Finder_data) : Type 0 where
  pub count : length f.places.machines ≡ length f.roles
  pub part : IsOfRole (length f.roles) f.part

-- the talks so far, with one that begins at these tokens
abbrev pub talks_with : List ℕ → Trio → List Position → List Position
talks_with bytes t talks = if is_arrow t.second.sign then talks ++ position_of bytes t.first.from ∷ [] else talks

-- the states so far, with one more
abbrev pub machines_with : List ℕ → Option StateStart → List (List Position) → List (List Position)
machines_with bytes None machines = machines
machines_with bytes (Some s) machines = slice_set machines s.role (slice_index_or machines s.role [] ++ position_of bytes s.from ∷ [])

-- three tokens are taken, the second not before the first: what begins there is noted
pub record Takes (old : Finder_data) (t : Trio) (new : Finder_data) : Type 0 where
  pub bytes : new.bytes ≡ old.bytes
  pub roles : new.roles ≡ old.roles
  pub counted : new.position ≡ position_of new.bytes new.at
  pub ahead : new.at ≤ t.second.from
  pub part : new.part ≡ part_behind old.roles old.part t
  pub talks : new.places.talks ≡ talks_with old.bytes t old.places.talks
  pub machines : new.places.machines ≡ machines_with old.bytes (state_at old.part t.first t.second) old.places.machines
