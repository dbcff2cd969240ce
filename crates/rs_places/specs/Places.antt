-- Public: the places of a document's talks and states.
use Rattle.std.specs.Prelude.{◌≡◌, ℕ, ◌<◌, List, map, length, slice_get, Some}
use Rattle.rs_text.specs.Lexemes.{Lexeme}
use Rattle.rs_text.specs.Places.{line_of, column_of}
use Rattle.rs_text.specs.Tokens.{AreTokens}
use Rattle.rs_places.specs.declared.places.Position.{Position}
use Rattle.rs_places.specs.declared.tokens.Part.TheVariants as part
use Rattle.rs_places.specs.Data.{Places_data}
use Rattle.rs_places.specs.Starts.{trios, talk_offsets, placed, state_starts, offsets_of_role}

-- the line and the column of an offset
abbrev pub position_of : List ℕ → ℕ → Position
position_of bytes offset = record { line = line_of bytes offset; column = column_of bytes offset }

-- where the talks begin
abbrev pub talk_places : List ℕ → List Lexeme → List Position
talk_places bytes lexemes = map (position_of bytes) (talk_offsets (trios lexemes))

-- where the states of the role's own machine begin
abbrev pub state_places : List ℕ → List (List ℕ) → List Lexeme → (role : ℕ) → List Position
state_places bytes roles lexemes role = map (position_of bytes) (offsets_of_role role (state_starts (placed roles (trios lexemes) part.Other)))

-- the places of the talks and the states in a text with these roles
pub record ArePlaces (bytes : List ℕ) (roles : List (List ℕ)) (places : Places_data) : Type 0 where
  pub lexemes : List Lexeme
  pub tokens : AreTokens bytes 0 lexemes
  pub talks : places.talks ≡ talk_places bytes lexemes
  pub count : length places.machines ≡ length roles
  pub states : (role : ℕ) → role < length roles → slice_get places.machines role ≡ Some (state_places bytes roles lexemes role)
