-- Public: what stands in a text where a talk or a state begins.
use Rattle.std.specs.Prelude.{◌≡◌, ◌⊎◌, ℕ, List, ◌∷◌, ◌++◌, Some, slice_get}
use Rattle.rs_bodies.specs.declared.dialects.Mark.{Mark}
use Rattle.rs_bodies.specs.Dialects.{mark_sign}
use Rattle.rs_model.specs.declared.graph.Role.{Role}
use Rattle.rs_text.specs.Lexemes.{Lexeme}
use Rattle.rs_text.specs.Signs.{Sign, plain, number, arrow}
use Rattle.rs_text.specs.Tokens.{AreTokens}
use Rattle.rs_places.specs.declared.places.Position.{Position}
use Rattle.rs_places.specs.Places.{position_of}
use Rattle.rs_places.specs.Starts.{Trio}

-- the token is the role's name
abbrev pub IsNameOf : List (List ℕ) → Role → Sign → Type 0
IsNameOf roles role sign = (name : List ℕ) × (sign ≡ plain name) × (slice_get roles role.0 ≡ Some name)

-- the three tokens stand in the text, one after the other
pub record StandIn (bytes : List ℕ) (t : Trio) : Type 0 where
  pub before : List Lexeme
  pub others : List Lexeme
  pub tokens : AreTokens bytes 0 (before ++ t.first ∷ t.second ∷ t.third ∷ others)

-- a talk begins at the place: the sender's name, an arrow and the receiver's name
pub record TalkBegins (bytes : List ℕ) (roles : List (List ℕ)) (sender receiver : Role) (position : Position) : Type 0 where
  pub tokens : Trio
  pub stand : StandIn bytes tokens
  pub place : position ≡ position_of bytes tokens.first.from
  pub sender_is : IsNameOf roles sender tokens.first.sign
  pub turn : tokens.second.sign ≡ arrow
  pub receiver_is : IsNameOf roles receiver tokens.third.sign

-- the two tokens stand in the text, one after the other
pub record BothStandIn (bytes : List ℕ) (first second : Lexeme) : Type 0 where
  pub before : List Lexeme
  pub others : List Lexeme
  pub tokens : AreTokens bytes 0 (before ++ first ∷ second ∷ others)

-- what an act of this number with this peer begins with: in a body the peer's name and the mark, in a table the number and
-- the peer's name
abbrev pub BeginsAct : List (List ℕ) → (n : ℕ) → Mark → (peer : Role) → (first second : Sign) → Type 0
BeginsAct roles n m peer first second = (IsNameOf roles peer first × (second ≡ mark_sign m)) ⊎ ((first ≡ number n) × IsNameOf roles peer second)

-- the act begins at the place
pub record ActBegins (bytes : List ℕ) (roles : List (List ℕ)) (n : ℕ) (m : Mark) (peer : Role) (position : Position) : Type 0 where
  pub first : Lexeme
  pub second : Lexeme
  pub stand : BothStandIn bytes first second
  pub place : position ≡ position_of bytes first.from
  pub begins : BeginsAct roles n m peer first.sign second.sign
