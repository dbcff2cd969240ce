-- Public: the picture of a protocol: a sequence diagram of what its canonical text says.
use Rattle.std.specs.Prelude.{◌≡◌, ℕ, suc, ◌+◌, List, [], ◌∷◌, ◌++◌, codes, length, Option}
use Rattle.rs_model.specs.Data.{Names_data, Protocol_data}
use Rattle.rs_model.specs.declared.values.Sort.{Sort}
use Rattle.rs_text.specs.KnownNames.{role_named}
use Rattle.rs_bodies.specs.declared.dialects.Dialect.TheVariants.{Talks}
use Rattle.rs_bodies.specs.Dialects.{BehindRole, sends_to}
use Rattle.rs_bodies.specs.Trees.{Body, ends, again, binds, acts, offers, Branches, one, more}
use Rattle.rs_global.specs.Canonical.{IsCanonicalProtocolTree}
use Rattle.rs_global.specs.Trees.{ProtocolTree}
use Rattle.rs_pictures.specs.Lines.{Says, message, first_case, next_case, begins_loop, goes_back, all_end, closes, Line, at, participant, lines_text}

-- the message of a talk, by the names of its roles
abbrev pub message_of : Names_data → List ℕ → BehindRole Talks → List ℕ → Option Sort → Says
message_of names p (sends_to r) label sort = message (role_named names p) (role_named names r) label sort

-- a body, with the depth of its lines: a talk with one arm is a message, one with several a choice of messages; what a
-- recursion binds stands in a loop
abbrev mutual
  pub body_lines : Names_data → (depth : ℕ) → Body Talks → List Line
  body_lines names depth ends = at depth all_end ∷ []
  body_lines names depth (again name) = at depth (goes_back name) ∷ []
  body_lines names depth (binds name body) = at depth (begins_loop name) ∷ (body_lines names (depth + 1) body ++ at depth closes ∷ [])
  body_lines names depth (acts p t label sort body) = at depth (message_of names p t label sort) ∷ body_lines names depth body
  body_lines names depth (offers p t arms) = case_lines names depth p t first_case arms ++ at depth closes ∷ []

  -- the alternatives of a choice, of which the first one is said to be this case and the others are next ones
  pub case_lines : Names_data → (depth : ℕ) → (p : List ℕ) → BehindRole Talks → (case : List ℕ → Says) → Branches Talks → List Line
  case_lines names depth p t case (one label sort body) = at depth (case label) ∷ at (depth + 1) (message_of names p t label sort) ∷ body_lines names (depth + 1) body
  case_lines names depth p t case (more label sort body arms) =
      at depth (case label) ∷ at (depth + 1) (message_of names p t label sort) ∷ (body_lines names (depth + 1) body ++ case_lines names depth p t next_case arms)

-- the line of a role: its participant, shown by the role's name
abbrev pub participant_text : ℕ → List ℕ → List ℕ
participant_text n name = codes "    participant " ++ participant n ++ codes " as " ++ name ++ codes "\n"

-- the lines of roles, of which the first one has the number n
abbrev pub participants_text : ℕ → List (List ℕ) → List ℕ
participants_text n [] = []
participants_text n (name ∷ names) = participant_text n name ++ participants_text (suc n) names

-- the sequence diagram of a protocol's tree: the participants in role order, and the lines of its body
abbrev pub sequence_text : Names_data → ProtocolTree → List ℕ
sequence_text names tree = codes "sequenceDiagram\n" ++ participants_text 0 names.roles ++ lines_text (length names.roles) (body_lines names 1 tree.body)

-- the picture of a protocol: that of the tree of its canonical text
pub record IsPictureOf (names : Names_data) (protocol : Protocol_data) (text : List ℕ) : Type 0 where
  pub tree : ProtocolTree
  pub canonical : IsCanonicalProtocolTree names protocol tree
  pub whole : text ≡ sequence_text names tree
