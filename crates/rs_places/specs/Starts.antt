-- Public: at which tokens of a document the talks of its protocol and the states of its machines begin.
use Rattle.std.specs.Prelude.{ℕ, List, [], ◌∷◌, codes, map, filter, flat_map, Option, Some, None, ◌==◌, ◌&&◌, Bool, true, false, if◌then◌else◌}
use Rattle.rs_text.specs.Lexemes.{Lexeme}
use Rattle.rs_text.specs.Names.{place_of}
use Rattle.rs_text.specs.Seen.{plain_text}
use Rattle.rs_text.specs.Signs.{Sign, end_word, number, arrow, bang, question, open_brace, close_brace}
use Rattle.rs_text.specs.TokenTests.{is_keyword, is_colon, is_open_brace}
use Rattle.rs_places.specs.declared.tokens.Part.{Part}
use Rattle.rs_places.specs.declared.tokens.Part.TheVariants as part
use Rattle.rs_places.specs.declared.tokens.StateStart.{StateStart}

-- an arrow
abbrev pub is_arrow : Sign → Bool
is_arrow arrow = true
is_arrow _ = false

-- ! or ?
abbrev pub is_mark : Sign → Bool
is_mark bang = true
is_mark question = true
is_mark _ = false

-- a number
abbrev pub is_number : Sign → Bool
is_number (number value) = true
is_number _ = false

-- three tokens that stand one after the other
pub record Trio : Type 0 where
  pub first : Lexeme
  pub second : Lexeme
  pub third : Lexeme

-- these three
abbrev pub trio : Lexeme → Lexeme → Lexeme → Trio
trio a b c = record { first = a; second = b; third = c }

-- all threes of tokens after two tokens
abbrev pub trios_behind : List Lexeme → Lexeme → Lexeme → List Trio
trios_behind [] a b = []
trios_behind (c ∷ ls) a b = trio a b c ∷ trios_behind ls b c

-- all threes of tokens that stand one after the other, in order of text
abbrev pub trios : List Lexeme → List Trio
trios (a ∷ b ∷ ls) = trios_behind ls a b
trios _ = []

-- ---- talks: each has one arrow, which stands after its sender, and no arrow stands anywhere else

-- where the talks begin
abbrev pub talk_offsets : List Trio → List ℕ
talk_offsets ts = map (λ t. t.first.from) (filter (λ t. is_arrow t.second.sign) ts)

-- ---- parts: `machine ROLE :` heads the body of a machine, `table ROLE {` a table, and after `bound NUM {` stand the
-- nodes of a derivation. Three such tokens stand nowhere else in a document. A label has ( after it, the sender of a talk
-- an arrow, and its receiver, which may have : or { after it, has the arrow before it; the role of an act has a mark
-- after it; where a recursion name ends a body, the word after it is the first one of a part; and a number that stands
-- after a word has { after it in a derivation's first line alone

-- the body of the machine of the role with this name
abbrev pub body_of : List (List ℕ) → List ℕ → Part
body_of roles name = numbered (place_of name roles)
  where
    numbered : Option ℕ → Part
    numbered None = part.Other
    numbered (Some role) = part.Body role

-- the table of the machine of the role with this name
abbrev pub table_of : List (List ℕ) → List ℕ → Part
table_of roles name = numbered (place_of name roles)
  where
    numbered : Option ℕ → Part
    numbered None = part.Other
    numbered (Some role) = part.Table role

-- the part after three tokens that stand in the part p, where the second may be the name of a role
abbrev pub part_by_name : List (List ℕ) → Part → Trio → Option (List ℕ) → Part
part_by_name roles p t None = p
part_by_name roles p t (Some name) =
    if is_keyword (codes "machine") t.first.sign && is_colon t.third.sign then body_of roles name
    else if is_keyword (codes "table") t.first.sign && is_open_brace t.third.sign then table_of roles name
    else p

-- the part after three tokens that stand in the part p: the one that they head, or p
abbrev pub part_behind : List (List ℕ) → Part → Trio → Part
part_behind roles p t =
    if is_keyword (codes "bound") t.first.sign && (is_number t.second.sign && is_open_brace t.third.sign) then part.Other
    else part_by_name roles p t (plain_text t.second.sign)

-- three tokens, and the part in which they stand
pub record PlacedTrio : Type 0 where
  pub part : Part
  pub tokens : Trio

-- all threes of tokens with their parts, where the first stands in the part p
abbrev pub placed : List (List ℕ) → List Trio → Part → List PlacedTrio
placed roles [] p = []
placed roles (t ∷ ts) p = record { part = p; tokens = t } ∷ placed roles ts (part_behind roles p t)

-- ---- states

-- a number after it is that of a row
abbrev pub ends_a_row : Sign → Bool
ends_a_row open_brace = true
ends_a_row close_brace = true
ends_a_row end_word = true
ends_a_row _ = false

-- what begins at one of two tokens in a part: in a body each state has one mark, which stands after the peer; in a table
-- the number of a row stands after the first brace or after a row, which ends with a brace or with the word end
abbrev pub state_at : Part → Lexeme → Lexeme → Option StateStart
state_at (part.Body role) first second = if is_mark second.sign then Some (record { role = role; from = first.from }) else None
state_at (part.Table role) first second = if ends_a_row first.sign && is_number second.sign then Some (record { role = role; from = second.from }) else None
state_at part.Other first second = None

-- none or one
abbrev pub if_any : {A : Type 0} → Option A → List A
if_any None = []
if_any (Some x) = x ∷ []

-- where states begin, in order of text
abbrev pub state_starts : List PlacedTrio → List StateStart
state_starts ts = flat_map (λ t. if_any (state_at t.part t.tokens.first t.tokens.second)) ts

-- where the states of this role's machine begin
abbrev pub offsets_of_role : ℕ → List StateStart → List ℕ
offsets_of_role role starts = map (λ s. s.from) (filter (λ s. s.role == role) starts)
