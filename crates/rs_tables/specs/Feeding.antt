-- Steps: how the reader goes on, token by token.
use Rattle.std.specs.Prelude.{ℕ, List, [], ◌∷◌, ◌++◌, codes, length, Option, Some, None, Bool, true, false, ◌&&◌, nat_le, ◌==◌, if◌then◌else◌, Result, Ok, Err}
use Rattle.rs_model.specs.Data.{Names_data}
use Rattle.rs_model.specs.declared.graph.Label.{Label}
use Rattle.rs_model.specs.declared.graph.Role.{Role}
use Rattle.rs_model.specs.declared.limits.TheConstants.{MOST_STATES}
use Rattle.rs_model.specs.declared.machines.State.{State}
use Rattle.rs_model.specs.declared.machines.State.TheVariants as state
use Rattle.rs_model.specs.declared.values.Sort.{Sort}
use Rattle.rs_bodies.specs.declared.dialects.Mark.{Mark}
use Rattle.rs_bodies.specs.declared.dialects.Mark.TheVariants as mark
use Rattle.rs_text.specs.declared.faults.TextFault.{TextFault}
use Rattle.rs_text.specs.declared.faults.TextKind.TheVariants as kind
use Rattle.rs_text.specs.declared.faults.Wanted.{Wanted}
use Rattle.rs_text.specs.declared.faults.Wanted.TheVariants as wanted
use Rattle.rs_text.specs.declared.messages.MessagePlace.TheVariants as place
use Rattle.rs_text.specs.Messages.{MessageFed, goes_on, ends, feed_message}
use Rattle.rs_text.specs.Names.{place_of}
use Rattle.rs_text.specs.Readings as readings
use Rattle.rs_text.specs.Readings.{Automaton, fault, expected}
use Rattle.rs_text.specs.declared.reading.Stop.{Stop}
use Rattle.rs_text.specs.Seen.{plain_text}
use Rattle.rs_text.specs.Signs.{Sign, bang, question}
use Rattle.rs_tables.specs.declared.reading.Mode.{Mode}
use Rattle.rs_tables.specs.declared.reading.Mode.TheVariants as mode
use Rattle.rs_tables.specs.Cuts.{row_wanted}
use Rattle.rs_tables.specs.Data.{Reader_data}
use Rattle.rs_text.specs.TokenTests.{is_close_brace, is_comma, is_end, is_keyword, is_open_brace, number_value}
use Rattle.rs_bodies.specs.Dialects.{state_by_mark}

-- ---- which token it is

-- a mark, which tells what the arms of a row do
abbrev pub mark_of : Sign → Option Mark
mark_of bang = Some mark.Puts
mark_of question = Some mark.Takes
mark_of _ = None

-- there are some
abbrev pub is_some_of : {A : Type 0} → List A → Bool
is_some_of [] = false
is_some_of (x ∷ xs) = true

-- ---- steps

-- the reader behind a token, or the fault of the token
abbrev pub Fed : Type 0
Fed = Result Reader_data TextFault

-- before the first token
abbrev pub start_of_table : Names_data → Reader_data
start_of_table old = record { roles = old.roles; labels = old.labels; role = record { 0 = 0 }; states = []; arms = []; mode = mode.Table }

-- the reader goes on in that mode
abbrev pub in_mode : Mode → Reader_data → Fed
in_mode m r = Ok (record r { mode = m })

-- the right token is passed
abbrev pub passes : Bool → Wanted → Mode → ℕ → Reader_data → Fed
passes right w m at r = if right then in_mode m r else expected w at

-- the role of the table
abbrev pub feed_table_role : Option ℕ → ℕ → Reader_data → Fed
feed_table_role None at r = fault kind.UnknownRole at
feed_table_role (Some k) at r = Ok (record r { role = record { 0 = k }; mode = mode.AtBrace })

-- the role of the table, by its name
abbrev pub feed_role : Option (List ℕ) → ℕ → Reader_data → Fed
feed_role None at r = expected wanted.Role at
feed_role (Some word) at r = feed_table_role (place_of word r.roles) at r

-- a further row, by its number, or the end of the table
abbrev pub feed_number : Option ℕ → Bool → ℕ → Reader_data → Fed
feed_number (Some n) closes at r =
    if n == length r.states then (if nat_le MOST_STATES (length r.states) then fault kind.TooManyNodes at else in_mode mode.BehindNumber r) else expected (row_wanted r.states) at
feed_number None closes at r = passes (closes && is_some_of r.states) (row_wanted r.states) mode.Behind at r

-- the row is read
abbrev pub feed_state : State → Reader_data → Fed
feed_state s r = Ok (record r { states = r.states ++ s ∷ []; mode = mode.AtNumber })

-- the peer of the row
abbrev pub feed_peer : Option ℕ → ℕ → Reader_data → Fed
feed_peer None at r = fault kind.UnknownRole at
feed_peer (Some k) at r = in_mode (mode.BehindPeer (record { 0 = k })) r

-- the peer of the row, by its name, or the word end
abbrev pub feed_row : Option (List ℕ) → Bool → ℕ → Reader_data → Fed
feed_row (Some word) is_end at r = feed_peer (place_of word r.roles) at r
feed_row None is_end at r = if is_end then feed_state state.Done r else expected wanted.RoleOrEnd at

-- the mark of the row
abbrev pub feed_mark : Role → Option Mark → ℕ → Reader_data → Fed
feed_mark p None at r = expected wanted.Mark at
feed_mark p (Some m) at r = in_mode (mode.BehindMark p m) r

-- a message of an arm, behind a token
abbrev pub in_message : Role → Mark → Result MessageFed TextFault → Reader_data → Fed
in_message p m (Err f) r = Err f
in_message p m (Ok (goes_on labels x)) r = Ok (record r { labels = labels; mode = mode.InMessage p m x })
in_message p m (Ok (ends l s)) r = in_mode (mode.AtNext p m l s) r

-- the number of the next state, with which the arm is read
abbrev pub feed_next : Role → Mark → Label → Sort → Option ℕ → ℕ → Reader_data → Fed
feed_next p m l s None at r = expected wanted.NextState at
feed_next p m l s (Some n) at r = Ok (record r { arms = r.arms ++ record { label = l; sort = s; next = n } ∷ []; mode = mode.BehindArm p m })

-- the comma before a further arm, or the end of the row
abbrev pub feed_behind_arm : Role → Mark → Bool → Bool → ℕ → Reader_data → Fed
feed_behind_arm p m goes closes at r =
    if goes then in_mode (mode.InMessage p m place.Label) r else if closes then feed_state (state_by_mark m p r.arms) (record r { arms = [] }) else expected wanted.CommaOrCloseBrace at

-- a token in a mode
abbrev pub feed_at : Mode → Sign → ℕ → Reader_data → Fed
feed_at mode.Table t at r = passes (is_keyword (codes "table") t) wanted.PartOrEnd mode.AtRole at r
feed_at mode.AtRole t at r = feed_role (plain_text t) at r
feed_at mode.AtBrace t at r = passes (is_open_brace t) wanted.OpenBrace mode.AtNumber at r
feed_at mode.AtNumber t at r = feed_number (number_value t) (is_close_brace t) at r
feed_at mode.BehindNumber t at r = feed_row (plain_text t) (is_end t) at r
feed_at (mode.BehindPeer p) t at r = feed_mark p (mark_of t) at r
feed_at (mode.BehindMark p m) t at r = passes (is_open_brace t) wanted.OpenBrace (mode.InMessage p m place.Label) at r
feed_at (mode.InMessage p m x) t at r = in_message p m (feed_message x t at r.labels) r
feed_at (mode.AtNext p m l s) t at r = feed_next p m l s (number_value t) at r
feed_at (mode.BehindArm p m) t at r = feed_behind_arm p m (is_comma t) (is_close_brace t) at r
feed_at mode.Behind t at r = expected wanted.PartOrEnd at

-- a token in the mode of the reader
abbrev pub feed_of : Sign → ℕ → Reader_data → Fed
feed_of t at r = feed_at r.mode t at r

-- the mode behind the whole table
abbrev pub is_behind : Mode → Bool
is_behind mode.Behind = true
is_behind _ = false

-- the whole table is read
abbrev pub is_read : Reader_data → Bool
is_read r = is_behind r.mode

-- the reader of tables. What stands behind a token doesn't matter
abbrev pub feeding : Automaton Reader_data
feeding = record { feed = λ t at next r. feed_of t at r; is_read = λ r. is_read r }

-- what was read
abbrev pub names_read : Reader_data → Names_data
names_read r = record { roles = r.roles; labels = r.labels }

-- a method takes one step of the reader; where it stops the names are as before
abbrev pub Feeds : Result (Unit {0}) Stop → Fed → (old new : Reader_data) → Type 0
Feeds result fed old new = readings.Feeds names_read result fed old new
