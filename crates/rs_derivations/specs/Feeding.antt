-- Steps: how the reader goes on, token by token.
use Rattle.std.specs.Prelude.{ℕ, suc, List, [], ◌∷◌, ◌++◌, codes, length, Option, Some, None, Bool, true, false, ◌&&◌, nat_le, ◌==◌, if◌then◌else◌, Result, Ok, Err}
use Rattle.rs_model.specs.Data.{Names_data}
use Rattle.rs_model.specs.declared.graph.Label.{Label}
use Rattle.rs_model.specs.declared.graph.Role.{Role}
use Rattle.rs_model.specs.declared.limits.TheConstants.{MOST_BOUND, MOST_CANDIDATES}
use Rattle.rs_model.specs.declared.values.Sort.{Sort}
use Rattle.rs_prefix.specs.declared.earliest.ActKind.{ActKind}
use Rattle.rs_prefix.specs.declared.earliest.ActKind.TheVariants as act
use Rattle.rs_derive.specs.Data.{DNode_data}
use Rattle.rs_text.specs.declared.faults.TextFault.{TextFault}
use Rattle.rs_text.specs.declared.faults.TextKind.TheVariants as kind
use Rattle.rs_text.specs.declared.faults.Wanted.{Wanted}
use Rattle.rs_text.specs.declared.faults.Wanted.TheVariants as wanted
use Rattle.rs_text.specs.declared.messages.MessagePlace.TheVariants as place
use Rattle.rs_text.specs.Messages.{MessageFed, goes_on, ends, feed_message}
use Rattle.rs_text.specs.Names.{place_of}
use Rattle.rs_text.specs.Readings as readings
use Rattle.rs_text.specs.Readings.{Automaton, fault, expected}
use Rattle.rs_text.specs.declared.reading.Stop.{Stop}
use Rattle.rs_text.specs.Seen.{plain_text}
use Rattle.rs_text.specs.Signs.{Sign, bang, question}
use Rattle.rs_derivations.specs.declared.formats.Format.{Format}
use Rattle.rs_derivations.specs.declared.formats.Format.TheVariants.{One, Two}
use Rattle.rs_derivations.specs.declared.reading.Mode.{Mode}
use Rattle.rs_derivations.specs.declared.reading.Mode.TheVariants as mode
use Rattle.rs_derivations.specs.Cuts.{node_wanted, act_wanted, next_wanted}
use Rattle.rs_derivations.specs.Data.{Reader_data}
use Rattle.rs_derivations.specs.Derivations.{acts_of_number, act_of_kind}
use Rattle.rs_text.specs.TokenTests.{is_close_brace, is_close_bracket, is_colon, is_comma, is_keyword, is_open_brace, is_open_bracket, number_value}

-- ---- which token it is

-- a mark, which tells the kind of an act
abbrev pub mark_kind : Sign → Option ActKind
mark_kind bang = Some act.Send
mark_kind question = Some act.Receive
mark_kind _ = None

-- there are none
abbrev pub is_none_of : {A : Type 0} → List A → Bool
is_none_of [] = true
is_none_of (x ∷ xs) = false

-- there are some
abbrev pub is_some_of : {A : Type 0} → List A → Bool
is_some_of [] = false
is_some_of (x ∷ xs) = true

-- the number can be a bound
abbrev pub is_bound : ℕ → Bool
is_bound n = nat_le 1 n && nat_le n MOST_BOUND

-- ---- steps

-- the reader after a token, or the fault of the token
abbrev pub Fed : Type 0
Fed = Result Reader_data TextFault

-- a node of which nothing was read
abbrev pub no_node : DNode_data
no_node = record { state = 0; pending = []; above = 0; rank = 0; next = [] }

-- before the first token
abbrev pub start_of_derivation : Names_data → Reader_data
start_of_derivation old = record { roles = old.roles; labels = old.labels; role = record { 0 = 0 }; format = One; bound = 0; lists = []; acts = []; nodes = []; node = no_node; mode = mode.Derivation }

-- the reader goes on in that mode
abbrev pub in_mode : Mode → Reader_data → Fed
in_mode m r = Ok (record r { mode = m })

-- the right token is passed
abbrev pub passes : Bool → Wanted → Mode → ℕ → Reader_data → Fed
passes right w m at r = if right then in_mode m r else expected w at

-- the role of the derivation
abbrev pub feed_derivation_role : Option ℕ → ℕ → Reader_data → Fed
feed_derivation_role None at r = fault kind.UnknownRole at
feed_derivation_role (Some k) at r = Ok (record r { role = record { 0 = k }; mode = mode.BehindRole })

-- the role of the derivation, by its name
abbrev pub feed_role : Option (List ℕ) → ℕ → Reader_data → Fed
feed_role None at r = expected wanted.Role at
feed_role (Some word) at r = feed_derivation_role (place_of word r.roles) at r

-- the bound of format 1, or the format
abbrev pub feed_behind_role : (bound format : Bool) → ℕ → Reader_data → Fed
feed_behind_role bound format at r = if bound then in_mode mode.AtBound r else passes format wanted.BoundOrFormat mode.AtFormatNumber at r

-- the number of the format
abbrev pub feed_format : Option ℕ → ℕ → Reader_data → Fed
feed_format None at r = expected wanted.FormatNumber at
feed_format (Some n) at r = if n == 2 then Ok (record r { format = Two; mode = mode.BehindFormat }) else expected wanted.FormatNumber at

-- the number of the bound
abbrev pub feed_bound : Option ℕ → ℕ → Reader_data → Fed
feed_bound None at r = expected wanted.BoundNumber at
feed_bound (Some n) at r = if is_bound n then Ok (record r { bound = n; mode = mode.AtBrace }) else expected wanted.BoundNumber at

-- the mode after the open brace
abbrev pub behind_brace : Format → Mode
behind_brace One = mode.AtNode
behind_brace Two = mode.AtLists

-- the mode after a token by which the first node of format 2 begins
abbrev pub first_node : Option ℕ → Option Mode
first_node None = None
first_node (Some n) = if n == 0 then Some mode.AtColon else None

-- the mode after a token by which a list or the first node of format 2 begins
abbrev pub beginning : Sign → Option Mode
beginning t = if is_keyword (codes "pending") t then Some mode.AtListNumber else first_node (number_value t)

-- the first list or node of format 2 begins
abbrev pub feed_beginning : Option Mode → ℕ → Reader_data → Fed
feed_beginning None at r = expected wanted.PendingOrNode at
feed_beginning (Some m) at r = in_mode m r

-- the number of a list
abbrev pub feed_list_number : Option ℕ → ℕ → Reader_data → Fed
feed_list_number None at r = expected wanted.PendingNumber at
feed_list_number (Some n) at r = passes (n == suc (length r.lists)) wanted.PendingNumber mode.AtListColon at r

-- a further node, by its number, or the end
abbrev pub feed_node : Option ℕ → Bool → ℕ → Reader_data → Fed
feed_node (Some n) closes at r =
    if n == length r.nodes then (if nat_le MOST_CANDIDATES (length r.nodes) then fault kind.TooManyNodes at else in_mode mode.AtColon r) else expected (node_wanted r.nodes) at
feed_node None closes at r = passes (closes && is_some_of r.nodes) (node_wanted r.nodes) mode.Behind at r

-- the mode after the state
abbrev pub behind_state : Format → Mode
behind_state One = mode.AtActs
behind_state Two = mode.AtWith

-- the number of the machine's state
abbrev pub feed_state : Option ℕ → ℕ → Reader_data → Fed
feed_state None at r = expected wanted.Number at
feed_state (Some n) at r = Ok (record r { node = record r.node { state = n }; mode = behind_state r.format })

-- the number of the node's list
abbrev pub feed_pending_number : Option ℕ → ℕ → Reader_data → Fed
feed_pending_number None at r = expected wanted.PendingNumber at
feed_pending_number (Some n) at r =
    if nat_le n (length r.lists) then Ok (record r { node = record r.node { pending = acts_of_number r.lists n }; mode = mode.AtAboveWord }) else expected wanted.PendingNumber at

-- the acts of the node are read
abbrev pub feed_acts_end : Reader_data → Fed
feed_acts_end r = Ok (record r { acts = []; node = record r.node { pending = r.acts }; mode = mode.AtAbove })

-- a further act, by its peer
abbrev pub feed_peer : Option ℕ → ℕ → Reader_data → Fed
feed_peer None at r = fault kind.UnknownRole at
feed_peer (Some k) at r = if nat_le MOST_BOUND (length r.acts) then fault kind.TooManyActs at else in_mode (mode.AtMark (record { 0 = k })) r

-- no further act: in format 1 that may be the end of no acts
abbrev pub feed_no_act : Format → Bool → ℕ → Reader_data → Fed
feed_no_act One closes at r = if closes && is_none_of r.acts then feed_acts_end r else expected (act_wanted One r.acts) at
feed_no_act Two closes at r = expected wanted.Role at

-- a further act, by its peer's name, or none
abbrev pub feed_act : Option (List ℕ) → Bool → ℕ → Reader_data → Fed
feed_act (Some word) closes at r = feed_peer (place_of word r.roles) at r
feed_act None closes at r = feed_no_act r.format closes at r

-- the mark of an act
abbrev pub feed_mark : Role → Option ActKind → ℕ → Reader_data → Fed
feed_mark p None at r = expected wanted.Mark at
feed_mark p (Some k) at r = in_mode (mode.InMessage p k place.Label) r

-- the act is pending
abbrev pub feed_pending : Role → ActKind → Label → Sort → Reader_data → Fed
feed_pending p m l s r = Ok (record r { acts = r.acts ++ act_of_kind m p l s ∷ []; mode = mode.BehindAct })

-- a message of an act, after a token
abbrev pub in_message : Role → ActKind → Result MessageFed TextFault → Reader_data → Fed
in_message p m (Err f) r = Err f
in_message p m (Ok (goes_on labels x)) r = Ok (record r { labels = labels; mode = mode.InMessage p m x })
in_message p m (Ok (ends l s)) r = feed_pending p m l s r

-- the list is read, and a list or the first node begins
abbrev pub feed_list_end : Option Mode → ℕ → Reader_data → Fed
feed_list_end None at r = expected wanted.CommaPendingOrNode at
feed_list_end (Some m) at r = Ok (record r { lists = r.lists ++ r.acts ∷ []; acts = []; mode = m })

-- what stands after the last act: the end of the acts of a node, or what begins after a list
abbrev pub feed_behind_acts : Format → Sign → ℕ → Reader_data → Fed
feed_behind_acts One t at r = if is_close_bracket t then feed_acts_end r else expected wanted.CommaOrCloseBracket at
feed_behind_acts Two t at r = feed_list_end (beginning t) at r

-- the comma before a further act, or what stands after the last one
abbrev pub feed_behind_act : Sign → ℕ → Reader_data → Fed
feed_behind_act t at r = if is_comma t then in_mode mode.AtAct r else feed_behind_acts r.format t at r

-- the number of the projection's state
abbrev pub feed_above : Option ℕ → ℕ → Reader_data → Fed
feed_above None at r = expected wanted.Number at
feed_above (Some n) at r = Ok (record r { node = record r.node { above = n }; mode = mode.AtRankWord })

-- the number of the rank
abbrev pub feed_rank : Option ℕ → ℕ → Reader_data → Fed
feed_rank None at r = expected wanted.Number at
feed_rank (Some n) at r = Ok (record r { node = record r.node { rank = n }; mode = mode.AtNextWord })

-- the node is read
abbrev pub feed_node_end : Reader_data → Fed
feed_node_end r = Ok (record r { nodes = r.nodes ++ r.node ∷ []; node = no_node; mode = mode.AtNode })

-- a further next, or the end of the node
abbrev pub feed_next : Option ℕ → Bool → ℕ → Reader_data → Fed
feed_next (Some n) closes at r = Ok (record r { node = record r.node { next = r.node.next ++ n ∷ [] }; mode = mode.BehindNext })
feed_next None closes at r = if closes && is_none_of r.node.next then feed_node_end r else expected (next_wanted r.node.next) at

-- the comma before a further next, or the end of the node
abbrev pub feed_behind_next : Bool → Bool → ℕ → Reader_data → Fed
feed_behind_next goes closes at r = if goes then in_mode mode.AtNext r else if closes then feed_node_end r else expected wanted.CommaOrCloseBracket at

-- one token of the head, or of acts
abbrev pub feed_outside : Mode → Sign → ℕ → Reader_data → Fed
feed_outside mode.Derivation t at r = passes (is_keyword (codes "derivation") t) wanted.DerivationOrEnd mode.AtRole at r
feed_outside mode.AtRole t at r = feed_role (plain_text t) at r
feed_outside mode.BehindRole t at r = feed_behind_role (is_keyword (codes "bound") t) (is_keyword (codes "format") t) at r
feed_outside mode.AtFormatNumber t at r = feed_format (number_value t) at r
feed_outside mode.BehindFormat t at r = passes (is_keyword (codes "bound") t) wanted.Bound mode.AtBound at r
feed_outside mode.AtBound t at r = feed_bound (number_value t) at r
feed_outside mode.AtBrace t at r = passes (is_open_brace t) wanted.OpenBrace (behind_brace r.format) at r
feed_outside mode.AtLists t at r = feed_beginning (beginning t) at r
feed_outside mode.AtListNumber t at r = feed_list_number (number_value t) at r
feed_outside mode.AtListColon t at r = passes (is_colon t) wanted.Colon mode.AtAct at r
feed_outside mode.AtActs t at r = passes (is_open_bracket t) wanted.OpenBracket mode.AtAct at r
feed_outside mode.AtAct t at r = feed_act (plain_text t) (is_close_bracket t) at r
feed_outside (mode.AtMark p) t at r = feed_mark p (mark_kind t) at r
feed_outside (mode.InMessage p m x) t at r = in_message p m (feed_message x t at r.labels) r
feed_outside mode.BehindAct t at r = feed_behind_act t at r
feed_outside _ t at r = expected wanted.DerivationOrEnd at

-- one token of a node but its acts, or one of those
abbrev pub feed_at : Mode → Sign → ℕ → Reader_data → Fed
feed_at mode.AtNode t at r = feed_node (number_value t) (is_close_brace t) at r
feed_at mode.AtColon t at r = passes (is_colon t) wanted.Colon mode.AtState at r
feed_at mode.AtState t at r = feed_state (number_value t) at r
feed_at mode.AtWith t at r = passes (is_keyword (codes "with") t) wanted.With mode.AtPendingNumber at r
feed_at mode.AtPendingNumber t at r = feed_pending_number (number_value t) at r
feed_at mode.AtAboveWord t at r = passes (is_keyword (codes "above") t) wanted.Above mode.AtAbove at r
feed_at mode.AtAbove t at r = feed_above (number_value t) at r
feed_at mode.AtRankWord t at r = passes (is_keyword (codes "rank") t) wanted.Rank mode.AtRank at r
feed_at mode.AtRank t at r = feed_rank (number_value t) at r
feed_at mode.AtNextWord t at r = passes (is_keyword (codes "next") t) wanted.Next mode.AtNexts at r
feed_at mode.AtNexts t at r = passes (is_open_bracket t) wanted.OpenBracket mode.AtNext at r
feed_at mode.AtNext t at r = feed_next (number_value t) (is_close_bracket t) at r
feed_at mode.BehindNext t at r = feed_behind_next (is_comma t) (is_close_bracket t) at r
feed_at m t at r = feed_outside m t at r

-- a token in the mode of the reader
abbrev pub feed_of : Sign → ℕ → Reader_data → Fed
feed_of t at r = feed_at r.mode t at r

-- the mode after the whole derivation
abbrev pub is_behind : Mode → Bool
is_behind mode.Behind = true
is_behind _ = false

-- the whole derivation is read
abbrev pub is_read : Reader_data → Bool
is_read r = is_behind r.mode

-- the reader of derivations. What stands after a token doesn't matter
abbrev pub feeding : Automaton Reader_data
feeding = record { feed = λ t at next r. feed_of t at r; is_read = λ r. is_read r }

-- what was read
abbrev pub names_read : Reader_data → Names_data
names_read r = record { roles = r.roles; labels = r.labels }

-- a method takes one step of the reader; where it stops the names are as before
abbrev pub Feeds : Result (Unit {0}) Stop → Fed → (old new : Reader_data) → Type 0
Feeds result fed old new = readings.Feeds names_read result fed old new
