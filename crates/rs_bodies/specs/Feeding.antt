-- Public: the reader, token by token.
use Rattle.std.specs.Prelude.{◌≡◌, ◌≤◌, ℕ, suc, ◌-◌, List, [], ◌∷◌, ◌++◌, codes, length, drop, slice_get, Option, Some, None, Result, Ok, Err, Bool, true, false, if◌then◌else◌, nat_lt, nat_le}
use Rattle.rs_model.specs.declared.limits.TheConstants.{MOST_NESTING, MOST_ROLES}
use Rattle.rs_model.specs.declared.graph.Role.{Role}
use Rattle.rs_model.specs.declared.graph.Label.{Label}
use Rattle.rs_model.specs.declared.values.Sort.{Sort}
use Rattle.rs_text.specs.declared.faults.TextFault.{TextFault}
use Rattle.rs_text.specs.declared.faults.TextKind.TheVariants as kind
use Rattle.rs_text.specs.declared.faults.Wanted.TheVariants as wanted
use Rattle.rs_text.specs.Faults.{kind_of}
use Rattle.rs_text.specs.declared.messages.MessagePlace.TheVariants as place
use Rattle.rs_text.specs.Messages.{MessageFed, goes_on, ends, feed_label, feed_message}
use Rattle.rs_model.specs.Data.{Names_data}
use Rattle.rs_text.specs.Lexemes.{Lexeme, signs_of}
use Rattle.rs_text.specs.Lexing.{Lexed}
use Rattle.rs_text.specs.Names.{place_of, is_among, nearest_binding, names_with}
use Rattle.rs_text.specs.Seen.{plain_text, word_text, is_text}
use Rattle.rs_bodies.specs.declared.dialects.Mark.TheVariants as mark
use Rattle.rs_text.specs.Signs.{Sign, rec_word, end_word, plain, arrow, bang, question, colon, dot, comma, open_brace, close_brace, broken}
use Rattle.rs_bodies.specs.declared.dialects.Dialect.{Dialect}
use Rattle.rs_bodies.specs.declared.dialects.Dialect.TheVariants.{Talks, Acts}
use Rattle.rs_bodies.specs.declared.dialects.Head.{Head}
use Rattle.rs_bodies.specs.declared.dialects.Head.TheVariants as head
use Rattle.rs_bodies.specs.Dialects.{turns, most}
use Rattle.rs_bodies.specs.declared.reading.Frame.{Frame}
use Rattle.rs_bodies.specs.declared.reading.Link.{Link}
use Rattle.rs_bodies.specs.declared.reading.Link.TheVariants as link
use Rattle.rs_bodies.specs.declared.reading.Mode.{Mode}
use Rattle.rs_bodies.specs.declared.reading.Mode.TheVariants as mode
use Rattle.rs_text.specs.declared.reading.Stop.{Stop}
use Rattle.rs_text.specs.declared.reading.Stop.TheVariants as stops
use Rattle.rs_bodies.specs.Data.{Reader_data, Draft_data, Spelling_data}
use Rattle.rs_text.specs.Readings as readings
use Rattle.rs_text.specs.Readings.{Automaton, Reading, fault, expected, read_all, ReadsBy, StopsBy, last_of}
use Rattle.rs_bodies.specs.Drafts.{with_arm, spelling_read, names_read}
use Rattle.rs_bodies.specs.Faults.{labels_among}

-- the reader behind a token, or the fault of the token
abbrev pub Fed : Type 0
Fed = Result Reader_data TextFault

-- the roles that are there before a part
abbrev pub first_roles : Dialect → Names_data → List (List ℕ)
first_roles Talks old = []
first_roles Acts old = old.roles

-- where the reading of a part begins
abbrev pub first_mode : Dialect → Mode
first_mode Talks = mode.Roles
first_mode Acts = mode.Machine

-- nothing was met yet
abbrev pub start_of_part : Dialect → Names_data → Reader_data
start_of_part d old =
    record { roles = first_roles d old; labels = old.labels; role = record { 0 = 0 }; drafts = []; start = None; ended = false; bound = []; depth = 0; frames = []; mode = first_mode d }

-- the reader goes on in that mode
abbrev pub in_mode : Mode → Reader_data → Fed
in_mode m r = Ok (record r { mode = m })

-- what the body that begins here leads to
abbrev pub start_behind_link : Link → Option ℕ → Option ℕ → Option ℕ
start_behind_link link.Start target start = target
start_behind_link (link.OfArm act label sort) target start = start

-- the heads with the arm whose body begins here
abbrev pub drafts_behind_link : Link → Option ℕ → List Draft_data → List Draft_data
drafts_behind_link link.Start target drafts = drafts
drafts_behind_link (link.OfArm act label sort) target drafts = with_arm (record { label = label; sort = sort; next = target }) (slice_get drafts act) drafts act

-- the reader where a body begins, of an arm or of the whole part
abbrev pub reader_behind_link : Link → Option ℕ → Reader_data → Reader_data
reader_behind_link from target r = record r { start = start_behind_link from target r.start; drafts = drafts_behind_link from target r.drafts }

-- the roles line
abbrev pub feed_roles : Sign → ℕ → Reader_data → Fed
feed_roles t at r = if is_text (codes "roles") (plain_text t) then in_mode mode.FirstRole r else expected wanted.Roles at

-- a role's name on the roles line, which none before it has
abbrev pub new_role : Mode → Option (List ℕ) → ℕ → Reader_data → Fed
new_role after None at r = expected wanted.Role at
new_role after (Some word) at r =
    if is_among word r.roles then fault kind.NameTwice at
    else if nat_le MOST_ROLES (length r.roles) then fault kind.TooManyRoles at
    else Ok (record r { roles = r.roles ++ word ∷ []; mode = after })

-- the comma behind the first role
abbrev pub feed_first_comma : Sign → ℕ → Reader_data → Fed
feed_first_comma comma at r = in_mode mode.FurtherRole r
feed_first_comma _ at r = expected wanted.Comma at

-- the comma before a further role, or the word protocol
abbrev pub feed_line : Sign → ℕ → Reader_data → Fed
feed_line comma at r = in_mode mode.FurtherRole r
feed_line t at r = if is_text (codes "protocol") (plain_text t) then in_mode (mode.Body link.Start) r else expected wanted.CommaOrProtocol at

-- the machine's role
abbrev pub feed_machine : Sign → ℕ → Reader_data → Fed
feed_machine t at r = if is_text (codes "machine") (plain_text t) then in_mode mode.AtRole r else expected wanted.PartOrEnd at

-- the role of the part, where there is such a role
abbrev pub role_by : Option ℕ → ℕ → Reader_data → Fed
role_by None at r = fault kind.UnknownRole at
role_by (Some k) at r = Ok (record r { role = record { 0 = k }; mode = mode.AtColon })

-- the role of the part, by its name
abbrev pub feed_role : Option (List ℕ) → ℕ → Reader_data → Fed
feed_role None at r = expected wanted.Role at
feed_role (Some word) at r = role_by (place_of word r.roles) at r

-- the colon behind the role
abbrev pub feed_colon : Sign → ℕ → Reader_data → Fed
feed_colon colon at r = in_mode (mode.Body link.Start) r
feed_colon _ at r = expected wanted.Colon at

-- a body
abbrev pub feed_head_role : Dialect → Option ℕ → Link → ℕ → Reader_data → Fed
feed_head_role d None from at r = fault kind.UnknownRole at
feed_head_role d (Some k) from at r = if nat_le (most d) (length r.drafts) then fault kind.TooManyNodes at else in_mode (mode.AtTurn from (record { 0 = k })) r

-- a recursion name that is bound to act k, or to none
abbrev pub feed_bound_name : Option ℕ → Link → ℕ → Reader_data → Fed
feed_bound_name None from at r = fault kind.UnboundName at
feed_bound_name (Some k) from at r = if nat_lt k (length r.drafts) then in_mode mode.Next (reader_behind_link from (Some k) r) else fault kind.Unguarded at

-- a word is a role or a name by the token behind it
abbrev pub feed_word : Dialect → Link → List ℕ → Sign → (at next : ℕ) → Reader_data → Fed
feed_word d from word (broken k) at next r = fault (kind_of k) next
feed_word d from word t at next r = if turns d t then feed_head_role d (place_of word r.roles) from at r else feed_bound_name (nearest_binding word r.bound) from at r

-- the word rec
abbrev pub feed_rec : Link → ℕ → Reader_data → Fed
feed_rec from at r = if nat_le MOST_NESTING r.depth then fault kind.TooDeep at else Ok (record r { depth = suc r.depth; mode = mode.RecName from })

-- the first token of a body
abbrev pub feed_body : Dialect → Link → Sign → ℕ → Lexeme → Reader_data → Fed
feed_body d from rec_word at next r = feed_rec from at r
feed_body d from end_word at next r = Ok (record (reader_behind_link from None r) { ended = true; mode = mode.Next })
feed_body d from (plain word) at next r = feed_word d from word next.sign at next.from r
feed_body d from _ at next r = expected wanted.Body at

-- the name behind a rec
abbrev pub feed_rec_name : Link → Option (List ℕ) → ℕ → Reader_data → Fed
feed_rec_name from None at r = expected wanted.Name at
feed_rec_name from (Some word) at r = Ok (record r { bound = (word, length r.drafts) ∷ r.bound; mode = mode.RecDot from })

-- the dot behind this name
abbrev pub feed_rec_dot : Link → Sign → ℕ → Reader_data → Fed
feed_rec_dot from dot at r = in_mode (mode.Body from) r
feed_rec_dot from _ at r = expected wanted.Dot at

-- the new head
abbrev pub reader_at_head : Link → Head → Reader_data → Reader_data
reader_at_head from h r =
    let l : Reader_data = reader_behind_link from (Some (length r.drafts)) r in
    record l { drafts = l.drafts ++ record { head = h; arms = [] } ∷ []; mode = mode.AtArms (length r.drafts) }

-- a new head, where there is room for one more
abbrev pub feed_new_head : Dialect → Link → Head → ℕ → Reader_data → Fed
feed_new_head d from h at r = if nat_le (most d) (length r.drafts) then fault kind.TooManyNodes at else Ok (reader_at_head from h r)

-- at an arrow or a mark that was seen
abbrev pub feed_turn : Dialect → Link → Role → Sign → ℕ → Reader_data → Fed
feed_turn Talks from p arrow at r = in_mode (mode.Receiver from p) r
feed_turn Talks from p _ at r = expected wanted.Role at
feed_turn Acts from p bang at r = feed_new_head Acts from (head.Act p mark.Puts) at r
feed_turn Acts from p question at r = feed_new_head Acts from (head.Act p mark.Takes) at r
feed_turn Acts from p _ at r = expected wanted.Mark at

-- a talk with the receiver of that number
abbrev pub feed_receiver_role : Dialect → Option ℕ → Link → Role → ℕ → Reader_data → Fed
feed_receiver_role d None from p at r = fault kind.UnknownRole at
feed_receiver_role d (Some q) from p at r = feed_new_head d from (head.Talk p (record { 0 = q })) at r

-- the receiver's name
abbrev pub feed_receiver : Dialect → Link → Role → Option (List ℕ) → ℕ → Reader_data → Fed
feed_receiver d from p None at r = expected wanted.Role at
feed_receiver d from p (Some word) at r = feed_receiver_role d (place_of word r.roles) from p at r

-- behind the open brace of an act
abbrev pub reader_in_braces : ℕ → Reader_data → Reader_data
reader_in_braces act r = record r { depth = suc r.depth; frames = record { act = act; bound = length r.bound; depth = suc r.depth } ∷ r.frames; mode = mode.InMessage act place.Label }

-- an open brace
abbrev pub feed_brace : ℕ → ℕ → Reader_data → Fed
feed_brace act at r = if nat_le MOST_NESTING r.depth then fault kind.TooDeep at else Ok (reader_in_braces act r)

-- a message of an arm of that act, behind a token
abbrev pub in_message : ℕ → Result MessageFed TextFault → Reader_data → Fed
in_message act (Err f) r = Err f
in_message act (Ok (goes_on labels p)) r = Ok (record r { labels = labels; mode = mode.InMessage act p })
in_message act (Ok (ends label s)) r = in_mode (mode.ArmDot act label s) r

-- behind a receiver a colon or a brace, behind a mark a label or a brace
abbrev pub feed_single : Dialect → ℕ → Sign → ℕ → Reader_data → Fed
feed_single Talks act colon at r = in_mode (mode.InMessage act place.Label) r
feed_single Talks act t at r = expected wanted.ColonOrBrace at
feed_single Acts act t at r = in_message act (feed_label wanted.LabelOrBrace (word_text t) at r.labels) r

-- behind a head
abbrev pub feed_arms : Dialect → ℕ → Sign → ℕ → Reader_data → Fed
feed_arms d act open_brace at r = feed_brace act at r
feed_arms d act t at r = feed_single d act t at r

-- the dot behind the head of an arm
abbrev pub feed_arm_dot : ℕ → Label → Sort → Sign → ℕ → Reader_data → Fed
feed_arm_dot act label s dot at r = in_mode (mode.Body (link.OfArm act label s)) r
feed_arm_dot act label s _ at r = expected wanted.Dot at

-- behind a body: names and nesting are again as the brace began
abbrev pub reader_behind_frame : Frame → Reader_data → Reader_data
reader_behind_frame f r = record r { bound = drop (length r.bound - f.bound) r.bound; depth = f.depth }

-- a token behind a body, where these braces are open
abbrev pub feed_next : List Frame → Sign → ℕ → Reader_data → Fed
feed_next [] t at r = expected wanted.PartOrEnd at
feed_next (f ∷ fs) comma at r = Ok (record (reader_behind_frame f r) { mode = mode.InMessage f.act place.Label })
feed_next (f ∷ fs) close_brace at r = Ok (record (reader_behind_frame f r) { mode = mode.Next; frames = fs })
feed_next (f ∷ fs) _ at r = expected wanted.CommaOrCloseBrace at

-- behind a body, in the braces of the reader
abbrev pub feed_behind : Sign → ℕ → Reader_data → Fed
feed_behind t at r = feed_next r.frames t at r

-- one token, with the one behind it
abbrev pub feed_at : Dialect → Mode → Sign → ℕ → Lexeme → Reader_data → Fed
feed_at d mode.Roles t at next r = feed_roles t at r
feed_at d mode.FirstRole t at next r = new_role mode.FirstComma (plain_text t) at r
feed_at d mode.FirstComma t at next r = feed_first_comma t at r
feed_at d mode.FurtherRole t at next r = new_role mode.Line (plain_text t) at r
feed_at d mode.Line t at next r = feed_line t at r
feed_at d mode.Machine t at next r = feed_machine t at r
feed_at d mode.AtRole t at next r = feed_role (plain_text t) at r
feed_at d mode.AtColon t at next r = feed_colon t at r
feed_at d (mode.Body from) t at next r = feed_body d from t at next r
feed_at d (mode.RecName from) t at next r = feed_rec_name from (plain_text t) at r
feed_at d (mode.RecDot from) t at next r = feed_rec_dot from t at r
feed_at d (mode.AtTurn from p) t at next r = feed_turn d from p t at r
feed_at d (mode.Receiver from p) t at next r = feed_receiver d from p (plain_text t) at r
feed_at d (mode.AtArms act) t at next r = feed_arms d act t at r
feed_at d (mode.InMessage act p) t at next r = in_message act (feed_message p t at r.labels) r
feed_at d (mode.ArmDot act label s) t at next r = feed_arm_dot act label s t at r
feed_at d mode.Next t at next r = feed_behind t at r

-- a token in the mode of the reader
abbrev pub feed_of : Dialect → Sign → ℕ → Lexeme → Reader_data → Fed
feed_of d t at next r = feed_at d r.mode t at next r

-- the mode behind a body
abbrev pub behind_body : Mode → Bool
behind_body mode.Next = true
behind_body _ = false

-- no braces are open
abbrev pub no_frames : List Frame → Bool
no_frames [] = true
no_frames (f ∷ fs) = false

-- the whole part is read
abbrev pub is_read : Reader_data → Bool
is_read r = if no_frames r.frames then behind_body r.mode else false

-- the reader of parts in a dialect
abbrev pub feeding : Dialect → Automaton Reader_data
feeding d = record { feed = λ t at next r. feed_of d t at next r; is_read = λ r. is_read r }

-- names, what is spelt, and the offset behind them
pub record PartAnswer : Type 0 where
  pub names : Names_data
  pub spelling : Spelling_data
  pub until : ℕ

-- the answer of a reading, or its fault
abbrev pub answer_of_reading : Result (Reading Reader_data) TextFault → Result PartAnswer TextFault
answer_of_reading (Err e) = Err e
answer_of_reading (Ok x) = Ok (record { names = names_read x.reader; spelling = spelling_read x.reader; until = x.until })

-- what the tokens of the bytes from `at` on are read as, with the old names
abbrev pub ReadsAs : Dialect → Names_data → List ℕ → ℕ → Result PartAnswer TextFault → Type 0
ReadsAs d old bytes at answer = (lexemes : List Lexeme) → Lexed bytes at lexemes → answer_of_reading (read_all (feeding d) (Ok (start_of_part d old)) lexemes) ≡ answer

-- what the tokens lead a reader to
abbrev pub Reads : Dialect → Reader_data → List ℕ → ℕ → Result (Reading Reader_data) TextFault → Type 0
Reads d r bytes at reading = ReadsBy (feeding d) r bytes at reading

-- the reader, which began with these labels, has those of some first tokens too
abbrev pub HasLabels : Dialect → (old labels : List (List ℕ)) → List ℕ → ℕ → Type 0
HasLabels Talks old labels bytes at = Unit {0}
HasLabels Acts old labels bytes at = (before : List Lexeme) × (others : List Lexeme) × Lexed bytes at (before ++ others) × (labels ≡ names_with old (labels_among false (signs_of before)))

-- the labels that the reader has at the fault, or where memory was refused
abbrev pub Leaves : Dialect → Stop → Reader_data → List ℕ → ℕ → List (List ℕ) → Type 0
Leaves d stops.Memory r bytes at labels = HasLabels d r.labels labels bytes at
Leaves d (stops.Fault f) r bytes at labels = (lexemes : List Lexeme) → Lexed bytes at lexemes → (last_of (feeding d) r (Ok r) lexemes).labels ≡ labels

-- the reader has read a part, with no more heads than there may be, up to an offset within the bytes
pub record HasRead (d : Dialect) (bytes : List ℕ) (at : ℕ) (old new : Reader_data) (until : ℕ) : Type 0 where
  pub reads : Reads d old bytes at (Ok (record { reader = new; until = until }))
  pub bounded : length new.drafts ≤ most d
  pub within : until ≤ length bytes

-- the reader has stopped, and has these labels
pub record HasStopped (d : Dialect) (bytes : List ℕ) (at : ℕ) (old new : Reader_data) (stop : Stop) : Type 0 where
  pub stops : StopsBy (feeding d) stop old bytes at
  pub leaves : Leaves d stop old bytes at new.labels

-- a method takes one step of the reader; where it stops the names are as before
abbrev pub Feeds : Result (Unit {0}) Stop → Fed → (old new : Reader_data) → Type 0
Feeds result fed old new = readings.Feeds names_read result fed old new
