-- What a token is where the reader stands: taken and not at fault, or unexpected, or at fault by names or limits, or before a faulty one.
use Rattle.std.proofs.Common.{◌≡◌, ℕ, suc, List, [], ◌∷◌, ◌++◌, length, codes, Bool, true, false, if◌then◌else◌, nat_le, nat_lt, Option, Some, None, is_some, Ok, Err, refl, sym, ap, subst, ◌⊎◌, inl}
use Rattle.std.proofs.Common.{inr}
use Rattle.std.specs.Str.{bytes_eq}
use Rattle.rs_model.specs.declared.graph.Role.{Role}
use Rattle.rs_model.specs.declared.graph.Label.{Label}
use Rattle.rs_model.specs.declared.values.Sort.{Sort}
use Rattle.rs_text.specs.declared.tokens.FaultKind.{FaultKind}
use Rattle.rs_text.specs.declared.faults.TextFault.{TextFault}
use Rattle.rs_text.specs.declared.faults.TextKind.{TextKind}
use Rattle.rs_text.specs.declared.faults.TextKind.TheVariants as kind
use Rattle.rs_text.specs.declared.faults.Wanted.{Wanted}
use Rattle.rs_text.specs.declared.faults.Wanted.TheVariants as wanted
use Rattle.rs_bodies.specs.declared.dialects.Dialect.{Dialect}
use Rattle.rs_bodies.specs.declared.dialects.Dialect.TheVariants.{Talks, Acts}
use Rattle.rs_bodies.specs.declared.dialects.Head.{Head}
use Rattle.rs_bodies.specs.declared.dialects.Head.TheVariants as head
use Rattle.rs_bodies.specs.declared.reading.Frame.{Frame}
use Rattle.rs_bodies.specs.declared.reading.Link.{Link}
use Rattle.rs_bodies.specs.declared.reading.Mode.{Mode}
use Rattle.rs_bodies.specs.declared.reading.Mode.TheVariants as mode
use Rattle.rs_text.specs.Faults.{kind_of}
use Rattle.rs_text.specs.Lexemes.{Lexeme}
use Rattle.rs_text.specs.Names.{place_of, is_among, nearest_binding}
use Rattle.rs_text.specs.Signs.{Sign, rec_word, end_word, plain, colon, dot, comma, open_brace, close_brace, open_paren, close_paren, broken}
use Rattle.rs_text.proofs.Naming.{among, not_among}
use Rattle.rs_text.specs.Seen.{sort_named}
use Rattle.rs_text.specs.declared.messages.MessagePlace.{MessagePlace}
use Rattle.rs_text.specs.declared.messages.MessagePlace.TheVariants as place
use Rattle.rs_text.specs.Messages.{goes_on, label_of_number, feed_label_number, feed_sort_word, feed_sort}
use Rattle.rs_bodies.specs.Dialects.{turns, most}
use Rattle.rs_bodies.specs.Data.{Reader_data}
use Rattle.rs_bodies.specs.Trees.{ends_a_name}
use Rattle.rs_text.specs.FirstFaults.{IsWhole}
use Rattle.rs_bodies.specs.Scenes.{Scene}
use Rattle.rs_bodies.specs.Misplaced.{fault_of_name, fault_of_word, fault_of_first, fault_of_role, fault_of_new_role}
use Rattle.rs_bodies.specs.Feeding.{Fed, in_mode, reader_behind_link, feed_machine, feed_roles, new_role, feed_line, feed_receiver_role, reader_at_head, role_by, feed_head_role, feed_bound_name}
use Rattle.rs_bodies.specs.Feeding.{feed_word, feed_body, reader_in_braces, in_message, feed_next, feed_at, feeding}
use Rattle.rs_text.specs.Readings.{fault, expected, feed_sign}
use Rattle.rs_text.proofs.Leading.{NotExpected}
use Rattle.rs_bodies.proofs.FaultRuns.{Follower, a_turn, a_broken, a_name, follower, by_name}
use Rattle.rs_bodies.proofs.FaultPlaces.{wanted_behind, wanted_by, wanted_behind_head, scene_of, fault_seen, NamedBy, by_turn}
use Rattle.rs_bodies.proofs.FaultCuts.{takes}

-- what a fault says where this is wanted
abbrev pub said : Wanted → Wanted
said wanted.DerivationOrEnd = wanted.PartOrEnd
said w = w

pub record ToldUnexpected (dia : Dialect) (w : Wanted) (seen : Option TextKind) (t : Sign) (at : ℕ) (e : TextFault) : Type 0 where
  pub at_is : e.at ≡ at
  pub kind_is : e.kind ≡ kind.Expected (said w)
  pub stops : takes w t ≡ false
  pub unseen : seen ≡ None

pub record ToldMisplaced (dia : Dialect) (w : Wanted) (seen : Option TextKind) (t : Sign) (at : ℕ) (e : TextFault) : Type 0 where
  pub at_is : e.at ≡ at
  pub taken : takes w t ≡ true
  pub fault : seen ≡ Some e.kind
  pub calm : NotExpected e.kind

-- a word at the start of a body with a faulty token behind it
pub record ToldBroken (w : Wanted) (seen : Option TextKind) (t : Sign) (n : Lexeme) (e : TextFault) : Type 0 where
  pub kind : FaultKind
  pub broken_is : n.sign ≡ broken kind
  pub kind_is : e.kind ≡ kind_of kind
  pub at_is : e.at ≡ n.from
  pub text : List ℕ
  pub word : t ≡ plain text
  pub body : w ≡ wanted.Body
  pub clear : seen ≡ None

abbrev pub Steps : (dia : Dialect) → Wanted → Option TextKind → Sign → ℕ → Lexeme → Fed → Type 0
Steps dia w seen t at n (Ok d) = (takes w t ≡ true) × (seen ≡ None)
Steps dia w seen t at n (Err e) = ToldUnexpected dia w seen t at e ⊎ (ToldMisplaced dia w seen t at e ⊎ ToldBroken w seen t n e)

unexpected : (dia : Dialect) (w : Wanted) (t : Sign) (at : ℕ) (n : Lexeme) → takes w t ≡ false → Steps dia w None t at n (expected (said w) at)
unexpected dia w t at n h = inl (record { at_is = refl; kind_is = refl; stops = h; unseen = refl })

misplaced : (dia : Dialect) (w : Wanted) (seen : Option TextKind) (t : Sign) (at : ℕ) (n : Lexeme) (k : TextKind) → takes w t ≡ true → NotExpected k → seen ≡ Some k
    → Steps dia w seen t at n (fault k at)
misplaced dia w seen t at n k h calm e = inr (inl (record { at_is = refl; taken = h; fault = e; calm = calm }))

step_if : (dia : Dialect) (c : Bool) (w : Wanted) (t : Sign) (at : ℕ) (n : Lexeme) (d : Reader_data) → takes w t ≡ c → Steps dia w None t at n (if c then Ok d else expected (said w) at)
step_if dia true w t at n d h = (h, refl)
step_if dia false w t at n d h = unexpected dia w t at n h

step_guard : (dia : Dialect) (c : Bool) (k : TextKind) (w : Wanted) (seen : Option TextKind) (t : Sign) (at : ℕ) (n : Lexeme) (x : Fed) → takes w t ≡ true → NotExpected k → Steps dia w seen t at n x
    → Steps dia w (if c then Some k else seen) t at n (if c then fault k at else x)
step_guard dia true k w seen t at n x h calm s = misplaced dia w (Some k) t at n k h calm refl
step_guard dia false k w seen t at n x h calm s = s

-- names
role_step : (dia : Dialect) (found : Option ℕ) (word : List ℕ) (at : ℕ) (n : Lexeme) (r : Reader_data) → place_of word r.roles ≡ found
    → Steps dia wanted.Role (if is_among word r.roles then None else Some kind.UnknownRole) (plain word) at n (role_by found at r)
role_step dia None word at n r e =
    misplaced dia wanted.Role (if is_among word r.roles then None else Some kind.UnknownRole) (plain word) at n kind.UnknownRole refl tt
    (ap (λ z. if z then None else Some kind.UnknownRole) (not_among r.roles word 0 e))
role_step dia (Some k) word at n r e = (refl, ap (λ z. if z then None else Some kind.UnknownRole) (among r.roles word 0 k e))

met_step : (dia : Dialect) (found : Option ℕ) (word : List ℕ) (from : Link) (at : ℕ) (n : Lexeme) (r : Reader_data) → place_of word r.roles ≡ found
    → Steps dia wanted.Body (fault_of_first dia word (scene_of r)) (plain word) at n (feed_head_role dia found from at r)
met_step dia None word from at n r e = misplaced dia wanted.Body (fault_of_first dia word (scene_of r)) (plain word) at n kind.UnknownRole refl tt
    (ap (λ z. if z then (if nat_le (most dia) (length r.drafts) then Some kind.TooManyNodes else None) else Some kind.UnknownRole) (not_among r.roles word 0 e))
met_step dia (Some k) word from at n r e =
    subst (λ (z : Bool). Steps dia wanted.Body (if z then (if nat_le (most dia) (length r.drafts) then Some kind.TooManyNodes else None) else Some kind.UnknownRole) (plain word) at n
    (feed_head_role dia (Some k) from at r)) (sym (among r.roles word 0 k e))
    (step_guard dia (nat_le (most dia) (length r.drafts)) kind.TooManyNodes wanted.Body None (plain word) at n (in_mode (mode.AtTurn from (record { 0 = k })) r) refl tt (refl, refl))

guarded_step : (dia : Dialect) (c : Bool) (k : ℕ) (word : List ℕ) (from : Link) (at : ℕ) (n : Lexeme) (r : Reader_data)
    → Steps dia wanted.Body (if c then None else Some kind.Unguarded) (plain word) at n (if c then in_mode mode.Next (reader_behind_link from (Some k) r) else fault kind.Unguarded at)
guarded_step dia true k word from at n r = (refl, refl)
guarded_step dia false k word from at n r = misplaced dia wanted.Body (Some kind.Unguarded) (plain word) at n kind.Unguarded refl tt refl

named_step : (dia : Dialect) (found : Option ℕ) (word : List ℕ) (from : Link) (at : ℕ) (n : Lexeme) (r : Reader_data)
    → Steps dia wanted.Body (fault_of_name found (length r.drafts)) (plain word) at n (feed_bound_name found from at r)
named_step dia None word from at n r = misplaced dia wanted.Body (Some kind.UnboundName) (plain word) at n kind.UnboundName refl tt refl
named_step dia (Some k) word from at n r = guarded_step dia (nat_lt k (length r.drafts)) k word from at n r

unless : (c : Bool) (x y : Option TextKind) → (if c then false else true) ≡ true → (if c then x else y) ≡ y
unless true x y h = cc
unless false x y h = refl

pub by_name_fault : (dia : Dialect) (v : Sign) (word : List ℕ) (s : Scene) → ends_a_name dia v ≡ true → fault_of_word dia word v s ≡ fault_of_name (nearest_binding word s.bound) s.acts
by_name_fault dia (broken k) word s h = cc
by_name_fault dia v word s h = unless (turns dia v) (fault_of_first dia word s) (fault_of_name (nearest_binding word s.bound) s.acts) h

pub by_turn_fault : (dia : Dialect) (v : Sign) (word : List ℕ) (s : Scene) → turns dia v ≡ true → fault_of_word dia word v s ≡ fault_of_first dia word s
by_turn_fault dia (broken k) word s h = cc
by_turn_fault dia v word s h = ap (λ z. if z then fault_of_first dia word s else fault_of_name (nearest_binding word s.bound) s.acts) h

word_step : (dia : Dialect) (v : Sign) (f : Follower dia v) (from : Link) (word : List ℕ) (at : ℕ) (n : Lexeme) (r : Reader_data) → n.sign ≡ v
    → Steps dia wanted.Body (fault_of_word dia word v (scene_of r)) (plain word) at n (feed_word dia from word v at n.from r)
word_step dia _ (a_turn v h) from word at n r e =
    subst (λ (z : Fed). Steps dia wanted.Body (fault_of_word dia word v (scene_of r)) (plain word) at n z) (sym (by_turn dia v from word at n.from r h))
    (subst (λ (z : Option TextKind). Steps dia wanted.Body z (plain word) at n (feed_head_role dia (place_of word r.roles) from at r)) (sym (by_turn_fault dia v word (scene_of r) h))
    (met_step dia (place_of word r.roles) word from at n r refl))
word_step dia _ (a_broken k) from word at n r e = inr (inr (record { kind = k; broken_is = e; kind_is = refl; at_is = refl; text = word; word = refl; body = refl; clear = refl }))
word_step dia _ (a_name v h) from word at n r e =
    subst (λ (z : Fed). Steps dia wanted.Body (fault_of_word dia word v (scene_of r)) (plain word) at n z) (sym (by_name dia v from word at n.from r h))
    (subst (λ (z : Option TextKind). Steps dia wanted.Body z (plain word) at n (feed_bound_name (nearest_binding word r.bound) from at r)) (sym (by_name_fault dia v word (scene_of r) h))
    (named_step dia (nearest_binding word r.bound) word from at n r))

body_step : (dia : Dialect) (from : Link) (t : Sign) (at : ℕ) (n : Lexeme) (r : Reader_data) → Steps dia wanted.Body (fault_seen dia (mode.Body from) t n.sign r) t at n (feed_body dia from t at n r)
body_step dia from rec_word at n r =
    step_guard dia (nat_le 200 r.depth) kind.TooDeep wanted.Body None rec_word at n (Ok (record r { depth = suc r.depth; mode = mode.RecName from })) refl tt (refl, refl)
body_step dia from end_word at n r = (refl, refl)
body_step dia from (plain word) at n r = word_step dia n.sign (follower dia n.sign) from word at n r refl
body_step dia from _ at n r = inl (record { at_is = refl; kind_is = refl; stops = refl; unseen = refl })

room_step : (dia : Dialect) (c : Bool) (act : ℕ) (labels : List (List ℕ)) (p : MessagePlace) (w : Wanted) (t : Sign) (at : ℕ) (n : Lexeme) (r : Reader_data) → takes w t ≡ true
    → Steps dia w (if c then Some kind.TooManyLabels else None) t at n (in_message act (if c then fault kind.TooManyLabels at else Ok (goes_on labels p)) r)
room_step dia true act labels p w t at n r h = misplaced dia w (Some kind.TooManyLabels) t at n kind.TooManyLabels h tt refl
room_step dia false act labels p w t at n r h = (h, refl)

labelled_step : (dia : Dialect) (found : Option ℕ) (act : ℕ) (word : List ℕ) (w : Wanted) (t : Sign) (at : ℕ) (n : Lexeme) (r : Reader_data) → takes w t ≡ true → place_of word r.labels ≡ found
    → Steps dia w (if is_among word r.labels then None else if nat_le 256 (length r.labels) then Some kind.TooManyLabels else None) t at n (in_message act (feed_label_number found word at r.labels) r)
labelled_step dia (Some k) act word w t at n r h e = (h, ap (λ z. if z then None else if nat_le 256 (length r.labels) then Some kind.TooManyLabels else None) (among r.labels word 0 k e))
labelled_step dia None act word w t at n r h e =
    subst (λ (z : Bool). Steps dia w (if z then None else if nat_le 256 (length r.labels) then Some kind.TooManyLabels else None) t at n (in_message act (feed_label_number None word at r.labels) r))
    (sym (not_among r.labels word 0 e))
    (room_step dia (nat_le 256 (length r.labels)) act (r.labels ++ word ∷ []) (place.Paren (label_of_number (length r.labels))) w t at n r h)

label_step : (dia : Dialect) (act : ℕ) (t : Sign) (at : ℕ) (n : Lexeme) (r : Reader_data)
    → Steps dia wanted.Label (fault_seen dia (mode.InMessage act place.Label) t n.sign r) t at n (feed_at dia (mode.InMessage act place.Label) t at n r)
label_step dia act rec_word at n r = labelled_step dia (place_of (codes "rec") r.labels) act (codes "rec") wanted.Label rec_word at n r refl refl
label_step dia act end_word at n r = labelled_step dia (place_of (codes "end") r.labels) act (codes "end") wanted.Label end_word at n r refl refl
label_step dia act (plain word) at n r = labelled_step dia (place_of word r.labels) act word wanted.Label (plain word) at n r refl refl
label_step dia act _ at n r = inl (record { at_is = refl; kind_is = refl; stops = refl; unseen = refl })

arms_step : (dia : Dialect) (act : ℕ) (t : Sign) (at : ℕ) (n : Lexeme) (r : Reader_data)
    → Steps dia (wanted_behind_head dia) (fault_seen dia (mode.AtArms act) t n.sign r) t at n (feed_at dia (mode.AtArms act) t at n r)
arms_step Talks act colon at n r = (refl, refl)
arms_step Talks act open_brace at n r = step_guard Talks (nat_le 200 r.depth) kind.TooDeep wanted.ColonOrBrace None open_brace at n (Ok (reader_in_braces act r)) refl tt (refl, refl)
arms_step Talks act _ at n r = inl (record { at_is = refl; kind_is = refl; stops = refl; unseen = refl })
arms_step Acts act open_brace at n r = step_guard Acts (nat_le 200 r.depth) kind.TooDeep wanted.LabelOrBrace None open_brace at n (Ok (reader_in_braces act r)) refl tt (refl, refl)
arms_step Acts act rec_word at n r = labelled_step Acts (place_of (codes "rec") r.labels) act (codes "rec") wanted.LabelOrBrace rec_word at n r refl refl
arms_step Acts act end_word at n r = labelled_step Acts (place_of (codes "end") r.labels) act (codes "end") wanted.LabelOrBrace end_word at n r refl refl
arms_step Acts act (plain word) at n r = labelled_step Acts (place_of word r.labels) act word wanted.LabelOrBrace (plain word) at n r refl refl
arms_step Acts act _ at n r = inl (record { at_is = refl; kind_is = refl; stops = refl; unseen = refl })

-- a receiver
headed_if : (dia : Dialect) (c : Bool) (t : Sign) (seen : Option TextKind) (at : ℕ) (n : Lexeme) (q : Head) (from : Link) (r : Reader_data) → c ≡ false → takes wanted.Role t ≡ true → seen ≡ None
    → Steps dia wanted.Role seen t at n (if c then fault kind.TooManyNodes at else Ok (reader_at_head from q r))
headed_if dia true t seen at n q from r h a e = cc
headed_if dia false t seen at n q from r h a e = (a, e)

received_step : (dia : Dialect) (found : Option ℕ) (word : List ℕ) (from : Link) (p : Role) (at : ℕ) (n : Lexeme) (r : Reader_data) → place_of word r.roles ≡ found
    → nat_le (most dia) (length r.drafts) ≡ false → Steps dia wanted.Role (fault_of_role word r.roles) (plain word) at n (feed_receiver_role dia found from p at r)
received_step dia None word from p at n r e room =
    misplaced dia wanted.Role (fault_of_role word r.roles) (plain word) at n kind.UnknownRole refl tt (ap (λ z. if z then None else Some kind.UnknownRole) (not_among r.roles word 0 e))
received_step dia (Some k) word from p at n r e room =
    headed_if dia (nat_le (most dia) (length r.drafts)) (plain word) (fault_of_role word r.roles) at n (head.Talk p (record { 0 = k })) from r room refl
    (ap (λ z. if z then None else Some kind.UnknownRole) (among r.roles word 0 k e))

sorted_step : (dia : Dialect) (found : Option Sort) (act : ℕ) (label : Label) (t : Sign) (at : ℕ) (n : Lexeme) (r : Reader_data) → takes wanted.SortOrCloseParen t ≡ is_some found
    → Steps dia wanted.SortOrCloseParen None t at n (in_message act (feed_sort_word found label at r.labels) r)
sorted_step dia None act label t at n r h = unexpected dia wanted.SortOrCloseParen t at n h
sorted_step dia (Some s) act label t at n r h = (h, refl)

sort_step : (dia : Dialect) (act : ℕ) (label : Label) (t : Sign) (at : ℕ) (n : Lexeme) (r : Reader_data)
    → Steps dia wanted.SortOrCloseParen None t at n (in_message act (feed_sort label t at r.labels) r)
sort_step dia act label close_paren at n r = (refl, refl)
sort_step dia act label (plain text) at n r = sorted_step dia (sort_named text) act label (plain text) at n r refl
sort_step dia act label _ at n r = inl (record { at_is = refl; kind_is = refl; stops = refl; unseen = refl })

next_step : (dia : Dialect) (fs : List Frame) (t : Sign) (at : ℕ) (n : Lexeme) (r : Reader_data) → Steps dia (wanted_behind fs) None t at n (feed_next fs t at r)
next_step dia [] t at n r = unexpected dia wanted.PartOrEnd t at n refl
next_step dia (f ∷ fs) comma at n r = (refl, refl)
next_step dia (f ∷ fs) close_brace at n r = (refl, refl)
next_step dia (f ∷ fs) _ at n r = inl (record { at_is = refl; kind_is = refl; stops = refl; unseen = refl })

machine_step : (dia : Dialect) (t : Sign) (at : ℕ) (n : Lexeme) (r : Reader_data) → Steps dia wanted.DerivationOrEnd None t at n (feed_machine t at r)
machine_step dia (plain text) at n r = step_if dia (bytes_eq text (codes "machine")) wanted.DerivationOrEnd (plain text) at n _ refl
machine_step dia _ at n r = inl (record { at_is = refl; kind_is = refl; stops = refl; unseen = refl })

roles_step : (dia : Dialect) (t : Sign) (at : ℕ) (n : Lexeme) (r : Reader_data) → Steps dia wanted.Roles None t at n (feed_roles t at r)
roles_step dia (plain text) at n r = step_if dia (bytes_eq text (codes "roles")) wanted.Roles (plain text) at n _ refl
roles_step dia _ at n r = inl (record { at_is = refl; kind_is = refl; stops = refl; unseen = refl })

line_step : (dia : Dialect) (t : Sign) (at : ℕ) (n : Lexeme) (r : Reader_data) → Steps dia wanted.CommaOrProtocol None t at n (feed_line t at r)
line_step dia comma at n r = (refl, refl)
line_step dia (plain text) at n r = step_if dia (bytes_eq text (codes "protocol")) wanted.CommaOrProtocol (plain text) at n _ refl
line_step dia _ at n r = inl (record { at_is = refl; kind_is = refl; stops = refl; unseen = refl })

new_role_step : (dia : Dialect) (after : Mode) (word : List ℕ) (at : ℕ) (n : Lexeme) (r : Reader_data)
    → Steps dia wanted.Role (fault_of_new_role word r.roles) (plain word) at n (new_role after (Some word) at r)
new_role_step dia after word at n r =
    step_guard dia (is_among word r.roles) kind.NameTwice wanted.Role (if nat_le 16 (length r.roles) then Some kind.TooManyRoles else None) (plain word) at n
    (if nat_le 16 (length r.roles) then fault kind.TooManyRoles at else Ok (record r { roles = r.roles ++ word ∷ []; mode = after })) refl tt
    (step_guard dia (nat_le 16 (length r.roles)) kind.TooManyRoles wanted.Role None (plain word) at n (Ok (record r { roles = r.roles ++ word ∷ []; mode = after })) refl tt (refl, refl))

-- a mark that was seen is taken; anywhere else the mode decides
abbrev pub IsMarkMode : Mode → Type 0
IsMarkMode (mode.AtTurn from s) = Unit {0}
IsMarkMode _ = ⊥

pub steps : (dia : Dialect) (m : Mode) (t : Sign) (at : ℕ) (n : Lexeme) (r : Reader_data) (u : Sign) (b : Bool) → NamedBy dia m u b r → (IsMarkMode m → ⊥)
    → Steps dia (wanted_by dia m r.frames) (fault_seen dia m t n.sign r) t at n (feed_at dia m t at n r)
steps dia mode.Roles t at n r u b k h = roles_step dia t at n r
steps dia mode.FirstRole (plain word) at n r u b k h = new_role_step dia mode.FirstComma word at n r
steps dia mode.FirstRole _ at n r u b k h = inl (record { at_is = refl; kind_is = refl; stops = refl; unseen = refl })
steps dia mode.FirstComma comma at n r u b k h = (refl, refl)
steps dia mode.FirstComma _ at n r u b k h = inl (record { at_is = refl; kind_is = refl; stops = refl; unseen = refl })
steps dia mode.FurtherRole (plain word) at n r u b k h = new_role_step dia mode.Line word at n r
steps dia mode.FurtherRole _ at n r u b k h = inl (record { at_is = refl; kind_is = refl; stops = refl; unseen = refl })
steps dia mode.Line t at n r u b k h = line_step dia t at n r
steps dia mode.Machine t at n r u b k h = machine_step dia t at n r
steps dia mode.AtRole (plain word) at n r u b k h = role_step dia (place_of word r.roles) word at n r refl
steps dia mode.AtRole _ at n r u b k h = inl (record { at_is = refl; kind_is = refl; stops = refl; unseen = refl })
steps dia mode.AtColon colon at n r u b k h = (refl, refl)
steps dia mode.AtColon _ at n r u b k h = inl (record { at_is = refl; kind_is = refl; stops = refl; unseen = refl })
steps dia (mode.Body from) t at n r u b k h = body_step dia from t at n r
steps dia (mode.RecName from) (plain word) at n r u b k h = (refl, refl)
steps dia (mode.RecName from) _ at n r u b k h = inl (record { at_is = refl; kind_is = refl; stops = refl; unseen = refl })
steps dia (mode.RecDot from) dot at n r u b k h = (refl, refl)
steps dia (mode.RecDot from) _ at n r u b k h = inl (record { at_is = refl; kind_is = refl; stops = refl; unseen = refl })
steps dia (mode.AtTurn from p) t at n r u b k h = absurd (h tt)
steps dia (mode.Receiver from p) (plain word) at n r u b k h = received_step dia (place_of word r.roles) word from p at n r refl k
steps dia (mode.Receiver from p) _ at n r u b k h = inl (record { at_is = refl; kind_is = refl; stops = refl; unseen = refl })
steps dia (mode.AtArms act) t at n r u b k h = arms_step dia act t at n r
steps dia (mode.InMessage act place.Label) t at n r u b k h = label_step dia act t at n r
steps dia (mode.InMessage act (place.Paren label)) open_paren at n r u b k h = (refl, refl)
steps dia (mode.InMessage act (place.Paren label)) _ at n r u b k h = inl (record { at_is = refl; kind_is = refl; stops = refl; unseen = refl })
steps dia (mode.InMessage act (place.Sort label)) t at n r u b k h = sort_step dia act label t at n r
steps dia (mode.InMessage act (place.Close label s)) close_paren at n r u b k h = (refl, refl)
steps dia (mode.InMessage act (place.Close label s)) _ at n r u b k h = inl (record { at_is = refl; kind_is = refl; stops = refl; unseen = refl })
steps dia (mode.ArmDot act label s) dot at n r u b k h = (refl, refl)
steps dia (mode.ArmDot act label s) _ at n r u b k h = inl (record { at_is = refl; kind_is = refl; stops = refl; unseen = refl })
steps dia mode.Next t at n r u b k h = next_step dia r.frames t at n r

pub whole_fed : (dia : Dialect) (t : Sign) (at : ℕ) (n : Lexeme) (r : Reader_data) → IsWhole t → feed_sign (feeding dia) t at n r ≡ feed_at dia r.mode t at n r
whole_fed dia (broken k) at n r h = absurd h
whole_fed dia _ at n r h = refl
