-- Where the tokens of a body lead the reader, if at all: no token of it is unexpected.
use Rattle.std.proofs.Common.{◌≡◌, ℕ, suc, ◌+◌, ◌-◌, List, [], ◌∷◌, ◌++◌, length, drop, Bool, true, false, if◌then◌else◌, nat_le, nat_lt, Option, Some, None, Result, Ok, Err, refl, sym, ap, ◌∙◌}
use Rattle.std.proofs.Common.{subst, arith, append_assoc, length-append, slice_get}
use Rattle.std.proofs.lemmas.List.{length-set}
use Rattle.std.proofs.Math.Seq.{drop-append_seam}
use Rattle.rs_model.specs.declared.graph.Role.{Role}
use Rattle.rs_model.specs.declared.graph.Label.{Label}
use Rattle.rs_model.specs.declared.values.Sort.{Sort}
use Rattle.rs_text.specs.declared.tokens.FaultKind.{FaultKind}
use Rattle.rs_text.specs.declared.faults.TextKind.{TextKind}
use Rattle.rs_text.specs.declared.faults.TextKind.TheVariants as kind
use Rattle.rs_bodies.specs.declared.dialects.Dialect.{Dialect}
use Rattle.rs_bodies.specs.declared.dialects.Dialect.TheVariants.{Talks, Acts}
use Rattle.rs_bodies.specs.declared.dialects.Head.{Head}
use Rattle.rs_bodies.specs.declared.dialects.Head.TheVariants as head
use Rattle.rs_bodies.specs.declared.dialects.Mark.TheVariants as mark
use Rattle.rs_bodies.specs.declared.reading.Frame.{Frame}
use Rattle.rs_bodies.specs.declared.reading.Link.{Link}
use Rattle.rs_bodies.specs.declared.reading.Link.TheVariants as link
use Rattle.rs_bodies.specs.declared.reading.Mode.TheVariants as mode
use Rattle.rs_bodies.specs.declared.drafts.DraftArm.{DraftArm}
use Rattle.rs_text.specs.Lexemes.{Lexeme}
use Rattle.rs_text.specs.Names.{place_of, names_with, BoundNames, nearest_binding}
use Rattle.rs_text.specs.Signs.{Sign, plain, arrow, bang, question, dot, comma, open_brace, close_brace, open_paren, close_paren, broken, word_sign}
use Rattle.rs_text.proofs.Naming.{grown_append}
use Rattle.rs_text.specs.Arms.{sort_signs, arm_signs, sort_or_unit}
use Rattle.rs_bodies.specs.Dialects.{BehindRole, sends_to, with_mark, turn_signs, lone_signs, turns, most}
use Rattle.rs_bodies.specs.Data.{Reader_data, Draft_data}
use Rattle.rs_bodies.specs.Drafts.{with_arm}
use Rattle.rs_bodies.specs.Trees.{Body, ends, again, binds, acts, offers, Branches, one, more, body_signs, branch_signs, ends_a_name}
use Rattle.rs_bodies.specs.Graph.{labels_of, labels_of_arms, acts_in, acts_in_arms}
use Rattle.rs_bodies.specs.Feeding.{Fed, in_mode, reader_behind_link, start_behind_link, drafts_behind_link, feed_bound_name, feed_word, reader_at_head, feed_head_role, feed_receiver_role}
use Rattle.rs_bodies.specs.Feeding.{reader_in_braces, in_message, feed_arms, feeding}
use Rattle.rs_text.specs.Readings.{fault, feed_sign}
use Rattle.rs_text.proofs.Leading.{Leads, LeadsOr, NotExpected, sign_behind, lexeme, Lands, LandsOr, lands_if, faulty_calm}
use Rattle.rs_text.proofs.MessageLaws.{label_seen, word_fed, sort_seen, has_room, labelled_lands}
use Rattle.rs_text.specs.declared.faults.TextFault.{TextFault}
use Rattle.rs_text.specs.declared.faults.Wanted.TheVariants as wanted
use Rattle.rs_text.specs.declared.messages.MessagePlace.TheVariants as place
use Rattle.rs_text.specs.Messages.{MessageFed, goes_on, ends, label_of_number, feed_label_number, feed_sort_word, feed_label}
use Rattle.rs_text.specs.Seen.{word_text}
use Rattle.rs_bodies.specs.declared.reading.Mode.{Mode}

-- no turn stands there
abbrev pub IsAfter : Dialect → Sign → Type 0
IsAfter dia t = turns dia t ≡ false

lands_unless : (c : Bool) (k : TextKind) (at : ℕ) (x : Fed) (Q : Reader_data → Type 0) → NotExpected k → (c ≡ false → Lands x Q) → Lands (if c then fault k at else x) Q
lands_unless true k at x Q n h = n
lands_unless false k at x Q n h = h refl

pub met_lands : (dia : Dialect) (found : Option ℕ) (from : Link) (at : ℕ) (r : Reader_data) (Q : Reader_data → Type 0)
    → ((p : Role) → nat_le (most dia) (length r.drafts) ≡ false → Q (record r { mode = mode.AtTurn from p })) → Lands (feed_head_role dia found from at r) Q
met_lands dia None from at r Q h = tt
met_lands dia (Some k) from at r Q h = lands_unless (nat_le (most dia) (length r.drafts)) kind.TooManyNodes at (in_mode (mode.AtTurn from (record { 0 = k })) r) Q tt (h (record { 0 = k }))

pub received_lands : (found : Option ℕ) (from : Link) (p : Role) (at : ℕ) (r : Reader_data) (Q : Reader_data → Type 0) → ((h : Head) → Q (reader_at_head from h r))
    → Lands (feed_receiver_role Talks found from p at r) Q
received_lands None from p at r Q h = tt
received_lands (Some q) from p at r Q h =
    lands_if (nat_le 1024 (length r.drafts)) kind.TooManyNodes at (Ok (reader_at_head from (head.Talk p (record { 0 = q })) r)) Q tt (h (head.Talk p (record { 0 = q })))

-- a head is placed
pub head_lands : (dia : Dialect) (t : BehindRole dia) (x : List ℕ) (from : Link) (r : Reader_data) (ts : List Sign) (u : Sign) (Q : Reader_data → Type 0)
    → ((h : Head) → Leads (feeding dia) ts u Q (reader_at_head from h r)) → Leads (feeding dia) (plain x ∷ (turn_signs dia t ++ ts)) u Q (record r { mode = mode.Body from })
head_lands Talks (sends_to y) x from r ts u Q h = λ a f n. met_lands Talks (place_of x r.roles) from a (record r { mode = mode.Body from }) (λ d. Leads (feeding Talks) (arrow ∷ plain y ∷ ts) u Q d)
    (λ p _. λ a f n. λ a f n. received_lands (place_of y r.roles) from p a (record r { mode = mode.Receiver from p }) (λ d. Leads (feeding Talks) ts u Q d) h)
head_lands Acts (with_mark mark.Puts) x from r ts u Q h = λ a f n. met_lands Acts (place_of x r.roles) from a (record r { mode = mode.Body from }) (λ d. Leads (feeding Acts) (bang ∷ ts) u Q d)
    (λ p _. λ a f n. lands_if (nat_le 256 (length r.drafts)) kind.TooManyNodes a (Ok (reader_at_head from (head.Act p mark.Puts) r)) (λ d. Leads (feeding Acts) ts u Q d) tt (h (head.Act p mark.Puts)))
head_lands Acts (with_mark mark.Takes) x from r ts u Q h = λ a f n. met_lands Acts (place_of x r.roles) from a (record r { mode = mode.Body from }) (λ d. Leads (feeding Acts) (question ∷ ts) u Q d)
    (λ p _. λ a f n. lands_if (nat_le 256 (length r.drafts)) kind.TooManyNodes a (Ok (reader_at_head from (head.Act p mark.Takes) r)) (λ d. Leads (feeding Acts) ts u Q d) tt
    (h (head.Act p mark.Takes)))

named_if : (c : Bool) (k : ℕ) (from : Link) (at : ℕ) (r : Reader_data) (Q : Reader_data → Type 0) → Q (record (reader_behind_link from (Some k) r) { mode = mode.Next })
    → Lands (if c then in_mode mode.Next (reader_behind_link from (Some k) r) else fault kind.Unguarded at) Q
named_if true k from at r Q h = h
named_if false k from at r Q h = tt

pub named_lands : (found : Option ℕ) (from : Link) (at : ℕ) (r : Reader_data) (Q : Reader_data → Type 0) → ((k : ℕ) → Q (record (reader_behind_link from (Some k) r) { mode = mode.Next }))
    → Lands (feed_bound_name found from at r) Q
named_lands None from at r Q h = tt
named_lands (Some k) from at r Q h = named_if (nat_lt k (length r.drafts)) k from at r Q (h k)

-- a word is a name where no mark and no faulty token stands behind it
unless : (c : Bool) (x y : Fed) → (if c then false else true) ≡ true → (if c then x else y) ≡ y
unless true x y h = cc
unless false x y h = refl

pub by_name : (dia : Dialect) (v : Sign) (from : Link) (word : List ℕ) (at next : ℕ) (r : Reader_data) → ends_a_name dia v ≡ true
    → feed_word dia from word v at next r ≡ feed_bound_name (nearest_binding word r.bound) from at r
by_name dia (broken k) from word at next r h = cc
by_name dia v from word at next r h = unless (turns dia v) (feed_head_role dia (place_of word r.roles) from at r) (feed_bound_name (nearest_binding word r.bound) from at r) h

-- what stands behind a word
pub data Follower (dia : Dialect) : Sign → Type 0 where
  a_turn : (v : Sign) → turns dia v ≡ true → Follower dia v
  a_broken : (k : FaultKind) → Follower dia (broken k)
  a_name : (v : Sign) → ends_a_name dia v ≡ true → Follower dia v

follower_by : (dia : Dialect) (v : Sign) (c : Bool) → turns dia v ≡ c → (c ≡ false → ends_a_name dia v ≡ true) → Follower dia v
follower_by dia v true e h = a_turn v e
follower_by dia v false e h = a_name v (h refl)

pub follower : (dia : Dialect) (v : Sign) → Follower dia v
follower dia (broken k) = a_broken k
follower dia v = follower_by dia v (turns dia v) refl (λ e. ap (λ z. if z then false else true) e)

name_follows : (dia : Dialect) (v : Sign) (f : Follower dia v) (from : Link) (word : List ℕ) (at next : ℕ) (r : Reader_data) (Q : Reader_data → Type 0) → IsAfter dia v
    → (ends_a_name dia v ≡ true → (k : ℕ) → Q (record (reader_behind_link from (Some k) r) { mode = mode.Next })) → Lands (feed_word dia from word v at next r) Q
name_follows dia _ (a_turn v e) from word at next r Q after h = absurd (cc (sym e ∙ after))
name_follows dia _ (a_broken k) from word at next r Q after h = faulty_calm k
name_follows dia _ (a_name v e) from word at next r Q after h =
    subst (λ (x : Fed). Lands x Q) (sym (by_name dia v from word at next r e)) (named_lands (nearest_binding word r.bound) from at r Q (h e))

pub name_lands : (dia : Dialect) (v : Sign) (from : Link) (word : List ℕ) (at next : ℕ) (r : Reader_data) (Q : Reader_data → Type 0) → IsAfter dia v
    → (ends_a_name dia v ≡ true → (k : ℕ) → Q (record (reader_behind_link from (Some k) r) { mode = mode.Next })) → Lands (feed_word dia from word v at next r) Q
name_lands dia v from word at next r Q after h = name_follows dia v (follower dia v) from word at next r Q after h

-- an arm more is no act more
with_arm_length : (arm : DraftArm) (found : Option Draft_data) (drafts : List Draft_data) (k : ℕ) → length (with_arm arm found drafts k) ≡ length drafts
with_arm_length arm None drafts k = refl
with_arm_length arm (Some d) drafts k = length-set drafts k _

pub linked_length : (from : Link) (target : Option ℕ) (drafts : List Draft_data) → length (drafts_behind_link from target drafts) ≡ length drafts
linked_length link.Start target drafts = refl
linked_length (link.OfArm act label sort) target drafts = with_arm_length _ (slice_get drafts act) drafts act

pub placed_length : (from : Link) (q : Head) (r : Reader_data) → length (reader_at_head from q r).drafts ≡ suc (length r.drafts)
placed_length from q r = length-append (drafts_behind_link from (Some (length r.drafts)) r.drafts) _ ∙ ap (λ z. z + 1) (linked_length from (Some (length r.drafts)) r.drafts) ∙ omega arith

-- ---- arms

message_leads : (E : TextKind → Type 0) (act : ℕ) (x : Result MessageFed TextFault) (r : Reader_data) (Q : Reader_data → Type 0) → LandsOr E x (λ m. LandsOr E (in_message act (Ok m) r) Q)
    → LandsOr E (in_message act x r) Q
message_leads E act (Ok m) r Q h = h
message_leads E act (Err e) r Q h = h

message_same : (act : ℕ) (x : Result MessageFed TextFault) (r : Reader_data) (m : Mode) → in_message act x (record r { mode = m }) ≡ in_message act x r
message_same act (Err e) r m = refl
message_same act (Ok (goes_on labels p)) r m = refl
message_same act (Ok (ends l s)) r m = refl

label_fed : (dia : Dialect) (l : List ℕ) (act : ℕ) (at : ℕ) (n : Lexeme) (r : Reader_data)
    → feed_sign (feeding dia) (word_sign l) at n (record r { mode = mode.InMessage act place.Label }) ≡ in_message act (feed_label_number (place_of l r.labels) l at r.labels) r
label_fed dia l act at n r =
    let here : Mode = mode.InMessage act place.Label in
    word_fed (feeding dia) (word_sign l) l at n (record r { mode = here }) (label_seen l)
    ∙ ap (λ z. in_message act (feed_label wanted.Label z at r.labels) (record r { mode = here })) (label_seen l)
    ∙ message_same act (feed_label_number (place_of l r.labels) l at r.labels) r here

-- the label of an arm is taken where there is room for it
pub label_leads : (dia : Dialect) (E : TextKind → Type 0) (l : List ℕ) (act : ℕ) (at : ℕ) (n : Lexeme) (r : Reader_data) (Q : Reader_data → Type 0)
    → (has_room l r.labels ≡ false → E kind.TooManyLabels)
    → (has_room l r.labels ≡ true → (k : ℕ) → place_of l (names_with r.labels (l ∷ [])) ≡ Some k
    → Q (record r { labels = names_with r.labels (l ∷ []); mode = mode.InMessage act (place.Paren (label_of_number k)) }))
    → LandsOr E (feed_sign (feeding dia) (word_sign l) at n (record r { mode = mode.InMessage act place.Label })) Q
label_leads dia E l act at n r Q f h = subst (λ (x : Fed). LandsOr E x Q) (sym (label_fed dia l act at n r))
    (message_leads E act (feed_label_number (place_of l r.labels) l at r.labels) r Q (labelled_lands E (λ m. LandsOr E (in_message act (Ok m) r) Q) (place_of l r.labels) l at r.labels refl f h))

pub label_lands : (dia : Dialect) (l : List ℕ) (act : ℕ) (at : ℕ) (n : Lexeme) (r : Reader_data) (Q : Reader_data → Type 0)
    → ((k : Label) → Q (record r { labels = names_with r.labels (l ∷ []); mode = mode.InMessage act (place.Paren k) }))
    → Lands (feed_sign (feeding dia) (word_sign l) at n (record r { mode = mode.InMessage act place.Label })) Q
label_lands dia l act at n r Q h = label_leads dia NotExpected l act at n r Q (λ full. tt) (λ room k e. h (label_of_number k))

-- behind the label of an arm
pub sort_leads : (dia : Dialect) (E : TextKind → Type 0) (s : Option Sort) (act : ℕ) (label : Label) (r : Reader_data) (ts : List Sign) (u : Sign) (Q : Reader_data → Type 0)
    → LeadsOr (feeding dia) E ts u Q (record r { mode = mode.ArmDot act label (sort_or_unit s) })
    → LeadsOr (feeding dia) E (open_paren ∷ (sort_signs s ++ close_paren ∷ ts)) u Q (record r { mode = mode.InMessage act (place.Paren label) })
sort_leads dia E None act label r ts u Q h = λ a f n. λ a f n. h
sort_leads dia E (Some s) act label r ts u Q h = λ a f n. λ a f n.
    subst (λ (o : Option Sort). LandsOr E (in_message act (feed_sort_word o label a r.labels) (record r { mode = mode.InMessage act (place.Sort label) }))
    (λ d. LeadsOr (feeding dia) E (close_paren ∷ ts) u Q d)) (sym (sort_seen s)) (λ a f n. h)

pub dot_leads : (dia : Dialect) (E : TextKind → Type 0) (s : Option Sort) (act : ℕ) (label : Label) (r : Reader_data) (ts : List Sign) (u : Sign) (Q : Reader_data → Type 0)
    → LeadsOr (feeding dia) E ts u Q (record r { mode = mode.Body (link.OfArm act label (sort_or_unit s)) })
    → LeadsOr (feeding dia) E (open_paren ∷ ((sort_signs s ++ close_paren ∷ dot ∷ []) ++ ts)) u Q (record r { mode = mode.InMessage act (place.Paren label) })
dot_leads dia E s act label r ts u Q h =
    subst (λ (z : List Sign). LeadsOr (feeding dia) E (open_paren ∷ z) u Q (record r { mode = mode.InMessage act (place.Paren label) })) (sym (append_assoc (sort_signs s) (close_paren ∷ dot ∷ []) ts))
    (sort_leads dia E s act label r (dot ∷ ts) u Q (λ a f n. h))

pub arm_passes : (dia : Dialect) (l : List ℕ) (s : Option Sort) (act : ℕ) (r : Reader_data) (ts : List Sign) (u : Sign) (Q : Reader_data → Type 0)
    → ((k : Label) (s : Sort) → Leads (feeding dia) ts u Q (record r { labels = names_with r.labels (l ∷ []); mode = mode.Body (link.OfArm act k s) }))
    → Leads (feeding dia) (arm_signs l s ++ ts) u Q (record r { mode = mode.InMessage act place.Label })
arm_passes dia l s act r ts u Q h = λ a f n. label_lands dia l act a _ r (λ d. Leads (feeding dia) (open_paren ∷ ((sort_signs s ++ close_paren ∷ dot ∷ []) ++ ts)) u Q d)
    (λ k. dot_leads dia NotExpected s act k (record r { labels = names_with r.labels (l ∷ []) }) ts u Q (h k (sort_or_unit s)))

arms_fed : (act : ℕ) (t : Sign) (l : List ℕ) (at : ℕ) (r : Reader_data) → word_text t ≡ Some l → feed_arms Acts act t at r ≡ in_message act (feed_label_number (place_of l r.labels) l at r.labels) r
arms_fed act open_brace l at r h = absurd (cc h)
arms_fed act t l at r h = ap (λ z. in_message act (feed_label wanted.LabelOrBrace z at r.labels) r) h

-- a single arm behind a head
label_moves : (l : List ℕ) (act at : ℕ) (n : Lexeme) (r : Reader_data)
    → feed_sign (feeding Acts) (word_sign l) at n (record r { mode = mode.AtArms act }) ≡ in_message act (feed_label_number (place_of l r.labels) l at r.labels) r
label_moves l act at n r =
    word_fed (feeding Acts) (word_sign l) l at n (record r { mode = mode.AtArms act }) (label_seen l) ∙ arms_fed act (word_sign l) l at (record r { mode = mode.AtArms act }) (label_seen l)
    ∙ message_same act (feed_label_number (place_of l r.labels) l at r.labels) r (mode.AtArms act)

pub lone_leads : (dia : Dialect) (E : TextKind → Type 0) (act : ℕ) (l : List ℕ) (ts : List Sign) (r : Reader_data) (u : Sign) (Q : Reader_data → Type 0)
    → LeadsOr (feeding dia) E (word_sign l ∷ ts) u Q (record r { mode = mode.InMessage act place.Label })
    → LeadsOr (feeding dia) E (lone_signs dia ++ (word_sign l ∷ ts)) u Q (record r { mode = mode.AtArms act })
lone_leads Talks E act l ts r u Q h = λ a f n. h
lone_leads Acts E act l ts r u Q h =
    λ a f n. subst (λ (x : Fed). LandsOr E x (λ d. LeadsOr (feeding Acts) E ts u Q d))
    (label_fed Acts l act a (lexeme (sign_behind ts u) f n) r ∙ sym (label_moves l act a (lexeme (sign_behind ts u) f n) r)) (h a f n)

pub acts_shape : (dia : Dialect) (x : List ℕ) (t : BehindRole dia) (l : List ℕ) (s : Option Sort) (b : Body dia) (ts : List Sign)
    → body_signs dia (acts x t l s b) ++ ts ≡ plain x ∷ (turn_signs dia t ++ (lone_signs dia ++ (arm_signs l s ++ (body_signs dia b ++ ts))))
acts_shape dia x t l s b ts =
    ap (λ z. plain x ∷ z) (append_assoc (turn_signs dia t) (lone_signs dia ++ (arm_signs l s ++ body_signs dia b)) ts
    ∙ ap (λ z. turn_signs dia t ++ z) (append_assoc (lone_signs dia) (arm_signs l s ++ body_signs dia b) ts ∙ ap (λ z. lone_signs dia ++ z) (append_assoc (arm_signs l s) (body_signs dia b) ts)))

pub offers_shape : (dia : Dialect) (x : List ℕ) (t : BehindRole dia) (arms : Branches dia) (ts : List Sign)
    → body_signs dia (offers x t arms) ++ ts ≡ plain x ∷ (turn_signs dia t ++ open_brace ∷ (branch_signs dia arms ++ close_brace ∷ ts))
offers_shape dia x t arms ts =
    ap (λ z. plain x ∷ z) (append_assoc (turn_signs dia t) (open_brace ∷ (branch_signs dia arms ++ close_brace ∷ [])) ts
    ∙ ap (λ z. turn_signs dia t ++ open_brace ∷ z) (append_assoc (branch_signs dia arms) (close_brace ∷ []) ts))

-- ---- bodies

-- behind a body names and braces are as before, and it has its labels and acts more
abbrev pub Goes : List (List ℕ) → ℕ → Reader_data → (Reader_data → Type 0) → Type 0
Goes ls n r Q =
    (labels : List (List ℕ)) (drafts : List Draft_data) (start : Option ℕ) (ended : Bool) (bound inner : BoundNames) (depth : ℕ) → labels ≡ names_with r.labels ls → length drafts ≡ length r.drafts + n
    → bound ≡ inner ++ r.bound
    → Q (record { roles = r.roles; labels = labels; role = r.role; drafts = drafts; start = start; ended = ended; bound = bound; depth = depth; frames = r.frames; mode = mode.Next })

-- the braces' names and nesting
abbrev pub frame_at : ℕ → BoundNames → ℕ → Frame
frame_at act bound depth = record { act = act; bound = length bound; depth = depth }

pub restored_bound : (inner bound outer : BoundNames) → bound ≡ inner ++ outer → drop (length bound - length outer) bound ≡ outer
restored_bound inner bound outer h =
    let n : length bound ≡ length inner + length outer = ap length h ∙ length-append inner outer in
    let m : length bound - length outer ≡ length inner = ap (λ z. z - length outer) n ∙ omega arith in
    ap (λ z. drop z bound) m ∙ ap (λ z. drop (length inner) z) h ∙ drop-append_seam inner outer

mutual
  pub passes : (dia : Dialect) (b : Body dia) (from : Link) (r : Reader_data) (ts : List Sign) (u : Sign) (Q : Reader_data → Type 0) → IsAfter dia (sign_behind ts u)
      → Goes (labels_of dia b) (acts_in dia b) r (λ e. Leads (feeding dia) ts u Q e) → Leads (feeding dia) (body_signs dia b ++ ts) u Q (record r { mode = mode.Body from })
  passes dia ends from r ts u Q h k =
      λ at f n. k r.labels (drafts_behind_link from None r.drafts) (start_behind_link from None r.start) true r.bound [] r.depth refl (linked_length from None r.drafts ∙ omega arith) refl
  passes dia (again name) from r ts u Q h k = λ at f n. name_lands dia (sign_behind ts u) from name at f (record r { mode = mode.Body from }) (λ e. Leads (feeding dia) ts u Q e) h
      (λ e j. k r.labels (drafts_behind_link from (Some j) r.drafts) (start_behind_link from (Some j) r.start) r.ended r.bound [] r.depth refl
      (linked_length from (Some j) r.drafts ∙ omega arith) refl)
  passes dia (binds name body) from r ts u Q h k =
      λ at f n. lands_if (nat_le 200 r.depth) kind.TooDeep at (Ok (record r { depth = suc r.depth; mode = mode.RecName from }))
      (λ e. Leads (feeding dia) (plain name ∷ dot ∷ (body_signs dia body ++ ts)) u Q e) tt
      (λ a f n. λ a f n. passes dia body from (record r { depth = suc r.depth; bound = (name, length r.drafts) ∷ r.bound }) ts u Q h
      (λ labels drafts start ended bound inner depth l d b. k labels drafts start ended bound (inner ++ (name, length r.drafts) ∷ []) depth l d
      (b ∙ sym (append_assoc inner ((name, length r.drafts) ∷ []) r.bound))))
  passes dia (acts x y l s body) from r ts u Q h k = subst (λ (z : List Sign). Leads (feeding dia) z u Q (record r { mode = mode.Body from })) (sym (acts_shape dia x y l s body ts))
      (head_lands dia y x from r (lone_signs dia ++ (arm_signs l s ++ (body_signs dia body ++ ts))) u Q
      (λ q. let p : Reader_data = reader_at_head from q r in
      lone_leads dia NotExpected (length r.drafts) l (open_paren ∷ ((sort_signs s ++ close_paren ∷ dot ∷ []) ++ (body_signs dia body ++ ts))) p u Q
      (arm_passes dia l s (length r.drafts) p (body_signs dia body ++ ts) u Q
      (λ label sort. passes dia body (link.OfArm (length r.drafts) label sort) (record p { labels = names_with r.labels (l ∷ []) }) ts u Q h
      (λ labels drafts start ended bound inner depth g d b. k labels drafts start ended bound inner depth g
      (let c : length p.drafts ≡ suc (length r.drafts) = placed_length from q r in d ∙ ap (λ z. z + acts_in dia body) c ∙ omega arith) b)))))
  passes dia (offers x y arms) from r ts u Q h k = subst (λ (z : List Sign). Leads (feeding dia) z u Q (record r { mode = mode.Body from })) (sym (offers_shape dia x y arms ts))
      (head_lands dia y x from r (open_brace ∷ (branch_signs dia arms ++ close_brace ∷ ts)) u Q
      (λ q. λ a f n.
      let p : Reader_data = reader_at_head from q r in
      lands_if (nat_le 200 r.depth) kind.TooDeep a (Ok (reader_in_braces (length r.drafts) p)) (λ e. Leads (feeding dia) (branch_signs dia arms ++ close_brace ∷ ts) u Q e) tt
      (branches_pass dia arms (length r.drafts) (record p { depth = suc r.depth }) (length r.drafts) r.frames (close_brace ∷ ts) u Q refl
      (λ labels drafts start ended bound inner depth g d b. λ a f n.
      k labels drafts start ended (drop (length bound - length r.bound) bound) [] (suc r.depth) g
      (let c : length p.drafts ≡ suc (length r.drafts) = placed_length from q r in d ∙ ap (λ z. z + acts_in_arms dia arms) c ∙ omega arith) (restored_bound inner bound r.bound b)))))

  pub branches_pass : (dia : Dialect) (arms : Branches dia) (act : ℕ) (r : Reader_data) (m : ℕ) (fs : List Frame) (ts : List Sign) (u : Sign) (Q : Reader_data → Type 0)
      → IsAfter dia (sign_behind ts u)
      → Goes (labels_of_arms dia arms) (acts_in_arms dia arms) (record r { frames = frame_at m r.bound r.depth ∷ fs }) (λ e. Leads (feeding dia) ts u Q e)
      → Leads (feeding dia) (branch_signs dia arms ++ ts) u Q (record r { frames = frame_at m r.bound r.depth ∷ fs; mode = mode.InMessage act place.Label })
  branches_pass dia (one l s body) act r m fs ts u Q h k =
      let o : Reader_data = record r { frames = frame_at m r.bound r.depth ∷ fs } in
      subst (λ (z : List Sign). Leads (feeding dia) z u Q (record o { mode = mode.InMessage act place.Label })) (sym (append_assoc (arm_signs l s) (body_signs dia body) ts))
      (arm_passes dia l s act o (body_signs dia body ++ ts) u Q
      (λ label sort. passes dia body (link.OfArm act label sort) (record o { labels = names_with r.labels (l ∷ []) }) ts u Q h
      (λ labels drafts start ended bound inner depth g d b. k labels drafts start ended bound inner depth g d b)))
  branches_pass dia (more l s body arms) act r m fs ts u Q h k =
      let o : Reader_data = record r { frames = frame_at m r.bound r.depth ∷ fs } in
      let shape : (arm_signs l s ++ (body_signs dia body ++ comma ∷ branch_signs dia arms)) ++ ts ≡ arm_signs l s ++ (body_signs dia body ++ comma ∷ (branch_signs dia arms ++ ts)) =
      append_assoc (arm_signs l s) (body_signs dia body ++ comma ∷ branch_signs dia arms) ts ∙ ap (λ z. arm_signs l s ++ z) (append_assoc (body_signs dia body) (comma ∷ branch_signs dia arms) ts) in
      subst (λ (z : List Sign). Leads (feeding dia) z u Q (record o { mode = mode.InMessage act place.Label })) (sym shape)
      (arm_passes dia l s act o (body_signs dia body ++ comma ∷ (branch_signs dia arms ++ ts)) u Q
      (λ label sort. passes dia body (link.OfArm act label sort) (record o { labels = names_with r.labels (l ∷ []) }) (comma ∷ (branch_signs dia arms ++ ts)) u Q refl
      (λ labels drafts start ended bound inner depth g d b. λ a f n.
      let back : Reader_data = record o { labels = labels; drafts = drafts; start = start; ended = ended } in
      subst (λ (z : BoundNames). Leads (feeding dia) (branch_signs dia arms ++ ts) u Q (record back { bound = z; mode = mode.InMessage m place.Label })) (sym (restored_bound inner bound r.bound b))
      (branches_pass dia arms m back m fs ts u Q h (λ labels' drafts' start' ended' bound' inner' depth' g' d' b'. k labels' drafts' start' ended' bound' inner' depth'
      (g' ∙ ap (λ z. names_with z (labels_of_arms dia arms)) g ∙ sym (grown_append (labels_of dia body) (labels_of_arms dia arms) (names_with r.labels (l ∷ []))))
      (d' ∙ ap (λ z. z + acts_in_arms dia arms) d ∙ omega arith) b')))))
