-- The names of the reader stay sound, and there are never too many heads.
use Rattle.std.proofs.Common.{◌≡◌, ◌∙◌, ℕ, suc, ◌≤◌, List, [], ◌∷◌, ◌++◌, length, Bool, true, false, ◌&&◌, Option, Some, None, Ok, Err, IfOk, cond, nat_le, nat_lt, refl, sym, ap, subst, arith}
use Rattle.std.specs.Prelude.{codes}
use Rattle.rs_model.specs.declared.graph.Role.{Role}
use Rattle.rs_text.specs.declared.faults.TextFault.{TextFault}
use Rattle.rs_text.specs.declared.faults.TextKind.TheVariants as kind
use Rattle.rs_text.specs.declared.faults.Wanted.TheVariants as wanted
use Rattle.rs_text.specs.Lexemes.{Lexeme}
use Rattle.rs_text.specs.Names.{place_of, nearest_binding, is_among, differ}
use Rattle.rs_text.specs.Signs.{Sign, rec_word, end_word, plain, arrow, bang, question, colon, dot, comma, open_brace, close_brace, broken}
use Rattle.rs_text.specs.Seen.{plain_text, word_text, is_text}
use Rattle.rs_text.specs.Readings.{feed_sign}
use Rattle.rs_bodies.specs.declared.dialects.Dialect.{Dialect}
use Rattle.rs_bodies.specs.declared.dialects.Dialect.TheVariants.{Talks, Acts}
use Rattle.rs_bodies.specs.declared.dialects.Head.{Head}
use Rattle.rs_bodies.specs.declared.reading.Frame.{Frame}
use Rattle.rs_bodies.specs.declared.reading.Link.{Link}
use Rattle.rs_bodies.specs.declared.reading.Mode.{Mode}
use Rattle.rs_bodies.specs.declared.reading.Mode.TheVariants as mode
use Rattle.rs_bodies.specs.Data.{Reader_data, Draft_data}
use Rattle.rs_bodies.specs.Dialects.{most, turns}
use Rattle.rs_bodies.specs.Feeding.{Fed, in_mode, reader_behind_link, reader_at_head, feed_new_head, feed_head_role, role_by, new_role, feed_role, feed_line, feed_at, feed_turn, feed_word, feed_body}
use Rattle.rs_bodies.specs.Feeding.{feed_receiver_role, feed_receiver, feed_bound_name, feed_next, feed_arms, feed_single, in_message, feeding}
use Rattle.rs_bodies.specs.declared.reading.Link.TheVariants as link
use Rattle.std.specs.List.{list_all}
use Rattle.std.proofs.lemmas.Bool.{leb-false}
use Rattle.rs_model.specs.Data.{Names_data}
use Rattle.rs_text.specs.Sound.{IsSound}
use Rattle.rs_text.specs.Words.{is_word, is_role_word}
use Rattle.rs_text.proofs.Basics.{some_is, both}
use Rattle.rs_text.proofs.Judging.{IsNamed}
use Rattle.rs_text.proofs.Naming.{decides_sound, new_differ, new_all}
use Rattle.rs_text.proofs.MessageLaws.{GoodLabels, GoodBehind, labels_first, label_good, message_good}
use Rattle.rs_text.specs.Messages.{MessageFed, goes_on, ends, feed_label, feed_message}
use Rattle.rs_bodies.specs.Drafts.{names_read}
use Rattle.rs_bodies.specs.Faults.{KeepsBy}
use Rattle.std.proofs.Common.{◌<◌}
use Rattle.rs_text.specs.FirstFaults.{IsWhole}
use Rattle.rs_bodies.proofs.FaultSteps.{whole_fed}
use Rattle.rs_bodies.proofs.Labels.{Takes, take_sign, is_of_talks}
use Rattle.rs_bodies.specs.Feeding.{feed_of, start_of_part, first_roles, PartAnswer, answer_of_reading, ReadsAs}
use Rattle.std.proofs.Common.{Result}
use Rattle.rs_text.specs.Readings.{Reading, read_all}
use Rattle.rs_text.proofs.Keeping.{Keeps, tokens, kept, KeptIn, if_ok}
use Rattle.rs_bodies.proofs.FaultRuns.{linked_length, placed_length}

-- names that are still sound, with further labels behind the old ones
pub record GoodNames (old : Names_data) (roles labels : List (List ℕ)) : Type 0 where
  pub roles_differ : differ roles ≡ true
  pub roles_are_words : list_all is_role_word roles ≡ true
  pub labels_good : GoodLabels old.labels labels

abbrev pub Good : (dia : Dialect) → Names_data → Reader_data → Type 0
Good dia old d = GoodNames old d.roles d.labels × (length d.drafts ≤ most dia)

keep_if : (c : Bool) (dia : Dialect) (old : Names_data) (e : TextFault) (x : Fed) → IfOk x (Good dia old) → IfOk (cond c (Err e) x) (Good dia old)
keep_if true dia old e x h = tt
keep_if false dia old e x h = h

keep_unless : (c : Bool) (dia : Dialect) (old : Names_data) (e : TextFault) (x : Fed) → IfOk x (Good dia old) → IfOk (cond c x (Err e)) (Good dia old)
keep_unless true dia old e x h = h
keep_unless false dia old e x h = tt

either : (c : Bool) (dia : Dialect) (old : Names_data) (x y : Fed) → IfOk x (Good dia old) → IfOk y (Good dia old) → IfOk (cond c x y) (Good dia old)
either true dia old x y h k = h
either false dia old x y h k = k

plain_named : (t : Sign) → IsNamed t → (w : List ℕ) → plain_text t ≡ Some w → is_role_word w ≡ true
plain_named (plain x) n w h = n w (ap plain (some_is x w h))
plain_named _ n w h = absurd (cc h)

-- ---- roles

role_pushed : (a c : Bool) (dia : Dialect) (old : Names_data) (m : Mode) (w : List ℕ) (at : ℕ) (r : Reader_data) → is_among w r.roles ≡ a → is_role_word w ≡ true → Good dia old r
    → IfOk {E = TextFault} (cond a (Err (record { kind = kind.NameTwice; at = at }))
    (cond c (Err (record { kind = kind.TooManyRoles; at = at })) (Ok (record r { roles = r.roles ++ w ∷ []; mode = m })))) (Good dia old)
role_pushed true c dia old m w at r e k h = tt
role_pushed false true dia old m w at r e k h = tt
role_pushed false false dia old m w at r e k h = (
  record {
    roles_differ = new_differ r.roles w e h.0.roles_differ;
    roles_are_words = new_all is_role_word r.roles w e h.0.roles_are_words k;
    labels_good = h.0.labels_good;
  },
  h.1,
)

keep_new_role : (dia : Dialect) (old : Names_data) (m : Mode) (o : Option (List ℕ)) (at : ℕ) (r : Reader_data) → ((w : List ℕ) → o ≡ Some w → is_role_word w ≡ true) → Good dia old r
    → IfOk (new_role m o at r) (Good dia old)
keep_new_role dia old m None at r k h = tt
keep_new_role dia old m (Some w) at r k h = role_pushed (is_among w r.roles) (nat_le 16 (length r.roles)) dia old m w at r refl (k w refl) h

keep_protocol : (dia : Dialect) (old : Names_data) (t : Sign) (at : ℕ) (r : Reader_data) → Good dia old r
    → IfOk (cond (is_text (codes "protocol") (plain_text t)) (in_mode (mode.Body link.Start) r) (Err (record { kind = kind.Expected wanted.CommaOrProtocol; at = at }))) (Good dia old)
keep_protocol dia old t at r h = keep_unless (is_text (codes "protocol") (plain_text t)) dia old (record { kind = kind.Expected wanted.CommaOrProtocol; at = at }) (in_mode (mode.Body link.Start) r) h

keep_line : (dia : Dialect) (old : Names_data) (t : Sign) (at : ℕ) (r : Reader_data) → Good dia old r → IfOk (feed_line t at r) (Good dia old)
keep_line dia old comma at r h = h
keep_line dia old t at r h = keep_protocol dia old t at r h

keep_role : (dia : Dialect) (old : Names_data) (o : Option ℕ) (at : ℕ) (r : Reader_data) → Good dia old r → IfOk (role_by o at r) (Good dia old)
keep_role dia old None at r h = tt
keep_role dia old (Some k) at r h = h

keep_own : (dia : Dialect) (old : Names_data) (o : Option (List ℕ)) (at : ℕ) (r : Reader_data) → Good dia old r → IfOk (feed_role o at r) (Good dia old)
keep_own dia old None at r h = tt
keep_own dia old (Some w) at r h = keep_role dia old (place_of w r.roles) at r h

-- ---- labels

keep_message : (dia : Dialect) (old : Names_data) (act : ℕ) (x : Result MessageFed TextFault) (r : Reader_data) → IfOk x (GoodBehind old.labels r.labels) → Good dia old r
    → IfOk (in_message act x r) (Good dia old)
keep_message dia old act (Err e) r k h = tt
keep_message dia old act (Ok (goes_on labels p)) r k h = (record { roles_differ = h.0.roles_differ; roles_are_words = h.0.roles_are_words; labels_good = k }, h.1)
keep_message dia old act (Ok (ends l s)) r k h = h

keep_single : (dia : Dialect) (old : Names_data) (act : ℕ) (t : Sign) (at : ℕ) (r : Reader_data) → IsNamed t → Good dia old r → IfOk (feed_single dia act t at r) (Good dia old)
keep_single Talks old act colon at r n h = h
keep_single Talks old act _ at r n h = tt
keep_single Acts old act t at r n h =
    keep_message Acts old act (feed_label wanted.LabelOrBrace (word_text t) at r.labels) r (label_good old.labels r.labels wanted.LabelOrBrace t at n h.0.labels_good) h

keep_arms : (dia : Dialect) (old : Names_data) (act : ℕ) (t : Sign) (at : ℕ) (r : Reader_data) → IsNamed t → Good dia old r → IfOk (feed_arms dia act t at r) (Good dia old)
keep_arms dia old act open_brace at r n h = keep_if (nat_le 200 r.depth) dia old _ _ h
keep_arms dia old act t at r n h = keep_single dia old act t at r n h

-- ---- heads

linked_few : (m : ℕ) (from : Link) (target : Option ℕ) (r : Reader_data) → length r.drafts ≤ m → length (reader_behind_link from target r).drafts ≤ m
linked_few m from target r h = subst (λ (z : ℕ). z ≤ m) (sym (linked_length from target r.drafts)) h

headed_few : (c : Bool) (dia : Dialect) (old : Names_data) (from : Link) (p : Head) (at : ℕ) (r : Reader_data) → nat_le (most dia) (length r.drafts) ≡ c → Good dia old r
    → IfOk {E = TextFault} (cond c (Err (record { kind = kind.TooManyNodes; at = at })) (Ok (reader_at_head from p r))) (Good dia old)
headed_few true dia old from p at r e h = tt
headed_few false dia old from p at r e h =
    let n : length (reader_at_head from p r).drafts ≡ suc (length r.drafts) = placed_length from p r in
    let room : length r.drafts < most dia = leb-false (most dia) (length r.drafts) e in
    (h.0, omega arith)

keep_headed : (dia : Dialect) (old : Names_data) (from : Link) (p : Head) (at : ℕ) (r : Reader_data) → Good dia old r → IfOk (feed_new_head dia from p at r) (Good dia old)
keep_headed dia old from p at r h = headed_few (nat_le (most dia) (length r.drafts)) dia old from p at r refl h

keep_met : (dia : Dialect) (old : Names_data) (o : Option ℕ) (from : Link) (at : ℕ) (r : Reader_data) → Good dia old r → IfOk (feed_head_role dia o from at r) (Good dia old)
keep_met dia old None from at r h = tt
keep_met dia old (Some k) from at r h = keep_if (nat_le (most dia) (length r.drafts)) dia old _ _ h

keep_turn : (dia : Dialect) (old : Names_data) (from : Link) (p : Role) (t : Sign) (at : ℕ) (r : Reader_data) → Good dia old r → IfOk (feed_turn dia from p t at r) (Good dia old)
keep_turn Talks old from p arrow at r h = h
keep_turn Talks old from p _ at r h = tt
keep_turn Acts old from p bang at r h = keep_headed Acts old from _ at r h
keep_turn Acts old from p question at r h = keep_headed Acts old from _ at r h
keep_turn Acts old from p _ at r h = tt

keep_received : (dia : Dialect) (old : Names_data) (o : Option ℕ) (from : Link) (p : Role) (at : ℕ) (r : Reader_data) → Good dia old r → IfOk (feed_receiver_role dia o from p at r) (Good dia old)
keep_received dia old None from p at r h = tt
keep_received dia old (Some q) from p at r h = keep_headed dia old from _ at r h

keep_receiver : (dia : Dialect) (old : Names_data) (from : Link) (p : Role) (o : Option (List ℕ)) (at : ℕ) (r : Reader_data) → Good dia old r → IfOk (feed_receiver dia from p o at r) (Good dia old)
keep_receiver dia old from p None at r h = tt
keep_receiver dia old from p (Some w) at r h = keep_received dia old (place_of w r.roles) from p at r h

-- ---- bodies

keep_named : (dia : Dialect) (old : Names_data) (o : Option ℕ) (from : Link) (at : ℕ) (r : Reader_data) → Good dia old r → IfOk (feed_bound_name o from at r) (Good dia old)
keep_named dia old None from at r h = tt
keep_named dia old (Some k) from at r h =
    keep_unless (nat_lt k (length r.drafts)) dia old (record { kind = kind.Unguarded; at = at }) (in_mode mode.Next (reader_behind_link from (Some k) r))
    (h.0, linked_few (most dia) from (Some k) r h.1)

keep_word : (dia : Dialect) (old : Names_data) (from : Link) (w : List ℕ) (s : Sign) (at next : ℕ) (r : Reader_data) → Good dia old r → IfOk (feed_word dia from w s at next r) (Good dia old)
keep_word dia old from w (broken k) at next r h = tt
keep_word dia old from w s at next r h =
    either (turns dia s) dia old (feed_head_role dia (place_of w r.roles) from at r) (feed_bound_name (nearest_binding w r.bound) from at r) (keep_met dia old (place_of w r.roles) from at r h)
    (keep_named dia old (nearest_binding w r.bound) from at r h)

keep_body : (dia : Dialect) (old : Names_data) (from : Link) (t : Sign) (at : ℕ) (next : Lexeme) (r : Reader_data) → Good dia old r → IfOk (feed_body dia from t at next r) (Good dia old)
keep_body dia old from rec_word at next r h = keep_if (nat_le 200 r.depth) dia old _ _ h
keep_body dia old from end_word at next r h = (h.0, linked_few (most dia) from None r h.1)
keep_body dia old from (plain w) at next r h = keep_word dia old from w next.sign at next.from r h
keep_body dia old from _ at next r h = tt

keep_next : (dia : Dialect) (old : Names_data) (fs : List Frame) (t : Sign) (at : ℕ) (r : Reader_data) → Good dia old r → IfOk (feed_next fs t at r) (Good dia old)
keep_next dia old [] t at r h = tt
keep_next dia old (f ∷ fs) comma at r h = h
keep_next dia old (f ∷ fs) close_brace at r h = h
keep_next dia old (f ∷ fs) _ at r h = tt

keep_at : (dia : Dialect) (old : Names_data) (m : Mode) (t : Sign) (at : ℕ) (next : Lexeme) (r : Reader_data) → IsNamed t → Good dia old r → IfOk (feed_at dia m t at next r) (Good dia old)
keep_at dia old mode.Roles t at next r n h = keep_unless (is_text (codes "roles") (plain_text t)) dia old _ _ h
keep_at dia old mode.FirstRole t at next r n h = keep_new_role dia old _ (plain_text t) at r (plain_named t n) h
keep_at dia old mode.FirstComma comma at next r n h = h
keep_at dia old mode.FirstComma _ at next r n h = tt
keep_at dia old mode.FurtherRole t at next r n h = keep_new_role dia old _ (plain_text t) at r (plain_named t n) h
keep_at dia old mode.Line t at next r n h = keep_line dia old t at r h
keep_at dia old mode.Machine t at next r n h = keep_unless (is_text (codes "machine") (plain_text t)) dia old _ _ h
keep_at dia old mode.AtRole t at next r n h = keep_own dia old (plain_text t) at r h
keep_at dia old mode.AtColon colon at next r n h = h
keep_at dia old mode.AtColon _ at next r n h = tt
keep_at dia old (mode.Body from) t at next r n h = keep_body dia old from t at next r h
keep_at dia old (mode.RecName from) (plain w) at next r n h = h
keep_at dia old (mode.RecName from) _ at next r n h = tt
keep_at dia old (mode.RecDot from) dot at next r n h = h
keep_at dia old (mode.RecDot from) _ at next r n h = tt
keep_at dia old (mode.AtTurn from p) t at next r n h = keep_turn dia old from p t at r h
keep_at dia old (mode.Receiver from p) t at next r n h = keep_receiver dia old from p (plain_text t) at r h
keep_at dia old (mode.AtArms act) t at next r n h = keep_arms dia old act t at r n h
keep_at dia old (mode.InMessage act p) t at next r n h = keep_message dia old act (feed_message p t at r.labels) r (message_good old.labels r.labels p t at n h.0.labels_good) h
keep_at dia old (mode.ArmDot act l s) dot at next r n h = h
keep_at dia old (mode.ArmDot act l s) _ at next r n h = tt
keep_at dia old mode.Next t at next r n h = keep_next dia old r.frames t at r h

-- ---- a machine has the roles that were there

abbrev pub Own : (dia : Dialect) → Names_data → Reader_data → Type 0
Own Talks old d = Unit {0}
Own Acts old d = (d.roles ≡ old.roles) × (is_of_talks d.mode ≡ false)

own_on : (dia : Dialect) (old : Names_data) (t : Sign) (at : ℕ) (next : Lexeme) (r d : Reader_data) → IsWhole t → feed_of dia t at next r ≡ Ok d → Own dia old r → Own dia old d
own_on Talks old t at next r d w e own = tt
own_on Acts old t at next r d w e own =
    let h = if_ok (feed_sign (feeding Acts) t at next r) d (Takes t r) (whole_fed Acts t at next r w ∙ e) (take_sign t at next r own.1) in
    (h.3 ∙ own.0, h.2)

-- ---- as the loop needs it

abbrev pub Kept : (dia : Dialect) → Names_data → Reader_data → Type 0
Kept dia old d = Good dia old d × Own dia old d

both_kept : (P Q : Reader_data → Type 0) (x : Fed) → IfOk x P → ((d : Reader_data) → x ≡ Ok d → Q d) → IfOk x (λ d. P d × Q d)
both_kept P Q (Err e) h k = tt
both_kept P Q (Ok d) h k = (h, k d refl)

-- a token that is taken keeps the names good
pub kept_each : (dia : Dialect) (old : Names_data) → Keeps (feeding dia) (Kept dia old)
kept_each dia old (broken k) at n r name h = tt
kept_each dia old t at n r name h =
    both_kept (Good dia old) (Own dia old) (feed_of dia t at n r) (keep_at dia old r.mode t at n r name h.0) (λ d f. own_on dia old t at n r d tt f h.1)

own_first : (dia : Dialect) (r : Reader_data) → r ≡ start_of_part dia (names_read r) → Own dia (names_read r) r
own_first Talks r e = tt
own_first Acts r e = (refl, ap (λ z. is_of_talks z.mode) e)

-- names that were sound are good at first
pub kept_first : (dia : Dialect) (r : Reader_data) → r ≡ start_of_part dia (names_read r) → IsSound (names_read r) → Kept dia (names_read r) r
kept_first dia r begun s =
    let t = both (differ r.roles && list_all is_role_word r.roles) (differ r.labels && list_all is_word r.labels) ((decides_sound (names_read r)).1 s) in
    let v = both (differ r.roles) (list_all is_role_word r.roles) t.0 in
    let none : r.drafts ≡ [] = ap (λ z. z.drafts) begun in
    let few : length r.drafts ≤ most dia = subst (λ (z : List Draft_data). length z ≤ most dia) (sym none) (omega arith) in
    let good : GoodNames (names_read r) r.roles r.labels = record { roles_differ = v.0; roles_are_words = v.1; labels_good = labels_first (names_read r) s } in
    ((good, few), own_first dia r begun)

pub kept_sound : (dia : Dialect) (old : Names_data) (r : Reader_data) → Kept dia old r → IsSound (names_read r)
kept_sound dia old r g = (decides_sound (names_read r)).0 (rw (g.0.0.roles_differ, g.0.0.roles_are_words, g.0.0.labels_good.labels_differ, g.0.0.labels_good.words) refl)

pub kept_keeps : (dia : Dialect) (old : Names_data) (r : Reader_data) → Kept dia old r → KeepsBy dia old (names_read r)
kept_keeps Talks old r g = tt
kept_keeps Acts old r g = record { later = g.0.0.labels_good.later; roles = g.1.0; labels = g.0.0.labels_good.labels_are }

-- ---- what is read

keep_sign : (dia : Dialect) (old : Names_data) (t : Sign) (at : ℕ) (next : Lexeme) (r : Reader_data) → IsNamed t → Good dia old r → IfOk (feed_sign (feeding dia) t at next r) (Good dia old)
keep_sign dia old (broken k) at next r n h = tt
keep_sign dia old t at next r n h = keep_at dia old r.mode t at next r n h

good_begun : (dia : Dialect) (old : Names_data) → old.roles ≡ first_roles dia old → IsSound old → Good dia old (start_of_part dia old)
good_begun dia old first s =
    let t = both (differ old.roles && list_all is_role_word old.roles) (differ old.labels && list_all is_word old.labels) ((decides_sound old).1 s) in
    let v = both (differ old.roles) (list_all is_role_word old.roles) t.0 in
    let good : GoodNames old old.roles old.labels = record { roles_differ = v.0; roles_are_words = v.1; labels_good = labels_first old s } in
    (subst (λ (z : List (List ℕ)). GoodNames old z old.labels) first good, omega arith)

abbrev SoundAnswer : PartAnswer → Type 0
SoundAnswer a = IsSound a.names

on_answer : (dia : Dialect) (old : Names_data) (x : Result (Reading Reader_data) TextFault) → IfOk x (KeptIn (Good dia old)) → IfOk (answer_of_reading x) SoundAnswer
on_answer dia old (Ok x) h = (decides_sound (names_read x.reader)).0 (rw (h.0.roles_differ, h.0.roles_are_words, h.0.labels_good.labels_differ, h.0.labels_good.words) refl)
on_answer dia old (Err e) h = tt

-- what is read has names that texts can have
pub is_sound : (dia : Dialect) (old : Names_data) (bytes : List ℕ) (at : ℕ) (a : PartAnswer) → old.roles ≡ first_roles dia old → IsSound old → at ≤ length bytes → ReadsAs dia old bytes at (Ok a)
    → IsSound a.names
is_sound dia old bytes at a first s h p =
    let t = tokens bytes at h in
    subst (λ (z : Result PartAnswer TextFault). IfOk z SoundAnswer) (p t.0 t.1)
    (on_answer dia old (read_all (feeding dia) (Ok (start_of_part dia old)) t.0)
    (kept (feeding dia) (Good dia old) (λ t at n r name k. keep_sign dia old t at n r name k) (start_of_part dia old) (good_begun dia old first s) bytes at t.0 t.1))
