-- A fault stands no further than the token behind the one that it is told at.
use Rattle.std.proofs.Common.{ℕ, ◌≤◌, List, [], ◌∷◌, ◌++◌, length, Bool, true, false, Option, Some, None, Result, Ok, Err, IfErr, cond, nat_le, nat_lt}
use Rattle.std.specs.Prelude.{codes}
use Rattle.rs_model.specs.declared.graph.Role.{Role}
use Rattle.rs_text.specs.declared.faults.TextFault.{TextFault}
use Rattle.rs_text.specs.declared.faults.TextKind.TheVariants as kind
use Rattle.rs_text.specs.declared.faults.Wanted.TheVariants as wanted
use Rattle.rs_text.specs.Lexemes.{Lexeme}
use Rattle.rs_text.specs.Names.{place_of, nearest_binding, is_among}
use Rattle.rs_text.specs.Signs.{Sign, rec_word, end_word, plain, arrow, bang, question, colon, dot, comma, open_brace, close_brace, broken}
use Rattle.rs_text.specs.Seen.{plain_text, word_text, is_text}
use Rattle.rs_text.specs.Readings.{feed_sign}
use Rattle.rs_bodies.specs.declared.dialects.Dialect.{Dialect}
use Rattle.rs_bodies.specs.declared.dialects.Dialect.TheVariants.{Talks, Acts}
use Rattle.rs_bodies.specs.declared.dialects.Head.{Head}
use Rattle.rs_bodies.specs.declared.reading.Frame.{Frame}
use Rattle.rs_bodies.specs.declared.reading.Link.{Link}
use Rattle.rs_bodies.specs.declared.reading.Link.TheVariants as link
use Rattle.rs_bodies.specs.declared.reading.Mode.{Mode}
use Rattle.rs_bodies.specs.declared.reading.Mode.TheVariants as mode
use Rattle.rs_bodies.specs.Data.{Reader_data}
use Rattle.rs_bodies.specs.Dialects.{most, turns}
use Rattle.rs_bodies.specs.Feeding.{Fed, in_mode, reader_behind_link, reader_at_head, reader_in_braces, feed_new_head, feed_head_role, role_by, new_role, feed_role, feed_line, feed_at, feed_turn}
use Rattle.rs_bodies.specs.Feeding.{feed_word, feed_body, feed_receiver_role, feed_receiver, feed_bound_name, feed_next, feed_arms, feed_single, in_message, feeding}
use Rattle.rs_text.proofs.Keeping.{Below, StaysBelow}
use Rattle.rs_text.proofs.MessageLaws.{label_below, message_below}
use Rattle.rs_text.specs.Messages.{MessageFed, goes_on, ends, feed_label, feed_message}

below_if : (n : ℕ) (c : Bool) (e : TextFault) (x : Fed) → e.at ≤ n → IfErr x (Below n) → IfErr (cond c (Err e) x) (Below n)
below_if n true e x h k = h
below_if n false e x h k = k

below_unless : (n : ℕ) (c : Bool) (e : TextFault) (x : Fed) → e.at ≤ n → IfErr x (Below n) → IfErr (cond c x (Err e)) (Below n)
below_unless n true e x h k = k
below_unless n false e x h k = h

either : (n : ℕ) (c : Bool) (x y : Fed) → IfErr x (Below n) → IfErr y (Below n) → IfErr (cond c x y) (Below n)
either n true x y h k = h
either n false x y h k = k

at_new_role : (n : ℕ) (m : Mode) (o : Option (List ℕ)) (at : ℕ) (r : Reader_data) → at ≤ n → IfErr (new_role m o at r) (Below n)
at_new_role n m None at r h = h
at_new_role n m (Some w) at r h =
    below_if n (is_among w r.roles) (record { kind = kind.NameTwice; at = at }) _ h
    (below_if n (nat_le 16 (length r.roles)) (record { kind = kind.TooManyRoles; at = at }) (Ok (record r { roles = r.roles ++ w ∷ []; mode = m })) h tt)

at_protocol : (n : ℕ) (t : Sign) (at : ℕ) (r : Reader_data) → at ≤ n
    → IfErr (cond (is_text (codes "protocol") (plain_text t)) (in_mode (mode.Body link.Start) r) (Err (record { kind = kind.Expected wanted.CommaOrProtocol; at = at }))) (Below n)
at_protocol n t at r h = below_unless n (is_text (codes "protocol") (plain_text t)) (record { kind = kind.Expected wanted.CommaOrProtocol; at = at }) (in_mode (mode.Body link.Start) r) h tt

at_line : (n : ℕ) (t : Sign) (at : ℕ) (r : Reader_data) → at ≤ n → IfErr (feed_line t at r) (Below n)
at_line n comma at r h = tt
at_line n t at r h = at_protocol n t at r h

at_role_by : (n : ℕ) (o : Option ℕ) (at : ℕ) (r : Reader_data) → at ≤ n → IfErr (role_by o at r) (Below n)
at_role_by n None at r h = h
at_role_by n (Some k) at r h = tt

at_own : (n : ℕ) (o : Option (List ℕ)) (at : ℕ) (r : Reader_data) → at ≤ n → IfErr (feed_role o at r) (Below n)
at_own n None at r h = h
at_own n (Some w) at r h = at_role_by n (place_of w r.roles) at r h

at_message : (n : ℕ) (act : ℕ) (x : Result MessageFed TextFault) (r : Reader_data) → IfErr x (Below n) → IfErr (in_message act x r) (Below n)
at_message n act (Err e) r h = h
at_message n act (Ok (goes_on labels p)) r h = tt
at_message n act (Ok (ends l s)) r h = tt

at_single : (dia : Dialect) (n : ℕ) (act : ℕ) (t : Sign) (at : ℕ) (r : Reader_data) → at ≤ n → IfErr (feed_single dia act t at r) (Below n)
at_single Talks n act colon at r h = tt
at_single Talks n act _ at r h = h
at_single Acts n act t at r h = at_message n act (feed_label wanted.LabelOrBrace (word_text t) at r.labels) r (label_below n wanted.LabelOrBrace (word_text t) at r.labels h)

at_arms : (dia : Dialect) (n : ℕ) (act : ℕ) (t : Sign) (at : ℕ) (r : Reader_data) → at ≤ n → IfErr (feed_arms dia act t at r) (Below n)
at_arms dia n act open_brace at r h = below_if n (nat_le 200 r.depth) (record { kind = kind.TooDeep; at = at }) (Ok (reader_in_braces act r)) h tt
at_arms dia n act t at r h = at_single dia n act t at r h

at_met : (dia : Dialect) (n : ℕ) (o : Option ℕ) (from : Link) (at : ℕ) (r : Reader_data) → at ≤ n → IfErr (feed_head_role dia o from at r) (Below n)
at_met dia n None from at r h = h
at_met dia n (Some k) from at r h = below_if n (nat_le (most dia) (length r.drafts)) _ _ h tt

at_named : (n : ℕ) (o : Option ℕ) (from : Link) (at : ℕ) (r : Reader_data) → at ≤ n → IfErr (feed_bound_name o from at r) (Below n)
at_named n None from at r h = h
at_named n (Some k) from at r h = below_unless n (nat_lt k (length r.drafts)) (record { kind = kind.Unguarded; at = at }) (in_mode mode.Next (reader_behind_link from (Some k) r)) h tt

at_word : (dia : Dialect) (n : ℕ) (from : Link) (w : List ℕ) (s : Sign) (at next : ℕ) (r : Reader_data) → at ≤ n → next ≤ n → IfErr (feed_word dia from w s at next r) (Below n)
at_word dia n from w (broken j) at next r h k = k
at_word dia n from w s at next r h k =
    either n (turns dia s) (feed_head_role dia (place_of w r.roles) from at r) (feed_bound_name (nearest_binding w r.bound) from at r) (at_met dia n (place_of w r.roles) from at r h)
    (at_named n (nearest_binding w r.bound) from at r h)

at_body : (dia : Dialect) (n : ℕ) (from : Link) (t : Sign) (at : ℕ) (next : Lexeme) (r : Reader_data) → at ≤ n → next.from ≤ n → IfErr (feed_body dia from t at next r) (Below n)
at_body dia n from rec_word at next r h k = below_if n (nat_le 200 r.depth) _ _ h tt
at_body dia n from end_word at next r h k = tt
at_body dia n from (plain w) at next r h k = at_word dia n from w next.sign at next.from r h k
at_body dia n from _ at next r h k = h

at_headed : (dia : Dialect) (n : ℕ) (from : Link) (p : Head) (at : ℕ) (r : Reader_data) → at ≤ n → IfErr (feed_new_head dia from p at r) (Below n)
at_headed dia n from p at r h = below_if n (nat_le (most dia) (length r.drafts)) (record { kind = kind.TooManyNodes; at = at }) (Ok (reader_at_head from p r)) h tt

at_turn : (dia : Dialect) (n : ℕ) (from : Link) (p : Role) (t : Sign) (at : ℕ) (r : Reader_data) → at ≤ n → IfErr (feed_turn dia from p t at r) (Below n)
at_turn Talks n from p arrow at r h = tt
at_turn Talks n from p _ at r h = h
at_turn Acts n from p bang at r h = at_headed Acts n from _ at r h
at_turn Acts n from p question at r h = at_headed Acts n from _ at r h
at_turn Acts n from p _ at r h = h

at_received : (dia : Dialect) (n : ℕ) (o : Option ℕ) (from : Link) (p : Role) (at : ℕ) (r : Reader_data) → at ≤ n → IfErr (feed_receiver_role dia o from p at r) (Below n)
at_received dia n None from p at r h = h
at_received dia n (Some q) from p at r h = at_headed dia n from _ at r h

at_receiver : (dia : Dialect) (n : ℕ) (from : Link) (p : Role) (o : Option (List ℕ)) (at : ℕ) (r : Reader_data) → at ≤ n → IfErr (feed_receiver dia from p o at r) (Below n)
at_receiver dia n from p None at r h = h
at_receiver dia n from p (Some w) at r h = at_received dia n (place_of w r.roles) from p at r h

at_next : (n : ℕ) (fs : List Frame) (t : Sign) (at : ℕ) (r : Reader_data) → at ≤ n → IfErr (feed_next fs t at r) (Below n)
at_next n [] t at r h = h
at_next n (f ∷ fs) comma at r h = tt
at_next n (f ∷ fs) close_brace at r h = tt
at_next n (f ∷ fs) _ at r h = h

at_mode : (dia : Dialect) (n : ℕ) (m : Mode) (t : Sign) (at : ℕ) (next : Lexeme) (r : Reader_data) → at ≤ n → next.from ≤ n → IfErr (feed_at dia m t at next r) (Below n)
at_mode dia n mode.Roles t at next r h k = below_unless n (is_text (codes "roles") (plain_text t)) (record { kind = kind.Expected wanted.Roles; at = at }) (in_mode mode.FirstRole r) h tt
at_mode dia n mode.FirstRole t at next r h k = at_new_role n _ (plain_text t) at r h
at_mode dia n mode.FirstComma comma at next r h k = tt
at_mode dia n mode.FirstComma _ at next r h k = h
at_mode dia n mode.FurtherRole t at next r h k = at_new_role n _ (plain_text t) at r h
at_mode dia n mode.Line t at next r h k = at_line n t at r h
at_mode dia n mode.Machine t at next r h k = below_unless n (is_text (codes "machine") (plain_text t)) (record { kind = kind.Expected wanted.PartOrEnd; at = at }) (in_mode mode.AtRole r) h tt
at_mode dia n mode.AtRole t at next r h k = at_own n (plain_text t) at r h
at_mode dia n mode.AtColon colon at next r h k = tt
at_mode dia n mode.AtColon _ at next r h k = h
at_mode dia n (mode.Body from) t at next r h k = at_body dia n from t at next r h k
at_mode dia n (mode.RecName from) (plain w) at next r h k = tt
at_mode dia n (mode.RecName from) _ at next r h k = h
at_mode dia n (mode.RecDot from) dot at next r h k = tt
at_mode dia n (mode.RecDot from) _ at next r h k = h
at_mode dia n (mode.AtTurn from p) t at next r h k = at_turn dia n from p t at r h
at_mode dia n (mode.Receiver from p) t at next r h k = at_receiver dia n from p (plain_text t) at r h
at_mode dia n (mode.AtArms act) t at next r h k = at_arms dia n act t at r h
at_mode dia n (mode.InMessage act p) t at next r h k = at_message n act (feed_message p t at r.labels) r (message_below n p t at r.labels h)
at_mode dia n (mode.ArmDot act l s) dot at next r h k = tt
at_mode dia n (mode.ArmDot act l s) _ at next r h k = h
at_mode dia n mode.Next t at next r h k = at_next n r.frames t at r h

at_sign : (dia : Dialect) (n : ℕ) (t : Sign) (at : ℕ) (next : Lexeme) (r : Reader_data) → at ≤ n → next.from ≤ n → IfErr (feed_sign (feeding dia) t at next r) (Below n)
at_sign dia n (broken j) at next r h k = h
at_sign dia n t at next r h k = at_mode dia n r.mode t at next r h k

pub stays_below : (dia : Dialect) → StaysBelow (feeding dia)
stays_below dia n t at next r h k = at_sign dia n t at next r h k
