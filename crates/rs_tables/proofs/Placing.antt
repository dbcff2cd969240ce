-- Faults stand at the token that is read.
use Rattle.std.proofs.Common.{ℕ, ◌≤◌, List, length, Bool, true, false, ◌==◌, ◌&&◌, nat_le, if◌then◌else◌, Option, Some, None, Result, Ok, Err}
use Rattle.std.specs.Prelude.{IfErr}
use Rattle.rs_model.specs.declared.graph.Label.{Label}
use Rattle.rs_model.specs.declared.graph.Role.{Role}
use Rattle.rs_model.specs.declared.limits.TheConstants.{MOST_STATES}
use Rattle.rs_model.specs.declared.machines.State.TheVariants as state
use Rattle.rs_model.specs.declared.values.Sort.{Sort}
use Rattle.rs_bodies.specs.declared.dialects.Mark.{Mark}
use Rattle.rs_text.specs.declared.faults.TextFault.{TextFault}
use Rattle.rs_text.specs.declared.faults.TextKind.TheVariants as kind
use Rattle.rs_text.specs.declared.faults.Wanted.{Wanted}
use Rattle.rs_text.specs.Names.{place_of}
use Rattle.rs_text.specs.Readings.{fault, expected}
use Rattle.rs_text.specs.Seen.{plain_text}
use Rattle.rs_text.specs.Signs.{Sign, broken}
use Rattle.rs_text.proofs.Keeping.{StaysBelow, Below}
use Rattle.rs_text.proofs.MessageLaws.{message_below}
use Rattle.rs_text.specs.Messages.{MessageFed, goes_on, ends, feed_message}
use Rattle.rs_tables.specs.declared.reading.Mode.{Mode}
use Rattle.rs_tables.specs.declared.reading.Mode.TheVariants as mode
use Rattle.rs_tables.specs.Data.{Reader_data}
use Rattle.rs_text.specs.TokenTests.{number_value}
use Rattle.rs_tables.specs.Feeding.{Fed, in_mode, passes, feed_table_role, feed_role, feed_number, feed_state, feed_peer, feed_row, feed_mark, in_message, feed_next, feed_behind_arm, feed_at, feeding, is_some_of}
use Rattle.rs_tables.specs.Feeding.{mark_of}
use Rattle.rs_text.specs.TokenTests.{is_end, is_comma, is_close_brace}

-- the fault stands there
abbrev Stays : ℕ → Fed → Type 0
Stays n x = IfErr x (Below n)

either : (n : ℕ) (b : Bool) (x y : Fed) → Stays n x → Stays n y → Stays n (if b then x else y)
either n true x y h k = h
either n false x y h k = k

passed : (n : ℕ) (b : Bool) (w : Wanted) (m : Mode) (at : ℕ) (r : Reader_data) → at ≤ n → Stays n (passes b w m at r)
passed n true w m at r h = tt
passed n false w m at r h = h

played : (n : ℕ) (o : Option ℕ) (at : ℕ) (r : Reader_data) → at ≤ n → Stays n (feed_table_role o at r)
played n None at r h = h
played n (Some k) at r h = tt

role : (n : ℕ) (o : Option (List ℕ)) (at : ℕ) (r : Reader_data) → at ≤ n → Stays n (feed_role o at r)
role n None at r h = h
role n (Some w) at r h = played n (place_of w r.roles) at r h

counted : (n : ℕ) (o : Option ℕ) (c : Bool) (at : ℕ) (r : Reader_data) → at ≤ n → Stays n (feed_number o c at r)
counted n None c at r h = passed n (c && is_some_of r.states) _ mode.Behind at r h
counted n (Some k) c at r h = either n (k == length r.states) (if nat_le MOST_STATES (length r.states) then fault kind.TooManyNodes at else in_mode mode.BehindNumber r) (expected _ at)
    (either n (nat_le MOST_STATES (length r.states)) (fault kind.TooManyNodes at) (in_mode mode.BehindNumber r) h tt) h

met : (n : ℕ) (o : Option ℕ) (at : ℕ) (r : Reader_data) → at ≤ n → Stays n (feed_peer o at r)
met n None at r h = h
met n (Some k) at r h = tt

row : (n : ℕ) (o : Option (List ℕ)) (c : Bool) (at : ℕ) (r : Reader_data) → at ≤ n → Stays n (feed_row o c at r)
row n None c at r h = either n c (feed_state state.Done r) (expected _ at) tt h
row n (Some w) c at r h = met n (place_of w r.roles) at r h

marked : (n : ℕ) (p : Role) (o : Option Mark) (at : ℕ) (r : Reader_data) → at ≤ n → Stays n (feed_mark p o at r)
marked n p None at r h = h
marked n p (Some m) at r h = tt

message : (n : ℕ) (p : Role) (m : Mark) (x : Result MessageFed TextFault) (r : Reader_data) → IfErr x (Below n) → Stays n (in_message p m x r)
message n p m (Err e) r h = h
message n p m (Ok (goes_on labels x)) r h = tt
message n p m (Ok (ends l s)) r h = tt

next : (n : ℕ) (p : Role) (m : Mark) (l : Label) (s : Sort) (o : Option ℕ) (at : ℕ) (r : Reader_data) → at ≤ n → Stays n (feed_next p m l s o at r)
next n p m l s None at r h = h
next n p m l s (Some k) at r h = tt

behind_arm : (n : ℕ) (p : Role) (m : Mark) (g c : Bool) (at : ℕ) (r : Reader_data) → at ≤ n → Stays n (feed_behind_arm p m g c at r)
behind_arm n p m true c at r h = tt
behind_arm n p m false true at r h = tt
behind_arm n p m false false at r h = h

fed : (n : ℕ) (m : Mode) (t : Sign) (at : ℕ) (r : Reader_data) → at ≤ n → Stays n (feed_at m t at r)
fed n mode.Table t at r h = passed n _ _ mode.AtRole at r h
fed n mode.AtRole t at r h = role n (plain_text t) at r h
fed n mode.AtBrace t at r h = passed n _ _ mode.AtNumber at r h
fed n mode.AtNumber t at r h = counted n (number_value t) (is_close_brace t) at r h
fed n mode.BehindNumber t at r h = row n (plain_text t) (is_end t) at r h
fed n (mode.BehindPeer p) t at r h = marked n p (mark_of t) at r h
fed n (mode.BehindMark p m) t at r h = passed n _ _ _ at r h
fed n (mode.InMessage p m x) t at r h = message n p m (feed_message x t at r.labels) r (message_below n x t at r.labels h)
fed n (mode.AtNext p m l s) t at r h = next n p m l s (number_value t) at r h
fed n (mode.BehindArm p m) t at r h = behind_arm n p m (is_comma t) (is_close_brace t) at r h
fed n mode.Behind t at r h = h

-- no fault stands further on
pub stays_below : StaysBelow feeding
stays_below n (broken k) at next r h k' = h
stays_below n t at next r h k = fed n r.mode t at r h
