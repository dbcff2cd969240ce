-- Faults stand at the token that is read.
use Rattle.std.proofs.Common.{ℕ, suc, ◌≤◌, List, length, Bool, true, false, ◌==◌, ◌&&◌, nat_le, if◌then◌else◌, Option, Some, None, Result, Ok, Err}
use Rattle.std.specs.Prelude.{IfErr}
use Rattle.rs_model.specs.declared.graph.Role.{Role}
use Rattle.rs_model.specs.declared.limits.TheConstants.{MOST_BOUND, MOST_CANDIDATES}
use Rattle.rs_prefix.specs.declared.earliest.ActKind.{ActKind}
use Rattle.rs_text.specs.declared.faults.TextFault.{TextFault}
use Rattle.rs_text.specs.declared.faults.TextKind.TheVariants as kind
use Rattle.rs_text.specs.declared.faults.Wanted.{Wanted}
use Rattle.rs_text.specs.Names.{place_of}
use Rattle.rs_text.specs.Readings.{fault, expected}
use Rattle.rs_text.specs.Seen.{plain_text}
use Rattle.rs_text.specs.Signs.{Sign, broken}
use Rattle.rs_text.proofs.Keeping.{StaysBelow, Below}
use Rattle.rs_text.proofs.MessageLaws.{message_below}
use Rattle.rs_text.specs.Messages.{MessageFed, goes_on, ends, feed_message}
use Rattle.rs_derivations.specs.declared.formats.Format.{Format}
use Rattle.rs_derivations.specs.declared.formats.Format.TheVariants.{One, Two}
use Rattle.rs_derivations.specs.Derivations.{acts_of_number}
use Rattle.rs_derivations.specs.declared.reading.Mode.{Mode}
use Rattle.rs_derivations.specs.declared.reading.Mode.TheVariants as mode
use Rattle.rs_derivations.specs.Data.{Reader_data}
use Rattle.rs_text.specs.TokenTests.{number_value}
use Rattle.rs_derivations.specs.Feeding.{Fed, in_mode, passes, feed_derivation_role, feed_role, feed_behind_role, feed_format, feed_bound, behind_brace, beginning, feed_beginning, feed_list_number, feed_node, feed_state}
use Rattle.rs_derivations.specs.Feeding.{feed_pending_number, feed_acts_end, feed_peer, feed_no_act, feed_act, feed_mark, in_message, feed_list_end, feed_behind_acts, feed_behind_act, feed_above, feed_rank, feed_node_end, feed_next}
use Rattle.rs_derivations.specs.Feeding.{feed_behind_next, feed_outside, feed_at, feeding, is_bound, is_some_of, is_none_of, mark_kind}
use Rattle.rs_text.specs.TokenTests.{is_comma, is_close_bracket, is_close_brace}

-- the fault stands there
abbrev Stays : ℕ → Fed → Type 0
Stays n x = IfErr x (Below n)

either : (n : ℕ) (b : Bool) (x y : Fed) → Stays n x → Stays n y → Stays n (if b then x else y)
either n true x y h k = h
either n false x y h k = k

passed : (n : ℕ) (b : Bool) (w : Wanted) (m : Mode) (at : ℕ) (r : Reader_data) → at ≤ n → Stays n (passes b w m at r)
passed n true w m at r h = tt
passed n false w m at r h = h

played : (n : ℕ) (o : Option ℕ) (at : ℕ) (r : Reader_data) → at ≤ n → Stays n (feed_derivation_role o at r)
played n None at r h = h
played n (Some k) at r h = tt

role : (n : ℕ) (o : Option (List ℕ)) (at : ℕ) (r : Reader_data) → at ≤ n → Stays n (feed_role o at r)
role n None at r h = h
role n (Some w) at r h = played n (place_of w r.roles) at r h

behind_role : (n : ℕ) (b f : Bool) (at : ℕ) (r : Reader_data) → at ≤ n → Stays n (feed_behind_role b f at r)
behind_role n true f at r h = tt
behind_role n false f at r h = passed n f _ mode.AtFormatNumber at r h

format : (n : ℕ) (o : Option ℕ) (at : ℕ) (r : Reader_data) → at ≤ n → Stays n (feed_format o at r)
format n None at r h = h
format n (Some k) at r h = either n (k == 2) (Ok (record r { format = Two; mode = mode.BehindFormat })) (expected _ at) tt h

bound : (n : ℕ) (o : Option ℕ) (at : ℕ) (r : Reader_data) → at ≤ n → Stays n (feed_bound o at r)
bound n None at r h = h
bound n (Some k) at r h = either n (is_bound k) (Ok (record r { bound = k; mode = mode.AtBrace })) (expected _ at) tt h

begin : (n : ℕ) (o : Option Mode) (at : ℕ) (r : Reader_data) → at ≤ n → Stays n (feed_beginning o at r)
begin n None at r h = h
begin n (Some m) at r h = tt

list_number : (n : ℕ) (o : Option ℕ) (at : ℕ) (r : Reader_data) → at ≤ n → Stays n (feed_list_number o at r)
list_number n None at r h = h
list_number n (Some k) at r h = passed n (k == suc (length r.lists)) _ mode.AtListColon at r h

node : (n : ℕ) (o : Option ℕ) (c : Bool) (at : ℕ) (r : Reader_data) → at ≤ n → Stays n (feed_node o c at r)
node n None c at r h = passed n (c && is_some_of r.nodes) _ mode.Behind at r h
node n (Some k) c at r h = either n (k == length r.nodes) (if nat_le MOST_CANDIDATES (length r.nodes) then fault kind.TooManyNodes at else in_mode mode.AtColon r) (expected _ at)
    (either n (nat_le MOST_CANDIDATES (length r.nodes)) (fault kind.TooManyNodes at) (in_mode mode.AtColon r) h tt) h

state : (n : ℕ) (o : Option ℕ) (at : ℕ) (r : Reader_data) → at ≤ n → Stays n (feed_state o at r)
state n None at r h = h
state n (Some k) at r h = tt

pending_number : (n : ℕ) (o : Option ℕ) (at : ℕ) (r : Reader_data) → at ≤ n → Stays n (feed_pending_number o at r)
pending_number n None at r h = h
pending_number n (Some k) at r h = either n (nat_le k (length r.lists)) (Ok (record r { node = record r.node { pending = acts_of_number r.lists k }; mode = mode.AtAboveWord })) (expected _ at) tt h

met : (n : ℕ) (o : Option ℕ) (at : ℕ) (r : Reader_data) → at ≤ n → Stays n (feed_peer o at r)
met n None at r h = h
met n (Some k) at r h = either n (nat_le MOST_BOUND (length r.acts)) (fault kind.TooManyActs at) (in_mode (mode.AtMark (record { 0 = k })) r) h tt

no_act : (n : ℕ) (f : Format) (c : Bool) (at : ℕ) (r : Reader_data) → at ≤ n → Stays n (feed_no_act f c at r)
no_act n One c at r h = either n (c && is_none_of r.acts) (feed_acts_end r) (expected _ at) tt h
no_act n Two c at r h = h

act : (n : ℕ) (o : Option (List ℕ)) (c : Bool) (at : ℕ) (r : Reader_data) → at ≤ n → Stays n (feed_act o c at r)
act n None c at r h = no_act n r.format c at r h
act n (Some w) c at r h = met n (place_of w r.roles) at r h

mark : (n : ℕ) (p : Role) (o : Option ActKind) (at : ℕ) (r : Reader_data) → at ≤ n → Stays n (feed_mark p o at r)
mark n p None at r h = h
mark n p (Some k) at r h = tt

message : (n : ℕ) (p : Role) (m : ActKind) (x : Result MessageFed TextFault) (r : Reader_data) → IfErr x (Below n) → Stays n (in_message p m x r)
message n p m (Err e) r h = h
message n p m (Ok (goes_on labels x)) r h = tt
message n p m (Ok (ends l s)) r h = tt

list_end : (n : ℕ) (o : Option Mode) (at : ℕ) (r : Reader_data) → at ≤ n → Stays n (feed_list_end o at r)
list_end n None at r h = h
list_end n (Some m) at r h = tt

behind_acts : (n : ℕ) (f : Format) (t : Sign) (at : ℕ) (r : Reader_data) → at ≤ n → Stays n (feed_behind_acts f t at r)
behind_acts n One t at r h = either n (is_close_bracket t) (feed_acts_end r) (expected _ at) tt h
behind_acts n Two t at r h = list_end n (beginning t) at r h

behind_act : (n : ℕ) (t : Sign) (at : ℕ) (r : Reader_data) → at ≤ n → Stays n (feed_behind_act t at r)
behind_act n t at r h = either n (is_comma t) (in_mode mode.AtAct r) (feed_behind_acts r.format t at r) tt (behind_acts n r.format t at r h)

above : (n : ℕ) (o : Option ℕ) (at : ℕ) (r : Reader_data) → at ≤ n → Stays n (feed_above o at r)
above n None at r h = h
above n (Some k) at r h = tt

rank : (n : ℕ) (o : Option ℕ) (at : ℕ) (r : Reader_data) → at ≤ n → Stays n (feed_rank o at r)
rank n None at r h = h
rank n (Some k) at r h = tt

next : (n : ℕ) (o : Option ℕ) (c : Bool) (at : ℕ) (r : Reader_data) → at ≤ n → Stays n (feed_next o c at r)
next n (Some k) c at r h = tt
next n None c at r h = either n (c && is_none_of r.node.next) (feed_node_end r) (expected _ at) tt h

behind_next : (n : ℕ) (g c : Bool) (at : ℕ) (r : Reader_data) → at ≤ n → Stays n (feed_behind_next g c at r)
behind_next n true c at r h = tt
behind_next n false true at r h = tt
behind_next n false false at r h = h

outside : (n : ℕ) (m : Mode) (t : Sign) (at : ℕ) (r : Reader_data) → at ≤ n → Stays n (feed_outside m t at r)
outside n mode.Derivation t at r h = passed n _ _ mode.AtRole at r h
outside n mode.AtRole t at r h = role n (plain_text t) at r h
outside n mode.BehindRole t at r h = behind_role n _ _ at r h
outside n mode.AtFormatNumber t at r h = format n (number_value t) at r h
outside n mode.BehindFormat t at r h = passed n _ _ mode.AtBound at r h
outside n mode.AtBound t at r h = bound n (number_value t) at r h
outside n mode.AtBrace t at r h = passed n _ _ (behind_brace r.format) at r h
outside n mode.AtLists t at r h = begin n (beginning t) at r h
outside n mode.AtListNumber t at r h = list_number n (number_value t) at r h
outside n mode.AtListColon t at r h = passed n _ _ mode.AtAct at r h
outside n mode.AtActs t at r h = passed n _ _ mode.AtAct at r h
outside n mode.AtAct t at r h = act n (plain_text t) (is_close_bracket t) at r h
outside n (mode.AtMark p) t at r h = mark n p (mark_kind t) at r h
outside n (mode.InMessage p m x) t at r h = message n p m (feed_message x t at r.labels) r (message_below n x t at r.labels h)
outside n mode.BehindAct t at r h = behind_act n t at r h
outside n _ t at r h = h

fed : (n : ℕ) (m : Mode) (t : Sign) (at : ℕ) (r : Reader_data) → at ≤ n → Stays n (feed_at m t at r)
fed n mode.AtNode t at r h = node n (number_value t) (is_close_brace t) at r h
fed n mode.AtColon t at r h = passed n _ _ mode.AtState at r h
fed n mode.AtState t at r h = state n (number_value t) at r h
fed n mode.AtWith t at r h = passed n _ _ mode.AtPendingNumber at r h
fed n mode.AtPendingNumber t at r h = pending_number n (number_value t) at r h
fed n mode.AtAboveWord t at r h = passed n _ _ mode.AtAbove at r h
fed n mode.AtAbove t at r h = above n (number_value t) at r h
fed n mode.AtRankWord t at r h = passed n _ _ mode.AtRank at r h
fed n mode.AtRank t at r h = rank n (number_value t) at r h
fed n mode.AtNextWord t at r h = passed n _ _ mode.AtNexts at r h
fed n mode.AtNexts t at r h = passed n _ _ mode.AtNext at r h
fed n mode.AtNext t at r h = next n (number_value t) (is_close_bracket t) at r h
fed n mode.BehindNext t at r h = behind_next n (is_comma t) (is_close_bracket t) at r h
fed n m t at r h = outside n m t at r h

-- no fault stands further on
pub stays_below : StaysBelow feeding
stays_below n (broken k) at next r h k' = h
stays_below n t at next r h k = fed n r.mode t at r h
