-- The names stay sound, and those that were there stay in their places.
use Rattle.std.proofs.Common.{◌≡◌, ◌∙◌, ℕ, suc, List, length, Bool, true, false, ◌==◌, ◌&&◌, nat_le, if◌then◌else◌, Option, Some, None, Result, Ok, Err, IfOk, refl, sym, ap, subst}
use Rattle.std.specs.List.{list_all}
use Rattle.rs_model.specs.Data.{Names_data}
use Rattle.rs_model.specs.declared.graph.Role.{Role}
use Rattle.rs_model.specs.declared.limits.TheConstants.{MOST_BOUND, MOST_CANDIDATES}
use Rattle.rs_prefix.specs.declared.earliest.ActKind.{ActKind}
use Rattle.rs_text.specs.declared.faults.TextKind.TheVariants as kind
use Rattle.rs_text.specs.declared.faults.Wanted.{Wanted}
use Rattle.rs_text.specs.Names.{place_of, differ}
use Rattle.rs_text.specs.Readings.{AreNamesBehind, fault, expected}
use Rattle.rs_text.specs.Seen.{plain_text}
use Rattle.rs_text.specs.Signs.{Sign, broken}
use Rattle.rs_text.specs.Sound.{IsSound}
use Rattle.rs_text.specs.Words.{is_word, is_role_word}
use Rattle.rs_text.proofs.Judging.{IsNamed}
use Rattle.rs_text.proofs.Basics.{both}
use Rattle.rs_text.proofs.MessageLaws.{GoodLabels, GoodBehind, labels_first, message_good}
use Rattle.rs_text.proofs.Naming.{decides_sound}
use Rattle.rs_text.specs.Messages.{MessageFed, goes_on, ends, feed_message}
use Rattle.rs_text.proofs.Keeping as kept
use Rattle.rs_text.proofs.Taking.{kept_behind}
use Rattle.rs_text.specs.declared.faults.TextFault.{TextFault}
use Rattle.rs_derivations.specs.declared.formats.Format.{Format}
use Rattle.rs_derivations.specs.declared.formats.Format.TheVariants.{One, Two}
use Rattle.rs_derivations.specs.Derivations.{acts_of_number}
use Rattle.rs_derivations.specs.declared.reading.Mode.{Mode}
use Rattle.rs_derivations.specs.declared.reading.Mode.TheVariants as mode
use Rattle.rs_derivations.specs.Data.{Reader_data}
use Rattle.rs_text.specs.TokenTests.{number_value}
use Rattle.rs_text.specs.Kept.{Keeps}
use Rattle.rs_derivations.specs.Feeding.{Fed, in_mode, passes, feed_derivation_role, feed_role, feed_behind_role, feed_format, feed_bound, behind_brace, beginning, feed_beginning, feed_list_number, feed_node, feed_state}
use Rattle.rs_derivations.specs.Feeding.{feed_pending_number, feed_acts_end, feed_peer, feed_no_act, feed_act, feed_mark, in_message, feed_list_end, feed_behind_acts, feed_behind_act, feed_above, feed_rank, feed_node_end, feed_next}
use Rattle.rs_derivations.specs.Feeding.{feed_behind_next, feed_outside, feed_at, feeding, is_bound, is_some_of, is_none_of, mark_kind, names_read}
use Rattle.rs_text.specs.TokenTests.{is_comma, is_close_bracket, is_close_brace}

-- names that are still sound, with further labels after the old ones
pub record GoodNames (old : Names_data) (roles labels : List (List ℕ)) : Type 0 where
  pub roles_are : roles ≡ old.roles
  pub labels_good : GoodLabels old.labels labels

abbrev pub Good : Names_data → Reader_data → Type 0
Good old d = GoodNames old d.roles d.labels

abbrev Stays : Names_data → Fed → Type 0
Stays old x = IfOk x (Good old)

either : (old : Names_data) (b : Bool) (x y : Fed) → Stays old x → Stays old y → Stays old (if b then x else y)
either old true x y h k = h
either old false x y h k = k

passed : (old : Names_data) (b : Bool) (w : Wanted) (m : Mode) (at : ℕ) (r : Reader_data) → Good old r → Stays old (passes b w m at r)
passed old true w m at r h = h
passed old false w m at r h = tt

played : (old : Names_data) (o : Option ℕ) (at : ℕ) (r : Reader_data) → Good old r → Stays old (feed_derivation_role o at r)
played old None at r h = tt
played old (Some k) at r h = h

role : (old : Names_data) (o : Option (List ℕ)) (at : ℕ) (r : Reader_data) → Good old r → Stays old (feed_role o at r)
role old None at r h = tt
role old (Some w) at r h = played old (place_of w r.roles) at r h

behind_role : (old : Names_data) (b f : Bool) (at : ℕ) (r : Reader_data) → Good old r → Stays old (feed_behind_role b f at r)
behind_role old true f at r h = h
behind_role old false f at r h = passed old f _ mode.AtFormatNumber at r h

format : (old : Names_data) (o : Option ℕ) (at : ℕ) (r : Reader_data) → Good old r → Stays old (feed_format o at r)
format old None at r h = tt
format old (Some k) at r h = either old (k == 2) (Ok (record r { format = Two; mode = mode.BehindFormat })) (expected _ at) h tt

bound : (old : Names_data) (o : Option ℕ) (at : ℕ) (r : Reader_data) → Good old r → Stays old (feed_bound o at r)
bound old None at r h = tt
bound old (Some k) at r h = either old (is_bound k) (Ok (record r { bound = k; mode = mode.AtBrace })) (expected _ at) h tt

begin : (old : Names_data) (o : Option Mode) (at : ℕ) (r : Reader_data) → Good old r → Stays old (feed_beginning o at r)
begin old None at r h = tt
begin old (Some m) at r h = h

list_number : (old : Names_data) (o : Option ℕ) (at : ℕ) (r : Reader_data) → Good old r → Stays old (feed_list_number o at r)
list_number old None at r h = tt
list_number old (Some k) at r h = passed old (k == suc (length r.lists)) _ mode.AtListColon at r h

node : (old : Names_data) (o : Option ℕ) (c : Bool) (at : ℕ) (r : Reader_data) → Good old r → Stays old (feed_node o c at r)
node old None c at r h = passed old (c && is_some_of r.nodes) _ mode.Behind at r h
node old (Some k) c at r h = either old (k == length r.nodes) (if nat_le MOST_CANDIDATES (length r.nodes) then fault kind.TooManyNodes at else in_mode mode.AtColon r) (expected _ at)
    (either old (nat_le MOST_CANDIDATES (length r.nodes)) (fault kind.TooManyNodes at) (in_mode mode.AtColon r) tt h) tt

state : (old : Names_data) (o : Option ℕ) (at : ℕ) (r : Reader_data) → Good old r → Stays old (feed_state o at r)
state old None at r h = tt
state old (Some k) at r h = h

pending_number : (old : Names_data) (o : Option ℕ) (at : ℕ) (r : Reader_data) → Good old r → Stays old (feed_pending_number o at r)
pending_number old None at r h = tt
pending_number old (Some k) at r h = either old (nat_le k (length r.lists)) (Ok (record r { node = record r.node { pending = acts_of_number r.lists k }; mode = mode.AtAboveWord })) (expected _ at) h tt

met : (old : Names_data) (o : Option ℕ) (at : ℕ) (r : Reader_data) → Good old r → Stays old (feed_peer o at r)
met old None at r h = tt
met old (Some k) at r h = either old (nat_le MOST_BOUND (length r.acts)) (fault kind.TooManyActs at) (in_mode (mode.AtMark (record { 0 = k })) r) tt h

no_act : (old : Names_data) (f : Format) (c : Bool) (at : ℕ) (r : Reader_data) → Good old r → Stays old (feed_no_act f c at r)
no_act old One c at r h = either old (c && is_none_of r.acts) (feed_acts_end r) (expected _ at) h tt
no_act old Two c at r h = tt

act : (old : Names_data) (o : Option (List ℕ)) (c : Bool) (at : ℕ) (r : Reader_data) → Good old r → Stays old (feed_act o c at r)
act old None c at r h = no_act old r.format c at r h
act old (Some w) c at r h = met old (place_of w r.roles) at r h

mark : (old : Names_data) (p : Role) (o : Option ActKind) (at : ℕ) (r : Reader_data) → Good old r → Stays old (feed_mark p o at r)
mark old p None at r h = tt
mark old p (Some k) at r h = h

message : (old : Names_data) (p : Role) (m : ActKind) (x : Result MessageFed TextFault) (r : Reader_data) → IfOk x (GoodBehind old.labels r.labels) → Good old r → Stays old (in_message p m x r)
message old p m (Err e) r k h = tt
message old p m (Ok (goes_on labels x)) r k h = record { roles_are = h.roles_are; labels_good = k }
message old p m (Ok (ends l s)) r k h = h

list_end : (old : Names_data) (o : Option Mode) (at : ℕ) (r : Reader_data) → Good old r → Stays old (feed_list_end o at r)
list_end old None at r h = tt
list_end old (Some m) at r h = h

behind_acts : (old : Names_data) (f : Format) (t : Sign) (at : ℕ) (r : Reader_data) → Good old r → Stays old (feed_behind_acts f t at r)
behind_acts old One t at r h = either old (is_close_bracket t) (feed_acts_end r) (expected _ at) h tt
behind_acts old Two t at r h = list_end old (beginning t) at r h

behind_act : (old : Names_data) (t : Sign) (at : ℕ) (r : Reader_data) → Good old r → Stays old (feed_behind_act t at r)
behind_act old t at r h = either old (is_comma t) (in_mode mode.AtAct r) (feed_behind_acts r.format t at r) h (behind_acts old r.format t at r h)

above : (old : Names_data) (o : Option ℕ) (at : ℕ) (r : Reader_data) → Good old r → Stays old (feed_above o at r)
above old None at r h = tt
above old (Some k) at r h = h

rank : (old : Names_data) (o : Option ℕ) (at : ℕ) (r : Reader_data) → Good old r → Stays old (feed_rank o at r)
rank old None at r h = tt
rank old (Some k) at r h = h

next : (old : Names_data) (o : Option ℕ) (c : Bool) (at : ℕ) (r : Reader_data) → Good old r → Stays old (feed_next o c at r)
next old (Some k) c at r h = h
next old None c at r h = either old (c && is_none_of r.node.next) (feed_node_end r) (expected _ at) h tt

behind_next : (old : Names_data) (g c : Bool) (at : ℕ) (r : Reader_data) → Good old r → Stays old (feed_behind_next g c at r)
behind_next old true c at r h = h
behind_next old false true at r h = h
behind_next old false false at r h = tt

outside : (old : Names_data) (m : Mode) (t : Sign) (at : ℕ) (r : Reader_data) → IsNamed t → Good old r → Stays old (feed_outside m t at r)
outside old mode.Derivation t at r n h = passed old _ _ mode.AtRole at r h
outside old mode.AtRole t at r n h = role old (plain_text t) at r h
outside old mode.BehindRole t at r n h = behind_role old _ _ at r h
outside old mode.AtFormatNumber t at r n h = format old (number_value t) at r h
outside old mode.BehindFormat t at r n h = passed old _ _ mode.AtBound at r h
outside old mode.AtBound t at r n h = bound old (number_value t) at r h
outside old mode.AtBrace t at r n h = passed old _ _ (behind_brace r.format) at r h
outside old mode.AtLists t at r n h = begin old (beginning t) at r h
outside old mode.AtListNumber t at r n h = list_number old (number_value t) at r h
outside old mode.AtListColon t at r n h = passed old _ _ mode.AtAct at r h
outside old mode.AtActs t at r n h = passed old _ _ mode.AtAct at r h
outside old mode.AtAct t at r n h = act old (plain_text t) (is_close_bracket t) at r h
outside old (mode.AtMark p) t at r n h = mark old p (mark_kind t) at r h
outside old (mode.InMessage p m x) t at r n h = message old p m (feed_message x t at r.labels) r (message_good old.labels r.labels x t at n h.labels_good) h
outside old mode.BehindAct t at r n h = behind_act old t at r h
outside old _ t at r n h = tt

fed : (old : Names_data) (m : Mode) (t : Sign) (at : ℕ) (r : Reader_data) → IsNamed t → Good old r → Stays old (feed_at m t at r)
fed old mode.AtNode t at r n h = node old (number_value t) (is_close_brace t) at r h
fed old mode.AtColon t at r n h = passed old _ _ mode.AtState at r h
fed old mode.AtState t at r n h = state old (number_value t) at r h
fed old mode.AtWith t at r n h = passed old _ _ mode.AtPendingNumber at r h
fed old mode.AtPendingNumber t at r n h = pending_number old (number_value t) at r h
fed old mode.AtAboveWord t at r n h = passed old _ _ mode.AtAbove at r h
fed old mode.AtAbove t at r n h = above old (number_value t) at r h
fed old mode.AtRankWord t at r n h = passed old _ _ mode.AtRank at r h
fed old mode.AtRank t at r n h = rank old (number_value t) at r h
fed old mode.AtNextWord t at r n h = passed old _ _ mode.AtNexts at r h
fed old mode.AtNexts t at r n h = passed old _ _ mode.AtNext at r h
fed old mode.AtNext t at r n h = next old (number_value t) (is_close_bracket t) at r h
fed old mode.BehindNext t at r n h = behind_next old (is_comma t) (is_close_bracket t) at r h
fed old m t at r n h = outside old m t at r n h

good_kept : (old : Names_data) → kept.Keeps feeding (Good old)
good_kept old (broken k) at next r name h = tt
good_kept old t at next r name h = fed old r.mode t at r name h

-- names that were sound are good at first
good_first : (r : Reader_data) → IsSound (names_read r) → Good (names_read r) r
good_first r s = record { roles_are = refl; labels_good = labels_first (names_read r) s }

good_sound : (old : Names_data) (r : Reader_data) → IsSound old → Good old r → IsSound (names_read r)
good_sound old r s g =
    let t = both (differ old.roles && list_all is_role_word old.roles) (differ old.labels && list_all is_word old.labels) ((decides_sound old).1 s) in
    let u : (differ r.roles && list_all is_role_word r.roles) ≡ true = ap (λ z. differ z && list_all is_role_word z) g.roles_are ∙ t.0 in
    (decides_sound (names_read r)).0 (rw (u, g.labels_good.labels_differ, g.labels_good.words) refl)

good_keeps : (old : Names_data) (r : Reader_data) → Good old r → Keeps old (names_read r)
good_keeps old r g = record { later = g.labels_good.later; roles = g.roles_are; labels = g.labels_good.labels_are }

-- the reader that has such names is good
good_behind : (o : Reader_data) (bytes : List ℕ) (at : ℕ) (found : Names_data) → IsSound (names_read o) → (b : AreNamesBehind feeding names_read o bytes at found) → Good (names_read o) b.reader
good_behind o bytes at found s b = kept_behind feeding (Good (names_read o)) (good_kept (names_read o)) names_read o bytes at found (good_first o s) b

-- the names are sound after any first tokens
pub sound_behind : (o : Reader_data) (bytes : List ℕ) (at : ℕ) (found : Names_data) → IsSound (names_read o) → AreNamesBehind feeding names_read o bytes at found → IsSound found
sound_behind o bytes at found s b = subst IsSound (sym b.names_are) (good_sound (names_read o) b.reader s (good_behind o bytes at found s b))

-- those that were there stay in their places
pub keeps_behind : (o : Reader_data) (bytes : List ℕ) (at : ℕ) (found : Names_data) → IsSound (names_read o) → AreNamesBehind feeding names_read o bytes at found → Keeps (names_read o) found
keeps_behind o bytes at found s b = subst (λ (z : Names_data). Keeps (names_read o) z) (sym b.names_are) (good_keeps (names_read o) b.reader (good_behind o bytes at found s b))
