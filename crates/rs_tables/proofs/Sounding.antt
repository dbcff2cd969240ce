-- The names stay sound, and those that were there stay in their places.
use Rattle.std.proofs.Common.{◌≡◌, ◌∙◌, ℕ, List, length, Bool, true, false, ◌==◌, ◌&&◌, nat_le, if◌then◌else◌, Option, Some, None, Result, Ok, Err, IfOk, refl, sym, ap, subst}
use Rattle.std.specs.List.{list_all}
use Rattle.rs_model.specs.Data.{Names_data}
use Rattle.rs_model.specs.declared.graph.Role.{Role}
use Rattle.rs_model.specs.declared.limits.TheConstants.{MOST_STATES}
use Rattle.rs_model.specs.declared.graph.Label.{Label}
use Rattle.rs_model.specs.declared.machines.State.TheVariants as state
use Rattle.rs_model.specs.declared.values.Sort.{Sort}
use Rattle.rs_bodies.specs.declared.dialects.Mark.{Mark}
use Rattle.rs_text.specs.declared.faults.TextKind.TheVariants as kind
use Rattle.rs_text.specs.declared.faults.Wanted.{Wanted}
use Rattle.rs_text.specs.Names.{place_of, differ}
use Rattle.rs_text.specs.Readings.{AreNamesBehind, fault, expected}
use Rattle.rs_text.specs.Seen.{plain_text}
use Rattle.rs_text.specs.Signs.{Sign, broken}
use Rattle.rs_text.specs.Sound.{IsSound}
use Rattle.rs_text.specs.Words.{is_word, is_role_word}
use Rattle.rs_text.proofs.Judging.{IsNamed}
use Rattle.rs_text.proofs.Basics.{both}
use Rattle.rs_text.proofs.MessageLaws.{GoodLabels, GoodBehind, labels_first, message_good}
use Rattle.rs_text.proofs.Naming.{decides_sound}
use Rattle.rs_text.specs.Messages.{MessageFed, goes_on, ends, feed_message}
use Rattle.rs_text.proofs.Keeping as kept
use Rattle.rs_text.proofs.Taking.{kept_behind}
use Rattle.rs_text.specs.declared.faults.TextFault.{TextFault}
use Rattle.rs_tables.specs.declared.reading.Mode.{Mode}
use Rattle.rs_tables.specs.declared.reading.Mode.TheVariants as mode
use Rattle.rs_tables.specs.Data.{Reader_data}
use Rattle.rs_text.specs.TokenTests.{number_value}
use Rattle.rs_text.specs.Kept.{Keeps}
use Rattle.rs_tables.specs.Feeding.{Fed, in_mode, passes, feed_table_role, feed_role, feed_number, feed_state, feed_peer, feed_row, feed_mark, in_message, feed_next, feed_behind_arm, feed_at}
use Rattle.rs_tables.specs.Feeding.{feeding, names_read, is_some_of, mark_of}
use Rattle.rs_text.specs.TokenTests.{is_end, is_comma, is_close_brace}

-- names that are still sound, with further labels behind the old ones
pub record GoodNames (old : Names_data) (roles labels : List (List ℕ)) : Type 0 where
  pub roles_are : roles ≡ old.roles
  pub labels_good : GoodLabels old.labels labels

abbrev pub Good : Names_data → Reader_data → Type 0
Good old d = GoodNames old d.roles d.labels

abbrev Stays : Names_data → Fed → Type 0
Stays old x = IfOk x (Good old)

either : (old : Names_data) (b : Bool) (x y : Fed) → Stays old x → Stays old y → Stays old (if b then x else y)
either old true x y h k = h
either old false x y h k = k

passed : (old : Names_data) (b : Bool) (w : Wanted) (m : Mode) (at : ℕ) (r : Reader_data) → Good old r → Stays old (passes b w m at r)
passed old true w m at r h = h
passed old false w m at r h = tt

played : (old : Names_data) (o : Option ℕ) (at : ℕ) (r : Reader_data) → Good old r → Stays old (feed_table_role o at r)
played old None at r h = tt
played old (Some k) at r h = h

role : (old : Names_data) (o : Option (List ℕ)) (at : ℕ) (r : Reader_data) → Good old r → Stays old (feed_role o at r)
role old None at r h = tt
role old (Some w) at r h = played old (place_of w r.roles) at r h

counted : (old : Names_data) (o : Option ℕ) (c : Bool) (at : ℕ) (r : Reader_data) → Good old r → Stays old (feed_number o c at r)
counted old None c at r h = passed old (c && is_some_of r.states) _ mode.Behind at r h
counted old (Some k) c at r h = either old (k == length r.states) (if nat_le MOST_STATES (length r.states) then fault kind.TooManyNodes at else in_mode mode.BehindNumber r) (expected _ at)
    (either old (nat_le MOST_STATES (length r.states)) (fault kind.TooManyNodes at) (in_mode mode.BehindNumber r) tt h) tt

met : (old : Names_data) (o : Option ℕ) (at : ℕ) (r : Reader_data) → Good old r → Stays old (feed_peer o at r)
met old None at r h = tt
met old (Some k) at r h = h

row : (old : Names_data) (o : Option (List ℕ)) (c : Bool) (at : ℕ) (r : Reader_data) → Good old r → Stays old (feed_row o c at r)
row old None c at r h = either old c (feed_state state.Done r) (expected _ at) h tt
row old (Some w) c at r h = met old (place_of w r.roles) at r h

marked : (old : Names_data) (p : Role) (o : Option Mark) (at : ℕ) (r : Reader_data) → Good old r → Stays old (feed_mark p o at r)
marked old p None at r h = tt
marked old p (Some m) at r h = h

message : (old : Names_data) (p : Role) (m : Mark) (x : Result MessageFed TextFault) (r : Reader_data) → IfOk x (GoodBehind old.labels r.labels) → Good old r → Stays old (in_message p m x r)
message old p m (Err e) r k h = tt
message old p m (Ok (goes_on labels x)) r k h = record { roles_are = h.roles_are; labels_good = k }
message old p m (Ok (ends l s)) r k h = h

next : (old : Names_data) (p : Role) (m : Mark) (l : Label) (s : Sort) (o : Option ℕ) (at : ℕ) (r : Reader_data) → Good old r → Stays old (feed_next p m l s o at r)
next old p m l s None at r h = tt
next old p m l s (Some k) at r h = h

behind_arm : (old : Names_data) (p : Role) (m : Mark) (g c : Bool) (at : ℕ) (r : Reader_data) → Good old r → Stays old (feed_behind_arm p m g c at r)
behind_arm old p m true c at r h = h
behind_arm old p m false true at r h = h
behind_arm old p m false false at r h = tt

fed : (old : Names_data) (m : Mode) (t : Sign) (at : ℕ) (r : Reader_data) → IsNamed t → Good old r → Stays old (feed_at m t at r)
fed old mode.Table t at r n h = passed old _ _ mode.AtRole at r h
fed old mode.AtRole t at r n h = role old (plain_text t) at r h
fed old mode.AtBrace t at r n h = passed old _ _ mode.AtNumber at r h
fed old mode.AtNumber t at r n h = counted old (number_value t) (is_close_brace t) at r h
fed old mode.BehindNumber t at r n h = row old (plain_text t) (is_end t) at r h
fed old (mode.BehindPeer p) t at r n h = marked old p (mark_of t) at r h
fed old (mode.BehindMark p m) t at r n h = passed old _ _ _ at r h
fed old (mode.InMessage p m x) t at r n h = message old p m (feed_message x t at r.labels) r (message_good old.labels r.labels x t at n h.labels_good) h
fed old (mode.AtNext p m l s) t at r n h = next old p m l s (number_value t) at r h
fed old (mode.BehindArm p m) t at r n h = behind_arm old p m (is_comma t) (is_close_brace t) at r h
fed old mode.Behind t at r n h = tt

good_kept : (old : Names_data) → kept.Keeps feeding (Good old)
good_kept old (broken k) at next r name h = tt
good_kept old t at next r name h = fed old r.mode t at r name h

-- names that were sound are good at first
good_first : (r : Reader_data) → IsSound (names_read r) → Good (names_read r) r
good_first r s = record { roles_are = refl; labels_good = labels_first (names_read r) s }

good_sound : (old : Names_data) (r : Reader_data) → IsSound old → Good old r → IsSound (names_read r)
good_sound old r s g =
    let t = both (differ old.roles && list_all is_role_word old.roles) (differ old.labels && list_all is_word old.labels) ((decides_sound old).1 s) in
    let u : (differ r.roles && list_all is_role_word r.roles) ≡ true = ap (λ z. differ z && list_all is_role_word z) g.roles_are ∙ t.0 in
    (decides_sound (names_read r)).0 (rw (u, g.labels_good.labels_differ, g.labels_good.words) refl)

good_keeps : (old : Names_data) (r : Reader_data) → Good old r → Keeps old (names_read r)
good_keeps old r g = record { later = g.labels_good.later; roles = g.roles_are; labels = g.labels_good.labels_are }

-- the reader that has such names is good
good_behind : (o : Reader_data) (bytes : List ℕ) (at : ℕ) (found : Names_data) → IsSound (names_read o) → (b : AreNamesBehind feeding names_read o bytes at found) → Good (names_read o) b.reader
good_behind o bytes at found s b = kept_behind feeding (Good (names_read o)) (good_kept (names_read o)) names_read o bytes at found (good_first o s) b

-- the names are sound behind any first tokens
pub sound_behind : (o : Reader_data) (bytes : List ℕ) (at : ℕ) (found : Names_data) → IsSound (names_read o) → AreNamesBehind feeding names_read o bytes at found → IsSound found
sound_behind o bytes at found s b = subst IsSound (sym b.names_are) (good_sound (names_read o) b.reader s (good_behind o bytes at found s b))

-- those that were there stay in their places
pub keeps_behind : (o : Reader_data) (bytes : List ℕ) (at : ℕ) (found : Names_data) → IsSound (names_read o) → AreNamesBehind feeding names_read o bytes at found → Keeps (names_read o) found
keeps_behind o bytes at found s b = subst (λ (z : Names_data). Keeps (names_read o) z) (sym b.names_are) (good_keeps (names_read o) b.reader (good_behind o bytes at found s b))
