-- The moves as they are computed are those of the table.
use Rattle.std.proofs.Common.{◌≡◌, ℕ, zero, suc, List, [], ◌∷◌, length, map, slice_get, Bool, true, false, ltb, Option, Some, None, sym, refl, ap, subst, arith}
use Rattle.std.proofs.lemmas.Bool.{lt-ltb, and_parts, false≢true}
use Rattle.std.proofs.lemmas.Option.{none-some, same_Some}
use Rattle.rs_model.specs.Data.{Machine_data}
use Rattle.rs_model.proofs.Serving.{serves_by_test, test_by_serves}
use Rattle.rs_model.specs.Serving.{Serves}
use Rattle.rs_model.specs.declared.graph.Arm.{Arm}
use Rattle.rs_model.specs.declared.graph.Role.{Role}
use Rattle.rs_model.specs.declared.machines.Act.{Act}
use Rattle.rs_model.specs.declared.machines.Act.TheVariants as act
use Rattle.rs_model.specs.declared.machines.State.{State}
use Rattle.rs_model.specs.declared.machines.State.TheVariants.{Done, Puts, Takes}
use Rattle.rs_derive.proofs.Mapped.{map_at, map_of}
use Rattle.rs_derive.proofs.Ruled.{Row, Stopping, PayingSend, SendingBoth, Guessing, SendingAhead, PayingReceive, ReceivingAhead, applies, row_of}
use Rattle.rs_derive.specs.Derivations.{KeepsItsHead}
use Rattle.rs_derive.specs.Due.{Chosen, Due, both_at, due, due_at, due_by, due_of, nexts_by}
use Rattle.rs_derive.specs.Moves.{Both, HasMove, Stops, PaysSend, SendsBoth, Guesses, SendsAhead, PaysReceive, ReceivesAhead, Spot, arm_of, owing_receive, owing_send, spot}
use Rattle.rs_derive.specs.Rules.{all_serve, arms_at, arms_of, keeps_head, rule_at, serves_some}
use Rattle.rs_derive.specs.declared.rules.Rule.{Rule}
use Rattle.rs_derive.specs.declared.rules.Rule.TheVariants as rule

-- one of the spots that are due, for each next
abbrev pub Is : List Spot → Spot → Type 0
Is spots r = (i : ℕ) × (slice_get spots i ≡ Some r)

pub record Agrees (pending : List Act) (makes : Option ℕ) (keeps : Bool) : Type 0 where
  pub to : KeepsItsHead pending makes → keeps ≡ true
  pub from : keeps ≡ true → KeepsItsHead pending makes

not_nil : (x : Act) (xs : List Act) → x ∷ xs ≡ [] → ⊥
not_nil x xs q = let k : length (x ∷ xs) ≡ 0 = ap length q in omega arith

none_agrees : (pending : List Act) → Agrees pending None (ltb 0 (length pending))
none_agrees [] = record { to = λ k. absurd (k.owes refl); from = λ e. absurd (false≢true e) }
none_agrees (x ∷ xs) =
    record {
      to = λ k. lt-ltb 0 (length (x ∷ xs)) (omega arith);
      from = λ e. record { owes = λ q. not_nil x xs q; other = λ q. none-some 0 q };
    }

at_agrees : (pending : List Act) (place : ℕ) (x : Act) → slice_get pending place ≡ Some x → Agrees pending (Some place) (ltb 0 place)
at_agrees [] place x g = absurd (none-some x g)
at_agrees (y ∷ ys) zero x g = record { to = λ k. absurd (k.other refl); from = λ e. absurd (false≢true e) }
at_agrees (y ∷ ys) (suc n) x g =
    record {
      to = λ k. lt-ltb 0 (suc n) (omega arith);
      from = λ e. record { owes = λ q. not_nil y ys q; other = λ q. (let k : suc n ≡ 0 = same_Some (suc n) 0 q in omega arith) };
    }

end_agrees : (pending : List Act) → pending ≡ [] → Agrees pending None false
end_agrees pending e = subst (λ xs. Agrees xs None false) (sym e) (none_agrees [])

-- each move of the table is computed, by a rule

pub both_serve : (theirs : List Arm) (pending : List Act) (arms : List Arm) (rs : List Spot) → Both theirs pending arms rs → all_serve theirs arms ≡ true
both_serve theirs pending [] [] b = refl
both_serve theirs pending [] (r ∷ rs) b = refl
both_serve theirs pending (a ∷ later) [] b = absurd b
both_serve theirs pending (a ∷ later) (r ∷ rs) b =
    let x = b.0 in
    rw (x.1, test_by_serves a.sort x.0.sort x.2, both_serve theirs pending later rs b.1) refl

both_picks : (theirs : List Arm) (pending : List Act) (arms : List Arm) (rs : List Spot) → Both theirs pending arms rs
    → Chosen (map (λ a. both_at pending a (arm_of theirs a.label)) arms) rs
both_picks theirs pending [] [] b = tt
both_picks theirs pending [] (r ∷ rs) b = absurd b
both_picks theirs pending (a ∷ later) [] b = absurd b
both_picks theirs pending (a ∷ later) (r ∷ rs) b =
    let x = b.0 in
    (rw (x.1, x.3) (zero, refl), both_picks theirs pending later rs b.1)

pub follow_picks : (p : Spot) (r : Role) (theirs : List Arm)
    → Chosen (map (λ b. owing_receive p r b ∷ []) theirs) (map (λ b. owing_receive p r b) theirs)
follow_picks p r [] = tt
follow_picks p r (b ∷ theirs) = ((zero, refl), follow_picks p r theirs)

-- the rule by which a spot has the move, and the row of the table that it is of
pub record Ruled (sub : Machine_data) (p : Spot) (t : Option State) (makes : Option ℕ) (rs : List Spot) : Type 0 where
  pub state : State
  pub rule : Rule
  pub stands : slice_get sub.states p.state ≡ Some state
  pub row : Row p.pending state t rule
  pub agrees : Agrees p.pending makes (keeps_head p.pending rule)
  pub picks : Chosen (nexts_by p (arms_at state) (arms_of t) rule) rs

pub ruled : (sub above : Machine_data) (p : Spot) (makes : Option ℕ) (rs : List Spot) → HasMove sub above p makes rs → Ruled sub p (slice_get above.states p.above) makes rs
ruled sub above p makes rs (Stops st pe ab mk re) = rw (ab, mk, re) record { state = Done; rule = rule.Stops; stands = st; row = Stopping pe; agrees = end_agrees p.pending pe; picks = tt }
ruled sub above p makes rs (PaysSend q arm place so st found at sv mk re) =
    rw (mk, re)
    record {
      state = Puts q (arm ∷ []);
      rule = rule.Pays place arm;
      stands = st;
      row = PayingSend q arm place so (slice_get above.states p.above) found at sv;
      agrees = at_agrees p.pending place (act.Puts q arm.label so) at;
      picks = ((zero, refl), tt);
    }
ruled sub above p makes rs (SendsBoth q arms theirs st none ab mk both) =
    rw (ab, mk)
    record {
      state = Puts q arms;
      rule = rule.SendsBoth;
      stands = st;
      row = SendingBoth q arms theirs none (both_serve theirs p.pending arms rs both);
      agrees = none_agrees p.pending;
      picks = both_picks theirs p.pending arms rs both;
    }
ruled sub above p makes rs (Guesses q r arms theirs place b st none ab ne at mk re) =
    rw (ab, mk, re)
    record {
      state = Puts q arms;
      rule = rule.Guesses r;
      stands = st;
      row = Guessing q r arms theirs none ne;
      agrees = none_agrees p.pending;
      picks = ((place, map_at (λ x. owing_send p r x) theirs place b at), tt);
    }
ruled sub above p makes rs (SendsAhead q r arms theirs st none ab mk re) =
    rw (ab, mk, re)
    record { state = Puts q arms; rule = rule.Follows r; stands = st; row = SendingAhead q r arms theirs none; agrees = none_agrees p.pending; picks = follow_picks p r theirs }
ruled sub above p makes rs (PaysReceive q arms place label so arm st found at ch sv mk re) =
    rw (mk, re)
    record {
      state = Takes q arms;
      rule = rule.Pays place arm;
      stands = st;
      row = PayingReceive q arms place label so arm (slice_get above.states p.above) found at ch sv;
      agrees = at_agrees p.pending place (act.Takes q label so) at;
      picks = ((zero, refl), tt);
    }
ruled sub above p makes rs (ReceivesAhead q r arms theirs st none ab mk re) =
    rw (ab, mk, re)
    record { state = Takes q arms; rule = rule.Follows r; stands = st; row = ReceivingAhead q r arms theirs none; agrees = none_agrees p.pending; picks = follow_picks p r theirs }

pub record Turned (p : Spot) (makes : Option ℕ) (rs : List Spot) (o : Option Due) : Type 0 where
  pub d : Due
  pub due_is : o ≡ Some d
  pub agrees : Agrees p.pending makes d.keeps
  pub picks : Chosen d.nexts rs

-- what is due where a rule applies
pub due_applies : (p : Spot) (s t : Option State) (state : State) (rule : Rule) → s ≡ Some state → Row p.pending state t rule → due_at p s t ≡ Some (due_by p (arms_at state) (arms_of t) rule)
due_applies p s t state rule e row = rw (e, applies p.pending state t rule row) refl

pub complete : (sub above : Machine_data) (p : Spot) (makes : Option ℕ) (rs : List Spot) → HasMove sub above p makes rs → Turned p makes rs (due sub above p)
complete sub above p makes rs m =
    let t = slice_get above.states p.above in
    let r = ruled sub above p makes rs m in
    record {
      d = due_by p (arms_at r.state) (arms_of t) r.rule;
      due_is = due_applies p (slice_get sub.states p.state) t r.state r.rule r.stands r.row;
      agrees = r.agrees;
      picks = r.picks;
    }

-- each move that is computed is one of the table

-- what is due is so by a rule that applies
pub record ByRule (p : Spot) (s t : Option State) (d : Due) : Type 0 where
  pub state : State
  pub rule : Rule
  pub stands : s ≡ Some state
  pub row : Row p.pending state t rule
  pub due_is : d ≡ due_by p (arms_at state) (arms_of t) rule

pub by_rule : (p : Spot) (s t : Option State) (d : Due) → due_at p s t ≡ Some d → ByRule p s t d
by_rule p None t d e = absurd (none-some d e)
by_rule p (Some s) t d e = some (rule_at p.pending s t) refl e
  where
    some : (o : Option Rule) → rule_at p.pending s t ≡ o → due_of p (arms_at s) (arms_of t) o ≡ Some d → ByRule p (Some s) t d
    some None a h = absurd (none-some d h)
    some (Some rule) a h =
        record { state = s; rule = rule; stands = refl; row = row_of p.pending s t rule a; due_is = sym (same_Some (due_by p (arms_at s) (arms_of t) rule) d h) }

pub record Sounds (sub above : Machine_data) (p : Spot) (keeps : Bool) (rs : List Spot) : Type 0 where
  pub makes : Option ℕ
  pub move : HasMove sub above p makes rs
  pub agrees : Agrees p.pending makes keeps

no_picks : (rs : List Spot) → Chosen [] rs → rs ≡ []
no_picks [] h = refl
no_picks (r ∷ rs) h = absurd h

only : (r x : Spot) (i : ℕ) → slice_get (r ∷ []) i ≡ Some x → x ≡ r
only r x zero g = sym (same_Some r x g)
only r x (suc i) g = absurd (none-some x g)

one_pick : (r : Spot) (rs : List Spot) → Chosen ((r ∷ []) ∷ []) rs → rs ≡ r ∷ []
one_pick r [] h = absurd h
one_pick r (x ∷ []) h = ap (λ y. y ∷ []) (only r x h.0.0 h.0.1)
one_pick r (x ∷ y ∷ ys) h = absurd h.1

follow_all : (p : Spot) (r : Role) (theirs : List Arm) (rs : List Spot) → Chosen (map (λ b. owing_receive p r b ∷ []) theirs) rs
    → rs ≡ map (λ b. owing_receive p r b) theirs
follow_all p r [] [] h = refl
follow_all p r [] (x ∷ rs) h = absurd h
follow_all p r (b ∷ theirs) [] h = absurd h
follow_all p r (b ∷ theirs) (x ∷ rs) h =
    rw (only (owing_receive p r b) x h.0.0 h.0.1, follow_all p r theirs rs h.1) refl

pub served : (a : Arm) (o : Option Arm) → serves_some a o ≡ true → (b : Arm) × (o ≡ Some b) × Serves a.sort b.sort
served a None e = absurd (false≢true e)
served a (Some b) e = (b, refl, serves_by_test a.sort b.sort e)

both_of : (theirs : List Arm) (pending : List Act) (arms : List Arm) (rs : List Spot) → all_serve theirs arms ≡ true
    → Chosen (map (λ a. both_at pending a (arm_of theirs a.label)) arms) rs → Both theirs pending arms rs
both_of theirs pending [] [] e h = tt
both_of theirs pending [] (r ∷ rs) e h = absurd h
both_of theirs pending (a ∷ later) [] e h = absurd h
both_of theirs pending (a ∷ later) (r ∷ rs) e h =
    let k = and_parts (serves_some a (arm_of theirs a.label)) (all_serve theirs later) e in
    let s = served a (arm_of theirs a.label) k.0 in
    let i : Is (both_at pending a (Some s.0)) r = subst (λ o. Is (both_at pending a o) r) s.1 h.0 in
    ((s.0, s.1, s.2, only (spot a.next pending s.0.next) r i.0 i.1), both_of theirs pending later rs k.1 h.1)

pub record Guessed (p : Spot) (peer : Role) (theirs : List Arm) (rs : List Spot) : Type 0 where
  pub place : ℕ
  pub arm : Arm
  pub stands : slice_get theirs place ≡ Some arm
  pub results : rs ≡ owing_send p peer arm ∷ []

pub guessed : (p : Spot) (peer : Role) (theirs : List Arm) (rs : List Spot) → Chosen (map (λ b. owing_send p peer b) theirs ∷ []) rs → Guessed p peer theirs rs
guessed p peer theirs [] h = absurd h
guessed p peer theirs (r ∷ s ∷ rs) h = absurd h.1
guessed p peer theirs (r ∷ []) h =
    let k = map_of (λ b. owing_send p peer b) theirs h.0.0 r h.0.1 in
    record { place = h.0.0; arm = k.0; stands = k.1; results = ap (λ (z : Spot). z ∷ []) (sym k.2) }

sounds : (sub above : Machine_data) (p : Spot) (s : State) (t : Option State) (rule : Rule) (rs : List Spot) → Row p.pending s t rule → slice_get sub.states p.state ≡ Some s
    → slice_get above.states p.above ≡ t → Chosen (nexts_by p (arms_at s) (arms_of t) rule) rs → Sounds sub above p (keeps_head p.pending rule) rs
sounds sub above p _ _ _ rs (Stopping e) gs gt h = record { makes = None; move = Stops gs e gt refl (no_picks rs h); agrees = end_agrees p.pending e }
sounds sub above p _ _ _ rs (PayingSend q a place so t found at sv) gs gt h =
    record { makes = Some place; move = PaysSend q a place so gs found at sv refl (one_pick _ rs h); agrees = at_agrees p.pending place (act.Puts q a.label so) at }
sounds sub above p _ _ _ rs (SendingBoth q arms theirs none all) gs gt h =
    record { makes = None; move = SendsBoth q arms theirs gs none gt refl (both_of theirs p.pending arms rs all h); agrees = none_agrees p.pending }
sounds sub above p _ _ _ rs (Guessing q r arms theirs none ne) gs gt h =
    let k = guessed p r theirs rs h in
    record { makes = None; move = Guesses q r arms theirs k.place k.arm gs none gt ne k.stands refl k.results; agrees = none_agrees p.pending }
sounds sub above p _ _ _ rs (SendingAhead q r arms theirs none) gs gt h =
    record { makes = None; move = SendsAhead q r arms theirs gs none gt refl (follow_all p r theirs rs h); agrees = none_agrees p.pending }
sounds sub above p _ _ _ rs (PayingReceive q arms place l so a t found at arm sv) gs gt h =
    record { makes = Some place; move = PaysReceive q arms place l so a gs found at arm sv refl (one_pick _ rs h); agrees = at_agrees p.pending place (act.Takes q l so) at }
sounds sub above p _ _ _ rs (ReceivingAhead q r arms theirs none) gs gt h =
    record { makes = None; move = ReceivesAhead q r arms theirs gs none gt refl (follow_all p r theirs rs h); agrees = none_agrees p.pending }

pub sound : (sub above : Machine_data) (p : Spot) (d : Due) (rs : List Spot) → due sub above p ≡ Some d → Chosen d.nexts rs → Sounds sub above p d.keeps rs
sound sub above p d rs e h =
    let t = slice_get above.states p.above in
    let b = by_rule p (slice_get sub.states p.state) t d e in
    subst (λ (x : Due). Sounds sub above p x.keeps rs) (sym b.due_is) (sounds sub above p b.state t b.rule rs b.row b.stands refl (subst (λ (x : Due). Chosen x.nexts rs) b.due_is h))
