-- A walk without a guess among several arms is forced.
use Rattle.std.proofs.Common.{◌≡◌, ◌∷◌, [], ℕ, zero, suc, List, map, length, Bool, true, false, Option, Some, None, slice_get, refl, sym, ap, subst, ◌∙◌, if◌then◌else◌, ◌==◌, not, inl, inr, arith}
use Rattle.std.specs.Prelude.{◌&&◌, ◌++◌}
use Rattle.std.specs.List.{list_all}
use Rattle.std.proofs.lemmas.Bool.{false≢true}
use Rattle.std.proofs.lemmas.Bool.Decides.{eqb_tells}
use Rattle.std.proofs.lemmas.Option.{none-some, same_Some}
use Rattle.rs_model.specs.Data.{Machine_data}
use Rattle.rs_model.specs.Serving.{serves}
use Rattle.rs_model.specs.declared.graph.Arm.{Arm}
use Rattle.rs_model.specs.declared.graph.Role.{Role}
use Rattle.rs_model.specs.declared.machines.Act.{Act}
use Rattle.rs_model.specs.declared.machines.Act.TheVariants as act
use Rattle.rs_model.specs.declared.machines.State.{State}
use Rattle.rs_model.specs.declared.machines.State.TheVariants.{Done, Puts, Takes}
use Rattle.rs_model.specs.declared.values.Sort.{Sort}
use Rattle.rs_prefix.specs.Search.{earliest}
use Rattle.rs_prefix.specs.declared.earliest.Found.{Found}
use Rattle.rs_prefix.specs.declared.earliest.Found.TheVariants.{At, Blocked, Absent}
use Rattle.rs_prefix.specs.declared.earliest.ActKind.TheVariants.{Send, Receive}
use Rattle.rs_derive.proofs.Rows.{Is, complete}
use Rattle.rs_derive.specs.Due.{Chosen, Due, both_at, due_at, due_of}
use Rattle.rs_derive.specs.Moves.{HasMove, Spot, arm_of, owing_receive, owing_send}
use Rattle.rs_derive.specs.Rules.{arms_at, pay_receive_rule, pay_send_rule, receive_rule, rule_at, send_rule, served_rule}
use Rattle.rs_derive.specs.declared.rules.Rule.{Rule}
use Rattle.rs_derive.specs.declared.rules.Rule.TheVariants as rule
use Rattle.rs_graph.specs.Lists.{Among}
use Rattle.rs_explain.proofs.Firsts.{leads_move}
use Rattle.rs_explain.specs.Forcing.{guesses_among, guesses_between, is_forced, is_guess}
use Rattle.rs_explain.specs.Walks.{IsForced, IsWalk, WalkStep_data}

-- all of these spots are one
abbrev OneSpot : List Spot → Type 0
OneSpot spots = (x y : Spot) → Is spots x → Is spots y → x ≡ y

-- for each next one spot is due at most
abbrev EachOne : List (List Spot) → Type 0
EachOne [] = Unit {0}
EachOne (d ∷ ds) = OneSpot d × EachOne ds

-- then two choices are one
one_choice : (ds : List (List Spot)) (rs ss : List Spot) → EachOne ds → Chosen ds rs → Chosen ds ss → rs ≡ ss
one_choice [] [] [] e h k = refl
one_choice [] [] (s ∷ ss) e h k = absurd k
one_choice [] (r ∷ rs) ss e h k = absurd h
one_choice (d ∷ ds) [] ss e h k = absurd h
one_choice (d ∷ ds) (r ∷ rs) [] e h k = absurd k
one_choice (d ∷ ds) (r ∷ rs) (s ∷ ss) e h k = rw (e.0 r s h.0 k.0, one_choice ds rs ss e.1 h.1 k.1) refl

only_one : (p x : Spot) → Is (p ∷ []) x → p ≡ x
only_one p x (zero, e) = same_Some p x e
only_one p x (suc i, e) = absurd (none-some x e)

one_of_one : (p : Spot) → OneSpot (p ∷ [])
one_of_one p x y h k = sym (only_one p x h) ∙ only_one p y k

one_of_none : OneSpot []
one_of_none x y h k = absurd (none-some x h.1)

one_of_both : (pending : List Act) (a : Arm) (o : Option Arm) → OneSpot (both_at pending a o)
one_of_both pending a None = one_of_none
one_of_both pending a (Some b) = one_of_one _

each_both : (pending : List Act) (theirs arms : List Arm) → EachOne (map (λ a. both_at pending a (arm_of theirs a.label)) arms)
each_both pending theirs [] = tt
each_both pending theirs (a ∷ later) = (one_of_both pending a (arm_of theirs a.label), each_both pending theirs later)

each_followed : (p : Spot) (r : Role) (theirs : List Arm) → EachOne (map (λ b. owing_receive p r b ∷ []) theirs)
each_followed p r [] = tt
each_followed p r (b ∷ theirs) = (one_of_one _, each_followed p r theirs)

one_guess : (p : Spot) (r : Role) (theirs : List Arm) → not (length theirs == 1) ≡ false → OneSpot (map (λ b. owing_send p r b) theirs)
one_guess p r theirs e = elim (eqb_tells (length theirs) 1) [
  | inl t ↦ alone theirs t.1
  | inr t ↦ absurd (false≢true (sym e ∙ ap not t.0))
]
  where
    alone : (those : List Arm) → length those ≡ 1 → OneSpot (map (λ b. owing_send p r b) those)
    alone [] n = absurd (omega arith)
    alone (b ∷ []) n = one_of_one _
    alone (b ∷ c ∷ those) n = absurd (omega arith)

each_by : (p : Spot) (arms theirs : List Arm) (o : Option Rule) (d : Due) → due_of p arms theirs o ≡ Some d → guesses_among theirs o ≡ false → EachOne d.nexts
each_by p arms theirs None d e g = absurd (none-some d e)
each_by p arms theirs (Some rule.Stops) d e g = subst (λ (x : Due). EachOne x.nexts) (same_Some _ d e) tt
each_by p arms theirs (Some (rule.Pays place a)) d e g = subst (λ (x : Due). EachOne x.nexts) (same_Some _ d e) (one_of_one _, tt)
each_by p arms theirs (Some rule.SendsBoth) d e g = subst (λ (x : Due). EachOne x.nexts) (same_Some _ d e) (each_both p.pending theirs arms)
each_by p arms theirs (Some (rule.Guesses r)) d e g = subst (λ (x : Due). EachOne x.nexts) (same_Some _ d e) (one_guess p r theirs g, tt)
each_by p arms theirs (Some (rule.Follows r)) d e g = subst (λ (x : Due). EachOne x.nexts) (same_Some _ d e) (each_followed p r theirs)

-- where the projection stands at no state nothing is guessed

no_guess_if : (b : Bool) (x : Rule) → guesses_among [] (Some x) ≡ false → guesses_among [] (if b then Some x else None) ≡ false
no_guess_if true x e = e
no_guess_if false x e = refl

no_guess_paid : (place : ℕ) (arms : List Arm) (o : Option Act) → guesses_among [] (pay_send_rule place arms o) ≡ false
no_guess_paid place (a ∷ []) (Some (act.Puts r l so)) = no_guess_if ((a.label.0 == l.0) && serves a.sort so) (rule.Pays place a) refl
no_guess_paid place (a ∷ []) (Some (act.Takes r l so)) = refl
no_guess_paid place (a ∷ []) None = refl
no_guess_paid place [] o = refl
no_guess_paid place (a ∷ b ∷ arms) o = refl

no_guess_served : (place : ℕ) (so : Sort) (o : Option Arm) → guesses_among [] (served_rule place so o) ≡ false
no_guess_served place so None = refl
no_guess_served place so (Some a) = no_guess_if (serves so a.sort) (rule.Pays place a) refl

no_guess_taken : (place : ℕ) (arms : List Arm) (o : Option Act) → guesses_among [] (pay_receive_rule place arms o) ≡ false
no_guess_taken place arms None = refl
no_guess_taken place arms (Some (act.Puts r l so)) = refl
no_guess_taken place arms (Some (act.Takes r l so)) = no_guess_served place so (arm_of arms l)

no_guess_alone : (pending : List Act) (s : State) → guesses_among [] (rule_at pending s None) ≡ false
no_guess_alone pending Done = refl
no_guess_alone pending (Puts q arms) = of (earliest pending Send q)
  where
    of : (f : Found) → guesses_among [] (send_rule pending q arms None f) ≡ false
    of (At place) = no_guess_paid place arms (slice_get pending place)
    of (Blocked place) = refl
    of Absent = refl
no_guess_alone pending (Takes q arms) = of (earliest pending Receive q)
  where
    of : (f : Found) → guesses_among [] (receive_rule pending arms None f) ≡ false
    of (At place) = no_guess_taken place arms (slice_get pending place)
    of (Blocked place) = refl
    of Absent = refl

each_due : (p : Spot) (so there : Option State) (d : Due) → due_at p so there ≡ Some d → guesses_between p.pending so there ≡ false → EachOne d.nexts
each_due p None there d e g = absurd (none-some d e)
each_due p (Some s) None d e g = each_by p (arms_at s) [] (rule_at p.pending s None) d e (no_guess_alone p.pending s)
each_due p (Some s) (Some t) d e g = each_by p (arms_at s) (arms_at t) (rule_at p.pending s (Some t)) d e g

-- at a spot that guesses nothing all moves lead to the same spots
one_move : (sub above : Machine_data) (p : Spot) (makes other : Option ℕ) (rs ss : List Spot) → is_guess sub above p ≡ false → HasMove sub above p makes rs → HasMove sub above p other ss → rs ≡ ss
one_move sub above p makes other rs ss g h k =
    let a = complete sub above p makes rs h in
    let b = complete sub above p other ss k in
    let same : a.d ≡ b.d = same_Some a.d b.d (sym a.due_is ∙ b.due_is) in
    one_choice b.d.nexts rs ss (each_due p (slice_get sub.states p.state) (slice_get above.states p.above) b.d b.due_is g) (subst (λ (x : Due). Chosen x.nexts rs) same a.picks) b.picks

no_guess : (b c : Bool) → (not b && c) ≡ true → (b ≡ false) × (c ≡ true)
no_guess false c e = (refl, e)
no_guess true c e = absurd (false≢true e)

pub forced : (sub above : Machine_data) (bound : ℕ) (p : Spot) (steps : List WalkStep_data) → IsWalk sub above bound p steps → is_forced sub above p steps ≡ true → IsForced sub above p steps
forced sub above bound p [] w e = tt
forced sub above bound p (s ∷ later) w e =
    let b = no_guess (is_guess sub above p) (is_forced sub above s.spot later) e in
    let m = leads_move sub above bound p s.place s.spot w.0 in (
      λ makes results move. subst (λ (z : List Spot). Among z s.spot) (one_move sub above p m.1.makes makes m.0 results b.0 m.1.move move) m.2,
      forced sub above bound s.spot later w.1 b.1,
    )

-- no step guesses where the start doesn't, and nothing is guessed behind a step but the last
pub forced_by : (sub above : Machine_data) (p : Spot) (earlier : List WalkStep_data) (last : WalkStep_data)
    → (not (is_guess sub above p) && list_all (λ (s : WalkStep_data). not (is_guess sub above s.spot)) earlier) ≡ is_forced sub above p (earlier ++ last ∷ [])
forced_by sub above p [] last = refl
forced_by sub above p (s ∷ earlier) last = ap (λ (b : Bool). not (is_guess sub above p) && b) (forced_by sub above s.spot earlier last)
