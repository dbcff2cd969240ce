-- What a rule that applies tells: the row of the table that it is of.
use Rattle.std.proofs.Common.{◌≡◌, ◌≢◌, ℕ, List, [], ◌∷◌, length, slice_get, Bool, true, false, cond, eqb, ◌&&◌, Option, Some, None, IfSome, refl, sym, ap, subst, ◌∙◌, arith}
use Rattle.std.proofs.lemmas.Bool.{eqb-true, eqb-false, eq-eqb, ne_eqb, and_parts}
use Rattle.std.proofs.lemmas.Option.{none-some, same_Some, slice_get_within}
use Rattle.rs_model.proofs.Serving.{serves_by_test, test_by_serves}
use Rattle.rs_model.specs.Serving.{Serves, serves}
use Rattle.rs_model.specs.declared.graph.Arm.{Arm}
use Rattle.rs_model.specs.declared.graph.Label.{Label}
use Rattle.rs_model.specs.declared.graph.Role.{Role}
use Rattle.rs_model.specs.declared.machines.Act.{Act}
use Rattle.rs_model.specs.declared.machines.Act.TheVariants as act
use Rattle.rs_model.specs.declared.machines.State.{State}
use Rattle.rs_model.specs.declared.machines.State.TheVariants.{Done, Puts, Takes}
use Rattle.rs_model.specs.declared.values.Sort.{Sort}
use Rattle.rs_prefix.proofs.Right.{is, right}
use Rattle.rs_prefix.specs.Earliest.{Finds, IsAbsent, IsFound, has}
use Rattle.rs_prefix.specs.Search.{earliest}
use Rattle.rs_prefix.specs.declared.earliest.Found.{Found}
use Rattle.rs_prefix.specs.declared.earliest.Found.TheVariants.{At, Blocked, Absent}
use Rattle.rs_prefix.specs.declared.earliest.ActKind.{ActKind}
use Rattle.rs_prefix.specs.declared.earliest.ActKind.TheVariants.{Send, Receive}
use Rattle.rs_derive.proofs.Acts.{label_is, role_is}
use Rattle.rs_derive.specs.Moves.{arm_of}
use Rattle.rs_derive.specs.Rules.{RuleFits, all_serve, arms_at, arms_of, end_rule, pay_receive_rule, pay_send_rule, receive_past_rule, receive_rule, rule_at, send_past_rule, send_rule, served_rule}
use Rattle.rs_derive.specs.Within.{HasLabelsOnce, IsOnceAt}
use Rattle.rs_derive.specs.declared.rules.Rule.{Rule}
use Rattle.rs_derive.specs.declared.rules.Rule.TheVariants.{Stops, Pays, SendsBoth, Guesses, Follows}

-- the rows of the table: what is owed and both states, where the rule applies
pub data Row (pending : List Act) : State → Option State → Rule → Type 0 where
  Stopping : pending ≡ [] → Row pending Done (Some Done) Stops
  PayingSend : (q : Role) (a : Arm) (place : ℕ) (so : Sort) (t : Option State) → IsFound pending Send q place → slice_get pending place ≡ Some (act.Puts q a.label so)
      → Serves a.sort so → Row pending (Puts q (a ∷ [])) t (Pays place a)
  SendingBoth : (q : Role) (arms theirs : List Arm) → IsAbsent pending Send q → all_serve theirs arms ≡ true → Row pending (Puts q arms) (Some (Puts q theirs)) SendsBoth
  Guessing : (q r : Role) (arms theirs : List Arm) → IsAbsent pending Send q → r ≢ q → Row pending (Puts q arms) (Some (Puts r theirs)) (Guesses r)
  SendingAhead : (q r : Role) (arms theirs : List Arm) → IsAbsent pending Send q → Row pending (Puts q arms) (Some (Takes r theirs)) (Follows r)
  PayingReceive : (q : Role) (arms : List Arm) (place : ℕ) (l : Label) (so : Sort) (a : Arm) (t : Option State) → IsFound pending Receive q place
      → slice_get pending place ≡ Some (act.Takes q l so) → arm_of arms l ≡ Some a → Serves so a.sort → Row pending (Takes q arms) t (Pays place a)
  ReceivingAhead : (q r : Role) (arms theirs : List Arm) → IsAbsent pending Receive q → Row pending (Takes q arms) (Some (Takes r theirs)) (Follows r)

-- in each row its rule applies
pub applies : (pending : List Act) (s : State) (t : Option State) (rule : Rule) → Row pending s t rule → rule_at pending s t ≡ Some rule
applies pending _ _ _ (Stopping e) = rw e refl
applies pending _ _ _ (PayingSend q a place so t found at sv) = rw (is pending Send q (At place) found, at, eq-eqb a.label.0 a.label.0 refl, test_by_serves a.sort so sv) refl
applies pending _ _ _ (SendingBoth q arms theirs none all) = rw (is pending Send q Absent none, eq-eqb q.0 q.0 refl, all) refl
applies pending _ _ _ (Guessing q r arms theirs none ne) = rw (is pending Send q Absent none, ne_eqb r.0 q.0 (λ e. ne (role_is r q (eq-eqb r.0 q.0 e)))) refl
applies pending _ _ _ (SendingAhead q r arms theirs none) = rw (is pending Send q Absent none) refl
applies pending _ _ _ (PayingReceive q arms place l so a t found at arm sv) = rw (is pending Receive q (At place) found, at, arm, test_by_serves so a.sort sv) refl
applies pending _ _ _ (ReceivingAhead q r arms theirs none) = rw (is pending Receive q Absent none) refl

-- a rule that applies has a row

abbrev RowOf : List Act → State → Option State → Option Rule → Type 0
RowOf pending s t None = Unit {0}
RowOf pending s t (Some rule) = Row pending s t rule

row_if : (pending : List Act) (s : State) (t : Option State) (b : Bool) (rule : Rule) → (b ≡ true → Row pending s t rule) → RowOf pending s t (cond b (Some rule) None)
row_if pending s t true rule h = h refl
row_if pending s t false rule h = tt

pub nil_is : (pending : List Act) → length pending ≡ 0 → pending ≡ []
nil_is [] e = refl
nil_is (x ∷ xs) e = absurd (omega arith)

row_end : (pending : List Act) (t : Option State) → RowOf pending Done t (end_rule pending t)
row_end pending None = tt
row_end pending (Some Done) = row_if pending Done (Some Done) (eqb (length pending) 0) Stops (λ e. Stopping (nil_is pending (eqb-true (length pending) 0 e)))
row_end pending (Some (Puts r theirs)) = tt
row_end pending (Some (Takes r theirs)) = tt

has_kind : (pending : List Act) (kind : ActKind) (q : Role) (place : ℕ) (x : Act) → IsFound pending kind q place → slice_get pending place ≡ Some x → has kind q x ≡ true
has_kind pending kind q place x found e = ap (λ y. has kind q y) (same_Some x found.act (sym e ∙ found.stands)) ∙ found.same

row_pay : (pending : List Act) (q : Role) (t : Option State) (place : ℕ) (arms : List Arm) (o : Option Act) → IsFound pending Send q place → slice_get pending place ≡ o
    → RowOf pending (Puts q arms) t (pay_send_rule place arms o)
row_pay pending q t place [] o found e = tt
row_pay pending q t place (a ∷ b ∷ more) o found e = tt
row_pay pending q t place (a ∷ []) None found e = tt
row_pay pending q t place (a ∷ []) (Some (act.Takes r l so)) found e = tt
row_pay pending q t place (a ∷ []) (Some (act.Puts r l so)) found e =
    row_if pending (Puts q (a ∷ [])) t (eqb a.label.0 l.0 && serves a.sort so) (Pays place a)
    (λ h.
    (let k = and_parts (eqb a.label.0 l.0) (serves a.sort so) h in
    let peer : r ≡ q = role_is r q (has_kind pending Send q place (act.Puts r l so) found e) in
    let label : l ≡ a.label = sym (label_is a.label l k.0) in
    PayingSend q a place so t found (e ∙ ap (λ x. Some (act.Puts x l so)) peer ∙ ap (λ x. Some (act.Puts q x so)) label) (serves_by_test a.sort so k.1)))

row_served : (pending : List Act) (q : Role) (t : Option State) (arms : List Arm) (place : ℕ) (l : Label) (so : Sort) (o : Option Arm) → IsFound pending Receive q place
    → slice_get pending place ≡ Some (act.Takes q l so) → arm_of arms l ≡ o → RowOf pending (Takes q arms) t (served_rule place so o)
row_served pending q t arms place l so None found e arm = tt
row_served pending q t arms place l so (Some a) found e arm =
    row_if pending (Takes q arms) t (serves so a.sort) (Pays place a) (λ h. PayingReceive q arms place l so a t found e arm (serves_by_test so a.sort h))

row_take : (pending : List Act) (q : Role) (t : Option State) (place : ℕ) (arms : List Arm) (o : Option Act) → IsFound pending Receive q place → slice_get pending place ≡ o
    → RowOf pending (Takes q arms) t (pay_receive_rule place arms o)
row_take pending q t place arms None found e = tt
row_take pending q t place arms (Some (act.Puts r l so)) found e = tt
row_take pending q t place arms (Some (act.Takes r l so)) found e =
    let peer : r ≡ q = role_is r q (has_kind pending Receive q place (act.Takes r l so) found e) in
    row_served pending q t arms place l so (arm_of arms l) found (e ∙ ap (λ x. Some (act.Takes x l so)) peer) refl

row_other : (pending : List Act) (q r : Role) (arms theirs : List Arm) (same : Bool) → IsAbsent pending Send q → eqb r.0 q.0 ≡ same
    → RowOf pending (Puts q arms) (Some (Puts r theirs)) (cond same (cond (all_serve theirs arms) (Some SendsBoth) None) (Some (Guesses r)))
row_other pending q r arms theirs true none e =
    rw (role_is r q e) (row_if pending (Puts q arms) (Some (Puts q theirs)) (all_serve theirs arms) SendsBoth (λ h. SendingBoth q arms theirs none h))
row_other pending q r arms theirs false none e = Guessing q r arms theirs none (λ h. eqb-false r.0 q.0 e (ap (λ x. x.0) h))

row_past : (pending : List Act) (q : Role) (arms : List Arm) (t : Option State) → IsAbsent pending Send q → RowOf pending (Puts q arms) t (send_past_rule q arms t)
row_past pending q arms None none = tt
row_past pending q arms (Some Done) none = tt
row_past pending q arms (Some (Puts r theirs)) none = row_other pending q r arms theirs (eqb r.0 q.0) none refl
row_past pending q arms (Some (Takes r theirs)) none = SendingAhead q r arms theirs none

row_ahead : (pending : List Act) (q : Role) (arms : List Arm) (t : Option State) → IsAbsent pending Receive q → RowOf pending (Takes q arms) t (receive_past_rule t)
row_ahead pending q arms None none = tt
row_ahead pending q arms (Some Done) none = tt
row_ahead pending q arms (Some (Puts r theirs)) none = tt
row_ahead pending q arms (Some (Takes r theirs)) none = ReceivingAhead q r arms theirs none

row_send : (pending : List Act) (q : Role) (arms : List Arm) (t : Option State) (f : Found) → Finds pending Send q f → RowOf pending (Puts q arms) t (send_rule pending q arms t f)
row_send pending q arms t (At place) found = row_pay pending q t place arms (slice_get pending place) found refl
row_send pending q arms t (Blocked place) found = tt
row_send pending q arms t Absent none = row_past pending q arms t none

row_receive : (pending : List Act) (q : Role) (arms : List Arm) (t : Option State) (f : Found) → Finds pending Receive q f → RowOf pending (Takes q arms) t (receive_rule pending arms t f)
row_receive pending q arms t (At place) found = row_take pending q t place arms (slice_get pending place) found refl
row_receive pending q arms t (Blocked place) found = tt
row_receive pending q arms t Absent none = row_ahead pending q arms t none

row_at : (pending : List Act) (s : State) (t : Option State) → RowOf pending s t (rule_at pending s t)
row_at pending Done t = row_end pending t
row_at pending (Puts q arms) t = row_send pending q arms t (earliest pending Send q) (right pending Send q)
row_at pending (Takes q arms) t = row_receive pending q arms t (earliest pending Receive q) (right pending Receive q)

pub row_of : (pending : List Act) (s : State) (t : Option State) (rule : Rule) → rule_at pending s t ≡ Some rule → Row pending s t rule
row_of pending s t rule e = subst (λ (o : Option Rule). RowOf pending s t o) e (row_at pending s t)

-- what the code asks of a rule that applies

pub fitting : (pending : List Act) (s : State) (t : Option State) (rule : Rule) → Row pending s t rule → RuleFits pending (arms_at s) (arms_of t) rule
fitting pending _ _ _ (Stopping e) = tt
fitting pending _ _ _ (PayingSend q a place so t found at sv) = slice_get_within pending place (act.Puts q a.label so) at
fitting pending _ _ _ (SendingBoth q arms theirs none all) = all
fitting pending _ _ _ (Guessing q r arms theirs none ne) = tt
fitting pending _ _ _ (SendingAhead q r arms theirs none) = tt
fitting pending _ _ _ (PayingReceive q arms place l so a t found at arm sv) = slice_get_within pending place (act.Takes q l so) at
fitting pending _ _ _ (ReceivingAhead q r arms theirs none) = tt

pub fits_some : (pending : List Act) (s t : State) (o : Option Rule) → o ≡ rule_at pending s (Some t) → IfSome o (λ rule. RuleFits pending (arms_at s) (arms_at t) rule)
fits_some pending s t None e = tt
fits_some pending s t (Some rule) e = fitting pending s (Some t) rule (row_of pending s (Some t) rule (sym e))

pub once_arms : (s : State) (arms : List Arm) → IsOnceAt s → arms ≡ arms_at s → HasLabelsOnce arms
once_arms Done arms h e = subst (λ (xs : List Arm). HasLabelsOnce xs) (sym e) (λ i j a b g k q. absurd (none-some a g))
once_arms (Puts q arms') arms h e = subst (λ (xs : List Arm). HasLabelsOnce xs) (sym e) h
once_arms (Takes q arms') arms h e = subst (λ (xs : List Arm). HasLabelsOnce xs) (sym e) h
