-- At each spot a rule applies or there is an obstacle, and one obstacle only.
use Rattle.std.proofs.Common.{◌≡◌, ◌≢◌, ◌⊎◌, inl, inr, ℕ, ◌<◌, ◌+◌, zero, suc, List, [], ◌∷◌, length, slice_get, Bool, true, false, not, cond, eqb, Option, Some, None, refl, sym, ap, subst, ◌∙◌, arith}
use Rattle.std.proofs.lemmas.Bool.{eqb-true, eqb-false, eq-eqb, ne_eqb, and_parts, false≢true}
use Rattle.std.proofs.lemmas.Option.{none-some, same_Some}
use Rattle.rs_model.proofs.Serving.{serves_by_test, test_by_serves}
use Rattle.rs_model.specs.Data.{Machine_data}
use Rattle.rs_model.specs.FirstFailed.{or_later}
use Rattle.rs_model.specs.Serving.{Serves, serves}
use Rattle.rs_model.specs.declared.graph.Arm.{Arm}
use Rattle.rs_model.specs.declared.graph.Label.{Label}
use Rattle.rs_model.specs.declared.graph.Role.{Role}
use Rattle.rs_model.specs.declared.machines.Act.{Act}
use Rattle.rs_model.specs.declared.machines.Act.TheVariants as act
use Rattle.rs_model.specs.declared.machines.State.{State}
use Rattle.rs_model.specs.declared.machines.State.TheVariants.{Done, Puts, Takes}
use Rattle.rs_model.specs.declared.values.Sort.{Sort}
use Rattle.rs_prefix.proofs.Right.{is, right}
use Rattle.rs_prefix.specs.Earliest.{Finds, IsAbsent, IsFound, has, may_overtake}
use Rattle.rs_prefix.specs.Search.{earliest}
use Rattle.rs_prefix.specs.declared.earliest.Found.{Found}
use Rattle.rs_prefix.specs.declared.earliest.Found.TheVariants.{At, Blocked, Absent}
use Rattle.rs_prefix.specs.declared.earliest.ActKind.{ActKind}
use Rattle.rs_prefix.specs.declared.earliest.ActKind.TheVariants.{Send, Receive}
use Rattle.rs_derive.proofs.Acts.{label_is, role_is}
use Rattle.rs_derive.proofs.Rows.{ruled, served}
use Rattle.rs_derive.proofs.Ruled.{Row, Stopping, PayingSend, SendingBoth, Guessing, SendingAhead, PayingReceive, ReceivingAhead, nil_is}
use Rattle.rs_derive.specs.Derivations.{IsProper}
use Rattle.rs_derive.specs.Moves.{Both, HasMove, Stops, PaysSend, SendsBoth, Guesses, SendsAhead, PaysReceive, ReceivesAhead, Spot, arm_of, spot}
use Rattle.rs_derive.specs.Rules.{all_serve, serves_some}
use Rattle.rs_derive.specs.declared.rules.Rule.{Rule}
use Rattle.rs_derive.specs.declared.rules.Rule.TheVariants as rule
use Rattle.rs_graph.proofs.Growth.{at_within}
use Rattle.rs_explain.specs.ObstacleAt.{arm_obstacle, arms_obstacle, early_end, end_obstacle, obstacle_at, pay_receive_obstacle, pay_send_obstacle, receive_obstacle, receive_past_obstacle, send_obstacle, send_past_obstacle, served_obstacle}
use Rattle.rs_explain.specs.Obstacles.{AllServeBefore, HasNoMove, IsObstacle, EndsOwing, EndsEarly, Chooses, SendsBeforeSend, SendsOtherSort, SendsUnknown, SendsUnserved, SendsPastEnd, ReceivesBeforeReceive, ReceivesOtherSort, ReceivesBeforeOwedSend, ReceivesBeforeSend, ReceivesPastEnd}
use Rattle.rs_explain.specs.declared.obstacles.Obstacle.{Obstacle}
use Rattle.rs_explain.specs.declared.obstacles.Obstacle.TheVariants as told

-- the arms of a send, of which the first is at place k

-- the first arm that doesn't fit
record Unfit (theirs arms : List Arm) (k : ℕ) (o : Obstacle) : Type 0 where
  pub place : ℕ
  pub arm : Arm
  pub before : AllServeBefore theirs arms place
  pub stands : slice_get arms place ≡ Some arm
  pub why : ((arm_of theirs arm.label ≡ None) × (o ≡ told.UnknownSend (k + place)))
      ⊎ ((b : Arm) × (arm_of theirs arm.label ≡ Some b) × (Serves arm.sort b.sort → ⊥) × (o ≡ told.SendOfOtherSort (k + place)))

abbrev UnfitOf : List Arm → List Arm → ℕ → Option Obstacle → Type 0
UnfitOf theirs arms k None = all_serve theirs arms ≡ true
UnfitOf theirs arms k (Some o) = Unfit theirs arms k o

none_before : (theirs arms : List Arm) → AllServeBefore theirs arms 0
none_before theirs arms i a h g = let bad : ⊥ = omega arith in absurd bad

one_before : (theirs arms : List Arm) (a b : Arm) (place : ℕ) → arm_of theirs a.label ≡ Some b → Serves a.sort b.sort → AllServeBefore theirs arms place
    → AllServeBefore theirs (a ∷ arms) (suc place)
one_before theirs arms a b place e s all zero x h g = subst (λ (z : Arm). (c : Arm) × (arm_of theirs z.label ≡ Some c) × Serves z.sort c.sort) (same_Some a x g) (b, e, s)
one_before theirs arms a b place e s all (suc i) x h g = all i x (omega arith) g

unserved : (a b : Sort) → serves a b ≡ false → Serves a b → ⊥
unserved a b e s = false≢true (sym e ∙ test_by_serves a b s)

not_served : (a b : Sort) → (Serves a b → ⊥) → serves a b ≡ false
not_served a b h = go (serves a b) refl
  where
    go : (t : Bool) → serves a b ≡ t → t ≡ false
    go true e = absurd (h (serves_by_test a b e))
    go false e = refl

unfit_on : (theirs arms : List Arm) (k : ℕ) (a b : Arm) (o : Option Obstacle) → arm_of theirs a.label ≡ Some b → serves a.sort b.sort ≡ true → UnfitOf theirs arms (k + 1) o
    → UnfitOf theirs (a ∷ arms) k o
unfit_on theirs arms k a b None e s all = rw (e, s) all
unfit_on theirs arms k a b (Some o) e s u = record {
  place = suc u.place;
  arm = u.arm;
  before = one_before theirs arms a b u.place e (serves_by_test a.sort b.sort s) u.before;
  stands = u.stands;
  why = (let n : (k + 1) + u.place ≡ k + suc u.place = omega arith in
      elim u.why [
        | inl w ↦ inl (w.0, w.1 ∙ ap (λ (z : ℕ). told.UnknownSend z) n)
        | inr w ↦ inr (w.0, w.1, w.2, w.3 ∙ ap (λ (z : ℕ). told.SendOfOtherSort z) n)
      ]);
}

unfit : (theirs arms : List Arm) (k : ℕ) → UnfitOf theirs arms k (arms_obstacle theirs arms k)
unfit theirs [] k = refl
unfit theirs (a ∷ arms) k = go (arm_of theirs a.label) refl (unfit theirs arms (k + 1))
  where
    here : k ≡ k + 0
    here = omega arith

    by : (b : Arm) (t : Bool) → arm_of theirs a.label ≡ Some b → serves a.sort b.sort ≡ t → UnfitOf theirs arms (k + 1) (arms_obstacle theirs arms (k + 1))
        → UnfitOf theirs (a ∷ arms) k (or_later (cond t None (Some (told.SendOfOtherSort k))) (arms_obstacle theirs arms (k + 1)))
    by b true e s on = unfit_on theirs arms k a b (arms_obstacle theirs arms (k + 1)) e s on
    by b false e s on = record {
      place = zero;
      arm = a;
      before = none_before theirs (a ∷ arms);
      stands = refl;
      why = inr (b, e, unserved a.sort b.sort s, ap (λ (z : ℕ). told.SendOfOtherSort z) here);
    }

    go : (o : Option Arm) → arm_of theirs a.label ≡ o → UnfitOf theirs arms (k + 1) (arms_obstacle theirs arms (k + 1)) → UnfitOf theirs (a ∷ arms) k (or_later (arm_obstacle k a o) (arms_obstacle theirs arms (k + 1)))
    go None e on = record { place = zero; arm = a; before = none_before theirs (a ∷ arms); stands = refl; why = inl (e, ap (λ (z : ℕ). told.UnknownSend z) here) }
    go (Some b) e on = by b (serves a.sort b.sort) e refl on

-- the first arm that doesn't fit is told
arms_tell : (theirs arms : List Arm) (k place : ℕ) (arm : Arm) (o : Obstacle) → AllServeBefore theirs arms place → slice_get arms place ≡ Some arm
    → arm_obstacle (k + place) arm (arm_of theirs arm.label) ≡ Some o → arms_obstacle theirs arms k ≡ Some o
arms_tell theirs [] k place arm o all g e = absurd (none-some arm g)
arms_tell theirs (a ∷ arms) k zero arm o all g e =
    let n : k + 0 ≡ k = omega arith in
    let e' : arm_obstacle k a (arm_of theirs a.label) ≡ Some o =
    subst (λ (z : Arm). arm_obstacle k z (arm_of theirs z.label) ≡ Some o) (sym (same_Some a arm g)) (subst (λ (z : ℕ). arm_obstacle z arm (arm_of theirs arm.label) ≡ Some o) n e) in
    rw e' refl
arms_tell theirs (a ∷ arms) k (suc place) arm o all g e =
    let b = all zero a (omega arith) refl in
    let n : k + suc place ≡ (k + 1) + place = omega arith in
    let on = arms_tell theirs arms (k + 1) place arm o (λ i x h q. all (suc i) x (omega arith) q) g
    (subst (λ (z : ℕ). arm_obstacle z arm (arm_of theirs arm.label) ≡ Some o) n e) in
    rw (b.1, test_by_serves a.sort b.0.sort b.2) on

-- by the arm's place among all
arms_at : (theirs arms : List Arm) (place : ℕ) (arm : Arm) (o : Obstacle) → AllServeBefore theirs arms place → slice_get arms place ≡ Some arm
    → arm_obstacle place arm (arm_of theirs arm.label) ≡ Some o → arms_obstacle theirs arms 0 ≡ Some o
arms_at theirs arms place arm o all g e =
    let n : place ≡ 0 + place = omega arith in
    arms_tell theirs arms 0 place arm o all g (subst (λ (z : ℕ). arm_obstacle z arm (arm_of theirs arm.label) ≡ Some o) n e)

-- where all fit nothing is told
arms_free : (theirs arms : List Arm) (k : ℕ) → all_serve theirs arms ≡ true → arms_obstacle theirs arms k ≡ None
arms_free theirs [] k e = refl
arms_free theirs (a ∷ arms) k e =
    let h = and_parts (serves_some a (arm_of theirs a.label)) (all_serve theirs arms) e in
    go (arm_of theirs a.label) h.0 (arms_free theirs arms (k + 1) h.1)
  where
    by : (b : Arm) (t : Bool) → t ≡ true → arms_obstacle theirs arms (k + 1) ≡ None
        → or_later (cond t None (Some (told.SendOfOtherSort k))) (arms_obstacle theirs arms (k + 1)) ≡ None
    by b true s on = on
    by b false s on = absurd (false≢true s)

    go : (o : Option Arm) → serves_some a o ≡ true → arms_obstacle theirs arms (k + 1) ≡ None → or_later (arm_obstacle k a o) (arms_obstacle theirs arms (k + 1)) ≡ None
    go None s on = absurd (false≢true s)
    go (Some b) s on = by b (serves a.sort b.sort) s on

-- a row, or an obstacle

-- where nothing is told a rule applies
abbrev pub RowOr : Machine_data → Machine_data → Spot → State → State → Option Obstacle → Type 0
RowOr sub above p s t None = (r : Rule) × Row p.pending s (Some t) r
RowOr sub above p s t (Some o) = IsObstacle sub above p o

by_test : (sub above : Machine_data) (p : Spot) (s t : State) (b : Bool) (x y : Option Obstacle) → (b ≡ true → RowOr sub above p s t x) → (b ≡ false → RowOr sub above p s t y)
    → RowOr sub above p s t (cond b x y)
by_test sub above p s t true x y f g = f refl
by_test sub above p s t false x y f g = g refl

-- both stand at these states
record Stand (sub above : Machine_data) (p : Spot) (s t : State) : Type 0 where
  pub state : slice_get sub.states p.state ≡ Some s
  pub there : slice_get above.states p.above ≡ Some t

early : (sub above : Machine_data) (p : Spot) (t : State) → Stand sub above p Done t → p.pending ≡ [] → RowOr sub above p Done t (early_end (Some t))
early sub above p Done st e = (rule.Stops, Stopping e)
early sub above p (Puts r theirs) st e = EndsEarly st.state e (λ q. (let k : Puts r theirs ≡ Done = same_Some (Puts r theirs) Done (sym st.there ∙ q) in cc k)) refl
early sub above p (Takes r theirs) st e = EndsEarly st.state e (λ q. (let k : Takes r theirs ≡ Done = same_Some (Takes r theirs) Done (sym st.there ∙ q) in cc k)) refl

not_nil : (xs : List Act) → eqb (length xs) 0 ≡ false → xs ≢ []
not_nil xs e q = eqb-false (length xs) 0 e (ap length q)

at_end : (sub above : Machine_data) (p : Spot) (t : State) → Stand sub above p Done t → RowOr sub above p Done t (end_obstacle p.pending (Some t))
at_end sub above p t st =
    by_test sub above p Done t (eqb (length p.pending) 0) (early_end (Some t)) (Some told.EndWhileOwing)
    (λ e. early sub above p t st (nil_is p.pending (eqb-true (length p.pending) 0 e)))
    (λ e. EndsOwing st.state (not_nil p.pending e) refl)

has_kind : (pending : List Act) (kind : ActKind) (q : Role) (place : ℕ) (x : Act) → IsFound pending kind q place → slice_get pending place ≡ Some x → has kind q x ≡ true
has_kind pending kind q place x found e = ap (λ y. has kind q y) (same_Some x found.act (sym e ∙ found.stands)) ∙ found.same

not_there : (pending : List Act) (kind : ActKind) (q : Role) (place : ℕ) → IsFound pending kind q place → slice_get pending place ≡ None → ⊥
not_there pending kind q place found e = none-some found.act (sym e ∙ found.stands)

paying_send : (sub above : Machine_data) (p : Spot) (q : Role) (t : State) (place : ℕ) (arms : List Arm) (o : Option Act) → Stand sub above p (Puts q arms) t → IsFound p.pending Send q place
    → slice_get p.pending place ≡ o → RowOr sub above p (Puts q arms) t (pay_send_obstacle place arms o)
paying_send sub above p q t place [] o st found e = Chooses q [] place st.state found (λ h. omega arith) refl
paying_send sub above p q t place (a ∷ b ∷ more) o st found e = Chooses q (a ∷ b ∷ more) place st.state found (λ h. omega arith) refl
paying_send sub above p q t place (a ∷ []) None st found e = absurd (not_there p.pending Send q place found e)
paying_send sub above p q t place (a ∷ []) (Some (act.Takes r l so)) st found e = absurd (false≢true (has_kind p.pending Send q place (act.Takes r l so) found e))
paying_send sub above p q t place (a ∷ []) (Some (act.Puts r l so)) st found e =
    by_test sub above p (Puts q (a ∷ [])) t (eqb a.label.0 l.0) (cond (serves a.sort so) None (Some (told.OwedSendOfOtherSort place))) (Some (told.SendBeforeSend place))
    (λ h. (let label : l ≡ a.label = sym (label_is a.label l h) in
    let at = e' ∙ ap (λ x. Some (act.Puts q x so)) label in
    by_test sub above p (Puts q (a ∷ [])) t (serves a.sort so) None (Some (told.OwedSendOfOtherSort place))
    (λ s. (rule.Pays place a, PayingSend q a place so (Some t) found at (serves_by_test a.sort so s)))
    (λ s. SendsOtherSort q a place so st.state found at (unserved a.sort so s) refl)))
    (λ h. SendsBeforeSend q a place l so st.state found e' (λ k. eqb-false a.label.0 l.0 h (ap (λ x. x.0) k)) refl)
  where
    e' : slice_get p.pending place ≡ Some (act.Puts q l so)
    e' = e ∙ ap (λ x. Some (act.Puts x l so)) (role_is r q (has_kind p.pending Send q place (act.Puts r l so) found e))

paying_by : (sub above : Machine_data) (p : Spot) (q : Role) (t : State) (arms : List Arm) (place : ℕ) (l : Label) (so : Sort) (o : Option Arm) → Stand sub above p (Takes q arms) t
    → IsFound p.pending Receive q place → slice_get p.pending place ≡ Some (act.Takes q l so) → arm_of arms l ≡ o → RowOr sub above p (Takes q arms) t (served_obstacle place so o)
paying_by sub above p q t arms place l so None st found e arm = ReceivesBeforeReceive q arms place l so st.state found e arm refl
paying_by sub above p q t arms place l so (Some a) st found e arm =
    by_test sub above p (Takes q arms) t (serves so a.sort) None (Some (told.OwedReceiveOfOtherSort place))
    (λ s. (rule.Pays place a, PayingReceive q arms place l so a (Some t) found e arm (serves_by_test so a.sort s)))
    (λ s. ReceivesOtherSort q arms place l so a st.state found e arm (unserved so a.sort s) refl)

paying_receive : (sub above : Machine_data) (p : Spot) (q : Role) (t : State) (place : ℕ) (arms : List Arm) (o : Option Act) → Stand sub above p (Takes q arms) t
    → IsFound p.pending Receive q place → slice_get p.pending place ≡ o → RowOr sub above p (Takes q arms) t (pay_receive_obstacle place arms o)
paying_receive sub above p q t place arms None st found e = absurd (not_there p.pending Receive q place found e)
paying_receive sub above p q t place arms (Some (act.Puts r l so)) st found e = absurd (false≢true (has_kind p.pending Receive q place (act.Puts r l so) found e))
paying_receive sub above p q t place arms (Some (act.Takes r l so)) st found e =
    let peer : r ≡ q = role_is r q (has_kind p.pending Receive q place (act.Takes r l so) found e) in
    paying_by sub above p q t arms place l so (arm_of arms l) st found (e ∙ ap (λ x. Some (act.Takes x l so)) peer) refl

both_send : (sub above : Machine_data) (p : Spot) (q : Role) (arms theirs : List Arm) (o : Option Obstacle) → Stand sub above p (Puts q arms) (Puts q theirs) → IsAbsent p.pending Send q
    → UnfitOf theirs arms 0 o → RowOr sub above p (Puts q arms) (Puts q theirs) o
both_send sub above p q arms theirs None st none all = (rule.SendsBoth, SendingBoth q arms theirs none all)
both_send sub above p q arms theirs (Some o) st none u =
    let n : 0 + u.place ≡ u.place = omega arith in
    elim u.why [
      | inl w ↦ SendsUnknown q arms theirs u.place u.arm st.state none st.there u.before u.stands w.0 (w.1 ∙ ap (λ (z : ℕ). told.UnknownSend z) n)
      | inr w ↦ SendsUnserved q arms theirs u.place u.arm w.0 st.state none st.there u.before u.stands w.1 w.2 (w.3 ∙ ap (λ (z : ℕ). told.SendOfOtherSort z) n)
    ]

sending_past : (sub above : Machine_data) (p : Spot) (q : Role) (arms : List Arm) (t : State) → Stand sub above p (Puts q arms) t → IsAbsent p.pending Send q
    → RowOr sub above p (Puts q arms) t (send_past_obstacle q arms (Some t))
sending_past sub above p q arms Done st none = SendsPastEnd q arms st.state none st.there refl
sending_past sub above p q arms (Takes r theirs) st none = (rule.Follows r, SendingAhead q r arms theirs none)
sending_past sub above p q arms (Puts r theirs) st none =
    by_test sub above p (Puts q arms) (Puts r theirs) (eqb r.0 q.0) (arms_obstacle theirs arms 0) None
    (λ e. (let k : r ≡ q = role_is r q e in
    subst (λ (x : Role). RowOr sub above p (Puts q arms) (Puts x theirs) (arms_obstacle theirs arms 0)) (sym k)
    (both_send sub above p q arms theirs (arms_obstacle theirs arms 0)
    (record { state = st.state; there = subst (λ (x : Role). slice_get above.states p.above ≡ Some (Puts x theirs)) k st.there }) none (unfit theirs arms 0))))
    (λ e. (rule.Guesses r, Guessing q r arms theirs none (λ h. eqb-false r.0 q.0 e (ap (λ x. x.0) h))))

receiving_past : (sub above : Machine_data) (p : Spot) (q : Role) (arms : List Arm) (t : State) → Stand sub above p (Takes q arms) t → IsAbsent p.pending Receive q
    → RowOr sub above p (Takes q arms) t (receive_past_obstacle (Some t))
receiving_past sub above p q arms Done st none = ReceivesPastEnd q arms st.state none st.there refl
receiving_past sub above p q arms (Puts r theirs) st none = ReceivesBeforeSend q r arms theirs st.state none st.there refl
receiving_past sub above p q arms (Takes r theirs) st none = (rule.Follows r, ReceivingAhead q r arms theirs none)

-- no send is blocked, but by one to the same role
not_blocked : (q : Role) (a : Act) → has Send q a ≡ false → may_overtake Send q a ≡ false → ⊥
not_blocked q (act.Puts r l so) e h = go (eqb r.0 q.0) e h
  where
    go : (b : Bool) → b ≡ false → not b ≡ false → ⊥
    go true e h = false≢true (sym e)
    go false e h = false≢true (sym h)
not_blocked q (act.Takes r l so) e h = false≢true (sym h)

sending : (sub above : Machine_data) (p : Spot) (q : Role) (arms : List Arm) (t : State) (f : Found) → Stand sub above p (Puts q arms) t → Finds p.pending Send q f
    → RowOr sub above p (Puts q arms) t (send_obstacle p.pending q arms (Some t) f)
sending sub above p q arms t (At place) st found = paying_send sub above p q t place arms (slice_get p.pending place) st found refl
sending sub above p q arms t (Blocked place) st found = absurd (not_blocked q found.act found.other found.blocks)
sending sub above p q arms t Absent st none = sending_past sub above p q arms t st none

receiving : (sub above : Machine_data) (p : Spot) (q : Role) (arms : List Arm) (t : State) (f : Found) → Stand sub above p (Takes q arms) t → Finds p.pending Receive q f
    → RowOr sub above p (Takes q arms) t (receive_obstacle p.pending arms (Some t) f)
receiving sub above p q arms t (At place) st found = paying_receive sub above p q t place arms (slice_get p.pending place) st found refl
receiving sub above p q arms t (Blocked place) st found = ReceivesBeforeOwedSend q arms place st.state found refl
receiving sub above p q arms t Absent st none = receiving_past sub above p q arms t st none

row_or : (sub above : Machine_data) (p : Spot) (s t : State) → Stand sub above p s t → RowOr sub above p s t (obstacle_at p.pending s (Some t))
row_or sub above p Done t st = at_end sub above p t st
row_or sub above p (Puts q arms) t st = sending sub above p q arms t (earliest p.pending Send q) st (right p.pending Send q)
row_or sub above p (Takes q arms) t st = receiving sub above p q arms t (earliest p.pending Receive q) st (right p.pending Receive q)

-- an obstacle is told

-- what is told where the machine stands at that state
abbrev Tells : Machine_data → Machine_data → Spot → Obstacle → Type 0
Tells sub above p o = (s : State) × (slice_get sub.states p.state ≡ Some s) × (obstacle_at p.pending s (slice_get above.states p.above) ≡ Some o)

not_ended : (t : Option State) → t ≢ Some Done → early_end t ≡ Some told.EndTooEarly
not_ended None h = refl
not_ended (Some Done) h = absurd (h refl)
not_ended (Some (Puts r theirs)) h = refl
not_ended (Some (Takes r theirs)) h = refl

owes_some : (pending : List Act) (t : Option State) → pending ≢ [] → end_obstacle pending t ≡ Some told.EndWhileOwing
owes_some [] t h = absurd (h refl)
owes_some (x ∷ xs) t h = let e : eqb (length (x ∷ xs)) 0 ≡ false = ne_eqb (length (x ∷ xs)) 0 (λ q. let bad : ⊥ = omega arith in bad) in rw e refl

some_choice : (place : ℕ) (arms : List Arm) (o : Option Act) → length arms ≢ 1 → pay_send_obstacle place arms o ≡ Some (told.ChoiceWhileOwing place)
some_choice place [] o h = refl
some_choice place (a ∷ []) o h = absurd (h refl)
some_choice place (a ∷ b ∷ more) o h = refl

tells : (sub above : Machine_data) (p : Spot) (o : Obstacle) → IsObstacle sub above p o → Tells sub above p o
tells sub above p o (EndsOwing st ne e) = (Done, st, owes_some p.pending (slice_get above.states p.above) ne ∙ ap Some (sym e))
tells sub above p o (EndsEarly st pe ne e) = (Done, st, (let k : eqb (length p.pending) 0 ≡ true = eq-eqb (length p.pending) 0 (ap length pe) in rw k (not_ended (slice_get above.states p.above) ne ∙ ap Some (sym e))))
tells sub above p o (Chooses q arms place st found ne e) =
    (Puts q arms, st, rw (is p.pending Send q (At place) found) (some_choice place arms (slice_get p.pending place) ne ∙ ap Some (sym e)))
tells sub above p o (SendsBeforeSend q a place l so st found at ne e) =
    (Puts q (a ∷ []), st, rw (is p.pending Send q (At place) found, at, ne_eqb a.label.0 l.0 (λ h. ne (label_is a.label l (eq-eqb a.label.0 l.0 h)))) (ap Some (sym e)))
tells sub above p o (SendsOtherSort q a place so st found at un e) =
    (Puts q (a ∷ []), st, rw (is p.pending Send q (At place) found, at, eq-eqb a.label.0 a.label.0 refl, not_served a.sort so un) (ap Some (sym e)))
tells sub above p o (SendsUnknown q arms theirs place a st none gt before at un e) =
    (Puts q arms, st, rw (is p.pending Send q Absent none, gt, eq-eqb q.0 q.0 refl) (arms_at theirs arms place a o before at (rw un (ap Some (sym e)))))
tells sub above p o (SendsUnserved q arms theirs place a b st none gt before at its un e) =
    (Puts q arms, st, rw (is p.pending Send q Absent none, gt, eq-eqb q.0 q.0 refl) (arms_at theirs arms place a o before at (rw (its, not_served a.sort b.sort un) (ap Some (sym e)))))
tells sub above p o (SendsPastEnd q arms st none gt e) = (Puts q arms, st, rw (is p.pending Send q Absent none, gt) (ap Some (sym e)))
tells sub above p o (ReceivesBeforeReceive q arms place l so st found at un e) =
    (Takes q arms, st, rw (is p.pending Receive q (At place) found, at, un) (ap Some (sym e)))
tells sub above p o (ReceivesOtherSort q arms place l so a st found at its un e) =
    (Takes q arms, st, rw (is p.pending Receive q (At place) found, at, its, not_served so a.sort un) (ap Some (sym e)))
tells sub above p o (ReceivesBeforeOwedSend q arms place st blocked e) = (Takes q arms, st, rw (is p.pending Receive q (Blocked place) blocked) (ap Some (sym e)))
tells sub above p o (ReceivesBeforeSend q r arms theirs st none gt e) = (Takes q arms, st, rw (is p.pending Receive q Absent none, gt) (ap Some (sym e)))
tells sub above p o (ReceivesPastEnd q arms st none gt e) = (Takes q arms, st, rw (is p.pending Receive q Absent none, gt) (ap Some (sym e)))

pub one_obstacle : (sub above : Machine_data) (p : Spot) (o o' : Obstacle) → IsObstacle sub above p o → IsObstacle sub above p o' → o ≡ o'
one_obstacle sub above p o o' h h' =
    let a = tells sub above p o h in
    let b = tells sub above p o' h' in
    let s : a.0 ≡ b.0 = same_Some a.0 b.0 (sym a.1 ∙ b.1) in
    same_Some o o' (sym a.2 ∙ ap (λ (z : State). obstacle_at p.pending z (slice_get above.states p.above)) s ∙ b.2)

-- in each row nothing is told
free : (pending : List Act) (s : State) (t : Option State) (r : Rule) → Row pending s t r → obstacle_at pending s t ≡ None
free pending _ _ _ (Stopping e) = rw e refl
free pending _ _ _ (PayingSend q a place so t found at sv) = rw (is pending Send q (At place) found, at, eq-eqb a.label.0 a.label.0 refl, test_by_serves a.sort so sv) refl
free pending _ _ _ (SendingBoth q arms theirs none all) = rw (is pending Send q Absent none, eq-eqb q.0 q.0 refl) (arms_free theirs arms 0 all)
free pending _ _ _ (Guessing q r arms theirs none ne) = rw (is pending Send q Absent none, ne_eqb r.0 q.0 (λ e. ne (role_is r q (eq-eqb r.0 q.0 e)))) refl
free pending _ _ _ (SendingAhead q r arms theirs none) = rw (is pending Send q Absent none) refl
free pending _ _ _ (PayingReceive q arms place l so a t found at arm sv) = rw (is pending Receive q (At place) found, at, arm, test_by_serves so a.sort sv) refl
free pending _ _ _ (ReceivingAhead q r arms theirs none) = rw (is pending Receive q Absent none) refl

pub no_move : (sub above : Machine_data) (p : Spot) (o : Obstacle) → IsObstacle sub above p o → HasNoMove sub above p
no_move sub above p o h makes rs m =
    let a = tells sub above p o h in
    let r = ruled sub above p makes rs m in
    let s : a.0 ≡ r.state = same_Some a.0 r.state (sym a.1 ∙ r.stands) in
    none-some o (sym (free p.pending r.state (slice_get above.states p.above) r.rule r.row)
    ∙ ap (λ (z : State). obstacle_at p.pending z (slice_get above.states p.above)) (sym s) ∙ a.2)

-- where a rule applies there is a move

both_results : (theirs : List Arm) (pending : List Act) (arms : List Arm) → all_serve theirs arms ≡ true → (rs : List Spot) × Both theirs pending arms rs
both_results theirs pending [] e = ([], tt)
both_results theirs pending (a ∷ arms) e =
    let h = and_parts (serves_some a (arm_of theirs a.label)) (all_serve theirs arms) e in
    let s = served a (arm_of theirs a.label) h.0 in
    let on = both_results theirs pending arms h.1 in
    (spot a.next pending s.0.next ∷ on.0, ((s.0, s.1, s.2, refl), on.1))

-- a move of the spot
pub record Moves (sub above : Machine_data) (p : Spot) : Type 0 where
  pub makes : Option ℕ
  pub results : List Spot
  pub move : HasMove sub above p makes results

first_arm : (arms : List Arm) → arms ≢ [] → (a : Arm) × (slice_get arms 0 ≡ Some a)
first_arm [] h = absurd (h refl)
first_arm (a ∷ arms) h = (a, refl)

moves : (sub above : Machine_data) (p : Spot) (s : State) (t : Option State) (r : Rule) → IsProper above → slice_get sub.states p.state ≡ Some s → slice_get above.states p.above ≡ t
    → Row p.pending s t r → Moves sub above p
moves sub above p _ _ _ wa st gt (Stopping e) = record { makes = None; results = []; move = Stops st e gt refl refl }
moves sub above p _ _ _ wa st gt (PayingSend q a place so t found at sv) = record { makes = Some place; results = _; move = PaysSend q a place so st found at sv refl refl }
moves sub above p _ _ _ wa st gt (SendingBoth q arms theirs none all) =
    let b = both_results theirs p.pending arms all in record { makes = None; results = b.0; move = SendsBoth q arms theirs st none gt refl b.1 }
moves sub above p _ _ _ wa st gt (Guessing q r arms theirs none ne) =
    let a = first_arm theirs (wa.1.puts p.above r theirs gt).some in
    record { makes = None; results = _; move = Guesses q r arms theirs 0 a.0 st none gt ne a.1 refl refl }
moves sub above p _ _ _ wa st gt (SendingAhead q r arms theirs none) = record { makes = None; results = _; move = SendsAhead q r arms theirs st none gt refl refl }
moves sub above p _ _ _ wa st gt (PayingReceive q arms place l so a t found at arm sv) =
    record { makes = Some place; results = _; move = PaysReceive q arms place l so a st found at arm sv refl refl }
moves sub above p _ _ _ wa st gt (ReceivingAhead q r arms theirs none) = record { makes = None; results = _; move = ReceivesAhead q r arms theirs st none gt refl refl }

-- at a spot that stands at states of both there is a move, and nothing is told, or an obstacle is
pub moves_or_obstacle : (sub above : Machine_data) (p : Spot) (s t : State) → IsProper above → slice_get sub.states p.state ≡ Some s → slice_get above.states p.above ≡ Some t
    → (o : Option Obstacle) → obstacle_at p.pending s (Some t) ≡ o → ((o ≡ None) × Moves sub above p) ⊎ ((x : Obstacle) × (o ≡ Some x) × IsObstacle sub above p x)
moves_or_obstacle sub above p s t wa st gt o e = go o (subst (λ (z : Option Obstacle). RowOr sub above p s t z) e (row_or sub above p s t (record { state = st; there = gt })))
  where
    go : (z : Option Obstacle) → RowOr sub above p s t z → ((z ≡ None) × Moves sub above p) ⊎ ((x : Obstacle) × (z ≡ Some x) × IsObstacle sub above p x)
    go None r = inl (refl, moves sub above p s (Some t) r.0 wa st gt r.1)
    go (Some x) h = inr (x, refl, h)

pub some_obstacle : (sub above : Machine_data) (p : Spot) → IsProper above → p.state < length sub.states → p.above < length above.states → HasNoMove sub above p
    → (o : Obstacle) × IsObstacle sub above p o
some_obstacle sub above p wa ls la stuck =
    let s = at_within sub.states p.state ls in
    let t = at_within above.states p.above la in
    elim (moves_or_obstacle sub above p s.0 t.0 wa s.1 t.1 (obstacle_at p.pending s.0 (Some t.0)) refl) [
      | inl m ↦ absurd (stuck m.1.makes m.1.results m.1.move)
      | inr k ↦ (k.0, k.2)
    ]
