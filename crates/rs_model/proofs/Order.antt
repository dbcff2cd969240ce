-- The fault that the code finds is that of the first test that isn't passed.
use Rattle.std.proofs.Common.{◌≡◌, ℕ, ◌+◌, List, [], ◌∷◌, ◌++◌, length, Bool, true, false, not, cond, eqb, ltb, ◌&&◌, Option, Some, None, sym, refl, ap, ◌∙◌}
use Rattle.rs_model.proofs.FirstFailed.{failed_append, labels_told, nexts_told, some_arms}
use Rattle.rs_model.specs.FirstFailed.{first_failed, or_later, label_fault, label_tests, next_tests}
use Rattle.rs_model.specs.Data.{Machine_data}
use Rattle.rs_model.specs.Checks.{nexts_fault, choice_fault, state_fault, states_fault, machine_fault}
use Rattle.rs_model.specs.Repeats.{first_repeat}
use Rattle.rs_model.specs.Faults.{choice_tests, state_tests, states_tests, first_fault}
use Rattle.rs_model.specs.declared.checks.MachineFault.{MachineFault}
use Rattle.rs_model.specs.declared.checks.MachineFault.TheVariants.{BadNext, NoArms, TwiceLabel, SelfPeer, UnknownPeer}
use Rattle.rs_model.specs.declared.graph.Arm.{Arm}
use Rattle.rs_model.specs.declared.graph.Role.{Role}
use Rattle.rs_model.specs.declared.machines.State.{State}
use Rattle.rs_model.specs.declared.machines.State.TheVariants.{Done, Puts, Takes}

choice_told : (empty some own known : Bool) (l y z : Option MachineFault) (s : ℕ) → empty ≡ not some
    → l ≡ or_later y z
    → cond some (cond (not own) (cond known l (Some (UnknownPeer s))) (Some (SelfPeer s))) (Some (NoArms s))
    ≡ or_later (cond empty (Some (NoArms s)) None)
    (or_later (cond own (Some (SelfPeer s)) (cond known None (Some (UnknownPeer s)))) (or_later y z))
choice_told empty false own known l y z s e g = rw e refl
choice_told empty true true known l y z s e g = rw e refl
choice_told empty true false false l y z s e g = rw e refl
choice_told empty true false true l y z s e g = rw e g

choices_told : (m : Machine_data) (roles s : ℕ) (peer : Role) (arms : List Arm)
    → first_failed (choice_tests m roles s peer arms) ≡ choice_fault m roles s peer arms
choices_told m roles s peer arms =
    choice_told (eqb (length arms) 0) (ltb 0 (length arms)) (eqb peer.0 m.role.0) (ltb peer.0 roles)
    (first_failed (label_tests (λ l. TwiceLabel s l) arms [] ++ next_tests (BadNext s) (length m.states) arms))
    (label_fault (λ l. TwiceLabel s l) (first_repeat arms [])) (nexts_fault s (length m.states) arms) s
    (some_arms (length arms))
    (failed_append (label_tests (λ l. TwiceLabel s l) arms []) (next_tests (BadNext s) (length m.states) arms)
    ∙ ap (λ x. or_later x (first_failed (next_tests (BadNext s) (length m.states) arms))) (labels_told (λ l. TwiceLabel s l) arms [])
    ∙ ap (λ x. or_later (label_fault (λ l. TwiceLabel s l) (first_repeat arms [])) x) (nexts_told (BadNext s) (length m.states) arms))

state_told : (m : Machine_data) (roles s : ℕ) (state : State)
    → first_failed (state_tests m roles s state) ≡ state_fault m roles s state
state_told m roles s Done = refl
state_told m roles s (Puts peer arms) = choices_told m roles s peer arms
state_told m roles s (Takes peer arms) = choices_told m roles s peer arms

states_told : (m : Machine_data) (roles : ℕ) (states : List State) (s : ℕ)
    → first_failed (states_tests m roles states s) ≡ states_fault m roles states s
states_told m roles [] s = refl
states_told m roles (state ∷ later) s =
    failed_append (state_tests m roles s state) (states_tests m roles later (s + 1))
    ∙ ap (λ x. or_later x (first_failed (states_tests m roles later (s + 1)))) (state_told m roles s state)
    ∙ ap (λ x. or_later (state_fault m roles s state) x) (states_told m roles later (s + 1))

start_told : (a b : Bool) (x y : Option MachineFault) (f : MachineFault) → x ≡ y
    → or_later (cond (a && b) None (Some f)) y ≡ cond a (cond b x (Some f)) (Some f)
start_told true true x y f e = sym e
start_told true false x y f e = refl
start_told false b x y f e = refl

-- the fault that the code finds is that of the first test that isn't passed
pub in_order : (m : Machine_data) (roles : ℕ) → machine_fault m roles ≡ first_fault m roles
unfolding first_fault
in_order m roles =
    start_told (ltb m.start (length m.states)) (ltb m.role.0 roles) (first_failed (states_tests m roles m.states 0))
    (states_fault m roles m.states 0) (BadNext m.start) (states_told m roles m.states 0)
