-- The fault that the code finds is that of the first test that isn't passed.
use Rattle.std.proofs.Common.{◌≡◌, ℕ, ◌+◌, List, [], ◌∷◌, ◌++◌, length, Bool, true, false, not, cond, eqb, ltb, leb, ◌||◌, Option, Some, None, sym, refl, ap, ◌∙◌}
use Rattle.std.specs.List.{list_any}
use Rattle.rs_model.proofs.FirstFailed.{failed_append, labels_told, not_past, next_told, nexts_told, some_arms, passed_or}
use Rattle.rs_model.specs.FirstFailed.{Test, first_failed, or_later, label_fault, label_tests, next_tests}
use Rattle.rs_model.specs.Repeats.{first_repeat}
use Rattle.rs_model.specs.Data.{Protocol_data}
use Rattle.rs_model.specs.declared.graph.Arm.{Arm}
use Rattle.rs_model.specs.declared.graph.Node.{Node}
use Rattle.rs_model.specs.declared.graph.Node.TheVariants.{Finished, Talk}
use Rattle.rs_model.specs.declared.graph.Role.{Role}
use Rattle.rs_wellformed.specs.Checks.{next_fault, talk_fault, node_fault, nodes_fault, protocol_fault}
use Rattle.rs_wellformed.specs.Faults.{role_tests, talk_tests, node_tests, nodes_tests, first_fault}
use Rattle.rs_wellformed.specs.declared.checks.WfFault.{WfFault}
use Rattle.rs_wellformed.specs.declared.checks.WfFault.TheVariants.{SelfTalk, NoArms, TooManyArms, TwiceLabel, BadNext}

either_told : (q : Bool) (x : Option WfFault) (r : Bool) (f : WfFault) → x ≡ cond r (Some f) None
    → or_later (cond q (Some f) None) x ≡ cond (q || r) (Some f) None
either_told true x r f e = refl
either_told false x r f e = e

last_told : (p q : Bool) (f : WfFault) → q ≡ not p → cond p None (Some f) ≡ cond q (Some f) None
last_told true q f e = rw e refl
last_told false q f e = rw e refl

roles_told : (n roles : ℕ) (sender receiver : Role)
    → first_failed (role_tests n roles sender receiver)
    ≡ cond (leb roles sender.0 || leb roles receiver.0) (Some (BadNext n)) None
roles_told n roles sender receiver =
    next_told (ltb sender.0 roles) (leb roles sender.0) (leb roles receiver.0)
    (cond (ltb receiver.0 roles) None (Some (BadNext n))) (BadNext n) (not_past sender.0 roles)
    (last_told (ltb receiver.0 roles) (leb roles receiver.0) (BadNext n) (not_past receiver.0 roles))

places_told : (p : Protocol_data) (n : ℕ) (sender receiver : Role) (arms : List Arm)
    → first_failed (next_tests (BadNext n) (length p.nodes) arms ++ role_tests n p.roles sender receiver)
    ≡ next_fault p n sender receiver arms
places_told p n sender receiver arms =
    failed_append (next_tests (BadNext n) (length p.nodes) arms) (role_tests n p.roles sender receiver)
    ∙ ap (λ x. or_later x (first_failed (role_tests n p.roles sender receiver)))
    (nexts_told (BadNext n) (length p.nodes) arms)
    ∙ either_told (list_any (λ b. leb (length p.nodes) b.next) arms)
    (first_failed (role_tests n p.roles sender receiver))
    (leb p.roles sender.0 || leb p.roles receiver.0) (BadNext n) (roles_told n p.roles sender receiver)

talk_told : (own empty some few : Bool) (l y z : Option WfFault) (n : ℕ) → empty ≡ not some
    → l ≡ or_later y z
    → cond (not own) (cond some (cond few l (Some (TooManyArms n))) (Some (NoArms n))) (Some (SelfTalk n))
    ≡ or_later (cond own (Some (SelfTalk n)) None)
    (or_later (cond empty (Some (NoArms n)) (cond few None (Some (TooManyArms n)))) (or_later y z))
talk_told true empty some few l y z n e g = refl
talk_told false empty false few l y z n e g = rw e refl
talk_told false empty true false l y z n e g = rw e refl
talk_told false empty true true l y z n e g = rw e g

talks_told : (p : Protocol_data) (n : ℕ) (sender receiver : Role) (arms : List Arm)
    → first_failed (talk_tests p n sender receiver arms) ≡ talk_fault p n sender receiver arms
talks_told p n sender receiver arms =
    let rest : List (Test WfFault) = next_tests (BadNext n) (length p.nodes) arms ++ role_tests n p.roles sender receiver in
    talk_told (eqb sender.0 receiver.0) (eqb (length arms) 0) (ltb 0 (length arms)) (leb (length arms) 32)
    (first_failed (label_tests (λ l. TwiceLabel n l) arms [] ++ rest))
    (label_fault (λ l. TwiceLabel n l) (first_repeat arms [])) (next_fault p n sender receiver arms) n
    (some_arms (length arms))
    (failed_append (label_tests (λ l. TwiceLabel n l) arms []) rest
    ∙ ap (λ x. or_later x (first_failed rest)) (labels_told (λ l. TwiceLabel n l) arms [])
    ∙ ap (λ x. or_later (label_fault (λ l. TwiceLabel n l) (first_repeat arms [])) x) (places_told p n sender receiver arms))

node_told : (p : Protocol_data) (n : ℕ) (node : Node) → first_failed (node_tests p n node) ≡ node_fault p n node
node_told p n Finished = refl
node_told p n (Talk sender receiver arms) = talks_told p n sender receiver arms

nodes_told : (p : Protocol_data) (nodes : List Node) (n : ℕ)
    → first_failed (nodes_tests p nodes n) ≡ nodes_fault p nodes n
nodes_told p [] n = refl
nodes_told p (node ∷ later) n =
    failed_append (node_tests p n node) (nodes_tests p later (n + 1))
    ∙ ap (λ x. or_later x (first_failed (nodes_tests p later (n + 1)))) (node_told p n node)
    ∙ ap (λ x. or_later (node_fault p n node) x) (nodes_told p later (n + 1))

-- the fault that the code finds is that of the first test that isn't passed
pub in_order : (p : Protocol_data) → protocol_fault p ≡ first_fault p
unfolding first_fault
in_order p =
    sym (passed_or (ltb p.root (length p.nodes)) (first_failed (nodes_tests p p.nodes 0)) None
    (nodes_fault p p.nodes 0) (BadNext p.root) (nodes_told p p.nodes 0))
