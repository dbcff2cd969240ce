-- What flags tell of a protocol: who reaches whom, and what a role meets first.
use Rattle.std.proofs.Common.{◌≡◌, inl, inr, ℕ, ◌<◌, Bool, true, List, [], ◌∷◌, length, replicate, Option, Some, None, refl, sym, ◌∙◌, subst}
use Rattle.rs_model.specs.Data.{Protocol_data}
use Rattle.rs_model.specs.declared.graph.Role.{Role}
use Rattle.rs_wellformed.specs.WellFormed.{IsWellFormed}
use Rattle.rs_project.specs.Graph.{PathStep, IsPath, IsReached, Involves, IsIdle, PassesBy, AllPassBy}
use Rattle.rs_project.specs.Marks.{AreRows, IsAwaited, IsOn, AllOn}
use Rattle.rs_project.proofs.Cycles.{next_within}
use Rattle.rs_project.proofs.Flags.{on_decide}
use Rattle.rs_project.proofs.Lists.{at_short}
use Rattle.rs_partings.specs.Flags.{AreFlags, IsReachedThrough, ReachesThrough, IsMemberNode, only_flag}
use Rattle.rs_partings.specs.Partings.{MeetsMember}
use Rattle.rs_partings.specs.Rows.{IsReachedAlong}
use Rattle.rs_partings.proofs.Flags.{flag_to, to_flag, flags_as, every_flag, only_flags}
use Rattle.rs_partings.proofs.Turning.{AreTurned, walk_path, path_walk, back_path, path_back}

-- ---- paths through flagged nodes are walks along rows

pub reached_along : (pr : Protocol_data) (through starts marks : List Bool) (rows : List (List ℕ)) → AreRows pr through (length pr.nodes) rows
    → AreFlags (length rows) (λ n. IsReachedAlong rows starts n) marks → AreFlags (length pr.nodes) (λ n. IsReachedThrough pr through starts n) marks
reached_along pr through starts marks rows are flags =
    subst (λ (z : ℕ). AreFlags z (λ n. IsReachedThrough pr through starts n) marks) are.size
    (flags_as (length rows) (λ n. IsReachedAlong rows starts n) (λ n. IsReachedThrough pr through starts n) marks (λ n lt. (
      (λ r. (let p = walk_path pr through rows are r.start r.steps n r.walk in record { start = r.start; begins = r.begins; steps = p.0; path = p.1; earlier = p.2 })),
      (λ r. record { start = r.start; begins = r.begins; steps = length r.steps; walk = path_walk pr through rows are r.steps r.start n r.path r.earlier }),
    )) flags)

pub reaching_along : (pr : Protocol_data) (through targets marks : List Bool) (rows back : List (List ℕ)) → AreRows pr through (length pr.nodes) rows → AreTurned rows back
    → AreFlags (length back) (λ n. IsReachedAlong back targets n) marks → AreFlags (length pr.nodes) (λ n. ReachesThrough pr through targets n) marks
reaching_along pr through targets marks rows back are turn flags =
    subst (λ (z : ℕ). AreFlags z (λ n. ReachesThrough pr through targets n) marks) (turn.size ∙ are.size)
    (flags_as (length back) (λ n. IsReachedAlong back targets n) (λ n. ReachesThrough pr through targets n) marks (λ n lt. (
      (λ r. (let p = back_path pr through rows back are turn r.start r.steps n r.walk in record { target = r.start; ends = r.begins; steps = p.0; path = p.1; earlier = p.2 })),
      (λ r. record { start = r.target; begins = r.ends; steps = length r.steps; walk = path_back pr through rows back are turn r.steps r.target n r.path r.earlier }),
    )) flags)

-- ---- what is reached from the root, and from where a talk of the role can be reached

every_step : (pr : Protocol_data) (every : List Bool) → every ≡ replicate (length pr.nodes) true → (ss : List PathStep) (g n : ℕ) → IsPath pr g ss n → AllOn every ss
every_step pr every e [] g n path = tt
every_step pr every e (s ∷ ss) g n path = (
  subst (λ (z : ℕ). IsOn every z) (sym path.1) (to_flag (length pr.nodes) (λ m. Unit {0}) every g (every_flag (length pr.nodes) every e) (at_short pr.nodes g _ path.2.talks) tt),
  every_step pr every e ss path.0 n path.3,
)

pub reached_are : (pr : Protocol_data) (every root marks : List Bool) → IsWellFormed pr → every ≡ replicate (length pr.nodes) true → root ≡ only_flag (length pr.nodes) pr.root
    → AreFlags (length pr.nodes) (λ n. IsReachedThrough pr every root n) marks → AreFlags (length pr.nodes) (λ n. IsReached pr n) marks
reached_are pr every root marks wf e r flags =
    let one = only_flags (length pr.nodes) pr.root root r in
    flags_as (length pr.nodes) (λ n. IsReachedThrough pr every root n) (λ n. IsReached pr n) marks (λ n lt. (
      (λ t. (t.steps, subst (λ (z : ℕ). IsPath pr z t.steps n) (flag_to (length pr.nodes) (λ m. m ≡ pr.root) root t.start one t.begins) t.path)),
      (λ t. record {
        start = pr.root;
        begins = to_flag (length pr.nodes) (λ m. m ≡ pr.root) root pr.root one wf.root refl;
        steps = t.0;
        path = t.1;
        earlier = every_step pr every e t.0 pr.root n t.1;
      }),
    )) flags

pub involved_within : (pr : Protocol_data) (role : Role) (t : ℕ) → Involves pr role t → t < length pr.nodes
involved_within pr role t i = at_short pr.nodes t _ i.talks

pub awaited_are : (pr : Protocol_data) (role : Role) (every involved marks : List Bool) → every ≡ replicate (length pr.nodes) true
    → AreFlags (length pr.nodes) (λ n. Involves pr role n) involved → AreFlags (length pr.nodes) (λ n. ReachesThrough pr every involved n) marks
    → AreFlags (length pr.nodes) (λ n. IsAwaited pr role n) marks
awaited_are pr role every involved marks e inv flags =
    flags_as (length pr.nodes) (λ n. ReachesThrough pr every involved n) (λ n. IsAwaited pr role n) marks (λ n lt. (
      (λ t. record { talk = t.target; reached = (t.steps, t.path); involved = flag_to (length pr.nodes) (λ m. Involves pr role m) involved t.target inv t.ends }),
      (λ a. record {
        target = a.talk;
        ends = to_flag (length pr.nodes) (λ m. Involves pr role m) involved a.talk inv (involved_within pr role a.talk a.involved) a.involved;
        steps = a.reached.0;
        path = a.reached.1;
        earlier = every_step pr every e a.reached.0 n a.talk a.reached.1;
      }),
    )) flags

-- ---- nodes that pass by, and that are idle

idle_by : (pr : Protocol_data) (role : Role) (n : ℕ) → (IsAwaited pr role n → ⊥) → IsIdle pr role n
idle_by pr role n none = λ talk path i. none record { talk = talk; reached = path; involved = i }

by_idle : (pr : Protocol_data) (role : Role) (n : ℕ) → IsIdle pr role n → IsAwaited pr role n → ⊥
by_idle pr role n idle a = idle a.talk a.reached a.involved

pub passing_are : (pr : Protocol_data) (role : Role) (count : ℕ) (awaited marks : List Bool) → AreFlags count (λ n. IsAwaited pr role n) awaited
    → AreFlags count (λ n. IsAwaited pr role n × (Involves pr role n → ⊥)) marks → AreFlags count (λ n. PassesBy pr role n) marks
passing_are pr role count awaited marks a flags =
    flags_as count (λ n. IsAwaited pr role n × (Involves pr role n → ⊥)) (λ n. PassesBy pr role n) marks (λ n lt. (
      (λ p. record { uninvolved = p.1; awaited = λ idle. by_idle pr role n idle p.0 }),
      (λ p. elim (on_decide awaited n) [
        | inl on ↦ ((a.each n lt).0 on, p.uninvolved)
        | inr off ↦ absurd (p.awaited (idle_by pr role n (λ w. off ((a.each n lt).1 w))))
      ]),
    )) flags

pub idle_are : (pr : Protocol_data) (role : Role) (count : ℕ) (marks : List Bool) → AreFlags count (λ n. Unit {0} × (IsAwaited pr role n → ⊥)) marks → AreFlags count (λ n. IsIdle pr role n) marks
idle_are pr role count marks flags =
    flags_as count (λ n. Unit {0} × (IsAwaited pr role n → ⊥)) (λ n. IsIdle pr role n) marks (λ n lt. (
      (λ p. idle_by pr role n p.1),
      (λ idle. (tt, by_idle pr role n idle)),
    )) flags

pub on_pass : (pr : Protocol_data) (role : Role) (count : ℕ) (passing : List Bool) → AreFlags count (λ n. PassesBy pr role n) passing → (ss : List PathStep) → AllOn passing ss → AllPassBy pr role ss
on_pass pr role count passing are [] all = tt
on_pass pr role count passing are (s ∷ ss) all = (flag_to count (λ n. PassesBy pr role n) passing s.node are all.0, on_pass pr role count passing are ss all.1)

pub pass_on : (pr : Protocol_data) (role : Role) (passing : List Bool) → AreFlags (length pr.nodes) (λ n. PassesBy pr role n) passing → (ss : List PathStep) (g n : ℕ) → IsPath pr g ss n
    → AllPassBy pr role ss → AllOn passing ss
pass_on pr role passing are [] g n path all = tt
pass_on pr role passing are (s ∷ ss) g n path all =
    let lt = subst (λ (z : ℕ). z < length pr.nodes) (sym path.1) (at_short pr.nodes g _ path.2.talks) in
    (to_flag (length pr.nodes) (λ m. PassesBy pr role m) passing s.node are lt all.0, pass_on pr role passing are ss path.0 n path.3 all.1)

pub path_within : (pr : Protocol_data) → IsWellFormed pr → (ss : List PathStep) (g n : ℕ) → g < length pr.nodes → IsPath pr g ss n → n < length pr.nodes
path_within pr wf [] g n lt path = subst (λ (z : ℕ). z < length pr.nodes) path lt
path_within pr wf (s ∷ ss) g n lt path = path_within pr wf ss path.0 n (next_within pr g s.place path.0 wf path.2) path.3

-- ---- what is met first

pub meeting_are : (pr : Protocol_data) (role : Role) (member : Option ℕ) (passing targets marks : List Bool) → IsWellFormed pr → AreFlags (length pr.nodes) (λ n. PassesBy pr role n) passing
    → AreFlags (length pr.nodes) (λ n. IsMemberNode pr role member n) targets → AreFlags (length pr.nodes) (λ n. ReachesThrough pr passing targets n) marks
    → AreFlags (length pr.nodes) (λ n. MeetsMember pr role n member) marks
meeting_are pr role (Some talk) passing targets marks wf pass member flags =
    flags_as (length pr.nodes) (λ n. ReachesThrough pr passing targets n) (λ n. MeetsMember pr role n (Some talk)) marks (λ n lt. (
      (λ r. (let m = flag_to (length pr.nodes) (λ k. IsMemberNode pr role (Some talk) k) targets r.target member r.ends in record {
        steps = r.steps;
        path = subst (λ (z : ℕ). IsPath pr n r.steps z) m.0 r.path;
        earlier = on_pass pr role (length pr.nodes) passing pass r.steps r.earlier;
        involved = subst (λ (z : ℕ). Involves pr role z) m.0 m.1;
      })),
      (λ m. record {
        target = talk;
        ends = to_flag (length pr.nodes) (λ k. IsMemberNode pr role (Some talk) k) targets talk member (involved_within pr role talk m.involved) (refl, m.involved);
        steps = m.steps;
        path = m.path;
        earlier = pass_on pr role passing pass m.steps n talk m.path m.earlier;
      }),
    )) flags
meeting_are pr role None passing targets marks wf pass member flags =
    flags_as (length pr.nodes) (λ n. ReachesThrough pr passing targets n) (λ n. MeetsMember pr role n None) marks (λ n lt. (
      (λ r. record {
        steps = r.steps;
        last = r.target;
        path = r.path;
        earlier = on_pass pr role (length pr.nodes) passing pass r.steps r.earlier;
        idle = flag_to (length pr.nodes) (λ k. IsMemberNode pr role None k) targets r.target member r.ends;
      }),
      (λ m. record {
        target = m.last;
        ends = to_flag (length pr.nodes) (λ k. IsMemberNode pr role None k) targets m.last member (path_within pr wf m.steps n m.last lt m.path) m.idle;
        steps = m.steps;
        path = m.path;
        earlier = pass_on pr role passing pass m.steps n m.last m.path m.earlier;
      }),
    )) flags
