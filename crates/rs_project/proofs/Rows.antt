-- Unreached nodes are those on cycles along the rows of the live ones.
use Rattle.std.proofs.Common.{◌≡◌, ◌≢◌, inl, inr, ℕ, suc, ◌<◌, ◌≤◌, Bool, true, false, if◌then◌else◌, List, [], ◌∷◌, ◌++◌, length, get_or, Option, Some, None, MatchOption, slice_get, refl, sym, ap}
use Rattle.std.proofs.Common.{◌∙◌, subst, arith}
use Rattle.rs_model.specs.Data.{Protocol_data}
use Rattle.rs_model.specs.declared.graph.Node.{Node}
use Rattle.rs_model.specs.declared.graph.Node.TheVariants.{Talk}
use Rattle.rs_model.specs.declared.graph.Role.{Role}
use Rattle.rs_wellformed.specs.WellFormed.{IsWellFormed}
use Rattle.rs_graph.specs.Lists
use Rattle.rs_graph.specs.Ranks.{Edge}
use Rattle.rs_graph.specs.Walks.{Walk, Here, Further, IsOnCycle, IsLeastOnCycle}
use Rattle.rs_graph.proofs.Ranking.{edge_within}
use Rattle.rs_project.specs.Graph.{PathStep, LeadsTo, IsPath, IsReached, PassesBy, AllPassBy, IsUnreached}
use Rattle.rs_graph.specs.Lists.{Among}
use Rattle.rs_project.specs.Marks.{AreRows, IsLive, IsOn, nexts_of_node}
use Rattle.rs_project.specs.Refusals.{NoneUnreached}
use Rattle.rs_project.proofs.Cycles.{next_within}
use Rattle.rs_project.proofs.Lists.{at_short, at_within}
use Rattle.rs_project.proofs.Spread.{step_of, path_snoc, leads_among, among_leads}

-- members, as the graphs say it
among_here : (xs : List ℕ) (x : ℕ) → Lists.Among xs x → Among xs x
among_here [] x h = elim h [ ]
among_here (y ∷ ys) x (inl e) = inl e
among_here (y ∷ ys) x (inr h) = inr (among_here ys x h)

among_there : (xs : List ℕ) (x : ℕ) → Among xs x → Lists.Among xs x
among_there [] x h = absurd h
among_there (y ∷ ys) x (inl e) = inl e
among_there (y ∷ ys) x (inr h) = inr (among_there ys x h)

-- an edge leads from a flagged node to one after an arm
edge_leads : (pr : Protocol_data) (flags : List Bool) (rows : List (List ℕ)) → AreRows pr flags (length pr.nodes) rows → (n next : ℕ) → Edge rows n next
    → (place : ℕ) × IsOn flags n × LeadsTo pr n place next
edge_leads pr flags rows are n next e =
    let w : n < length pr.nodes = (let k = edge_within rows n next e in let s = are.size in omega arith) in
    let at = at_within pr.nodes n w in
    go at.0 at.1 (get_or flags n false) refl (subst (λ (z : List ℕ). Lists.Among z next) (are.each n at.0 w at.1) e)
  where
    go : (node : Node) → slice_get pr.nodes n ≡ Some node → (b : Bool) → get_or flags n false ≡ b → Lists.Among (if get_or flags n false then nexts_of_node node else []) next
        → (place : ℕ) × IsOn flags n × LeadsTo pr n place next
    go node at true on h =
        let l = among_leads pr n next node at (among_here (nexts_of_node node) next (subst (λ (z : Bool). Lists.Among (if z then nexts_of_node node else []) next) on h)) in
        (l.0, on, l.1)
    go node at false off h = (let bad : Lists.Among [] next = subst (λ (z : Bool). Lists.Among (if z then nexts_of_node node else []) next) off h in elim bad [ ])

leads_edge : (pr : Protocol_data) (flags : List Bool) (rows : List (List ℕ)) → AreRows pr flags (length pr.nodes) rows → (n place next : ℕ) → IsOn flags n → LeadsTo pr n place next → Edge rows n next
leads_edge pr flags rows are n place next on goes =
    let node : Node = Talk goes.sender goes.receiver goes.arms in
    let is : get_or rows n [] ≡ nexts_of_node node = are.each n node (at_short pr.nodes n node goes.talks) goes.talks ∙ ap (λ (z : Bool). if z then nexts_of_node node else []) on in
    subst (λ (z : List ℕ). Lists.Among z next) (sym is) (among_there (nexts_of_node node) next (leads_among pr n place next node goes.talks goes))

pub edges_within : (pr : Protocol_data) (flags : List Bool) (rows : List (List ℕ)) → IsWellFormed pr → AreRows pr flags (length pr.nodes) rows → (n next : ℕ) → Edge rows n next → next < length rows
edges_within pr flags rows wf are n next e =
    let l = edge_leads pr flags rows are n next e in
    let w = next_within pr n l.0 next wf l.2 in
    let s = are.size in
    omega arith

-- a walk goes along a path through nodes that pass by the role
walk_path : (pr : Protocol_data) (role : Role) (flags : List Bool) (rows : List (List ℕ)) → IsLive pr role flags → AreRows pr flags (length pr.nodes) rows
    → (i k j : ℕ) → Walk (Edge rows) i k j → (ss : List PathStep) × IsPath pr i ss j × AllPassBy pr role ss
walk_path pr role flags rows live are i _ _ (Here _) = ([], refl, tt)
walk_path pr role flags rows live are i _ j (Further _ h _ n e w) =
    let l = edge_leads pr flags rows are i h e in
    let r = walk_path pr role flags rows live are h n j w in
    (step_of i l.0 ∷ r.0, (h, refl, l.2, r.1), (live.passing i l.1, r.2))

cycle_unreached : (pr : Protocol_data) (role : Role) (flags : List Bool) (rows : List (List ℕ)) → IsLive pr role flags → AreRows pr flags (length pr.nodes) rows
    → (n : ℕ) → IsOnCycle (Edge rows) n → IsUnreached pr role n
cycle_unreached pr role flags rows live are n c = go c.0 c.1
  where
    go : (k : ℕ) → Walk (Edge rows) n (suc k) n → IsUnreached pr role n
    go k (Further _ h _ _ e w) =
        let l = edge_leads pr flags rows are n h e in
        let r = walk_path pr role flags rows live are h k n w in
        record {
          reached = live.reached n l.1;
          steps = step_of n l.0 ∷ r.0;
          some = λ q. cc (q);
          cycle = (h, refl, l.2, r.1);
          around = (live.passing n l.1, r.2);
        }

-- a path through nodes that pass by the role, from one that is reached, is a walk
path_walk : (pr : Protocol_data) (role : Role) (flags : List Bool) (rows : List (List ℕ)) → IsLive pr role flags → AreRows pr flags (length pr.nodes) rows
    → (ss : List PathStep) (i j : ℕ) → IsPath pr i ss j → AllPassBy pr role ss → IsReached pr i → Walk (Edge rows) i (length ss) j
path_walk pr role flags rows live are [] i j path all reached = subst (λ (z : ℕ). Walk (Edge rows) i 0 z) path (Here i)
path_walk pr role flags rows live are (s ∷ ss) i j path all reached =
    let on = live.whole i reached (subst (λ (z : ℕ). PassesBy pr role z) path.1 all.0) in
    Further i path.0 j (length ss) (leads_edge pr flags rows are i s.place path.0 on path.2)
    (path_walk pr role flags rows live are ss path.0 j path.3 all.1 (reached.0 ++ (step_of i s.place ∷ []), path_snoc pr reached.0 pr.root i s.place path.0 reached.1 path.2))

unreached_cycle : (pr : Protocol_data) (role : Role) (flags : List Bool) (rows : List (List ℕ)) → IsLive pr role flags → AreRows pr flags (length pr.nodes) rows
    → (n : ℕ) → IsUnreached pr role n → IsOnCycle (Edge rows) n
unreached_cycle pr role flags rows live are n u = go u.steps u.some (path_walk pr role flags rows live are u.steps n n u.cycle u.around u.reached)
  where
    go : (ss : List PathStep) → ss ≢ [] → Walk (Edge rows) n (length ss) n → IsOnCycle (Edge rows) n
    go [] ne w = absurd (ne refl)
    go (s ∷ ss) ne w = (length ss, w)

-- the least number on a cycle is the least unreached node
pub least_unreached : (pr : Protocol_data) (role : Role) (flags : List Bool) (rows : List (List ℕ)) → IsLive pr role flags → AreRows pr flags (length pr.nodes) rows
    → (o : Option ℕ) → MatchOption o ((k : ℕ) → IsOnCycle (Edge rows) k → ⊥) (λ v. IsLeastOnCycle (Edge rows) v)
    → MatchOption o (NoneUnreached pr role) (λ node. IsUnreached pr role node × ((n : ℕ) → IsUnreached pr role n → node ≤ n))
least_unreached pr role flags rows live are None none = λ n u. none n (unreached_cycle pr role flags rows live are n u)
least_unreached pr role flags rows live are (Some v) least =
    (cycle_unreached pr role flags rows live are v least.cycle, λ n u. least.least n (unreached_cycle pr role flags rows live are n u))
