-- The talks round which a session goes, by flags.
use Rattle.std.proofs.Common.{◌≡◌, ◌≢◌, inl, inr, ℕ, ◌+◌, ◌<◌, Bool, true, false, if◌then◌else◌, ◌&&◌, List, [], ◌∷◌, length, get_or, Some, slice_get, refl, sym, ◌∙◌, subst, arith}
use Rattle.std.specs.List.{Contains}
use Rattle.rs_model.specs.Data.{Protocol_data}
use Rattle.rs_model.specs.declared.graph.Arm.{Arm}
use Rattle.rs_model.specs.declared.graph.Node.{Node}
use Rattle.rs_model.specs.declared.graph.Node.TheVariants.{Finished, Talk}
use Rattle.rs_model.specs.declared.graph.Role.{Role}
use Rattle.rs_wellformed.specs.WellFormed.{IsWellFormed}
use Rattle.rs_graph.specs.Lists.{Among}
use Rattle.rs_project.specs.Graph.{PathStep, LeadsTo, IsPath, PassesBy, AllPassBy, IsUnreached}
use Rattle.rs_project.specs.Marks.{IsOn, any_on, leads_on}
use Rattle.rs_project.specs.Numbered.{nexts_of}
use Rattle.rs_project.proofs.Cycles.{and_split, and_join, next_within}
use Rattle.rs_project.proofs.Flags.{on_within}
use Rattle.rs_project.proofs.Lists.{at_short, at_within, contained, contains}
use Rattle.rs_project.proofs.Numbers.{rises, same_list}
use Rattle.rs_project.proofs.Spread.{step_of, among_leads}
use Rattle.rs_project.proofs.Surveys.{leads_on_by}
use Rattle.rs_partings.specs.Flags.{AreFlags, IsReachedThrough, ReachesThrough, flagged, only_flag}
use Rattle.rs_partings.specs.Waiting.{WaitsRound, AreWaitingRound}
use Rattle.rs_partings.proofs.Flags.{at_flagged, flag_to, flagged_at, flagged_rising, only_flags, to_flag}
use Rattle.rs_partings.proofs.Ways.{on_pass, pass_on, path_within}

any_some : (flags : List Bool) (arms : List Arm) → any_on flags arms ≡ true → (next : ℕ) × Among (nexts_of arms) next × IsOn flags next
any_some flags [] h = absurd (cc (h))
any_some flags (a ∷ arms) h = go (get_or flags a.next false) refl h (λ k. any_some flags arms k)
  where
    go : (b : Bool) → get_or flags a.next false ≡ b → (if b then true else any_on flags arms) ≡ true
        → (any_on flags arms ≡ true → (next : ℕ) × Among (nexts_of arms) next × IsOn flags next) → (next : ℕ) × Among (nexts_of (a ∷ arms)) next × IsOn flags next
    go true e k rest = (a.next, inl refl, e)
    go false e k rest = let r = rest k in (r.0, inr r.1, r.2)

some_next : (pr : Protocol_data) (flags : List Bool) (n : ℕ) (node : Node) → slice_get pr.nodes n ≡ Some node → leads_on flags node ≡ true → (place : ℕ) × (next : ℕ) × LeadsTo pr n place next × IsOn flags next
some_next pr flags n Finished is h = absurd (cc (h))
some_next pr flags n (Talk sender receiver arms) is h =
    let r = any_some flags arms h in
    let g = among_leads pr n r.0 (Talk sender receiver arms) is r.1 in
    (g.0, r.0, g.1, r.2)

not_nil : (s : PathStep) (ss : List PathStep) → (s ∷ ss) ≢ []
not_nil s ss e = cc (e)

begins_at : (pr : Protocol_data) (ss : List PathStep) (x y to : ℕ) → x ≡ y → IsPath pr x ss to → IsPath pr y ss to
begins_at pr ss x y to e path = subst (λ (z : ℕ). IsPath pr z ss to) e path

ends_at : (pr : Protocol_data) (ss : List PathStep) (from x y : ℕ) → x ≡ y → IsPath pr from ss x → IsPath pr from ss y
ends_at pr ss from x y e path = subst (λ (z : ℕ). IsPath pr from ss z) e path

-- what the flags of all three kinds tell of a node
pub record RoundFlags (pr : Protocol_data) (passing there back round : List Bool) : Type 0 where
  pub size : length round ≡ length pr.nodes
  pub each : (n : ℕ) (node : Node) → slice_get pr.nodes n ≡ Some node → get_or round n false ≡ (get_or passing n false && (get_or there n false && leads_on back node))

round_to : (pr : Protocol_data) (role : Role) (n : ℕ) (passing here there back round : List Bool) → AreFlags (length pr.nodes) (λ m. PassesBy pr role m) passing → here ≡ only_flag (length pr.nodes) n
    → AreFlags (length pr.nodes) (λ m. IsReachedThrough pr passing here m) there → AreFlags (length pr.nodes) (λ m. ReachesThrough pr passing here m) back
    → RoundFlags pr passing there back round → (t : ℕ) → IsOn round t → WaitsRound pr role n t
round_to pr role n passing here there back round pass only to from flags t on =
    let w : t < length pr.nodes = (let l = on_within round t on in let s = flags.size in omega (arith, l, s)) in
    let at = at_within pr.nodes t w in
    let e = and_split (get_or passing t false) (get_or there t false && leads_on back at.0) (sym (flags.each t at.0 at.1) ∙ on) in
    let f = and_split (get_or there t false) (leads_on back at.0) e.1 in
    let one = only_flags (length pr.nodes) n here only in
    let r = flag_to (length pr.nodes) (λ m. IsReachedThrough pr passing here m) there t to f.0 in
    let s = some_next pr back t at.0 at.1 f.1 in
    let b = flag_to (length pr.nodes) (λ m. ReachesThrough pr passing here m) back s.1 from s.3 in
    record {
      there = r.steps;
      back = step_of t s.0 ∷ b.steps;
      leads = begins_at pr r.steps r.start n t (flag_to (length pr.nodes) (λ m. m ≡ n) here r.start one r.begins) r.path;
      returns = (s.1, refl, s.2, ends_at pr b.steps s.1 b.target n (flag_to (length pr.nodes) (λ m. m ≡ n) here b.target one b.ends) b.path);
      some = not_nil (step_of t s.0) b.steps;
      passes_there = on_pass pr role (length pr.nodes) passing pass r.steps r.earlier;
      passes_back = (flag_to (length pr.nodes) (λ m. PassesBy pr role m) passing t pass e.0, on_pass pr role (length pr.nodes) passing pass b.steps b.earlier);
    }

to_round : (pr : Protocol_data) (role : Role) (n : ℕ) (passing here there back round : List Bool) → IsWellFormed pr → AreFlags (length pr.nodes) (λ m. PassesBy pr role m) passing
    → here ≡ only_flag (length pr.nodes) n
    → AreFlags (length pr.nodes) (λ m. IsReachedThrough pr passing here m) there → AreFlags (length pr.nodes) (λ m. ReachesThrough pr passing here m) back
    → RoundFlags pr passing there back round → (t : ℕ) → WaitsRound pr role n t → IsOn round t
to_round pr role n passing here there back round wf pass only to from flags t w = go w.back w.some w.returns w.passes_back
  where
    go : (ss : List PathStep) → ss ≢ [] → IsPath pr t ss n → AllPassBy pr role ss → IsOn round t
    go [] ne path all = absurd (ne refl)
    go (s ∷ ss) ne path all =
        let one = only_flags (length pr.nodes) n here only in
        let node : Node = Talk path.2.sender path.2.receiver path.2.arms in
        let lt = at_short pr.nodes t node path.2.talks in
        let nlt = next_within pr t s.place path.0 wf path.2 in
        let on = to_flag (length pr.nodes) (λ m. m ≡ n) here n one (path_within pr wf ss path.0 n nlt path.3) refl in
        let p = to_flag (length pr.nodes) (λ m. PassesBy pr role m) passing t pass lt (subst (λ (z : ℕ). PassesBy pr role z) path.1 all.0) in
        let h = to_flag (length pr.nodes) (λ m. IsReachedThrough pr passing here m) there t to lt
        record { start = n; begins = on; steps = w.there; path = w.leads; earlier = pass_on pr role passing pass w.there n t w.leads w.passes_there } in
        let b = to_flag (length pr.nodes) (λ m. ReachesThrough pr passing here m) back path.0 from nlt
        record { target = n; ends = on; steps = ss; path = path.3; earlier = pass_on pr role passing pass ss path.0 n path.3 all.1 } in
        flags.each t node path.2.talks ∙ and_join (get_or passing t false) (get_or there t false && leads_on back node) p
        (and_join (get_or there t false) (leads_on back node) h (leads_on_by pr back t s.place path.0 node path.2.talks path.2 b))

pub are_waiting : (pr : Protocol_data) (role : Role) (n : ℕ) (passing here there back round : List Bool) (talks : List ℕ) → IsWellFormed pr → AreFlags (length pr.nodes) (λ m. PassesBy pr role m) passing
    → here ≡ only_flag (length pr.nodes) n
    → AreFlags (length pr.nodes) (λ m. IsReachedThrough pr passing here m) there → AreFlags (length pr.nodes) (λ m. ReachesThrough pr passing here m) back
    → RoundFlags pr passing there back round → talks ≡ flagged 0 round → AreWaitingRound pr role n talks
are_waiting pr role n passing here there back round talks wf pass only to from flags e = subst (λ (z : List ℕ). AreWaitingRound pr role n z) (sym e) (record {
  rising = flagged_rising 0 round;
  talks = λ t. (
    (λ h. (let r = flagged_at 0 round t (contained (flagged 0 round) t h) in
        let q : r.0 ≡ t = (let k = r.1 in omega (arith, k)) in
        round_to pr role n passing here there back round pass only to from flags t (subst (λ (z : ℕ). IsOn round z) q r.2))),
    (λ w. (let q : 0 + t ≡ t = omega arith in
        contains (flagged 0 round) t (subst (λ (z : ℕ). Among (flagged 0 round) z) q (at_flagged 0 round t (to_round pr role n passing here there back round wf pass only to from flags t w))))),
  );
})

-- ---- an unreached node is one of those round which the session goes

pub has_its_node : (pr : Protocol_data) (role : Role) (n : ℕ) (talks : List ℕ) → IsUnreached pr role n → AreWaitingRound pr role n talks → Contains talks n
has_its_node pr role n talks u are = (are.talks n).1 record {
  there = [];
  back = u.steps;
  leads = refl;
  returns = u.cycle;
  some = u.some;
  passes_there = tt;
  passes_back = u.around;
}

pub one_round : (pr : Protocol_data) (role : Role) (n : ℕ) (xs ys : List ℕ) → AreWaitingRound pr role n xs → AreWaitingRound pr role n ys → xs ≡ ys
one_round pr role n xs ys a b =
    same_list xs ys (rises xs a.rising) (rises ys b.rising)
    (λ h m. contained ys h ((b.talks h).1 ((a.talks h).0 (contains xs h m))))
    (λ h m. contained xs h ((a.talks h).1 ((b.talks h).0 (contains ys h m))))
