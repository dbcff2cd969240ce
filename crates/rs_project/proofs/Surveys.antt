-- What is known of the nodes of a protocol for one role.
use Rattle.std.proofs.Common.{◌≡◌, ◌⊎◌, ◌↔◌, inl, inr, ℕ, zero, suc, ◌+◌, ◌<◌, ◌≤◌, Bool, true, false, not, ◌&&◌, ◌||◌, ◌==◌, List, [], ◌∷◌, length, set, get_or, map, Some, slice_get, replicate, refl, sym, ap}
use Rattle.std.proofs.Common.{◌∙◌, subst, arith, if◌then◌else◌}
use Rattle.std.proofs.lemmas.Bool.{cases_lt, false≢true}
use Rattle.std.proofs.lemmas.Bool.Decides.{eqb_tells}
use Rattle.std.proofs.lemmas.Option.{same_Some}
use Rattle.std.proofs.lemmas.List.{get_or-set_same, get_or-set_other}
use Rattle.rs_model.specs.Data.{Protocol_data}
use Rattle.rs_model.specs.declared.graph.Arm.{Arm}
use Rattle.rs_model.specs.declared.graph.Node.{Node}
use Rattle.rs_model.specs.declared.graph.Node.TheVariants.{Finished, Talk}
use Rattle.rs_model.specs.declared.graph.Role.{Role}
use Rattle.rs_project.specs.Graph.{PathStep, LeadsTo, IsPath, Involves, IsIdle, PassesBy}
use Rattle.rs_graph.specs.Lists.{Among}
use Rattle.rs_wellformed.specs.WellFormed.{IsWellFormed}
use Rattle.rs_project.specs.Awaited.{MarksNode}
use Rattle.rs_project.specs.Marks.{IsOn, IsAwaited, AllAwaited, AreMarked, GoesOn, HasFlags, IsSettled, IsSurvey, any_on, arms_of_node, leads_on, involves_role, nexts_of_node}
use Rattle.rs_project.specs.Numbered.{nexts_of}
use Rattle.rs_project.proofs.Flags.{on_within, on_decide, off_flag, none_on, set_itself, set_on, set_only}
use Rattle.rs_project.proofs.Runs.{gone_on_run, no_ends, own_end}
use Rattle.rs_project.proofs.Spread.{step_of, among_leads, leads_among}

any_some : (flags : List Bool) (arms : List Arm) → any_on flags arms ≡ true → (next : ℕ) × Among (nexts_of arms) next × IsOn flags next
any_some flags [] h = absurd (cc (h))
any_some flags (a ∷ arms) h = go (get_or flags a.next false) refl h (λ k. any_some flags arms k)
  where
    go : (b : Bool) → get_or flags a.next false ≡ b → (if b then true else any_on flags arms) ≡ true
        → (any_on flags arms ≡ true → (next : ℕ) × Among (nexts_of arms) next × IsOn flags next) → (next : ℕ) × Among (nexts_of (a ∷ arms)) next × IsOn flags next
    go true e k rest = (a.next, inl refl, e)
    go false e k rest = let r = rest k in (r.0, inr r.1, r.2)

any_all : (flags : List Bool) (arms : List Arm) (next : ℕ) → Among (nexts_of arms) next → IsOn flags next → any_on flags arms ≡ true
any_all flags [] next h on = absurd h
any_all flags (a ∷ arms) next h on = go (get_or flags a.next false) refl h (λ k. any_all flags arms next k on)
  where
    go : (b : Bool) → get_or flags a.next false ≡ b → Among (nexts_of (a ∷ arms)) next → (Among (nexts_of arms) next → any_on flags arms ≡ true) → (if b then true else any_on flags arms) ≡ true
    go true e k rest = refl
    go false e (inl k) rest = (let P : ℕ → Type 0 = λ z. IsOn flags z in let o : IsOn flags a.next = subst P (sym k) on in absurd (cc (o, e)))
    go false e (inr k) rest = rest k

awaited_step : (pr : Protocol_data) (role : Role) (n place next : ℕ) → LeadsTo pr n place next → IsAwaited pr role next → IsAwaited pr role n
awaited_step pr role n place next goes w = record {
  talk = w.talk;
  reached = (step_of n place ∷ w.reached.0, (next, refl, goes, w.reached.1));
  involved = w.involved;
}

-- a node that leads to one from which a talk of the role can be reached
pub awaited_by : (pr : Protocol_data) (role : Role) (flags : List Bool) (n : ℕ) (node : Node) → AllAwaited pr role flags → slice_get pr.nodes n ≡ Some node → leads_on flags node ≡ true
    → IsAwaited pr role n
awaited_by pr role flags n Finished all is h = absurd (cc (h))
awaited_by pr role flags n (Talk sender receiver arms) all is h =
    let r = any_some flags arms h in
    let g = among_leads pr n r.0 (Talk sender receiver arms) is r.1 in
    awaited_step pr role n g.0 r.0 g.1 (all r.0 r.2)

pub awaited_set : (pr : Protocol_data) (role : Role) (flags : List Bool) (n : ℕ) (node : Node) → slice_get pr.nodes n ≡ Some node → leads_on flags node ≡ true → AllAwaited pr role flags
    → AllAwaited pr role (set flags n true)
awaited_set pr role flags n node is h all = λ m on. elim (set_only flags n m on) [
  | inl k ↦ all m k
  | inr e ↦ (let P : ℕ → Type 0 = λ z. IsAwaited pr role z in subst P e (awaited_by pr role flags n node all is h))
]

pub leads_on_by : (pr : Protocol_data) (flags : List Bool) (n place next : ℕ) (node : Node) → slice_get pr.nodes n ≡ Some node → LeadsTo pr n place next → IsOn flags next → leads_on flags node ≡ true
leads_on_by pr flags n place next Finished is goes on = absurd (leads_among pr n place next Finished is goes)
leads_on_by pr flags n place next (Talk sender receiver arms) is goes on = any_all flags arms next (leads_among pr n place next (Talk sender receiver arms) is goes) on

on_back : (pr : Protocol_data) (flags : List Bool) → IsSettled pr flags → (ss : List PathStep) (n m : ℕ) → IsPath pr n ss m → IsOn flags m → IsOn flags n
on_back pr flags settled [] n m path on = let P : ℕ → Type 0 = λ z. IsOn flags z in subst P (sym path) on
on_back pr flags settled (s ∷ ss) n m path on =
    let h = on_back pr flags settled ss path.0 m path.3 on in
    let node : Node = Talk path.2.sender path.2.receiver path.2.arms in
    let P : ℕ → Type 0 = λ z. IsOn flags z in
    subst P path.1 (settled s.node node (let Q : ℕ → Type 0 = λ z. slice_get pr.nodes z ≡ Some node in subst Q (sym path.1) path.2.talks)
    (leads_on_by pr flags n s.place path.0 node path.2.talks path.2 h))

on_map : (f : Node → Bool) (nodes : List Node) (n : ℕ) → IsOn (map f nodes) n → (node : Node) × (slice_get nodes n ≡ Some node) × (f node ≡ true)
on_map f [] n h = absurd (cc (h))
on_map f (x ∷ xs) zero h = (x, refl, h)
on_map f (x ∷ xs) (suc n) h = on_map f xs n h

map_on : (f : Node → Bool) (nodes : List Node) (n : ℕ) (node : Node) → slice_get nodes n ≡ Some node → f node ≡ true → IsOn (map f nodes) n
map_on f [] n node is h = absurd (cc (is))
map_on f (x ∷ xs) zero node is h = (let e : x ≡ node = cc (is) in ap f e ∙ h)
map_on f (x ∷ xs) (suc n) node is h = map_on f xs n node is h

pub same_role : (x y : Role) → x.0 ≡ y.0 → x ≡ y
same_role x y e = let mk : ℕ → Role = λ p. record { 0 = p } in ap mk e

pub or_split : (a b : Bool) → (a || b) ≡ true → (a ≡ true) ⊎ (b ≡ true)
or_split true b h = inl refl
or_split false b h = inr h

pub or_right : (a b : Bool) → b ≡ true → (a || b) ≡ true
or_right true b h = refl
or_right false b h = h

pub or_left : (a b : Bool) → a ≡ true → (a || b) ≡ true
or_left true b h = refl
or_left false b h = absurd (cc (h))

pub role_by : (x y : Role) → (x.0 == y.0) ≡ true → x ≡ y
role_by x y h = elim (eqb_tells x.0 y.0) [ inl t ↦ same_role x y t.1 | inr t ↦ absurd (cc (h, t.0)) ]

pub role_eq : (x y : Role) → x ≡ y → (x.0 == y.0) ≡ true
role_eq x y e = elim (eqb_tells x.0 y.0) [ inl t ↦ t.0 | inr t ↦ absurd (t.1 (ap (λ (z : Role). z.0) e)) ]

pub involves_by : (pr : Protocol_data) (role : Role) (n : ℕ) (node : Node) → slice_get pr.nodes n ≡ Some node → involves_role role node ≡ true → Involves pr role n
involves_by pr role n Finished is h = absurd (cc (h))
involves_by pr role n (Talk sender receiver arms) is h = record {
  sender = sender;
  receiver = receiver;
  arms = arms;
  talks = is;
  part = elim (or_split (sender.0 == role.0) (receiver.0 == role.0) h) [ inl k ↦ inl (role_by sender role k) | inr k ↦ inr (role_by receiver role k) ];
}

involved_flags : (pr : Protocol_data) (role : Role) (n : ℕ) → IsOn (map (λ k. involves_role role k) pr.nodes) n ↔ Involves pr role n
involved_flags pr role n = (
  (λ h. (let r = on_map (λ k. involves_role role k) pr.nodes n h in involves_by pr role n r.0 r.1 r.2)),
  (λ i. map_on (λ k. involves_role role k) pr.nodes n (Talk i.sender i.receiver i.arms) i.talks (elim i.part [
    | inl e ↦ or_left (i.sender.0 == role.0) (i.receiver.0 == role.0) (role_eq i.sender role e)
    | inr e ↦ or_right (i.sender.0 == role.0) (i.receiver.0 == role.0) (role_eq i.receiver role e)
  ])),
)

involved_awaited : (pr : Protocol_data) (role : Role) (n : ℕ) → Involves pr role n → IsAwaited pr role n
involved_awaited pr role n i = record { talk = n; reached = ([], refl); involved = i }

and_both : (a b : Bool) → (a && not b) ≡ true → (a ≡ true) × (b ≡ false)
and_both true false h = (refl, refl)
and_both true true h = absurd (cc (h))
and_both false b h = absurd (cc (h))

both_and : (a b : Bool) → a ≡ true → (b ≡ true → ⊥) → (a && not b) ≡ true
both_and true false h k = refl
both_and true true h k = absurd (k refl)
both_and false b h k = absurd (cc (h))

map_length : (f : Node → Bool) (nodes : List Node) → length (map f nodes) ≡ length nodes
map_length f [] = refl
map_length f (x ∷ xs) = ap suc (map_length f xs)

-- what is from there on and isn't there is past it
past : (x n : ℕ) → x ≤ n → (n ≡ x → ⊥) → x + 1 ≤ n
past x n from ne = elim (cases_lt x n) [ inl k ↦ omega (arith, k) | inr k ↦ absurd (ne (omega (arith, from, k))) ]

-- no other nodes involve the role
never_involved : (pr : Protocol_data) (role : Role) (n : ℕ) (node : Node) → slice_get pr.nodes n ≡ Some node → involves_role role node ≡ false → Involves pr role n → ⊥
never_involved pr role n node is off i =
    let same : node ≡ Talk i.sender i.receiver i.arms = same_Some node (Talk i.sender i.receiver i.arms) (sym is ∙ i.talks) in
    let on : involves_role role (Talk i.sender i.receiver i.arms) ≡ true = elim i.part [
      | inl e ↦ or_left (i.sender.0 == role.0) (i.receiver.0 == role.0) (role_eq i.sender role e)
      | inr e ↦ or_right (i.sender.0 == role.0) (i.receiver.0 == role.0) (role_eq i.receiver role e)
    ] in
    false≢true (sym off ∙ ap (λ z. involves_role role z) same ∙ on)

-- ---- nodes are marked as awaited, and those that don't involve the role as passing

-- nothing is marked yet
pub marked_none : (pr : Protocol_data) (role : Role) (involved awaited passing : List Bool) (ends : List ℕ) (k : ℕ) → involved ≡ replicate k false → awaited ≡ replicate k false
    → passing ≡ replicate k false → length ends ≡ length pr.nodes
    → ((n : ℕ) → Involves pr role n → n < length pr.nodes)
    → AreMarked pr role (length pr.nodes) involved awaited passing ends
marked_none pr role involved awaited passing ends k ei ea ep size within = record {
  talks = λ n o. absurd (none involved ei n o);
  whole = λ n from i. absurd (let w = within n i in let bad : ⊥ = omega (arith, from, w) in bad);
  has = λ n o. absurd (none involved ei n o);
  reaches = λ n o. absurd (none awaited ea n o);
  later = λ n o. absurd (none awaited ea n o);
  passes = λ n. off_flag passing n (none passing ep n) ∙ sym (ap (λ (z : Bool). z && not (get_or involved n false)) (off_flag awaited n (none awaited ea n)));
  runs = no_ends pr role ends size;
}
  where
    none : (flags : List Bool) → flags ≡ replicate k false → (n : ℕ) → IsOn flags n → ⊥
    none flags e n o = let P : List Bool → Type 0 = λ z. IsOn z n in none_on k n (subst P e o)

-- the node is a talk of the role
pub marked_own : (pr : Protocol_data) (role : Role) (involved awaited passing : List Bool) (ends : List ℕ) (x : ℕ) → x < length pr.nodes → x < length involved → x < length awaited
    → Involves pr role x → AreMarked pr role (x + 1) involved awaited passing ends
    → AreMarked pr role x (set involved x true) (set awaited x true) passing (set ends x x)
marked_own pr role involved awaited passing ends x w wi wa own m = record {
  talks = λ n o. elim (set_only involved x n o) [
    | inl k ↦ m.talks n k
    | inr e ↦ (let P : ℕ → Type 0 = λ z. Involves pr role z in subst P e own)
  ];
  whole = λ n from i. elim (eqb_tells n x) [
    | inl p ↦ (let P : ℕ → Type 0 = λ z. IsOn (set involved x true) z in subst P (sym p.1) (set_itself involved x wi))
    | inr p ↦ set_on involved x n (m.whole n (past x n from p.1) i)
  ];
  has = λ n o. elim (set_only involved x n o) [
    | inl k ↦ set_on awaited x n (m.has n k)
    | inr e ↦ (let P : ℕ → Type 0 = λ z. IsOn (set awaited x true) z in subst P e (set_itself awaited x wa))
  ];
  reaches = λ n o. elim (set_only awaited x n o) [
    | inl k ↦ m.reaches n k
    | inr e ↦ (let P : ℕ → Type 0 = λ z. IsAwaited pr role z in subst P e (involved_awaited pr role x own))
  ];
  later = λ n o. elim (set_only awaited x n o) [
    | inl k ↦ (let l = m.later n k in omega (arith, l))
    | inr e ↦ omega (arith, e)
  ];
  passes = λ n. passes n;
  runs = own_end pr role ends x w m.runs;
}
  where
    off : get_or awaited x false ≡ false
    off = off_flag awaited x (λ o. (let l = m.later x o in omega (arith, l)))

    passes : (n : ℕ) → get_or passing n false ≡ (get_or (set awaited x true) n false && not (get_or (set involved x true) n false))
    passes n = elim (eqb_tells n x) [
      | inl p ↦ (
          let a : get_or (set awaited x true) n false ≡ true = ap (λ (z : ℕ). get_or (set awaited x true) z false) p.1 ∙ get_or-set_same awaited x true false wa in
          let b : get_or (set involved x true) n false ≡ true = ap (λ (z : ℕ). get_or (set involved x true) z false) p.1 ∙ get_or-set_same involved x true false wi in
          let c : get_or awaited n false ≡ false = ap (λ (z : ℕ). get_or awaited z false) p.1 ∙ off in
          let d : get_or passing n false ≡ false = m.passes n ∙ ap (λ (z : Bool). z && not (get_or involved n false)) c in
          d ∙ sym (ap (λ (z : Bool). z && not (get_or (set involved x true) n false)) a ∙ ap (λ (z : Bool). not z) b))
      | inr p ↦ m.passes n
          ∙ ap (λ (z : Bool). z && not (get_or involved n false)) (sym (get_or-set_other awaited x n true false p.1))
          ∙ ap (λ (z : Bool). get_or (set awaited x true) n false && not z) (sym (get_or-set_other involved x n true false p.1))
    ]

-- the node is another one
pub marked_other : (pr : Protocol_data) (role : Role) (involved awaited passing : List Bool) (ends : List ℕ) (x : ℕ) (node : Node) → x < length pr.nodes → slice_get pr.nodes x ≡ Some node
    → involves_role role node ≡ false → AreMarked pr role (x + 1) involved awaited passing ends → AreMarked pr role x involved awaited passing (set ends x x)
marked_other pr role involved awaited passing ends x node w is other m = record {
  talks = m.talks;
  whole = λ n from i. elim (eqb_tells n x) [
    | inl p ↦ (let P : ℕ → Type 0 = λ z. Involves pr role z in absurd (never_involved pr role x node is other (subst P p.1 i)))
    | inr p ↦ m.whole n (past x n from p.1) i
  ];
  has = m.has;
  reaches = m.reaches;
  later = λ n o. (let l = m.later n o in omega (arith, l));
  passes = m.passes;
  runs = own_end pr role ends x w m.runs;
}

passing_set : (involved awaited passing : List Bool) (x : ℕ) → x < length awaited → x < length passing → get_or awaited x false ≡ false → HasFlags involved awaited
    → ((n : ℕ) → get_or passing n false ≡ (get_or awaited n false && not (get_or involved n false)))
    → (n : ℕ) → get_or (set passing x true) n false ≡ (get_or (set awaited x true) n false && not (get_or involved n false))
passing_set involved awaited passing x wa wp off has are n = elim (eqb_tells n x) [
  | inl p ↦ (let own : get_or involved n false ≡ false = off_flag involved n (λ o. (let k = has n o in let q = ap (λ (z : ℕ). get_or awaited z false) p.1 ∙ off in absurd (cc (k, q)))) in
      let a : get_or (set awaited x true) n false ≡ true = ap (λ (z : ℕ). get_or (set awaited x true) z false) p.1 ∙ get_or-set_same awaited x true false wa in
      let b : get_or (set passing x true) n false ≡ true = ap (λ (z : ℕ). get_or (set passing x true) z false) p.1 ∙ get_or-set_same passing x true false wp in
      b ∙ sym (ap (λ (z : Bool). z && not (get_or involved n false)) a ∙ ap (λ (z : Bool). not z) own))
  | inr p ↦ get_or-set_other passing x n true false p.1 ∙ are n ∙ ap (λ (z : Bool). z && not (get_or involved n false)) (sym (get_or-set_other awaited x n true false p.1))
]

-- the node leads to marked ones
marked_more : (pr : Protocol_data) (role : Role) (from : ℕ) (involved awaited passing : List Bool) (ends ends' : List ℕ) (x : ℕ) (node : Node) → IsWellFormed pr → from ≤ x
    → x < length awaited → x < length passing → get_or awaited x false ≡ false
    → slice_get pr.nodes x ≡ Some node → leads_on awaited node ≡ true → ((next : ℕ) → Among (nexts_of_node node) next → from ≤ next) → GoesOn (arms_of_node node) x ends ends'
    → AreMarked pr role from involved awaited passing ends → AreMarked pr role from involved (set awaited x true) (set passing x true) ends'
marked_more pr role from involved awaited passing ends ends' x node wf le wa wp off is leads behind goes m =
    let all = awaited_set pr role awaited x node is leads m.reaches in
    let here = all x (set_itself awaited x wa) in
    let passes : PassesBy pr role x = record {
      uninvolved = λ i. (let k = m.has x (m.whole x le i) in absurd (cc (k, off)));
      awaited = λ idle. idle here.talk here.reached here.involved;
    } in
    record {
      talks = m.talks;
      whole = m.whole;
      has = λ n h. set_on awaited x n (m.has n h);
      reaches = all;
      later = λ n o. elim (set_only awaited x n o) [ inl k ↦ m.later n k | inr e ↦ omega (arith, e, le) ];
      passes = passing_set involved awaited passing x wa wp off m.has m.passes;
      runs = gone_on_run pr role from ends ends' x node wf passes is behind goes m.runs;
    }

-- whether some arm of a node leads on
leads_by : (flags : List Bool) (node : Node) → any_on flags (arms_of_node node) ≡ true → leads_on flags node ≡ true
leads_by flags Finished h = h
leads_by flags (Talk sender receiver arms) h = h

pub marked_node : (pr : Protocol_data) (role : Role) (from : ℕ) (involved awaited passing : List Bool) (ends : List ℕ) (awaited' passing' : List Bool) (ends' : List ℕ) (x : ℕ) (node : Node) (by_all : Bool)
    → IsWellFormed pr → from ≤ x → x < length awaited → x < length passing → get_or awaited x false ≡ false
    → slice_get pr.nodes x ≡ Some node → ((next : ℕ) → Among (nexts_of_node node) next → from ≤ next)
    → MarksNode (arms_of_node node) x by_all awaited passing ends awaited' passing' ends'
    → AreMarked pr role from involved awaited passing ends → AreMarked pr role from involved awaited' passing' ends'
marked_node pr role from involved awaited passing ends awaited' passing' ends' x node by_all wf le wa wp off is behind marks m =
    let P : List Bool → Type 0 = λ z. AreMarked pr role from involved z passing' ends' in
    let Q : List Bool → Type 0 = λ z. AreMarked pr role from involved (set awaited x true) z ends' in
    subst P (sym marks.is_awaited) (subst Q (sym marks.is_passing) (marked_more pr role from involved awaited passing ends ends' x node wf le wa wp off is (leads_by awaited node marks.some) behind marks.goes_on m))

survey_by : (pr : Protocol_data) (role : Role) (involved awaited passing : List Bool) (ends : List ℕ)
    → length involved ≡ length pr.nodes → length awaited ≡ length pr.nodes → length passing ≡ length pr.nodes → ((n : ℕ) → IsOn involved n ↔ Involves pr role n)
    → AllAwaited pr role awaited → HasFlags involved awaited → IsSettled pr awaited
    → ((n : ℕ) → n < length pr.nodes → get_or passing n false ≡ (get_or awaited n false && not (get_or involved n false)))
    → IsSurvey pr role record { protocol = pr; role = role; involved = involved; awaited = awaited; passing = passing; run_ends = ends }
survey_by pr role involved awaited passing ends isize asize psize inv aw has settled each = record {
  involved_size = isize;
  awaited_size = asize;
  passing_size = psize;
  involved = inv;
  awaited = aw;
  idle = idle;
  passing = λ n. (
    (λ h. (let w = on_within passing n h in
        let b = and_both (get_or awaited n false) (get_or involved n false) (sym (each n (omega (arith, w, psize))) ∙ h) in
        record {
          uninvolved = λ i. (let o = (inv n).1 i in absurd (cc (o, b.1)));
          awaited = λ k. (let a = aw n b.0 in k a.talk a.reached a.involved);
        })),
    (λ p. (elim (on_decide awaited n) [
      | inl o ↦ (let w = on_within awaited n o in each n (omega (arith, w, asize)) ∙ both_and (get_or awaited n false) (get_or involved n false) o (λ k. p.uninvolved ((inv n).0 k)))
      | inr none ↦ absurd (p.awaited (idle n none))
    ])),
  );
}
  where
    idle : (n : ℕ) → (IsOn awaited n → ⊥) → IsIdle pr role n
    idle n none = λ talk path i. none (on_back pr awaited settled path.0 n talk path.1 (has talk ((inv talk).1 i)))

pub is_survey : (pr : Protocol_data) (role : Role) (involved awaited passing : List Bool) (ends : List ℕ) → involved ≡ map (λ k. involves_role role k) pr.nodes
    → length awaited ≡ length pr.nodes → length passing ≡ length involved
    → (AllAwaited pr role involved → AllAwaited pr role awaited) → HasFlags involved awaited → IsSettled pr awaited
    → ((n : ℕ) → n < length involved → get_or passing n false ≡ (get_or awaited n false && not (get_or involved n false)))
    → IsSurvey pr role record { protocol = pr; role = role; involved = involved; awaited = awaited; passing = passing; run_ends = ends }
is_survey pr role involved awaited passing ends e asize psize sound has settled each =
    survey_by pr role involved awaited passing ends isize asize (psize ∙ isize) inv (sound (λ m o. involved_awaited pr role m ((inv m).0 o))) has settled (λ n h. each n (omega (arith, h, isize)))
  where
    isize : length involved ≡ length pr.nodes
    isize = ap (λ (z : List Bool). length z) e ∙ map_length (λ k. involves_role role k) pr.nodes

    inv : (n : ℕ) → IsOn involved n ↔ Involves pr role n
    inv n = let P : List Bool → Type 0 = λ z. IsOn z n ↔ Involves pr role n in subst P (sym e) (involved_flags pr role n)

pub marked_survey : (pr : Protocol_data) (role : Role) (involved awaited passing : List Bool) (ends : List ℕ)
    → length involved ≡ length pr.nodes → length awaited ≡ length pr.nodes → length passing ≡ length pr.nodes → IsSettled pr awaited → AreMarked pr role 0 involved awaited passing ends
    → IsSurvey pr role record { protocol = pr; role = role; involved = involved; awaited = awaited; passing = passing; run_ends = ends }
marked_survey pr role involved awaited passing ends isize asize psize settled m =
    survey_by pr role involved awaited passing ends isize asize psize (λ n. (m.talks n, (λ i. m.whole n (omega arith) i))) m.reaches m.has settled (λ n _. m.passes n)
