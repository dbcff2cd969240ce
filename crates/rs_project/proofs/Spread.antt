-- Marks that spread from starts through flagged nodes.
use Rattle.std.proofs.Common.{◌≡◌, inl, inr, ℕ, zero, suc, ◌<◌, Bool, true, false, List, [], ◌∷◌, ◌++◌, length, set, get_or, Some, slice_get, refl, sym, subst, arith}
use Rattle.std.proofs.lemmas.Option.{slice_get-get_or}
use Rattle.rs_model.specs.Data.{Protocol_data}
use Rattle.rs_model.specs.declared.graph.Arm.{Arm}
use Rattle.rs_model.specs.declared.graph.Node.{Node}
use Rattle.rs_model.specs.declared.graph.Node.TheVariants.{Finished, Talk}
use Rattle.rs_project.specs.Graph.{PathStep, LeadsTo, IsPath}
use Rattle.rs_wellformed.specs.WellFormed.{IsWellFormed}
use Rattle.rs_graph.specs.Lists.{Among}
use Rattle.rs_project.specs.Marks.{LeadsWithin, IsOn, AllOn, Spreads, Spreading, IsSpread, nexts_of_node}
use Rattle.rs_project.specs.Numbered.{nexts_of}
use Rattle.rs_project.proofs.Lists.{among_split, among_left, among_right, at_among, at_map}
use Rattle.rs_project.proofs.Flags.{on_within, set_on, set_itself, set_only}

abbrev pub step_of : ℕ → ℕ → PathStep
step_of g a = record { node = g; place = a }

pub path_snoc : (pr : Protocol_data) (ss : List PathStep) (g h a k : ℕ) → IsPath pr g ss h → LeadsTo pr h a k
    → IsPath pr g (ss ++ (step_of h a ∷ [])) k
path_snoc pr [] g h a k p goes = let P : ℕ → Type 0 = λ z. LeadsTo pr z a k in (k, sym p, subst P (sym p) goes, refl)
path_snoc pr (s ∷ ss) g h a k p goes = (p.0, p.1, p.2, path_snoc pr ss p.0 h a k p.3 goes)

on_snoc : (flags : List Bool) (ss : List PathStep) (h a : ℕ) → AllOn flags ss → IsOn flags h → AllOn flags (ss ++ (step_of h a ∷ []))
on_snoc flags [] h a all one = (one, tt)
on_snoc flags (s ∷ ss) h a all one = (all.0, on_snoc flags ss h a all.1 one)

spreads_on : (pr : Protocol_data) (th : List Bool) (starts : List ℕ) (n place next : ℕ) → Spreads pr th starts n → IsOn th n → LeadsTo pr n place next → Spreads pr th starts next
spreads_on pr th starts n place next s on goes = record {
  start = s.start;
  among = s.among;
  steps = s.steps ++ (step_of n place ∷ []);
  path = path_snoc pr s.steps s.start n place next s.path goes;
  earlier = on_snoc th s.steps n place s.earlier on;
}

-- nothing is marked yet
pub begun : (pr : Protocol_data) (th : List Bool) (starts : List ℕ) (marks : List Bool) → ((n : ℕ) → IsOn marks n → ⊥) → Spreading pr th starts marks [] starts
begun pr th starts marks none = record {
  sound = λ n h. absurd (none n h);
  right = λ n h. record { start = n; among = h; steps = []; path = refl; earlier = tt };
  listed = λ n h. absurd h;
  begun = λ s h. inr h;
  closed = λ n place next h on goes. absurd (none n h);
}

-- the node is marked already
pub marked_before : (pr : Protocol_data) (th : List Bool) (starts : List ℕ) (marks : List Bool) (todo : List ℕ) (x : ℕ) (soon : List ℕ) → IsOn marks x
    → Spreading pr th starts marks todo (x ∷ soon) → Spreading pr th starts marks todo soon
marked_before pr th starts marks todo x soon on s = record {
  sound = s.sound;
  right = λ n h. s.right n (inr h);
  listed = s.listed;
  begun = λ b h. elim (s.begun b h) [ inl k ↦ inl k | inr (inl e) ↦ inl (let P : ℕ → Type 0 = λ z. IsOn marks z in subst P e on) | inr (inr k) ↦ inr k ];
  closed = λ n place next h o goes. elim (s.closed n place next h o goes) [
    | inl k ↦ inl k
    | inr (inl k) ↦ inr (inl k)
    | inr (inr (inl e)) ↦ inl (let P : ℕ → Type 0 = λ z. IsOn marks z in subst P e on)
    | inr (inr (inr k)) ↦ inr (inr k)
  ];
}

-- the node is marked now, and listed
pub marked_now : (pr : Protocol_data) (th : List Bool) (starts : List ℕ) (marks : List Bool) (todo : List ℕ) (x : ℕ) (soon : List ℕ) → x < length marks
    → Spreading pr th starts marks todo (x ∷ soon) → Spreading pr th starts (set marks x true) (todo ++ (x ∷ [])) soon
marked_now pr th starts marks todo x soon within s = record {
  sound = λ n h. elim (set_only marks x n h) [ inl k ↦ s.sound n k | inr e ↦ s.right n (inl e) ];
  right = λ n h. s.right n (inr h);
  listed = λ n h. elim (among_split todo (x ∷ []) n h) [
    | inl k ↦ set_on marks x n (s.listed n k)
    | inr (inl e) ↦ (let P : ℕ → Type 0 = λ z. IsOn (set marks x true) z in subst P e (set_itself marks x within))
    | inr (inr k) ↦ absurd k
  ];
  begun = λ b h. elim (s.begun b h) [
    | inl k ↦ inl (set_on marks x b k)
    | inr (inl e) ↦ inl (let P : ℕ → Type 0 = λ z. IsOn (set marks x true) z in subst P e (set_itself marks x within))
    | inr (inr k) ↦ inr k
  ];
  closed = λ n place next h o goes. elim (set_only marks x n h) [
    | inl k ↦ elim (s.closed n place next k o goes) [
      | inl m ↦ inl (set_on marks x next m)
      | inr (inl m) ↦ inr (inl (among_left todo (x ∷ []) n m))
      | inr (inr (inl e)) ↦ inl (let P : ℕ → Type 0 = λ z. IsOn (set marks x true) z in subst P e (set_itself marks x within))
      | inr (inr (inr m)) ↦ inr (inr m)
    ]
    | inr e ↦ inr (inl (among_right todo (x ∷ []) n (inl e)))
  ];
}

-- what a node leads to stands among its nexts
pub leads_among : (pr : Protocol_data) (n place next : ℕ) (node : Node) → slice_get pr.nodes n ≡ Some node → LeadsTo pr n place next → Among (nexts_of_node node) next
leads_among pr n place next node is goes =
    let e : Talk goes.sender goes.receiver goes.arms ≡ node = cc (is, goes.talks) in
    let P : Node → Type 0 = λ z. Among (nexts_of_node z) next in
    let Q : ℕ → Type 0 = λ z. Among (nexts_of goes.arms) z in
    subst P e (subst Q goes.leads (at_among (nexts_of goes.arms) place goes.arm.next (at_map (λ (a : Arm). a.next) goes.arms place goes.arm goes.stands)))

among_next : (arms : List Arm) (next : ℕ) → Among (nexts_of arms) next → (place : ℕ) × (arm : Arm) × (slice_get arms place ≡ Some arm) × (arm.next ≡ next)
among_next [] next h = absurd h
among_next (a ∷ as') next (inl e) = (zero, a, refl, e)
among_next (a ∷ as') next (inr h) = let r = among_next as' next h in (suc r.0, r.1, r.2, r.3)

pub among_leads : (pr : Protocol_data) (n next : ℕ) (node : Node) → slice_get pr.nodes n ≡ Some node → Among (nexts_of_node node) next → (place : ℕ) × LeadsTo pr n place next
among_leads pr n next Finished is h = absurd h
among_leads pr n next (Talk sender receiver arms) is h =
    let r = among_next arms next h in
    (r.0, record { sender = sender; receiver = receiver; arms = arms; arm = r.1; talks = is; stands = r.2; leads = r.3 })

-- the first of those listed is gone on from, through
pub gone_on : (pr : Protocol_data) (th : List Bool) (starts : List ℕ) (marks : List Bool) (todo : List ℕ) (n : ℕ) (node : Node)
    → slice_get pr.nodes n ≡ Some node → IsOn th n → Spreading pr th starts marks (n ∷ todo) [] → Spreading pr th starts marks todo (nexts_of_node node)
gone_on pr th starts marks todo n node is on s = record {
  sound = s.sound;
  right = λ m h. (let r = among_leads pr n m node is h in spreads_on pr th starts n r.0 m (s.sound n (s.listed n (inl refl))) on r.1);
  listed = λ m h. s.listed m (inr h);
  begun = λ b h. elim (s.begun b h) [ inl k ↦ inl k | inr k ↦ absurd k ];
  closed = λ m place next h o goes. elim (s.closed m place next h o goes) [
    | inl k ↦ inl k
    | inr (inl (inl f)) ↦ (let Q : ℕ → Type 0 = λ z. LeadsTo pr z place next in inr (inr (leads_among pr n place next node is (subst Q (sym f) goes))))
    | inr (inl (inr j)) ↦ inr (inl j)
    | inr (inr k) ↦ absurd k
  ];
}

-- the first of those listed isn't gone on from
pub stopped : (pr : Protocol_data) (th : List Bool) (starts : List ℕ) (marks : List Bool) (todo : List ℕ) (n : ℕ)
    → get_or th n false ≡ false → Spreading pr th starts marks (n ∷ todo) [] → Spreading pr th starts marks todo []
stopped pr th starts marks todo n off s = record {
  sound = s.sound;
  right = s.right;
  listed = λ m h. s.listed m (inr h);
  begun = s.begun;
  closed = λ m place next h o goes. elim (s.closed m place next h o goes) [
    | inl k ↦ inl k
    | inr (inl (inl f)) ↦ (let Q : ℕ → Type 0 = λ z. IsOn th z in let on : IsOn th n = subst Q (sym f) o in absurd (cc (on, off)))
    | inr (inl (inr j)) ↦ inr (inl j)
    | inr (inr k) ↦ absurd k
  ];
}

spread_along : (pr : Protocol_data) (th : List Bool) (starts : List ℕ) (marks : List Bool) → Spreading pr th starts marks [] []
    → (ss : List PathStep) (g n : ℕ) → IsOn marks g → IsPath pr g ss n → AllOn th ss → IsOn marks n
spread_along pr th starts marks s [] g n on path all = let P : ℕ → Type 0 = λ z. IsOn marks z in subst P path on
spread_along pr th starts marks s (t ∷ ts) g n on path all =
    let P : ℕ → Type 0 = λ z. IsOn th z in
    elim (s.closed g t.place path.0 on (subst P path.1 all.0) path.2) [
      | inl k ↦ spread_along pr th starts marks s ts path.0 n k path.3 all.1
      | inr (inl k) ↦ absurd k
      | inr (inr k) ↦ absurd k
    ]

-- nothing is left to be done
pub spread_whole : (pr : Protocol_data) (th : List Bool) (starts : List ℕ) (marks : List Bool) → length marks ≡ length pr.nodes → Spreading pr th starts marks [] [] → IsSpread pr th starts marks
spread_whole pr th starts marks size s = record {
  size = size;
  sound = s.sound;
  whole = λ n w. elim (s.begun w.start w.among) [ inl k ↦ spread_along pr th starts marks s w.steps w.start n k w.path w.earlier | inr k ↦ absurd k ];
}

pub first_within : (pr : Protocol_data) (th : List Bool) (starts : List ℕ) (marks : List Bool) (todo : List ℕ) (n : ℕ)
    → length marks ≡ length pr.nodes → Spreading pr th starts marks (n ∷ todo) [] → n < length pr.nodes
first_within pr th starts marks todo n size s =
    let w = on_within marks n (s.listed n (inl refl)) in
    omega arith

pub leads_within : (pr : Protocol_data) (n : ℕ) (node : Node) (count : ℕ) → IsWellFormed pr → slice_get pr.nodes n ≡ Some node → count ≡ length pr.nodes → LeadsWithin count node
leads_within pr n Finished count wf is e = tt
leads_within pr n (Talk sender receiver arms) count wf is e = λ k d h.
    (let w = (wf.talks n sender receiver arms is).nexts k (get_or arms k d) (slice_get-get_or arms k d h) in omega arith)
