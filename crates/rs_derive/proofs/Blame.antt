-- What the first fault of a derivation says.
use Rattle.std.proofs.Common.{◌≡◌, ◌⊎◌, ℕ, zero, suc, ◌+◌, ◌≤◌, List, [], ◌∷◌, length, map, slice_get, Bool, true, false, cond, ltb, leb, ◌&&◌, Option, Some, None, inl, inr, ⊎_elim, sym, refl}
use Rattle.std.proofs.Common.{ap, subst, ◌∙◌, arith, zero-add}
use Rattle.std.proofs.lemmas.Bool.{ltb-false, leb-true, leb-false, and_cases, and_parts, false≢true}
use Rattle.std.proofs.lemmas.Option.{none-some, same_Some}
use Rattle.rs_model.specs.Data.{Machine_data}
use Rattle.rs_model.specs.declared.graph.Arm.{Arm}
use Rattle.rs_model.specs.declared.machines.Act.{Act}
use Rattle.rs_model.specs.FirstFailed.{or_later}
use Rattle.rs_model.proofs.FirstFailed.{or_some}
use Rattle.rs_derive.proofs.Order.{in_order}
use Rattle.rs_derive.proofs.Rows.{Is, by_rule, complete, follow_picks, served, sound}
use Rattle.rs_derive.proofs.Ruled.{fitting}
use Rattle.rs_derive.proofs.Whole.{is_named, named_is, starts_right}
use Rattle.rs_derive.specs.Checks.{edge_fault, fault_of_edge, length_fault, move_fault, node_fault, nodes_fault, nexts_fault, state_fault}
use Rattle.rs_derive.specs.Nodes.{names, starts}
use Rattle.rs_derive.specs.Data.{DNode_data, Derivation_data}
use Rattle.rs_derive.specs.Derivations.{spot_of}
use Rattle.rs_derive.specs.Due.{Chosen, Due, both_at, due, nexts_by}
use Rattle.rs_derive.specs.Faults.{Blames, Misnames, first_fault}
use Rattle.rs_derive.specs.Moves.{Spot, arm_of, owing_receive, owing_send, spot}
use Rattle.rs_derive.specs.Rules.{RuleFits, all_serve, arms_at, arms_of, serves_some}
use Rattle.rs_derive.specs.declared.faults.DeriveFault.{DeriveFault}
use Rattle.rs_derive.specs.declared.faults.DeriveFault.TheVariants.{BadStart, BadState, TooLongPending, NoMove, WrongNext, Forgets}
use Rattle.rs_derive.specs.declared.rules.Rule.{Rule}
use Rattle.rs_derive.specs.declared.rules.Rule.TheVariants.{Stops, Pays, SendsBoth, Guesses, Follows}

failed : (b : Bool) (g f : DeriveFault) → cond b None (Some g) ≡ Some f → (b ≡ false) × (g ≡ f)
failed true g f e = absurd (none-some f e)
failed false g f e = (refl, same_Some g f e)

-- where something is due there is a choice

abbrev Choice : List (List Spot) → Type 0
Choice ds = (n : ℕ) (spots : List Spot) (r : Spot) → slice_get ds n ≡ Some spots → Is spots r → (rs : List Spot) × Chosen ds rs

both_choice : (theirs : List Arm) (pending : List Act) (arms : List Arm) → all_serve theirs arms ≡ true
    → (rs : List Spot) × Chosen (map (λ a. both_at pending a (arm_of theirs a.label)) arms) rs
both_choice theirs pending [] e = ([], tt)
both_choice theirs pending (a ∷ later) e =
    let k = and_parts (serves_some a (arm_of theirs a.label)) (all_serve theirs later) e in
    let s = served a (arm_of theirs a.label) k.0 in
    let more = both_choice theirs pending later k.1 in
    let r : Spot = spot a.next pending s.0.next in
    let here : Is (both_at pending a (arm_of theirs a.label)) r = subst (λ o. Is (both_at pending a o) r) (sym s.1) (zero, refl) in
    (r ∷ more.0, (here, more.1))

guess_choice : (spots : List Spot) (p : ℕ) (ss : List Spot) (r : Spot) → slice_get (spots ∷ []) p ≡ Some ss → Is ss r → (rs : List Spot) × Chosen (spots ∷ []) rs
guess_choice spots zero ss r g i = (r ∷ [], (subst (λ x. Is x r) (sym (same_Some spots ss g)) i, tt))
guess_choice spots (suc p) ss r g i = absurd (none-some ss g)

choice_by : (p : Spot) (arms theirs : List Arm) (rule : Rule) → RuleFits p.pending arms theirs rule → Choice (nexts_by p arms theirs rule)
choice_by p arms theirs Stops h n ss x g i = ([], tt)
choice_by p arms theirs (Pays place a) h n ss x g i = guess_choice _ n ss x g i
choice_by p arms theirs SendsBoth h n ss x g i = both_choice theirs p.pending arms h
choice_by p arms theirs (Guesses r) h n ss x g i = guess_choice (map (λ b. owing_send p r b) theirs) n ss x g i
choice_by p arms theirs (Follows r) h n ss x g i = (map (λ b. owing_receive p r b) theirs, follow_picks p r theirs)

some_choice : (sub above : Machine_data) (p : Spot) (d : Due) → due sub above p ≡ Some d → Choice d.nexts
some_choice sub above p d e =
    let t = slice_get above.states p.above in
    let b = by_rule p (slice_get sub.states p.state) t d e in
    subst (λ (x : Due). Choice x.nexts) (sym b.due_is) (choice_by p (arms_at b.state) (arms_of t) b.rule (fitting p.pending b.state t b.rule b.row))

-- the first next that is wrong

record Wrong (nodes : List DNode_data) (ds : List (List Spot)) (js : List ℕ) (p : ℕ) : Type 0 where
  one : slice_get js p ≡ None → slice_get ds p ≡ None → ⊥
  none : (j : ℕ) (spots : List Spot) (m : DNode_data) → slice_get js p ≡ Some j → slice_get ds p ≡ Some spots → slice_get nodes j ≡ Some m
      → names m spots ≡ true → ⊥

record Level (nodes : List DNode_data) (keeps : Bool) (rank : ℕ) (ds : List (List Spot)) (js : List ℕ) (p : ℕ) : Type 0 where
  head : keeps ≡ true
  j : ℕ
  m : DNode_data
  spots : List Spot
  next : slice_get js p ≡ Some j
  node : slice_get nodes j ≡ Some m
  due' : slice_get ds p ≡ Some spots
  present : Is spots (spot_of m)
  rank' : rank ≤ m.rank

abbrev Told : List DNode_data → Bool → ℕ → ℕ → List (List Spot) → List ℕ → ℕ → DeriveFault → Type 0
Told nodes keeps rank i ds js k f =
    ((p : ℕ) × (WrongNext i (k + p) ≡ f) × Wrong nodes ds js p)
    ⊎ ((p : ℕ) × (Forgets i (k + p) ≡ f) × Level nodes keeps rank ds js p)

stayed : (b : Bool) (rank there : ℕ) (g f : DeriveFault) → leb rank there ≡ b → cond b (Some g) None ≡ Some f
    → (true ≡ true) × (true ≡ true) × (rank ≤ there) × (g ≡ f)
stayed true rank there g f h e = (refl, refl, leb-true rank there h, same_Some g f e)
stayed false rank there g f h e = absurd (none-some f e)

judged_some : (keeps : Bool) (rank i k : ℕ) (b : Bool) (there : ℕ) (f : DeriveFault) → fault_of_edge keeps rank i k b there ≡ Some f
    → ((b ≡ false) × (WrongNext i k ≡ f)) ⊎ ((b ≡ true) × (keeps ≡ true) × (rank ≤ there) × (Forgets i k ≡ f))
judged_some keeps rank i k false there f e = inl (refl, same_Some (WrongNext i k) f e)
judged_some false rank i k true there f e = absurd (none-some f e)
judged_some true rank i k true there f e = inr (stayed (leb rank there) rank there (Forgets i k) f refl e)

edge_some : (nodes : List DNode_data) (keeps : Bool) (rank i k : ℕ) (d : List Spot) (ds : List (List Spot)) (j : ℕ) (js : List ℕ) (o : Option DNode_data) (f : DeriveFault)
    → slice_get nodes j ≡ o → edge_fault keeps rank i k d o ≡ Some f → Told nodes keeps rank i (d ∷ ds) (j ∷ js) k f
edge_some nodes keeps rank i k d ds j js None f g e =
    let n : k + zero ≡ k = omega arith in
    inl (
      zero,
      ap (λ x. WrongNext i x) n ∙ same_Some (WrongNext i k) f e,
      record {
        one = λ a b. none-some j (sym a);
        none = λ x spots m gx gd gm named. none-some m (sym g ∙ ap (λ y. slice_get nodes y) (same_Some j x gx) ∙ gm);
      },
    )
edge_some nodes keeps rank i k d ds j js (Some m) f g e =
    let n : k + zero ≡ k = omega arith in
    ⊎_elim
    (λ h.
    inl (
      zero,
      ap (λ x. WrongNext i x) n ∙ h.1,
      record {
        one = λ a b. none-some j (sym a);
        none = λ x spots y gx gd gy named. (
            let same : m ≡ y = same_Some m y (sym g ∙ ap (λ z. slice_get nodes z) (same_Some j x gx) ∙ gy) in
            false≢true (sym h.0 ∙ ap (λ z. names m z) (same_Some d spots gd) ∙ ap (λ z. names z spots) same ∙ named));
      },
    ))
    (λ h.
    inr (
      zero,
      ap (λ x. Forgets i x) n ∙ h.3,
      record { head = h.1; j = j; m = m; spots = d; next = refl; node = g; due' = refl; present = named_is m d h.0; rank' = h.2 },
    ))
    (judged_some keeps rank i k (names m d) m.rank f e)

later_told : (nodes : List DNode_data) (keeps : Bool) (rank i : ℕ) (d : List Spot) (ds : List (List Spot)) (j : ℕ) (js : List ℕ) (k : ℕ) (f : DeriveFault)
    → Told nodes keeps rank i ds js (k + 1) f → Told nodes keeps rank i (d ∷ ds) (j ∷ js) k f
later_told nodes keeps rank i d ds j js k f (inl t) =
    let n : k + suc t.0 ≡ k + 1 + t.0 = omega arith in
    inl (suc t.0, ap (λ x. WrongNext i x) n ∙ t.1, record { one = t.2.one; none = t.2.none })
later_told nodes keeps rank i d ds j js k f (inr t) =
    let n : k + suc t.0 ≡ k + 1 + t.0 = omega arith in
    let s = t.2 in
    inr (
      suc t.0,
      ap (λ x. Forgets i x) n ∙ t.1,
      record { head = s.head; j = s.j; m = s.m; spots = s.spots; next = s.next; node = s.node; due' = s.due'; present = s.present; rank' = s.rank' },
    )

nexts_some : (nodes : List DNode_data) (keeps : Bool) (rank i : ℕ) (ds : List (List Spot)) (js : List ℕ) (k : ℕ) (f : DeriveFault)
    → nexts_fault nodes keeps rank i ds js k ≡ Some f → Told nodes keeps rank i ds js k f
nexts_some nodes keeps rank i [] [] k f e = absurd (none-some f e)
nexts_some nodes keeps rank i [] (j ∷ js) k f e =
    let n : k + zero ≡ k = omega arith in
    inl (
      zero,
      ap (λ x. WrongNext i x) n ∙ same_Some (WrongNext i k) f e,
      record { one = λ a b. none-some j (sym a); none = λ x spots m gx gd gm h. none-some spots gd },
    )
nexts_some nodes keeps rank i (d ∷ ds) [] k f e =
    let n : k + zero ≡ k = omega arith in
    inl (
      zero,
      ap (λ x. WrongNext i x) n ∙ same_Some (WrongNext i k) f e,
      record { one = λ a b. none-some d (sym b); none = λ x spots m gx gd gm h. none-some x gx },
    )
nexts_some nodes keeps rank i (d ∷ ds) (j ∷ js) k f e =
    ⊎_elim (λ h. edge_some nodes keeps rank i k d ds j js (slice_get nodes j) f refl h)
    (λ h. later_told nodes keeps rank i d ds j js k f (nexts_some nodes keeps rank i ds js (k + 1) f h))
    (or_some (edge_fault keeps rank i k d (slice_get nodes j)) (nexts_fault nodes keeps rank i ds js (k + 1)) f e)

-- a choice and what is due go together

chosen_at : (ds : List (List Spot)) (rs : List Spot) → Chosen ds rs → (p : ℕ) (r : Spot) → slice_get rs p ≡ Some r
    → (spots : List Spot) × (slice_get ds p ≡ Some spots) × Is spots r
chosen_at [] [] h p r g = absurd (none-some r g)
chosen_at [] (x ∷ rs) h p r g = absurd h
chosen_at (d ∷ ds) [] h p r g = absurd h
chosen_at (d ∷ ds) (x ∷ rs) h zero r g = (d, refl, subst (λ y. Is d y) (same_Some x r g) h.0)
chosen_at (d ∷ ds) (x ∷ rs) h (suc p) r g = chosen_at ds rs h.1 p r g

chosen_none : (ds : List (List Spot)) (rs : List Spot) → Chosen ds rs → (p : ℕ) → slice_get rs p ≡ None → slice_get ds p ≡ None
chosen_none [] [] h p g = refl
chosen_none [] (x ∷ rs) h p g = absurd h
chosen_none (d ∷ ds) [] h p g = absurd h
chosen_none (d ∷ ds) (x ∷ rs) h zero g = absurd (none-some x (sym g))
chosen_none (d ∷ ds) (x ∷ rs) h (suc p) g = chosen_none ds rs h.1 p g

misnames : (nodes : List DNode_data) (ds : List (List Spot)) (js : List ℕ) (p : ℕ) (rs : List Spot) → Wrong nodes ds js p → Chosen ds rs → Misnames nodes js rs p
misnames nodes ds js p rs w h =
    record {
      one = λ a b. w.one a (chosen_none ds rs h p b);
      none = λ j r m gj gr gm e. (let c = chosen_at ds rs h p r gr in w.none j c.0 m gj c.1 gm (is_named m c.0 r e c.2));
    }

-- nodes

told_blames : (d : Derivation_data) (sub above : Machine_data) (i : ℕ) (n : DNode_data) (x : Due) (f : DeriveFault) → slice_get d.nodes i ≡ Some n
    → due sub above (spot_of n) ≡ Some x → Told d.nodes x.keeps n.rank i x.nexts n.next 0 f → Blames d sub above f
told_blames d sub above i n x f g e (inl t) =
    let q : WrongNext i t.0 ≡ f = ap (λ y. WrongNext i y) (sym (zero-add t.0)) ∙ t.1 in
    subst (λ y. Blames d sub above y) q (
      n,
      g,
      λ makes results move. (
          let c = complete sub above (spot_of n) makes results move in
          let same : c.d ≡ x = same_Some c.d x (sym c.due_is ∙ e) in
          misnames d.nodes x.nexts n.next t.0 results t.2 (subst (λ y. Chosen y.nexts results) same c.picks)),
    )
told_blames d sub above i n x f g e (inr t) =
    let q : Forgets i t.0 ≡ f = ap (λ y. Forgets i y) (sym (zero-add t.0)) ∙ t.1 in
    let s = t.2 in
    let choice = some_choice sub above (spot_of n) x e t.0 s.spots (spot_of s.m) s.due' s.present in
    let move = sound sub above (spot_of n) x choice.0 e choice.1 in
    subst (λ y. Blames d sub above y) q
    (n, g, record { makes = move.makes; results = choice.0; move = move.move; keeps = move.agrees.from s.head; j = s.j; m = s.m; next = s.next; node = s.node; stays = s.rank' })

move_blames : (d : Derivation_data) (sub above : Machine_data) (i : ℕ) (n : DNode_data) (o : Option Due) (f : DeriveFault) → slice_get d.nodes i ≡ Some n
    → due sub above (spot_of n) ≡ o → move_fault d.nodes i n o ≡ Some f → Blames d sub above f
move_blames d sub above i n None f g e h =
    subst (λ y. Blames d sub above y) (same_Some (NoMove i) f h)
    (n, g, λ makes results move. (let c = complete sub above (spot_of n) makes results move in none-some c.d (sym e ∙ c.due_is)))
move_blames d sub above i n (Some x) f g e h =
    told_blames d sub above i n x f g e (nexts_some d.nodes x.keeps n.rank i x.nexts n.next 0 f h)

state_blames : (d : Derivation_data) (sub above : Machine_data) (i : ℕ) (n : DNode_data) (f : DeriveFault) → slice_get d.nodes i ≡ Some n
    → state_fault sub above i n ≡ Some f → Blames d sub above f
state_blames d sub above i n f g e =
    let k = failed (ltb n.state (length sub.states) && ltb n.above (length above.states)) (BadState i) f e in
    subst (λ y. Blames d sub above y) k.1 (
      n,
      g,
      ⊎_elim (λ h. inl (ltb-false n.state (length sub.states) h)) (λ h. inr (ltb-false n.above (length above.states) h))
          (and_cases (ltb n.state (length sub.states)) (ltb n.above (length above.states)) k.0),
    )

length_blames : (d : Derivation_data) (sub above : Machine_data) (i : ℕ) (n : DNode_data) (f : DeriveFault) → slice_get d.nodes i ≡ Some n
    → length_fault d.bound i n ≡ Some f → Blames d sub above f
length_blames d sub above i n f g e =
    let k = failed (leb (length n.pending) d.bound) (TooLongPending i) f e in
    subst (λ y. Blames d sub above y) k.1 (n, g, leb-false (length n.pending) d.bound k.0)

node_blames : (d : Derivation_data) (sub above : Machine_data) (i : ℕ) (n : DNode_data) (f : DeriveFault) → slice_get d.nodes i ≡ Some n
    → node_fault d sub above i n ≡ Some f → Blames d sub above f
node_blames d sub above i n f g e =
    let moves : Option DeriveFault = move_fault d.nodes i n (due sub above (spot_of n)) in
    ⊎_elim (λ h. state_blames d sub above i n f g h)
    (λ h.
    ⊎_elim (λ k. length_blames d sub above i n f g k) (λ k. move_blames d sub above i n (due sub above (spot_of n)) f g refl k)
    (or_some (length_fault d.bound i n) moves f h))
    (or_some (state_fault sub above i n) (or_later (length_fault d.bound i n) moves) f e)

found : (d : Derivation_data) (sub above : Machine_data) (ns : List DNode_data) (i : ℕ) (f : DeriveFault) → nodes_fault d sub above ns i ≡ Some f
    → (k : ℕ) × (n : DNode_data) × (slice_get ns k ≡ Some n) × (node_fault d sub above (i + k) n ≡ Some f)
found d sub above [] i f e = absurd (none-some f e)
found d sub above (n ∷ later) i f e =
    ⊎_elim
    (λ h. let q : i ≡ i + zero = omega arith in
    (zero, n, refl, subst (λ x. node_fault d sub above x n ≡ Some f) q h))
    (λ h. let r = found d sub above later (i + 1) f h in
    let q : i + 1 + r.0 ≡ i + suc r.0 = omega arith in
    (suc r.0, r.1, r.2, subst (λ x. node_fault d sub above x r.1 ≡ Some f) q r.3))
    (or_some (node_fault d sub above i n) (nodes_fault d sub above later (i + 1)) f e)

start_blames : (d : Derivation_data) (sub above : Machine_data) (f : DeriveFault) → cond (starts sub above d.nodes) None (Some BadStart) ≡ Some f
    → Blames d sub above f
start_blames d sub above f e =
    let k = failed (starts sub above d.nodes) BadStart f e in
    subst (λ y. Blames d sub above y) k.1 (λ n g h. false≢true (sym k.0 ∙ starts_right sub above d.nodes n g h))

pub blamed : (d : Derivation_data) (sub above : Machine_data) (f : DeriveFault) → first_fault d sub above ≡ Some f → Blames d sub above f
blamed d sub above f e =
    ⊎_elim (λ h. start_blames d sub above f h)
    (λ h. let r = found d sub above d.nodes 0 f h in
    node_blames d sub above r.0 r.1 f r.2 (subst (λ x. node_fault d sub above x r.1 ≡ Some f) (zero-add r.0) r.3))
    (or_some (cond (starts sub above d.nodes) None (Some BadStart)) (nodes_fault d sub above d.nodes 0) f (sym (in_order d sub above) ∙ e))
