-- A projection's machine is well formed.
use Rattle.std.proofs.Common.{◌≡◌, ◌≢◌, inl, inr, ℕ, zero, suc, ◌<◌, Bool, true, false, ◌||◌, List, [], ◌∷◌, ◌++◌, map, Option, Some, slice_get, refl, sym, ap, ◌∙◌, subst, subst₂, arith}
use Rattle.std.proofs.Common.{if◌then◌else◌, ◌==◌, get_or}
use Rattle.std.specs.List.{Contains, flat_map}
use Rattle.std.proofs.lemmas.Bool.Decides.{eqb_tells}
use Rattle.std.proofs.lemmas.Option.{slice_get_within, slice_get-get_or}
use Rattle.rs_model.specs.Data.{Protocol_data}
use Rattle.rs_model.specs.WellFormed.{StateFits, IsWellFormedMachine}
use Rattle.rs_model.specs.declared.graph.Arm.{Arm}
use Rattle.rs_model.specs.declared.graph.Label.{Label}
use Rattle.rs_model.specs.declared.graph.Node.{Node}
use Rattle.rs_model.specs.declared.graph.Role.{Role}
use Rattle.rs_model.specs.declared.machines.State.{State}
use Rattle.rs_model.specs.declared.machines.State.TheVariants.{Puts, Takes}
use Rattle.rs_model.specs.Talks.{Talks}
use Rattle.rs_wellformed.specs.WellFormed.{IsWellFormed}
use Rattle.rs_project.specs.Data.{Projection_data}
use Rattle.rs_project.specs.Projection.{LabelChoice, choice_of, choices_of, first_choices, merged_choices, AreArmsOf, IsStateOf, IsDone, IsPuts, IsTakes, IsProjection}
use Rattle.rs_graph.specs.Lists.{Among}
use Rattle.rs_project.proofs.Lists.{contains}
use Rattle.rs_project.proofs.Choices.{has_label, label_last, merged_label, arm_choice}

-- no choice has the label
abbrev pub Unlabelled : Label → List LabelChoice → Type 0
Unlabelled l cs = (c : LabelChoice) → Among cs c → c.label ≢ l

-- no label stands twice
abbrev pub Once : List LabelChoice → Type 0
Once [] = Unit {0}
Once (c ∷ cs) = Unlabelled c.label cs × Once cs

or_left : (a b : Bool) → (a || b) ≡ false → a ≡ false
or_left false b h = refl
or_left true b h = absurd (cc (h))

or_right : (a b : Bool) → (a || b) ≡ false → b ≡ false
or_right false b h = h
or_right true b h = absurd (cc (h))

-- no first choice has the label of an earlier one
first_new : (cs earlier : List LabelChoice) (c : LabelChoice) → Among (first_choices cs earlier) c → has_label c.label earlier ≡ false
first_new [] earlier c h = absurd h
first_new (a ∷ later) earlier c h = go (has_label a.label earlier) refl (first_new later earlier c) (first_new later (earlier ++ (a ∷ [])) c) h
  where
    go : (b : Bool) → has_label a.label earlier ≡ b
        → (Among (first_choices later earlier) c → has_label c.label earlier ≡ false)
        → (Among (first_choices later (earlier ++ (a ∷ []))) c → has_label c.label (earlier ++ (a ∷ [])) ≡ false)
        → Among (if b then first_choices later earlier else a ∷ first_choices later (earlier ++ (a ∷ []))) c
        → has_label c.label earlier ≡ false
    go true e skip keep h' = skip h'
    go false e skip keep (inl s) = let P : LabelChoice → Type 0 = λ z. has_label z.label earlier ≡ false in subst P s e
    go false e skip keep (inr h') = or_left (has_label c.label earlier) (a.label.0 == c.label.0) (sym (label_last c.label earlier a) ∙ keep h')

differs : (x y : Label) → (x.0 == y.0) ≡ false → y ≢ x
differs x y h e = elim (eqb_tells x.0 y.0) [ inl t ↦ cc (t.0, h) | inr t ↦ t.1 (ap (λ (z : Label). z.0) (sym e)) ]

first_once : (cs earlier : List LabelChoice) → Once (first_choices cs earlier)
first_once [] earlier = tt
first_once (a ∷ later) earlier = go (has_label a.label earlier) (first_once later earlier) (first_once later (earlier ++ (a ∷ [])))
  where
    new : Unlabelled a.label (first_choices later (earlier ++ (a ∷ [])))
    new c h = differs a.label c.label (or_right (has_label c.label earlier) (a.label.0 == c.label.0) (sym (label_last c.label earlier a) ∙ first_new later (earlier ++ (a ∷ [])) c h))

    go : (b : Bool) → Once (first_choices later earlier) → Once (first_choices later (earlier ++ (a ∷ [])))
        → Once (if b then first_choices later earlier else a ∷ first_choices later (earlier ++ (a ∷ [])))
    go true skip keep = skip
    go false skip keep = (new, keep)

once_arms : (arms : List Arm) → Once (map choice_of arms) → (i j : ℕ) (a b : Arm) → slice_get arms i ≡ Some a → slice_get arms j ≡ Some b
    → a.label ≡ b.label → i ≡ j
once_arms [] o i j a b ha hb e = absurd (cc (ha))
once_arms (x ∷ xs) o zero zero a b ha hb e = refl
once_arms (x ∷ xs) o zero (suc j) a b ha hb e =
    let s : x ≡ a = cc (ha) in
    absurd (o.0 (choice_of b) (arm_choice xs j b hb) (sym e ∙ ap (λ (z : Arm). z.label) (sym s)))
once_arms (x ∷ xs) o (suc i) zero a b ha hb e =
    let s : x ≡ b = cc (hb) in
    absurd (o.0 (choice_of a) (arm_choice xs i a ha) (e ∙ ap (λ (z : Arm). z.label) (sym s)))
once_arms (x ∷ xs) o (suc i) (suc j) a b ha hb e = ap suc (once_arms xs o.1 i j a b ha hb e)

-- some member's arms are there, so the state's are
arms_some : (pr : Protocol_data) (members : List ℕ) (talk : ℕ) (x y : Role) (theirs arms : List Arm) → Contains members talk → Talks pr talk x y theirs
    → theirs ≢ [] → map choice_of arms ≡ merged_choices pr members → arms ≢ []
arms_some pr members talk x y [] arms m n ne c none = ne refl
arms_some pr members talk x y (a ∷ theirs) arms m n ne c none =
    let Q : Option Node → Type 0 = λ z. Among (choices_of z) (choice_of a) in
    let l = merged_label pr members talk (choice_of a) m (subst Q (sym n) (inl refl)) in
    let R : List LabelChoice → Type 0 = λ z. Among z l.0 in
    let S : List Arm → Type 0 = λ z. Among (map choice_of z) l.0 in
    subst S none (subst R (sym c) l.1)

pub a_member : (members : List ℕ) → members ≢ [] → (talk : ℕ) × Contains members talk
a_member [] ne = absurd (ne refl)
a_member (x ∷ xs) ne = (x, contains (x ∷ xs) x (inl refl))

state_fits : (pr : Protocol_data) (p : Role) (pj : Projection_data) (q x y : Role) (members : List ℕ) (talk : ℕ) (theirs arms : List Arm)
    → IsWellFormed pr → IsProjection pr p pj → Contains members talk → Talks pr talk x y theirs → AreArmsOf pr p pj.sets members arms
    → q ≢ p → q.0 < pr.roles → StateFits pj.machine pr.roles q arms
state_fits pr p pj q x y members talk theirs arms wf ip m n ar ne hq = record {
  some = arms_some pr members talk x y theirs arms m n (wf.talks talk x y theirs n).some ar.choices;
  other = λ h. ne (h ∙ ip.onto);
  known = hq;
  once = (let P : List LabelChoice → Type 0 = λ z. Once z in once_arms arms (subst P (sym ar.choices) (first_once (flat_map (λ k. choices_of (slice_get pr.nodes k)) members) [])));
  nexts = λ i a h.
      let s = ar.nexts i a h in
      let w = slice_get_within pj.sets a.next s.members s.stands in
      let al = ip.all in
      omega arith;
}

-- each state has its set
pub record SetOf (pr : Protocol_data) (p : Role) (pj : Projection_data) (s : ℕ) (st : State) : Type 0 where
  pub members : List ℕ
  pub of : IsStateOf pr p pj.sets members st

set_of : (pr : Protocol_data) (p : Role) (pj : Projection_data) (s : ℕ) (st : State) → IsProjection pr p pj → slice_get pj.machine.states s ≡ Some st
    → SetOf pr p pj s st
set_of pr p pj s st ip h =
    let w = slice_get_within pj.machine.states s st h in
    let al = ip.all in
    let at : slice_get pj.sets s ≡ Some (get_or pj.sets s []) = slice_get-get_or pj.sets s [] (omega arith) in
    record { members = get_or pj.sets s []; of = ip.states s (get_or pj.sets s []) st at h }

puts_fits : (pr : Protocol_data) (p : Role) (pj : Projection_data) (q : Role) (arms : List Arm) (members : List ℕ) → IsWellFormed pr → IsProjection pr p pj
    → IsStateOf pr p pj.sets members (Puts q arms) → StateFits pj.machine pr.roles q arms
puts_fits pr p pj q arms members wf ip (IsDone n d) = absurd (cc (d))
puts_fits pr p pj q arms members wf ip (IsTakes r bs n each d ar) = absurd (cc (d))
puts_fits pr p pj q arms members wf ip (IsPuts r bs n each d ar) =
    let m = a_member members n in
    let t = each m.0 m.1 in
    let fit = wf.talks m.0 p r t.0 t.1 in
    let eq : r ≡ q = cc (d) in
    let eb : bs ≡ arms = cc (d) in
    let P : Role → List Arm → Type 0 = λ u v. StateFits pj.machine pr.roles u v in
    subst₂ P eq eb (state_fits pr p pj r p r members m.0 t.0 bs wf ip m.1 t.1 ar (λ z. fit.others (sym z)) fit.takes)

takes_fits : (pr : Protocol_data) (p : Role) (pj : Projection_data) (q : Role) (arms : List Arm) (members : List ℕ) → IsWellFormed pr → IsProjection pr p pj
    → IsStateOf pr p pj.sets members (Takes q arms) → StateFits pj.machine pr.roles q arms
takes_fits pr p pj q arms members wf ip (IsDone n d) = absurd (cc (d))
takes_fits pr p pj q arms members wf ip (IsPuts r bs n each d ar) = absurd (cc (d))
takes_fits pr p pj q arms members wf ip (IsTakes r bs n each d ar) =
    let m = a_member members n in
    let t = each m.0 m.1 in
    let fit = wf.talks m.0 r p t.0 t.1 in
    let eq : r ≡ q = cc (d) in
    let eb : bs ≡ arms = cc (d) in
    let P : Role → List Arm → Type 0 = λ u v. StateFits pj.machine pr.roles u v in
    subst₂ P eq eb (state_fits pr p pj r r p members m.0 t.0 bs wf ip m.1 t.1 ar fit.others fit.puts)

pub projection_machine : (pr : Protocol_data) (p : Role) (pj : Projection_data) → IsWellFormed pr → p.0 < pr.roles → IsProjection pr p pj
    → IsWellFormedMachine pj.machine pr.roles
projection_machine pr p pj wf hp ip = record {
  role = (let P : Role → Type 0 = λ z. z.0 < pr.roles in subst P (sym ip.onto) hp);
  start = (let e = ip.start in let r = ip.first in let w = slice_get_within pj.sets 0 r.members r.stands in let al = ip.all in omega arith);
  puts = λ s q arms h. (let x = set_of pr p pj s (Puts q arms) ip h in puts_fits pr p pj q arms x.members wf ip x.of);
  takes = λ s q arms h. (let x = set_of pr p pj s (Takes q arms) ip h in takes_fits pr p pj q arms x.members wf ip x.of);
}
