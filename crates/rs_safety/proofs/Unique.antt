-- A protocol has one projection onto a role, but for the numbers of its states.
use Rattle.std.proofs.Common.{◌≡◌, ℕ, zero, suc, ◌<◌, List, [], ◌∷◌, map, Some, slice_get, sym, ap, ◌∙◌, subst}
use Rattle.rs_model.specs.Data.{Protocol_data}
use Rattle.rs_model.specs.declared.graph.Arm.{Arm}
use Rattle.rs_model.specs.declared.graph.Label.{Label}
use Rattle.rs_model.specs.declared.graph.Node.TheVariants.{Talk}
use Rattle.rs_model.specs.declared.graph.Role.{Role}
use Rattle.rs_model.specs.declared.machines.State.{State}
use Rattle.rs_wellformed.specs.WellFormed.{IsWellFormed}
use Rattle.rs_project.specs.Data.{Projection_data}
use Rattle.rs_project.specs.Graph.{MeetsFirst, MeetsTheEnd}
use Rattle.rs_project.specs.Projection.{IsSet, LabelChoice, choice_of, MeetsBehind, EndsBehind, AreArmsOf, IsStateOf, IsDone, IsPuts, IsTakes, IsProjection}
use Rattle.rs_safety.specs.Alike.{StandAlike, LeadAlike, ActAlike, BothDone, BothPut, BothTake, AreAlike}
use Rattle.rs_safety.proofs.Members.{contained, contains}
use Rattle.rs_safety.proofs.Covers.{stood}
use Rattle.rs_project.proofs.Machines.{a_member}
use Rattle.rs_project.proofs.Numbers.{rises, same_list}

set_same : (ss ts : List (List ℕ)) (s t : ℕ) (M N : ℕ → Type 0) (E D : Type 0) → (a : IsSet ss s M E) → (b : IsSet ts t N D)
    → ((h : ℕ) → M h → N h) → ((h : ℕ) → N h → M h) → a.members ≡ b.members
set_same ss ts s t M N E D a b f g = same_list a.members b.members (rises a.members a.rising) (rises b.members b.rising)
    (λ h m. contained b.members h ((b.talks h).1 (f h ((a.talks h).0 (contains a.members h m)))))
    (λ h m. contained a.members h ((a.talks h).1 (g h ((b.talks h).0 (contains b.members h m)))))

sets_alike : (one other : Projection_data) (s t : ℕ) (M N : ℕ → Type 0) (E D : Type 0) → IsSet one.sets s M E → IsSet other.sets t N D
    → ((h : ℕ) → M h → N h) → ((h : ℕ) → N h → M h) → StandAlike one other s t
sets_alike one other s t M N E D a b f g =
    let e = set_same one.sets other.sets s t M N E D a b f g in
    (a.members, a.stands, cc (e, b.stands))

-- arms that say the same say so place by place
same_choice : (arms theirs : List Arm) (k : ℕ) (x y : Arm) → map choice_of arms ≡ map choice_of theirs → slice_get arms k ≡ Some x → slice_get theirs k ≡ Some y
    → choice_of x ≡ choice_of y
same_choice [] theirs k x y e hx hy = absurd (cc (hx))
same_choice (u ∷ us) [] k x y e hx hy = absurd (cc (hy))
same_choice (u ∷ us) (v ∷ vs) zero x y e hx hy =
    let eu : u ≡ x = cc (hx) in
    let ev : v ≡ y = cc (hy) in
    let ec : choice_of u ≡ choice_of v = cc (e) in
    ap choice_of (sym eu) ∙ ec ∙ ap choice_of ev
same_choice (u ∷ us) (v ∷ vs) (suc k) x y e hx hy =
    let rest : map choice_of us ≡ map choice_of vs = cc (e) in
    same_choice us vs k x y rest hx hy

lead_alike : (pr : Protocol_data) (p : Role) (one other : Projection_data) (members : List ℕ) (arms theirs : List Arm)
    → AreArmsOf pr p one.sets members arms → AreArmsOf pr p other.sets members theirs → LeadAlike one other arms theirs
lead_alike pr p one other members arms theirs a b = record {
  choices = a.choices ∙ sym b.choices;
  nexts = λ k x y hx hy.
      let label : x.label ≡ y.label = ap (λ (z : LabelChoice). z.label) (same_choice arms theirs k x y (a.choices ∙ sym b.choices) hx hy) in
      sets_alike one other x.next y.next (MeetsBehind pr p members x.label) (MeetsBehind pr p members y.label) (EndsBehind pr p members x.label) (EndsBehind pr p members y.label)
      (a.nexts k x hx) (b.nexts k y hy)
      (λ h m. (let P : Label → Type 0 = λ z. MeetsBehind pr p members z h in subst P label m))
      (λ h m. (let P : Label → Type 0 = λ z. MeetsBehind pr p members z h in subst P (sym label) m));
}

act_alike : (pr : Protocol_data) (p : Role) (one other : Projection_data) (s t : ℕ) (members : List ℕ) (x y : State) → IsWellFormed pr
    → slice_get one.machine.states s ≡ Some x → slice_get other.machine.states t ≡ Some y
    → IsStateOf pr p one.sets members x → IsStateOf pr p other.sets members y → ActAlike one other s t
act_alike pr p one other s t members x y wf hx hy (IsDone n d) (IsDone m e) = BothDone (cc (hx, d)) (cc (hy, e))
act_alike pr p one other s t members x y wf hx hy (IsDone n d) (IsPuts q arms m each e ar) = absurd (m n)
act_alike pr p one other s t members x y wf hx hy (IsDone n d) (IsTakes q arms m each e ar) = absurd (m n)
act_alike pr p one other s t members x y wf hx hy (IsPuts q arms n each d ar) (IsDone m e) = absurd (n m)
act_alike pr p one other s t members x y wf hx hy (IsTakes q arms n each d ar) (IsDone m e) = absurd (n m)
act_alike pr p one other s t members x y wf hx hy (IsPuts q arms n each d ar) (IsPuts r theirs m each' e ar') =
    let g = a_member members n in
    let u = each g.0 g.1 in
    let v = each' g.0 g.1 in
    let same : Some (Talk p q u.0) ≡ Some (Talk p r v.0) = sym u.1 ∙ v.1 in
    let eq : r ≡ q = cc (same) in
    BothPut q arms theirs (cc (hx, d)) (cc (hy, e, eq)) (lead_alike pr p one other members arms theirs ar ar')
act_alike pr p one other s t members x y wf hx hy (IsTakes q arms n each d ar) (IsTakes r theirs m each' e ar') =
    let g = a_member members n in
    let u = each g.0 g.1 in
    let v = each' g.0 g.1 in
    let same : Some (Talk q p u.0) ≡ Some (Talk r p v.0) = sym u.1 ∙ v.1 in
    let eq : r ≡ q = cc (same) in
    BothTake q arms theirs (cc (hx, d)) (cc (hy, e, eq)) (lead_alike pr p one other members arms theirs ar ar')
act_alike pr p one other s t members x y wf hx hy (IsPuts q arms n each d ar) (IsTakes r theirs m each' e ar') =
    let g = a_member members n in
    let u = each g.0 g.1 in
    let v = each' g.0 g.1 in
    let same : Some (Talk p q u.0) ≡ Some (Talk r p v.0) = sym u.1 ∙ v.1 in
    let eq : p ≡ q = cc (same) in
    absurd ((wf.talks g.0 p q u.0 u.1).others eq)
act_alike pr p one other s t members x y wf hx hy (IsTakes q arms n each d ar) (IsPuts r theirs m each' e ar') =
    let g = a_member members n in
    let u = each g.0 g.1 in
    let v = each' g.0 g.1 in
    let same : Some (Talk q p u.0) ≡ Some (Talk p r v.0) = sym u.1 ∙ v.1 in
    let eq : q ≡ p = cc (same) in
    absurd ((wf.talks g.0 q p u.0 u.1).others eq)

pub alike : (pr : Protocol_data) (p : Role) (one other : Projection_data) → IsWellFormed pr → IsProjection pr p one → IsProjection pr p other → AreAlike one other
alike pr p one other wf a b = record {
  starts = (let z = sets_alike one other 0 0 (MeetsFirst pr p pr.root) (MeetsFirst pr p pr.root) (MeetsTheEnd pr p pr.root) (MeetsTheEnd pr p pr.root) a.first b.first (λ h m. m) (λ h m. m) in
      let P : ℕ → Type 0 = λ u. StandAlike one other u 0 in
      let Q : ℕ → Type 0 = λ u. StandAlike one other one.machine.start u in
      subst Q (sym b.start) (subst P (sym a.start) z));
  acts = λ s t h.
      let x = stood pr p one s h.0 a h.1 in
      let y = stood pr p other t h.0 b h.2 in
      act_alike pr p one other s t h.0 x.state y.state wf x.stands y.stands x.of y.of;
}
