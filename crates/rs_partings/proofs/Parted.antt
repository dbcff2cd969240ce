-- The ways to two members that a role may both meet first from a node part somewhere.
use Rattle.std.proofs.Common.{◌≡◌, ◌≢◌, ℕ, List, [], ◌∷◌, ◌++◌, Option, Some, None, slice_get, refl, sym, ap, ◌∙◌, subst}
use Rattle.rs_model.specs.Data.{Protocol_data}
use Rattle.rs_model.specs.declared.graph.Arm.{Arm}
use Rattle.rs_model.specs.declared.graph.Node.{Node}
use Rattle.rs_model.specs.declared.graph.Node.TheVariants.{Talk}
use Rattle.rs_model.specs.declared.graph.Role.{Role}
use Rattle.rs_project.specs.Graph.{PathStep, LeadsTo, IsPath, IsReached, Involves, PassesBy, AllPassBy}
use Rattle.rs_project.specs.Marks.{arms_of_node}
use Rattle.rs_project.proofs.Spread.{step_of, path_snoc}
use Rattle.rs_partings.specs.Flags.{IsMemberNode}
use Rattle.rs_partings.specs.Partings.{MeetsMember, PartNowhere}

-- a path to the member whose earlier nodes pass by the role
record Way (pr : Protocol_data) (role : Role) (member : Option ℕ) (n : ℕ) : Type 0 where
  pub steps : List PathStep
  pub last : ℕ
  pub path : IsPath pr n steps last
  pub earlier : AllPassBy pr role steps
  pub ends : IsMemberNode pr role member last

way_of : (pr : Protocol_data) (role : Role) (member : Option ℕ) (n : ℕ) → MeetsMember pr role n member → Way pr role member n
way_of pr role (Some talk) n m = record { steps = m.steps; last = talk; path = m.path; earlier = m.earlier; ends = (refl, m.involved) }
way_of pr role None n m = record { steps = m.steps; last = m.last; path = m.path; earlier = m.earlier; ends = m.idle }

of_way : (pr : Protocol_data) (role : Role) (member : Option ℕ) (n : ℕ) → Way pr role member n → MeetsMember pr role n member
of_way pr role (Some talk) n w = record {
  steps = w.steps;
  path = subst (λ (z : ℕ). IsPath pr n w.steps z) w.ends.0 w.path;
  earlier = w.earlier;
  involved = subst (λ (z : ℕ). Involves pr role z) w.ends.0 w.ends.1;
}
of_way pr role None n w = record { steps = w.steps; last = w.last; path = w.path; earlier = w.earlier; idle = w.ends }

member_stops : (pr : Protocol_data) (role : Role) (member : Option ℕ) (n : ℕ) → IsMemberNode pr role member n → PassesBy pr role n → ⊥
member_stops pr role (Some talk) n e p = p.uninvolved e.1
member_stops pr role None n e p = p.awaited e

two_members : (pr : Protocol_data) (role : Role) (a : ℕ) (b : Option ℕ) (n : ℕ) → IsMemberNode pr role (Some a) n → IsMemberNode pr role b n → b ≢ Some a → ⊥
two_members pr role a (Some c) n m k ne = ne (ap (λ (z : ℕ). Some z) (sym k.0 ∙ m.0))
two_members pr role a None n m k ne = k n ([], refl) m.1

-- an arm leads to one node
leads_same : (pr : Protocol_data) (n place x y : ℕ) → LeadsTo pr n place x → LeadsTo pr n place y → x ≡ y
leads_same pr n place x y l m =
    let e : Talk l.sender l.receiver l.arms ≡ Talk m.sender m.receiver m.arms = cc (l.talks, m.talks) in
    let f : l.arms ≡ m.arms = ap (λ (z : Node). arms_of_node z) e in
    let g : slice_get m.arms place ≡ Some l.arm = subst (λ (z : List Arm). slice_get z place ≡ Some l.arm) f l.stands in
    let h : l.arm ≡ m.arm = cc (g, m.stands) in
    sym l.leads ∙ ap (λ (z : Arm). z.next) h ∙ m.leads

-- the member isn't met behind this arm, and so on the way behind another one: there the ways part
parts_here : (pr : Protocol_data) (role : Role) (a : ℕ) (b : Option ℕ) → PartNowhere pr role a b → (n place next : ℕ) → IsReached pr n → PassesBy pr role n
    → LeadsTo pr n place next → MeetsMember pr role next (Some a) → (MeetsMember pr role next b → ⊥) → Way pr role b n → ⊥
parts_here pr role a b none n place next r passes leads to_a only way = go way.steps way.path way.earlier
  where
    go : (ts : List PathStep) → IsPath pr n ts way.last → AllPassBy pr role ts → ⊥
    go [] q aq = member_stops pr role b n (subst (λ (z : ℕ). IsMemberNode pr role b z) (sym q) way.ends) passes
    go (t ∷ ts) q aq = none n place t.place record {
      reached = r;
      uninvolved = passes.uninvolved;
      to_a = record { next = next; leads = leads; meets = to_a };
      only = λ l. only (subst (λ (z : ℕ). MeetsMember pr role z b) (leads_same pr n place l.next next l.leads leads) l.meets);
      to_b = record { next = q.0; leads = q.2; meets = of_way pr role b q.0 record { steps = ts; last = way.last; path = q.3; earlier = aq.1; ends = way.ends } };
    }

parted : (pr : Protocol_data) (role : Role) (a : ℕ) (b : Option ℕ) → b ≢ Some a → PartNowhere pr role a b
    → (ss : List PathStep) (n x : ℕ) → IsReached pr n → IsPath pr n ss x → AllPassBy pr role ss → IsMemberNode pr role (Some a) x → MeetsMember pr role n b → ⊥
parted pr role a b ne none [] n x r p ap' m k = go (way_of pr role b n k)
  where
    here : IsMemberNode pr role (Some a) n
    here = subst (λ (z : ℕ). IsMemberNode pr role (Some a) z) (sym p) m

    go : Way pr role b n → ⊥
    go way = by way.steps way.path way.earlier
      where
        by : (ts : List PathStep) → IsPath pr n ts way.last → AllPassBy pr role ts → ⊥
        by [] q aq = two_members pr role a b n here (subst (λ (z : ℕ). IsMemberNode pr role b z) (sym q) way.ends) ne
        by (t ∷ ts) q aq = member_stops pr role (Some a) n here (subst (λ (z : ℕ). PassesBy pr role z) q.1 aq.0)
parted pr role a b ne none (s ∷ ss) n x r p ap' m k =
    parts_here pr role a b none n s.place p.0 r (subst (λ (z : ℕ). PassesBy pr role z) p.1 ap'.0) p.2
    (of_way pr role (Some a) p.0 record { steps = ss; last = x; path = p.3; earlier = ap'.1; ends = m })
    (λ later. parted pr role a b ne none ss p.0 x (r.0 ++ (step_of n s.place ∷ []), path_snoc pr r.0 pr.root n s.place p.0 r.1 p.2) p.3 ap'.1 m later)
    (way_of pr role b n k)

pub ways_part : (pr : Protocol_data) (role : Role) (n a : ℕ) (b : Option ℕ) → IsReached pr n → MeetsMember pr role n (Some a) → MeetsMember pr role n b → b ≢ Some a → PartNowhere pr role a b → ⊥
ways_part pr role n a b r m k ne none =
    let w = way_of pr role (Some a) n m in
    parted pr role a b ne none w.steps n w.last r w.path w.earlier w.ends k
