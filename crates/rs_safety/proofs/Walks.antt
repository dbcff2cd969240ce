-- Paths that grow at their far end.
use Rattle.std.proofs.Common.{◌≡◌, ◌≢◌, inl, inr, ℕ, List, [], ◌∷◌, ◌++◌, refl, sym, ap, subst}
use Rattle.rs_model.specs.Data.{Protocol_data}
use Rattle.rs_model.specs.declared.graph.Arm.{Arm}
use Rattle.rs_model.specs.declared.graph.Role.{Role}
use Rattle.rs_model.specs.Talks.{Talks}
use Rattle.rs_project.specs.Graph.{PathStep, LeadsTo, IsPath, IsReachedFrom, Involves, IsIdle, PassesBy, AllPassBy}
pub use Rattle.rs_project.proofs.Spread.{path_snoc, step_of}

-- the role of that number
abbrev pub numbered : ℕ → Role
numbered p = record { 0 = p }

pub same_role : (x y : Role) → x.0 ≡ y.0 → x ≡ y
same_role x y e = ap numbered e

pub other_number : (x y : Role) → x ≢ y → x.0 ≢ y.0
other_number x y n e = n (same_role x y e)

pub reach_on : (pr : Protocol_data) (g h a k : ℕ) → IsReachedFrom pr g h → LeadsTo pr h a k → IsReachedFrom pr g k
reach_on pr g h a k r goes = (r.0 ++ (step_of h a ∷ []), path_snoc pr r.0 g h a k r.1 goes)

pass_snoc : (pr : Protocol_data) (p : Role) (ss : List PathStep) (h a : ℕ) → AllPassBy pr p ss → PassesBy pr p h
    → AllPassBy pr p (ss ++ (step_of h a ∷ []))
pass_snoc pr p [] h a all one = (one, tt)
pass_snoc pr p (s ∷ ss) h a all one = (all.0, pass_snoc pr p ss h a all.1 one)

pub not_empty : (ss : List PathStep) (s : PathStep) → ss ++ (s ∷ []) ≢ []
not_empty [] s e = cc (e)
not_empty (x ∷ xs) s e = cc (e)

-- a path of at least one step from g to h, whose nodes before h pass by p
pub record Round (pr : Protocol_data) (p : Role) (g h : ℕ) : Type 0 where
  pub steps : List PathStep
  pub some : steps ≢ []
  pub path : IsPath pr g steps h
  pub around : AllPassBy pr p steps

pub round_one : (pr : Protocol_data) (p : Role) (g a h : ℕ) → PassesBy pr p g → LeadsTo pr g a h → Round pr p g h
round_one pr p g a h pass goes = record {
  steps = step_of g a ∷ [];
  some = not_empty [] (step_of g a);
  path = (h, refl, goes, refl);
  around = (pass, tt);
}

pub round_more : (pr : Protocol_data) (p : Role) (g h a k : ℕ) → Round pr p g h → PassesBy pr p h → LeadsTo pr h a k
    → Round pr p g k
round_more pr p g h a k r pass goes = record {
  steps = r.steps ++ (step_of h a ∷ []);
  some = not_empty r.steps (step_of h a);
  path = path_snoc pr r.steps g h a k r.path goes;
  around = pass_snoc pr p r.steps h a r.around pass;
}

-- a node without arms is idle for every role
pub idle_end : (pr : Protocol_data) (p : Role) (g : ℕ)
    → ((x y : Role) (arms : List Arm) → Talks pr g x y arms → ⊥) → IsIdle pr p g
idle_end pr p g none h ([], path) inv =
    let P : ℕ → Type 0 = λ z. Talks pr z inv.sender inv.receiver inv.arms in
    none inv.sender inv.receiver inv.arms (subst P (sym path) inv.talks)
idle_end pr p g none h (s ∷ ss, path) inv = none path.2.sender path.2.receiver path.2.arms path.2.talks

pub involves_sender : (pr : Protocol_data) (p : Role) (g : ℕ) (y : Role) (arms : List Arm) → Talks pr g p y arms
    → Involves pr p g
involves_sender pr p g y arms h = record { sender = p; receiver = y; arms = arms; talks = h; part = inl refl }

pub involves_receiver : (pr : Protocol_data) (p : Role) (g : ℕ) (x : Role) (arms : List Arm) → Talks pr g x p arms
    → Involves pr p g
involves_receiver pr p g x arms h = record { sender = x; receiver = p; arms = arms; talks = h; part = inr refl }

pub involves_neither : (pr : Protocol_data) (p : Role) (g : ℕ) (x y : Role) (arms : List Arm) → Talks pr g x y arms
    → x ≢ p → y ≢ p → Involves pr p g → ⊥
involves_neither pr p g x y arms h nx ny inv =
    elim inv.part [
      | inl e ↦ (let ex : inv.sender ≡ x = cc (h, inv.talks) in nx (cc (e, ex)))
      | inr e ↦ (let ey : inv.receiver ≡ y = cc (h, inv.talks) in ny (cc (e, ey)))
    ]
