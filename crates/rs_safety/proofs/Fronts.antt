-- What is first met from a node, step by step.
use Rattle.std.proofs.Common.{◌≡◌, ◌↔◌, ℕ, ◌<◌, List, [], ◌∷◌, refl, sym, subst}
use Rattle.rs_model.specs.Data.{Protocol_data}
use Rattle.rs_model.specs.declared.graph.Label.{Label}
use Rattle.rs_model.specs.declared.graph.Role.{Role}
use Rattle.rs_project.specs.Graph.{PathStep, LeadsTo, IsPath, Involves, IsIdle, PassesBy, AllPassBy, MeetsFirst, MeetsTheEnd}
use Rattle.rs_project.specs.Projection.{IsSet, LeadsOn, MeetsBehind, EndsBehind}
use Rattle.rs_safety.proofs.Walks.{step_of}

pub meets_itself : (pr : Protocol_data) (p : Role) (g : ℕ) → Involves pr p g → MeetsFirst pr p g g
meets_itself pr p g inv = record { steps = []; path = refl; earlier = tt; involved = inv }

pub ends_itself : (pr : Protocol_data) (p : Role) (g : ℕ) → IsIdle pr p g → MeetsTheEnd pr p g
ends_itself pr p g idle = record { steps = []; last = g; path = refl; earlier = tt; idle = idle }

pub meets_on : (pr : Protocol_data) (p : Role) (g a k h : ℕ) → PassesBy pr p g → LeadsTo pr g a k → MeetsFirst pr p k h → MeetsFirst pr p g h
meets_on pr p g a k h pass goes m = record {
  steps = step_of g a ∷ m.steps;
  path = (k, refl, goes, m.path);
  earlier = (pass, m.earlier);
  involved = m.involved;
}

pub ends_on : (pr : Protocol_data) (p : Role) (g a k : ℕ) → PassesBy pr p g → LeadsTo pr g a k → MeetsTheEnd pr p k → MeetsTheEnd pr p g
ends_on pr p g a k pass goes m = record {
  steps = step_of g a ∷ m.steps;
  last = m.last;
  path = (k, refl, goes, m.path);
  earlier = (pass, m.earlier);
  idle = m.idle;
}

-- what is met from a node: the node itself, or what is met from a next one
pub data Met (pr : Protocol_data) (p : Role) (g h : ℕ) : Type 0 where
  Here : g ≡ h → Met pr p g h
  There : (a k : ℕ) → (Involves pr p g → ⊥) → LeadsTo pr g a k → MeetsFirst pr p k h → Met pr p g h

met_by : (pr : Protocol_data) (p : Role) (g h : ℕ) (steps : List PathStep) → IsPath pr g steps h → AllPassBy pr p steps → Involves pr p h → Met pr p g h
met_by pr p g h [] path earlier inv = Here path
met_by pr p g h (s ∷ ss) path earlier inv =
    let P : ℕ → Type 0 = λ z. Involves pr p z → ⊥ in
    There s.place path.0 (subst P path.1 earlier.0.uninvolved) path.2 record { steps = ss; path = path.3; earlier = earlier.1; involved = inv }

pub met : (pr : Protocol_data) (p : Role) (g h : ℕ) → MeetsFirst pr p g h → Met pr p g h
met pr p g h m = met_by pr p g h m.steps m.path m.earlier m.involved

pub data Ended (pr : Protocol_data) (p : Role) (g : ℕ) : Type 0 where
  Rests : IsIdle pr p g → Ended pr p g
  Later : (a k : ℕ) → PassesBy pr p g → LeadsTo pr g a k → MeetsTheEnd pr p k → Ended pr p g

ended_by : (pr : Protocol_data) (p : Role) (g last : ℕ) (steps : List PathStep) → IsPath pr g steps last → AllPassBy pr p steps → IsIdle pr p last → Ended pr p g
ended_by pr p g last [] path earlier idle = let P : ℕ → Type 0 = λ z. IsIdle pr p z in Rests (subst P (sym path) idle)
ended_by pr p g last (s ∷ ss) path earlier idle =
    let P : ℕ → Type 0 = λ z. PassesBy pr p z in
    Later s.place path.0 (subst P path.1 earlier.0) path.2 record { steps = ss; last = last; path = path.3; earlier = earlier.1; idle = idle }

pub ended : (pr : Protocol_data) (p : Role) (g : ℕ) → MeetsTheEnd pr p g → Ended pr p g
ended pr p g m = ended_by pr p g m.last m.steps m.path m.earlier m.idle

pub same_set : (sets : List (List ℕ)) (t : ℕ) (M N : ℕ → Type 0) (E D : Type 0) → ((h : ℕ) → M h ↔ N h) → (E ↔ D) → IsSet sets t M E → IsSet sets t N D
same_set sets t M N E D mn ed s = record {
  members = s.members;
  stands = s.stands;
  rising = s.rising;
  talks = λ h. ((λ c. (mn h).0 ((s.talks h).0 c)), (λ n. (s.talks h).1 ((mn h).1 n)));
  ends = ((λ e. ed.0 (s.ends.0 e)), (λ d. s.ends.1 (ed.1 d)));
}

-- a node that passes by p, with one next node
pub through : (pr : Protocol_data) (p : Role) (sets : List (List ℕ)) (t g a k : ℕ) → PassesBy pr p g → LeadsTo pr g a k
    → ((a' k' : ℕ) → LeadsTo pr g a' k' → k' ≡ k) → IsSet sets t (MeetsFirst pr p k) (MeetsTheEnd pr p k)
    → IsSet sets t (MeetsFirst pr p g) (MeetsTheEnd pr p g)
through pr p sets t g a k pass goes only s =
    same_set sets t (MeetsFirst pr p k) (MeetsFirst pr p g) (MeetsTheEnd pr p k) (MeetsTheEnd pr p g)
    (λ h. (meets_on pr p g a k h pass goes, (λ m. back h m (met pr p g h m))))
    (ends_on pr p g a k pass goes, (λ m. back_end (ended pr p g m))) s
  where
    back : (h : ℕ) → MeetsFirst pr p g h → Met pr p g h → MeetsFirst pr p k h
    back h m (Here e) = let P : ℕ → Type 0 = λ z. Involves pr p z in absurd (pass.uninvolved (subst P (sym e) m.involved))
    back h m (There a' k' un goes' m') = let P : ℕ → Type 0 = λ z. MeetsFirst pr p z h in subst P (only a' k' goes') m'

    back_end : Ended pr p g → MeetsTheEnd pr p k
    back_end (Rests idle) = absurd (pass.awaited idle)
    back_end (Later a' k' pass' goes' m') = let P : ℕ → Type 0 = λ z. MeetsTheEnd pr p z in subst P (only a' k' goes') m'

-- after a label that leads to one node
pub behind_set : (pr : Protocol_data) (p : Role) (sets : List (List ℕ)) (t : ℕ) (members : List ℕ) (l : Label) (k : ℕ) → LeadsOn pr members l k
    → ((n : ℕ) → LeadsOn pr members l n → n ≡ k) → IsSet sets t (MeetsFirst pr p k) (MeetsTheEnd pr p k)
    → IsSet sets t (MeetsBehind pr p members l) (EndsBehind pr p members l)
behind_set pr p sets t members l k on only s =
    same_set sets t (MeetsFirst pr p k) (MeetsBehind pr p members l) (MeetsTheEnd pr p k) (EndsBehind pr p members l)
    (λ h. ((λ m. (k, on, m)), (λ b. (let P : ℕ → Type 0 = λ z. MeetsFirst pr p z h in subst P (only b.0 b.1) b.2))))
    ((λ m. (k, on, m)), (λ b. (let P : ℕ → Type 0 = λ z. MeetsTheEnd pr p z in subst P (only b.0 b.1) b.2))) s
