-- What is told of the end of a demo's run: that it is one thing, and that there is such an end.
use Rattle.std.proofs.Common.{◌≡◌, ℕ, zero, suc, ◌+◌, ◌<◌, ◌≤◌, List, [], ◌∷◌, length, Option, Some, slice_get, inl, inr, refl, sym, ap, ◌∙◌, arith}
use Rattle.std.proofs.lemmas.Bool.Decides.{leb_tells}
use Rattle.std.proofs.lemmas.Option.{same_Some}
use Rattle.rs_answers.specs.Data.{Answer_data}
use Rattle.rs_answers.specs.Derivations.{AreCanonical}
use Rattle.rs_runs.specs.Runs.{capacity_of, stopped_answer}
use Rattle.rs_answers.specs.Sessions.{HasMachines}
use Rattle.rs_answers.proofs.AcceptedSessions.{is_accepted}
use Rattle.rs_core.specs.Choices.{AreWellFormed}
use Rattle.rs_core.specs.Determined.{SameMoment, SameOutcome}
use Rattle.rs_core.specs.Plain.{Moment, Ending, Ended, Stopped, Stuck, IsPlain}
use Rattle.rs_core.specs.Runs.{HasActors}
use Rattle.rs_core.specs.Safety.{IsSafe}
use Rattle.rs_core.proofs.Unique.{one_outcome}
use Rattle.rs_runs.specs.Demos.{Performs, IsTooSmall, IsRun, TellsDemoEnd, HasEnded, IsStopped, TellsDemoRun, actor_at, demo_ended_answer}
use Rattle.rs_answers.specs.RefusalTexts.{too_small}
use Rattle.rs_runs.specs.declared.limits.TheConstants.{DEMO_LIMIT}
use Rattle.rs_demos.specs.Acting.{by_demo, demo_conduct}
use Rattle.rs_actors.specs.Choosing.{chooses_by_sorts}
use Rattle.rs_demos.specs.declared.actors.DemoTalker.{DemoTalker}
use Rattle.rs_derive.specs.Data.{Derivation_data}
use Rattle.rs_documents.specs.Data.{Document_data}
use Rattle.rs_documents.specs.Documents.{SpellsDocument}
use Rattle.rs_core.proofs.Ends.{comes_to_an_end}
use Rattle.rs_exec.proofs.NeverFull.{never_stuck_shown}
use Rattle.rs_model.specs.Data.{Machine_data, Names_data}
use Rattle.rs_model.specs.declared.demos.Demo.{Demo}
use Rattle.rs_project.specs.Data.{Projection_data}
use Rattle.rs_safety.specs.Accepting.{Accepted_data}
use Rattle.rs_safety.specs.Room.{room_of}
use Rattle.rs_model.specs.declared.limits.TheConstants.{DEFAULT_BOUND}

-- ---- one end

-- lists with the same items are the same
same_items : {A : Type 0} (xs ys : List A) → length xs ≡ length ys → ((p : ℕ) (x y : A) → p < length xs → slice_get xs p ≡ Some x → slice_get ys p ≡ Some y → x ≡ y) → xs ≡ ys
same_items [] [] size h = refl
same_items [] (y ∷ ys) size h = absurd cc
same_items (x ∷ xs) [] size h = absurd cc
same_items (x ∷ xs) (y ∷ ys) size h =
    ap (λ z. z ∷ xs) (h 0 x y (omega arith) refl refl) ∙ ap (λ z. y ∷ z) (same_items xs ys (cc) (λ p a b lt e f. h (suc p) a b (omega arith) e f))

one_actors : (roles : ℕ) (k l : Moment DemoTalker) (xs ys : List DemoTalker) → SameMoment roles k l → HasActors roles k.actor xs → HasActors roles l.actor ys → xs ≡ ys
one_actors roles k l xs ys same h g =
    same_items xs ys (h.many ∙ sym g.many) (λ p x y lt ex ey.
    (let many = h.many in
    let less : p < roles = omega (arith, lt, many) in
    same_Some x y (sym ex ∙ h.each p less ∙ ap (λ (z : DemoTalker). Some z) (same.actor p) ∙ sym (g.each p less) ∙ ey)))

one_end : (kind : Demo) (names : Names_data) (roles : ℕ) (a b : Answer_data) (o u : Ending DemoTalker) → SameOutcome roles o u → TellsDemoEnd kind names roles a o → TellsDemoEnd kind names roles b u
    → a ≡ b
one_end kind names roles a b o u same (HasEnded k xs h e) (HasEnded l ys g f) = e ∙ ap (demo_ended_answer kind) (one_actors roles k l xs ys same h g) ∙ sym f
one_end kind names roles a b o u same (HasEnded k xs h e) (IsStopped q l f) = absurd same
one_end kind names roles a b o u same (IsStopped p k e) (HasEnded l ys g f) = absurd same
one_end kind names roles a b o u same (IsStopped p k e) (IsStopped q l f) = e ∙ ap (λ (n : ℕ). stopped_answer names (record { 0 = n })) same.0 ∙ sym f

one_run : (kind : Demo) (actors : List DemoTalker) (names : Names_data) (ms : List Machine_data) (capacity : ℕ) (a b : Answer_data) → AreWellFormed ms → TellsDemoRun kind actors names ms capacity a
    → TellsDemoRun kind actors names ms capacity b → a ≡ b
one_run kind actors names ms capacity a b wf h k =
    one_end kind names (length ms) a b h.end k.end (one_outcome by_demo ms (actor_at actors) DEMO_LIMIT (Some capacity) h.end k.end wf h.plain k.plain) h.tells k.tells

-- an accepted session is answered in one way
pub one_performing : (kind : Demo) (ring : Option ℕ) (actors : List DemoTalker) (names : Names_data) (ms : List Machine_data) (ds : List Derivation_data) (a b : Answer_data) → AreWellFormed ms
    → Performs kind ring actors names ms ds a → Performs kind ring actors names ms ds b → a ≡ b
one_performing kind ring actors names ms ds a b wf (IsTooSmall l x) (IsTooSmall m y) = x ∙ sym y
one_performing kind ring actors names ms ds a b wf (IsTooSmall l x) (IsRun m y) = absurd (omega (arith, l, m))
one_performing kind ring actors names ms ds a b wf (IsRun l x) (IsTooSmall m y) = absurd (omega (arith, l, m))
one_performing kind ring actors names ms ds a b wf (IsRun l x) (IsRun m y) = one_run kind actors names ms (capacity_of ring (room_of ds)) a b wf x y

-- ---- some end

-- the actors of the roles from a place on
abbrev actors_from : (ℕ → DemoTalker) → ℕ → ℕ → List DemoTalker
actors_from actor p zero = []
actors_from actor p (suc many) = actor p ∷ actors_from actor (suc p) many

how_many : (actor : ℕ → DemoTalker) (p many : ℕ) → length (actors_from actor p many) ≡ many
how_many actor p zero = refl
how_many actor p (suc many) = ap suc (how_many actor (suc p) many)

each_one : (actor : ℕ → DemoTalker) (p many q : ℕ) → q < many → slice_get (actors_from actor p many) q ≡ Some (actor (p + q))
each_one actor p zero q lt = absurd (omega arith)
each_one actor p (suc many) zero lt = let is : p ≡ p + 0 = omega arith in ap (λ z. Some (actor z)) is
each_one actor p (suc many) (suc q) lt = let is : suc p + q ≡ p + suc q = omega arith in each_one actor (suc p) many q (omega arith) ∙ ap (λ z. Some (actor z)) is

has_actors : (actor : ℕ → DemoTalker) (roles : ℕ) → HasActors roles actor (actors_from actor 0 roles)
has_actors actor roles = record { many = how_many actor 0 roles; each = λ q lt. each_one actor 0 roles q lt ∙ (let is : 0 + q ≡ q = omega arith in ap (λ z. Some (actor z)) is) }

-- no run of these machines is stuck
abbrev pub IsNeverStuck : List DemoTalker → List Machine_data → ℕ → Type 0
IsNeverStuck actors ms capacity = (k : Moment DemoTalker) → IsPlain ms by_demo (actor_at actors) DEMO_LIMIT (Some capacity) (Stuck k) → ⊥

pub never_stuck : (bytes : List ℕ) (d : Document_data) (ps : List Projection_data) (ms : List Machine_data) (ds : List Derivation_data) (actors : List DemoTalker) (capacity : ℕ)
    → SpellsDocument bytes d → HasMachines d ps ms → AreCanonical DEFAULT_BOUND ms ps ds
    → room_of ds ≤ capacity → IsNeverStuck actors ms capacity
never_stuck bytes d ps ms ds actors capacity doc h f enough k p =
    let session : Accepted_data = record { protocol = d.protocol; projections = ps; derivations = ds; machines = ms } in
    never_stuck_shown by_demo session (actor_at actors) DEMO_LIMIT capacity k (is_accepted DEFAULT_BOUND bytes d ps ms ds (omega arith, omega arith) doc h f) enough p

pub record SomeRun (kind : Demo) (actors : List DemoTalker) (names : Names_data) (ms : List Machine_data) (capacity : ℕ) : Type 0 where
  pub answer : Answer_data
  pub tells : TellsDemoRun kind actors names ms capacity answer

some_end : (kind : Demo) (actors : List DemoTalker) (names : Names_data) (ms : List Machine_data) (capacity : ℕ) (o : Ending DemoTalker) → IsNeverStuck actors ms capacity
    → IsPlain ms by_demo (actor_at actors) DEMO_LIMIT (Some capacity) o → SomeRun kind actors names ms capacity
some_end kind actors names ms capacity (Ended k) never p = record {
  answer = demo_ended_answer kind (actors_from k.actor 0 (length ms));
  tells = record { end = Ended k; plain = p; tells = HasEnded k (actors_from k.actor 0 (length ms)) (has_actors k.actor (length ms)) refl };
}
some_end kind actors names ms capacity (Stopped q k) never p = record { answer = stopped_answer names (record { 0 = q }); tells = record { end = Stopped q k; plain = p; tells = IsStopped q k refl } }
some_end kind actors names ms capacity (Stuck k) never p = absurd (never k p)

pub record SomePerforming (kind : Demo) (ring : Option ℕ) (actors : List DemoTalker) (names : Names_data) (ms : List Machine_data) (ds : List Derivation_data) : Type 0 where
  pub answer : Answer_data
  pub performs : Performs kind ring actors names ms ds answer

-- an accepted session is answered
pub some_performing : (kind : Demo) (ring : Option ℕ) (actors : List DemoTalker) (names : Names_data) (ms : List Machine_data) (ds : List Derivation_data) → IsSafe ms → AreWellFormed ms
    → (room_of ds ≤ capacity_of ring (room_of ds) → IsNeverStuck actors ms (capacity_of ring (room_of ds))) → SomePerforming kind ring actors names ms ds
some_performing kind ring actors names ms ds safe wf never = elim (leb_tells (room_of ds) (capacity_of ring (room_of ds))) [
  | inl enough ↦
      let o = comes_to_an_end by_demo ms (actor_at actors) DEMO_LIMIT (Some (capacity_of ring (room_of ds))) record { safe = safe; wf = wf; well = chooses_by_sorts demo_conduct } in
      let e = some_end kind actors names ms (capacity_of ring (room_of ds)) o.0 (never enough.1) o.1 in
      record { answer = e.answer; performs = IsRun enough.1 e.tells }
  | inr less ↦ record { answer = too_small (capacity_of ring (room_of ds)) (room_of ds); performs = IsTooSmall less.1 refl }
]
