-- What is told of the end of a run: that it is told, that it is one thing, and that there is such an end.
use Rattle.std.proofs.Common.{◌≡◌, inl, inr, ℕ, zero, suc, ◌+◌, ◌<◌, ◌≤◌, List, [], ◌∷◌, length, Option, Some, slice_get, refl, sym, ap, subst, ◌∙◌, arith}
use Rattle.std.proofs.lemmas.Bool.Decides.{leb_tells}
use Rattle.std.proofs.lemmas.Option.{same_Some}
use Rattle.rs_model.specs.Data.{Names_data, Machine_data, Protocol_data}
use Rattle.rs_model.specs.declared.graph.Role.{Role}
use Rattle.rs_model.specs.declared.machines.State.TheVariants.{Puts}
use Rattle.rs_core.specs.Choices.{AreWellFormed}
use Rattle.rs_core.specs.Choosing.{draws_well}
use Rattle.rs_core.specs.Configurations.{state_at, state_of}
use Rattle.rs_core.specs.Determined.{SameMoment, SameOutcome}
use Rattle.rs_core.specs.Draws.{by_draws}
use Rattle.rs_core.specs.Histories.{History, transcript_of}
use Rattle.rs_core.specs.Plain.{Moment, Ending, Ended, Stopped, Stuck, IsPlain, FirstFull}
use Rattle.rs_core.specs.Runs.{HasActors, HasTranscripts, IsFullAt, EndingShows, got_from, sent_to}
use Rattle.rs_core.specs.Safety.{IsSafe}
use Rattle.rs_core.specs.declared.runs.Outcome.{Outcome}
use Rattle.rs_core.specs.declared.runs.Outcome.TheVariants as outcome
use Rattle.rs_core.specs.declared.transcripts.Entry.{Entry}
use Rattle.rs_core.proofs.Full.{stuck_is_full}
use Rattle.rs_core.proofs.Unique.{one_outcome}
use Rattle.rs_core.proofs.Ends.{comes_to_an_end}
use Rattle.rs_project.specs.Data.{Projection_data}
use Rattle.rs_safety.specs.Sessions.{IsSession}
use Rattle.rs_answers.specs.Data.{Answer_data}
use Rattle.rs_runs.specs.Runs.{TellsEnd, HasEnded, IsStopped, IsFull, TellsRun, ended_answer, outcome_answer, stopped_answer, full_answer}

-- as many roles as machines
pub few_machines : (pr : Protocol_data) (ps : List Projection_data) (ms : List Machine_data) → IsSession pr ps ms → length ms ≤ 16
few_machines pr ps ms s = let many = s.a_machine_each in let few = s.roles.1 in omega arith

-- what a run shows is what is told of its end
pub tells_shown : (names : Names_data) (ms : List Machine_data) (capacity : ℕ) (o : Ending ℕ) (x : Outcome) (actors : List ℕ) (a : Answer_data) → EndingShows (length ms) o x actors
    → a ≡ outcome_answer names x → TellsEnd names ms capacity a o
tells_shown names ms capacity (Ended k) (outcome.Ended transcripts) actors a s e = HasEnded k transcripts s.0 e
tells_shown names ms capacity (Ended k) (outcome.Stopped role) actors a s e = absurd s
tells_shown names ms capacity (Stopped p k) (outcome.Ended transcripts) actors a s e = absurd s
tells_shown names ms capacity (Stopped p k) (outcome.Stopped role) actors a s e = IsStopped p k (e ∙ ap (λ (n : ℕ). stopped_answer names (record { 0 = n })) (sym s.0))
tells_shown names ms capacity (Stuck k) (outcome.Ended transcripts) actors a s e = absurd s
tells_shown names ms capacity (Stuck k) (outcome.Stopped role) actors a s e = absurd s

pub tells_run : (names : Names_data) (ms : List Machine_data) (given : ℕ → ℕ) (limit capacity : ℕ) (x : Outcome) (actors : List ℕ) (a : Answer_data)
    → (o : Ending ℕ) × IsPlain ms by_draws given limit (Some capacity) o × EndingShows (length ms) o x actors → a ≡ outcome_answer names x → TellsRun names ms given limit capacity a
tells_run names ms given limit capacity x actors a p e = record { end = p.0; plain = p.1; tells = tells_shown names ms capacity p.0 x actors a p.2 e }

pub tells_run_full : (names : Names_data) (ms : List Machine_data) (given : ℕ → ℕ) (limit capacity : ℕ) (sender receiver : Role) (sent taken : ℕ) (a : Answer_data)
    → IsFullAt ms by_draws given limit capacity sender receiver sent taken → a ≡ full_answer names sender receiver sent taken → TellsRun names ms given limit capacity a
tells_run_full names ms given limit capacity sender receiver sent taken a f e = record {
  end = Stuck f.end;
  plain = f.plain;
  tells = IsFull f.end sender receiver f.full (e ∙ ap (λ z. full_answer names sender receiver z taken) f.is_sent
      ∙ ap (λ z. full_answer names sender receiver (sent_to receiver.0 (transcript_of (f.end.history sender.0))) z) f.is_taken);
}

-- lists with the same items are the same
same_items : {A : Type 0} (xs ys : List A) → length xs ≡ length ys → ((p : ℕ) (x y : A) → p < length xs → slice_get xs p ≡ Some x → slice_get ys p ≡ Some y → x ≡ y) → xs ≡ ys
same_items [] [] size h = refl
same_items [] (y ∷ ys) size h = absurd cc
same_items (x ∷ xs) [] size h = absurd cc
same_items (x ∷ xs) (y ∷ ys) size h =
    ap (λ z. z ∷ xs) (h 0 x y (omega arith) refl refl) ∙ ap (λ z. y ∷ z) (same_items xs ys (cc) (λ p a b lt e f. h (suc p) a b (omega arith) e f))

one_transcripts : (roles : ℕ) (k l : Moment ℕ) (xs ys : List (List Entry)) → SameMoment roles k l → HasTranscripts roles k.history xs → HasTranscripts roles l.history ys → xs ≡ ys
one_transcripts roles k l xs ys same h g =
    same_items xs ys (h.many ∙ sym g.many) (λ p x y lt ex ey.
    (let many = h.many in
    let less : p < roles = omega (arith, lt, many) in
    same_Some x y (sym ex ∙ h.each p less ∙ ap (λ z. Some (transcript_of z)) (same.history p) ∙ sym (g.each p less) ∙ ey)))

-- the first sender of a moment is one
same_state : (ms : List Machine_data) (k l : Moment ℕ) (p : ℕ) → SameMoment (length ms) k l → p < length ms → state_at ms k.at p ≡ state_at ms l.at p
same_state ms k l p same there = ap (state_of (slice_get ms p)) (same.at p there)

-- two senders that are first
record SameFull (s t r q : Role) : Type 0 where
  sender : s ≡ t
  receiver : r ≡ q

one_full : (ms : List Machine_data) (capacity : Option ℕ) (k l : Moment ℕ) (s t r q : Role) → SameMoment (length ms) k l → FirstFull ms capacity k s.0 r → FirstFull ms capacity l t.0 q
    → SameFull s t r q
one_full ms capacity k l s t r q same f g = elim (leb_tells (suc s.0) t.0) [
  | inl less ↦ absurd (g.first s.0 r f.arms less.1 (sym (same_state ms k l s.0 same f.present) ∙ f.puts))
  | inr more ↦ elim (leb_tells (suc t.0) s.0) [
    | inl less ↦ absurd (f.first t.0 q g.arms less.1 (same_state ms k l t.0 same g.present ∙ g.puts))
    | inr other ↦
        let m1 = more.1 in
        let m2 = other.1 in
        let place : s.0 ≡ t.0 = omega (arith, m1, m2) in
        let P : ℕ → Type 0 = λ z. state_at ms l.at z ≡ Some (Puts r f.arms) in
        let here : state_at ms l.at t.0 ≡ Some (Puts r f.arms) = subst P place (sym (same_state ms k l s.0 same f.present) ∙ f.puts) in
        let puts : Some (Puts r f.arms) ≡ Some (Puts q g.arms) = sym here ∙ g.puts in
        record { sender = ap (λ (n : ℕ). record { 0 = n }) place; receiver = cc (puts) }
  ]
]

full_is_one : (names : Names_data) (s t r q : Role) (k l : Moment ℕ) (roles : ℕ) → SameFull s t r q → SameMoment roles k l
    → full_answer names s r (sent_to r.0 (transcript_of (k.history s.0))) (got_from s.0 (transcript_of (k.history r.0)))
    ≡ full_answer names t q (sent_to q.0 (transcript_of (l.history t.0))) (got_from t.0 (transcript_of (l.history q.0)))
full_is_one names s t r q k l roles same moment =
    ap (λ z. full_answer names s r (sent_to r.0 (transcript_of z)) (got_from s.0 (transcript_of (k.history r.0)))) (moment.history s.0)
    ∙ ap (λ z. full_answer names s r (sent_to r.0 (transcript_of (l.history s.0))) (got_from s.0 (transcript_of z))) (moment.history r.0)
    ∙ ap (λ z. full_answer names z r (sent_to r.0 (transcript_of (l.history z.0))) (got_from z.0 (transcript_of (l.history r.0)))) same.sender
    ∙ ap (λ z. full_answer names t z (sent_to z.0 (transcript_of (l.history t.0))) (got_from t.0 (transcript_of (l.history z.0)))) same.receiver

one_end : (names : Names_data) (ms : List Machine_data) (capacity : ℕ) (a b : Answer_data) (o u : Ending ℕ) → SameOutcome (length ms) o u → TellsEnd names ms capacity a o
    → TellsEnd names ms capacity b u → a ≡ b
one_end names ms capacity a b o u same (HasEnded k xs h e) (HasEnded l ys g f) = e ∙ ap (ended_answer names) (one_transcripts (length ms) k l xs ys same h g) ∙ sym f
one_end names ms capacity a b o u same (HasEnded k xs h e) (IsStopped q l f) = absurd same
one_end names ms capacity a b o u same (HasEnded k xs h e) (IsFull l t q g f) = absurd same
one_end names ms capacity a b o u same (IsStopped p k e) (HasEnded l ys g f) = absurd same
one_end names ms capacity a b o u same (IsStopped p k e) (IsStopped q l f) = e ∙ ap (λ (n : ℕ). stopped_answer names (record { 0 = n })) same.0 ∙ sym f
one_end names ms capacity a b o u same (IsStopped p k e) (IsFull l t q g f) = absurd same
one_end names ms capacity a b o u same (IsFull k s r h e) (HasEnded l ys g f) = absurd same
one_end names ms capacity a b o u same (IsFull k s r h e) (IsStopped q l f) = absurd same
one_end names ms capacity a b o u same (IsFull k s r h e) (IsFull l t q g f) = e ∙ full_is_one names s t r q k l (length ms) (one_full ms (Some capacity) k l s t r q same h g) same ∙ sym f

-- a run is told in one way
pub one_run : (names : Names_data) (ms : List Machine_data) (given : ℕ → ℕ) (limit capacity : ℕ) (a b : Answer_data) → AreWellFormed ms → TellsRun names ms given limit capacity a
    → TellsRun names ms given limit capacity b → a ≡ b
one_run names ms given limit capacity a b wf h k =
    one_end names ms capacity a b h.end k.end (one_outcome by_draws ms given limit (Some capacity) h.end k.end wf h.plain k.plain) h.tells k.tells

-- what a function gives at so many places, from one on
abbrev values_from : {A : Type 0} → (ℕ → A) → ℕ → ℕ → List A
values_from f p zero = []
values_from f p (suc many) = f p ∷ values_from f (suc p) many

how_many : {A : Type 0} (f : ℕ → A) (p many : ℕ) → length (values_from f p many) ≡ many
how_many f p zero = refl
how_many f p (suc many) = ap suc (how_many f (suc p) many)

each_one : {A : Type 0} (f : ℕ → A) (p many q : ℕ) → q < many → slice_get (values_from f p many) q ≡ Some (f (p + q))
each_one f p zero q lt = absurd (omega arith)
each_one f p (suc many) zero lt = let is : p ≡ p + 0 = omega arith in ap (λ z. Some (f z)) is
each_one f p (suc many) (suc q) lt = let is : suc p + q ≡ p + suc q = omega arith in each_one f (suc p) many q (omega arith) ∙ ap (λ z. Some (f z)) is

-- what a function gives at so many places, from the first on
first_ones : {A : Type 0} (f : ℕ → A) (many q : ℕ) → q < many → slice_get (values_from f 0 many) q ≡ Some (f q)
first_ones f many q lt = each_one f 0 many q lt ∙ (let is : 0 + q ≡ q = omega arith in ap (λ z. Some (f z)) is)

-- histories have their transcripts, and roles their actors
pub transcripts_are : (roles : ℕ) (history : ℕ → History) → (transcripts : List (List Entry)) × HasTranscripts roles history transcripts
transcripts_are roles history =
    let f : ℕ → List Entry = λ p. transcript_of (history p) in
    (values_from f 0 roles, record { many = how_many f 0 roles; each = first_ones f roles })

pub actors_are : {A : Type 0} (roles : ℕ) (actor : ℕ → A) → (actors : List A) × HasActors roles actor actors
actors_are roles actor = (values_from actor 0 roles, record { many = how_many actor 0 roles; each = first_ones actor roles })

-- something is told of each end
record SomeEnd (names : Names_data) (ms : List Machine_data) (capacity : ℕ) (o : Ending ℕ) : Type 0 where
  answer : Answer_data
  tells : TellsEnd names ms capacity answer o

some_end : (names : Names_data) (ms : List Machine_data) (actors : ℕ → ℕ) (limit capacity : ℕ) (o : Ending ℕ) → IsSafe ms → AreWellFormed ms → IsPlain ms by_draws actors limit (Some capacity) o
    → SomeEnd names ms capacity o
some_end names ms actors limit capacity (Ended k) safe wf p =
    let t = transcripts_are (length ms) k.history in
    record { answer = ended_answer names t.0; tells = HasEnded k t.0 t.1 refl }
some_end names ms actors limit capacity (Stopped q k) safe wf p = record { answer = stopped_answer names (record { 0 = q }); tells = IsStopped q k refl }
some_end names ms actors limit capacity (Stuck k) safe wf p =
    let f = stuck_is_full by_draws draws_well ms actors limit (Some capacity) k safe wf p in
    record {
      answer = full_answer names (record { 0 = f.0 }) f.1 (sent_to f.1.0 (transcript_of (k.history f.0))) (got_from f.0 (transcript_of (k.history f.1.0)));
      tells = IsFull k (record { 0 = f.0 }) f.1 f.2 refl;
    }

-- something is told of each run
pub record SomeRun (names : Names_data) (ms : List Machine_data) (given : ℕ → ℕ) (limit capacity : ℕ) : Type 0 where
  pub answer : Answer_data
  pub tells : TellsRun names ms given limit capacity answer

pub some_run : (names : Names_data) (ms : List Machine_data) (given : ℕ → ℕ) (limit capacity : ℕ) → IsSafe ms → AreWellFormed ms → SomeRun names ms given limit capacity
some_run names ms given limit capacity safe wf =
    let o = comes_to_an_end by_draws ms given limit (Some capacity) record { safe = safe; wf = wf; well = draws_well } in
    let e = some_end names ms given limit capacity o.0 safe wf o.1 in
    record { answer = e.answer; tells = record { end = o.0; plain = o.1; tells = e.tells } }
