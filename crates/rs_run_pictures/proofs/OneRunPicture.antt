-- There is one answer of `draw --run` to a document, and no other, and its verdict is that of `run`.
use Rattle.std.proofs.Common.{◌≡◌, inl, inr, ℕ, zero, suc, ◌<◌, List, [], ◌∷◌, length, Option, Some, slice_get, refl, sym, ap, subst, ◌∙◌, arith}
use Rattle.std.proofs.lemmas.Bool.Decides.{leb_tells}
use Rattle.std.proofs.lemmas.Option.{same_Some}
use Rattle.rs_model.specs.Data.{Machine_data, Names_data}
use Rattle.rs_model.specs.declared.graph.Role.{Role}
use Rattle.rs_model.specs.declared.machines.State.TheVariants.{Puts}
use Rattle.rs_model.specs.declared.runs.RunOptions.{RunOptions}
use Rattle.rs_core.specs.Choices.{AreWellFormed}
use Rattle.rs_core.specs.Choosing.{draws_well}
use Rattle.rs_core.specs.Configurations.{state_at, state_of}
use Rattle.rs_core.specs.Determined.{SameMoment, SameOutcome}
use Rattle.rs_core.specs.Draws.{by_draws}
use Rattle.rs_core.specs.Histories.{transcript_of}
use Rattle.rs_core.specs.Plain.{Moment, Ending, Ended, Stopped, Stuck, IsPlain, FirstFull}
use Rattle.rs_core.specs.Runs.{HasTranscripts, last_moment}
use Rattle.rs_core.specs.Safety.{IsSafe}
use Rattle.rs_core.specs.declared.playing.End.{End}
use Rattle.rs_core.specs.declared.playing.End.TheVariants as end
use Rattle.rs_core.specs.declared.transcripts.Entry.{Entry}
use Rattle.rs_core.proofs.Ends.{comes_to_an_end}
use Rattle.rs_core.proofs.Full.{stuck_is_full}
use Rattle.rs_core.proofs.Unique.{one_outcome}
use Rattle.rs_derive.specs.Data.{Derivation_data}
use Rattle.rs_safety.specs.Room.{room_of}
use Rattle.rs_documents.specs.Data.{Document_data}
use Rattle.rs_documents.specs.Documents.{SpellsDocument}
use Rattle.rs_documents.proofs.SpeltSessions.{spelt_session}
use Rattle.rs_answers.specs.Data.{Answer_data}
use Rattle.rs_answers.specs.Refusals.{refusal_answer}
use Rattle.rs_answers.specs.declared.verdicts.Verdict.{Verdict}
use Rattle.rs_answers.proofs.Derivings.{canonical_safe, session_of}
use Rattle.rs_answers.proofs.OneReason.{not_refused, one_refusal, one_session_derived, same_session}
use Rattle.rs_answers.proofs.SomeSession.{Derived, NotSo, Prepared}
use Rattle.rs_runs.specs.Runs as runs
use Rattle.rs_runs.specs.Runs.{Runs, TellsEnd, TellsRun, HasEnded, IsStopped, IsFull, actor_of, capacity_of}
use Rattle.rs_runs.proofs.Outcomes.{transcripts_are}
use Rattle.rs_run_pictures.specs.Draws.{DrawsPlain, DrawsRun, EndIs, IsDrawn, IsRefused, verdict_of}
use Rattle.rs_run_pictures.specs.Lines.{run_picture}

-- ---- one at most

-- lists with the same items are the same
same_items : {A : Type 0} (xs ys : List A) → length xs ≡ length ys → ((p : ℕ) (x y : A) → p < length xs → slice_get xs p ≡ Some x → slice_get ys p ≡ Some y → x ≡ y) → xs ≡ ys
same_items [] [] size h = refl
same_items [] (y ∷ ys) size h = absurd cc
same_items (x ∷ xs) [] size h = absurd cc
same_items (x ∷ xs) (y ∷ ys) size h =
    ap (λ z. z ∷ xs) (h 0 x y (omega arith) refl refl) ∙ ap (λ z. y ∷ z) (same_items xs ys (cc) (λ p a b lt e f. h (suc p) a b (omega arith) e f))

same_transcripts : (roles : ℕ) (k l : Moment ℕ) (xs ys : List (List Entry)) → SameMoment roles k l → HasTranscripts roles k.history xs → HasTranscripts roles l.history ys → xs ≡ ys
same_transcripts roles k l xs ys same h g =
    same_items xs ys (h.many ∙ sym g.many) (λ p x y lt ex ey.
    (let many = h.many in
    let less : p < roles = omega (arith, lt, many) in
    same_Some x y (sym ex ∙ h.each p less ∙ ap (λ z. Some (transcript_of z)) (same.history p) ∙ sym (g.each p less) ∙ ey)))

same_state : (ms : List Machine_data) (k l : Moment ℕ) (p : ℕ) → SameMoment (length ms) k l → p < length ms → state_at ms k.at p ≡ state_at ms l.at p
same_state ms k l p same there = ap (state_of (slice_get ms p)) (same.at p there)

-- the queue that is full first is one
one_full : (ms : List Machine_data) (capacity : Option ℕ) (k l : Moment ℕ) (s t r q : Role) → SameMoment (length ms) k l → FirstFull ms capacity k s.0 r → FirstFull ms capacity l t.0 q
    → end.Full s r ≡ end.Full t q
one_full ms capacity k l s t r q same f g = elim (leb_tells (suc s.0) t.0) [
  | inl less ↦ absurd (g.first s.0 r f.arms less.1 (sym (same_state ms k l s.0 same f.present) ∙ f.puts))
  | inr more ↦ elim (leb_tells (suc t.0) s.0) [
    | inl less ↦ absurd (f.first t.0 q g.arms less.1 (same_state ms k l t.0 same g.present ∙ g.puts))
    | inr other ↦
        let m1 = more.1 in
        let m2 = other.1 in
        let place : s.0 ≡ t.0 = omega (arith, m1, m2) in
        let P : ℕ → Type 0 = λ z. state_at ms l.at z ≡ Some (Puts r f.arms) in
        let here : state_at ms l.at t.0 ≡ Some (Puts r f.arms) = subst P place (sym (same_state ms k l s.0 same f.present) ∙ f.puts) in
        let puts : Some (Puts r f.arms) ≡ Some (Puts q g.arms) = sym here ∙ g.puts in
        let receiver : r ≡ q = cc (puts) in
        ap (λ (n : ℕ). end.Full (record { 0 = n }) r) place ∙ ap (λ z. end.Full t z) receiver
  ]
]

-- the same outcome ends in one way
one_end : (ms : List Machine_data) (capacity : ℕ) (o u : Ending ℕ) (e f : End) → SameOutcome (length ms) o u → EndIs ms capacity o e → EndIs ms capacity u f → e ≡ f
one_end ms capacity (Ended k) (Ended l) end.Ended end.Ended same h g = refl
one_end ms capacity (Ended k) (Ended l) end.Ended (end.Stopped q) same h g = absurd g
one_end ms capacity (Ended k) (Ended l) end.Ended (end.Full t q) same h g = absurd g
one_end ms capacity (Ended k) (Ended l) (end.Stopped p) f same h g = absurd h
one_end ms capacity (Ended k) (Ended l) (end.Full s r) f same h g = absurd h
one_end ms capacity (Ended k) (Stopped q l) e f same h g = absurd same
one_end ms capacity (Ended k) (Stuck l) e f same h g = absurd same
one_end ms capacity (Stopped p k) (Ended l) e f same h g = absurd same
one_end ms capacity (Stopped p k) (Stopped q l) (end.Stopped r) (end.Stopped s) same h g = ap (λ (n : ℕ). end.Stopped (record { 0 = n })) (sym h ∙ same.0 ∙ g)
one_end ms capacity (Stopped p k) (Stopped q l) (end.Stopped r) end.Ended same h g = absurd g
one_end ms capacity (Stopped p k) (Stopped q l) (end.Stopped r) (end.Full s t) same h g = absurd g
one_end ms capacity (Stopped p k) (Stopped q l) end.Ended f same h g = absurd h
one_end ms capacity (Stopped p k) (Stopped q l) (end.Full s t) f same h g = absurd h
one_end ms capacity (Stopped p k) (Stuck l) e f same h g = absurd same
one_end ms capacity (Stuck k) (Ended l) e f same h g = absurd same
one_end ms capacity (Stuck k) (Stopped q l) e f same h g = absurd same
one_end ms capacity (Stuck k) (Stuck l) (end.Full s r) (end.Full t q) same h g = one_full ms (Some capacity) k l s t r q same h g
one_end ms capacity (Stuck k) (Stuck l) (end.Full s r) end.Ended same h g = absurd g
one_end ms capacity (Stuck k) (Stuck l) (end.Full s r) (end.Stopped t) same h g = absurd g
one_end ms capacity (Stuck k) (Stuck l) end.Ended f same h g = absurd h
one_end ms capacity (Stuck k) (Stuck l) (end.Stopped s) f same h g = absurd h

last_same : (roles : ℕ) (o u : Ending ℕ) → SameOutcome roles o u → SameMoment roles (last_moment o) (last_moment u)
last_same roles (Ended k) (Ended l) same = same
last_same roles (Ended k) (Stopped q l) same = absurd same
last_same roles (Ended k) (Stuck l) same = absurd same
last_same roles (Stopped p k) (Ended l) same = absurd same
last_same roles (Stopped p k) (Stopped q l) same = same.1
last_same roles (Stopped p k) (Stuck l) same = absurd same
last_same roles (Stuck k) (Ended l) same = absurd same
last_same roles (Stuck k) (Stopped q l) same = absurd same
last_same roles (Stuck k) (Stuck l) same = same

-- a run is drawn in one way
one_plain : (names : Names_data) (ms : List Machine_data) (given : ℕ → ℕ) (limit capacity : ℕ) (a b : Answer_data) → AreWellFormed ms → DrawsPlain names ms given limit capacity a
    → DrawsPlain names ms given limit capacity b → a ≡ b
one_plain names ms given limit capacity a b wf h k =
    let same = one_outcome by_draws ms given limit (Some capacity) h.ending k.ending wf h.plain k.plain in
    h.drawn ∙ ap (λ z. record { text = run_picture names ms capacity z h.last; verdict = verdict_of h.last })
    (same_transcripts (length ms) (last_moment h.ending) (last_moment k.ending) h.transcripts k.transcripts (last_same (length ms) h.ending k.ending same) h.has k.has)
    ∙ ap (λ z. record { text = run_picture names ms capacity k.transcripts z; verdict = verdict_of z }) (one_end ms capacity h.ending k.ending h.last k.last same h.ends k.ends) ∙ sym k.drawn

-- the answer to a document is one
pub one_run_picture : (options : RunOptions) (bytes : List ℕ) (d : Document_data) (a b : Answer_data) → SpellsDocument bytes d → DrawsRun options d a → DrawsRun options d b → a ≡ b
one_run_picture options bytes d a b doc (IsRefused r h x) (IsRefused s k y) = x ∙ ap (refusal_answer d.names) (one_refusal options.bound d r s h k) ∙ sym y
one_run_picture options bytes d a b doc (IsRefused r h x) (IsDrawn ps ms ds k f y) = absurd (not_refused options.bound d ps ms ds r k f h)
one_run_picture options bytes d a b doc (IsDrawn ps ms ds h f x) (IsRefused s k y) = absurd (not_refused options.bound d ps ms ds s h f k)
one_run_picture options bytes d a b doc (IsDrawn ps ms ds h f x) (IsDrawn qs ns es k g y) =
    let same = same_session d ps qs ms ns h k in
    let derivations = one_session_derived options.bound d ps qs ms ns ds es h k f g in
    let session = session_of d qs ns (spelt_session bytes d doc) k.projections_are.well_formed k.projections_are.projected k.machines_are k.well_formed in
    let P : List Machine_data → Type 0 = λ z. DrawsPlain d.names z (actor_of options.seed) options.limit (capacity_of options.ring (room_of ds)) a in
    let Q : List Derivation_data → Type 0 = λ z. DrawsPlain d.names ns (actor_of options.seed) options.limit (capacity_of options.ring (room_of z)) a in
    one_plain d.names ns (actor_of options.seed) options.limit (capacity_of options.ring (room_of es)) a b session.machines_fit (subst Q derivations (subst P same.1 x)) y

-- ---- one at least

-- the end of a run of safe machines
record SomeEnd (ms : List Machine_data) (capacity : ℕ) (o : Ending ℕ) : Type 0 where
  last : End
  ends : EndIs ms capacity o last

some_end : (ms : List Machine_data) (given : ℕ → ℕ) (limit capacity : ℕ) (o : Ending ℕ) → IsSafe ms → AreWellFormed ms → IsPlain ms by_draws given limit (Some capacity) o → SomeEnd ms capacity o
some_end ms given limit capacity (Ended k) safe wf p = record { last = end.Ended; ends = tt }
some_end ms given limit capacity (Stopped q k) safe wf p = record { last = end.Stopped (record { 0 = q }); ends = refl }
some_end ms given limit capacity (Stuck k) safe wf p =
    let f = stuck_is_full by_draws draws_well ms given limit (Some capacity) k safe wf p in record { last = end.Full (record { 0 = f.0 }) f.1; ends = f.2 }

some_plain : (names : Names_data) (ms : List Machine_data) (given : ℕ → ℕ) (limit capacity : ℕ) → IsSafe ms → AreWellFormed ms → (a : Answer_data) × DrawsPlain names ms given limit capacity a
some_plain names ms given limit capacity safe wf =
    let o = comes_to_an_end by_draws ms given limit (Some capacity) record { safe = safe; wf = wf; well = draws_well } in
    let e = some_end ms given limit capacity o.0 safe wf o.1 in
    let t = transcripts_are (length ms) (last_moment o.0).history in (
      record { text = run_picture names ms capacity t.0 e.last; verdict = verdict_of e.last },
      record { ending = o.0; plain = o.1; last = e.last; ends = e.ends; transcripts = t.0; has = t.1; drawn = refl },
    )

-- there is an answer to each document
pub some_run_picture : (options : RunOptions) (bytes : List ℕ) (d : Document_data) → SpellsDocument bytes d → Prepared options.bound d → (a : Answer_data) × DrawsRun options d a
some_run_picture options bytes d doc (NotSo why h) = (refusal_answer d.names why, IsRefused why h refl)
some_run_picture options bytes d doc (Derived ps ms ds h found) =
    let session = session_of d ps ms (spelt_session bytes d doc) h.projections_are.well_formed h.projections_are.projected h.machines_are h.well_formed in
    let a = some_plain d.names ms (actor_of options.seed) options.limit (capacity_of options.ring (room_of ds)) (canonical_safe options.bound d.protocol ps ms ds session found) session.machines_fit in
    (a.0, IsDrawn ps ms ds h found a.1)

-- ---- the verdict of `run`

told_verdict : (names : Names_data) (ms : List Machine_data) (capacity : ℕ) (b : Answer_data) (o u : Ending ℕ) (e : End) → SameOutcome (length ms) o u → EndIs ms capacity o e
    → TellsEnd names ms capacity b u → verdict_of e ≡ b.verdict
told_verdict names ms capacity b (Ended k) u end.Ended same h (HasEnded l xs g is) = ap (λ (z : Answer_data). z.verdict) (sym is)
told_verdict names ms capacity b (Ended k) u (end.Stopped p) same h (HasEnded l xs g is) = absurd h
told_verdict names ms capacity b (Ended k) u (end.Full s r) same h (HasEnded l xs g is) = absurd h
told_verdict names ms capacity b (Ended k) u e same h (IsStopped q l is) = absurd same
told_verdict names ms capacity b (Ended k) u e same h (IsFull l t q g is) = absurd same
told_verdict names ms capacity b (Stopped p k) u e same h (HasEnded l xs g is) = absurd same
told_verdict names ms capacity b (Stopped p k) u (end.Stopped r) same h (IsStopped q l is) = ap (λ (z : Answer_data). z.verdict) (sym is)
told_verdict names ms capacity b (Stopped p k) u end.Ended same h (IsStopped q l is) = absurd h
told_verdict names ms capacity b (Stopped p k) u (end.Full s r) same h (IsStopped q l is) = absurd h
told_verdict names ms capacity b (Stopped p k) u e same h (IsFull l t q g is) = absurd same
told_verdict names ms capacity b (Stuck k) u e same h (HasEnded l xs g is) = absurd same
told_verdict names ms capacity b (Stuck k) u e same h (IsStopped q l is) = absurd same
told_verdict names ms capacity b (Stuck k) u (end.Full s r) same h (IsFull l t q g is) = ap (λ (z : Answer_data). z.verdict) (sym is)
told_verdict names ms capacity b (Stuck k) u end.Ended same h (IsFull l t q g is) = absurd h
told_verdict names ms capacity b (Stuck k) u (end.Stopped r) same h (IsFull l t q g is) = absurd h

plain_verdict : (names : Names_data) (ms : List Machine_data) (given : ℕ → ℕ) (limit capacity : ℕ) (a b : Answer_data) → AreWellFormed ms → DrawsPlain names ms given limit capacity a
    → TellsRun names ms given limit capacity b → a.verdict ≡ b.verdict
plain_verdict names ms given limit capacity a b wf h k =
    ap (λ (z : Answer_data). z.verdict) h.drawn
    ∙ told_verdict names ms capacity b h.ending k.end h.last (one_outcome by_draws ms given limit (Some capacity) h.ending k.end wf h.plain k.plain) h.ends k.tells

-- a refused document has the answer of `run`, and any other has its verdict
pub same_verdict : (options : RunOptions) (bytes : List ℕ) (d : Document_data) (a b : Answer_data) → SpellsDocument bytes d → DrawsRun options d a → Runs options d b → a.verdict ≡ b.verdict
same_verdict options bytes d a b doc (IsRefused r h x) (runs.IsRefused s k y) =
    ap (λ (z : Answer_data). z.verdict) (x ∙ ap (refusal_answer d.names) (one_refusal options.bound d r s h k) ∙ sym y)
same_verdict options bytes d a b doc (IsRefused r h x) (runs.IsRun ps ms ds k f y) = absurd (not_refused options.bound d ps ms ds r k f h)
same_verdict options bytes d a b doc (IsDrawn ps ms ds h f x) (runs.IsRefused s k y) = absurd (not_refused options.bound d ps ms ds s h f k)
same_verdict options bytes d a b doc (IsDrawn ps ms ds h f x) (runs.IsRun qs ns es k g y) =
    let same = same_session d ps qs ms ns h k in
    let derivations = one_session_derived options.bound d ps qs ms ns ds es h k f g in
    let session = session_of d qs ns (spelt_session bytes d doc) k.projections_are.well_formed k.projections_are.projected k.machines_are k.well_formed in
    let P : List Machine_data → Type 0 = λ z. DrawsPlain d.names z (actor_of options.seed) options.limit (capacity_of options.ring (room_of ds)) a in
    let Q : List Derivation_data → Type 0 = λ z. DrawsPlain d.names ns (actor_of options.seed) options.limit (capacity_of options.ring (room_of z)) a in
    plain_verdict d.names ns (actor_of options.seed) options.limit (capacity_of options.ring (room_of es)) a b session.machines_fit (subst Q derivations (subst P same.1 x)) y
