-- What runs show of the plain run.
use Rattle.std.proofs.Common.{◌≡◌, ℕ, ◌+◌, ◌<◌, List, Result, Ok, Err, IfErr, IfOk, Option, Some, None, map, slice_index_or, length, sym, ap, ◌∙◌, subst, subst₂, arith}
use Rattle.std.proofs.lemmas.List.{length-map}
use Rattle.std.proofs.lemmas.Option.{slice_get-map, get_or_from_slice_get}
use Rattle.std.specs.Option.{option_map}
use Rattle.rs_model.specs.Data.{Machine_data}
use Rattle.rs_model.specs.declared.graph.Role.{Role}
use Rattle.rs_core.specs.Actors.{Behaviour, Choice}
use Rattle.rs_core.specs.Choices.{AreWellFormed}
use Rattle.rs_core.specs.Histories.{History, transcript_of}
use Rattle.rs_core.specs.Plain.{Ending, Ended, Stopped, Stuck, IsPlain}
use Rattle.rs_core.specs.Core.{Core_data}
use Rattle.rs_core.specs.Runs.{ArePlayers, HasActors, HasTranscripts, IsAmong, IsGiven, EndingShows, EndShows, FaultShows, FaultTells, HasPlayed, IsFullAt, RunShows, last_moment, sent_to, got_from}
use Rattle.rs_core.specs.Runs.{transcript_at, transcript_in}
use Rattle.rs_core.specs.declared.players.Player.{Player}
use Rattle.rs_core.specs.declared.playing.End.{End}
use Rattle.rs_core.specs.declared.playing.End.TheVariants as end
use Rattle.rs_core.specs.declared.runs.Outcome.{Outcome}
use Rattle.rs_core.specs.declared.runs.Outcome.TheVariants as outcome
use Rattle.rs_core.specs.declared.runs.RunFault.{RunFault}
use Rattle.rs_core.specs.declared.runs.RunFault.TheVariants as fault
use Rattle.rs_core.specs.declared.transcripts.Entry.{Entry}
use Rattle.rs_core.proofs.Ends.{get_there}
use Rattle.rs_core.proofs.Filled.{apart}

module _ {A : Type 0} (b : Behaviour A) where
  has_actors : (roles : ℕ) (h : ℕ → History) (f : ℕ → A) (o : ℕ → Option Choice) (xs : List (Player A)) → ArePlayers roles h f o xs → HasActors roles f (map (λ (z : Player A). z.actor) xs)
  has_actors roles h f o xs s = record {
    many = length-map xs (λ (z : Player A). z.actor) ∙ s.many;
    each = λ p hp.
        let n = s.many in
        let x = get_there xs p (omega arith) in
        slice_get-map (λ (z : Player A). z.actor) xs p ∙ ap (λ (z : Option (Player A)). option_map (λ (w : Player A). w.actor) z) x.1 ∙ ap (λ (z : A). Some z) (sym (s.actor p x.0 x.1));
  }

  has_transcripts : (roles : ℕ) (h : ℕ → History) (f : ℕ → A) (o : ℕ → Option Choice) (xs : List (Player A)) → ArePlayers roles h f o xs
      → HasTranscripts roles h (map (λ (z : Player A). z.transcript) xs)
  has_transcripts roles h f o xs s = record {
    many = length-map xs (λ (z : Player A). z.transcript) ∙ s.many;
    each = λ p hp.
        let n = s.many in
        let x = get_there xs p (omega arith) in
        slice_get-map (λ (z : Player A). z.transcript) xs p ∙ ap (λ (z : Option (Player A)). option_map (λ (w : Player A). w.transcript) z) x.1
        ∙ ap (λ (z : List Entry). Some z) (sym (s.transcript p x.0 x.1));
  }

  -- the outcome of a run is that of the rounds
  pub show_run : (ms : List Machine_data) (capacity : Option ℕ) (o : Ending A) (e : End) (xs : List (Player A)) (out : Outcome) (ys : List A) → EndShows ms capacity o e xs → RunShows e xs out ys
      → EndingShows (length ms) o out ys
  show_run ms capacity (Ended k) end.Ended xs out ys s r =
      let Q : Outcome → List A → Type 0 = λ z w. EndingShows (length ms) (Ended k) z w in
      subst₂ Q (sym r.0) (sym r.1) (has_transcripts (length ms) k.history k.actor k.kept xs s, has_actors (length ms) k.history k.actor k.kept xs s)
  show_run ms capacity (Ended k) (end.Stopped role) xs out ys s r = absurd (s)
  show_run ms capacity (Ended k) (end.Full sender receiver) xs out ys s r = absurd (s)
  show_run ms capacity (Stopped p k) end.Ended xs out ys s r = absurd (s)
  show_run ms capacity (Stopped p k) (end.Stopped role) xs out ys s r =
      let Q : Outcome → List A → Type 0 = λ z w. EndingShows (length ms) (Stopped p k) z w in
      subst₂ Q (sym r.0) (sym r.1) (s.0, has_actors (length ms) k.history k.actor k.kept xs s.1)
  show_run ms capacity (Stopped p k) (end.Full sender receiver) xs out ys s r = absurd (s)
  show_run ms capacity (Stuck k) end.Ended xs out ys s r = absurd (s)
  show_run ms capacity (Stuck k) (end.Stopped role) xs out ys s r = absurd (s)
  show_run ms capacity (Stuck k) (end.Full sender receiver) xs out ys s r = absurd (r)

  -- the players at the end are those of the last moment
  pub shown_players : (ms : List Machine_data) (capacity : Option ℕ) (o : Ending A) (e : End) (xs : List (Player A)) → EndShows ms capacity o e xs
      → ArePlayers (length ms) (last_moment o).history (last_moment o).actor (last_moment o).kept xs
  shown_players ms capacity (Ended k) end.Ended xs s = s
  shown_players ms capacity (Ended k) (end.Stopped role) xs s = absurd (s)
  shown_players ms capacity (Ended k) (end.Full sender receiver) xs s = absurd (s)
  shown_players ms capacity (Stopped p k) end.Ended xs s = absurd (s)
  shown_players ms capacity (Stopped p k) (end.Stopped role) xs s = s.1
  shown_players ms capacity (Stopped p k) (end.Full sender receiver) xs s = absurd (s)
  shown_players ms capacity (Stuck k) end.Ended xs s = absurd (s)
  shown_players ms capacity (Stuck k) (end.Stopped role) xs s = absurd (s)
  shown_players ms capacity (Stuck k) (end.Full sender receiver) xs s = s.1

  -- the run that was made is the plain run
  pub show_plain : (ms : List Machine_data) (limit : ℕ) (capacity : Option ℕ) (actors : List A) (c : Core_data) (e : End) (xs : List (Player A)) (out : Outcome) (ys : List A)
      → HasPlayed b ms limit capacity actors c e xs → RunShows e xs out ys
      → (given : ℕ → A) → IsGiven given actors → (o : Ending A) × IsPlain ms b given limit capacity o × EndingShows (length ms) o out ys
  show_plain ms limit capacity actors c e xs out ys h r given is = let s = h.plain given is in (s.outcome, s.plain, show_run ms capacity s.outcome e xs out ys s.shows r)

  -- over unbounded queues no queue is full
  never_stuck_shown : (ms : List Machine_data) (o : Ending A) (sender receiver : Role) (xs : List (Player A)) → EndShows ms None o (end.Full sender receiver) xs → ⊥
  never_stuck_shown ms (Ended k) sender receiver xs s = s
  never_stuck_shown ms (Stopped p k) sender receiver xs s = s
  never_stuck_shown ms (Stuck k) sender receiver xs s = s.0.full

  pub never_full : (ms : List Machine_data) (limit : ℕ) (actors : List A) (c : Core_data) (e : End) (xs : List (Player A)) (sender receiver : Role) (sent taken : ℕ) → length actors ≡ length ms
      → HasPlayed b ms limit None actors c e xs → FaultShows e xs (fault.Full sender receiver sent taken) → ⊥
  never_full ms limit actors c e xs sender receiver sent taken many h f =
      let P : End → Type 0 = λ z. IsAmong (length xs) z in
      let among = subst P f.0 h.among in
      let low : sender.0 < length actors = (let a = among.0 in let n = h.many in omega (arith, a, many, n)) in
      let x = get_there actors sender.0 low in
      let s = h.plain (λ p. slice_index_or actors p x.0) (λ p y here. get_or_from_slice_get actors p y x.0 here) in
      let Q : End → Type 0 = λ z. EndShows ms None s.outcome z xs in
      never_stuck_shown ms s.outcome sender receiver xs (subst Q f.0 s.shows)

  transcript_here : (roles p : ℕ) (h : ℕ → History) (f : ℕ → A) (o : ℕ → Option Choice) (xs : List (Player A)) → ArePlayers roles h f o xs → p < length xs → transcript_at xs p ≡ transcript_of (h p)
  transcript_here roles p h f o xs s low = let x = get_there xs p low in ap (λ (z : Option (Player A)). transcript_in z) x.1 ∙ sym (s.transcript p x.0 x.1)

  full_at : (ms : List Machine_data) (given : ℕ → A) (limit capacity : ℕ) (o : Ending A) (xs : List (Player A)) (sender receiver : Role) (sent taken : ℕ) → AreWellFormed ms
      → IsPlain ms b given limit (Some capacity) o
      → EndShows ms (Some capacity) o (end.Full sender receiver) xs → (sender.0 < length xs) × (receiver.0 < length xs) → sent ≡ sent_to receiver.0 (transcript_at xs sender.0)
      → taken ≡ got_from sender.0 (transcript_at xs receiver.0)
      → IsFullAt ms b given limit capacity sender receiver sent taken
  full_at ms given limit capacity (Ended k) xs sender receiver sent taken wf plain s among es et = absurd (s)
  full_at ms given limit capacity (Stopped p k) xs sender receiver sent taken wf plain s among es et = absurd (s)
  full_at ms given limit capacity (Stuck k) xs sender receiver sent taken wf plain s among es et =
      let es' : sent ≡ sent_to receiver.0 (transcript_of (k.history sender.0)) = es
      ∙ ap (λ (z : List Entry). sent_to receiver.0 z) (transcript_here (length ms) sender.0 k.history k.actor k.kept xs s.1 among.0) in
      let et' : taken ≡ got_from sender.0 (transcript_of (k.history receiver.0)) = et
      ∙ ap (λ (z : List Entry). got_from sender.0 z) (transcript_here (length ms) receiver.0 k.history k.actor k.kept xs s.1 among.1) in
      record {
        end = k;
        plain = plain;
        full = s.0;
        is_sent = es';
        is_taken = et';
        apart = es' ∙ apart b ms given limit capacity k sender.0 receiver wf plain s.0 ∙ ap (λ (z : ℕ). z + capacity) (sym et');
      }

  -- the fault of a run is that of the rounds
  pub show_fault : (ms : List Machine_data) (given : ℕ → A) (limit capacity : ℕ) (actors : List A) (c : Core_data) (e : End) (xs : List (Player A)) (f : RunFault) → AreWellFormed ms
      → HasPlayed b ms limit (Some capacity) actors c e xs
      → IsGiven given actors → FaultShows e xs f → FaultTells ms b given limit capacity f
  show_fault ms given limit capacity actors c e xs fault.NoMemory wf h is f = tt
  show_fault ms given limit capacity actors c e xs (fault.Full sender receiver sent taken) wf h is f =
      let s = h.plain given is in
      let P : End → Type 0 = λ z. IsAmong (length xs) z in
      let Q : End → Type 0 = λ z. EndShows ms (Some capacity) s.outcome z xs in
      full_at ms given limit capacity s.outcome xs sender receiver sent taken wf s.plain (subst Q f.0 s.shows) (subst P f.0 h.among) f.1 f.2

-- what holds of an Ok by what else holds of it
pub on_ok : {X E : Type 0} (P Q : X → Type 0) → ((x : X) → P x → Q x) → (r : Result X E) → IfOk r P → IfOk r Q
on_ok P Q f (Ok x) p = f x p
on_ok P Q f (Err e) p = tt

-- and of an error
pub on_err : {X E : Type 0} (P Q : E → Type 0) → ((e : E) → P e → Q e) → (r : Result X E) → IfErr r P → IfErr r Q
on_err P Q f (Ok x) p = tt
on_err P Q f (Err e) p = f e p
