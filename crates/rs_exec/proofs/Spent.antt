-- What a run over a session in one hand leaves of the session.
use Rattle.std.proofs.Common.{◌≡◌, ◌≢◌, inl, inr, ℕ, zero, suc, ◌<◌, ◌≤◌, List, [], ◌∷◌, length, map, drop, Option, Some, slice_get, slice_index_or, refl, sym, ap, ◌∙◌, subst, arith}
use Rattle.std.proofs.Math.Seq.{drop-append_seam}
use Rattle.std.proofs.lemmas.Bool.Decides.{eqb_tells}
use Rattle.std.proofs.lemmas.List.{drop-map, length-map}
use Rattle.std.proofs.lemmas.Option.{get_or_from_slice_get, slice_get-map, slice_get_within}
use Rattle.std.specs.Option.{option_map}
use Rattle.rs_model.specs.Data.{Machine_data}
use Rattle.rs_model.specs.declared.graph.Role.{Role}
use Rattle.rs_model.specs.declared.machines.State.TheVariants.{Done}
use Rattle.rs_core.specs.Actors.{Behaviour, Plays}
use Rattle.rs_core.specs.Choices.{AreWellFormed}
use Rattle.rs_core.specs.Configurations.{Configuration, state_at, state_of}
use Rattle.rs_core.specs.declared.messages.Message.{Message}
use Rattle.rs_core.specs.Histories.{Sent, Got, History, IsLegal}
use Rattle.rs_core.specs.Plain.{Ending, Ended, Stopped, Stuck}
use Rattle.rs_core.specs.Queues.{AreTranscripts}
use Rattle.rs_core.specs.Runs.{EndShows, HasPlayed, HasTranscripts, IsGiven, RunShows, last_moment}
use Rattle.rs_core.specs.declared.players.Player.{Player}
use Rattle.rs_core.specs.declared.playing.End.{End}
use Rattle.rs_core.specs.declared.playing.End.TheVariants as end
use Rattle.rs_core.specs.declared.runs.Outcome.{Outcome}
use Rattle.rs_core.specs.declared.runs.Outcome.TheVariants as outcome
use Rattle.rs_core.specs.declared.transcripts.Entry.{Entry}
use Rattle.rs_core.proofs.Alike.{EndHolds, end_holds, same_histories, sents_first, sents_later, gots_first, gots_later, sound_plain}
use Rattle.rs_core.proofs.Compared.{told_fifo}
use Rattle.rs_core.proofs.Ends.{get_there}
use Rattle.rs_core.proofs.Fifo.{gots, message, sents}
use Rattle.rs_core.proofs.Rounds.{Sound}
use Rattle.rs_core.proofs.Shown.{shown_players}
use Rattle.rs_core.proofs.Stories.{told_of_legal}
use Rattle.rs_rings.specs.Acts.{message_of, parcels_sent, parcels_got}
use Rattle.rs_rings.specs.Closed.{Closed_data}
use Rattle.rs_rings.specs.Passes.{Rings_data}
use Rattle.rs_rings.specs.Views.{history_in, parcels_under_way, state_in}
use Rattle.rs_rings.specs.declared.views.View.{View}
use Rattle.rs_exec.specs.Hands.{IsSpent, MayEnd, core_of, notes_of}
use Rattle.rs_exec.specs.Runs.{HavePlayed, IsSessionOfRun}
use Rattle.rs_exec.proofs.Together.{queue_is, shown_in, state_is}

-- what stands in a list that a function made of another
get_map : {X Y : Type 0} (f : X → Y) (xs : List X) (r : ℕ) (y : Y) → slice_get (map f xs) r ≡ Some y → (x : X) × (slice_get xs r ≡ Some x) × (f x ≡ y)
get_map f [] r y e = absurd (cc (e))
get_map f (x ∷ xs) zero y e = (x, refl, cc (e))
get_map f (x ∷ xs) (suc r) y e = get_map f xs r y e

-- parcels are messages
sents_are : (q : ℕ) (h : History) → map message_of (parcels_sent q h) ≡ sents q h
sents_are q [] = refl
sents_are q (Got r l v ∷ h) = sents_are q h
sents_are q (Sent r l v ∷ h) = elim (eqb_tells q r.0) [
  | inl t ↦ rw t.0 (ap (λ (z : List Message). message l v ∷ z) (sents_are q h) ∙ sym (sents_first q r l v h (sym t.1)))
  | inr t ↦ rw t.0 (sents_are q h ∙ sym (sents_later q r l v h (λ e. t.1 (sym e))))
]

gots_are : (q : ℕ) (h : History) → map message_of (parcels_got q h) ≡ gots q h
gots_are q [] = refl
gots_are q (Sent r l v ∷ h) = gots_are q h
gots_are q (Got r l v ∷ h) = elim (eqb_tells q r.0) [
  | inl t ↦ rw t.0 (ap (λ (z : List Message). message l v ∷ z) (gots_are q h) ∙ sym (gots_first q r l v h (sym t.1)))
  | inr t ↦ rw t.0 (gots_are q h ∙ sym (gots_later q r l v h (λ e. t.1 (sym e))))
]

module _ {A : Type 0} (b : Behaviour A) (session : Rings_data) where
  abbrev ms : List Machine_data
  ms = session.machines

  -- an actor for each number, of a list that isn't empty
  given_of : (actors : List A) → 0 < length actors → (given : ℕ → A) × IsGiven given actors
  given_of actors some = let x = get_there actors 0 some in ((λ p. slice_index_or actors p x.0), (λ p y here. get_or_from_slice_get actors p y x.0 here))

  -- what is under way is what stands in the queues
  way : (view : View) (c : Configuration) (p q : ℕ) → IsLegal ms (history_in view) c → p ≢ q → map message_of (parcels_under_way view p q) ≡ c.queue p q
  way view c p q legal apart =
      let fifo = told_fifo b ms (history_in view) c (told_of_legal ms (history_in view) c legal) p q apart in
      let n : length (parcels_got p (history_in view q)) ≡ length (gots p (history_in view q)) = sym (length-map (parcels_got p (history_in view q)) message_of)
      ∙ ap length (gots_are p (history_in view q)) in
      sym (drop-map message_of (length (parcels_got p (history_in view q))) (parcels_sent q (history_in view p)))
      ∙ (λ i. drop (n i) ((sents_are q (history_in view p) ∙ sym fifo) i))
      ∙ drop-append_seam (gots p (history_in view q)) (c.queue p q)

  -- the actors' run, and the moment at which it ended
  record HasRun (limit : ℕ) (actors : List A) (view : View) (e : End) (xs : List (Player A)) : Type 0 where
    given : ℕ → A
    is_given : IsGiven given actors
    outcome : Ending A
    sound : Sound b ms given limit (last_moment outcome)
    shows : EndShows ms (Some session.capacity) outcome e xs
    holds : EndHolds b ms limit outcome
    last : shown_in ms view ≡ (last_moment outcome).at
    many : length xs ≡ length ms
    noted : AreTranscripts (notes_of view) xs

  has_run : (limit : ℕ) (actors : List A) (view : View) (e : End) (xs : List (Player A)) → 0 < length actors → HasPlayed b ms limit (Some session.capacity) actors (core_of ms view) e xs
      → AreTranscripts (notes_of view) xs → HasRun limit actors view e xs
  has_run limit actors view e xs some h noted =
      let g = given_of actors some in
      let s = h.plain g.0 g.1 in
      record {
        given = g.0;
        is_given = g.1;
        outcome = s.outcome;
        sound = sound_plain b ms g.0 limit (Some session.capacity) s.outcome s.plain;
        shows = s.shows;
        holds = end_holds b ms limit (Some session.capacity) s.plain.first s.outcome s.plain.run;
        last = s.last;
        many = h.many;
        noted = noted;
      }

  -- where the run ended, all roles are Done
  pub may_end : (limit : ℕ) (actors : List A) (view : View) (e : End) (xs : List (Player A)) → 0 < length actors → HasPlayed b ms limit (Some session.capacity) actors (core_of ms view) e xs
      → AreTranscripts (notes_of view) xs → MayEnd ms view e
  may_end limit actors view (end.Stopped role) xs some h noted = tt
  may_end limit actors view (end.Full sender receiver) xs some h noted = tt
  may_end limit actors view end.Ended xs some h noted = let r = has_run limit actors view end.Ended xs some h noted in by r.outcome r.shows r.holds r.last
    where
      by : (o : Ending A) → EndShows ms (Some session.capacity) o end.Ended xs → EndHolds b ms limit o → shown_in ms view ≡ (last_moment o).at → MayEnd ms view end.Ended
      by (Ended k) s holds last = λ r low. sym (state_is ms view r low) ∙ ap (λ (z : Configuration). state_at ms z r) last ∙ holds r low
      by (Stopped p k) s holds last = absurd (s)
      by (Stuck k) s holds last = absurd (s)

  -- what was done in the session is what the actors did
  histories : (limit : ℕ) (actors : List A) (view : View) (e : End) (xs : List (Player A)) (c : Configuration) → AreWellFormed ms → (r : HasRun limit actors view e xs) → IsLegal ms (history_in view) c
      → (p : ℕ) → p < length ms
      → history_in view p ≡ (last_moment r.outcome).history p
  histories limit actors view e xs c wf r legal = same_histories b ms r.given limit (last_moment r.outcome) (history_in view) c wf r.sound (told_of_legal ms (history_in view) c legal)
      (λ p low.
      (let n = r.many in
      let x = get_there xs p (omega (arith, n, low)) in
      sym (r.noted p x.0 x.1) ∙ sym ((shown_players b ms (Some session.capacity) r.outcome e xs r.shows).transcript p x.0 x.1)))
      (λ p q low there apart. sym (way view c p q legal apart) ∙ sym (queue_is ms view p q low there) ∙ ap (λ (z : Configuration). z.queue p q) r.last)

  few_acts : (limit : ℕ) (actors : List A) (view : View) (e : End) (xs : List (Player A)) (c : Configuration) → AreWellFormed ms → (r : HasRun limit actors view e xs) → IsLegal ms (history_in view) c
      → (p : ℕ) → p < length ms → length (history_in view p) ≤ limit
  few_acts limit actors view e xs c wf r legal p low = let h = ap length (histories limit actors view e xs c wf r legal p low) in let few = r.sound.bounded p in omega (arith, h, few)

  have_played : (limit : ℕ) (actors : List A) (view : View) (e : End) (xs : List (Player A)) (c : Configuration) → AreWellFormed ms → (r : HasRun limit actors view e xs)
      → IsLegal ms (history_in view) c
      → HavePlayed ms b (history_in view) actors (map (λ (x : Player A). x.actor) xs)
  have_played limit actors view e xs c wf r legal = record {
    many = length-map xs (λ (x : Player A). x.actor) ∙ r.many;
    each = λ p m x y runs given left. (
        let going = r.sound.going p m runs in
        let at = get_map (λ (z : Player A). z.actor) xs p y left in
        let actor : (last_moment r.outcome).actor p ≡ y = (shown_players b ms (Some session.capacity) r.outcome e xs r.shows).actor p at.0 at.1 ∙ at.2 in
        let h = sym (histories limit actors view e xs c wf r legal p (slice_get_within ms p m runs)) in
        let base : Plays b m (r.given p) ((last_moment r.outcome).history p) ((last_moment r.outcome).kept p) ((last_moment r.outcome).actor p) =
        record { state = (last_moment r.outcome).at.at p; actor = going.before; plays = going.plays; keeps = going.keeps } in
        ((last_moment r.outcome).kept p, subst (λ (z : A × History × A). Plays b m z.0 z.1 ((last_moment r.outcome).kept p) z.2) (λ i. (r.is_given p x given i, h i, actor i)) base));
  }

  has_transcripts : (limit : ℕ) (actors : List A) (view : View) (e : End) (xs : List (Player A)) → HasRun limit actors view e xs
      → HasTranscripts (length ms) (history_in view) (map (λ (x : Player A). x.transcript) xs)
  has_transcripts limit actors view e xs r = record {
    many = length-map xs (λ (x : Player A). x.transcript) ∙ r.many;
    each = λ p low. (
        let n = r.many in
        let x = get_there xs p (omega (arith, n, low)) in
        slice_get-map (λ (z : Player A). z.transcript) xs p ∙ ap (λ (o : Option (Player A)). option_map (λ (z : Player A). z.transcript) o) x.1 ∙ ap (λ (l : List Entry). Some l) (r.noted p x.0 x.1));
  }

  -- where role p was stopped
  record IsHalted (limit : ℕ) (view : View) (c : Configuration) (p : ℕ) : Type 0 where
    present : p < length ms
    least : limit ≤ length (history_in view p)
    goes_on : state_at ms c p ≢ Some Done

  halted : (limit : ℕ) (actors : List A) (view : View) (role : Role) (xs : List (Player A)) (c : Configuration) → AreWellFormed ms → HasRun limit actors view (end.Stopped role) xs
      → IsLegal ms (history_in view) c → ((p : ℕ) → p < length ms → c.at p ≡ state_in view p)
      → IsHalted limit view c role.0
  halted limit actors view role xs c wf r legal states = by r.outcome r.shows r.holds r.last (histories limit actors view (end.Stopped role) xs c wf r legal)
    where
      by : (o : Ending A) → EndShows ms (Some session.capacity) o (end.Stopped role) xs → EndHolds b ms limit o → shown_in ms view ≡ (last_moment o).at
          → ((p : ℕ) → p < length ms → history_in view p ≡ (last_moment o).history p) → IsHalted limit view c role.0
      by (Ended k) s holds last hs = absurd (s)
      by (Stuck k) s holds last hs = absurd (s)
      by (Stopped p k) s holds last hs =
          let at = holds.1 in
          let least = at.acts in
          let h = ap length (hs p holds.0) in
          subst (λ (z : ℕ). IsHalted limit view c z) s.0 (record {
            present = holds.0;
            least = omega (arith, least, h);
            goes_on = λ done. at.goes_on (ap (λ (z : Configuration). state_at ms z p) (sym last) ∙ state_is ms view p holds.0 ∙ ap (state_of (slice_get ms p)) (sym (states p holds.0)) ∙ done);
          })

  -- the closed session is that of the run
  pub session_of_run : (limit : ℕ) (actors : List A) (view : View) (e : End) (xs : List (Player A)) (closed : Closed_data) (out : Outcome) (left : List A) → 0 < length actors → AreWellFormed ms
      → HasPlayed b ms limit (Some session.capacity) actors (core_of ms view) e xs → AreTranscripts (notes_of view) xs → closed.machines ≡ ms → closed.last ≡ view → IsSpent e closed
      → RunShows e xs out left
      → IsSessionOfRun ms b actors limit closed out left
  session_of_run limit actors view e xs closed out left some wf h noted em ev spent shows =
      let is : closed ≡ record { machines = ms; capacity = closed.capacity; last = view } = λ i. record { machines = em i; capacity = closed.capacity; last = ev i } in
      subst (λ (z : Closed_data). IsSessionOfRun ms b actors limit z out left) (sym is) (by e (has_run limit actors view e xs some h noted) (subst (λ (z : Closed_data). IsSpent e z) is spent) shows)
    where
      by : (e : End) → HasRun limit actors view e xs → IsSpent e (record { machines = ms; capacity = closed.capacity; last = view }) → RunShows e xs out left
          → IsSessionOfRun ms b actors limit record { machines = ms; capacity = closed.capacity; last = view } out left
      by (end.Full sender receiver) r o shows = absurd (shows)
      by end.Ended r o shows =
          let base : IsSessionOfRun ms b actors limit record { machines = ms; capacity = closed.capacity; last = view } (outcome.Ended (map (λ (x : Player A). x.transcript) xs))
          (map (λ (x : Player A). x.actor) xs) = record {
            same_machines = refl;
            end = o.end;
            legal = o.legal;
            bounded = few_acts limit actors view end.Ended xs o.end wf r o.legal;
            played = have_played limit actors view end.Ended xs o.end wf r o.legal;
            comes_to = (o.ended, has_transcripts limit actors view end.Ended xs r);
          } in
          subst (λ (z : Outcome × List A). IsSessionOfRun ms b actors limit record { machines = ms; capacity = closed.capacity; last = view } z.0 z.1) (λ i. (sym shows.0 i, sym shows.1 i)) base
      by (end.Stopped role) r o shows =
          let halt = halted limit actors view role xs o.end wf r o.legal o.states in
          let least = halt.least in
          let most = few_acts limit actors view (end.Stopped role) xs o.end wf r o.legal role.0 halt.present in
          let base : IsSessionOfRun ms b actors limit record { machines = ms; capacity = closed.capacity; last = view } (outcome.Stopped role) (map (λ (x : Player A). x.actor) xs) = record {
            same_machines = refl;
            end = o.end;
            legal = o.legal;
            bounded = few_acts limit actors view (end.Stopped role) xs o.end wf r o.legal;
            played = have_played limit actors view (end.Stopped role) xs o.end wf r o.legal;
            comes_to = record { present = halt.present; acts = omega (arith, least, most); goes_on = halt.goes_on };
          } in
          subst (λ (z : Outcome × List A). IsSessionOfRun ms b actors limit record { machines = ms; capacity = closed.capacity; last = view } z.0 z.1) (λ i. (sym shows.0 i, sym shows.1 i)) base
