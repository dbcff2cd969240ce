-- What was played is the plain run that is drawn.
use Rattle.std.proofs.Common.{◌≡◌, ◌⊎◌, inl, inr, ℕ, ◌<◌, List, Option, Some, None, Result, Ok, Err, map, slice_get, length, sym, ap, subst, ◌∙◌, arith}
use Rattle.std.specs.Prelude.{IfOk}
use Rattle.std.specs.Option.{option_map}
use Rattle.std.proofs.lemmas.List.{length-map}
use Rattle.std.proofs.lemmas.Option.{slice_get-map}
use Rattle.rs_model.specs.Data.{Machine_data, Names_data}
use Rattle.rs_model.specs.declared.memory.NoMemory.{NoMemory}
use Rattle.rs_model.specs.declared.runs.RunOptions.{RunOptions}
use Rattle.rs_core.specs.Actors.{Choice}
use Rattle.rs_core.specs.Core.{Core_data}
use Rattle.rs_core.specs.Draws.{by_draws}
use Rattle.rs_core.specs.Histories.{History}
use Rattle.rs_core.specs.Plain.{Ending, Ended, Stopped, Stuck}
use Rattle.rs_core.specs.Runs.{ArePlayers, EndShows, HasPlayed, HasTranscripts, IsGiven, last_moment}
use Rattle.rs_core.specs.declared.players.Player.{Player}
use Rattle.rs_core.specs.declared.playing.End.{End}
use Rattle.rs_core.specs.declared.playing.End.TheVariants as end
use Rattle.rs_core.specs.declared.transcripts.Entry.{Entry}
use Rattle.rs_core.proofs.Ends.{get_there}
use Rattle.rs_core.proofs.Shown.{shown_players}
use Rattle.rs_safety.specs.Room.{room_of}
use Rattle.rs_documents.specs.Data.{Document_data}
use Rattle.rs_answers.specs.Accepting.{IsAcceptedDocument, IsRefusedDocument}
use Rattle.rs_answers.specs.Data.{Answer_data}
use Rattle.rs_answers.specs.Refusals.{HasNoDerivations, refusal_answer}
use Rattle.rs_answers.specs.declared.accepting.AcceptedDocument.{AcceptedDocument}
use Rattle.rs_answers.specs.declared.accepting.RefusedDocument.{RefusedDocument}
use Rattle.rs_answers.specs.declared.refusals.Refusal.TheVariants as refusal
use Rattle.rs_runs.specs.Runs.{actor_of, capacity_of}
use Rattle.rs_runs.proofs.Leading.{told_refusal}
use Rattle.rs_run_pictures.specs.Draws.{DrawsPlain, DrawsRun, EndIs, IsDrawn, IsRefused, verdict_of}
use Rattle.rs_run_pictures.specs.Lines.{run_picture}

-- the players' transcripts are those of the roles
has_transcripts : (roles : ℕ) (h : ℕ → History) (f : ℕ → ℕ) (o : ℕ → Option Choice) (xs : List (Player ℕ)) → ArePlayers roles h f o xs
    → HasTranscripts roles h (map (λ (z : Player ℕ). z.transcript) xs)
has_transcripts roles h f o xs s = record {
  many = length-map xs (λ (z : Player ℕ). z.transcript) ∙ s.many;
  each = λ p hp.
      let n = s.many in
      let x = get_there xs p (omega arith) in
      slice_get-map (λ (z : Player ℕ). z.transcript) xs p ∙ ap (λ (z : Option (Player ℕ)). option_map (λ (w : Player ℕ). w.transcript) z) x.1
      ∙ ap (λ (z : List Entry). Some z) (sym (s.transcript p x.0 x.1));
}

-- the end of the rounds is that of the plain run
end_is : (ms : List Machine_data) (capacity : ℕ) (o : Ending ℕ) (e : End) (xs : List (Player ℕ)) → EndShows ms (Some capacity) o e xs → EndIs ms capacity o e
end_is ms capacity (Ended k) end.Ended xs s = tt
end_is ms capacity (Ended k) (end.Stopped role) xs s = absurd (s)
end_is ms capacity (Ended k) (end.Full sender receiver) xs s = absurd (s)
end_is ms capacity (Stopped p k) end.Ended xs s = absurd (s)
end_is ms capacity (Stopped p k) (end.Stopped role) xs s = s.0
end_is ms capacity (Stopped p k) (end.Full sender receiver) xs s = absurd (s)
end_is ms capacity (Stuck k) end.Ended xs s = absurd (s)
end_is ms capacity (Stuck k) (end.Stopped role) xs s = absurd (s)
end_is ms capacity (Stuck k) (end.Full sender receiver) xs s = s.0

-- what was played is drawn as the plain run
pub drawn_plain : (names : Names_data) (ms : List Machine_data) (limit capacity : ℕ) (actors : List ℕ) (c : Core_data) (e : End) (xs : List (Player ℕ)) (text : List ℕ)
    → HasPlayed by_draws ms limit (Some capacity) actors c e xs → text ≡ run_picture names ms capacity (map (λ (z : Player ℕ). z.transcript) xs) e
    → (given : ℕ → ℕ) → IsGiven given actors → DrawsPlain names ms given limit capacity (record { text = text; verdict = verdict_of e })
drawn_plain names ms limit capacity actors c e xs text h is given here =
    let s = h.plain given here in
    record {
      ending = s.outcome;
      plain = s.plain;
      last = e;
      ends = end_is ms capacity s.outcome e xs s.shows;
      transcripts = map (λ (z : Player ℕ). z.transcript) xs;
      has = has_transcripts (length ms) (last_moment s.outcome).history (last_moment s.outcome).actor (last_moment s.outcome).kept xs (shown_players by_draws ms (Some capacity) s.outcome e xs s.shows);
      drawn = ap (λ z. record { text = z; verdict = verdict_of e }) is;
    }

-- a refused document has the answer that its reason has
pub drawn_refusal : (options : RunOptions) (d : Document_data) (x : RefusedDocument) (r : Result Answer_data NoMemory) → IsRefusedDocument options.bound d x
    → IfOk r (λ a. a ≡ refusal_answer x.names x.refusal) → IfOk r (λ a. x.refusal ≡ refusal.NoMemory → ⊥) → IfOk r (DrawsRun options d)
drawn_refusal options d x (Err e) is told never = tt
drawn_refusal options d x (Ok a) is told never = let h = told_refusal options.bound d x (Ok a) is told never in IsRefused x.refusal h.0 h.1

-- an accepted document is drawn
pub drawn_session : (options : RunOptions) (d : Document_data) (x : AcceptedDocument) (capacity : ℕ) (actors : List ℕ) (r : Result Answer_data NoMemory) → IsAcceptedDocument options.bound d x
    → capacity ≡ capacity_of options.ring (room_of x.session.derivations) → IsGiven (actor_of options.seed) actors
    → IfOk r (λ a. (given : ℕ → ℕ) → IsGiven given actors → DrawsPlain x.names x.session.machines given options.limit capacity a) → IfOk r (DrawsRun options d)
drawn_session options d x capacity actors (Err e) is same given drawn = tt
drawn_session options d x capacity actors (Ok a) is same given drawn =
    IsDrawn x.session.projections x.session.machines x.session.derivations is.has is.canonical
    (subst (λ (n : ℕ). DrawsPlain d.names x.session.machines (actor_of options.seed) options.limit n a) same
    (subst (λ (names : Names_data). DrawsPlain names x.session.machines (actor_of options.seed) options.limit capacity a) is.names (drawn (actor_of options.seed) given)))
