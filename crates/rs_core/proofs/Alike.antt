-- Who has done the same acts, but for the values that were sent, over queues that hold the same, has sent the same values.
use Rattle.std.proofs.Common.{◌≡◌, ◌≢◌, inl, inr, ℕ, ◌<◌, true, false, List, [], ◌∷◌, ◌++◌, Option, Some, length, refl, sym, ap, ap₂, ◌∙◌, subst, if◌then◌else◌, ◌==◌}
use Rattle.std.proofs.lemmas.Bool.Decides.{eqb_tells}
use Rattle.rs_model.specs.Data.{Machine_data}
use Rattle.rs_model.specs.WellFormed.{IsWellFormedMachine}
use Rattle.rs_model.specs.declared.graph.Label.{Label}
use Rattle.rs_model.specs.declared.graph.Role.{Role}
use Rattle.rs_model.specs.declared.machines.State.TheVariants.{Done}
use Rattle.rs_model.specs.declared.values.Value.{Value}
use Rattle.rs_core.specs.Actors.{Behaviour, PlaysFrom}
use Rattle.rs_core.specs.Choices.{AreWellFormed}
use Rattle.rs_core.specs.Configurations.{Message, Configuration, state_at}
use Rattle.rs_core.specs.Histories.{Sent, Got, History, transcript_of}
use Rattle.rs_core.specs.Plain.{Moment, Ending, Ended, Stopped, Stuck, IsAtLimit, PlainFrom, AllDone, Stops, NoneMoves, GoesOn, IsPlain}
use Rattle.rs_core.specs.Runs.{last_moment}
use Rattle.rs_core.specs.declared.transcripts.Entry.{Entry}
use Rattle.rs_core.specs.declared.transcripts.Entry.TheVariants as entry
use Rattle.rs_core.proofs.Compared.{told_fifo}
use Rattle.rs_core.proofs.Ends.{get_there, sound_round}
use Rattle.rs_core.proofs.Fifo.{gots, gots_append, gots_none, gots_one, message, sents, sents_append, sents_none, sents_one}
use Rattle.rs_core.proofs.Rounds.{Sound, sound_start}
use Rattle.rs_core.proofs.Stories.{Histories, Told}

-- each send is to another role of so many
abbrev pub SendsAmong : ℕ → ℕ → History → Type 0
SendsAmong roles p [] = Unit {0}
SendsAmong roles p (Sent r l v ∷ h) = (r.0 < roles) × (r.0 ≢ p) × SendsAmong roles p h
SendsAmong roles p (Got r l v ∷ h) = SendsAmong roles p h

-- what a transcript takes from q
abbrev gots_in : ℕ → List Entry → List Message
gots_in q [] = []
gots_in q (entry.Sent r l ∷ t) = gots_in q t
gots_in q (entry.Got r l v ∷ t) = if r.0 == q then message l v ∷ gots_in q t else gots_in q t

gots_told : (q : ℕ) (h : History) → gots q h ≡ gots_in q (transcript_of h)
gots_told q [] = refl
gots_told q (Sent r l v ∷ h) = gots_told q h
gots_told q (Got r l v ∷ h) = elim (eqb_tells r.0 q) [
  | inl t ↦ rw t.0 (ap (λ (z : List Message). message l v ∷ z) (gots_told q h))
  | inr t ↦ rw t.0 (gots_told q h)
]

gots_alike : (q : ℕ) (h k : History) → transcript_of h ≡ transcript_of k → gots q h ≡ gots q k
gots_alike q h k e = gots_told q h ∙ ap (λ (t : List Entry). gots_in q t) e ∙ sym (gots_told q k)

pub sents_first : (q : ℕ) (r : Role) (l : Label) (v : Value) (h : History) → r.0 ≡ q → sents q (Sent r l v ∷ h) ≡ message l v ∷ sents q h
sents_first q r l v h e = sents_append q (Sent r l v ∷ []) h ∙ ap (λ (z : List Message). z ++ sents q h) (sents_one q r l v e)

pub sents_later : (q : ℕ) (r : Role) (l : Label) (v : Value) (h : History) → r.0 ≢ q → sents q (Sent r l v ∷ h) ≡ sents q h
sents_later q r l v h ne = sents_append q (Sent r l v ∷ []) h ∙ ap (λ (z : List Message). z ++ sents q h) (sents_none q r l v ne)

pub gots_first : (q : ℕ) (r : Role) (l : Label) (v : Value) (h : History) → r.0 ≡ q → gots q (Got r l v ∷ h) ≡ message l v ∷ gots q h
gots_first q r l v h e = gots_append q (Got r l v ∷ []) h ∙ ap (λ (z : List Message). z ++ gots q h) (gots_one q r l v e)

pub gots_later : (q : ℕ) (r : Role) (l : Label) (v : Value) (h : History) → r.0 ≢ q → gots q (Got r l v ∷ h) ≡ gots q h
gots_later q r l v h ne = gots_append q (Got r l v ∷ []) h ∙ ap (λ (z : List Message). z ++ gots q h) (gots_none q r l v ne)

-- the same transcript, and the same messages to each other role
alike : (roles p : ℕ) (h k : History) → SendsAmong roles p k → transcript_of h ≡ transcript_of k → ((q : ℕ) → q < roles → q ≢ p → sents q h ≡ sents q k) → h ≡ k
alike roles p [] [] among e same = refl
alike roles p [] (Sent r l v ∷ k) among e same = absurd (cc (e))
alike roles p [] (Got r l v ∷ k) among e same = absurd (cc (e))
alike roles p (Sent r l v ∷ h) [] among e same = absurd (cc (e))
alike roles p (Got r l v ∷ h) [] among e same = absurd (cc (e))
alike roles p (Sent r l v ∷ h) (Got r' l' v' ∷ k) among e same = absurd (cc (e))
alike roles p (Got r l v ∷ h) (Sent r' l' v' ∷ k) among e same = absurd (cc (e))
alike roles p (Got r l v ∷ h) (Got r' l' v' ∷ k) among e same =
    let first : entry.Got r l v ≡ entry.Got r' l' v' = cc (e) in
    let rest : transcript_of h ≡ transcript_of k = cc (e) in
    let er : r ≡ r' = cc (first) in
    let el : l ≡ l' = cc (first) in
    let ev : v ≡ v' = cc (first) in
    let ih = alike roles p h k among rest same in
    λ i. Got (er i) (el i) (ev i) ∷ ih i
alike roles p (Sent r l v ∷ h) (Sent r' l' v' ∷ k) among e same =
    let first : entry.Sent r l ≡ entry.Sent r' l' = cc (e) in
    let rest : transcript_of h ≡ transcript_of k = cc (e) in
    let er : r ≡ r' = cc (first) in
    let el : l ≡ l' = cc (first) in
    let to : r.0 ≡ r'.0 = ap (λ (z : Role). z.0) er in
    let both : message l v ∷ sents r'.0 h ≡ message l' v' ∷ sents r'.0 k = sym (sents_first r'.0 r l v h to) ∙ same r'.0 among.0 among.1 ∙ sents_first r'.0 r' l' v' k refl in
    let one : message l v ≡ message l' v' = cc (both) in
    let ev : v ≡ v' = ap (λ (m : Message). m.value) one in
    let later : sents r'.0 h ≡ sents r'.0 k = cc (both) in
    let ih = alike roles p h k among.2 rest (λ q low ne. elim (eqb_tells r'.0 q) [
      | inl t ↦ subst (λ (z : ℕ). sents z h ≡ sents z k) t.1 later
      | inr t ↦ sym (sents_later q r l v h (λ z. t.1 (sym to ∙ z))) ∙ same q low ne ∙ sents_later q r' l' v' k t.1
    ]) in
    λ i. Sent (er i) (el i) (ev i) ∷ ih i

number_of : {r q : Role} → r.0 ≡ q.0 → r ≡ q
number_of e i = record { 0 = e i }

module _ {A : Type 0} (b : Behaviour A) where
  -- a well-formed machine sends to other roles
  plays_among : (m : Machine_data) (roles p s : ℕ) (x : A) (h : History) (t : ℕ) (y : A) → IsWellFormedMachine m roles → m.role.0 ≡ p → PlaysFrom b m s x h t y → SendsAmong roles p h
  plays_among m roles p s x [] t y wf own plays = tt
  plays_among m roles p s x (Sent r l v ∷ h) t y wf own plays =
      let fits = wf.puts s r plays.2.arms plays.2.puts in
      (fits.known, (λ e. fits.other (number_of (e ∙ sym own))), plays_among m roles p plays.0 plays.1 h t y wf own plays.3)
  plays_among m roles p s x (Got r l v ∷ h) t y wf own plays = plays_among m roles p plays.0 plays.1 h t y wf own plays.3

  -- the last moment of a plain run is sound
  sound_last : (ms : List Machine_data) (given : ℕ → A) (limit : ℕ) (room : Option ℕ) (l : Moment A) (o : Ending A) → PlainFrom ms b limit room l o → Sound b ms given limit l
      → Sound b ms given limit (last_moment o)
  sound_last ms given limit room _ _ (AllDone l all) s = s
  sound_last ms given limit room _ _ (Stops p l k moved low ts at) s = sound_round b ms given limit room p l k moved s ts
  sound_last ms given limit room _ _ (NoneMoves p l k low ne ts) s = sound_round b ms given limit room (length ms) l k false s ts
  sound_last ms given limit room _ _ (GoesOn l m o ts run) s = sound_last ms given limit room m o run (sound_round b ms given limit room (length ms) l m true s ts)

  pub sound_plain : (ms : List Machine_data) (given : ℕ → A) (limit : ℕ) (room : Option ℕ) (o : Ending A) → IsPlain ms b given limit room o → Sound b ms given limit (last_moment o)
  sound_plain ms given limit room o plain = sound_last ms given limit room plain.first o plain.run (sound_start b ms given limit plain.first plain.starts)

  -- what is so where a run ends: all have ended, or the role is at its limit
  abbrev pub EndHolds : List Machine_data → ℕ → Ending A → Type 0
  EndHolds ms limit (Ended k) = (p : ℕ) → p < length ms → state_at ms k.at p ≡ Some Done
  EndHolds ms limit (Stopped p k) = (p < length ms) × IsAtLimit ms limit p k
  EndHolds ms limit (Stuck k) = Unit {0}

  pub end_holds : (ms : List Machine_data) (limit : ℕ) (room : Option ℕ) (l : Moment A) (o : Ending A) → PlainFrom ms b limit room l o → EndHolds ms limit o
  end_holds ms limit room _ _ (AllDone l all) = all
  end_holds ms limit room _ _ (Stops p l k moved low ts at) = (low, at)
  end_holds ms limit room _ _ (NoneMoves p l k low ne ts) = tt
  end_holds ms limit room _ _ (GoesOn l m o ts run) = end_holds ms limit room m o run

  -- histories with the transcripts and the queues of a sound moment are its histories
  pub same_histories : (ms : List Machine_data) (given : ℕ → A) (limit : ℕ) (k : Moment A) (h : Histories) (c : Configuration) → AreWellFormed ms → Sound b ms given limit k → Told ms h c
      → ((p : ℕ) → p < length ms → transcript_of (h p) ≡ transcript_of (k.history p)) → ((p q : ℕ) → p < length ms → q < length ms → p ≢ q → c.queue p q ≡ k.at.queue p q)
      → (p : ℕ) → p < length ms → h p ≡ k.history p
  same_histories ms given limit k h c wf sound told transcripts queues p low =
      let m = get_there ms p low in
      let going = sound.going p m.0 m.1 in
      alike (length ms) p (h p) (k.history p) (plays_among m.0 (length ms) p m.0.start (given p) (k.history p) (k.at.at p) going.before (wf.fits p m.0 m.1) (wf.role p m.0 m.1) going.plays)
      (transcripts p low)
      (λ q there ne. sym (told_fifo b ms h c told p q (λ e. ne (sym e)))
      ∙ ap₂ (λ (z w : List Message). z ++ w) (gots_alike p (h q) (k.history q) (transcripts q there)) (queues p q low there (λ e. ne (sym e)))
      ∙ told_fifo b ms k.history k.at sound.told p q (λ e. ne (sym e)))
