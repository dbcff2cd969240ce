-- All acts of a run are drawn, those of each role in order.
use Rattle.std.proofs.Common.{◌≡◌, ℕ, zero, suc, ◌+◌, ◌<◌, ◌≤◌, List, [], ◌∷◌, ◌++◌, length, map, replicate, Some, slice_get, slice_index_or, refl, sym, ap, ◌∙◌, subst, arith}
use Rattle.std.proofs.lemmas.List.{append-nil, get_or-replicate, length-replicate}
use Rattle.rs_model.specs.Data.{Machine_data}
use Rattle.rs_model.specs.declared.machines.Act.{Act}
use Rattle.rs_core.specs.Choices.{AreWellFormed}
use Rattle.rs_core.specs.Draws.{by_draws}
use Rattle.rs_core.specs.Histories.{Action, Sent, Got, History, entry_of, transcript_of}
use Rattle.rs_core.specs.Plain.{Moment, Ending, IsPlain, StartsWith}
use Rattle.rs_core.specs.Runs.{HasTranscripts, last_moment}
use Rattle.rs_core.specs.declared.transcripts.Entry.{Entry}
use Rattle.rs_core.proofs.Ends.{get_there}
use Rattle.rs_core.proofs.Idle.{total}
use Rattle.rs_core.proofs.Stories.{Histories}
use Rattle.rs_run_pictures.specs.Acts.{acts_from, acts_of, arm_of_entry, state_after}
use Rattle.rs_run_pictures.specs.Rounds.{Scene_data, acts_by, acts_in_rounds, first_scene, rounds, rounds_for}
use Rattle.rs_run_pictures.proofs.Following.{AreActs, Follows, run_finishes}
use Rattle.rs_run_pictures.proofs.TurnsMade.{added, all_of, left_of, rounds_in_all, rounds_keep}

-- ---- the acts of transcripts

acts_many : (ms : List Machine_data) (ts : List (List Entry)) → length ms ≡ length ts → length (acts_of ms ts) ≡ length ms
acts_many [] ts e = refl
acts_many (m ∷ ms) [] e = absurd (omega (arith, e))
acts_many (m ∷ ms) (t ∷ ts) e = ap suc (acts_many ms ts (omega (arith, e)))

some_is : {A : Type 0} (x y : A) → Some x ≡ Some y → x ≡ y
some_is x y e = cc

acts_at : (ms : List Machine_data) (ts : List (List Entry)) (p : ℕ) (m : Machine_data) (t : List Entry) → slice_get ms p ≡ Some m → slice_get ts p ≡ Some t
    → slice_index_or (acts_of ms ts) p [] ≡ acts_from m m.start t
acts_at [] ts p m t e f = absurd (cc e)
acts_at (n ∷ ms) [] p m t e f = absurd (cc f)
acts_at (n ∷ ms) (u ∷ ts) zero m t e f = ap (λ (z : Machine_data). acts_from z z.start u) (some_is n m e) ∙ ap (λ z. acts_from m m.start z) (some_is u t f)
acts_at (n ∷ ms) (u ∷ ts) (suc p) m t e f = acts_at ms ts p m t e f

are_acts : (m : Machine_data) (s : ℕ) (h : History) → AreActs h (acts_from m s (transcript_of h))
are_acts m s [] = tt
are_acts m s (Sent q l v ∷ h) = (refl, are_acts m (state_after s (arm_of_entry m s (entry_of (Sent q l v)))) h)
are_acts m s (Got q l v ∷ h) = (refl, are_acts m (state_after s (arm_of_entry m s (entry_of (Got q l v)))) h)

as_many : (h : History) (acts : List Act) → AreActs h acts → length h ≡ length acts
as_many [] [] e = refl
as_many [] (a ∷ acts) e = absurd e
as_many (x ∷ h) [] e = absurd e
as_many (x ∷ h) (a ∷ acts) e = ap suc (as_many h acts e.1)

-- ---- how many there are

total_front : (n : ℕ) (h : Histories) → total (suc n) h ≡ length (h 0) + total n (λ r. h (suc r))
total_front zero h = refl
total_front (suc n) h = (let e = total_front n h in omega (arith, e))

total_within : (acts : List (List Act)) (h : Histories) → ((p : ℕ) → p < length acts → length (h p) ≤ length (slice_index_or acts p [])) → total (length acts) h ≤ added (map (λ list. length list) acts)
total_within [] h less = omega arith
total_within (a ∷ acts) h less =
    let first = less 0 (omega arith) in
    let ih = total_within acts (λ r. h (suc r)) (λ p low. less (suc p) (omega (arith, low))) in
    let e = total_front (length acts) h in
    omega (arith, first, ih, e)

-- ---- the first scene

module _ (ms : List Machine_data) (whole : ℕ → History) (transcripts : List (List Entry)) (has : HasTranscripts (length ms) whole transcripts) where
  acts_are : (p : ℕ) → p < length ms → AreActs (whole p) (slice_index_or (acts_of ms transcripts) p [])
  acts_are p low =
      let m = get_there ms p low in
      subst (λ (z : List Act). AreActs (whole p) z) (sym (acts_at ms transcripts p m.0 (transcript_of (whole p)) m.1 (has.each p low))) (are_acts m.0 m.0.start (whole p))

  many : length (acts_of ms transcripts) ≡ length ms
  many = acts_many ms transcripts (sym has.many)

  first_follows : (actors : ℕ → ℕ) (l : Moment ℕ) → StartsWith ms actors l → Follows (length ms) whole l (first_scene (acts_of ms transcripts))
  first_follows actors l starts =
      let n = length (acts_of ms transcripts) in
      record {
        places = record {
          roles = many;
          rows = length-replicate n (replicate n 0) ∙ many;
          columns = λ p low. ap length (get_or-replicate n p (replicate n 0) [] (let e = many in omega (arith, low, e))) ∙ length-replicate n 0 ∙ many;
        };
        left = λ p low. record { rest = whole p; is = sym (ap (λ z. z ++ whole p) (starts.history p)); acts_are = acts_are p low };
        waiting = λ p q lp lq.
            ap (λ (row : List ℕ). slice_index_or row q 0) (get_or-replicate n p (replicate n 0) [] (let e = many in omega (arith, lp, e)))
            ∙ get_or-replicate n q 0 0 (let e = many in omega (arith, lq, e)) ∙ ap length (sym (starts.at.queues p q));
      }

  enough : (h : Histories) → total (length ms) whole ≤ added (map (λ list. length list) (acts_of ms transcripts)) + total (length ms) h
  enough h =
      let most = total_within (acts_of ms transcripts) whole (λ p low.
      (let same = as_many (whole p) (slice_index_or (acts_of ms transcripts) p []) (acts_are p (let e = many in omega (arith, low, e))) in omega (arith, same))) in
      let e = ap (λ (n : ℕ). total n whole) many in
      omega (arith, most, e)

-- the acts that are drawn of a role are those of its transcript
pub all_drawn : (ms : List Machine_data) (actors : ℕ → ℕ) (limit capacity : ℕ) (o : Ending ℕ) (transcripts : List (List Entry)) (p : ℕ) (m : Machine_data) (t : List Entry) → AreWellFormed ms
    → IsPlain ms by_draws actors limit (Some capacity) o → HasTranscripts (length ms) (last_moment o).history transcripts → slice_get ms p ≡ Some m → slice_get transcripts p ≡ Some t
    → acts_by p (acts_in_rounds capacity (acts_of ms transcripts)) ≡ acts_from m m.start t
all_drawn ms actors limit capacity o transcripts p m t wf plain has here there =
    let whole = (last_moment o).history in
    let acts = acts_of ms transcripts in
    let counts = map (λ list. length list) acts in
    let s = first_scene acts in
    let last = rounds capacity (added counts) s in
    let finished = run_finishes by_draws ms capacity whole wf limit plain.first o (added counts) s plain.run (λ r. refl) (enough ms whole transcripts has plain.first.history)
    (first_follows ms whole transcripts has actors plain.first plain.starts) in
    ap (λ (z : Scene_data). acts_by p z.drawn) (rounds_in_all capacity counts s)
    ∙ sym (append-nil (acts_by p last.drawn))
    ∙ ap (λ z. acts_by p last.drawn ++ z) (sym (finished p))
    ∙ rounds_keep capacity (added counts) s p
    ∙ acts_at ms transcripts p m t here there
