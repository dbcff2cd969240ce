-- Where no role below the limit can go on, every history within the limit is a beginning of what was done.
use Rattle.std.proofs.Common.{◌≡◌, inl, inr, ℕ, ◌+◌, ◌<◌, ◌≤◌, List, [], ◌∷◌, ◌++◌, Some, slice_get, length, refl, sym, ap, ◌∙◌, subst, subst₂, arith, append-nil, append_assoc, length-append}
use Rattle.std.proofs.lemmas.Bool.Decides.{eqb_tells}
use Rattle.std.proofs.lemmas.List.{append_cancel_left}
use Rattle.rs_model.specs.Data.{Machine_data}
use Rattle.rs_model.specs.declared.machines.State.{State}
use Rattle.rs_model.specs.declared.machines.State.TheVariants.{Puts, Takes}
use Rattle.rs_core.specs.Configurations.{Message, Configuration, Event, Send, Receive, Step, state_at, role_of}
use Rattle.rs_core.specs.Safety.{CanMove, MaySend, MayReceive}
use Rattle.rs_core.specs.Choices.{AreWellFormed}
use Rattle.rs_core.specs.Histories.{Action, History, action_of}
use Rattle.rs_core.specs.Actors.{Behaviour, PlaysFrom}
use Rattle.rs_core.proofs.Stands.{machine_at, peered}
use Rattle.rs_core.proofs.Stories.{Histories, Story, Told, no_histories, story_grows}
use Rattle.rs_core.proofs.Fifo.{sents, gots, sents_append, Fifo, fifo_step, fifo_start, Comparable, same_place}
use Rattle.rs_core.proofs.Played.{plays_same}
use Rattle.rs_core.proofs.Compared.{mover, AllPlay, told_fifo, compare, AtHere, at_step, at_start, told_at}

-- a machine's state is the role's state
pub state_of : (ms : List Machine_data) (c : Configuration) (p : ℕ) (m : Machine_data) (st : State) → slice_get ms p ≡ Some m
    → slice_get m.states (c.at p) ≡ Some st → state_at ms c p ≡ Some st
state_of ms c p m st is h = rw is h

-- h of role r is a beginning of ks
abbrev pub Begins : Histories → Histories → ℕ → Type 0
Begins h ks p = (zs : History) × (ks p ≡ h p ++ zs)

module _ {A : Type 0} (b : Behaviour A) where
  -- what is fixed on the way
  record Fixed (ms : List Machine_data) (actors : ℕ → A) (limit : ℕ) (hs ks : Histories) (d : Configuration) : Type 0 where
    wf : AreWellFormed ms
    play : AllPlay b ms actors hs
    fifo : Fifo d ks
    at : AtHere b ms actors d ks
    compared : (p : ℕ) → p < length ms → Comparable (hs p) (ks p)
    still : (p : ℕ) → p < length ms → length (ks p) < limit → CanMove ms d p → ⊥
    bounded : (p : ℕ) → p < length ms → length (hs p) ≤ limit

  -- where ks has no more of r than h, d and c have one state of r
  state_same : (ms : List Machine_data) (actors : ℕ → A) (c d : Configuration) (h ks : Histories) (r : ℕ) (m : Machine_data) → AreWellFormed ms
      → AtHere b ms actors d ks → AtHere b ms actors c h → slice_get ms r ≡ Some m → ks r ≡ h r → d.at r ≡ c.at r
  state_same ms actors c d h ks r m wf atd atc is eq =
      let a = atd r m is in
      let o = atc r m is in
      let P : History → Type 0 = λ w. PlaysFrom b m m.start (actors r) w (d.at r) a.0 in
      (plays_same b m (length ms) m.start (actors r) (h r) (d.at r) (c.at r) a.0 o.0 (wf.fits r m is) (subst P eq a.1) o.1).0

  -- where ks has no more of the event's role than h, that role can go on in d
  moves : (ms : List Machine_data) (actors : ℕ → A) (limit : ℕ) (hs ks : Histories) (c d : Configuration) (e : Event) (n : Configuration) (h : Histories) → Fixed ms actors limit hs ks d
      → Fifo c h → AtHere b ms actors c h → ((p : ℕ) → p < length ms → Begins h ks p) → (step : Step ms c e n) → ks (role_of e) ≡ h (role_of e)
      → CanMove ms d (role_of e)
  moves ms actors limit hs ks c d (Send r place v) n h f fc atc pre step eq =
      let m = mover ms c (Send r place v) n step in
      let st = machine_at ms c r.0 (Puts step.peer step.arms) m.0 step.puts m.1 in
      MaySend step.peer step.arms (state_of ms d r.0 m.0 (Puts step.peer step.arms) m.1 (rw (state_same ms actors c d h ks r.0 m.0 f.wf f.at atc m.1 eq) st))
  moves ms actors limit hs ks c d (Receive r) n h f fc atc pre step eq =
      let m = mover ms c (Receive r) n step in
      let q : ℕ = step.peer.0 in
      let st = machine_at ms c r.0 (Takes step.peer step.arms) m.0 step.takes m.1 in
      let peer = (peered ms f.wf).takes r.0 m.0 (c.at r.0) step.peer step.arms m.1 st in
      let pq = pre step.peer.0 peer.0 in
      let f0 : gots step.peer.0 (h r.0) ++ c.queue step.peer.0 r.0 ≡ sents r.0 (h step.peer.0) = fc step.peer.0 r.0 peer.1 in
      let f1 : gots step.peer.0 (ks r.0) ++ d.queue step.peer.0 r.0 ≡ sents r.0 (ks step.peer.0) = f.fifo step.peer.0 r.0 peer.1 in
      let e1 : sents r.0 (ks step.peer.0) ≡ sents r.0 (h step.peer.0) ++ sents r.0 pq.0 = ap (λ (z : History). sents r.0 z) pq.1 ∙ sents_append r.0 (h step.peer.0) pq.0 in
      let e2 : gots step.peer.0 (h r.0) ++ d.queue step.peer.0 r.0 ≡ gots step.peer.0 (h r.0) ++ (c.queue step.peer.0 r.0 ++ sents r.0 pq.0) =
      ap (λ (z : History). gots step.peer.0 z ++ d.queue step.peer.0 r.0) (sym eq) ∙ f1 ∙ e1 ∙ ap (λ (z : List Message). z ++ sents r.0 pq.0) (sym f0)
      ∙ append_assoc (gots step.peer.0 (h r.0)) (c.queue step.peer.0 r.0) (sents r.0 pq.0) in
      let e3 : d.queue step.peer.0 r.0 ≡ c.queue step.peer.0 r.0 ++ sents r.0 pq.0 =
      append_cancel_left (gots step.peer.0 (h r.0)) (d.queue step.peer.0 r.0) (c.queue step.peer.0 r.0 ++ sents r.0 pq.0) e2 in
      let e4 : d.queue step.peer.0 r.0 ≡ step.message ∷ (n.queue step.peer.0 r.0 ++ sents r.0 pq.0) = e3 ∙ ap (λ (z : List Message). z ++ sents r.0 pq.0) step.removes in
      MayReceive step.peer step.arms step.message (n.queue step.peer.0 r.0 ++ sents r.0 pq.0)
      (state_of ms d r.0 m.0 (Takes step.peer step.arms) m.1 (rw (state_same ms actors c d h ks r.0 m.0 f.wf f.at atc m.1 eq) st)) e4

  greatest_from : (ms : List Machine_data) (actors : ℕ → A) (limit : ℕ) (hs ks : Histories) (c c1 d : Configuration) (es : List Event) (h : Histories) → Fixed ms actors limit hs ks d
      → Story ms c h es c1 hs → Fifo c h → AtHere b ms actors c h → ((p : ℕ) → p < length ms → Begins h ks p)
      → (p : ℕ) → p < length ms → Begins hs ks p
  greatest_from ms actors limit hs ks c c1 d [] h f s fc atc pre p hp = let P : History → Type 0 = λ w. (zs : History) × (ks p ≡ w ++ zs) in subst P (sym (s.1 p)) (pre p hp)
  greatest_from ms actors limit hs ks c c1 d (e ∷ es) h f s fc atc pre p hp =
      greatest_from ms actors limit hs ks s.0 c1 d es s.1 f s.3 (fifo_step ms c s.0 e h s.1 s.2 fc)
      (at_step b ms actors c s.0 e h s.1 hs f.wf f.play s.2 grows atc) after p hp
    where
      r : ℕ
      r = role_of e

      x : Action
      x = action_of ms c e s.0 s.2.0

      grows : (p : ℕ) → (more : History) × (hs p ≡ s.1 p ++ more)
      grows = story_grows ms s.0 c1 es s.1 hs s.3

      -- the action x of r stands in ks too, since r could still go on in d
      longer : role_of e < length ms → (zs : History) → ks (role_of e) ≡ h (role_of e) ++ zs → Begins s.1 ks (role_of e)
      longer hr [] eq =
          let g = grows (role_of e) in
          let fw = f.bounded (role_of e) hr in
          let eq' : ks (role_of e) ≡ h (role_of e) = eq ∙ append-nil (h (role_of e)) in
          let l1 : length (hs (role_of e)) ≡ length (h (role_of e) ++ (action_of ms c e s.0 s.2.0 ∷ [])) + length g.0 =
          ap length (g.1 ∙ ap (λ (z : History). z ++ g.0) s.2.1) ∙ length-append (h (role_of e) ++ (action_of ms c e s.0 s.2.0 ∷ [])) g.0 in
          let l2 : length (ks (role_of e)) ≡ length (h (role_of e)) = ap length eq' in
          absurd (f.still (role_of e) hr (omega (arith, length-append (h (role_of e)) (action_of ms c e s.0 s.2.0 ∷ []))) (moves ms actors limit hs ks c d e s.0 h f fc atc pre s.2.0 eq'))
      longer hr (y ∷ zs) eq =
          let g = grows (role_of e) in
          let hs' : hs (role_of e) ≡ h (role_of e) ++ (action_of ms c e s.0 s.2.0 ∷ g.0) = g.1 ∙ ap (λ (z : History). z ++ g.0) s.2.1
          ∙ append_assoc (h (role_of e)) (action_of ms c e s.0 s.2.0 ∷ []) g.0 in
          let S : History → History → Type 0 = λ u w. Comparable u w in
          let same : action_of ms c e s.0 s.2.0 ≡ y = same_place (h (role_of e)) (action_of ms c e s.0 s.2.0) y g.0 zs (subst₂ S hs' eq (f.compared (role_of e) hr)) in
          (zs, eq ∙ ap (λ (z : Action). h (role_of e) ++ (z ∷ zs)) (sym same) ∙ sym (append_assoc (h (role_of e)) (action_of ms c e s.0 s.2.0 ∷ []) zs) ∙ ap (λ (z : History). z ++ zs) (sym s.2.1))

      after : (q : ℕ) → q < length ms → Begins s.1 ks q
      after q hq = elim (eqb_tells q (role_of e)) [
        | inr u ↦ (let P : History → Type 0 = λ w. (zs : History) × (ks q ≡ w ++ zs) in subst P (sym (s.2.2 q u.1)) (pre q hq))
        | inl u ↦ (let who = mover ms c e s.0 s.2.0 in
            let pr = pre (role_of e) who.2 in
            let P : ℕ → Type 0 = λ z. Begins s.1 ks z in subst P (sym u.1) (longer who.2 pr.0 pr.1))
      ]

  -- a run in which no role below the limit can go on has the greatest histories
  pub greatest : (ms : List Machine_data) (actors : ℕ → A) (limit : ℕ) (hs ks : Histories) (c d : Configuration) → AreWellFormed ms → Told ms hs c → Told ms ks d
      → AllPlay b ms actors hs → AllPlay b ms actors ks
      → ((p : ℕ) → p < length ms → length (ks p) < limit → CanMove ms d p → ⊥) → ((p : ℕ) → p < length ms → length (hs p) ≤ limit)
      → (p : ℕ) → p < length ms → Begins hs ks p
  greatest ms actors limit hs ks c d wf l1 l2 play1 play2 still few =
      greatest_from ms actors limit hs ks l1.first c d l1.events no_histories
      record {
        wf = wf;
        play = play1;
        fifo = told_fifo b ms ks d l2;
        at = told_at b ms actors ks d wf l2 play2;
        compared = compare b ms actors ks hs d c wf l2 l1 play2 play1;
        still = still;
        bounded = few;
      }
      l1.story (fifo_start ms l1.first l1.starts) (at_start b ms actors l1.first l1.starts) (λ p hp. (ks p, refl))
