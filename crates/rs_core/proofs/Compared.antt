-- Two runs of the same actors: for each role the one history is a beginning of the other.
use Rattle.std.proofs.Common.{◌≡◌, ◌≢◌, inl, inr, ℕ, ◌<◌, List, [], ◌∷◌, ◌++◌, Some, slice_get, length, refl, sym, ap, ap₂, ◌∙◌, subst, subst₂, append-nil, append_assoc}
use Rattle.std.proofs.lemmas.Bool.Decides.{eqb_tells}
use Rattle.rs_model.specs.Data.{Machine_data}
use Rattle.rs_model.specs.declared.graph.Label.{Label}
use Rattle.rs_model.specs.declared.machines.State.TheVariants.{Puts, Takes}
use Rattle.rs_model.specs.declared.values.Value.{Value}
use Rattle.rs_core.specs.Configurations.{Message, Configuration, Event, Send, Receive, Step, StartsAt, role_of}
use Rattle.rs_core.specs.Choices.{AreWellFormed}
use Rattle.rs_core.specs.Histories.{Action, Got, History, action_of}
use Rattle.rs_core.specs.Actors.{Behaviour, PlaysFrom}
use Rattle.rs_core.proofs.Stands.{within, here_is, peered}
use Rattle.rs_core.proofs.Stories.{Histories, Tells, Story, Told, no_histories, story_grows}
use Rattle.rs_core.proofs.Fifo.{sents, gots, message, gots_append, gots_one, Fifo, fifo_step, fifo_story, fifo_start, Comparable, Shorter, Longer, same_place, sents_comparable}
use Rattle.rs_core.proofs.Played.{plays_split, plays_join, plays_same, Alike, Equal, BothGot, alike, step_state}

pub start_of : (ms : List Machine_data) (c : Configuration) (p : ℕ) (m : Machine_data) → StartsAt ms c → slice_get ms p ≡ Some m → c.at p ≡ m.start
start_of ms c p m s is = s.states p m is

-- the machine whose step an event is
pub mover : (ms : List Machine_data) (c : Configuration) (e : Event) (d : Configuration) → Step ms c e d
    → (m : Machine_data) × (slice_get ms (role_of e) ≡ Some m) × (role_of e < length ms)
mover ms c (Send p place v) d step =
    let at = here_is (slice_get ms p.0) (c.at p.0) (Puts step.peer step.arms) step.puts in
    (at.0, at.1, within ms c p.0 (Puts step.peer step.arms) step.puts)
mover ms c (Receive p) d step =
    let at = here_is (slice_get ms p.0) (c.at p.0) (Takes step.peer step.arms) step.takes in
    (at.0, at.1, within ms c p.0 (Takes step.peer step.arms) step.takes)

pub still_at : (ms : List Machine_data) (c : Configuration) (e : Event) (d : Configuration) → Step ms c e d → (r : ℕ) → r ≢ role_of e → d.at r ≡ c.at r
still_at ms c (Send p place v) d step r ne = step.other_states r ne
still_at ms c (Receive p) d step r ne = step.other_states r ne

module _ {A : Type 0} (b : Behaviour A) where
  -- the actors play the histories
  abbrev pub AllPlay : List Machine_data → (ℕ → A) → Histories → Type 0
  AllPlay ms actors hs = (p : ℕ) (m : Machine_data) → slice_get ms p ≡ Some m → (t : ℕ) × (y : A) × PlaysFrom b m m.start (actors p) (hs p) t y

  -- one action more keeps the histories of p comparable
  compare_one : (ms : List Machine_data) (actors : ℕ → A) (hs ks k h : Histories) (c1 d : Configuration) (p : ℕ) (m : Machine_data) (e : Action) → AreWellFormed ms
      → slice_get ms p ≡ Some m → AllPlay ms actors hs → AllPlay ms actors ks → Fifo c1 hs → Fifo d k
      → k p ≡ h p ++ (e ∷ []) → (more : History) → ks p ≡ k p ++ more
      → ((q : ℕ) → q < length ms → q ≢ p → Comparable (k q) (hs q))
      → Comparable (h p) (hs p) → Comparable (k p) (hs p)
  compare_one ms actors hs ks k h c1 d p m e wf is play1 play2 f1 f2 now more grow others (Longer zs eq) =
      Longer (zs ++ (e ∷ [])) (now ∙ ap (λ (z : History). z ++ (e ∷ [])) eq ∙ append_assoc (hs p) zs (e ∷ []))
  compare_one ms actors hs ks k h c1 d p m e wf is play1 play2 f1 f2 now more grow others (Shorter [] eq) =
      Longer (e ∷ []) (now ∙ ap (λ (z : History). z ++ (e ∷ [])) (sym (eq ∙ append-nil (h p))))
  compare_one ms actors hs ks k h c1 d p m e wf is play1 play2 f1 f2 now more grow others (Shorter (e' ∷ zs) eq) =
      let p1 = play1 p m is in
      let p2 = play2 p m is in
      let P : History → Type 0 = λ z. PlaysFrom b m m.start (actors p) z p1.0 p1.1 in
      let Q : History → Type 0 = λ z. PlaysFrom b m m.start (actors p) z p2.0 p2.1 in
      let grow' : ks p ≡ h p ++ (e ∷ more) = grow ∙ ap (λ (z : History). z ++ more) now ∙ append_assoc (h p) (e ∷ []) more in
      let h1 = plays_split b m m.start (actors p) (h p) (e' ∷ zs) p1.0 p1.1 (subst P eq p1.2) in
      let h2 = plays_split b m m.start (actors p) (h p) (e ∷ more) p2.0 p2.1 (subst Q grow' p2.2) in
      let same = plays_same b m (length ms) m.start (actors p) (h p) h1.state h2.state h1.actor h2.actor (wf.fits p m is) h1.before h2.before in
      let R : ℕ → A → Type 0 = λ u w. PlaysFrom b m u w (e' ∷ zs) p1.0 p1.1 in
      let after1 = subst₂ R same.0 same.1 h1.after in
      let after2 = h2.after in
      next (alike b m h2.state h2.actor e e' after2.0 after1.0 after2.1 after1.1 after2.2 after1.2)
    where
      equal : e ≡ e' → Comparable (k p) (hs p)
      equal q = Shorter zs (eq ∙ ap (λ (z : Action). h p ++ (z ∷ zs)) (sym q) ∙ sym (append_assoc (h p) (e ∷ []) zs) ∙ ap (λ (z : History). z ++ zs) (sym now))

      next : {s : ℕ} → Alike b m s e e' → Comparable (k p) (hs p)
      next (Equal q) = equal q
      next {s} (BothGot q l l' v v' arms a a' st) =
          let peer = (peered ms wf).takes p m s q arms is st in
          let g2 : gots q.0 (k p) ≡ gots q.0 (h p) ++ (message l v ∷ []) =
          ap (λ (z : History). gots q.0 z) (now ∙ ap (λ (z : Action). h p ++ (z ∷ [])) a) ∙ gots_append q.0 (h p) (Got q l v ∷ [])
          ∙ ap (λ (z : List Message). gots q.0 (h p) ++ z) (gots_one q.0 q l v refl) in
          let s2 : sents p (k q.0) ≡ gots q.0 (h p) ++ (message l v ∷ d.queue q.0 p) =
          sym (f2 q.0 p peer.1) ∙ ap (λ (z : List Message). z ++ d.queue q.0 p) g2 ∙ append_assoc (gots q.0 (h p)) (message l v ∷ []) (d.queue q.0 p) in
          let g1 : gots q.0 (hs p) ≡ gots q.0 (h p) ++ (message l' v' ∷ gots q.0 zs) =
          ap (λ (z : History). gots q.0 z) (eq ∙ ap (λ (z : Action). h p ++ (z ∷ zs)) a') ∙ gots_append q.0 (h p) (Got q l' v' ∷ zs)
          ∙ ap (λ (z : List Message). gots q.0 (h p) ++ z) (gots_append q.0 (Got q l' v' ∷ []) zs ∙ ap (λ (z : List Message). z ++ gots q.0 zs) (gots_one q.0 q l' v' refl)) in
          let s1 : sents p (hs q.0) ≡ gots q.0 (h p) ++ (message l' v' ∷ (gots q.0 zs ++ c1.queue q.0 p)) =
          sym (f1 q.0 p peer.1) ∙ ap (λ (z : List Message). z ++ c1.queue q.0 p) g1 ∙ append_assoc (gots q.0 (h p)) (message l' v' ∷ gots q.0 zs) (c1.queue q.0 p) in
          let S : List Message → List Message → Type 0 = λ x y. Comparable x y in
          let cmp = subst₂ S s2 s1 (sents_comparable p (k q.0) (hs q.0) (others q.0 peer.0 peer.1)) in
          let msg : message l v ≡ message l' v' = same_place (gots q.0 (h p)) (message l v) (message l' v') (d.queue q.0 p) (gots q.0 zs ++ c1.queue q.0 p) cmp in
          let el : l ≡ l' = ap (λ (z : Message). z.label) msg in
          let ev : v ≡ v' = ap (λ (z : Message). z.value) msg in
          equal (a ∙ ap₂ (λ (x : Label) (y : Value). Got q x y) el ev ∙ sym a')

  compare_from : (ms : List Machine_data) (actors : ℕ → A) (hs ks : Histories) (c1 c d : Configuration) (es : List Event) (h : Histories) → AreWellFormed ms → AllPlay ms actors hs
      → AllPlay ms actors ks → Fifo c1 hs → Story ms c h es d ks → Fifo c h
      → ((p : ℕ) → p < length ms → Comparable (h p) (hs p)) → (p : ℕ) → p < length ms → Comparable (ks p) (hs p)
  compare_from ms actors hs ks c1 c d [] h wf play1 play2 f1 story f2 cmp p hp = let P : History → Type 0 = λ z. Comparable z (hs p) in subst P (sym (story.1 p)) (cmp p hp)
  compare_from ms actors hs ks c1 c d (e ∷ es) h wf play1 play2 f1 story f2 cmp p hp =
      compare_from ms actors hs ks c1 story.0 d es story.1 wf play1 play2 f1 story.3 next_fifo after p hp
    where
      next_fifo : Fifo story.0 story.1
      next_fifo = fifo_step ms c story.0 e h story.1 story.2 f2

      keep : (q : ℕ) → story.1 q ≡ h q → q < length ms → Comparable (story.1 q) (hs q)
      keep q eq hq = let P : History → Type 0 = λ z. Comparable z (hs q) in subst P (sym eq) (cmp q hq)

      after : (q : ℕ) → q < length ms → Comparable (story.1 q) (hs q)
      after q hq = elim (eqb_tells q (role_of e)) [
        | inr u ↦ keep q (story.2.2 q u.1) hq
        | inl u ↦ (let r = role_of e in
            let who = mover ms c e story.0 story.2.0 in
            let g = story_grows ms story.0 d es story.1 ks story.3 r in
            let at_r = compare_one ms actors hs ks story.1 h c1 story.0 r who.0 (action_of ms c e story.0 story.2.0) wf who.1 play1 play2 f1 next_fifo story.2.1 g.0 g.1
            (λ q' hq' ne. keep q' (story.2.2 q' ne) hq') (cmp r who.2) in
            let P : ℕ → Type 0 = λ z. Comparable (story.1 z) (hs z) in subst P (sym u.1) at_r)
      ]

  pub told_fifo : (ms : List Machine_data) (hs : Histories) (c : Configuration) → Told ms hs c → Fifo c hs
  told_fifo ms hs c l = fifo_story ms l.first c l.events no_histories hs l.story (fifo_start ms l.first l.starts)

  -- the theorem: over two runs from the start
  pub compare : (ms : List Machine_data) (actors : ℕ → A) (hs ks : Histories) (c d : Configuration) → AreWellFormed ms → Told ms hs c → Told ms ks d
      → AllPlay ms actors hs → AllPlay ms actors ks → (p : ℕ) → p < length ms → Comparable (ks p) (hs p)
  compare ms actors hs ks c d wf l1 l2 play1 play2 =
      compare_from ms actors hs ks c l2.first d l2.events no_histories wf play1 play2 (told_fifo ms hs c l1) l2.story (fifo_start ms l2.first l2.starts) (λ p hp. Shorter (hs p) refl)

  -- the actors stand where the configuration stands
  abbrev pub AtHere : List Machine_data → (ℕ → A) → Configuration → Histories → Type 0
  AtHere ms actors c h = (p : ℕ) (m : Machine_data) → slice_get ms p ≡ Some m → (y : A) × PlaysFrom b m m.start (actors p) (h p) (c.at p) y

  -- along a story whose histories they play
  pub at_step : (ms : List Machine_data) (actors : ℕ → A) (c d : Configuration) (e : Event) (h g k : Histories) → AreWellFormed ms → AllPlay ms actors k
      → Tells ms c e d h g → ((p : ℕ) → (more : History) × (k p ≡ g p ++ more)) → AtHere ms actors c h → AtHere ms actors d g
  at_step ms actors c d e h g k wf play t grow at p m is = elim (eqb_tells p (role_of e)) [
    | inr u ↦ (let y = at p m is in
        let P : History → ℕ → Type 0 = λ x s. PlaysFrom b m m.start (actors p) x s y.0 in
        (y.0, subst₂ P (sym (t.2 p u.1)) (sym (still_at ms c e d t.0 p u.1)) y.1))
    | inl u ↦ (let P : ℕ → Type 0 = λ z. slice_get ms z ≡ Some m → (y : A) × PlaysFrom b m m.start (actors z) (g z) (d.at z) y in
        subst P (sym u.1) here is)
  ]
    where
      here : slice_get ms (role_of e) ≡ Some m → (y : A) × PlaysFrom b m m.start (actors (role_of e)) (g (role_of e)) (d.at (role_of e)) y
      here is' =
          let r = role_of e in
          let x = action_of ms c e d t.0 in
          let y = at r m is' in
          let pl = play r m is' in
          let gr = grow r in
          let eq : k r ≡ h r ++ (x ∷ gr.0) = gr.1 ∙ ap (λ (z : History). z ++ gr.0) t.1 ∙ append_assoc (h r) (x ∷ []) gr.0 in
          let P : History → Type 0 = λ z. PlaysFrom b m m.start (actors r) z pl.0 pl.1 in
          let half = plays_split b m m.start (actors r) (h r) (x ∷ gr.0) pl.0 pl.1 (subst P eq pl.2) in
          let same = plays_same b m (length ms) m.start (actors r) (h r) half.state (c.at r) half.actor y.0 (wf.fits r m is') half.before y.1 in
          let Q : ℕ → A → Type 0 = λ i w. PlaysFrom b m i w (x ∷ gr.0) pl.0 pl.1 in
          let after = subst₂ Q same.0 same.1 half.after in
          let to : after.0 ≡ d.at r = step_state b ms c e d t.0 m (length ms) is' (wf.fits r m is') y.0 after.0 after.1 after.2 in
          let one : PlaysFrom b m (c.at r) y.0 (x ∷ []) (d.at r) after.1 = (after.0, after.1, after.2, (to, refl)) in
          let R : History → Type 0 = λ z. PlaysFrom b m m.start (actors r) z (d.at r) after.1 in
          (after.1, subst R (sym t.1) (plays_join b m m.start (actors r) (h r) (x ∷ []) (c.at r) (d.at r) y.0 after.1 y.1 one))

  at_story : (ms : List Machine_data) (actors : ℕ → A) (c d : Configuration) (es : List Event) (h k : Histories) → AreWellFormed ms → AllPlay ms actors k
      → Story ms c h es d k → AtHere ms actors c h → AtHere ms actors d k
  at_story ms actors c d [] h k wf play s at p m is =
      let y = at p m is in
      let P : History → ℕ → Type 0 = λ x z. PlaysFrom b m m.start (actors p) x z y.0 in
      (y.0, subst₂ P (sym (s.1 p)) (ap (λ (z : Configuration). z.at p) s.0) y.1)
  at_story ms actors c d (e ∷ es) h k wf play s at p m is =
      at_story ms actors s.0 d es s.1 k wf play s.3 (at_step ms actors c s.0 e h s.1 k wf play s.2 (story_grows ms s.0 d es s.1 k s.3) at) p m is

  pub at_start : (ms : List Machine_data) (actors : ℕ → A) (c : Configuration) → StartsAt ms c → AtHere ms actors c no_histories
  at_start ms actors c s p m is = (actors p, (sym (s.states p m is), refl))

  pub told_at : (ms : List Machine_data) (actors : ℕ → A) (hs : Histories) (c : Configuration) → AreWellFormed ms → Told ms hs c → AllPlay ms actors hs
      → AtHere ms actors c hs
  told_at ms actors hs c wf l play = at_story ms actors l.first c l.events no_histories hs wf play l.story (at_start ms actors l.first l.starts)
