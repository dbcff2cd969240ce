-- Events with the histories that they give, and what histories say of queues.
use Rattle.std.proofs.Common.{◌≡◌, ◌≢◌, inl, inr, ℕ, List, [], ◌∷◌, ◌++◌, refl, sym, ap, ◌∙◌, subst, append-nil, append_assoc, if◌then◌else◌, ◌==◌}
use Rattle.std.proofs.lemmas.Bool.Decides.{eqb_tells}
use Rattle.rs_model.specs.Data.{Machine_data}
use Rattle.rs_core.specs.Configurations.{Configuration, Event, Step, Steps, StartsAt, role_of}
use Rattle.rs_core.specs.Histories.{History, action_of, history_of, IsLegal}

-- a history for each role
abbrev pub Histories : Type 0
Histories = ℕ → History

-- the event leads from c to d, and its role's history h becomes k
abbrev pub Tells : List Machine_data → Configuration → Event → Configuration → Histories → Histories → Type 0
Tells ms c e d h k = (step : Step ms c e d) × (k (role_of e) ≡ h (role_of e) ++ (action_of ms c e d step ∷ [])) × ((r : ℕ) → r ≢ role_of e → k r ≡ h r)

-- the events lead from c to d, and the histories h become k
abbrev pub Story : List Machine_data → Configuration → Histories → List Event → Configuration → Histories → Type 0
Story ms c h [] d k = (c ≡ d) × ((p : ℕ) → k p ≡ h p)
Story ms c h (e ∷ es) d k = (m : Configuration) × (g : Histories) × Tells ms c e m h g × Story ms m g es d k

abbrev pub no_histories : Histories
no_histories p = []

-- the histories of legal events grow event by event
abbrev grown : (ms : List Machine_data) (c : Configuration) (e : Event) (m : Configuration) (step : Step ms c e m) (h : Histories) (p : ℕ)
    → History
grown ms c e m step h p = if role_of e == p then h p ++ (action_of ms c e m step ∷ []) else h p

grown_tells : (ms : List Machine_data) (c : Configuration) (e : Event) (m : Configuration) (step : Step ms c e m) (h : Histories)
    → Tells ms c e m h (grown ms c e m step h)
grown_tells ms c e m step h = (step, here, others)
  where
    here : grown ms c e m step h (role_of e) ≡ h (role_of e) ++ (action_of ms c e m step ∷ [])
    here = elim (eqb_tells (role_of e) (role_of e)) [ inl t ↦ rw t.0 refl | inr t ↦ absurd (t.1 refl) ]

    others : (r : ℕ) → r ≢ role_of e → grown ms c e m step h r ≡ h r
    others r ne = elim (eqb_tells (role_of e) r) [ inl t ↦ absurd (ne (sym t.1)) | inr t ↦ rw t.0 refl ]

pub story_same : (ms : List Machine_data) (c : Configuration) (h : Histories) (es : List Event) (d : Configuration) (k k' : Histories)
    → Story ms c h es d k → ((p : ℕ) → k' p ≡ k p) → Story ms c h es d k'
story_same ms c h [] d k k' s e = (s.0, λ p. e p ∙ s.1 p)
story_same ms c h (x ∷ es) d k k' s e = (s.0, s.1, s.2, story_same ms s.0 s.1 es d k k' s.3 e)

story_of : (ms : List Machine_data) (c : Configuration) (es : List Event) (d : Configuration) (steps : Steps ms c es d) (h : Histories)
    → Story ms c h es d (λ p. h p ++ history_of p ms c es d steps)
story_of ms c [] d steps h = (steps, λ p. append-nil (h p))
story_of ms c (e ∷ es) d steps h = (
  steps.0,
  grown ms c e steps.0 steps.1 h,
  grown_tells ms c e steps.0 steps.1 h,
  story_same ms steps.0 (grown ms c e steps.0 steps.1 h) es d
      (λ p. grown ms c e steps.0 steps.1 h p ++ history_of p ms steps.0 es d steps.2) (λ p. h p ++ history_of p ms c (e ∷ es) d steps)
      (story_of ms steps.0 es d steps.2 (grown ms c e steps.0 steps.1 h)) (λ p. same p),
)
  where
    same : (p : ℕ) → h p ++ history_of p ms c (e ∷ es) d steps ≡ grown ms c e steps.0 steps.1 h p ++ history_of p ms steps.0 es d steps.2
    same p = elim (eqb_tells (role_of e) p) [
      | inl t ↦ rw t.0 (sym (append_assoc (h p) (action_of ms c e steps.0 steps.1 ∷ []) (history_of p ms steps.0 es d steps.2)))
      | inr t ↦ rw t.0 refl
    ]

-- events that give histories are legal
record Stepped (ms : List Machine_data) (c : Configuration) (h : Histories) (es : List Event) (d : Configuration) (k : Histories) : Type 0 where
  pub steps : Steps ms c es d
  pub gives : (p : ℕ) → k p ≡ h p ++ history_of p ms c es d steps

stepped : (ms : List Machine_data) (c : Configuration) (h : Histories) (es : List Event) (d : Configuration) (k : Histories)
    → Story ms c h es d k → Stepped ms c h es d k
stepped ms c h [] d k s = record { steps = s.0; gives = λ p. s.1 p ∙ sym (append-nil (h p)) }
stepped ms c h (e ∷ es) d k s =
    let r = stepped ms s.0 s.1 es d k s.3 in
    let st : Steps ms c (e ∷ es) d = (s.0, s.2.0, r.steps) in
    record { steps = st; gives = gives r }
  where
    gives : (r : Stepped ms s.0 s.1 es d k) → (p : ℕ) → k p ≡ h p ++ history_of p ms c (e ∷ es) d (s.0, s.2.0, r.steps)
    gives r p = elim (eqb_tells (role_of e) p) [
      | inl t ↦ (let P : ℕ → Type 0 = λ z. s.1 z ≡ h z ++ (action_of ms c e s.0 s.2.0 ∷ []) in
          rw t.0 (r.gives p ∙ ap (λ (z : History). z ++ history_of p ms s.0 es d r.steps) (subst P t.1 s.2.1)
          ∙ append_assoc (h p) (action_of ms c e s.0 s.2.0 ∷ []) (history_of p ms s.0 es d r.steps)))
      | inr t ↦ rw t.0 (r.gives p ∙ ap (λ (z : History). z ++ history_of p ms s.0 es d r.steps) (s.2.2 p (λ (z : p ≡ role_of e). t.1 (sym z))))
    ]

pub record Told (ms : List Machine_data) (hs : Histories) (c : Configuration) : Type 0 where
  pub first : Configuration
  pub starts : StartsAt ms first
  pub events : List Event
  pub story : Story ms first no_histories events c hs

pub told_of_legal : (ms : List Machine_data) (hs : Histories) (c : Configuration) → IsLegal ms hs c → Told ms hs c
told_of_legal ms hs c l = record {
  first = l.first;
  starts = l.starts;
  events = l.events;
  story = story_same ms l.first no_histories l.events c (λ p. history_of p ms l.first l.events c l.steps) hs (story_of ms l.first l.events c l.steps no_histories) l.gives;
}

pub legal_of_told : (ms : List Machine_data) (hs : Histories) (c : Configuration) → Told ms hs c → IsLegal ms hs c
legal_of_told ms hs c t =
    let s = stepped ms t.first no_histories t.events c hs t.story in
    record { first = t.first; events = t.events; starts = t.starts; steps = s.steps; gives = s.gives }

-- one event more at the end
pub story_snoc : (ms : List Machine_data) (c : Configuration) (h : Histories) (es : List Event) (d : Configuration) (k : Histories) (e : Event) (x : Configuration) (g : Histories)
    → Story ms c h es d k → Tells ms d e x k g → Story ms c h (es ++ (e ∷ [])) x g
story_snoc ms c h [] d k e x g s t =
    let P : Configuration → Type 0 = λ z. Tells ms z e x h g in
    (x, g, subst P (sym s.0) (t.0, t.1 ∙ ap (λ (z : History). z ++ (action_of ms d e x t.0 ∷ [])) (s.1 (role_of e)), λ r ne. t.2 r ne ∙ s.1 r), (refl, λ p. refl))
story_snoc ms c h (y ∷ es) d k e x g s t = (s.0, s.1, s.2, story_snoc ms s.0 s.1 es d k e x g s.3 t)

-- a history grows along a story
pub story_grows : (ms : List Machine_data) (c d : Configuration) (es : List Event) (h k : Histories) → Story ms c h es d k → (p : ℕ)
    → (more : History) × (k p ≡ h p ++ more)
story_grows ms c d [] h k s p = ([], s.1 p ∙ sym (append-nil (h p)))
story_grows ms c d (e ∷ es) h k s p =
    let r = story_grows ms s.0 d es s.1 k s.3 p in
    (one.0 ++ r.0, r.1 ∙ ap (λ (z : History). z ++ r.0) one.1 ∙ append_assoc (h p) one.0 r.0)
  where
    one : (more : History) × (s.1 p ≡ h p ++ more)
    one = elim (eqb_tells p (role_of e)) [
      | inl u ↦ (action_of ms c e s.0 s.2.0 ∷ [], (let P : ℕ → Type 0 = λ z. s.1 z ≡ h z ++ (action_of ms c e s.0 s.2.0 ∷ []) in subst P (sym u.1) s.2.1))
      | inr u ↦ ([], s.2.2 p u.1 ∙ sym (append-nil (h p)))
    ]
