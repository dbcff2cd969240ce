-- The scene follows the run: at each moment what is left of a role are the acts that the role is yet to make, and as many messages wait
-- in each queue as are under way.
use Rattle.std.proofs.Common.{◌≡◌, ◌≢◌, ◌⊎◌, inl, inr, ℕ, zero, suc, ◌+◌, ◌-◌, ◌<◌, ◌≤◌, Bool, true, false, List, [], ◌∷◌, ◌++◌, append_assoc, length, length-append, drop, map, replicate, Option, Some, None, slice_get, slice_index_or, slice_set, refl, sym, ap, ◌∙◌, subst, arith}
use Rattle.std.proofs.lemmas.Bool.{lt-ltb, le-ltb}
use Rattle.std.proofs.lemmas.Bool.Decides.{eqb_tells, leb_tells}
use Rattle.std.proofs.lemmas.List.{append-nil, append_cancel_left, get_or-set_same, get_or-set_other, length-set}
use Rattle.rs_model.specs.Data.{Machine_data}
use Rattle.rs_model.specs.declared.graph.Arm.{Arm}
use Rattle.rs_model.specs.declared.graph.Label.{Label}
use Rattle.rs_model.specs.declared.graph.Role.{Role}
use Rattle.rs_model.specs.declared.machines.Act.{Act}
use Rattle.rs_model.specs.declared.machines.Act.TheVariants as act
use Rattle.rs_model.specs.declared.machines.State.{State}
use Rattle.rs_model.specs.declared.machines.State.TheVariants.{Done, Puts, Takes}
use Rattle.rs_model.specs.declared.values.Sort.{Sort}
use Rattle.rs_model.specs.declared.values.Value.{Value}
use Rattle.rs_core.specs.Actors.{Behaviour}
use Rattle.rs_core.specs.Choices.{AreWellFormed}
use Rattle.rs_core.specs.Configurations.{Configuration, state_at, state_of}
use Rattle.rs_core.specs.declared.messages.Message.{Message}
use Rattle.rs_core.specs.Histories.{Action, Sent, Got, History}
use Rattle.rs_core.specs.Plain.{Moment, Ending, Acts, BySend, ByReceive, Rests, HasEnded, Waits, FindsFull, PlainTurn, LimitedTurn, Turns, PlainFrom, AllDone, Stops, NoneMoves, GoesOn}
use Rattle.rs_core.specs.Runs.{last_moment}
use Rattle.rs_core.proofs.Idle.{limited_grows, total, total_more, turns_grow}
use Rattle.rs_core.proofs.Stands.{machine_at, peered, within}
use Rattle.rs_core.proofs.Ends.{get_there}
use Rattle.rs_run_pictures.specs.Rounds.{Scene_data, made, made_if_possible, many_waiting, round, rounds, turn, turns, with_waiting}
use Rattle.rs_run_pictures.proofs.Ahead.{Ahead, AllAhead, BeginsAt, IsOf, run_ahead, turns_ahead}
use Rattle.rs_run_pictures.proofs.TurnsMade.{Finished, left_of, left_other, left_same, later_finished, receive_made, receive_waits, rounds_finished, rounds_front, send_made, send_waits, turn_of_none, turn_of_some}

-- the act is the action: a send to the same peer, or a receive from it
abbrev pub IsAct : Action → Act → Type 0
IsAct (Sent q l v) (act.Puts r k so) = q ≡ r
IsAct (Got q l v) (act.Takes r k so) = q ≡ r
IsAct (Sent q l v) (act.Takes r k so) = ⊥
IsAct (Got q l v) (act.Puts r k so) = ⊥

-- the acts are the actions, one by one
abbrev pub AreActs : History → List Act → Type 0
AreActs [] [] = Unit {0}
AreActs [] (a ∷ acts) = ⊥
AreActs (x ∷ h) [] = ⊥
AreActs (x ∷ h) (a ∷ acts) = IsAct x a × AreActs h acts

-- what is left of role p at moment l are the acts that it is yet to make
pub record IsLeft {A : Type 0} (whole : History) (l : Moment A) (p : ℕ) (acts : List Act) : Type 0 where
  pub rest : History
  pub is : whole ≡ l.history p ++ rest
  pub acts_are : AreActs rest acts

-- the scene has these places
pub record HasPlaces (n : ℕ) (s : Scene_data) : Type 0 where
  pub roles : length s.left ≡ n
  pub rows : length s.waiting ≡ n
  pub columns : (p : ℕ) → p < n → length (slice_index_or s.waiting p []) ≡ n

pub record Follows {A : Type 0} (n : ℕ) (whole : ℕ → History) (l : Moment A) (s : Scene_data) : Type 0 where
  pub places : HasPlaces n s
  pub left : (p : ℕ) → p < n → IsLeft (whole p) l p (left_of s p)
  pub waiting : (p q : ℕ) → p < n → q < n → many_waiting s.waiting p q ≡ length (l.at.queue p q)

-- ---- the table

many_same : (rows : List (List ℕ)) (p q many : ℕ) → p < length rows → q < length (slice_index_or rows p []) → many_waiting (with_waiting rows p q many) p q ≡ many
many_same rows p q many low col =
    ap (λ (row : List ℕ). slice_index_or row q 0) (get_or-set_same rows p (slice_set (slice_index_or rows p []) q many) [] low) ∙ get_or-set_same (slice_index_or rows p []) q many 0 col

many_other : (rows : List (List ℕ)) (p q many x y : ℕ) → p < length rows → (x ≢ p) ⊎ (y ≢ q) → many_waiting (with_waiting rows p q many) x y ≡ many_waiting rows x y
many_other rows p q many x y low (inl ne) = ap (λ (row : List ℕ). slice_index_or row y 0) (get_or-set_other rows p x (slice_set (slice_index_or rows p []) q many) [] ne)
many_other rows p q many x y low (inr ne) = elim (eqb_tells x p) [
  | inl t ↦ subst (λ (z : ℕ). many_waiting (with_waiting rows p q many) z y ≡ many_waiting rows z y) (sym t.1)
      (ap (λ (row : List ℕ). slice_index_or row y 0) (get_or-set_same rows p (slice_set (slice_index_or rows p []) q many) [] low) ∙ get_or-set_other (slice_index_or rows p []) q y many 0 ne)
  | inr t ↦ ap (λ (row : List ℕ). slice_index_or row y 0) (get_or-set_other rows p x (slice_set (slice_index_or rows p []) q many) [] t.1)
]

made_places : (n : ℕ) (s : Scene_data) (p : ℕ) (a : Act) (x y many : ℕ) → x < n → HasPlaces n s → HasPlaces n (made s p a x y many)
made_places n s p a x y many low h = record {
  roles = length-set s.left p (drop 1 (left_of s p)) ∙ h.roles;
  rows = length-set s.waiting x (slice_set (slice_index_or s.waiting x []) y many) ∙ h.rows;
  columns = λ r there. elim (eqb_tells r x) [
    | inl t ↦ subst (λ (z : ℕ). length (slice_index_or (made s p a x y many).waiting z []) ≡ n) (sym t.1)
        (ap length (get_or-set_same s.waiting x (slice_set (slice_index_or s.waiting x []) y many) [] (let e = h.rows in omega (arith, low, e))) ∙ length-set (slice_index_or s.waiting x []) y many
        ∙ h.columns x low)
    | inr t ↦ ap length (get_or-set_other s.waiting x r (slice_set (slice_index_or s.waiting x []) y many) [] t.1) ∙ h.columns r there
  ];
}

-- ---- one act

module _ {A : Type 0} (b : Behaviour A) (ms : List Machine_data) (capacity : ℕ) (whole : ℕ → History) where
  -- role p has made the act
  follows_made : (l k : Moment A) (s : Scene_data) (p : ℕ) (a : Act) (later : List Act) (rest : History) (x y many : ℕ) → x < length ms → y < length ms → Follows (length ms) whole l s
      → left_of s p ≡ a ∷ later → whole p ≡ k.history p ++ rest → AreActs rest later → ((r : ℕ) → r ≢ p → k.history r ≡ l.history r)
      → many ≡ length (k.at.queue x y) → ((u v : ℕ) → (u ≢ x) ⊎ (v ≢ y) → k.at.queue u v ≡ l.at.queue u v) → Follows (length ms) whole k (made s p a x y many)
  follows_made l k s p a later rest x y many lx ly f starts is acts others here queues = record {
    places = made_places (length ms) s p a x y many lx f.places;
    left = λ r there. elim (eqb_tells r p) [
      | inl t ↦ subst (λ (z : ℕ). IsLeft (whole z) k z (left_of (made s p a x y many) z)) (sym t.1)
          (record { rest = rest; is = is; acts_are = subst (λ (z : List Act). AreActs rest z) (sym (left_same s p a later x y many starts)) acts })
      | inr t ↦
          let old = f.left r there in
          record {
            rest = old.rest;
            is = old.is ∙ ap (λ z. z ++ old.rest) (sym (others r t.1));
            acts_are = subst (λ (z : List Act). AreActs old.rest z) (sym (left_other s p r a x y many t.1)) old.acts_are;
          }
    ];
    waiting = λ u v lu lv. elim (eqb_tells u x) [
      | inl t ↦ elim (eqb_tells v y) [
        | inl w ↦ subst (λ (z : ℕ). many_waiting (made s p a x y many).waiting z v ≡ length (k.at.queue z v)) (sym t.1)
            (subst (λ (z : ℕ). many_waiting (made s p a x y many).waiting x z ≡ length (k.at.queue x z)) (sym w.1)
            (many_same s.waiting x y many (let e = f.places.rows in omega (arith, lx, e)) (let e = f.places.columns x lx in omega (arith, ly, e)) ∙ here))
        | inr w ↦ many_other s.waiting x y many u v (let e = f.places.rows in omega (arith, lx, e)) (inr w.1) ∙ f.waiting u v lu lv ∙ ap length (sym (queues u v (inr w.1)))
      ]
      | inr t ↦ many_other s.waiting x y many u v (let e = f.places.rows in omega (arith, lx, e)) (inl t.1) ∙ f.waiting u v lu lv ∙ ap length (sym (queues u v (inl t.1)))
    ];
  }

  -- what is left of role p begins with the action that it makes
  left_begins : (l k : Moment A) (p : ℕ) (x : Action) (acts : List Act) → IsLeft (whole p) l p acts → Ahead ms (whole p) k p → k.history p ≡ l.history p ++ (x ∷ [])
      → (rest : History) × (whole p ≡ k.history p ++ rest) × AreActs (x ∷ rest) acts
  left_begins l k p x acts old new did = (
    new.rest,
    new.is,
    subst (λ (h : History). AreActs h acts)
        (append_cancel_left (l.history p) old.rest (x ∷ new.rest) (sym old.is ∙ new.is ∙ ap (λ z. z ++ new.rest) did ∙ append_assoc (l.history p) (x ∷ []) new.rest)) old.acts_are,
  )

  sent_follows : (p : ℕ) (l k : Moment A) (s : Scene_data) (peer : Role) (label : Label) (v : Value) (m : Message) (rest : History) (acts : List Act) → p < length ms → peer.0 < length ms
      → length (l.at.queue p peer.0) < capacity → k.at.queue p peer.0 ≡ l.at.queue p peer.0 ++ (m ∷ []) → ((x y : ℕ) → (x ≢ p) ⊎ (y ≢ peer.0) → k.at.queue x y ≡ l.at.queue x y)
      → ((r : ℕ) → r ≢ p → k.history r ≡ l.history r) → Follows (length ms) whole l s → left_of s p ≡ acts → whole p ≡ k.history p ++ rest → AreActs (Sent peer label v ∷ rest) acts
      → Follows (length ms) whole k (turn capacity p s)
  sent_follows p l k s peer label v m rest [] lp lq room appends queues others f starts is acts = absurd acts
  sent_follows p l k s peer label v m rest (act.Takes r n so ∷ later) lp lq room appends queues others f starts is acts = absurd acts.0
  sent_follows p l k s peer label v m rest (act.Puts r n so ∷ later) lp lq room appends queues others f starts is acts =
      let same : left_of s p ≡ act.Puts peer n so ∷ later = starts ∙ ap (λ z. act.Puts z n so ∷ later) (sym acts.0) in
      let many = f.waiting p peer.0 lp lq in
      subst (λ (z : Scene_data). Follows (length ms) whole k z)
      (sym (turn_of_some capacity p s (act.Puts peer n so) later same ∙ send_made capacity p s peer n so (omega (arith, room, many))))
      (follows_made l k s p (act.Puts peer n so) later rest p peer.0 (many_waiting s.waiting p peer.0 + 1) lp lq f same is acts.1 others
      (ap (λ (z : ℕ). z + 1) many ∙ sym (length-append (l.at.queue p peer.0) (m ∷ [])) ∙ ap length (sym appends)) queues)

  got_follows : (p : ℕ) (l k : Moment A) (s : Scene_data) (peer : Role) (label : Label) (v : Value) (m : Message) (rest : History) (acts : List Act) → p < length ms → peer.0 < length ms
      → l.at.queue peer.0 p ≡ m ∷ k.at.queue peer.0 p → ((x y : ℕ) → (x ≢ peer.0) ⊎ (y ≢ p) → k.at.queue x y ≡ l.at.queue x y)
      → ((r : ℕ) → r ≢ p → k.history r ≡ l.history r) → Follows (length ms) whole l s → left_of s p ≡ acts → whole p ≡ k.history p ++ rest → AreActs (Got peer label v ∷ rest) acts
      → Follows (length ms) whole k (turn capacity p s)
  got_follows p l k s peer label v m rest [] lp lq removes queues others f starts is acts = absurd acts
  got_follows p l k s peer label v m rest (act.Puts r n so ∷ later) lp lq removes queues others f starts is acts = absurd acts.0
  got_follows p l k s peer label v m rest (act.Takes r n so ∷ later) lp lq removes queues others f starts is acts =
      let same : left_of s p ≡ act.Takes peer n so ∷ later = starts ∙ ap (λ z. act.Takes z n so ∷ later) (sym acts.0) in
      let many : many_waiting s.waiting peer.0 p ≡ suc (length (k.at.queue peer.0 p)) = f.waiting peer.0 p lq lp ∙ ap length removes in
      subst (λ (z : Scene_data). Follows (length ms) whole k z)
      (sym (turn_of_some capacity p s (act.Takes peer n so) later same ∙ receive_made capacity p s peer n so (omega (arith, many))))
      (follows_made l k s p (act.Takes peer n so) later rest peer.0 p (many_waiting s.waiting peer.0 p - 1) lq lp f same is acts.1 others (omega (arith, many)) queues)

  -- ---- no act

  module _ (wf : AreWellFormed ms) where
    taken_from : (c : Configuration) (p : ℕ) (peer : Role) (arms : List Arm) → p < length ms → state_at ms c p ≡ Some (Takes peer arms) → peer.0 < length ms
    taken_from c p peer arms lp at = let m = get_there ms p lp in ((peered ms wf).takes p m.0 (c.at p) peer arms m.1 (machine_at ms c p (Takes peer arms) m.0 at m.1)).0

    put_to : (c : Configuration) (p : ℕ) (peer : Role) (arms : List Arm) → p < length ms → state_at ms c p ≡ Some (Puts peer arms) → peer.0 < length ms
    put_to c p peer arms lp at = let m = get_there ms p lp in ((peered ms wf).puts p m.0 (c.at p) peer arms m.1 (machine_at ms c p (Puts peer arms) m.0 at m.1)).0

    -- a role that has ended
    ended_stays : (p : ℕ) (s : Scene_data) (h : History) (acts : List Act) → BeginsAt (Some Done) h → AreActs h acts → left_of s p ≡ acts → turn capacity p s ≡ s
    ended_stays p s [] [] begins are is = turn_of_none capacity p s is
    ended_stays p s [] (a ∷ acts) begins are is = absurd are
    ended_stays p s (x ∷ h) acts begins are is = absurd begins

    -- a role that waits for a message
    waiting_stays : (p : ℕ) (l : Moment A) (s : Scene_data) (peer : Role) (arms : List Arm) (h : History) (acts : List Act) → p < length ms → peer.0 < length ms → l.at.queue peer.0 p ≡ []
        → Follows (length ms) whole l s → BeginsAt (Some (Takes peer arms)) h → AreActs h acts → left_of s p ≡ acts → turn capacity p s ≡ s
    waiting_stays p l s peer arms [] [] lp lq empty f begins are is = turn_of_none capacity p s is
    waiting_stays p l s peer arms [] (a ∷ acts) lp lq empty f begins are is = absurd are
    waiting_stays p l s peer arms (x ∷ h) [] lp lq empty f begins are is = absurd are
    waiting_stays p l s peer arms (Sent q n v ∷ h) (a ∷ acts) lp lq empty f begins are is = absurd begins
    waiting_stays p l s peer arms (Got q n v ∷ h) (act.Puts r m so ∷ acts) lp lq empty f begins are is = absurd are.0
    waiting_stays p l s peer arms (Got q n v ∷ h) (act.Takes r m so ∷ acts) lp lq empty f begins are is =
        let same : left_of s p ≡ act.Takes peer m so ∷ acts = is ∙ ap (λ z. act.Takes z m so ∷ acts) (sym (begins ∙ are.0)) in
        let many : many_waiting s.waiting peer.0 p ≡ 0 = f.waiting peer.0 p lq lp ∙ ap length empty in
        turn_of_some capacity p s (act.Takes peer m so) acts same ∙ receive_waits capacity p s peer m so (omega (arith, many))

    -- a role that finds its queue full
    full_stays : (p : ℕ) (l : Moment A) (s : Scene_data) (peer : Role) (arms : List Arm) (h : History) (acts : List Act) → p < length ms → peer.0 < length ms → capacity ≤ length (l.at.queue p peer.0)
        → Follows (length ms) whole l s → BeginsAt (Some (Puts peer arms)) h → AreActs h acts → left_of s p ≡ acts → turn capacity p s ≡ s
    full_stays p l s peer arms [] [] lp lq full f begins are is = turn_of_none capacity p s is
    full_stays p l s peer arms [] (a ∷ acts) lp lq full f begins are is = absurd are
    full_stays p l s peer arms (x ∷ h) [] lp lq full f begins are is = absurd are
    full_stays p l s peer arms (Got q n v ∷ h) (a ∷ acts) lp lq full f begins are is = absurd begins
    full_stays p l s peer arms (Sent q n v ∷ h) (act.Takes r m so ∷ acts) lp lq full f begins are is = absurd are.0
    full_stays p l s peer arms (Sent q n v ∷ h) (act.Puts r m so ∷ acts) lp lq full f begins are is =
        let same : left_of s p ≡ act.Puts peer m so ∷ acts = is ∙ ap (λ z. act.Puts z m so ∷ acts) (sym (begins ∙ are.0)) in
        let many = f.waiting p peer.0 lp lq in
        turn_of_some capacity p s (act.Puts peer m so) acts same ∙ send_waits capacity p s peer m so (omega (arith, many, full))

    -- the same acts are ahead
    ahead_acts : (p : ℕ) (l : Moment A) (acts : List Act) (a : Ahead ms (whole p) l p) → IsLeft (whole p) l p acts → AreActs a.rest acts
    ahead_acts p l acts a old = subst (λ (h : History). AreActs h acts) (append_cancel_left (l.history p) old.rest a.rest (sym old.is ∙ a.is)) old.acts_are

    rest_stays : (p : ℕ) (l k : Moment A) (s : Scene_data) → p < length ms → Rests ms b (Some capacity) p l k → Ahead ms (whole p) l p → Follows (length ms) whole l s → turn capacity p s ≡ s
    rest_stays p l k s lp (HasEnded at e) a f =
        ended_stays p s a.rest (left_of s p) (subst (λ (o : Option State). BeginsAt o a.rest) at a.begins) (ahead_acts p l (left_of s p) a (f.left p lp)) refl
    rest_stays p l k s lp (Waits peer arms at empty e) a f =
        waiting_stays p l s peer arms a.rest (left_of s p) lp (taken_from l.at p peer arms lp at) empty f (subst (λ (o : Option State). BeginsAt o a.rest) at a.begins)
        (ahead_acts p l (left_of s p) a (f.left p lp)) refl
    rest_stays p l k s lp (FindsFull t) a f =
        full_stays p l s t.peer t.arms a.rest (left_of s p) lp (put_to l.at p t.peer t.arms lp t.puts) t.full f (subst (λ (o : Option State). BeginsAt o a.rest) t.puts a.begins)
        (ahead_acts p l (left_of s p) a (f.left p lp)) refl

    rest_follows : (p : ℕ) (l k : Moment A) (s : Scene_data) → Rests ms b (Some capacity) p l k → Follows (length ms) whole l s → Follows (length ms) whole k s
    rest_follows p l k s (HasEnded at e) f = subst (λ (z : Moment A). Follows (length ms) whole z s) (sym e) f
    rest_follows p l k s (Waits peer arms at empty e) f = subst (λ (z : Moment A). Follows (length ms) whole z s) (sym e) f
    rest_follows p l k s (FindsFull t) f = record {
      places = f.places;
      left = λ r there. let old = f.left r there in record { rest = old.rest; is = old.is ∙ ap (λ z. z ++ old.rest) (sym (stays r)); acts_are = old.acts_are };
      waiting = λ u v lu lv. f.waiting u v lu lv ∙ ap (λ (c : Configuration). length (c.queue u v)) (sym t.at);
    }
      where
        stays : (r : ℕ) → k.history r ≡ l.history r
        stays r = elim (eqb_tells r p) [
          | inl x ↦ subst (λ (z : ℕ). k.history z ≡ l.history z) (sym x.1) t.history
          | inr x ↦ t.others.history r x.1
        ]

    -- ---- turns

    turn_follows : (p : ℕ) (l k : Moment A) (moved : Bool) (s : Scene_data) → p < length ms → PlainTurn ms b (Some capacity) p l k moved → AllAhead ms whole l → AllAhead ms whole k
        → Follows (length ms) whole l s → Follows (length ms) whole k (turn capacity p s)
    turn_follows p l k true s lp t before after f = acts t
      where
        acts : Acts ms b (Some capacity) p l k → Follows (length ms) whole k (turn capacity p s)
        acts (BySend t) =
            let x = Sent t.step.peer t.step.arm.label t.choice.1 in
            let h = left_begins l k p x (left_of s p) (f.left p lp) (after p) t.history in
            sent_follows p l k s t.step.peer t.step.arm.label t.choice.1 (record { label = t.step.arm.label; value = t.choice.1 }) h.0 (left_of s p) lp (put_to l.at p t.step.peer t.step.arms lp t.step.puts)
            t.room t.step.appends t.step.other_queues t.others.history f refl h.1 h.2
        acts (ByReceive t) =
            let x = Got t.step.peer t.step.message.label t.step.message.value in
            let h = left_begins l k p x (left_of s p) (f.left p lp) (after p) t.history in
            got_follows p l k s t.step.peer t.step.message.label t.step.message.value t.step.message h.0 (left_of s p) lp (taken_from l.at p t.step.peer t.step.arms lp t.step.takes) t.step.removes
            t.step.other_queues t.others.history f refl h.1 h.2
    turn_follows p l k false s lp t before after f =
        subst (λ (z : Scene_data). Follows (length ms) whole k z) (sym (rest_stays p l k s lp t (before p) f)) (rest_follows p l k s t f)

    turns_follow : (limit many p : ℕ) (l k : Moment A) (moved : Bool) (s : Scene_data) → p + many ≤ length ms → Turns (LimitedTurn ms b limit (Some capacity)) many p l k moved → AllAhead ms whole k
        → Follows (length ms) whole l (turns capacity p s) → Follows (length ms) whole k (turns capacity (p + many) s)
    turns_follow limit zero p l k moved s low t after f =
        let e : p ≡ p + 0 = omega arith in
        subst (λ (z : ℕ). Follows (length ms) whole k (turns capacity z s)) e (subst (λ (z : Moment A). Follows (length ms) whole z (turns capacity p s)) (sym t.0) f)
    turns_follow limit (suc many) p l k moved s low t after f =
        let e : suc p + many ≡ p + suc many = omega arith in
        let mid = turns_ahead b ms whole limit (Some capacity) many (suc p) t.0 k t.2 t.4 after in
        let before = turns_ahead b ms whole limit (Some capacity) (suc many) p l k moved t after in
        subst (λ (z : ℕ). Follows (length ms) whole k (turns capacity z s)) e
        (turns_follow limit many (suc p) t.0 k t.2 s (omega arith) t.4 after (turn_follows p l t.0 t.1 (turns capacity p s) (omega arith) t.3.1 before mid f))

    first_turns : (limit many : ℕ) (l k : Moment A) (moved : Bool) (s : Scene_data) → many ≤ length ms → Turns (LimitedTurn ms b limit (Some capacity)) many 0 l k moved → AllAhead ms whole k
        → Follows (length ms) whole l s → Follows (length ms) whole k (turns capacity many s)
    first_turns limit many l k moved s low t after f =
        let e : 0 + many ≡ many = omega arith in
        subst (λ (z : ℕ). Follows (length ms) whole k (turns capacity z s)) e (turns_follow limit many 0 l k moved s (omega (arith, low, e)) t after f)

    -- ---- the whole run

    none_left : (acts : List Act) → AreActs [] acts → acts ≡ []
    none_left [] h = refl
    none_left (a ∷ acts) h = absurd h

    beyond : (xs : List (List Act)) (p : ℕ) → length xs ≤ p → slice_index_or xs p [] ≡ []
    beyond [] p low = refl
    beyond (x ∷ xs) zero low = absurd (omega arith)
    beyond (x ∷ xs) (suc p) low = beyond xs p (omega arith)

    -- where no role is to make an act any more, nothing is left
    nothing_left : (k : Moment A) (s : Scene_data) → ((p : ℕ) → p < length ms → length (whole p) ≤ length (k.history p)) → Follows (length ms) whole k s → Finished s
    nothing_left k s all f p = elim (leb_tells (suc p) (length ms)) [
      | inl low ↦
          let here = f.left p low.1 in
          let most = all p low.1 in
          let e = ap length here.is ∙ length-append (k.history p) here.rest in
          none_left (left_of s p) (subst (λ (h : History). AreActs h (left_of s p)) (no_items here.rest (omega (arith, most, e))) here.acts_are)
      | inr high ↦ beyond s.left p (let e = f.places.roles in let h = high.1 in omega (arith, e, h))
    ]
      where
        no_items : (h : History) → length h ≤ 0 → h ≡ []
        no_items [] low = refl
        no_items (x ∷ h) low = absurd (omega arith)

    longer : (l : Moment A) → AllAhead ms whole l → (r : ℕ) → length (l.history r) ≤ length (whole r)
    longer l ahead r = let a = ahead r in let e = ap length a.is ∙ length-append (l.history r) a.rest in omega (arith, e)

    -- no act is ahead if there are no more
    all_made : (l : Moment A) → AllAhead ms whole l → total (length ms) whole ≤ total (length ms) l.history → (p : ℕ) → p < length ms → length (whole p) ≤ length (l.history p)
    all_made l ahead most p low = elim (leb_tells (length (whole p)) (length (l.history p))) [
      | inl le ↦ le.1
      | inr gt ↦ absurd (let more = total_more (length ms) l.history whole p (longer l ahead) low (let h = gt.1 in omega (arith, h)) in omega (arith, more, most))
    ]

    round_follows : (limit : ℕ) (l k : Moment A) (moved : Bool) (s : Scene_data) → Turns (LimitedTurn ms b limit (Some capacity)) (length ms) 0 l k moved → AllAhead ms whole k → Follows (length ms) whole l s
        → Follows (length ms) whole k (round capacity s)
    round_follows limit l k moved s t after f =
        subst (λ (n : ℕ). Follows (length ms) whole k (turns capacity n s)) (sym f.places.roles) (first_turns limit (length ms) l k moved s (omega arith) t after f)

    ends_here : (k : Moment A) → ((p : ℕ) → whole p ≡ k.history p) → AllAhead ms whole k
    ends_here k same p = record { rest = []; is = same p ∙ sym (append-nil (k.history p)); begins = tt }

    as_long : (k : Moment A) → ((p : ℕ) → whole p ≡ k.history p) → (p : ℕ) → p < length ms → length (whole p) ≤ length (k.history p)
    as_long k same p low = let e = ap length (same p) in omega (arith, e)

    -- after as many rounds as there are acts ahead nothing is left
    pub run_finishes : (limit : ℕ) (l : Moment A) (o : Ending A) (many : ℕ) (s : Scene_data) → PlainFrom ms b limit (Some capacity) l o → ((p : ℕ) → whole p ≡ (last_moment o).history p)
        → total (length ms) whole ≤ many + total (length ms) l.history → Follows (length ms) whole l s → Finished (rounds capacity many s)
    run_finishes limit l o zero s run same enough f = nothing_left l s (all_made l (run_ahead b ms whole limit (Some capacity) l o run same) (omega (arith, enough))) f
    run_finishes limit _ _ (suc many) s (AllDone l done) same enough f =
        let h = nothing_left l s (as_long l same) f in subst Finished (sym (rounds_finished capacity (suc many) s h)) h
    run_finishes limit _ _ (suc many) s (Stops p l k moved there ts at) same enough f =
        let after = first_turns limit p l k moved s (omega (arith, there)) ts (ends_here k same) f in
        let h = nothing_left k (turns capacity p s) (as_long k same) after in
        let j : p + (length ms - p) ≡ length s.left = (let e = f.places.roles in omega (arith, e, there)) in
        let e : round capacity s ≡ turns capacity p s = ap (λ (n : ℕ). turns capacity n s) (sym j) ∙ later_finished capacity p (length ms - p) s h in
        let g = subst Finished (sym e) h in
        subst Finished (sym (rounds_front capacity many s ∙ rounds_finished capacity many (round capacity s) g)) g
    run_finishes limit _ _ (suc many) s (NoneMoves p l k there goes ts) same enough f =
        let g = nothing_left k (round capacity s) (as_long k same) (round_follows limit l k false s ts (ends_here k same) f) in
        subst Finished (sym (rounds_front capacity many s ∙ rounds_finished capacity many (round capacity s) g)) g
    run_finishes limit _ _ (suc many) s (GoesOn l m o ts rest) same enough f =
        let after = run_ahead b ms whole limit (Some capacity) m o rest same in
        let grows = turns_grow b (LimitedTurn ms b limit (Some capacity)) (length ms) (limited_grows b ms limit (Some capacity) (length ms)) (length ms) 0 l m true (omega arith) ts in
        let one = grows.one refl in
        let more = total_more (length ms) l.history m.history one.0 grows.all one.1 one.2 in
        subst Finished (sym (rounds_front capacity many s))
        (run_finishes limit m o many (round capacity s) rest same (omega (arith, enough, more)) (round_follows limit l m true s ts after f))
