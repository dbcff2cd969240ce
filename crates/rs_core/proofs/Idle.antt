-- Rounds in which no role makes an act, and rounds in which one does.
use Rattle.std.proofs.Common.{◌≡◌, ◌≢◌, inl, inr, ℕ, zero, suc, ◌+◌, ◌*◌, ◌<◌, ◌≤◌, Bool, true, false, ◌||◌, List, [], ◌∷◌, ◌++◌, Option, Some, None, length, refl, sym, ap, ◌∙◌, subst, arith}
use Rattle.std.proofs.Common.{length-append}
use Rattle.std.proofs.lemmas.Bool.Decides.{eqb_tells}
use Rattle.rs_model.specs.Data.{Machine_data}
use Rattle.rs_model.specs.declared.graph.Role.{Role}
use Rattle.rs_model.specs.declared.machines.State.TheVariants.{Takes}
use Rattle.rs_core.specs.Safety.{CanMove, MaySend, MayReceive}
use Rattle.rs_core.specs.Histories.{Action, Sent, Got}
use Rattle.rs_core.specs.Actors.{Behaviour}
use Rattle.rs_core.specs.Plain.{Moment, Acts, BySend, ByReceive, Rests, HasEnded, Waits, FindsFull, PlainTurn, LimitedTurn, PassingTurn, Passes, Plays, Turns}
use Rattle.rs_core.proofs.Stories.{Histories}

-- the number of acts of the roles below n
abbrev pub total : ℕ → Histories → ℕ
total zero h = 0
total (suc n) h = length (h n) + total n h

total_grows : (n : ℕ) (h k : Histories) → ((r : ℕ) → length (h r) ≤ length (k r)) → total n h ≤ total n k
total_grows zero h k le = omega arith
total_grows (suc n) h k le = let ih = total_grows n h k le in let one = le n in omega arith

pub total_more : (n : ℕ) (h k : Histories) (r : ℕ) → ((r : ℕ) → length (h r) ≤ length (k r)) → r < n → length (h r) < length (k r) → total n h < total n k
total_more zero h k r le there more = absurd (omega arith)
total_more (suc n) h k r le there more = elim (eqb_tells r n) [
  | inl t ↦ (let P : ℕ → Type 0 = λ z. length (h z) < length (k z) in let at_n = subst P t.1 more in let ih = total_grows n h k le in omega arith)
  | inr t ↦ (let ih = total_more n h k r le (omega (arith, t.1)) more in let one = le n in omega arith)
]

pub total_most : (n limit : ℕ) (h : Histories) → ((r : ℕ) → length (h r) ≤ limit) → total n h ≤ n * limit
total_most zero limit h le = omega arith
total_most (suc n) limit h le = let ih = total_most n limit h le in let one = le n in omega arith

module _ {A : Type 0} (b : Behaviour A) where
  -- over unbounded queues a role that makes no act changes nothing, and can't go on
  rests_same : (ms : List Machine_data) (p : ℕ) (l k : Moment A) → Rests ms b None p l k → (k ≡ l) × (CanMove ms l.at p → ⊥)
  rests_same ms p l k (HasEnded d e) = (e, stays)
    where
      stays : CanMove ms l.at p → ⊥
      stays (MaySend peer arms h) = cc (d, h)
      stays (MayReceive peer arms m later h o) = cc (d, h)
  rests_same ms p l k (Waits peer arms takes empty e) = (e, stays)
    where
      stays : CanMove ms l.at p → ⊥
      stays (MaySend peer' arms' h) = cc (takes, h)
      stays (MayReceive peer' arms' m later h o) =
          let same : Some (Takes peer arms) ≡ Some (Takes peer' arms') = sym takes ∙ h in
          let ep : peer ≡ peer' = cc (same) in
          let P : Role → Type 0 = λ z. l.at.queue z.0 p ≡ [] in
          let none : l.at.queue peer'.0 p ≡ [] = subst P ep empty in
          cc (none, o)
  rests_same ms p l k (FindsFull t) = absurd (t.full)

  pub limited_idle : (ms : List Machine_data) (limit p : ℕ) (l k : Moment A) → LimitedTurn ms b limit None p l k false → (k ≡ l) × (CanMove ms l.at p → ⊥)
  limited_idle ms limit p l k t = rests_same ms p l k t.1

  pub passing_idle : (ms : List Machine_data) (limit p : ℕ) (l k : Moment A) → PassingTurn ms b limit p l k false
      → (k ≡ l) × (length (l.history p) < limit → CanMove ms l.at p → ⊥)
  passing_idle ms limit p l k (Passes at e none) = (e, λ less can. (let h = at.acts in absurd (omega arith)))
  passing_idle ms limit p l k (Plays t) = let r = rests_same ms p l k t.1 in (r.0, λ less can. r.1 can)

  -- a round in which no role makes an act changes nothing
  pub idle : (turn : ℕ → Moment A → Moment A → Bool → Type 0) (Q : ℕ → Moment A → Type 0) → ((p : ℕ) (l k : Moment A) → turn p l k false → (k ≡ l) × Q p l)
      → (many p : ℕ) (l k : Moment A) → Turns turn many p l k false → (k ≡ l) × ((r : ℕ) → p ≤ r → r < p + many → Q r l)
  idle turn Q one zero p l k t = (t.0, λ r low high. absurd (omega arith))
  idle turn Q one (suc many) p l k t = go t.0 (λ rest. idle turn Q one many (suc p) t.0 k rest) t.1 t.2 t.3 t.4 t.5
    where
      go : (m : Moment A) → (Turns turn many (suc p) m k false → (k ≡ m) × ((r : ℕ) → suc p ≤ r → r < suc p + many → Q r m)) → (acted later : Bool) → turn p l m acted
          → Turns turn many (suc p) m k later → false ≡ (acted || later)
          → (k ≡ l) × ((r : ℕ) → p ≤ r → r < p + suc many → Q r l)
      go m on true later t rest e = absurd (cc (e))
      go m on false true t rest e = absurd (cc (e))
      go m on false false t rest e =
          let here = one p l m t in
          let ih = on rest in
          let P : Moment A → Type 0 = λ z. (r : ℕ) → suc p ≤ r → r < suc p + many → Q r z in
          let later = subst P here.0 ih.1 in (
            ih.0 ∙ here.0,
            λ r low high. elim (eqb_tells r p) [
              | inl x ↦ (let R : ℕ → Type 0 = λ z. Q z l in subst R (sym x.1) here.1)
              | inr x ↦ later r (omega (arith, x.1)) (omega arith)
            ],
          )

  -- histories grow, and where a role below n makes an act, one of these grows
  pub record Grows (n : ℕ) (l k : Moment A) (moved : Bool) : Type 0 where
    pub all : (r : ℕ) → length (l.history r) ≤ length (k.history r)
    pub one : moved ≡ true → (r : ℕ) × (r < n) × (length (l.history r) < length (k.history r))

  one_grows : (n p : ℕ) (l k : Moment A) (a : Action) → p < n → k.history p ≡ l.history p ++ (a ∷ []) → ((q : ℕ) → q ≢ p → k.history q ≡ l.history q) → Grows n l k true
  one_grows n p l k a hp now others = record {
    all = λ r. elim (eqb_tells r p) [
      | inl t ↦ (let P : ℕ → Type 0 = λ z. length (l.history z) ≤ length (k.history z) in
          let e = ap length now ∙ length-append (l.history p) (a ∷ []) in
          let here : length (l.history p) ≤ length (k.history p) = omega arith in subst P (sym t.1) here)
      | inr t ↦ (let e = ap length (others r t.1) in omega arith)
    ];
    one = λ m. (p, hp, (let e = ap length now ∙ length-append (l.history p) (a ∷ []) in omega arith));
  }

  none_grows : (n : ℕ) (l k : Moment A) → ((r : ℕ) → k.history r ≡ l.history r) → Grows n l k false
  none_grows n l k same = record { all = λ r. let e = ap length (same r) in omega arith; one = λ m. absurd (cc (m)) }

  turn_grows : (ms : List Machine_data) (room : Option ℕ) (n p : ℕ) (l k : Moment A) (moved : Bool) → p < n → PlainTurn ms b room p l k moved → Grows n l k moved
  turn_grows ms room n p l k true hp t = acts t
    where
      acts : Acts ms b room p l k → Grows n l k true
      acts (BySend t) = one_grows n p l k (Sent t.step.peer t.step.arm.label t.choice.1) hp t.history t.others.history
      acts (ByReceive t) = one_grows n p l k (Got t.step.peer t.step.message.label t.step.message.value) hp t.history t.others.history
  turn_grows ms room n p l k false hp t = rests t
    where
      rests : Rests ms b room p l k → Grows n l k false
      rests (HasEnded d e) = none_grows n l k (λ r. ap (λ (z : Moment A). z.history r) e)
      rests (Waits peer arms takes empty e) = none_grows n l k (λ r. ap (λ (z : Moment A). z.history r) e)
      rests (FindsFull t) = none_grows n l k (λ r. elim (eqb_tells r p) [
        | inl x ↦ (let P : ℕ → Type 0 = λ z. k.history z ≡ l.history z in subst P (sym x.1) t.history)
        | inr x ↦ t.others.history r x.1
      ])

  pub limited_grows : (ms : List Machine_data) (limit : ℕ) (room : Option ℕ) (n p : ℕ) (l k : Moment A) (moved : Bool) → p < n → LimitedTurn ms b limit room p l k moved
      → Grows n l k moved
  limited_grows ms limit room n p l k moved hp t = turn_grows ms room n p l k moved hp t.1

  pub passing_grows : (ms : List Machine_data) (limit n p : ℕ) (l k : Moment A) (moved : Bool) → p < n → PassingTurn ms b limit p l k moved
      → Grows n l k moved
  passing_grows ms limit n p l k moved hp (Passes at e none) =
      let P : Bool → Type 0 = λ z. Grows n l k z in
      subst P (sym none) (none_grows n l k (λ r. ap (λ (z : Moment A). z.history r) e))
  passing_grows ms limit n p l k moved hp (Plays t) = turn_grows ms None n p l k moved hp t.1

  pub turns_grow : (turn : ℕ → Moment A → Moment A → Bool → Type 0) (n : ℕ) → ((p : ℕ) (l k : Moment A) (moved : Bool) → p < n → turn p l k moved → Grows n l k moved)
      → (many p : ℕ) (l k : Moment A) (moved : Bool) → p + many ≤ n → Turns turn many p l k moved → Grows n l k moved
  turns_grow turn n one zero p l k moved low t =
      let P : Bool → Type 0 = λ z. Grows n l k z in
      subst P (sym t.1) (none_grows n l k (λ r. ap (λ (z : Moment A). z.history r) t.0))
  turns_grow turn n one (suc many) p l k moved low t =
      go t.0 t.1 t.2 t.3 (turns_grow turn n one many (suc p) t.0 k t.2 (omega arith) t.4) t.5
    where
      go : (m : Moment A) (acted later : Bool) → turn p l m acted → Grows n m k later → moved ≡ (acted || later) → Grows n l k moved
      go m acted later t ih e =
          let first = one p l m acted (omega arith) t in
          record {
            all = λ r. let x = first.all r in let y = ih.all r in omega arith;
            one = λ did. pick acted later first ih (sym e ∙ did);
          }
        where
          pick : (acted later : Bool) → Grows n l m acted → Grows n m k later → (acted || later) ≡ true → (r : ℕ) × (r < n) × (length (l.history r) < length (k.history r))
          pick true later f s did = (let x = f.one refl in let y = s.all x.0 in (x.0, x.1, (let z = x.2 in omega arith)))
          pick false later f s did = (let x = s.one did in let y = f.all x.0 in (x.0, x.1, (let z = x.2 in omega arith)))
