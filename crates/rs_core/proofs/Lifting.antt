-- From turns of a session to turns of the plain run.
use Rattle.std.proofs.Common.{◌≡◌, ◌≢◌, ◌⊎◌, inl, inr, ℕ, zero, suc, ◌+◌, ◌<◌, ◌≤◌, Bool, true, false, ◌||◌, List, [], ◌∷◌, ◌++◌, Option, Some, slice_get, slice_set, length, refl, sym, ap, ◌∙◌}
use Rattle.std.proofs.Common.{subst, subst₂, arith, length-append}
use Rattle.std.proofs.lemmas.List.{length-set, length-map}
use Rattle.std.proofs.lemmas.Option.{slice_get_within}
use Rattle.rs_model.specs.Data.{Machine_data}
use Rattle.rs_model.specs.declared.graph.Role.{Role}
use Rattle.rs_model.specs.declared.machines.State.TheVariants.{Done, Puts}
use Rattle.rs_core.specs.Actors.{Choice, Behaviour}
use Rattle.rs_core.specs.Configurations.{Configuration, state_of, state_at}
use Rattle.rs_core.specs.Core.{Core_data, configuration_of}
use Rattle.rs_core.specs.Histories.{Action, Sent, Got, History, entry_of, transcript_of}
use Rattle.rs_core.specs.Plain.{Moment, offer_of, OthersStay, BySend, ByReceive, HasEnded, Waits, FindsFull, IsAtLimit, LimitedTurn, Turns}
use Rattle.rs_core.specs.Queues.{AreTranscripts, KnownTranscripts, TurnIsNoted}
use Rattle.rs_core.specs.Runs.{ArePlayers}
use Rattle.rs_core.specs.Rounds.{Matches, acts_of, AreReady, HasRound}
use Rattle.rs_core.proofs.RunsSoFar.{SoFar}
use Rattle.rs_core.specs.Turns.{KeepsWell, HasMoved, HasSent, HasGot, TurnTells}
use Rattle.rs_core.specs.Choosable.{CanChoose}
use Rattle.rs_core.specs.declared.players.Player.{Player}
use Rattle.rs_core.specs.declared.playing.Rounded.TheVariants as rounded
use Rattle.rs_core.specs.declared.transcripts.Entry.{Entry}
use Rattle.rs_core.specs.declared.turns.Turned.{Turned}
use Rattle.rs_core.specs.declared.turns.Turned.TheVariants as turned
use Rattle.rs_core.proofs.Items.{put_at, put_at_same, put_at_other}

slice_set_same : {X : Type 0} (xs : List X) (p : ℕ) (x : X) → slice_get xs p ≡ Some x → slice_set xs p x ≡ xs
slice_set_same [] p x e = refl
slice_set_same (y ∷ ys) zero x e = let s : y ≡ x = cc (e) in ap (λ (z : _). z ∷ ys) (sym s)
slice_set_same (y ∷ ys) (suc p) x e = ap (λ (z : List _). y ∷ z) (slice_set_same ys p x e)

slice_get_set : {X : Type 0} (xs : List X) (p q : ℕ) (x y : X) → slice_get (slice_set xs p x) q ≡ Some y → ((q ≡ p) × (y ≡ x)) ⊎ ((q ≢ p) × (slice_get xs q ≡ Some y))
slice_get_set [] p q x y e = absurd (cc (e))
slice_get_set (z ∷ zs) zero zero x y e = inl (refl, cc (e))
slice_get_set (z ∷ zs) zero (suc q) x y e = inr ((λ (h : suc q ≡ 0). omega (arith, h)), e)
slice_get_set (z ∷ zs) (suc p) zero x y e = inr ((λ (h : 0 ≡ suc p). omega (arith, h)), e)
slice_get_set (z ∷ zs) (suc p) (suc q) x y e = elim (slice_get_set zs p q x y e) [
  | inl t ↦ inl (ap suc t.0, t.1)
  | inr t ↦ inr ((λ (h : suc q ≡ suc p). t.0 (omega arith)), t.1)
]

map_snoc : (h : History) (a : Action) → transcript_of (h ++ (a ∷ [])) ≡ transcript_of h ++ (entry_of a ∷ [])
map_snoc [] a = refl
map_snoc (x ∷ h) a = ap (λ (z : List Entry). entry_of x ∷ z) (map_snoc h a)

pub or_true : (x : Bool) → (x || true) ≡ true
or_true true = refl
or_true false = refl

pub or_false : (x : Bool) → (x || false) ≡ x
or_false true = refl
or_false false = refl

-- what a turn was: an act or none; at its limit a role has no turn
abbrev pub Acted : Turned → Bool → Type 0
Acted turned.Moved moved = moved ≡ true
Acted turned.Waits moved = moved ≡ false
Acted turned.Full moved = moved ≡ false
Acted turned.Ended moved = moved ≡ false
Acted turned.AtLimit moved = ⊥

-- what is known of the players' transcripts after a turn of the role at place i
pub noted_after : {A : Type 0} (old new : KnownTranscripts) (xs : List (Player A)) (i r : ℕ) (y : Player A) → r ≡ i → AreTranscripts old xs → TurnIsNoted r y.transcript old new
    → AreTranscripts new (slice_set xs i y)
noted_after {A} old new xs i r y e s t p x is = elim (slice_get_set xs i p y x is) [
  | inl w ↦ subst₂ (λ (q : ℕ) (z : Player A). new q z.transcript) (e ∙ sym w.0) (sym w.1) t.own
  | inr w ↦ t.others p x.transcript (λ h. w.0 (h ∙ e)) (s p x w.1)
]

module _ {A : Type 0} (b : Behaviour A) where
  -- the moment of these
  abbrev pub moment : Core_data → (ℕ → History) → (ℕ → A) → (ℕ → Option Choice) → Moment A
  moment c h f o = record { at = configuration_of c; history = h; actor = f; kept = o }

  -- the players after a turn of p
  players_after : (roles : ℕ) (h : ℕ → History) (f : ℕ → A) (o : ℕ → Option Choice) (xs : List (Player A)) (p : ℕ) (y : Player A) (hp : History)
      → ArePlayers roles h f o xs → transcript_of hp ≡ y.transcript → ArePlayers roles (put_at h p hp) (put_at f p y.actor) (put_at o p y.kept) (slice_set xs p y)
  players_after roles h f o xs p y hp s e = record {
    many = length-set xs p y ∙ s.many;
    actor = λ q z is. elim (slice_get_set xs p q y z is) [
      | inl t ↦ (let P : ℕ → Player A → Type 0 = λ w v. put_at f p y.actor w ≡ v.actor in subst₂ P (sym t.0) (sym t.1) (put_at_same f p y.actor))
      | inr t ↦ put_at_other f p y.actor q t.0 ∙ s.actor q z t.1
    ];
    kept = λ q z is. elim (slice_get_set xs p q y z is) [
      | inl t ↦ (let P : ℕ → Player A → Type 0 = λ w v. put_at o p y.kept w ≡ v.kept in subst₂ P (sym t.0) (sym t.1) (put_at_same o p y.kept))
      | inr t ↦ put_at_other o p y.kept q t.0 ∙ s.kept q z t.1
    ];
    transcript = λ q z is. elim (slice_get_set xs p q y z is) [
      | inl t ↦ (let P : ℕ → Player A → Type 0 = λ w v. transcript_of (put_at h p hp w) ≡ v.transcript in subst₂ P (sym t.0) (sym t.1) (ap transcript_of (put_at_same h p hp) ∙ e))
      | inr t ↦ ap transcript_of (put_at_other h p hp q t.0) ∙ s.transcript q z t.1
    ];
  }

  others : (c d : Core_data) (h : ℕ → History) (f : ℕ → A) (o : ℕ → Option Choice) (p : ℕ) (y : Player A) (hp : History)
      → OthersStay p (moment c h f o) (moment d (put_at h p hp) (put_at f p y.actor) (put_at o p y.kept))
  others c d h f o p y hp = record { history = put_at_other h p hp; actor = put_at_other f p y.actor; kept = put_at_other o p y.kept }

  below_limit : (ms : List Machine_data) (limit p : ℕ) (l : Moment A) (t : List Entry) → transcript_of (l.history p) ≡ t → length t < limit → IsAtLimit ms limit p l → ⊥
  below_limit ms limit p l t e less at = (let n = sym (length-map (l.history p) entry_of) ∙ ap length e in let a = at.acts in absurd (omega arith))

  -- what the turn of p says of the plain run
  abbrev pub IsTurn : List Machine_data → ℕ → Option ℕ → Moment A → ℕ → Core_data → List (Player A) → Bool → Type 0
  IsTurn ms limit capacity l p d xs moved = (m : Moment A) × Matches ms m d xs × LimitedTurn ms b limit capacity p l m moved

  moved : (limit : ℕ) (capacity : Option ℕ) (c d : Core_data) (h : ℕ → History) (f : ℕ → A) (o : ℕ → Option Choice) (xs : List (Player A)) (p : ℕ) (x y : Player A)
      → ArePlayers (length c.machines) h f o xs → slice_get xs p ≡ Some x → length x.transcript < limit → HasMoved b capacity c x p d y → d.machines ≡ c.machines
      → IsTurn c.machines limit capacity (moment c h f o) p d (slice_set xs p y) true
  moved limit capacity c d h f o xs p x y s is less (HasSent t) same =
      let off : offer_of b (f p) (o p) t.step.arms ≡ (t.choice, y.actor) =
      ap (λ (z : Option Choice). offer_of b (f p) z t.step.arms) (s.kept p x is) ∙ ap (λ (z : A). offer_of b z x.kept t.step.arms) (s.actor p x is) ∙ t.offers in
      let hp : History = h p ++ (Sent t.step.peer t.step.arm.label t.choice.1 ∷ []) in
      let a : Action = Sent t.step.peer t.step.arm.label t.choice.1 in
      let e : transcript_of (h p ++ (Sent t.step.peer t.step.arm.label t.choice.1 ∷ [])) ≡ y.transcript =
      map_snoc (h p) (Sent t.step.peer t.step.arm.label t.choice.1) ∙ ap (λ (z : List Entry). z ++ (entry_of (Sent t.step.peer t.step.arm.label t.choice.1) ∷ [])) (s.transcript p x is)
      ∙ sym t.entry in (
        moment d (put_at h p (h p ++ (Sent t.step.peer t.step.arm.label t.choice.1 ∷ []))) (put_at f p y.actor) (put_at o p y.kept),
        record { at = refl; machines = same; players = players_after (length c.machines) h f o xs p y (h p ++ (Sent t.step.peer t.step.arm.label t.choice.1 ∷ [])) s e },
        (
          below_limit c.machines limit p (moment c h f o) x.transcript (s.transcript p x is) less,
          BySend record {
            choice = t.choice;
            step = t.step;
            room = t.room;
            offers = off ∙ ap (λ (z : A). (t.choice, z)) (sym (put_at_same f p y.actor));
            history = put_at_same h p (h p ++ (Sent t.step.peer t.step.arm.label t.choice.1 ∷ []));
            kept = put_at_same o p y.kept ∙ t.kept;
            others = others c d h f o p y (h p ++ (Sent t.step.peer t.step.arm.label t.choice.1 ∷ []));
          },
        ),
      )
  moved limit capacity c d h f o xs p x y s is less (HasGot t) same =
      let e : transcript_of (h p ++ (Got t.step.peer t.step.message.label t.step.message.value ∷ [])) ≡ y.transcript =
      map_snoc (h p) (Got t.step.peer t.step.message.label t.step.message.value)
      ∙ ap (λ (z : List Entry). z ++ (entry_of (Got t.step.peer t.step.message.label t.step.message.value) ∷ [])) (s.transcript p x is) ∙ sym t.entry in (
        moment d (put_at h p (h p ++ (Got t.step.peer t.step.message.label t.step.message.value ∷ []))) (put_at f p y.actor) (put_at o p y.kept),
        record { at = refl; machines = same; players = players_after (length c.machines) h f o xs p y (h p ++ (Got t.step.peer t.step.message.label t.step.message.value ∷ [])) s e },
        (
          below_limit c.machines limit p (moment c h f o) x.transcript (s.transcript p x is) less,
          ByReceive record {
            step = t.step;
            told = ap (λ (z : A). b.told z t.step.arms t.step.place t.step.message.value) (s.actor p x is) ∙ t.told ∙ sym (put_at_same f p y.actor);
            history = put_at_same h p (h p ++ (Got t.step.peer t.step.message.label t.step.message.value ∷ []));
            kept = put_at_same o p y.kept ∙ t.kept ∙ sym (s.kept p x is);
            others = others c d h f o p y (h p ++ (Got t.step.peer t.step.message.label t.step.message.value ∷ []));
          },
        ),
      )

  -- nothing changed
  stays : (c d : Core_data) (h : ℕ → History) (f : ℕ → A) (o : ℕ → Option Choice) (xs : List (Player A)) (p : ℕ) (x y : Player A)
      → ArePlayers (length c.machines) h f o xs → slice_get xs p ≡ Some x → d ≡ c → y ≡ x → Matches c.machines (moment c h f o) d (slice_set xs p y)
  stays c d h f o xs p x y s is ed ey =
      let same : slice_set xs p y ≡ xs = ap (λ (z : Player A). slice_set xs p z) ey ∙ slice_set_same xs p x is in
      let P : Core_data → List (Player A) → Type 0 = λ z w. Matches c.machines (moment c h f o) z w in
      subst₂ P (sym ed) (sym same) record { at = refl; machines = refl; players = s }

  turned_from : (limit : ℕ) (capacity : Option ℕ) (c d : Core_data) (h : ℕ → History) (f : ℕ → A) (o : ℕ → Option Choice) (xs : List (Player A)) (p : ℕ) (x y : Player A) (t : Turned) (flag : Bool)
      → ArePlayers (length c.machines) h f o xs → slice_get xs p ≡ Some x → Acted t flag → TurnTells b limit capacity c x p d y t
      → IsTurn c.machines limit capacity (moment c h f o) p d (slice_set xs p y) flag
  turned_from limit capacity c d h f o xs p x y turned.Moved flag s is e t =
      let P : Bool → Type 0 = λ z. IsTurn c.machines limit capacity (moment c h f o) p d (slice_set xs p y) z in
      subst P (sym e) (moved limit capacity c d h f o xs p x y s is t.0 t.1 t.2)
  turned_from limit capacity c d h f o xs p x y turned.Waits flag s is e t =
      let P : Bool → Type 0 = λ z. IsTurn c.machines limit capacity (moment c h f o) p d (slice_set xs p y) z in
      subst P (sym e) (
        moment c h f o,
        stays c d h f o xs p x y s is t.2 t.3,
        (below_limit c.machines limit p (moment c h f o) x.transcript (s.transcript p x is) t.0, Waits t.1.0 t.1.1 t.1.2 t.1.3 refl),
      )
  turned_from limit capacity c d h f o xs p x y turned.Full flag s is e t =
      let P : Bool → Type 0 = λ z. IsTurn c.machines limit capacity (moment c h f o) p d (slice_set xs p y) z in
      let k = t.1 in
      let off : offer_of b (f p) (o p) k.can.arms ≡ (k.choice, y.actor) =
      ap (λ (z : Option Choice). offer_of b (f p) z k.can.arms) (s.kept p x is) ∙ ap (λ (z : A). offer_of b z x.kept k.can.arms) (s.actor p x is) ∙ k.offers in
      subst P (sym e) (
        moment c (put_at h p (h p)) (put_at f p y.actor) (put_at o p y.kept),
        record {
          at = ap configuration_of t.2;
          machines = ap (λ (z : Core_data). z.machines) t.2;
          players = players_after (length c.machines) h f o xs p y (h p) s (s.transcript p x is ∙ sym k.transcript);
        },
        (
          below_limit c.machines limit p (moment c h f o) x.transcript (s.transcript p x is) t.0,
          FindsFull record {
            peer = k.peer;
            arms = k.can.arms;
            choice = k.choice;
            puts = k.can.puts;
            full = k.full;
            offers = off ∙ ap (λ (z : A). (k.choice, z)) (sym (put_at_same f p y.actor));
            at = refl;
            history = put_at_same h p (h p);
            kept = put_at_same o p y.kept ∙ k.kept;
            others = others c c h f o p y (h p);
          },
        ),
      )
  turned_from limit capacity c d h f o xs p x y turned.Ended flag s is e t =
      let P : Bool → Type 0 = λ z. IsTurn c.machines limit capacity (moment c h f o) p d (slice_set xs p y) z in
      subst P (sym e) (moment c h f o, stays c d h f o xs p x y s is t.1 t.2, ((λ a. a.goes_on t.0), HasEnded t.0 refl))
  turned_from limit capacity c d h f o xs p x y turned.AtLimit flag s is e t = absurd (e)

  pub lift : (ms : List Machine_data) (limit : ℕ) (capacity : Option ℕ) (l : Moment A) (c d : Core_data) (xs : List (Player A)) (p : ℕ) (x y : Player A) (t : Turned) (flag : Bool)
      → Matches ms l c xs → slice_get xs p ≡ Some x → Acted t flag → TurnTells b limit capacity c x p d y t → IsTurn ms limit capacity l p d (slice_set xs p y) flag
  lift ms limit capacity l c d xs p x y t flag m is acted tells =
      let L : List Machine_data → Type 0 = λ z. ArePlayers (length z) l.history l.actor l.kept xs in
      let P : List Machine_data → Configuration → Type 0 = λ z a. IsTurn z limit capacity record { at = a; history = l.history; actor = l.actor; kept = l.kept } p d (slice_set xs p y) flag in
      subst₂ P m.machines m.at (turned_from limit capacity c d l.history l.actor l.kept xs p x y t flag (subst L (sym m.machines) m.players) is acted tells)

  pub lift_limit : (ms : List Machine_data) (limit : ℕ) (capacity : Option ℕ) (l : Moment A) (c d : Core_data) (xs : List (Player A)) (p : ℕ) (x y : Player A)
      → Matches ms l c xs → slice_get xs p ≡ Some x → TurnTells b limit capacity c x p d y turned.AtLimit → Matches ms l d (slice_set xs p y) × IsAtLimit ms limit p l
  lift_limit ms limit capacity l c d xs p x y m is t =
      let same : slice_set xs p y ≡ xs = ap (λ (z : Player A). slice_set xs p z) t.3 ∙ slice_set_same xs p x is in
      let P : Core_data → List (Player A) → Type 0 = λ z w. Matches ms l z w in
      let Q : List Machine_data → Configuration → Type 0 = λ z a. state_at z a p ≢ Some Done in
      let n = sym (length-map (l.history p) entry_of) ∙ ap length (m.players.transcript p x is) in
      let a = t.1 in
      (subst₂ P (sym t.2) (sym same) m, record { acts = omega arith; goes_on = subst₂ Q m.machines m.at t.0 })

  -- one turn more at the end
  pub turns_snoc : (turn : ℕ → Moment A → Moment A → Bool → Type 0) (j p : ℕ) (l k m : Moment A) (before after : Bool) → Turns turn j p l k before → turn (p + j) k m after
      → Turns turn (suc j) p l m (before || after)
  turns_snoc turn zero p l k m before after t u =
      let P : ℕ → Moment A → Type 0 = λ z w. turn z w m after in
      let e : p + 0 ≡ p = omega arith in
      (m, after, false, subst₂ P e t.0 u, (refl, refl), flags before after t.1)
    where
      flags : (x y : Bool) → x ≡ false → (x || y) ≡ (y || false)
      flags true y e = absurd (cc (e))
      flags false true e = refl
      flags false false e = refl
  turns_snoc turn (suc j) p l k m before after t u =
      let P : ℕ → Type 0 = λ z. turn z k m after in
      let e : p + suc j ≡ suc p + j = omega arith in
      let r = turns_snoc turn j (suc p) t.0 k m t.2 after t.4 (subst P e u) in
      (t.0, t.1, t.2 || after, t.3, r, ap (λ (z : Bool). z || after) t.5 ∙ assoc t.1 t.2 after)
    where
      assoc : (x y z : Bool) → ((x || y) || z) ≡ (x || (y || z))
      assoc true y z = refl
      assoc false y z = refl

  pub tells_machines : (limit : ℕ) (capacity : Option ℕ) (c : Core_data) (x : Player A) (p : ℕ) (d : Core_data) (y : Player A) (t : Turned) → TurnTells b limit capacity c x p d y t
      → d.machines ≡ c.machines
  tells_machines limit capacity c x p d y turned.Moved t = t.2
  tells_machines limit capacity c x p d y turned.Waits t = ap (λ (z : Core_data). z.machines) t.2
  tells_machines limit capacity c x p d y turned.Full t = ap (λ (z : Core_data). z.machines) t.2
  tells_machines limit capacity c x p d y turned.Ended t = ap (λ (z : Core_data). z.machines) t.1
  tells_machines limit capacity c x p d y turned.AtLimit t = ap (λ (z : Core_data). z.machines) t.2

  -- the acts of the role whose turn it was
  turn_acts : (limit : ℕ) (capacity : Option ℕ) (c : Core_data) (x : Player A) (p : ℕ) (d : Core_data) (y : Player A) (t : Turned) → TurnTells b limit capacity c x p d y t
      → length x.transcript ≤ limit
      → (length x.transcript ≤ length y.transcript) × (length y.transcript ≤ limit) × (Acted t true → length x.transcript < length y.transcript)
  turn_acts limit capacity c x p d y turned.Moved (less, HasSent s, same) few =
      let e = ap length s.entry ∙ length-append x.transcript _ in (omega (arith, e), omega (arith, e), λ a. omega (arith, e))
  turn_acts limit capacity c x p d y turned.Moved (less, HasGot s, same) few =
      let e = ap length s.entry ∙ length-append x.transcript _ in (omega (arith, e), omega (arith, e), λ a. omega (arith, e))
  turn_acts limit capacity c x p d y turned.Waits t few = let e = ap (λ (z : Player A). length z.transcript) t.3 in (omega (arith, e), omega (arith, e), λ a. absurd (cc (a)))
  turn_acts limit capacity c x p d y turned.Full t few = let e = ap length t.1.transcript in (omega (arith, e), omega (arith, e), λ a. absurd (cc (a)))
  turn_acts limit capacity c x p d y turned.Ended t few = let e = ap (λ (z : Player A). length z.transcript) t.2 in (omega (arith, e), omega (arith, e), λ a. absurd (cc (a)))
  turn_acts limit capacity c x p d y turned.AtLimit t few = let e = ap (λ (z : Player A). length z.transcript) t.3 in (omega (arith, e), omega (arith, e), λ a. absurd (a))

  acts_set : (xs : List (Player A)) (p : ℕ) (x y : Player A) → slice_get xs p ≡ Some x → acts_of (slice_set xs p y) + length x.transcript ≡ acts_of xs + length y.transcript
  acts_set [] p x y is = absurd (cc (is))
  acts_set (z ∷ zs) zero x y is = let e : length z.transcript ≡ length x.transcript = (let s : z ≡ x = cc (is) in ap (λ (w : Player A). length w.transcript) s) in omega (arith, e)
  acts_set (z ∷ zs) (suc p) x y is = let ih = acts_set zs p x y is in omega arith

  -- what another role can choose, it can still choose
  still_can : (c d : Core_data) (q : ℕ) (choice : Choice) → d.machines ≡ c.machines → (configuration_of d).at q ≡ (configuration_of c).at q
      → (peer : Role) × CanChoose c q choice peer → (peer : Role) × CanChoose d q choice peer
  still_can c d q choice em ea k =
      let P : List Machine_data → ℕ → Type 0 = λ z n. state_of (slice_get z q) n ≡ Some (Puts k.0 k.1.arms) in
      (k.0, record { arms = k.1.arms; arm = k.1.arm; puts = subst₂ P (sym em) (sym ea) k.1.puts; picks = k.1.picks; has_sort = k.1.has_sort })

  -- what the players keep they can choose after a turn
  keeps_after : (limit : ℕ) (capacity : Option ℕ) (c d : Core_data) (xs : List (Player A)) (p : ℕ) (x y : Player A) (t : Turned) → ((q : ℕ) (z : Player A) → slice_get xs q ≡ Some z → KeepsWell c q z)
      → slice_get xs p ≡ Some x → TurnTells b limit capacity c x p d y t → (q : ℕ) (z : Player A) → slice_get (slice_set xs p y) q ≡ Some z → KeepsWell d q z
  keeps_after limit capacity c d xs p x y t keeps is tells q z here choice e = elim (slice_get_set xs p q y z here) [
    | inl w ↦ (let P : ℕ → Type 0 = λ n. (peer : Role) × CanChoose d n choice peer in
        let k : y.kept ≡ Some choice = ap (λ (v : Player A). v.kept) (sym w.1) ∙ e in
        subst P (sym w.0) (own t tells k))
    | inr w ↦ other t tells w.0 (keeps q z w.1 choice e)
  ]
    where
      stayed : d ≡ c → y ≡ x → y.kept ≡ Some choice → (peer : Role) × CanChoose d p choice peer
      stayed ed ey k =
          let P : Core_data → Type 0 = λ v. (peer : Role) × CanChoose v p choice peer in
          subst P (sym ed) (keeps p x is choice (ap (λ (v : Player A). v.kept) (sym ey) ∙ k))

      own : (t : Turned) → TurnTells b limit capacity c x p d y t → y.kept ≡ Some choice → (peer : Role) × CanChoose d p choice peer
      own turned.Moved (less, HasSent s, same) k = let n = s.kept in absurd (cc (n, k))
      own turned.Moved (less, HasGot s, same) k =
          let before = keeps p x is choice (sym s.kept ∙ k) in
          let puts = before.1.puts in let takes = s.step.takes in absurd (cc (puts, takes))
      own turned.Waits t k = stayed t.2 t.3 k
      own turned.Full t k =
          let same : t.1.choice ≡ choice = (let n : Some t.1.choice ≡ Some choice = sym t.1.kept ∙ k in cc (n)) in
          let P : Core_data → Choice → Type 0 = λ v w. (peer : Role) × CanChoose v p w peer in
          subst₂ P (sym t.2) same (t.1.peer, t.1.can)
      own turned.Ended t k = stayed t.1 t.2 k
      own turned.AtLimit t k = stayed t.2 t.3 k

      other : (t : Turned) → TurnTells b limit capacity c x p d y t → q ≢ p → (peer : Role) × CanChoose c q choice peer → (peer : Role) × CanChoose d q choice peer
      other turned.Moved (less, HasSent s, same) ne k = still_can c d q choice same (s.step.other_states q ne) k
      other turned.Moved (less, HasGot s, same) ne k = still_can c d q choice same (s.step.other_states q ne) k
      other turned.Waits t ne k = still_can c d q choice (ap (λ (v : Core_data). v.machines) t.2) (ap (λ (v : Core_data). (configuration_of v).at q) t.2) k
      other turned.Full t ne k = still_can c d q choice (ap (λ (v : Core_data). v.machines) t.2) (ap (λ (v : Core_data). (configuration_of v).at q) t.2) k
      other turned.Ended t ne k = still_can c d q choice (ap (λ (v : Core_data). v.machines) t.1) (ap (λ (v : Core_data). (configuration_of v).at q) t.1) k
      other turned.AtLimit t ne k = still_can c d q choice (ap (λ (v : Core_data). v.machines) t.2) (ap (λ (v : Core_data). (configuration_of v).at q) t.2) k

  ready_after : (limit : ℕ) (capacity : Option ℕ) (c d : Core_data) (xs : List (Player A)) (p : ℕ) (x y : Player A) (t : Turned) → AreReady limit c xs → slice_get xs p ≡ Some x
      → TurnTells b limit capacity c x p d y t → AreReady limit d (slice_set xs p y)
  ready_after limit capacity c d xs p x y t r is tells = record {
    many = length-set xs p y ∙ r.many ∙ ap length (sym (tells_machines limit capacity c x p d y t tells));
    keeps = keeps_after limit capacity c d xs p x y t r.keeps is tells;
    bounded = λ q z here. elim (slice_get_set xs p q y z here) [
      | inl w ↦ (let P : Player A → Type 0 = λ v. length v.transcript ≤ limit in subst P (sym w.1) (turn_acts limit capacity c x p d y t tells (r.bounded p x is)).1)
      | inr w ↦ r.bounded q z w.1
    ];
  }

  pub sofar_start : (limit : ℕ) (capacity : Option ℕ) (c : Core_data) (xs : List (Player A)) → AreReady limit c xs → SoFar b limit capacity c xs c xs 0 false
  sofar_start limit capacity c xs r = record { machines = refl; ready = r; acts = omega arith; more = λ e. absurd (cc (e)); runs = λ l m. (l, m, (refl, refl)) }

  -- one turn more
  pub sofar_on : (limit : ℕ) (capacity : Option ℕ) (c0 : Core_data) (xs0 : List (Player A)) (c d : Core_data) (xs : List (Player A)) (i n : ℕ) (before acted after : Bool) (x y : Player A) (t : Turned)
      → SoFar b limit capacity c0 xs0 c xs i before → slice_get xs i ≡ Some x → Acted t acted → TurnTells b limit capacity c x i d y t → n ≡ suc i → (before || acted) ≡ after
      → SoFar b limit capacity c0 xs0 d (slice_set xs i y) n after
  sofar_on limit capacity c0 xs0 c d xs i n before acted after x y t s is was tells e flag =
      let acts = turn_acts limit capacity c x i d y t tells (s.ready.bounded i x is) in
      let sum = acts_set xs i x y is in
      record {
        machines = tells_machines limit capacity c x i d y t tells ∙ s.machines;
        ready = ready_after limit capacity c d xs i x y t s.ready is tells;
        acts = (let a = s.acts in let g = acts.0 in omega (arith, sum));
        more = λ so. grows before acted (flag ∙ so) s.more was acts sum;
        runs = λ l m.
            let r = s.runs l m in
            let u = lift c0.machines limit capacity r.0 c d xs i x y t acted r.1 is was tells in
            let z : i ≡ 0 + i = omega arith in
            let P : ℕ → Type 0 = λ q. LimitedTurn c0.machines b limit capacity q r.0 u.0 acted in
            let Q : ℕ → Bool → Type 0 = λ q w. Turns (LimitedTurn c0.machines b limit capacity) q 0 l u.0 w in
            (u.0, u.1, subst₂ Q (sym e) flag (turns_snoc (LimitedTurn c0.machines b limit capacity) i 0 l r.0 u.0 before acted r.2 (subst P z u.2)));
      }
    where
      grows : (before acted : Bool) → (before || acted) ≡ true → (before ≡ true → acts_of xs0 < acts_of xs) → Acted t acted
          → (length x.transcript ≤ length y.transcript) × (length y.transcript ≤ limit) × (Acted t true → length x.transcript < length y.transcript)
          → acts_of (slice_set xs i y) + length x.transcript ≡ acts_of xs + length y.transcript → acts_of xs0 < acts_of (slice_set xs i y)
      grows true acted so more was acts sum = let m = more refl in let g = acts.0 in omega (arith, sum)
      grows false true so more was acts sum = let a = s.acts in let g = acts.2 was in omega (arith, sum)
      grows false false so more was acts sum = absurd (cc (so))

  pub sofar_stops : (limit : ℕ) (capacity : Option ℕ) (c0 : Core_data) (xs0 : List (Player A)) (c d : Core_data) (xs : List (Player A)) (i : ℕ) (role : Role) (moved : Bool) (x y : Player A)
      → SoFar b limit capacity c0 xs0 c xs i moved → slice_get xs i ≡ Some x → TurnTells b limit capacity c x i d y turned.AtLimit → role.0 ≡ i
      → HasRound b limit capacity c0 xs0 d (slice_set xs i y) (rounded.Stopped role)
  sofar_stops limit capacity c0 xs0 c d xs i role moved x y s is t e = record {
    machines = tells_machines limit capacity c x i d y turned.AtLimit t ∙ s.machines;
    ready = ready_after limit capacity c d xs i x y turned.AtLimit s.ready is t;
    more = λ same. absurd (cc (same));
    tells = λ l m.
        let r = s.runs l m in
        let u = lift_limit c0.machines limit capacity r.0 c d xs i x y r.1 is t in
        let P : ℕ → Type 0 = λ q. Turns (LimitedTurn c0.machines b limit capacity) q 0 l r.0 moved in
        let Q : ℕ → Type 0 = λ q. IsAtLimit c0.machines limit q r.0 in
        let within = slice_get_within xs i x is in
        let many = s.ready.many ∙ ap length s.machines in
        (r.0, moved, u.0, subst P (sym e) r.2, subst Q (sym e) u.1, omega (arith, e, many));
  }

  pub sofar_moved : (limit : ℕ) (capacity : Option ℕ) (c0 : Core_data) (xs0 : List (Player A)) (c : Core_data) (xs : List (Player A)) (i : ℕ) (moved : Bool)
      → SoFar b limit capacity c0 xs0 c xs i moved → i ≡ length c0.machines
      → moved ≡ true → HasRound b limit capacity c0 xs0 c xs rounded.Moved
  sofar_moved limit capacity c0 xs0 c xs i moved s e was = record {
    machines = s.machines;
    ready = s.ready;
    more = λ same. s.more was;
    tells = λ l m.
        let r = s.runs l m in
        let P : ℕ → Bool → Type 0 = λ q w. Turns (LimitedTurn c0.machines b limit capacity) q 0 l r.0 w in
        (r.0, r.1, subst₂ P e was r.2);
  }

  pub sofar_idle : (limit : ℕ) (capacity : Option ℕ) (c0 : Core_data) (xs0 : List (Player A)) (c : Core_data) (xs : List (Player A)) (i : ℕ) (moved : Bool) → SoFar b limit capacity c0 xs0 c xs i moved
      → i ≡ length c0.machines
      → moved ≡ false → HasRound b limit capacity c0 xs0 c xs rounded.Idle
  sofar_idle limit capacity c0 xs0 c xs i moved s e was = record {
    machines = s.machines;
    ready = s.ready;
    more = λ same. absurd (cc (same));
    tells = λ l m.
        let r = s.runs l m in
        let P : ℕ → Bool → Type 0 = λ q w. Turns (LimitedTurn c0.machines b limit capacity) q 0 l r.0 w in
        (r.0, r.1, subst₂ P e was r.2);
  }

  pub at_tells : (limit : ℕ) (capacity : Option ℕ) (c : Core_data) (x : Player A) (role p : ℕ) (d : Core_data) (y : Player A) (t u : Turned) → role ≡ p → t ≡ u
      → TurnTells b limit capacity c x role d y t → TurnTells b limit capacity c x p d y u
  at_tells limit capacity c x role p d y t u er et tells =
      let P : ℕ → Turned → Type 0 = λ q z. TurnTells b limit capacity c x q d y z in
      subst₂ P er et tells
