-- Legal histories go on by an act; what an act does to the configuration; and Safe machines find no parcel that they
-- don't take.
use Rattle.std.proofs.Common.{◌≡◌, ◌≢◌, ◌⊎◌, ℕ, suc, ◌<◌, ◌≤◌, List, [], ◌∷◌, ◌++◌, length, drop, map, Bool, true, false, true≢false, refl, sym, ap, ◌∙◌, subst, inl, inr, ⊎_elim, arith, Option, Some}
use Rattle.std.proofs.Common.{None, append-nil, append_assoc, length-append, eq-eqb, ne_eqb, if◌then◌else◌, flat_map, slice_get}
use mathlib.Core.Option.{some}
use lib.ListN.{get_elem?}
use lib.Seq.{drop-append-le}
use Rattle.atomic_table.proofs.Lists.{drop_at}
use Rattle.rs_model.specs.Data.{Machine_data}
use Rattle.rs_model.specs.Sorts.{fits, HasSort}
use Rattle.rs_model.specs.declared.graph.Arm.{Arm}
use Rattle.rs_model.specs.declared.machines.State.TheVariants.{Puts, Takes}
use Rattle.rs_core.specs.Choices.{AreWellFormed}
use Rattle.rs_core.specs.declared.messages.Event.{Event}
use Rattle.rs_core.specs.declared.messages.Event.TheVariants.{Send, Receive}
use Rattle.rs_core.specs.declared.messages.Message.{Message}
use Rattle.rs_core.specs.Configurations.{Configuration, role_of, Step, Steps, Sends, Receives, IsReachable, state_at}
use Rattle.rs_core.specs.Ways.{arm_with}
use Rattle.rs_core.specs.Histories.{Action, Sent, Got, History, action_of, history_of, IsLegal}
use Rattle.rs_core.specs.Safety.{IsSafe}
use Rattle.rs_core.proofs.Stories.{told_of_legal, legal_of_told, story_snoc}
use Rattle.rs_rings.proofs.Arms.{arm_at, arm_found}
use Rattle.std.proofs.lemmas.Bool.Decides.{eqb_tells}
use Rattle.std.proofs.lemmas.Option.{slice_get_within}
use Rattle.rs_core.proofs.Stands.{here_is}
use Rattle.rs_slots.specs.declared.parcels.Parcel.{Parcel}
use Rattle.rs_rings.specs.declared.views.Part.{Part}
use Rattle.rs_rings.specs.Acts.{role_of_number, sent_act, got_act, message_of, Happened, parcels_sent, parcels_got, parcel_sent, parcel_got}
use Rattle.rs_rings.specs.Rule.{configuration_by, histories_of, AreLegal}
use Rattle.rs_rings.specs.Steps.{HasFittingArm}
use Rattle.rs_rings.proofs.Parts.{at_put, put_case}

pub last : {A B : Type 0} (f : A → List B) (xs : List A) (x : A) → flat_map f (xs ++ x ∷ []) ≡ flat_map f xs ++ f x
last f [] x = append-nil (f x)
last f (y ∷ xs) x = ap (λ r. f y ++ r) (last f xs x) ∙ sym (append_assoc (f y) (flat_map f xs) (f x))

pub last_none : {A B : Type 0} (f : A → List B) (xs : List A) (x : A) → f x ≡ [] → flat_map f (xs ++ x ∷ []) ≡ flat_map f xs
last_none f xs x e = last f xs x ∙ ap (λ r. flat_map f xs ++ r) e ∙ append-nil (flat_map f xs)

pub sent_here : (q : ℕ) (m : Parcel) (h : History) → parcels_sent q (h ++ sent_act q m ∷ []) ≡ parcels_sent q h ++ m ∷ []
sent_here q m h = last (parcel_sent q) h (sent_act q m) ∙ ap (λ b. parcels_sent q h ++ (if b then m ∷ [] else [])) (eq-eqb q q refl)

pub sent_other : (y q : ℕ) (m : Parcel) (h : History) → y ≢ q → parcels_sent y (h ++ sent_act q m ∷ []) ≡ parcels_sent y h
sent_other y q m h ne = last_none (parcel_sent y) h (sent_act q m) (rw (ne_eqb y q ne) refl)

pub got_here : (p : ℕ) (m : Parcel) (h : History) → parcels_got p (h ++ got_act p m ∷ []) ≡ parcels_got p h ++ m ∷ []
got_here p m h = last (parcel_got p) h (got_act p m) ∙ ap (λ b. parcels_got p h ++ (if b then m ∷ [] else [])) (eq-eqb p p refl)

pub got_other : (y p : ℕ) (m : Parcel) (h : History) → y ≢ p → parcels_got y (h ++ got_act p m ∷ []) ≡ parcels_got y h
got_other y p m h ne = last_none (parcel_got y) h (got_act p m) (rw (ne_eqb y p ne) refl)

-- legal histories, and one act more
pub legal_step : (ms : List Machine_data) (h k : ℕ → History) (c : Configuration) (e : Event) (d : Configuration) → IsLegal ms h c → (step : Step ms c e d)
    → k (role_of e) ≡ h (role_of e) ++ (action_of ms c e d step ∷ []) → ((r : ℕ) → r ≢ role_of e → k r ≡ h r) → IsLegal ms k d
legal_step ms h k c e d legal step own others =
    let t = told_of_legal ms h c legal in
    legal_of_told ms k d record { first = t.first; starts = t.starts; events = t.events ++ (e ∷ []); story = story_snoc ms t.first (λ p. []) t.events c h e d k t.story (step, own, others) }

-- an act that happened is one by which legal histories go on
pub happened_on : (ms : List Machine_data) (p : ℕ) (h : History) (a : Action) → Happened ms p h a
    → (histories : ℕ → History) × (after : Configuration) × IsLegal ms histories after × (histories p ≡ h ++ a ∷ [])
happened_on ms p h a hd = let k : ℕ → History = at_put hd.histories p (h ++ a ∷ []) in (
  k,
  hd.after,
  legal_step ms hd.histories k hd.before hd.event hd.after hd.legal hd.step
      (put_case hd.histories p (h ++ a ∷ []) (role_of hd.event) (λ z. z ≡ hd.histories (role_of hd.event) ++ action_of ms hd.before hd.event hd.after hd.step ∷ [])
      (λ _. λ i. (sym hd.own ∙ ap hd.histories (sym hd.whose)) i ++ sym hd.did i ∷ []) (λ no. absurd (no hd.whose)))
      (λ r ne. put_case hd.histories p (h ++ a ∷ []) r (λ z. z ≡ hd.histories r) (λ is. absurd (ne (is ∙ sym hd.whose))) (λ _. refl)),
  put_case hd.histories p (h ++ a ∷ []) p (λ z. z ≡ h ++ a ∷ []) (λ _. refl) (λ no. absurd (no refl)),
)

pub reached : (ms : List Machine_data) (h : ℕ → History) (c : Configuration) → IsLegal ms h c → IsReachable ms c
reached ms h c l = record { first = l.first; events = l.events; starts = l.starts; steps = l.steps }

map_snoc : (xs : List Parcel) (x : Parcel) → map message_of (xs ++ x ∷ []) ≡ map message_of xs ++ message_of x ∷ []
map_snoc [] x = refl
map_snoc (y ∷ ys) x = ap (λ (z : List Message). message_of y ∷ z) (map_snoc ys x)

not_both : (x y p q : ℕ) → (x ≢ p) ⊎ (y ≢ q) → (x ≡ p) × (y ≡ q) → ⊥
not_both x y p q or t = ⊎_elim (λ (n : x ≢ p). n t.0) (λ (n : y ≢ q). n t.1) or

module _ (ms : List Machine_data) (known : ℕ → Part) where
  -- a part whose state and history stay
  pub same_legal : (p : ℕ) (a' : Part) → a'.state ≡ (known p).state → a'.history ≡ (known p).history → AreLegal ms known → AreLegal ms (at_put known p a')
  same_legal p a' st hist lives =
      let hs : (r : ℕ) → (known r).history ≡ (at_put known p a' r).history
      = λ r. put_case known p a' r (λ z. (known r).history ≡ z.history) (λ e. ap (λ (k : ℕ). (known k).history) e ∙ sym hist) (λ _. refl) in
      let ss : (r : ℕ) → (known r).state ≡ (at_put known p a' r).state = λ r. put_case known p a' r (λ z. (known r).state ≡ z.state) (λ e. ap (λ (k : ℕ). (known k).state) e ∙ sym st) (λ _. refl) in
      subst (λ (z : (ℕ → History) × Configuration). IsLegal ms z.0 z.1)
      (λ i. ((λ r. hs r i), record { at = λ r. ss r i; queue = λ x y. map message_of (drop (length (parcels_got x (hs y i))) (parcels_sent y (hs x i))) })) lives

  module _ (p q : ℕ) (apart : p ≢ q) (m : Parcel) (arms : List Arm) (arm : Arm) (at : (place : ℕ) × (slice_get arms place ≡ Some arm) × (arm.label ≡ m.label)) (has : HasSort m.value arm.sort) where
    pub sends : (a' : Part) → state_at ms (configuration_by known) p ≡ Some (Puts (role_of_number q) arms) → a'.state ≡ arm.next → a'.history ≡ (known p).history ++ sent_act q m ∷ []
        → length (parcels_got p (known q).history) ≤ length (parcels_sent q (known p).history)
        → (step : Sends ms (configuration_by known) p at.0 m.value (configuration_by (at_put known p a'))) × (Sent step.peer step.arm.label m.value ≡ sent_act q m)
    sends a' puts st hist le = let known' : ℕ → Part = at_put known p a' in (
      record {
        peer = role_of_number q;
        arms = arms;
        arm = arm;
        puts = puts;
        picks = at.1;
        has_sort = has;
        goes = put_case known p a' p (λ z. z.state ≡ arm.next) (λ _. st) (λ no'. absurd (no' refl));
        appends = let s : parcels_sent q (known' p).history ≡ parcels_sent q (known p).history ++ m ∷ [] = put_case known p a' p
            (λ z. parcels_sent q z.history ≡ parcels_sent q (known p).history ++ m ∷ []) (λ _. ap (parcels_sent q) hist ∙ sent_here q m (known p).history) (λ no'. absurd (no' refl)) in
            let g : parcels_got p (known' q).history ≡ parcels_got p (known q).history
            = put_case known p a' q (λ z. parcels_got p z.history ≡ parcels_got p (known q).history) (λ e. absurd (apart (sym e))) (λ _. refl) in
            ap (λ (z : List Parcel). map message_of z) ((λ i. drop (length (g i)) (s i)) ∙ drop-append-le (length (parcels_got p (known q).history)) (parcels_sent q (known p).history) (m ∷ []) le)
            ∙ map_snoc (drop (length (parcels_got p (known q).history)) (parcels_sent q (known p).history)) m
            ∙ ap (λ l. map message_of (drop (length (parcels_got p (known q).history)) (parcels_sent q (known p).history)) ++ record { label = l; value = m.value } ∷ []) (sym at.2);
        other_states = λ r ne. put_case known p a' r (λ z. z.state ≡ (known r).state) (λ e. absurd (ne e)) (λ _. refl);
        other_queues = λ x y or. let not = not_both x y p q or in
            let s : parcels_sent y (known' x).history ≡ parcels_sent y (known x).history
            = put_case known p a' x (λ z. parcels_sent y z.history ≡ parcels_sent y (known x).history)
            (λ e. ap (parcels_sent y) hist ∙ sent_other y q m (known p).history (λ yq. not (e, yq)) ∙ ap (λ (k : ℕ). parcels_sent y (known k).history) (sym e)) (λ _. refl) in
            let g : parcels_got x (known' y).history ≡ parcels_got x (known y).history
            = put_case known p a' y (λ z. parcels_got x z.history ≡ parcels_got x (known y).history)
            (λ e. ap (parcels_got x) hist ∙ last_none (parcel_got x) (known p).history (sent_act q m) refl ∙ ap (λ (k : ℕ). parcels_got x (known k).history) (sym e)) (λ _. refl) in
            λ i. map message_of (drop (length (g i)) (s i));
      },
      ap (λ l. Sent (role_of_number q) l m.value) at.2,
    )

    pub receives : (b' : Part) → state_at ms (configuration_by known) q ≡ Some (Takes (role_of_number p) arms) → b'.state ≡ arm.next → b'.history ≡ (known q).history ++ got_act p m ∷ []
        → get_elem? (parcels_sent q (known p).history) (length (parcels_got p (known q).history)) ≡ some m
        → (step : Receives ms (configuration_by known) q (configuration_by (at_put known q b'))) × (Got step.peer step.message.label step.message.value ≡ got_act p m)
    receives b' takes st hist first = let known' : ℕ → Part = at_put known q b' in (
      record {
        peer = role_of_number p;
        arms = arms;
        place = at.0;
        arm = arm;
        message = message_of m;
        takes = takes;
        removes = let s : parcels_sent q (known p).history ≡ parcels_sent q (known' p).history = put_case known q b' p (λ z. parcels_sent q (known p).history ≡ parcels_sent q z.history)
            (λ e. absurd (apart e)) (λ _. refl) in
            let g : parcels_got p (known' q).history ≡ parcels_got p (known q).history ++ m ∷ []
            = put_case known q b' q (λ z. parcels_got p z.history ≡ parcels_got p (known q).history ++ m ∷ []) (λ _. ap (parcels_got p) hist ∙ got_here p m (known q).history)
            (λ no'. absurd (no' refl)) in
            let n : suc (length (parcels_got p (known q).history)) ≡ length (parcels_got p (known' q).history) = omega (arith, ap length g, length-append (parcels_got p (known q).history) (m ∷ [])) in
            ap (λ (z : List Parcel). map message_of z) (drop_at (parcels_sent q (known p).history) (length (parcels_got p (known q).history)) m first ∙ (λ i. m ∷ drop (n i) (s i)));
        follows = at.1;
        same_label = at.2;
        has_sort = has;
        goes = put_case known q b' q (λ z. z.state ≡ arm.next) (λ _. st) (λ no'. absurd (no' refl));
        other_states = λ r ne. put_case known q b' r (λ z. z.state ≡ (known r).state) (λ e. absurd (ne e)) (λ _. refl);
        other_queues = λ x y or. let not = not_both x y p q or in
            let s : parcels_sent y (known' x).history ≡ parcels_sent y (known x).history
            = put_case known q b' x (λ z. parcels_sent y z.history ≡ parcels_sent y (known x).history)
            (λ e. ap (parcels_sent y) hist ∙ last_none (parcel_sent y) (known q).history (got_act p m) refl ∙ ap (λ (k : ℕ). parcels_sent y (known k).history) (sym e)) (λ _. refl) in
            let g : parcels_got x (known' y).history ≡ parcels_got x (known y).history
            = put_case known q b' y (λ z. parcels_got x z.history ≡ parcels_got x (known y).history)
            (λ e. ap (parcels_got x) hist ∙ got_other x p m (known q).history (λ xp. not (xp, e)) ∙ ap (λ (k : ℕ). parcels_got x (known k).history) (sym e)) (λ _. refl) in
            λ i. map message_of (drop (length (g i)) (s i));
      },
      refl,
    )

    -- the histories after a send are legal, and the act happened
    pub legal_sent : (a' : Part) → AreLegal ms known → state_at ms (configuration_by known) p ≡ Some (Puts (role_of_number q) arms) → a'.state ≡ arm.next
        → a'.history ≡ (known p).history ++ sent_act q m ∷ [] → length (parcels_got p (known q).history) ≤ length (parcels_sent q (known p).history)
        → AreLegal ms (at_put known p a') × Happened ms p (known p).history (sent_act q m)
    legal_sent a' lives puts st hist le = let told = sends a' puts st hist le in let step : Sends ms (configuration_by known) p at.0 m.value (configuration_by (at_put known p a')) = told.0 in
        let event : Event = Send (role_of_number p) at.0 m.value in
        let did : action_of ms (configuration_by known) event (configuration_by (at_put known p a')) step ≡ sent_act q m = told.1 in (
          legal_step ms (histories_of known) (histories_of (at_put known p a')) (configuration_by known) event (configuration_by (at_put known p a')) lives step
              (put_case known p a' p (λ z. z.history ≡ (known p).history ++ (action_of ms (configuration_by known) event (configuration_by (at_put known p a')) step ∷ []))
              (λ _. hist ∙ ap (λ (a : Action). (known p).history ++ a ∷ []) (sym did)) (λ no'. absurd (no' refl)))
              (λ r ne. put_case known p a' r (λ z. z.history ≡ (known r).history) (λ e. absurd (ne e)) (λ _. refl)),
          record {
            histories = histories_of known;
            before = configuration_by known;
            event = event;
            after = configuration_by
                (at_put known p a');
            legal = lives;
            own = refl;
            whose = refl;
            step = step;
            did = did;
          },
        )

    pub legal_got : (b' : Part) → AreLegal ms known → state_at ms (configuration_by known) q ≡ Some (Takes (role_of_number p) arms) → b'.state ≡ arm.next
        → b'.history ≡ (known q).history ++ got_act p m ∷ [] → get_elem? (parcels_sent q (known p).history) (length (parcels_got p (known q).history)) ≡ some m
        → AreLegal ms (at_put known q b') × Happened ms q (known q).history (got_act p m)
    legal_got b' lives takes st hist first = let told = receives b' takes st hist first in let step : Receives ms (configuration_by known) q (configuration_by (at_put known q b')) = told.0 in
        let event : Event = Receive (role_of_number q) in (
          legal_step ms (histories_of known) (histories_of (at_put known q b')) (configuration_by known) event (configuration_by (at_put known q b')) lives step
              (put_case known q b' q (λ z. z.history ≡ (known q).history ++ (action_of ms (configuration_by known) event (configuration_by (at_put known q b')) step ∷ []))
              (λ _. hist ∙ ap (λ (a : Action). (known q).history ++ a ∷ []) (sym told.1)) (λ no'. absurd (no' refl)))
              (λ r ne. put_case known q b' r (λ z. z.history ≡ (known r).history) (λ e. absurd (ne e)) (λ _. refl)),
          record {
            histories = histories_of known;
            before = configuration_by known;
            event = event;
            after = configuration_by
                (at_put known q b');
            legal = lives;
            own = refl;
            whose = refl;
            step = step;
            did = told.1;
          },
        )

-- where the machines are safe and well_formed formed, the head of the queue fits
pub fitting_arm : (ms : List Machine_data) (c : Configuration) (q p : ℕ) (arms : List Arm) (m : Parcel) (later : List Message) → IsSafe ms → AreWellFormed ms → IsReachable ms c
    → state_at ms c q ≡ Some (Takes (role_of_number p) arms) → c.queue p q ≡ message_of m ∷ later → HasFittingArm arms m
fitting_arm ms c q p arms m later safe well_formed reach takes head = by (arm_with arms m.label) refl
  where
    wrong : ((place : ℕ) (arm : Arm) → slice_get arms place ≡ Some arm → arm.label ≡ m.label → HasSort m.value arm.sort → ⊥) → ⊥
    wrong none' = safe.fits c reach record { role = q; peer = role_of_number p; arms = arms; message = message_of m; later = later; takes = takes; oldest = head; no_arm = none' }

    sorted : (arm : Arm) → arm_with arms m.label ≡ Some arm → (b : Bool) → fits m.value arm.sort ≡ b → HasFittingArm arms m
    sorted arm e true is = record { arm = arm; chosen = e; has = is }
    sorted arm e false is = absurd (wrong (λ place arm' there named has. let found = arm_at arms m.label arm e in
        let at = here_is (slice_get ms q) (c.at q) (Takes (role_of_number p) arms) takes in
        let once : place ≡ found.0 = ((well_formed.fits q at.0 at.1).takes (c.at q) (role_of_number p) arms at.2).once place found.0 arm' arm there found.1 (named ∙ sym found.2) in
        let same' : Some arm' ≡ Some arm = sym there ∙ ap (slice_get arms) once ∙ found.1 in
        let same : arm' ≡ arm = cc in true≢false (sym has ∙ ap (λ (a : Arm). fits m.value a.sort) same ∙ is)))

    by : (o : Option Arm) → arm_with arms m.label ≡ o → HasFittingArm arms m
    by None e = absurd (wrong (λ place arm there named has. arm_found arms m.label place arm there named e))
    by (Some arm) e = sorted arm e (fits m.value arm.sort) refl

-- the role of an event is one of the machines'
role_there : (ms : List Machine_data) (c : Configuration) (e : Event) (d : Configuration) → Step ms c e d → role_of e < length ms
role_there ms c (Send role place value) d step = let at = here_is (slice_get ms role.0) (c.at role.0) (Puts step.peer step.arms) step.puts in slice_get_within ms role.0 at.0 at.1
role_there ms c (Receive role) d step = let at = here_is (slice_get ms role.0) (c.at role.0) (Takes step.peer step.arms) step.takes in slice_get_within ms role.0 at.0 at.1

none_of : (ms : List Machine_data) (c : Configuration) (es : List Event) (d : Configuration) (steps : Steps ms c es d) (r : ℕ) → length ms ≤ r → history_of r ms c es d steps ≡ []
none_of ms c [] d steps r l = refl
none_of ms c (e ∷ es) d steps r l = elim (eqb_tells (role_of e) r) [
  | inl t ↦ (let there = role_there ms c e steps.0 steps.1 in let is = t.1 in absurd (omega arith))
  | inr t ↦ rw t.0 (none_of ms steps.0 es d steps.2 r l)
]

-- beyond the machines no role has done anything
pub no_acts : (ms : List Machine_data) (h : ℕ → History) (c : Configuration) → IsLegal ms h c → (r : ℕ) → length ms ≤ r → h r ≡ []
no_acts ms h c legal r l = legal.gives r ∙ none_of ms legal.first legal.events c legal.steps r l
