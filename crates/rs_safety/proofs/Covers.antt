-- A state of the projection covers a node of the protocol where it has all that is met first from there.
use Rattle.std.proofs.Common.{◌≡◌, ◌≢◌, ◌⊎◌, inl, inr, ℕ, suc, Bool, true, false, ◌||◌, List, [], ◌∷◌, ◌++◌, map, Option, Some, None, slice_get, refl, sym, ap, ◌∙◌, subst, if◌then◌else◌, ◌==◌}
use Rattle.std.proofs.Common.{arith, get_or}
use Rattle.std.specs.List.{Contains, flat_map}
use Rattle.std.proofs.lemmas.Option.{slice_get_within, slice_get-get_or}
use Rattle.rs_model.specs.Data.{Protocol_data}
use Rattle.rs_model.specs.declared.graph.Arm.{Arm}
use Rattle.rs_model.specs.declared.graph.Node.{Node}
use Rattle.rs_model.specs.declared.graph.Node.TheVariants.{Talk}
use Rattle.rs_model.specs.declared.graph.Role.{Role}
use Rattle.rs_model.specs.declared.machines.State.{State}
use Rattle.rs_model.specs.declared.machines.State.TheVariants.{Done, Puts, Takes}
use Rattle.rs_model.specs.Talks.{Talks}
use Rattle.rs_project.specs.Data.{Projection_data}
use Rattle.rs_project.specs.Graph.{LeadsTo, Involves, IsIdle, MeetsFirst, MeetsTheEnd}
use Rattle.rs_project.specs.Projection.{IsSet, LabelChoice, choice_of, choices_of, HaveSameChoices, HaveSameSorts, Agree, BothSend, BothReceive, first_choices, merged_choices, MeetsBehind}
use Rattle.rs_project.specs.Projection.{EndsBehind, IsStateOf, IsDone, IsPuts, IsTakes, IsProjection}
pub use Rattle.rs_project.proofs.Choices.{Labelled, arm_choice, has_label, member_choices, merged_label, same_label}
use Rattle.rs_safety.proofs.Members.{Among, contained, contains, among_split, no_member}
use Rattle.rs_safety.proofs.Walks.{step_of, involves_sender, involves_receiver}

-- the set of number t has the talk
pub record InSet (sets : List (List ℕ)) (t h : ℕ) : Type 0 where
  pub members : List ℕ
  pub stands : slice_get sets t ≡ Some members
  pub has : Contains members h

pub record Covers (pr : Protocol_data) (p : Role) (sets : List (List ℕ)) (t g : ℕ) : Type 0 where
  pub talks : (h : ℕ) → MeetsFirst pr p g h → InSet sets t h
  pub ends : MeetsTheEnd pr p g → slice_get sets t ≡ Some []

set_covers : (pr : Protocol_data) (p : Role) (sets : List (List ℕ)) (t g : ℕ) (M : ℕ → Type 0) (E : Type 0) → IsSet sets t M E
    → ((h : ℕ) → MeetsFirst pr p g h → M h) → (MeetsTheEnd pr p g → E) → Covers pr p sets t g
set_covers pr p sets t g M E s m e = record {
  talks = λ h f. record { members = s.members; stands = s.stands; has = (s.talks h).1 (m h f) };
  ends = λ f. (let n = s.ends.1 (e f) in rw (← n) s.stands);
}

pub covers_start : (pr : Protocol_data) (p : Role) (pj : Projection_data) → IsProjection pr p pj
    → Covers pr p pj.sets pj.machine.start pr.root
covers_start pr p pj is =
    let P : ℕ → Type 0 = λ z. Covers pr p pj.sets z pr.root in
    subst P (sym is.start) (set_covers pr p pj.sets 0 pr.root (MeetsFirst pr p pr.root) (MeetsTheEnd pr p pr.root) is.first (λ h m. m) (λ e. e))

-- each set has its state
pub record Stood (pr : Protocol_data) (p : Role) (pj : Projection_data) (t : ℕ) (members : List ℕ) : Type 0 where
  pub state : State
  pub stands : slice_get pj.machine.states t ≡ Some state
  pub of : IsStateOf pr p pj.sets members state

pub stood : (pr : Protocol_data) (p : Role) (pj : Projection_data) (t : ℕ) (members : List ℕ) → IsProjection pr p pj
    → slice_get pj.sets t ≡ Some members → Stood pr p pj t members
stood pr p pj t members is h =
    let all = is.all in
    let w = slice_get_within pj.sets t members h in
    let st : State = get_or pj.machine.states t Done in
    let at : slice_get pj.machine.states t ≡ Some st = slice_get-get_or pj.machine.states t Done (omega arith) in
    record { state = st; stands = at; of = is.states t members st h at }

-- a set without talks has the state Done
done_of_end : (pr : Protocol_data) (p : Role) (pj : Projection_data) (t : ℕ) → IsProjection pr p pj → slice_get pj.sets t ≡ Some []
    → slice_get pj.machine.states t ≡ Some Done
done_of_end pr p pj t is e = let s = stood pr p pj t [] is e in go s.state s.stands s.of
  where
    go : (st : State) → slice_get pj.machine.states t ≡ Some st → IsStateOf pr p pj.sets [] st
        → slice_get pj.machine.states t ≡ Some Done
    go st at (IsDone n d) = cc (at, d)
    go st at (IsPuts q arms n each d a) = absurd (n refl)
    go st at (IsTakes q arms n each d a) = absurd (n refl)

-- a covered idle node: the state is Done
pub covers_idle : (pr : Protocol_data) (p : Role) (pj : Projection_data) (t g : ℕ) → IsProjection pr p pj → Covers pr p pj.sets t g
    → IsIdle pr p g → slice_get pj.machine.states t ≡ Some Done
covers_idle pr p pj t g is cov idle = done_of_end pr p pj t is (cov.ends record { steps = []; last = g; path = refl; earlier = tt; idle = idle })

-- what covers a node that does not involve p covers its next nodes
pub covers_next : (pr : Protocol_data) (p : Role) (sets : List (List ℕ)) (t g a h : ℕ) → Covers pr p sets t g
    → (Involves pr p g → ⊥) → LeadsTo pr g a h → Covers pr p sets t h
covers_next pr p sets t g a h cov un goes = record {
  talks = λ k m. cov.talks k record {
    steps = step_of g a ∷ m.steps;
    path = (h, refl, goes, m.path);
    earlier = (record { uninvolved = un; awaited = λ idle. idle k (step_of g a ∷ m.steps, (h, refl, goes, m.path)) m.involved }, m.earlier);
    involved = m.involved;
  };
  ends = λ e. end_stays e (slice_get sets t) refl;
}
  where
    still : (IsIdle pr p g → ⊥) → MeetsTheEnd pr p h → slice_get sets t ≡ Some []
    still awaited e = cov.ends record {
      steps = step_of g a ∷ e.steps;
      last = e.last;
      path = (h, refl, goes, e.path);
      earlier = (record { uninvolved = un; awaited = awaited }, e.earlier);
      idle = e.idle;
    }

    at_once : IsIdle pr p g → slice_get sets t ≡ Some []
    at_once idle = cov.ends record { steps = []; last = g; path = refl; earlier = tt; idle = idle }

    end_stays : MeetsTheEnd pr p h → (o : Option (List ℕ)) → slice_get sets t ≡ o → slice_get sets t ≡ Some []
    end_stays e (Some []) s = s
    end_stays e None s = still (λ idle. cc (s, at_once idle)) e
    end_stays e (Some (x ∷ xs)) s = still (λ idle. cc (s, at_once idle)) e

-- a covered node at a state that is not Done is not idle
pub covers_awaited : (pr : Protocol_data) (p : Role) (pj : Projection_data) (t g : ℕ) → IsProjection pr p pj
    → Covers pr p pj.sets t g → (slice_get pj.machine.states t ≡ Some Done → ⊥) → IsIdle pr p g → ⊥
covers_awaited pr p pj t g is cov live idle = live (covers_idle pr p pj t g is cov idle)

-- choices and arms
pub choice_arm : (arms : List Arm) (c : LabelChoice) → Among (map choice_of arms) c
    → (k : ℕ) × (arm : Arm) × (slice_get arms k ≡ Some arm) × (choice_of arm ≡ c)
choice_arm [] c h = absurd h
choice_arm (a ∷ arms) c (inl e) = (0, a, refl, e)
choice_arm (a ∷ arms) c (inr h) = let r = choice_arm arms c h in (suc r.0, r.1, r.2, r.3)

-- the first choices are choices
pub first_from : (cs earlier : List LabelChoice) (c : LabelChoice) → Among (first_choices cs earlier) c → Among cs c
first_from [] earlier c h = h
first_from (a ∷ later) earlier c h = go (has_label a.label earlier) (first_from later earlier c) (first_from later (earlier ++ (a ∷ [])) c) h
  where
    go : (b : Bool) → (Among (first_choices later earlier) c → Among later c)
        → (Among (first_choices later (earlier ++ (a ∷ []))) c → Among later c)
        → Among (if b then first_choices later earlier else a ∷ first_choices later (earlier ++ (a ∷ []))) c → Among (a ∷ later) c
    go true skip keep h' = inr (skip h')
    go false skip keep (inl e) = inl e
    go false skip keep (inr h') = inr (keep h')

flat_from : (pr : Protocol_data) (members : List ℕ) (c : LabelChoice) → Among (flat_map (λ n. choices_of (slice_get pr.nodes n)) members) c
    → (h : ℕ) × Among members h × Among (member_choices pr h) c
flat_from pr [] c h = absurd h
flat_from pr (m ∷ ms) c h = elim (among_split (member_choices pr m) (flat_map (λ n. choices_of (slice_get pr.nodes n)) ms) c h) [
  | inl a ↦ (m, inl refl, a)
  | inr b ↦ (let r = flat_from pr ms c b in (r.0, inr r.1, r.2))
]

-- what is merged comes from a member
pub merged_from : (pr : Protocol_data) (members : List ℕ) (c : LabelChoice) → Among (merged_choices pr members) c
    → (h : ℕ) × Contains members h × Among (member_choices pr h) c
merged_from pr members c h =
    let r = flat_from pr members c (first_from (flat_map (λ n. choices_of (slice_get pr.nodes n)) members) [] c h) in
    (r.0, contains members r.0 r.1, r.2)

-- a covered send of p: the state puts to its receiver, with arms that the talk has
pub record PutsAt (pr : Protocol_data) (p : Role) (pj : Projection_data) (t : ℕ) (y : Role) (theirs : List Arm) : Type 0 where
  pub arms : List Arm
  pub stands : slice_get pj.machine.states t ≡ Some (Puts y arms)
  pub each : (k : ℕ) (arm : Arm) → slice_get arms k ≡ Some arm
      → (a : ℕ) × (to : Arm) × (slice_get theirs a ≡ Some to) × (to.label ≡ arm.label) × (to.sort ≡ arm.sort) × Covers pr p pj.sets arm.next to.next

-- a covered receive of p: the state takes from its sender, with all arms of the talk
pub record TakesAt (pr : Protocol_data) (p : Role) (pj : Projection_data) (t : ℕ) (x : Role) (theirs : List Arm) : Type 0 where
  pub arms : List Arm
  pub stands : slice_get pj.machine.states t ≡ Some (Takes x arms)
  pub each : (a : ℕ) (to : Arm) → slice_get theirs a ≡ Some to
      → (k : ℕ) × (arm : Arm) × (slice_get arms k ≡ Some arm) × (arm.label ≡ to.label) × (arm.sort ≡ to.sort) × Covers pr p pj.sets arm.next to.next

-- what two agreeing members are, where the second is known
agree_put : (pr : Protocol_data) (p : Role) (h g : ℕ) (y : Role) (theirs : List Arm) → p ≢ y → Talks pr g p y theirs
    → Agree pr p h g → (bs : List Arm) × Talks pr h p y bs × HaveSameChoices bs theirs
agree_put pr p h g y theirs ne is (BothSend q bs cs nh ng same) =
    let e : Some (Talk p q cs) ≡ Some (Talk p y theirs) = sym ng ∙ is in
    let eq : q ≡ y = cc (e) in
    let ec : cs ≡ theirs = cc (e) in
    let P : List Arm → Type 0 = λ z. HaveSameChoices bs z in
    (bs, cc (nh, eq), subst P ec same)
agree_put pr p h g y theirs ne is (BothReceive q bs cs nh ng same) =
    let e : Some (Talk q p cs) ≡ Some (Talk p y theirs) = sym ng ∙ is in
    let ep : p ≡ y = cc (e) in
    absurd (ne ep)

agree_take : (pr : Protocol_data) (p : Role) (h g : ℕ) (x : Role) (theirs : List Arm) → x ≢ p → Talks pr g x p theirs
    → Agree pr p h g → (bs : List Arm) × Talks pr h x p bs × HaveSameSorts bs theirs
agree_take pr p h g x theirs ne is (BothSend q bs cs nh ng same) =
    let e : Some (Talk p q cs) ≡ Some (Talk x p theirs) = sym ng ∙ is in
    let ep : x ≡ p = cc (e) in
    absurd (ne ep)
agree_take pr p h g x theirs ne is (BothReceive q bs cs nh ng same) =
    let e : Some (Talk q p cs) ≡ Some (Talk x p theirs) = sym ng ∙ is in
    let eq : q ≡ x = cc (e) in
    let ec : cs ≡ theirs = cc (e) in
    let P : List Arm → Type 0 = λ z. HaveSameSorts bs z in
    (bs, cc (nh, eq), subst P ec same)

behind_covers : (pr : Protocol_data) (p : Role) (pj : Projection_data) (members : List ℕ) (g a : ℕ) (to arm : Arm) → Contains members g
    → (goes : LeadsTo pr g a to.next) → goes.arm ≡ to → to.label ≡ arm.label
    → IsSet pj.sets arm.next (MeetsBehind pr p members arm.label) (EndsBehind pr p members arm.label)
    → Covers pr p pj.sets arm.next to.next
behind_covers pr p pj members g a to arm member goes same label s =
    let l : goes.arm.label ≡ arm.label = ap (λ (z : Arm). z.label) same ∙ label in
    set_covers pr p pj.sets arm.next to.next (MeetsBehind pr p members arm.label) (EndsBehind pr p members arm.label) s
    (λ h m. (to.next, record { talk = g; member = member; place = a; step = goes; its_label = l }, m))
    (λ m. (to.next, record { talk = g; member = member; place = a; step = goes; its_label = l }, m))

put_state : (pr : Protocol_data) (p : Role) (pj : Projection_data) (t g : ℕ) (y : Role) (theirs : List Arm) (members : List ℕ) (st : State)
    → IsProjection pr p pj → p ≢ y → Talks pr g p y theirs
    → slice_get pj.sets t ≡ Some members → Contains members g → slice_get pj.machine.states t ≡ Some st
    → IsStateOf pr p pj.sets members st → PutsAt pr p pj t y theirs
put_state pr p pj t g y theirs members st is ne ng at member is_st (IsDone e d) = absurd (no_member members g e member)
put_state pr p pj t g y theirs members st is ne ng at member is_st (IsTakes q arms n each d ar) =
    let r = each g member in
    let same : Some (Talk q p r.0) ≡ Some (Talk p y theirs) = sym r.1 ∙ ng in
    let ep : p ≡ y = cc (same) in
    absurd (ne ep)
put_state pr p pj t g y theirs members st is ne ng at member is_st (IsPuts q arms n each d ar) =
    let r = each g member in
    let same : Some (Talk p q r.0) ≡ Some (Talk p y theirs) = sym r.1 ∙ ng in
    let eq : q ≡ y = cc (same) in
    record { arms = arms; stands = cc (is_st, d, eq); each = one }
  where
    from_member : (k : ℕ) (arm : Arm) → slice_get arms k ≡ Some arm → Among (map choice_of theirs) (choice_of arm)
    from_member k arm h =
        let P : List LabelChoice → Type 0 = λ z. Among z (choice_of arm) in
        let m = merged_from pr members (choice_of arm) (subst P ar.choices (arm_choice arms k arm h)) in
        let a = agree_put pr p m.0 g y theirs ne ng (is.agree t members at m.0 g m.1 member) in
        let Q : Option Node → Type 0 = λ z. Among (choices_of z) (choice_of arm) in
        contained (map choice_of theirs) (choice_of arm) ((a.2 (choice_of arm)).0 (contains (map choice_of a.0) (choice_of arm) (subst Q a.1 m.2)))

    one : (k : ℕ) (arm : Arm) → slice_get arms k ≡ Some arm
        → (a : ℕ) × (to : Arm) × (slice_get theirs a ≡ Some to) × (to.label ≡ arm.label) × (to.sort ≡ arm.sort) × Covers pr p pj.sets arm.next to.next
    one k arm h =
        let f = choice_arm theirs (choice_of arm) (from_member k arm h) in
        let label : f.1.label ≡ arm.label = ap (λ (z : LabelChoice). z.label) f.3 in
        let goes : LeadsTo pr g f.0 f.1.next = record { sender = p; receiver = y; arms = theirs; arm = f.1; talks = ng; stands = f.2; leads = refl } in
        (f.0, f.1, f.2, label, ap (λ (z : LabelChoice). z.sort) f.3, behind_covers pr p pj members g f.0 f.1 arm member goes refl label (ar.nexts k arm h))

pub covers_put : (pr : Protocol_data) (p : Role) (pj : Projection_data) (t g : ℕ) (y : Role) (theirs : List Arm) → IsProjection pr p pj
    → p ≢ y → Talks pr g p y theirs → Covers pr p pj.sets t g → PutsAt pr p pj t y theirs
covers_put pr p pj t g y theirs is ne ng cov =
    let m = cov.talks g record { steps = []; path = refl; earlier = tt; involved = involves_sender pr p g y theirs ng } in
    let s = stood pr p pj t m.members is m.stands in
    put_state pr p pj t g y theirs m.members s.state is ne ng m.stands m.has s.stands s.of

take_state : (pr : Protocol_data) (p : Role) (pj : Projection_data) (t g : ℕ) (x : Role) (theirs : List Arm) (members : List ℕ) (st : State)
    → IsProjection pr p pj → x ≢ p → Talks pr g x p theirs
    → slice_get pj.sets t ≡ Some members → Contains members g → slice_get pj.machine.states t ≡ Some st
    → IsStateOf pr p pj.sets members st → TakesAt pr p pj t x theirs
take_state pr p pj t g x theirs members st is ne ng at member is_st (IsDone e d) = absurd (no_member members g e member)
take_state pr p pj t g x theirs members st is ne ng at member is_st (IsPuts q arms n each d ar) =
    let r = each g member in
    let same : Some (Talk p q r.0) ≡ Some (Talk x p theirs) = sym r.1 ∙ ng in
    let ep : x ≡ p = cc (same) in
    absurd (ne ep)
take_state pr p pj t g x theirs members st is ne ng at member is_st (IsTakes q arms n each d ar) =
    let r = each g member in
    let same : Some (Talk q p r.0) ≡ Some (Talk x p theirs) = sym r.1 ∙ ng in
    let eq : q ≡ x = cc (same) in
    record { arms = arms; stands = cc (is_st, d, eq); each = one }
  where
    sorts : (k : ℕ) (arm to : Arm) (a : ℕ) → slice_get arms k ≡ Some arm → slice_get theirs a ≡ Some to → arm.label ≡ to.label
        → arm.sort ≡ to.sort
    sorts k arm to a h ha el =
        let P : List LabelChoice → Type 0 = λ z. Among z (choice_of arm) in
        let m = merged_from pr members (choice_of arm) (subst P ar.choices (arm_choice arms k arm h)) in
        let ag = agree_take pr p m.0 g x theirs ne ng (is.agree t members at m.0 g m.1 member) in
        let Q : Option Node → Type 0 = λ z. Among (choices_of z) (choice_of arm) in
        ag.2 (choice_of arm) (choice_of to) (contains (map choice_of ag.0) (choice_of arm) (subst Q ag.1 m.2)) (contains (map choice_of theirs) (choice_of to) (arm_choice theirs a to ha)) el

    one : (a : ℕ) (to : Arm) → slice_get theirs a ≡ Some to
        → (k : ℕ) × (arm : Arm) × (slice_get arms k ≡ Some arm) × (arm.label ≡ to.label) × (arm.sort ≡ to.sort) × Covers pr p pj.sets arm.next to.next
    one a to ha =
        let Q : Option Node → Type 0 = λ z. Among (choices_of z) (choice_of to) in
        let ml = merged_label pr members g (choice_of to) member (subst Q (sym ng) (arm_choice theirs a to ha)) in
        let P : List LabelChoice → Type 0 = λ z. Among z ml.0 in
        let fa = choice_arm arms ml.0 (subst P (sym ar.choices) ml.1) in
        let label : fa.1.label ≡ to.label = ap (λ (z : LabelChoice). z.label) fa.3 ∙ ml.2 in
        let goes : LeadsTo pr g a to.next = record { sender = x; receiver = p; arms = theirs; arm = to; talks = ng; stands = ha; leads = refl } in
        (fa.0, fa.1, fa.2, label, sorts fa.0 fa.1 to a fa.2 ha label, behind_covers pr p pj members g a to fa.1 member goes refl (sym label) (ar.nexts fa.0 fa.1 fa.2))

pub covers_take : (pr : Protocol_data) (p : Role) (pj : Projection_data) (t g : ℕ) (x : Role) (theirs : List Arm) → IsProjection pr p pj
    → x ≢ p → Talks pr g x p theirs → Covers pr p pj.sets t g → TakesAt pr p pj t x theirs
covers_take pr p pj t g x theirs is ne ng cov =
    let m = cov.talks g record { steps = []; path = refl; earlier = tt; involved = involves_receiver pr p g x theirs ng } in
    let s = stood pr p pj t m.members is m.stands in
    take_state pr p pj t g x theirs m.members s.state is ne ng m.stands m.has s.stands s.of
