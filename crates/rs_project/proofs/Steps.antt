-- The work on the states, state by state.
use Rattle.std.proofs.Common.{◌≡◌, ◌⊎◌, inl, inr, ℕ, zero, suc, ◌<◌, ◌≤◌, Bool, true, false, List, [], ◌∷◌, ◌++◌, length, map, Some, slice_get, refl, sym, ap, ap₂, ◌∙◌, subst, subst₂, arith}
use Rattle.std.proofs.Common.{length-append}
use Rattle.std.specs.List.{All, Contains}
use Rattle.rs_model.specs.Data.{Protocol_data}
use Rattle.rs_model.specs.declared.graph.Arm.{Arm}
use Rattle.rs_model.specs.declared.graph.Role.{Role}
use Rattle.rs_model.specs.declared.machines.State.{State}
use Rattle.rs_model.specs.declared.machines.State.TheVariants.{Done, Puts, Takes}
use Rattle.rs_project.specs.Data.{Front_data}
use Rattle.rs_project.specs.Filing.{lone_front}
use Rattle.rs_project.specs.Graph.{Involves, MeetsFirst, MeetsTheEnd}
use Rattle.rs_graph.specs.Lists.{Among}
use Rattle.rs_project.specs.Marks.{IsSurvey, Survey_data, StartMeets, StartEnds}
use Rattle.rs_graph.specs.Order.{Numbered, NoMore, Worked, AllDone}
use Rattle.rs_project.specs.Numbered.{IsNumberedProjection, nexts_of, nexts_behind}
use Rattle.rs_project.specs.Projection.{IsSet, LabelChoice, choice_of, merged_choices, MeetsBehind, EndsBehind, IsStateOf, IsDone, IsPuts, IsTakes}
use Rattle.rs_project.specs.Refusals.{IsFront, IsFrontAt, Merges, AreBehind, ComesTo, FirstRefusal, NoneUnreached}
use Rattle.rs_project.specs.Working.{KeepsFronts, AreFoundFronts, Discovers, TooManyAt, HasShape, WorksOn, ArmsFault, StateFault, IsDoneWith, Working}
use Rattle.rs_project.specs.declared.projecting.ProjFault.{ProjFault}
use Rattle.rs_project.specs.declared.projecting.ProjFault.TheVariants.{Unmergeable, Unreached, TooManyStates, NoMemory}
use Rattle.rs_project.proofs.Lists.{contained, contains, at_short, at_within, at_map}
use Rattle.rs_project.proofs.Meetings.{meets_some}
use Rattle.rs_project.proofs.Numbers.{at_push, behind_kept, worked_push, same_front}
use Rattle.rs_project.proofs.Behind.{involved_within}
use Rattle.rs_project.proofs.Cycles.{all_by}
use Rattle.rs_project.proofs.Agreeing.{merges_by}
use Rattle.rs_project.specs.Clashes.{AllAgree, HasEndAlone}
use Rattle.rs_wellformed.specs.WellFormed.{IsWellFormed}

-- the front from the root alone
pub front_root : (pr : Protocol_data) (role : Role) (f : Front_data) → IsFront f (StartMeets pr role (pr.root ∷ [])) (StartEnds pr role (pr.root ∷ []))
    → IsFront f (MeetsFirst pr role pr.root) (MeetsTheEnd pr role pr.root)
front_root pr role f is = record {
  rising = is.rising;
  talks = λ t. (
    (λ h. (let m = (is.talks t).0 h in elim m.among [
      | inl e ↦ (let P : ℕ → Type 0 = λ z. MeetsFirst pr role z t in subst P (sym e) m.meets)
      | inr n ↦ absurd n
    ])),
    (λ m. (is.talks t).1 record { start = pr.root; among = inl refl; meets = m }),
  );
  ends = (
    (λ e. (let m = is.ends.0 e in elim m.among [
      | inl k ↦ (let P : ℕ → Type 0 = λ z. MeetsTheEnd pr role z in subst P (sym k) m.ends)
      | inr n ↦ absurd n
    ])),
    (λ m. is.ends.1 record { start = pr.root; among = inl refl; ends = m }),
  );
}

pub working_begin : (pr : Protocol_data) (role : Role) (sv : Survey_data) (f : Front_data) → IsSurvey pr role sv → IsFront f (MeetsFirst pr role pr.root) (MeetsTheEnd pr role pr.root)
    → Working pr role (f ∷ []) []
working_begin pr role sv f is front = record {
  found = record {
    once = λ i j x a b. (let p = at_short (f ∷ []) i x a in let q = at_short (f ∷ []) j x b in omega (arith, p, q));
    bounded = omega arith;
    right = λ k g t h m. (let e = one k g h in let P : Front_data → Type 0 = λ z. Among z.talks t in ((front.talks t).0 (contains f.talks t (subst P (sym e) m))).involved);
    told = λ k g h e. (let s = one k g h in let P : Front_data → Type 0 = λ z. z.talks ≡ [] in let Q : Front_data → Type 0 = λ z. z.ends ≡ true in subst Q s (told (subst P (sym s) e)));
  };
  first = record { front = f; stands = refl; is_front = front };
  order = AllDone 0 1;
  ahead = omega arith;
  done = λ k g st h n. absurd (cc (n));
}
  where
    one : (k : ℕ) (g : Front_data) → slice_get (f ∷ []) k ≡ Some g → f ≡ g
    one zero g h = cc (h)
    one (suc k) g h = absurd (cc (h))

    told : f.talks ≡ [] → f.ends ≡ true
    told e = elim (meets_some pr role sv is pr.root) [
      | inl m ↦ (let P : List ℕ → Type 0 = λ z. Among z m.0 in absurd (subst P e (contained f.talks m.0 ((front.talks m.0).1 m.1))))
      | inr m ↦ front.ends.1 m
    ]

map_last : (states : List State) (st : State) → map nexts_behind (states ++ (st ∷ [])) ≡ map nexts_behind states ++ (nexts_behind st ∷ [])
map_last [] st = refl
map_last (x ∷ states) st = ap (λ z. nexts_behind x ∷ z) (map_last states st)

map_length : (states : List State) → length (map nexts_behind states) ≡ length states
map_length [] = refl
map_length (x ∷ states) = ap suc (map_length states)

at_kept : (old new : List Front_data) (k : ℕ) (f : Front_data) → KeepsFronts old new → k < length old → slice_get new k ≡ Some f → slice_get old k ≡ Some f
at_kept old new k f kept h at =
    let w = at_within old k h in
    let n = kept k w.0 w.1 in
    let e : w.0 ≡ f = cc (n, at) in
    w.1 ∙ ap Some e

done_kept : (pr : Protocol_data) (role : Role) (old new : List Front_data) (f : Front_data) (st : State) → KeepsFronts old new → IsDoneWith pr role old f st → IsDoneWith pr role new f st
done_kept pr role old new f st kept d = record {
  merges = d.merges;
  behind = behind_kept pr role old new f.talks kept (merged_choices pr f.talks) (nexts_behind st) d.behind;
  shape = d.shape;
}

pub working_on : (pr : Protocol_data) (role : Role) (fronts new : List Front_data) (states more : List State) (st : State) → more ≡ states ++ (st ∷ []) → Working pr role fronts states
    → WorksOn pr role fronts (length states) new st → Working pr role new more
working_on pr role fronts new states more st e w o =
    let P : List State → Type 0 = λ z. Working pr role new z in
    let d = o.discovers in
    let k = at_short fronts (length states) o.front o.here in
    let Q : List (List ℕ) → Type 0 = λ z. Worked 0 1 z (length new) in
    let n = at_short new (length states) o.front (d.kept (length states) o.front o.here) in
    subst P (sym e) record {
      found = d.found;
      first = record { front = w.first.front; stands = d.kept 0 w.first.front w.first.stands; is_front = w.first.is_front };
      order = subst Q (sym (map_last states st)) (worked_push 0 1 (length fronts) (length new) (map nexts_behind states) (nexts_behind st) w.order
          (let m = map_length states in omega (arith, m, k)) d.numbered);
      ahead = (let l = length-append states (st ∷ []) in omega (arith, l, n));
      done = λ i f s hf hs. elim (at_push states st i s hs) [
        | inl q ↦ (let short = at_short states i s q in
            done_kept pr role fronts new f s d.kept (w.done i f s (at_kept fronts new i f d.kept (let a = w.ahead in omega (arith, short, a)) hf) q))
        | inr q ↦ (let R : ℕ → Type 0 = λ z. slice_get new z ≡ Some f in
            let here = d.kept (length states) o.front o.here in
            let hf' = subst R q.0 hf in
            let ef : o.front ≡ f = cc (here, hf') in
            let S : Front_data → State → Type 0 = λ x y. IsDoneWith pr role new x y in
            subst₂ S ef q.1 record { merges = o.merges; behind = d.behind; shape = o.shape })
      ];
    }

-- the rows of the states
rows_at : (states : List State) (k : ℕ) (r : List ℕ) → slice_get (map nexts_behind states) k ≡ Some r → (st : State) × (slice_get states k ≡ Some st) × (nexts_behind st ≡ r)
rows_at [] k r h = absurd (cc (h))
rows_at (x ∷ states) zero r h = (x, refl, cc (h))
rows_at (x ∷ states) (suc k) r h = rows_at states k r h

comes_to : (pr : Protocol_data) (role : Role) (fronts mid : List Front_data) (states : List State) (row : List ℕ) (front : Front_data) → Working pr role fronts states → KeepsFronts fronts mid
    → AreFoundFronts pr role mid
    → Numbered (length fronts) row (length mid) → slice_get fronts (length states) ≡ Some front → ComesTo pr role mid (map nexts_behind states) row front
comes_to pr role fronts mid states row front w kept found nu here =
    let l = map_length states in
    let P : ℕ → Type 0 = λ z. slice_get mid z ≡ Some front in
    record {
      first = record { front = w.first.front; stands = kept 0 w.first.front w.first.stands; is_front = w.first.is_front };
      once = found.once;
      bounded = found.bounded;
      order = worked_push 0 1 (length fronts) (length mid) (map nexts_behind states) row w.order (let k = at_short fronts (length states) front here in omega (arith, l, k)) nu;
      merged = λ k f r hf hr. (let s = rows_at states k r hr in (at k f s.0 hf s.1).merges);
      behind = λ k f r hf hr. (let s = rows_at states k r hr in
          let Q : List ℕ → Type 0 = λ z. AreBehind pr role mid f.talks (merged_choices pr f.talks) z in subst Q s.2 (at k f s.0 hf s.1).behind);
      here = subst P (sym l) (kept (length states) front here);
    }
  where
    at : (k : ℕ) (f : Front_data) (s : State) → slice_get mid k ≡ Some f → slice_get states k ≡ Some s → IsDoneWith pr role mid f s
    at k f s hf hs =
        let short = at_short states k s hs in
        done_kept pr role fronts mid f s kept (w.done k f s (at_kept fronts mid k f kept (let a = w.ahead in omega (arith, short, a)) hf) hs)

pub work_fault : (pr : Protocol_data) (role : Role) (fronts : List Front_data) (states : List State) → NoneUnreached pr role → Working pr role fronts states
    → (e : ProjFault) → StateFault pr role fronts (length states) e → (e ≡ NoMemory) ⊎ FirstRefusal pr role e
work_fault pr role fronts states none w (Unmergeable r a b) h = inr (
  h.0,
  none,
  record {
    fronts = fronts;
    rows = map nexts_behind states;
    front = h.1.front;
    comes = comes_to pr role fronts fronts states [] h.1.front w (λ n f k. k) w.found (NoMore (length fronts)) h.1.here;
    clash = h.1.clash;
  },
)
work_fault pr role fronts states none w (TooManyStates r) h =
    let m = h.1.many in
    let d = m.discovers in
    inr (
      h.0,
      none,
      record {
        fronts = m.fronts;
        rows = map nexts_behind states;
        row = m.row;
        front = h.1.front;
        comes = comes_to pr role fronts m.fronts states m.row h.1.front w d.kept d.found d.numbered h.1.here;
        many = m.none.many;
        merges = h.1.merges;
        before = m.before;
        choice = m.choice;
        after = m.after;
        choices = m.split;
        behind = d.behind;
        another = λ n at. (let e = same_front at.front m.none.front (MeetsBehind pr role h.1.front.talks m.choice.label) (EndsBehind pr role h.1.front.talks m.choice.label) at.is_front
            m.none.is_front in
            m.none.new n (at.stands ∙ ap Some e));
      },
    )
work_fault pr role fronts states none w (Unreached r n) h = absurd h
work_fault pr role fronts states none w NoMemory h = inl refl

-- the whole projection
sets_at : (fronts : List Front_data) (k : ℕ) (xs : List ℕ) → slice_get (map (λ (f : Front_data). f.talks) fronts) k ≡ Some xs → (f : Front_data) × (slice_get fronts k ≡ Some f) × (f.talks ≡ xs)
sets_at [] k xs h = absurd (cc (h))
sets_at (f ∷ fronts) zero xs h = (f, refl, cc (h))
sets_at (f ∷ fronts) (suc k) xs h = sets_at fronts k xs h

sets_length : (fronts : List Front_data) → length (map (λ (f : Front_data). f.talks) fronts) ≡ length fronts
sets_length [] = refl
sets_length (f ∷ fronts) = ap suc (sets_length fronts)

set_of : (fronts : List Front_data) (n : ℕ) (M : ℕ → Type 0) (E : Type 0) (at : IsFrontAt fronts n M E) → (at.front.ends ≡ true → at.front.talks ≡ []) → (at.front.talks ≡ [] → at.front.ends ≡ true)
    → IsSet (map (λ (f : Front_data). f.talks) fronts) n M E
set_of fronts n M E at alone told = record {
  members = at.front.talks;
  stands = at_map (λ (f : Front_data). f.talks) fronts n at.front at.stands;
  rising = at.is_front.rising;
  talks = at.is_front.talks;
  ends = ((λ e. at.is_front.ends.0 (told e)), (λ m. alone (at.is_front.ends.1 m)));
}

behind_at : (pr : Protocol_data) (role : Role) (fronts : List Front_data) (talks : List ℕ) (arms : List Arm) → AreBehind pr role fronts talks (map choice_of arms) (nexts_of arms)
    → (place : ℕ) (a : Arm) → slice_get arms place ≡ Some a → IsFrontAt fronts a.next (MeetsBehind pr role talks a.label) (EndsBehind pr role talks a.label)
behind_at pr role fronts talks [] h place a at = absurd (cc (at))
behind_at pr role fronts talks (x ∷ arms) h zero a at =
    let e : x ≡ a = cc (at) in
    let P : Arm → Type 0 = λ z. IsFrontAt fronts z.next (MeetsBehind pr role talks z.label) (EndsBehind pr role talks z.label) in
    subst P e h.0
behind_at pr role fronts talks (x ∷ arms) h (suc place) a at = behind_at pr role fronts talks arms h.1 place a at

state_of : (pr : Protocol_data) (role : Role) (fronts : List Front_data) (f : Front_data) (st : State)
    → ((n : ℕ) (M : ℕ → Type 0) (E : Type 0) → IsFrontAt fronts n M E → IsSet (map (λ (g : Front_data). g.talks) fronts) n M E) → IsDoneWith pr role fronts f st
    → IsStateOf pr role (map (λ (g : Front_data). g.talks) fronts) f.talks st
state_of pr role fronts f Done set d = IsDone d.shape refl
state_of pr role fronts f (Puts peer arms) set d = IsPuts peer arms d.shape.0 d.shape.1 refl record {
  choices = d.shape.2;
  nexts = λ place a at.
      let P : List LabelChoice → Type 0 = λ z. AreBehind pr role fronts f.talks z (nexts_of arms) in
      set a.next (MeetsBehind pr role f.talks a.label) (EndsBehind pr role f.talks a.label) (behind_at pr role fronts f.talks arms (subst P (sym d.shape.2) d.behind) place a at);
}
state_of pr role fronts f (Takes peer arms) set d = IsTakes peer arms d.shape.0 d.shape.1 refl record {
  choices = d.shape.2;
  nexts = λ place a at.
      let P : List LabelChoice → Type 0 = λ z. AreBehind pr role fronts f.talks z (nexts_of arms) in
      set a.next (MeetsBehind pr role f.talks a.label) (EndsBehind pr role f.talks a.label) (behind_at pr role fronts f.talks arms (subst P (sym d.shape.2) d.behind) place a at);
}

same_ends : (f g : Front_data) → f.talks ≡ g.talks → (f.ends ≡ true → f.talks ≡ []) → (f.talks ≡ [] → f.ends ≡ true) → (g.ends ≡ true → g.talks ≡ []) → (g.talks ≡ [] → g.ends ≡ true) → f ≡ g
same_ends f g e af tf ag tg = go f.ends g.ends refl refl
  where
    go : (x y : Bool) → f.ends ≡ x → g.ends ≡ y → f ≡ g
    go true true ex ey = let mk : Bool → List ℕ → Front_data = λ x y. record { talks = y; ends = x } in ap₂ mk (ex ∙ sym ey) e
    go false false ex ey = let mk : Bool → List ℕ → Front_data = λ x y. record { talks = y; ends = x } in ap₂ mk (ex ∙ sym ey) e
    go true false ex ey = (let h = tg (sym e ∙ af ex) in absurd (cc (h, ey)))
    go false true ex ey = (let h = tf (e ∙ ag ey) in absurd (cc (h, ex)))

pub working_done : (pr : Protocol_data) (role : Role) (fronts : List Front_data) (states : List State) (sets : List (List ℕ)) → NoneUnreached pr role → Working pr role fronts states
    → length fronts ≤ length states
    → sets ≡ map (λ (f : Front_data). f.talks) fronts → IsNumberedProjection pr role record { machine = record { role = role; states = states; start = 0 }; sets = sets }
working_done pr role fronts states sets none w le e =
    let P : List (List ℕ) → Type 0 = λ z. IsNumberedProjection pr role record { machine = record { role = role; states = states; start = 0 }; sets = z } in
    let Q : ℕ → Type 0 = λ z. Worked 0 1 (map nexts_behind states) z in
    subst P (sym e) record {
      is_projection = record {
        onto = refl;
        start = refl;
        none_unreached = none;
        first = set 0 (MeetsFirst pr role pr.root) (MeetsTheEnd pr role pr.root) w.first;
        agree = λ k xs h one other a b. (let s = sets_at fronts k xs h in
            let R : List ℕ → ℕ → Type 0 = λ z n. Contains z n in
            (merges k s.0 s.1).agree one other (let A : List ℕ → Type 0 = λ z. R z one in subst A (sym s.2) a) (let B : List ℕ → Type 0 = λ z. R z other in subst B (sym s.2) b));
        all = (let l = sets_length fronts in let a = w.ahead in omega (arith, l, a, le));
        states = λ k xs st h hs. (let s = sets_at fronts k xs h in
            let R : List ℕ → Type 0 = λ z. IsStateOf pr role (map (λ (f : Front_data). f.talks) fronts) z st in
            subst R s.2 (state_of pr role fronts s.0 st set (w.done k s.0 st s.1 hs)));
      };
      order = subst Q (sym (sets_length fronts)) w.order;
      once = λ i j xs a b. (let s = sets_at fronts i xs a in let t = sets_at fronts j xs b in
          let same = same_ends s.0 t.0 (s.2 ∙ sym t.2) (merges i s.0 s.1).alone (w.found.told i s.0 s.1) (merges j t.0 t.1).alone (w.found.told j t.0 t.1) in
          w.found.once i j t.0 (s.1 ∙ ap Some same) t.1);
      bounded = (let l = sets_length fronts in let f = w.found.bounded in omega (arith, l, f));
    }
  where
    merges : (k : ℕ) (f : Front_data) → slice_get fronts k ≡ Some f → Merges pr role f
    merges k f h = let s = at_within states k (let q = at_short fronts k f h in omega (arith, q, le)) in (w.done k f s.0 h s.1).merges

    set : (n : ℕ) (M : ℕ → Type 0) (E : Type 0) → IsFrontAt fronts n M E → IsSet (map (λ (f : Front_data). f.talks) fronts) n M E
    set n M E at = set_of fronts n M E at (merges n at.front at.stands).alone (w.found.told n at.front at.stands)

pub talks_within : (pr : Protocol_data) (role : Role) (talks : List ℕ) → ((t : ℕ) → Among talks t → Involves pr role t) → All (λ t. t < length pr.nodes) talks
talks_within pr role talks inv = all_by (λ t. t < length pr.nodes) talks (λ t m. involved_within pr role t (inv t m))

pub state_fault : (pr : Protocol_data) (role : Role) (fronts : List Front_data) (number : ℕ) (f : Front_data) (talks : List ℕ) → talks ≡ f.talks → slice_get fronts number ≡ Some f → Merges pr role f
    → (e : ProjFault) → ArmsFault pr role fronts talks (merged_choices pr talks) e → StateFault pr role fronts number e
state_fault pr role fronts number f talks t here m (Unmergeable r a b) h = absurd h
state_fault pr role fronts number f talks t here m (Unreached r n) h = absurd h
state_fault pr role fronts number f talks t here m (TooManyStates r) h =
    let P : List ℕ → Type 0 = λ z. TooManyAt pr role fronts z (merged_choices pr z) in
    (h.0, record { front = f; here = here; merges = m; many = subst P t h.1 })
state_fault pr role fronts number f talks t here m NoMemory h = tt

pub works_on : (pr : Protocol_data) (role : Role) (old new : List Front_data) (number : ℕ) (f : Front_data) (talks : List ℕ) (st : State) → talks ≡ f.talks → slice_get old number ≡ Some f
    → Merges pr role f
    → Discovers pr role old talks (merged_choices pr talks) new (nexts_behind st) → HasShape pr role talks st → WorksOn pr role old number new st
works_on pr role old new number f talks st t here m d s =
    let P : List ℕ → Type 0 = λ z. Discovers pr role old z (merged_choices pr z) new (nexts_behind st) in
    let Q : List ℕ → Type 0 = λ z. HasShape pr role z st in
    record { front = f; here = here; merges = m; discovers = subst P t d; shape = subst Q t s }

pub merges_at : (pr : Protocol_data) (role of : Role) (fronts : List Front_data) (number : ℕ) (f : Front_data) → of ≡ role → IsWellFormed pr → AreFoundFronts pr role fronts
    → slice_get fronts number ≡ Some f
    → AllAgree pr of f.talks (length f.talks) × HasEndAlone f → Merges pr role f
merges_at pr role of fronts number f e wf found here h =
    let P : Role → Type 0 = λ z. AllAgree pr z f.talks (length f.talks) in
    merges_by pr role f wf (λ t m. found.right number f t here m) (subst P e h.0) h.1

-- a state that stands for one talk alone
pub lone_involved : (pr : Protocol_data) (role : Role) (t u : ℕ) → Involves pr role t → Among (t ∷ []) u → Involves pr role u
lone_involved pr role t u inv (inl e) = let P : ℕ → Type 0 = λ z. Involves pr role z in subst P e inv
lone_involved pr role t u inv (inr bad) = absurd bad

pub lone_merges : (pr : Protocol_data) (role : Role) (t : ℕ) → IsWellFormed pr → Involves pr role t → Merges pr role (lone_front t)
lone_merges pr role t wf inv = merges_by pr role (lone_front t) wf (λ u m. lone_involved pr role t u inv m) (λ h k lt short. absurd (omega (arith, lt, short))) (λ e. absurd (cc (e)))
