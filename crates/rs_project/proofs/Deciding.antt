-- Each well-formed protocol has a projection onto a role, or a first refusal: the work on the states, carried out on the
-- definitions.
use Rattle.std.proofs.Common.{◌≡◌, ◌≢◌, ◌⊎◌, inl, inr, ℕ, zero, suc, ◌+◌, ◌<◌, ◌≤◌, Bool, true, false, List, [], ◌∷◌, ◌++◌, map, take, drop, length, take_all, get_or, Option, Some, None, slice_get}
use Rattle.std.proofs.Common.{refl, sym, ap, ap₂, ◌∙◌, subst, arith, ◌==◌}
use Rattle.std.specs.List.{Contains}
use Rattle.std.proofs.lemmas.Bool.{cases_lt, false≢true}
use Rattle.std.proofs.lemmas.Bool.Decides.{eqb_tells}
use Rattle.std.proofs.lemmas.List.{length-append}
use Rattle.std.proofs.lemmas.Option.{same_Some}
use Rattle.rs_model.specs.Data.{Protocol_data}
use Rattle.rs_model.specs.declared.graph.Arm.{Arm}
use Rattle.rs_model.specs.declared.graph.Label.{Label}
use Rattle.rs_model.specs.declared.graph.Node.{Node}
use Rattle.rs_model.specs.declared.graph.Node.TheVariants.{Talk}
use Rattle.rs_model.specs.declared.graph.Role.{Role}
use Rattle.rs_model.specs.declared.limits.TheConstants.{MOST_STATES}
use Rattle.rs_model.specs.declared.machines.State.{State}
use Rattle.rs_model.specs.declared.machines.State.TheVariants.{Done, Puts, Takes}
use Rattle.rs_wellformed.specs.WellFormed.{IsWellFormed}
use Rattle.rs_project.specs.Clashes.{AgreeBefore, AllAgree, ClashesWith, TalksClash, agree_nodes}
use Rattle.rs_project.specs.Data.{Front_data, Projection_data}
use Rattle.rs_project.specs.Graph.{Involves}
use Rattle.rs_graph.specs.Lists.{Among}
use Rattle.rs_project.specs.Marks.{IsSurvey, Survey_data}
use Rattle.rs_project.specs.Numbered.{IsNumberedProjection, nexts_behind, nexts_of}
use Rattle.rs_project.specs.Projection.{Agree, LabelChoice, choice_of, merged_choices}
use Rattle.rs_project.specs.Refusals.{FirstClash, FirstRefusal, Merges, NoneUnreached}
use Rattle.rs_project.specs.Working.{AreFoundFronts, Discovers, FindsNone, HasShape, FrontIsNew, StateFault, TooManyAt, Working, WorksOn}
use Rattle.rs_project.specs.declared.projecting.ProjFault.{ProjFault}
use Rattle.rs_project.specs.declared.projecting.ProjFault.TheVariants as fault
use Rattle.rs_project.proofs.Agreeing.{agree_sound, agree_whole, all_all, all_more, before_more, clashes_at, first_of_end, first_of_talks, merges_by}
use Rattle.rs_project.proofs.Behind.{front_behind, involved_within, receive_each, send_each, starts_of, starts_within}
use Rattle.rs_project.proofs.Lists.{at_within, contains}
use Rattle.rs_project.proofs.Marking.{among_all, front_any, least_or_none, survey_any}
use Rattle.rs_project.proofs.Meetings.{place_among}
use Rattle.rs_project.proofs.Numbers.{FindsFront, arm_more, discovers_none, same_more, too_many}
use Rattle.rs_project.proofs.Steps.{front_root, work_fault, working_begin, working_done, working_on, works_on}
use Rattle.rs_project.proofs.Surveys.{role_by, role_eq}

-- two talks agree or don't
agree_or_not : (pr : Protocol_data) (role : Role) (one other : ℕ) → one < length pr.nodes → other < length pr.nodes → Agree pr role one other ⊎ (Agree pr role one other → ⊥)
agree_or_not pr role one other h k = go (at_within pr.nodes one h) (at_within pr.nodes other k)
  where
    told : (n m : Node) → slice_get pr.nodes one ≡ Some n → slice_get pr.nodes other ≡ Some m → (b : Bool) → agree_nodes role n m ≡ b → Agree pr role one other ⊎ (Agree pr role one other → ⊥)
    told n m an am true e = inl (agree_sound pr role one other n m an am e)
    told n m an am false e = inr (λ a. (let t = agree_whole pr role one other n m an am a in absurd (false≢true (sym e ∙ t))))

    go : (n : Node) × (slice_get pr.nodes one ≡ Some n) → (m : Node) × (slice_get pr.nodes other ≡ Some m) → Agree pr role one other ⊎ (Agree pr role one other → ⊥)
    go n m = told n.0 m.0 n.1 m.1 (agree_nodes role n.0 m.0) refl

-- all these talks are nodes
abbrev Within : Protocol_data → List ℕ → Type 0
Within pr talks = (k : ℕ) → k < length talks → get_or talks k 0 < length pr.nodes

-- the talk at place k clashes first with one before it, or with none
before_or_clash : (pr : Protocol_data) (role : Role) (talks : List ℕ) → Within pr talks → (n e k : ℕ) → e + n ≡ k → k < length talks → AgreeBefore pr role talks e k
    → ((i : ℕ) × ClashesWith pr role talks i k) ⊎ AgreeBefore pr role talks k k
before_or_clash pr role talks w zero e k is h before = inr (let s : e ≡ k = omega (arith, is) in subst (λ z. AgreeBefore pr role talks z k) s before)
before_or_clash pr role talks w (suc n) e k is h before =
    let we = w e (omega (arith, is, h)) in
    let wk = w k h in
    elim (agree_or_not pr role (get_or talks e 0) (get_or talks k 0) we wk) [
      | inl a ↦ before_or_clash pr role talks w n (e + 1) k (omega (arith, is)) h (before_more pr role talks e k before a)
      | inr none ↦ inl (e, record { before = omega (arith, is); clash = clashes_at pr role talks e k none; first = before })
    ]

-- the first two talks that clash, or none
talks_clash : (pr : Protocol_data) (role : Role) (talks : List ℕ) → Within pr talks → (n k : ℕ) → k + n ≡ length talks → AllAgree pr role talks k
    → ((a : ℕ) × (b : Option ℕ) × TalksClash pr role talks a b) ⊎ AllAgree pr role talks (length talks)
talks_clash pr role talks w zero k is all = inr (all_all pr role talks k (omega (arith, is)) all)
talks_clash pr role talks w (suc n) k is all =
    let h : k < length talks = omega (arith, is) in
    elim (before_or_clash pr role talks w k 0 k (omega arith) h (λ i lt. absurd (omega (arith, lt)))) [
      | inr before ↦ talks_clash pr role talks w n (k + 1) (omega (arith, is)) (all_more pr role talks k all before)
      | inl c ↦ (
          let at = at_within talks k h in
          let b = c.1.before in
          let ai = at_within talks c.0 (omega (arith, b, h)) in
          inl (
            ai.0,
            Some at.0,
            record {
              i = c.0;
              k = k;
              later = at.0;
              a_stands = ai.1;
              b_stands = at.1;
              b_is = refl;
              clashes = c.1;
              earlier = all;
            },
          ))
    ]

-- two members clash first, or none clash
clash_or_merge : (pr : Protocol_data) (role : Role) (front : Front_data) → IsWellFormed pr → ((t : ℕ) → Among front.talks t → Involves pr role t)
    → ((a : ℕ) × (b : Option ℕ) × FirstClash pr role front a b) ⊎ Merges pr role front
clash_or_merge pr role front wf right =
    elim (talks_clash pr role front.talks (λ k h. involved_within pr role (get_or front.talks k 0) (right (get_or front.talks k 0) (place_among front.talks k 0 h))) (length front.talks) 0
    (omega arith) (λ h k lt small. absurd (omega (arith, small)))) [
      | inl c ↦ inl (c.0, c.1, first_of_talks pr role front c.0 c.1 c.2)
      | inr all ↦ ends front.ends refl front.talks refl all
    ]
  where
    ends : (e : Bool) → front.ends ≡ e → (ts : List ℕ) → front.talks ≡ ts → AllAgree pr role front.talks (length front.talks)
        → ((a : ℕ) × (b : Option ℕ) × FirstClash pr role front a b) ⊎ Merges pr role front
    ends true e (t ∷ ts) is all = inl (t, None, first_of_end pr role front t None all e (ap (λ (z : List ℕ). slice_get z 0) is) refl)
    ends true e [] is all = inr (merges_by pr role front wf right all (λ h. is))
    ends false e ts is all = inr (merges_by pr role front wf right all (λ h. absurd (false≢true (sym e ∙ h))))

-- whether two lists of numbers are the same
same_numbers : (xs ys : List ℕ) → (xs ≡ ys) ⊎ (xs ≡ ys → ⊥)
same_numbers [] [] = inl refl
same_numbers [] (y ∷ ys) = inr (λ e. cc (e))
same_numbers (x ∷ xs) [] = inr (λ e. cc (e))
same_numbers (x ∷ xs) (y ∷ ys) = elim (eqb_tells x y) [
  | inr t ↦ (let ne = t.1 in inr (λ e. ne (ap (λ (z : List ℕ). get_or z 0 0) e)))
  | inl t ↦ elim (same_numbers xs ys) [
    | inl e ↦ inl (ap₂ (λ (a : ℕ) (as' : List ℕ). a ∷ as') t.1 e)
    | inr ne ↦ inr (λ e. ne (ap (λ (z : List ℕ). drop 1 z) e))
  ]
]

same_bools : (a b : Bool) → (a ≡ b) ⊎ (a ≡ b → ⊥)
same_bools true true = inl refl
same_bools false false = inl refl
same_bools true false = inr (λ e. false≢true (sym e))
same_bools false true = inr (λ e. false≢true e)

same_fronts : (f g : Front_data) → (f ≡ g) ⊎ (f ≡ g → ⊥)
same_fronts f g = elim (same_numbers f.talks g.talks) [
  | inr ne ↦ inr (λ e. ne (ap (λ (z : Front_data). z.talks) e))
  | inl e ↦ elim (same_bools f.ends g.ends) [
    | inr ne ↦ inr (λ h. ne (ap (λ (z : Front_data). z.ends) h))
    | inl h ↦ inl (ap₂ (λ (t : List ℕ) (b : Bool). record { talks = t; ends = b }) e h)
  ]
]

-- the front stands at some place, or at none
place_or_new : (fs : List Front_data) (f : Front_data) → ((n : ℕ) × (slice_get fs n ≡ Some f)) ⊎ FrontIsNew fs f
place_or_new [] f = inr (λ k e. cc (e))
place_or_new (g ∷ fs) f = elim (same_fronts g f) [
  | inl e ↦ inl (0, ap Some e)
  | inr ne ↦ elim (place_or_new fs f) [
    | inl at ↦ inl (suc at.0, at.1)
    | inr none ↦ inr (new ne none)
  ]
]
  where
    new : (g ≡ f → ⊥) → FrontIsNew fs f → FrontIsNew (g ∷ fs) f
    new ne none zero e = ne (same_Some g f e)
    new ne none (suc k) e = none k e

-- the number of what the role meets first after a label, or that there are too many fronts
finds_or_none : (pr : Protocol_data) (role : Role) (sv : Survey_data) (fs : List Front_data) (talks : List ℕ) (label : Label) → IsWellFormed pr → IsSurvey pr role sv → length fs ≤ MOST_STATES
    → ((new : List Front_data) × (n : ℕ) × FindsFront pr role fs talks label new n) ⊎ FindsNone pr role fs talks label
finds_or_none pr role sv fs talks label wf is few =
    let starts = starts_of pr talks label in
    let r = front_any pr role sv starts wf is (among_all (λ s. s < length pr.nodes) starts (starts_within pr talks label wf)) in
    let f = r.0 in
    let behind = front_behind pr role talks label f r.1 in
    elim (place_or_new fs f) [
      | inl at ↦ inl (fs, at.0, record { front = f; is_front = behind; adds = inl (at.1, refl) })
      | inr new ↦ elim (cases_lt (length fs) MOST_STATES) [
        | inl h ↦ inl (fs ++ (f ∷ []), length fs, record { front = f; is_front = behind; adds = inr (refl, refl, h, new) })
        | inr h ↦ inr record { front = f; is_front = behind; many = omega (arith, few, h); new = new }
      ]
    ]

-- the arms of a state, or a choice after which there are too many fronts
record Armed (pr : Protocol_data) (role : Role) (old : List Front_data) (talks : List ℕ) (choices : List Arm) (i : ℕ) : Type 0 where
  pub mid : List Front_data
  pub arms : List Arm
  pub discovers : Discovers pr role old talks (map choice_of (take i choices)) mid (nexts_of arms)
  pub same : map choice_of arms ≡ map choice_of (take i choices)

arms_or_too_many : (pr : Protocol_data) (role : Role) (sv : Survey_data) (old : List Front_data) (talks : List ℕ) (choices : List Arm) → IsWellFormed pr → IsSurvey pr role sv
    → map choice_of choices ≡ merged_choices pr talks → (n i : ℕ) → i + n ≡ length choices → Armed pr role old talks choices i
    → Armed pr role old talks choices (length choices) ⊎ TooManyAt pr role old talks (map choice_of choices)
arms_or_too_many pr role sv old talks choices wf is all zero i e a = inl (let s : i ≡ length choices = omega (arith, e) in subst (λ z. Armed pr role old talks choices z) s a)
arms_or_too_many pr role sv old talks choices wf is all (suc n) i e a =
    let at = at_within choices i (omega (arith, e)) in
    let x = at.0 in
    elim (finds_or_none pr role sv a.mid talks x.label wf is a.discovers.found.bounded) [
      | inr none ↦ inr (too_many pr role old a.mid talks choices i x (nexts_of a.arms) at.1 a.discovers none)
      | inl f ↦ (
          let more = a.arms ++ (record { label = x.label; sort = x.sort; next = f.1 } ∷ []) in
          arms_or_too_many pr role sv old talks choices wf is all n (i + 1) (omega (arith, e)) record {
            mid = f.0;
            arms = more;
            discovers = arm_more pr role sv old a.mid f.0 talks choices i x a.arms more f.1 is all at.1 refl a.discovers f.2;
            same = same_more choices i x a.arms more f.1 at.1 refl a.same;
          })
    ]

-- arms with these choices
abbrev arm_with : LabelChoice → Arm
arm_with c = record { label = c.label; sort = c.sort; next = 0 }

their_choices : (cs : List LabelChoice) → map choice_of (map arm_with cs) ≡ cs
their_choices [] = refl
their_choices (c ∷ cs) = ap (λ (z : List LabelChoice). c ∷ z) (their_choices cs)

-- the state that stands for talks which agree
record Shaped (pr : Protocol_data) (role : Role) (talks : List ℕ) (arms : List Arm) : Type 0 where
  pub state : State
  pub shape : HasShape pr role talks state
  pub nexts : nexts_behind state ≡ nexts_of arms

shaped : (pr : Protocol_data) (role : Role) (talks : List ℕ) (arms : List Arm) → IsWellFormed pr → ((t : ℕ) → Among talks t → Involves pr role t)
    → ((one other : ℕ) → Contains talks one → Contains talks other → Agree pr role one other) → map choice_of arms ≡ merged_choices pr talks → Shaped pr role talks arms
shaped pr role [] [] wf right agree choices = record { state = Done; shape = refl; nexts = refl }
shaped pr role [] (a ∷ arms) wf right agree choices = absurd (cc (choices))
shaped pr role (t ∷ talks) arms wf right agree choices = go (right t (inl refl))
  where
    here : Contains (t ∷ talks) t
    here = contains (t ∷ talks) t (inl refl)

    sending : (s r : Role) (theirs : List Arm) → slice_get pr.nodes t ≡ Some (Talk s r theirs) → (b : Bool) → (s.0 == role.0) ≡ b → Shaped pr role (t ∷ talks) arms
    sending s r theirs at true e = record {
      state = Puts r arms;
      shape = ((λ h. cc (h)), (λ u k. send_each pr role t u s r theirs wf at (role_by s role e) (agree t u here k)), choices);
      nexts = refl;
    }
    sending s r theirs at false e = record {
      state = Takes s arms;
      shape = ((λ h. cc (h)), (λ u k. receive_each pr role t u s r theirs at (λ h. absurd (false≢true (sym e ∙ role_eq s role h))) (agree t u here k)), choices);
      nexts = refl;
    }

    go : Involves pr role t → Shaped pr role (t ∷ talks) arms
    go i = sending i.sender i.receiver i.arms i.talks (i.sender.0 == role.0) refl

-- one more state, or why there is none
state_or_fault : (pr : Protocol_data) (role : Role) (sv : Survey_data) (fs : List Front_data) (number : ℕ) → IsWellFormed pr → IsSurvey pr role sv → AreFoundFronts pr role fs → number < length fs
    → ((new : List Front_data) × (state : State) × WorksOn pr role fs number new state) ⊎ ((e : ProjFault) × (e ≢ fault.NoMemory) × StateFault pr role fs number e)
state_or_fault pr role sv fs number wf is found h =
    let at = at_within fs number h in
    let f = at.0 in
    let right : (t : ℕ) → Among f.talks t → Involves pr role t = λ t m. found.right number f t at.1 m in
    elim (clash_or_merge pr role f wf right) [
      | inl c ↦ inr (fault.Unmergeable role c.0 c.1, (λ e. cc (e)), (refl, record { front = f; here = at.1; clash = c.2 }))
      | inr merges ↦ (
          let choices = map arm_with (merged_choices pr f.talks) in
          let all = their_choices (merged_choices pr f.talks) in
          elim (arms_or_too_many pr role sv fs f.talks choices wf is all (length choices) 0
          (omega arith) record { mid = fs; arms = []; discovers = discovers_none pr role fs f.talks found; same = refl }) [
            | inr many ↦ inr (
              fault.TooManyStates role,
              (λ e. cc (e)),
              (
                refl,
                record {
                  front = f;
                  here = at.1;
                  merges = merges;
                  many = subst (λ (z : List LabelChoice). TooManyAt pr role fs f.talks z) all many;
                },
              ),
            )
            | inl a ↦ (
                let whole : map choice_of (take (length choices) choices) ≡ merged_choices pr f.talks
                = ap (λ (z : List Arm). map choice_of z) (take_all (length choices) choices (omega arith)) ∙ all in
                let s = shaped pr role f.talks a.arms wf right merges.agree (a.same ∙ whole) in
                let d : Discovers pr role fs f.talks (merged_choices pr f.talks) a.mid (nexts_of a.arms)
                = subst (λ (z : List LabelChoice). Discovers pr role fs f.talks z a.mid (nexts_of a.arms)) whole a.discovers in
                inl (
                  a.mid,
                  s.state,
                  works_on pr role fs a.mid number f f.talks s.state refl at.1 merges
                      (subst (λ (z : List ℕ). Discovers pr role fs f.talks (merged_choices pr f.talks) a.mid z) (sym s.nexts) d) s.shape,
                ))
          ])
    ]

abbrev pub Decision : Protocol_data → Role → Type 0
Decision pr role = ((projection : Projection_data) × IsNumberedProjection pr role projection) ⊎ ((e : ProjFault) × FirstRefusal pr role e)

refused : (pr : Protocol_data) (role : Role) (e : ProjFault) → e ≢ fault.NoMemory → (e ≡ fault.NoMemory) ⊎ FirstRefusal pr role e → Decision pr role
refused pr role e ne (inl m) = absurd (ne m)
refused pr role e ne (inr r) = inr (e, r)

-- the work is done
finished : (pr : Protocol_data) (role : Role) (fs : List Front_data) (states : List State) → NoneUnreached pr role → Working pr role fs states → length fs ≤ length states → Decision pr role
finished pr role fs states none w done =
    let sets = map (λ (f : Front_data). f.talks) fs in
    inl (record { machine = record { role = role; states = states; start = 0 }; sets = sets }, working_done pr role fs states sets none w done refl)

-- the work, state by state
work : (pr : Protocol_data) (role : Role) (sv : Survey_data) → IsWellFormed pr → IsSurvey pr role sv → NoneUnreached pr role → (k : ℕ) (fs : List Front_data) (states : List State)
    → MOST_STATES ≤ length states + k → Working pr role fs states → Decision pr role
work pr role sv wf is none zero fs states le w = finished pr role fs states none w (let few = w.found.bounded in omega (arith, le, few))
work pr role sv wf is none (suc k) fs states le w = elim (cases_lt (length states) (length fs)) [
  | inr done ↦ finished pr role fs states none w done
  | inl h ↦ elim (state_or_fault pr role sv fs (length states) wf is w.found h) [
    | inr e ↦ refused pr role e.0 e.1 (work_fault pr role fs states none w e.0 e.2)
    | inl s ↦ (
        let more = states ++ (s.1 ∷ []) in
        let l = length-append states (s.1 ∷ []) in
        work pr role sv wf is none k s.0 more (omega (arith, le, l)) (working_on pr role fs s.0 states more s.1 refl w s.2))
  ]
]

pub decided : (pr : Protocol_data) (role : Role) → IsWellFormed pr → Decision pr role
decided pr role wf =
    let sv = survey_any pr role in
    elim (least_or_none pr role sv.0 wf sv.1) [
      | inl u ↦ inr (fault.Unreached role u.0, (refl, u.1.unreached, u.1.least))
      | inr none ↦ (
          let start = front_any pr role sv.0 (pr.root ∷ []) wf sv.1 (λ x. elim [ inl e ↦ (let r = wf.root in omega (arith, e, r)) | inr m ↦ absurd m ]) in
          work pr role sv.0 wf sv.1 none MOST_STATES (start.0 ∷ []) [] (omega arith) (working_begin pr role sv.0 start.0 sv.1 (front_root pr role start.0 start.1)))
    ]
