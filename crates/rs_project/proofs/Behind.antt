-- What is met after a label, and what the role does in a state.
use Rattle.std.proofs.Common.{◌≡◌, ◌≢◌, inl, inr, ℕ, zero, suc, ◌<◌, Bool, true, false, List, [], ◌∷◌, length, Option, Some, None, Result, Ok, Err, slice_get, refl, sym, ap, ◌∙◌, subst, arith}
use Rattle.std.proofs.Common.{if◌then◌else◌, ◌==◌}
use Rattle.std.specs.List.{All, flat_map}
use Rattle.std.specs.Prelude.{IfOk, IfErr}
use Rattle.std.proofs.lemmas.Bool.Decides.{eqb_tells}
use Rattle.rs_model.specs.Data.{Protocol_data}
use Rattle.rs_model.specs.declared.graph.Arm.{Arm}
use Rattle.rs_model.specs.declared.graph.Label.{Label}
use Rattle.rs_model.specs.declared.graph.Node.{Node}
use Rattle.rs_model.specs.declared.graph.Node.TheVariants.{Finished, Talk}
use Rattle.rs_model.specs.declared.graph.Role.{Role}
use Rattle.rs_model.specs.Talks.{Talks}
use Rattle.rs_wellformed.specs.WellFormed.{IsWellFormed}
use Rattle.rs_project.specs.Data.{Front_data}
use Rattle.rs_project.specs.Graph.{Involves}
use Rattle.rs_graph.specs.Lists.{Among}
use Rattle.rs_project.specs.Marks.{StartMeets, StartEnds, labelled_nexts, labelled_nexts_of}
use Rattle.rs_project.specs.Projection.{Agree, BothSend, BothReceive, LabelChoice, LeadsOn, merged_choices}
use Rattle.rs_project.specs.Refusals.{IsFront}
use Rattle.rs_project.specs.Working.{AddsFront, FaultFrom, FindsFrom, IsFrontBehind, IsFrontFrom, NumberFault}
use Rattle.rs_project.specs.declared.projecting.ProjFault.{ProjFault}
use Rattle.rs_project.specs.declared.projecting.ProjFault.TheVariants.{Unmergeable, Unreached, TooManyStates, NoMemory}
use Rattle.rs_project.proofs.Cycles.{all_by, next_within}
use Rattle.rs_project.proofs.Lists.{contained, contains, at_short}
use Rattle.rs_project.proofs.Numbers.{FindsFront, FindFault, choice_leads, flat_from, flat_to}

label_same : (x y : Label) → (x.0 == y.0) ≡ true → x ≡ y
label_same x y h = elim (eqb_tells x.0 y.0) [ inl t ↦ (let mk : ℕ → Label = λ p. record { 0 = p } in ap mk t.1) | inr t ↦ absurd (cc (h, t.0)) ]

nexts_from : (label : Label) (arms : List Arm) (next : ℕ) → Among (labelled_nexts label arms) next → (place : ℕ) × (a : Arm) × (slice_get arms place ≡ Some a) × (a.label ≡ label) × (a.next ≡ next)
nexts_from label [] next h = absurd h
nexts_from label (a ∷ arms) next h = go (a.label.0 == label.0) refl (λ k. nexts_from label arms next k) h
  where
    go : (b : Bool) → (a.label.0 == label.0) ≡ b
        → (Among (labelled_nexts label arms) next → (place : ℕ) × (z : Arm) × (slice_get arms place ≡ Some z) × (z.label ≡ label) × (z.next ≡ next))
        → Among (if b then a.next ∷ labelled_nexts label arms else labelled_nexts label arms) next
        → (place : ℕ) × (z : Arm) × (slice_get (a ∷ arms) place ≡ Some z) × (z.label ≡ label) × (z.next ≡ next)
    go true e rest (inl k) = (zero, a, refl, label_same a.label label e, k)
    go true e rest (inr k) = let r = rest k in (suc r.0, r.1, r.2, r.3, r.4)
    go false e rest k = let r = rest k in (suc r.0, r.1, r.2, r.3, r.4)

to_nexts : (label : Label) (arms : List Arm) (place : ℕ) (a : Arm) → slice_get arms place ≡ Some a → a.label ≡ label → Among (labelled_nexts label arms) a.next
to_nexts label [] place a h l = absurd (cc (h))
to_nexts label (x ∷ arms) zero a h l = go (x.label.0 == label.0) refl
  where
    xa : x ≡ a
    xa = cc (h)

    go : (b : Bool) → (x.label.0 == label.0) ≡ b → Among (if b then x.next ∷ labelled_nexts label arms else labelled_nexts label arms) a.next
    go true e = inl (ap (λ (z : Arm). z.next) xa)
    go false e = elim (eqb_tells x.label.0 label.0) [ inl t ↦ absurd (cc (e, t.0)) | inr t ↦ absurd (t.1 (ap (λ (z : Arm). z.label.0) xa ∙ ap (λ (z : Label). z.0) l)) ]
to_nexts label (x ∷ arms) (suc place) a h l = go (x.label.0 == label.0) (to_nexts label arms place a h l)
  where
    go : (b : Bool) → Among (labelled_nexts label arms) a.next → Among (if b then x.next ∷ labelled_nexts label arms else labelled_nexts label arms) a.next
    go true k = inr k
    go false k = k

node_next : (pr : Protocol_data) (talks : List ℕ) (t next : ℕ) (label : Label) (o : Option Node) → Among talks t → slice_get pr.nodes t ≡ o → Among (labelled_nexts_of label o) next
    → LeadsOn pr talks label next
node_next pr talks t next label None m at h = absurd h
node_next pr talks t next label (Some Finished) m at h = absurd h
node_next pr talks t next label (Some (Talk sender receiver arms)) m at h =
    let r = nexts_from label arms next h in
    record {
      talk = t;
      member = contains talks t m;
      place = r.0;
      step = record { sender = sender; receiver = receiver; arms = arms; arm = r.1; talks = at; stands = r.2; leads = r.4 };
      its_label = r.3;
    }

abbrev pub starts_of : Protocol_data → List ℕ → Label → List ℕ
starts_of pr talks label = flat_map (λ t. labelled_nexts_of label (slice_get pr.nodes t)) talks

starts_lead : (pr : Protocol_data) (talks : List ℕ) (label : Label) (next : ℕ) → Among (starts_of pr talks label) next → LeadsOn pr talks label next
starts_lead pr talks label next h =
    let r = flat_from (λ t. labelled_nexts_of label (slice_get pr.nodes t)) talks next h in
    node_next pr talks r.0 next label (slice_get pr.nodes r.0) r.1 refl r.2

lead_starts : (pr : Protocol_data) (talks : List ℕ) (label : Label) (next : ℕ) → LeadsOn pr talks label next → Among (starts_of pr talks label) next
lead_starts pr talks label next on =
    let P : ℕ → Type 0 = λ z. Among (starts_of pr talks label) z in
    let Q : Option Node → Type 0 = λ z. Among (labelled_nexts_of label z) on.step.arm.next in
    subst P on.step.leads (flat_to (λ t. labelled_nexts_of label (slice_get pr.nodes t)) talks on.talk on.step.arm.next (contained talks on.talk on.member)
    (subst Q (sym on.step.talks) (to_nexts label on.step.arms on.place on.step.arm on.step.stands on.its_label)))

pub starts_within : (pr : Protocol_data) (talks : List ℕ) (label : Label) → IsWellFormed pr → All (λ s. s < length pr.nodes) (starts_of pr talks label)
starts_within pr talks label wf = all_by (λ s. s < length pr.nodes) (starts_of pr talks label) (λ x m. (let on = starts_lead pr talks label x m in next_within pr on.talk on.place x wf on.step))

-- some start stands after the label of a choice
pub some_starts : (pr : Protocol_data) (talks starts : List ℕ) (c : LabelChoice) → starts ≡ starts_of pr talks c.label → Among (merged_choices pr talks) c → starts ≢ []
some_starts pr talks starts c e m none =
    let on = choice_leads pr talks c m in
    let P : List ℕ → Type 0 = λ z. Among z on.0 in
    subst P (sym e ∙ none) (lead_starts pr talks c.label on.0 on.1)

pub front_behind : (pr : Protocol_data) (role : Role) (talks : List ℕ) (label : Label) (f : Front_data)
    → IsFront f (StartMeets pr role (starts_of pr talks label)) (StartEnds pr role (starts_of pr talks label))
    → IsFrontBehind pr role talks label f
front_behind pr role talks label f is = record {
  rising = is.rising;
  talks = λ t. (
    (λ h. (let m = (is.talks t).0 h in (m.start, starts_lead pr talks label m.start m.among, m.meets))),
    (λ m. (is.talks t).1 record { start = m.0; among = lead_starts pr talks label m.0 m.1; meets = m.2 }),
  );
  ends = (
    (λ e. (let m = is.ends.0 e in (m.start, starts_lead pr talks label m.start m.among, m.ends))),
    (λ m. is.ends.1 record { start = m.0; among = lead_starts pr talks label m.0 m.1; ends = m.2 }),
  );
}

-- after the label are the starts

pub finds_behind : (pr : Protocol_data) (role : Role) (old : List Front_data) (talks : List ℕ) (label : Label) (starts : List ℕ) (new : List Front_data) (n : ℕ) → starts ≡ starts_of pr talks label
    → FindsFrom pr role old starts new n → FindsFront pr role old talks label new n
finds_behind pr role old talks label starts new n e f =
    let P : List ℕ → Type 0 = λ z. IsFrontFrom pr role z f.front in
    record { front = f.front; is_front = front_behind pr role talks label f.front (subst P e f.is_front); adds = f.adds }

pub fault_behind : (pr : Protocol_data) (role : Role) (old : List Front_data) (talks : List ℕ) (label : Label) (starts : List ℕ) → starts ≡ starts_of pr talks label
    → (e : ProjFault) → FaultFrom pr role old starts e → FindFault pr role old talks label e
fault_behind pr role old talks label starts e (Unmergeable r a b) h = absurd h
fault_behind pr role old talks label starts e (Unreached r n) h = absurd h
fault_behind pr role old talks label starts e (TooManyStates r) h =
    let P : List ℕ → Type 0 = λ z. IsFrontFrom pr role z h.1.front in
    (h.0, record { front = h.1.front; is_front = front_behind pr role talks label h.1.front (subst P e h.1.is_front); many = h.1.many; new = h.1.new })
fault_behind pr role old talks label starts e NoMemory h = tt

pub finds_from : (pr : Protocol_data) (role : Role) (old : List Front_data) (starts : List ℕ) (new : List Front_data) (f : Front_data) (r : Result ℕ ProjFault) → IsFrontFrom pr role starts f
    → IfOk r (λ n. AddsFront old f new n) → IfOk r (λ n. FindsFrom pr role old starts new n)
finds_from pr role old starts new f (Ok n) is h = record { front = f; is_front = is; adds = h }
finds_from pr role old starts new f (Err e) is h = tt

pub fault_from : (pr : Protocol_data) (role of : Role) (old : List Front_data) (starts : List ℕ) (f : Front_data) (r : Result ℕ ProjFault) → of ≡ role → IsFrontFrom pr role starts f
    → IfErr r (λ e. NumberFault of old f e) → IfErr r (λ e. FaultFrom pr role old starts e)
fault_from pr role of old starts f (Ok n) same is h = tt
fault_from pr role of old starts f (Err (Unmergeable r a b)) same is h = absurd h
fault_from pr role of old starts f (Err (Unreached r n)) same is h = absurd h
fault_from pr role of old starts f (Err (TooManyStates r)) same is h = (h.0 ∙ same, record { front = f; is_front = is; many = h.1; new = h.2 })
fault_from pr role of old starts f (Err NoMemory) same is h = tt

-- an involved talk is no end
pub no_finish : (pr : Protocol_data) (role : Role) (t : ℕ) (node : Node) → Involves pr role t → slice_get pr.nodes t ≡ Some node → node ≡ Finished → ⊥
no_finish pr role t node i at e = cc (i.talks, at, e)

pub involved_within : (pr : Protocol_data) (role : Role) (t : ℕ) → Involves pr role t → t < length pr.nodes
involved_within pr role t i = at_short pr.nodes t _ i.talks

pub send_each : (pr : Protocol_data) (role : Role) (first t : ℕ) (s r : Role) (arms : List Arm) → IsWellFormed pr → Talks pr first s r arms → s ≡ role → Agree pr role first t
    → (theirs : List Arm) × Talks pr t role r theirs
send_each pr role first t s r arms wf at e (BothSend peer ours theirs a b same) =
    let pr' : peer ≡ r = cc (at, a) in
    let P : Role → Type 0 = λ z. Talks pr t role z theirs in (theirs, subst P pr' b)
send_each pr role first t s r arms wf at e (BothReceive peer ours theirs a b same) =
    let x : s ≡ peer = cc (at, a) in let y : r ≡ role = cc (at, a) in
    absurd ((wf.talks first s r arms at).others (e ∙ sym y))

pub receive_each : (pr : Protocol_data) (role : Role) (first t : ℕ) (s r : Role) (arms : List Arm) → Talks pr first s r arms → (s ≡ role → ⊥) → Agree pr role first t
    → (theirs : List Arm) × Talks pr t s role theirs
receive_each pr role first t s r arms at ne (BothSend peer ours theirs a b same) = let x : s ≡ role = cc (at, a) in absurd (ne x)
receive_each pr role first t s r arms at ne (BothReceive peer ours theirs a b same) =
    let x : peer ≡ s = cc (at, a) in
    let P : Role → Type 0 = λ z. Talks pr t z role theirs in (theirs, subst P x b)

pub some_talks : (xs : List ℕ) → false ≡ (length xs == 0) → 0 < length xs
some_talks [] h = absurd (cc (h))
some_talks (x ∷ xs) h = omega arith

pub not_none : (xs : List ℕ) → 0 < length xs → xs ≢ []
not_none [] h e = absurd (omega (arith, h))
not_none (x ∷ xs) h e = cc (e)
