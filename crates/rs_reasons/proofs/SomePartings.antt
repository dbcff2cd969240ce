-- Where the ways part can be told, and round which talks a role waits.
use Rattle.std.proofs.Common.{◌≡◌, ◌↔◌, ◌⊎◌, inl, inr, ℕ, zero, suc, ◌<◌, Bool, true, false, ◌&&◌, List, [], ◌∷◌, length, get_or, replicate, Option, Some, None, refl, sym, ap, subst, ◌∙◌, arith}
use Rattle.std.specs.Prelude.{MatchOption}
use Rattle.std.proofs.lemmas.Bool.Decides.{eqb_tells}
use Rattle.std.proofs.lemmas.Option.{slice_get-get_or, slice_get_within, same_Some}
use Rattle.rs_graph.specs.Lists.{Among}
use Rattle.rs_model.specs.Data.{Protocol_data}
use Rattle.rs_model.specs.declared.graph.Node.{Node}
use Rattle.rs_model.specs.declared.graph.Node.TheVariants.{Finished}
use Rattle.rs_model.specs.declared.graph.Role.{Role}
use Rattle.rs_partings.specs.Flags.{AreFlags, IsReachedThrough, ReachesThrough, flagged, only_flag}
use Rattle.rs_partings.specs.Partings.{IsParting, MeetsMember, PartNowhere}
use Rattle.rs_partings.specs.Searching.{parting_of_nodes}
use Rattle.rs_partings.specs.Waiting.{AreWaitingRound}
use Rattle.rs_partings.specs.declared.searching.Parting.{Parting}
use Rattle.rs_partings.proofs.Flags.{flag_to, only_flags, to_flag}
use Rattle.rs_partings.proofs.Places.{is_first}
use Rattle.rs_partings.proofs.Rounds.{RoundFlags, are_waiting}
use Rattle.rs_partings.proofs.Ways.{reached_are}
use Rattle.rs_project.proofs.Flags.{on_decide}
use Rattle.rs_project.proofs.Lists.{contained, contains}
use Rattle.rs_project.proofs.Marking.{front_any, spread_any, survey_any}
use Rattle.rs_project.specs.Data.{Front_data}
use Rattle.rs_project.specs.Graph.{Involves, IsPath, IsReached, MeetsFirst, MeetsTheEnd, PassesBy}
use Rattle.rs_project.specs.Marks.{IsOn, IsSurvey, Spreads, StartEnds, StartMeets, Survey_data, leads_on}
use Rattle.rs_project.specs.Refusals.{IsFront}
use Rattle.rs_wellformed.specs.WellFormed.{IsWellFormed}

-- ---- flags of what can be decided

cons_flag : (P : ℕ → Type 0) (b : Bool) (flags : List Bool) (count : ℕ) → (b ≡ true) ↔ P 0 → AreFlags count (λ n. P (suc n)) flags → (n : ℕ) → n < suc count → IsOn (b ∷ flags) n ↔ P n
cons_flag P b flags count first rest zero lt = first
cons_flag P b flags count first rest (suc n) lt = rest.each n (omega (arith, lt))

some_flags : (count : ℕ) (P : ℕ → Type 0) → ((n : ℕ) → n < count → P n ⊎ (P n → ⊥)) → (flags : List Bool) × AreFlags count P flags
some_flags zero P decide = ([], record { size = refl; each = λ n lt. absurd (omega (arith, lt)) })
some_flags (suc count) P decide =
    let rest = some_flags count (λ n. P (suc n)) (λ n lt. decide (suc n) (omega (arith, lt))) in
    elim (decide 0 (omega arith)) [
      | inl holds ↦ (true ∷ rest.0, record { size = ap suc rest.1.size; each = cons_flag P true rest.0 count ((λ e. holds), (λ p. refl)) rest.1 })
      | inr fails ↦ (false ∷ rest.0, record { size = ap suc rest.1.size; each = cons_flag P false rest.0 count ((λ e. absurd (cc e)), (λ p. absurd (fails p))) rest.1 })
    ]

among_or_not : (xs : List ℕ) (x : ℕ) → Among xs x ⊎ (Among xs x → ⊥)
among_or_not [] x = inr (λ h. h)
among_or_not (y ∷ ys) x = elim (eqb_tells y x) [
  | inl same ↦ inl (inl same.1)
  | inr other ↦ elim (among_or_not ys x) [
    | inl later ↦ inl (inr later)
    | inr none ↦ inr (λ h. elim h [ inl e ↦ other.1 e | inr l ↦ none l ])
  ]
]

-- one start alone
one_start : (pr : Protocol_data) (n : ℕ) → n < length pr.nodes → (x : ℕ) → Among (n ∷ []) x → x < length pr.nodes
one_start pr n lt x (inl e) = subst (λ (z : ℕ). z < length pr.nodes) e lt
one_start pr n lt x (inr m) = absurd m

-- ---- reached through flagged nodes

spreads_or_not : (pr : Protocol_data) (through : List Bool) (n m : ℕ) → IsWellFormed pr → n < length pr.nodes → Spreads pr through (n ∷ []) m ⊎ (Spreads pr through (n ∷ []) m → ⊥)
spreads_or_not pr through n m wf lt =
    let marks = spread_any pr through (n ∷ []) wf (one_start pr n lt) in
    elim (on_decide marks.0 m) [
      | inl on ↦ inl (marks.1.sound m on)
      | inr off ↦ inr (λ s. off (marks.1.whole m s))
    ]

the_start : (n x : ℕ) → Among (n ∷ []) x → n ≡ x
the_start n x (inl e) = e
the_start n x (inr m) = absurd m

there_or_not : (pr : Protocol_data) (through here : List Bool) (n : ℕ) → IsWellFormed pr → n < length pr.nodes → here ≡ only_flag (length pr.nodes) n
    → (m : ℕ) → m < length pr.nodes → IsReachedThrough pr through here m ⊎ (IsReachedThrough pr through here m → ⊥)
there_or_not pr through here n wf lt e m lm =
    let one = only_flags (length pr.nodes) n here e in
    elim (spreads_or_not pr through n m wf lt) [
      | inl s ↦ inl record {
        start = s.start;
        begins = subst (λ (z : ℕ). IsOn here z) (the_start n s.start s.among) (to_flag (length pr.nodes) (λ k. k ≡ n) here n one lt refl);
        steps = s.steps;
        path = s.path;
        earlier = s.earlier;
      }
      | inr fails ↦ inr (λ r. fails record {
        start = r.start;
        among = inl (sym (flag_to (length pr.nodes) (λ k. k ≡ n) here r.start one r.begins));
        steps = r.steps;
        path = r.path;
        earlier = r.earlier;
      })
    ]

back_or_not : (pr : Protocol_data) (through here : List Bool) (n : ℕ) → IsWellFormed pr → n < length pr.nodes → here ≡ only_flag (length pr.nodes) n
    → (m : ℕ) → m < length pr.nodes → ReachesThrough pr through here m ⊎ (ReachesThrough pr through here m → ⊥)
back_or_not pr through here n wf lt e m lm =
    let one = only_flags (length pr.nodes) n here e in
    elim (spreads_or_not pr through m n wf lm) [
      | inl s ↦ inl (
          let start = the_start m s.start s.among in
          let path = s.path in
          record {
            target = n;
            ends = to_flag (length pr.nodes) (λ k. k ≡ n) here n one lt refl;
            steps = s.steps;
            path = subst (λ (z : ℕ). IsPath pr z s.steps n) (sym start) path;
            earlier = s.earlier;
          })
      | inr fails ↦ inr (λ r. (
          let target = flag_to (length pr.nodes) (λ k. k ≡ n) here r.target one r.ends in
          fails record {
            start = m;
            among = inl refl;
            steps = r.steps;
            path = subst (λ (z : ℕ). IsPath pr m r.steps z) target r.path;
            earlier = r.earlier;
          }))
    ]

-- ---- what a role meets first

member_or_not : (pr : Protocol_data) (role : Role) (member : Option ℕ) → IsWellFormed pr → (n : ℕ) → n < length pr.nodes → MeetsMember pr role n member ⊎ (MeetsMember pr role n member → ⊥)
member_or_not pr role member wf n lt = go member (front_any pr role sv.0 (n ∷ []) wf sv.1 (one_start pr n lt))
  where
    sv : (s : Survey_data) × IsSurvey pr role s
    sv = survey_any pr role

    go : (o : Option ℕ) → (f : Front_data) × IsFront f (StartMeets pr role (n ∷ [])) (StartEnds pr role (n ∷ [])) → MeetsMember pr role n o ⊎ (MeetsMember pr role n o → ⊥)
    go (Some talk) f = elim (among_or_not f.0.talks talk) [
      | inl a ↦ inl (let s = (f.1.talks talk).0 (contains f.0.talks talk a) in subst (λ (z : ℕ). MeetsFirst pr role z talk) (sym (the_start n s.start s.among)) s.meets)
      | inr none ↦ inr (λ h. none (contained f.0.talks talk ((f.1.talks talk).1 (record { start = n; among = inl refl; meets = h }))))
    ]
    go None f = ends f.0.ends refl
      where
        ends : (b : Bool) → f.0.ends ≡ b → MeetsTheEnd pr role n ⊎ (MeetsTheEnd pr role n → ⊥)
        ends true e = inl (let s = f.1.ends.0 e in subst (λ (z : ℕ). MeetsTheEnd pr role z) (sym (the_start n s.start s.among)) s.ends)
        ends false e = inr (λ h. (let t = f.1.ends.1 (record { start = n; among = inl refl; ends = h }) in let bad : false ≡ true = sym e ∙ t in cc bad))

-- the nodes from which the role may meet the member first
pub some_meeting : (pr : Protocol_data) (role : Role) (member : Option ℕ) → IsWellFormed pr → (flags : List Bool) × AreFlags (length pr.nodes) (λ n. MeetsMember pr role n member) flags
some_meeting pr role member wf = some_flags (length pr.nodes) (λ n. MeetsMember pr role n member) (member_or_not pr role member wf)

-- ---- the first parting

pub some_parting : (pr : Protocol_data) (role : Role) (a : ℕ) (b : Option ℕ) → IsWellFormed pr → (o : Option Parting) × MatchOption o (PartNowhere pr role a b) (λ p. IsParting pr role a b p)
some_parting pr role a b wf =
    let count = length pr.nodes in
    let sv = survey_any pr role in
    let every = replicate count true in
    let root = only_flag count pr.root in
    let through = some_flags count (IsReachedThrough pr every root) (there_or_not pr every root pr.root wf wf.root refl) in
    let reached = reached_are pr every root through.0 wf refl refl through.1 in
    let here = some_flags count (λ n. IsReached pr n × (Involves pr role n → ⊥)) (λ n lt. elim (on_decide through.0 n) [
      | inl on ↦ elim (on_decide sv.0.involved n) [
        | inl i ↦ inr (λ h. h.1 ((sv.1.involved n).0 i))
        | inr o ↦ inl (flag_to count (λ m. IsReached pr m) through.0 n reached on, (λ i. o ((sv.1.involved n).1 i)))
      ]
      | inr off ↦ inr (λ h. off (to_flag count (λ m. IsReached pr m) through.0 n reached lt h.0))
    ]) in
    let ones = some_flags count (λ n. MeetsMember pr role n (Some a)) (member_or_not pr role (Some a) wf) in
    let others = some_flags count (λ n. MeetsMember pr role n b) (member_or_not pr role b wf) in
    (parting_of_nodes here.0 ones.0 others.0 0 pr.nodes, is_first pr role a b here.0 ones.0 others.0 (parting_of_nodes here.0 ones.0 others.0 0 pr.nodes) wf here.1 ones.1 others.1 refl)

-- ---- the round

-- flags that stand where a test of the node does
tested : (count : ℕ) (test : ℕ → Bool) → (flags : List Bool) × AreFlags count (λ n. test n ≡ true) flags
tested count test = some_flags count (λ n. test n ≡ true) (λ n lt. true_or_not (test n))
  where
    true_or_not : (b : Bool) → (b ≡ true) ⊎ (b ≡ true → ⊥)
    true_or_not true = inl refl
    true_or_not false = inr (λ e. cc e)

pub same_flag : (x y : Bool) → (x ≡ true) ↔ (y ≡ true) → x ≡ y
same_flag true true h = refl
same_flag true false h = absurd (cc (h.0 refl))
same_flag false true h = absurd (cc (h.1 refl))
same_flag false false h = refl

pub some_round : (pr : Protocol_data) (role : Role) (n : ℕ) → IsWellFormed pr → n < length pr.nodes → (talks : List ℕ) × AreWaitingRound pr role n talks
some_round pr role n wf lt =
    let count = length pr.nodes in
    let sv = survey_any pr role in
    let passing = sv.0.passing in
    let pass : AreFlags count (λ m. PassesBy pr role m) passing = record { size = sv.1.passing_size; each = λ m l. sv.1.passing m } in
    let here = only_flag count n in
    let there = some_flags count (IsReachedThrough pr passing here) (there_or_not pr passing here n wf lt refl) in
    let back = some_flags count (ReachesThrough pr passing here) (back_or_not pr passing here n wf lt refl) in
    let test : ℕ → Bool = λ (m : ℕ). get_or passing m false && (get_or there.0 m false && leads_on back.0 (get_or pr.nodes m Finished)) in
    let round = tested count test in
    let flags : RoundFlags pr passing there.0 back.0 round.0 = record {
      size = round.1.size;
      each = λ m node at. (
          let l = slice_get_within pr.nodes m node at in
          let is : get_or pr.nodes m Finished ≡ node = same_Some (get_or pr.nodes m Finished) node (sym (slice_get-get_or pr.nodes m Finished l) ∙ at) in
          same_flag (get_or round.0 m false) (test m) (round.1.each m l)
          ∙ ap (λ (z : Node). get_or passing m false && (get_or there.0 m false && leads_on back.0 z)) is);
    } in
    (flagged 0 round.0, are_waiting pr role n passing here there.0 back.0 round.0 (flagged 0 round.0) wf pass refl there.1 back.1 flags refl)
