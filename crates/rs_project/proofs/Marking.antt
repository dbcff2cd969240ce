-- What a protocol's graph decides, by marks of nodes: where one comes from some starts, what is known of the nodes for a
-- role, which node is unreached, and what a role meets first.
use Rattle.std.proofs.Common.{◌≡◌, ◌⊎◌, inl, inr, ℕ, zero, suc, ◌+◌, ◌<◌, ◌≤◌, Bool, true, false, not, ◌&&◌, List, [], ◌∷◌, ◌++◌, All, map, length, set, get_or, replicate, Some, slice_get, refl, sym}
use Rattle.std.proofs.Common.{ap, ◌∙◌, subst, arith}
use Rattle.std.proofs.lemmas.Bool.{cases_lt, false≢true}
use Rattle.std.proofs.lemmas.Option.{same_Some}
use Rattle.std.proofs.lemmas.List.{length-append, length-map, length-replicate, length-set}
use Rattle.rs_model.specs.Data.{Protocol_data}
use Rattle.rs_model.specs.declared.graph.Node.{Node}
use Rattle.rs_model.specs.declared.graph.Role.{Role}
use Rattle.rs_wellformed.specs.WellFormed.{IsWellFormed}
use Rattle.rs_project.specs.Data.{Front_data}
use Rattle.rs_project.specs.Graph.{IsUnreached}
use Rattle.rs_graph.specs.Lists.{Among}
use Rattle.rs_project.specs.Marks.{AllAwaited, HasFlags, IsLive, IsOn, IsSettled, IsSpread, IsSurvey, Spreading, StartEnds, StartMeets, Survey_data, involves_role, leads_on, nexts_of_node}
use Rattle.rs_project.specs.Marks.{count_of_lowered}
use Rattle.rs_project.specs.Refusals.{IsFront, NoneUnreached}
use Rattle.rs_project.proofs.Cycles.{is_live, least_so_far, nexts_within, none_at_all, none_more, passes_unreached, round_found, round_marked, round_of, unreached_by}
use Rattle.rs_project.proofs.Flags.{none_on, off_flag, on_decide, on_within, set_on, set_unmarked}
use Rattle.rs_project.proofs.Lists.{among_at, at_read, at_short, at_within}
use Rattle.rs_project.proofs.Meetings.{AreCommon, common_less, common_more, is_front, none_common}
use Rattle.rs_project.proofs.Spread.{begun, gone_on, marked_before, marked_now, first_within, spread_whole, stopped}
use Rattle.rs_project.proofs.Surveys.{awaited_set, is_survey}

-- P of all, of one among them
pub among_all : {A : Type 0} (P : A → Type 0) (xs : List A) → All P xs → (x : A) → Among xs x → P x
among_all P xs h x m =
    let at = among_at xs x m in
    subst P (at_read xs at.0 x x at.1) (h at.0 x (at_short xs at.0 x at.1))

-- all that is to be marked soon is marked
record Marked (pr : Protocol_data) (th : List Bool) (starts : List ℕ) (marks : List Bool) (todo : List ℕ) : Type 0 where
  pub marks' : List Bool
  pub todo' : List ℕ
  pub size : length marks' ≡ length marks
  pub owed : count_of_lowered marks' + length todo' ≡ count_of_lowered marks + length todo
  pub going : Spreading pr th starts marks' todo' []

mark_all : (pr : Protocol_data) (th : List Bool) (starts soon : List ℕ) (marks : List Bool) (todo : List ℕ) → ((x : ℕ) → Among soon x → x < length marks)
    → Spreading pr th starts marks todo soon → Marked pr th starts marks todo
mark_all pr th starts [] marks todo w s = record { marks' = marks; todo' = todo; size = refl; owed = refl; going = s }
mark_all pr th starts (x ∷ soon) marks todo w s = elim (on_decide marks x) [
  | inl on ↦ mark_all pr th starts soon marks todo (λ y m. w y (inr m)) (marked_before pr th starts marks todo x soon on s)
  | inr off ↦ (
      let lt = w x (inl refl) in
      let u = set_unmarked marks x lt (off_flag marks x off) in
      let z = length-set marks x true in
      let r = mark_all pr th starts soon (set marks x true) (todo ++ (x ∷ [])) (λ y m. (let h = w y (inr m) in omega (arith, h, z))) (marked_now pr th starts marks todo x soon lt s) in
      let o = r.owed in
      let l = length-append todo (x ∷ []) in
      record { marks' = r.marks'; todo' = r.todo'; size = r.size ∙ z; owed = omega (arith, o, u, l); going = r.going })
]

spread_on : (pr : Protocol_data) (th : List Bool) (starts : List ℕ) → IsWellFormed pr → (k : ℕ) (marks : List Bool) (todo : List ℕ) → length marks ≡ length pr.nodes
    → count_of_lowered marks + length todo ≤ k → Spreading pr th starts marks todo [] → (all : List Bool) × IsSpread pr th starts all
spread_on pr th starts wf k marks [] size le s = (marks, spread_whole pr th starts marks size s)
spread_on pr th starts wf zero marks (x ∷ todo) size le s = absurd (omega (arith, le))
spread_on pr th starts wf (suc k) marks (x ∷ todo) size le s =
    let w = first_within pr th starts marks todo x size s in
    let at = at_within pr.nodes x w in
    elim (on_decide th x) [
      | inl on ↦ (
          let m = mark_all pr th starts (nexts_of_node at.0) marks todo
          (λ y h. (let k = among_all (λ s. s < length pr.nodes) (nexts_of_node at.0) (nexts_within pr x at.0 wf at.1) y h in omega (arith, k, size)))
          (gone_on pr th starts marks todo x at.0 at.1 on s) in
          let o = m.owed in
          spread_on pr th starts wf k m.marks' m.todo' (m.size ∙ size) (omega (arith, o, le)) m.going)
      | inr off ↦ spread_on pr th starts wf k marks todo size (omega (arith, le)) (stopped pr th starts marks todo x (off_flag th x off) s)
    ]

-- there are marks of all nodes to which the starts spread
pub spread_any : (pr : Protocol_data) (th : List Bool) (starts : List ℕ) → IsWellFormed pr → ((x : ℕ) → Among starts x → x < length pr.nodes) → (all : List Bool) × IsSpread pr th starts all
spread_any pr th starts wf w =
    let none = replicate (length pr.nodes) false in
    let size : length none ≡ length pr.nodes = length-replicate (length pr.nodes) false in
    let m = mark_all pr th starts starts none [] (λ x h. (let k = w x h in omega (arith, k, size))) (begun pr th starts none (none_on (length pr.nodes))) in
    spread_on pr th starts wf (count_of_lowered m.marks' + length m.todo') m.marks' m.todo' (m.size ∙ size) (omega arith) m.going

-- a node that isn't flagged and leads to a flagged one
record IsOpen (pr : Protocol_data) (flags : List Bool) : Type 0 where
  pub number : ℕ
  pub node : Node
  pub stands : slice_get pr.nodes number ≡ Some node
  pub leads : leads_on flags node ≡ true
  pub off : IsOn flags number → ⊥

-- none of the first n nodes leads to a flagged one and isn't flagged
abbrev SettledBelow : Protocol_data → List Bool → ℕ → Type 0
SettledBelow pr flags n = (m : ℕ) (node : Node) → m < n → slice_get pr.nodes m ≡ Some node → leads_on flags node ≡ true → IsOn flags m

settled_at : (pr : Protocol_data) (flags : List Bool) (n : ℕ) (k : Node) → slice_get pr.nodes n ≡ Some k → (leads_on flags k ≡ true → IsOn flags n) → SettledBelow pr flags n
    → SettledBelow pr flags (suc n)
settled_at pr flags n k at here below m node lt e leads = elim (cases_lt m n) [
  | inl h ↦ below m node h e leads
  | inr h ↦ (
      let same : m ≡ n = omega (arith, lt, h) in
      let P : ℕ → Type 0 = λ z. slice_get pr.nodes z ≡ Some node in
      let there : slice_get pr.nodes n ≡ Some node = subst P same e in
      let eq : node ≡ k = same_Some node k (sym there ∙ at) in
      let Q : Node → Type 0 = λ z. leads_on flags z ≡ true in
      let R : ℕ → Type 0 = λ z. IsOn flags z in
      subst R (sym same) (here (subst Q eq leads)))
]

open_or_settled : (pr : Protocol_data) (flags : List Bool) (n : ℕ) → n ≤ length pr.nodes → IsOpen pr flags ⊎ SettledBelow pr flags n
open_or_settled pr flags zero le = inr (λ m node lt e leads. absurd (omega (arith, lt)))
open_or_settled pr flags (suc n) le = elim (open_or_settled pr flags n (omega (arith, le))) [
  | inl o ↦ inl o
  | inr below ↦ (
      let at = at_within pr.nodes n (omega (arith, le)) in
      elim (on_decide flags n) [
        | inl on ↦ inr (settled_at pr flags n at.0 at.1 (λ _. on) below)
        | inr off ↦ go at.0 at.1 below off (leads_on flags at.0) refl
      ])
]
  where
    go : (k : Node) → slice_get pr.nodes n ≡ Some k → SettledBelow pr flags n → (IsOn flags n → ⊥) → (b : Bool) → leads_on flags k ≡ b → IsOpen pr flags ⊎ SettledBelow pr flags (suc n)
    go k at below off true e = inl record { number = n; node = k; stands = at; leads = e; off = off }
    go k at below off false e = inr (settled_at pr flags n k at (λ h. absurd (false≢true (sym e ∙ h))) below)

-- flags that were spread to all nodes that lead to a flagged one
record Settles (pr : Protocol_data) (flags : List Bool) : Type 0 where
  pub flags' : List Bool
  pub size : length flags' ≡ length pr.nodes
  pub sound : (r : Role) → AllAwaited pr r flags → AllAwaited pr r flags'
  pub has : HasFlags flags flags'
  pub settled : IsSettled pr flags'

already : (pr : Protocol_data) (flags : List Bool) → length flags ≡ length pr.nodes → SettledBelow pr flags (length pr.nodes) → Settles pr flags
already pr flags size all = record {
  flags' = flags;
  size = size;
  sound = λ r h. h;
  has = λ n h. h;
  settled = λ n node at leads. all n node (at_short pr.nodes n node at) at leads;
}

open_within : (pr : Protocol_data) (flags : List Bool) → length flags ≡ length pr.nodes → (o : IsOpen pr flags) → o.number < length flags
open_within pr flags size o = let w = at_short pr.nodes o.number o.node o.stands in omega (arith, w, size)

settle : (pr : Protocol_data) (k : ℕ) (flags : List Bool) → count_of_lowered flags ≤ k → length flags ≡ length pr.nodes → Settles pr flags
settle pr zero flags le size = elim (open_or_settled pr flags (length pr.nodes) (omega arith)) [
  | inr all ↦ already pr flags size all
  | inl o ↦ (let u = set_unmarked flags o.number (open_within pr flags size o) (off_flag flags o.number o.off) in absurd (omega (arith, u, le)))
]
settle pr (suc k) flags le size = elim (open_or_settled pr flags (length pr.nodes) (omega arith)) [
  | inr all ↦ already pr flags size all
  | inl o ↦ (
      let u = set_unmarked flags o.number (open_within pr flags size o) (off_flag flags o.number o.off) in
      let z = length-set flags o.number true in
      let r = settle pr k (set flags o.number true) (omega (arith, u, le)) (z ∙ size) in
      record {
        flags' = r.flags';
        size = r.size;
        sound = λ role h. r.sound role (awaited_set pr role flags o.number o.node o.stands o.leads h);
        has = λ n h. r.has n (set_on flags o.number n h);
        settled = r.settled;
      })
]

-- the flags of the first list without those of the second
abbrev without : List Bool → List Bool → List Bool
without [] bs = []
without (a ∷ as') [] = a ∷ without as' []
without (a ∷ as') (b ∷ bs) = (a && not b) ∷ without as' bs

without_size : (xs ys : List Bool) → length (without xs ys) ≡ length xs
without_size [] ys = refl
without_size (x ∷ xs) [] = ap suc (without_size xs [])
without_size (x ∷ xs) (y ∷ ys) = ap suc (without_size xs ys)

without_each : (xs ys : List Bool) → length xs ≡ length ys → (n : ℕ) → n < length ys → get_or (without xs ys) n false ≡ (get_or xs n false && not (get_or ys n false))
without_each xs [] e n h = absurd (omega (arith, h))
without_each [] (y ∷ ys) e n h = absurd (omega (arith, e))
without_each (x ∷ xs) (y ∷ ys) e zero h = refl
without_each (x ∷ xs) (y ∷ ys) e (suc n) h = without_each xs ys (omega (arith, e)) n (omega (arith, h))

-- all is known of the nodes for the role
pub survey_any : (pr : Protocol_data) (role : Role) → (sv : Survey_data) × IsSurvey pr role sv
survey_any pr role =
    let involved : List Bool = map (λ (k : Node). involves_role role k) pr.nodes in
    let size : length involved ≡ length pr.nodes = length-map pr.nodes (λ (k : Node). involves_role role k) in
    let s = settle pr (count_of_lowered involved) involved (omega arith) size in
    let z = s.size in (
      record { protocol = pr; role = role; involved = involved; awaited = s.flags'; passing = without s.flags' involved; run_ends = [] },
      is_survey pr role involved s.flags' (without s.flags' involved) [] refl s.size (without_size s.flags' involved ∙ s.size ∙ sym size) (s.sound role) s.has s.settled
          (without_each s.flags' involved (s.size ∙ sym size)),
    )

-- the flags of both lists
abbrev both : List Bool → List Bool → List Bool
both [] bs = []
both (a ∷ as') [] = false ∷ both as' []
both (a ∷ as') (b ∷ bs) = (a && b) ∷ both as' bs

both_size : (xs ys : List Bool) → length (both xs ys) ≡ length xs
both_size [] ys = refl
both_size (x ∷ xs) [] = ap suc (both_size xs [])
both_size (x ∷ xs) (y ∷ ys) = ap suc (both_size xs ys)

both_each : (xs ys : List Bool) → length xs ≡ length ys → (n : ℕ) → n < length xs → get_or (both xs ys) n false ≡ (get_or xs n false && get_or ys n false)
both_each [] ys e n h = absurd (omega (arith, h))
both_each (x ∷ xs) [] e n h = absurd (omega (arith, e))
both_each (x ∷ xs) (y ∷ ys) e zero h = refl
both_each (x ∷ xs) (y ∷ ys) e (suc n) h = both_each xs ys (omega (arith, e)) n (omega (arith, h))

live_any : (pr : Protocol_data) (role : Role) (sv : Survey_data) → IsWellFormed pr → IsSurvey pr role sv → (live : List Bool) × IsLive pr role live
live_any pr role sv wf is =
    let every = replicate (length pr.nodes) true in
    let r = spread_any pr every (pr.root ∷ []) wf (λ x. elim [ inl e ↦ (let r = wf.root in omega (arith, e, r)) | inr m ↦ absurd m ]) in
    (both r.0 sv.passing, is_live pr role sv every r.0 (both r.0 sv.passing) is refl r.1 (both_size r.0 sv.passing) (both_each r.0 sv.passing (r.1.size ∙ sym is.passing_size)))

-- whether the node is unreached
decide : (pr : Protocol_data) (role : Role) (sv : Survey_data) (live : List Bool) → IsWellFormed pr → IsSurvey pr role sv → IsLive pr role live → (n : ℕ)
    → IsUnreached pr role n ⊎ (IsUnreached pr role n → ⊥)
decide pr role sv live wf is lv n = elim (on_decide live n) [
  | inr off ↦ inr (λ u. off (lv.whole n u.reached (passes_unreached pr role n u)))
  | inl on ↦ (
      let at = at_within pr.nodes n (let w = on_within live n on in omega (arith, w, lv.size)) in
      let passing : IsOn sv.passing n = (is.passing n).1 (lv.passing n on) in
      let m = spread_any pr sv.passing (nexts_of_node at.0) wf (among_all (λ s. s < length pr.nodes) (nexts_of_node at.0) (nexts_within pr n at.0 wf at.1)) in
      elim (on_decide m.0 n) [
        | inl round ↦ inl (unreached_by pr role n (lv.reached n on) (round_found pr role sv n at.0 m.0 is at.1 passing m.1 round))
        | inr none ↦ inr (λ u. none (round_marked pr role sv n at.0 m.0 is at.1 m.1 (round_of pr role n u)))
      ])
]

-- the least node that is unreached
pub record IsLeastUnreached (pr : Protocol_data) (role : Role) (node : ℕ) : Type 0 where
  pub unreached : IsUnreached pr role node
  pub least : (n : ℕ) → IsUnreached pr role n → node ≤ n

least_from : (pr : Protocol_data) (role : Role) → ((n : ℕ) → IsUnreached pr role n ⊎ (IsUnreached pr role n → ⊥)) → (k m : ℕ) → length pr.nodes ≤ m + k
    → ((n : ℕ) → n < m → IsUnreached pr role n → ⊥) → ((node : ℕ) × IsLeastUnreached pr role node) ⊎ NoneUnreached pr role
least_from pr role d zero m le none = inr (none_at_all pr role m (omega (arith, le)) none)
least_from pr role d (suc k) m le none = elim (d m) [
  | inl u ↦ inl (m, record { unreached = u; least = least_so_far pr role m none })
  | inr other ↦ least_from pr role d k (m + 1) (omega (arith, le)) (none_more pr role m none other)
]

pub least_or_none : (pr : Protocol_data) (role : Role) (sv : Survey_data) → IsWellFormed pr → IsSurvey pr role sv → ((node : ℕ) × IsLeastUnreached pr role node) ⊎ NoneUnreached pr role
least_or_none pr role sv wf is =
    let live = live_any pr role sv wf is in
    least_from pr role (decide pr role sv live.0 wf is live.1) (length pr.nodes) 0 (omega arith) (λ n h. absurd (omega (arith, h)))

-- the numbers of the flags that stand in both lists
common_any : (one other : List Bool) (count : ℕ) → (numbers : List ℕ) × AreCommon one other count numbers
common_any one other zero = ([], none_common one other)
common_any one other (suc count) =
    let r = common_any one other count in
    let P : ℕ → List ℕ → Type 0 = λ z numbers. AreCommon one other z numbers in
    let e : count + 1 ≡ suc count = omega arith in
    elim (on_decide one count) [
      | inr off ↦ (r.0, subst (λ z. P z r.0) e (common_less one other count r.0 (λ a b. off a) r.1))
      | inl on ↦ elim (on_decide other count) [
        | inr off ↦ (r.0, subst (λ z. P z r.0) e (common_less one other count r.0 (λ a b. off b) r.1))
        | inl too ↦ (r.0 ++ (count ∷ []), subst (λ z. P z (r.0 ++ (count ∷ []))) e (common_more one other count r.0 on too r.1))
      ]
    ]

-- whether some flag of the first list doesn't stand in the second
record Outside (one other : List Bool) (count : ℕ) : Type 0 where
  pub found : Bool
  pub sound : found ≡ true → (n : ℕ) × IsOn one n × (IsOn other n → ⊥)
  pub whole : found ≡ false → (n : ℕ) → n < count → IsOn one n → IsOn other n

outside : (one other : List Bool) (count : ℕ) → Outside one other count
outside one other zero = record { found = false; sound = λ e. absurd (false≢true e); whole = λ e n h. absurd (omega (arith, h)) }
outside one other (suc count) = elim (on_decide one count) [
  | inr off ↦ (let r = outside one other count in record {
    found = r.found;
    sound = r.sound;
    whole = λ e n h on. (let P : ℕ
        → Type 0 = λ z. IsOn one z in elim (cases_lt n count) [ inl k ↦ r.whole e n k on | inr k ↦ (let s : n ≡ count = omega (arith, k, h) in absurd (off (subst P s on))) ]);
  })
  | inl on ↦ elim (on_decide other count) [
    | inr none ↦ record { found = true; sound = λ e. (count, on, none); whole = λ e. absurd (false≢true (sym e)) }
    | inl too ↦ (let r = outside one other count in record {
      found = r.found;
      sound = r.sound;
      whole = λ e n h on'. (let P : ℕ
          → Type 0 = λ z. IsOn other z in elim (cases_lt n count) [ inl k ↦ r.whole e n k on' | inr k ↦ (let s : count ≡ n = omega (arith, k, h) in subst P s too) ]);
    })
  ]
]

-- what the role first meets from some starts
pub front_any : (pr : Protocol_data) (role : Role) (sv : Survey_data) (starts : List ℕ) → IsWellFormed pr → IsSurvey pr role sv → ((x : ℕ) → Among starts x → x < length pr.nodes)
    → (f : Front_data) × IsFront f (StartMeets pr role starts) (StartEnds pr role starts)
front_any pr role sv starts wf is w =
    let m = spread_any pr sv.passing starts wf w in
    let t = common_any m.0 sv.involved (length m.0) in
    let o = outside m.0 sv.awaited (length m.0) in
    (record { talks = t.0; ends = o.found }, is_front pr role sv starts m.0 t.0 o.found is m.1 t.1 o.sound o.whole)
