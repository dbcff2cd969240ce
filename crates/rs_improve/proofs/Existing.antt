-- There is an improved machine, or there are too many candidates of the machine and itself.
use Rattle.std.proofs.Common.{◌≡◌, ◌≢◌, ◌⊎◌, inl, inr, ℕ, ◌+◌, ◌<◌, ◌≤◌, List, [], ◌∷◌, length, map, refl, sym, ap, ◌∙◌, subst, arith, zero, suc, Some, None, Option, slice_get}
use Rattle.std.proofs.lemmas.Bool.{cases_lt}
use Rattle.std.proofs.lemmas.Bool.Decides.{eqb_tells}
use Rattle.std.proofs.lemmas.Option.{none-some, same_Some}
use Rattle.rs_model.specs.Data.{Machine_data}
use Rattle.rs_model.specs.Serving.{sort_number}
use Rattle.rs_model.specs.declared.graph.Arm.{Arm}
use Rattle.rs_model.specs.declared.graph.Label.{Label}
use Rattle.rs_model.specs.declared.graph.Role.{Role}
use Rattle.rs_model.specs.declared.limits.TheConstants.{MOST_CANDIDATES, MOST_STATES}
use Rattle.rs_model.specs.declared.machines.State.{State}
use Rattle.rs_model.specs.declared.machines.State.TheVariants.{Done, Puts, Takes}
use Rattle.rs_model.specs.declared.values.Sort.{Sort}
use Rattle.rs_derive.proofs.Acts.{sort_is}
use Rattle.rs_derive.specs.Data.{Derivation_data}
use Rattle.rs_derive.specs.Derivations.{IsProper}
use Rattle.rs_graph.proofs.Growth.{at_in, at_short, growing_begin}
use Rattle.rs_graph.specs.Lists.{Among}
use Rattle.rs_search.proofs.Deciding.{Decision, decided}
use Rattle.rs_search.proofs.Discovering.{Tells, discovered}
use Rattle.rs_search.specs.Candidates.{AreMoreThan}
use Rattle.rs_search.specs.Canonical.{IsCanonical, SearchRefuses}
use Rattle.rs_search.specs.declared.faults.SearchFault.{SearchFault}
use Rattle.rs_search.specs.declared.faults.SearchFault.TheVariants as fault
use Rattle.rs_improve.proofs.Itself.{itself_is_derived}
use Rattle.rs_improve.proofs.Once.{so_far_ceased, so_far_first, so_far_on}
use Rattle.rs_improve.proofs.SwapLaws.{swapped_proper}
use Rattle.rs_improve.specs.Attempts.{SwapsOnceMore, IsSwappedSoFar}
use Rattle.rs_improve.specs.Data.{Improved_data}
use Rattle.rs_improve.specs.Improved.{CeasesAt, IsAsked, HasNoSwap, HasTooManyStates, IsRefused, IsImproved, reason_of}
use Rattle.rs_improve.specs.Swaps.{Exchange_data, HasNoExchange, HaveSameMessages, IsLeastExchange, IsSwappable, LeadsToSends, SwapsTo, SwapsToMoreThan, state_to, swapped_nexts, swapped_state}
use Rattle.rs_improve.specs.declared.improving.Ceased.{Ceased}
use Rattle.rs_improve.specs.declared.improving.Ceased.TheVariants as ceased
use Rattle.rs_improve.specs.declared.swaps.SwappedState.{SwappedState}
use Rattle.rs_improve.specs.declared.swaps.SwappedState.TheVariants.{New, Old}

-- holds or doesn't
abbrev Decided : Type 0 → Type 0
Decided P = P ⊎ (P → ⊥)

both : {P Q : Type 0} → Decided P → Decided Q → Decided (P × Q)
both (inl p) (inl q) = inl (p, q)
both (inl p) (inr fails) = inr (λ h. fails h.1)
both (inr fails) q = inr (λ h. fails h.0)

decided_by : {P Q : Type 0} → (P → Q) → (Q → P) → Decided P → Decided Q
decided_by to from (inl p) = inl (to p)
decided_by to from (inr fails) = inr (λ q. fails (from q))

-- ---- equal messages

named_label : ℕ → Label
named_label n = record { 0 = n }

tells_label : Tells Label
unfolding named_label
tells_label k l = elim (eqb_tells k.0 l.0) [ inl p ↦ inl (ap named_label p.1) | inr p ↦ inr (λ e. p.1 (ap (λ (z : Label). z.0) e)) ]

tells_sort : Tells Sort
tells_sort s t = elim (eqb_tells (sort_number s) (sort_number t)) [ inl p ↦ inl (sort_is s t p.0) | inr p ↦ inr (λ e. p.1 (ap sort_number e)) ]

named_role : ℕ → Role
named_role n = record { 0 = n }

tells_role : Tells Role
unfolding named_role
tells_role p q = elim (eqb_tells p.0 q.0) [ inl e ↦ inl (ap named_role e.1) | inr n ↦ inr (λ e. n.1 (ap (λ (z : Role). z.0) e)) ]

tells_list : {X : Type 0} → Tells X → Tells (List X)
tells_list same [] [] = inl refl
tells_list same [] (y ∷ ys) = inr (λ e. cc)
tells_list same (x ∷ xs) [] = inr (λ e. cc)
tells_list same (x ∷ xs) (y ∷ ys) = decided_by (λ h. cc (h.0, h.1)) (λ e. (cc, cc)) (both (same x y) (tells_list same xs ys))

same_messages : (ours theirs : List Arm) → Decided (HaveSameMessages ours theirs)
same_messages ours theirs =
    decided_by (λ h. record { labels = h.0; sorts = h.1 }) (λ h. (h.labels, h.sorts))
    (both (tells_list tells_label (map (λ (a : Arm). a.label) ours) (map (λ (a : Arm). a.label) theirs))
    (tells_list tells_sort (map (λ (a : Arm). a.sort) ours) (map (λ (a : Arm). a.sort) theirs)))

-- ---- an exchange at a state

leads_by : (machine : Machine_data) (to : Role) (puts : List Arm) (arm : Arm) (o : Option State) → slice_get machine.states arm.next ≡ o → Decided (LeadsToSends machine to puts arm)
leads_by machine to puts arm None e = inr (λ l. none-some (Puts to l.own) (sym e ∙ l.stands))
leads_by machine to puts arm (Some Done) e = inr (λ l. let k : Done ≡ Puts to l.own = same_Some Done (Puts to l.own) (sym e ∙ l.stands) in cc)
leads_by machine to puts arm (Some (Takes q arms)) e = inr (λ l. let k : Takes q arms ≡ Puts to l.own = same_Some (Takes q arms) (Puts to l.own) (sym e ∙ l.stands) in cc)
leads_by machine to puts arm (Some (Puts q own)) e =
    decided_by (λ h. record { own = own; stands = e ∙ ap (λ (z : Role). Some (Puts z own)) h.0; same = h.1 })
    (λ l. let k : Puts q own ≡ Puts to l.own = same_Some (Puts q own) (Puts to l.own) (sym e ∙ l.stands) in
    let r : q ≡ to = cc in let a : l.own ≡ own = cc in (r, subst (λ (z : List Arm). HaveSameMessages z puts) a l.same)) (both (tells_role q to) (same_messages own puts))

all_lead : (machine : Machine_data) (to : Role) (puts arms : List Arm) → Decided ((arm : Arm) → Among arms arm → LeadsToSends machine to puts arm)
all_lead machine to puts [] = inl (λ arm m. absurd m)
all_lead machine to puts (a ∷ arms) =
    decided_by (λ h arm m. elim m [ inl e ↦ subst (λ (z : Arm). LeadsToSends machine to puts z) e h.0 | inr n ↦ h.1 arm n ])
    (λ h. (h a (inl refl), λ arm m. h arm (inr m))) (both (leads_by machine to puts a (slice_get machine.states a.next) refl) (all_lead machine to puts arms))

-- the exchange has what stands at the state and after the first arm
takes_are : (machine : Machine_data) (n : ℕ) (q : Role) (arms : List Arm) → slice_get machine.states n ≡ Some (Takes q arms) → (s : IsSwappable machine n) → arms ≡ s.0.takes
takes_are machine n q arms e s =
    let k : Takes q arms ≡ Takes s.0.from s.0.takes
    = same_Some (Takes q arms) (Takes s.0.from s.0.takes) (sym e ∙ ap (λ (z : ℕ). slice_get machine.states z) (sym s.2) ∙ s.1.stands) in cc

swappable_behind : (machine : Machine_data) (n : ℕ) (q : Role) (a : Arm) (arms : List Arm) → slice_get machine.states n ≡ Some (Takes q (a ∷ arms)) → (o : Option State)
    → slice_get machine.states a.next ≡ o → Decided (IsSwappable machine n)
swappable_behind machine n q a arms e o f = by o f
  where
    first : (s : IsSwappable machine n) → s.1.first ≡ a
    first s = same_Some s.1.first a (sym s.1.begins ∙ ap (λ (z : List Arm). slice_get z 0) (sym (takes_are machine n q (a ∷ arms) e s)))

    sends : (s : IsSwappable machine n) → slice_get machine.states a.next ≡ Some (Puts s.0.to s.0.puts)
    sends s = ap (λ (z : Arm). slice_get machine.states z.next) (sym (first s)) ∙ s.1.sends

    by : (o : Option State) → slice_get machine.states a.next ≡ o → Decided (IsSwappable machine n)
    by None f = inr (λ s. none-some (Puts s.0.to s.0.puts) (sym f ∙ sends s))
    by (Some Done) f = inr (λ s. let k : Done ≡ Puts s.0.to s.0.puts = same_Some Done (Puts s.0.to s.0.puts) (sym f ∙ sends s) in cc)
    by (Some (Takes r own)) f = inr (λ s. let k : Takes r own ≡ Puts s.0.to s.0.puts = same_Some (Takes r own) (Puts s.0.to s.0.puts) (sym f ∙ sends s) in cc)
    by (Some (Puts r own)) f = elim (all_lead machine r own (a ∷ arms)) [
      | inl each ↦ inl (
        record { state = n; from = q; takes = a ∷ arms; to = r; puts = own },
        record { stands = e; first = a; begins = refl; sends = f; each = each },
        refl,
      )
      | inr fails ↦ inr (λ s. let k : Puts r own ≡ Puts s.0.to s.0.puts = same_Some (Puts r own) (Puts s.0.to s.0.puts) (sym f ∙ sends s) in
          let er : s.0.to ≡ r = cc in
          let eo : s.0.puts ≡ own = cc in
          fails (λ arm m. subst (λ (z : List Arm). LeadsToSends machine r z arm) eo
          (subst (λ (z : Role). LeadsToSends machine z s.0.puts arm) er (s.1.each arm (subst (λ (z : List Arm). Among z arm) (takes_are machine n q (a ∷ arms) e s) m)))))
    ]

swappable_at : (machine : Machine_data) (n : ℕ) (o : Option State) → slice_get machine.states n ≡ o → Decided (IsSwappable machine n)
swappable_at machine n None e = inr (λ s. none-some (Takes s.0.from s.0.takes) (sym e ∙ ap (λ (z : ℕ). slice_get machine.states z) (sym s.2) ∙ s.1.stands))
swappable_at machine n (Some Done) e =
    inr (λ s. let k : Done ≡ Takes s.0.from s.0.takes
    = same_Some Done (Takes s.0.from s.0.takes) (sym e ∙ ap (λ (z : ℕ). slice_get machine.states z) (sym s.2) ∙ s.1.stands) in cc)
swappable_at machine n (Some (Puts q arms)) e =
    inr (λ s. let k : Puts q arms ≡ Takes s.0.from s.0.takes
    = same_Some (Puts q arms) (Takes s.0.from s.0.takes) (sym e ∙ ap (λ (z : ℕ). slice_get machine.states z) (sym s.2) ∙ s.1.stands) in cc)
swappable_at machine n (Some (Takes q [])) e =
    inr (λ s. none-some s.1.first (ap (λ (z : List Arm). slice_get z 0) (takes_are machine n q [] e s) ∙ s.1.begins))
swappable_at machine n (Some (Takes q (a ∷ arms))) e = swappable_behind machine n q a arms e (slice_get machine.states a.next) refl

-- the least of the first n states that can be swapped, or none of them can
least_below : (machine : Machine_data) (count : ℕ) → ((x : Exchange_data) × IsLeastExchange machine x) ⊎ ((n : ℕ) → n < count → IsSwappable machine n → ⊥)
least_below machine zero = inr (λ n lt s. let bad : ⊥ = omega arith in bad)
least_below machine (suc count) = elim (least_below machine count) [
  | inl x ↦ inl x
  | inr none ↦ elim (swappable_at machine count (slice_get machine.states count) refl) [
    | inl s ↦ inl (s.0, record { is_exchange = s.1; least = λ n lt t. none n (let e = s.2 in omega arith) t })
    | inr fails ↦ inr (λ n lt s. elim (cases_lt n count) [
      | inl less ↦ none n less s
      | inr at_least ↦ (let e : n ≡ count = omega arith in fails (subst (λ (z : ℕ). IsSwappable machine z) e s))
    ])
  ]
]

least_or_none : (machine : Machine_data) → ((x : Exchange_data) × IsLeastExchange machine x) ⊎ HasNoExchange machine
least_or_none machine = elim (least_below machine (length machine.states)) [
  | inl x ↦ inl x
  | inr none ↦ inr (λ n s. none n (at_short machine.states n (Takes s.0.from s.0.takes) (ap (λ (z : ℕ). slice_get machine.states z) (sym s.2) ∙ s.1.stands)) s)
]

-- ---- the swapped machine

tells_state : Tells SwappedState
tells_state (Old n) (Old m) = elim (eqb_tells n m) [ inl p ↦ inl (ap Old p.1) | inr p ↦ inr (λ e. p.1 cc) ]
tells_state (Old n) (New m) = inr (λ e. cc)
tells_state (New n) (Old m) = inr (λ e. cc)
tells_state (New n) (New m) = elim (eqb_tells n m) [ inl p ↦ inl (ap New p.1) | inr p ↦ inr (λ e. p.1 cc) ]

states_along : Machine_data → Exchange_data → List SwappedState → List (List ℕ) → List State
states_along machine x [] rows = []
states_along machine x (s ∷ found) [] = []
states_along machine x (s ∷ found) (row ∷ rows) = state_to (swapped_state machine x s) row ∷ states_along machine x found rows

along_length : (machine : Machine_data) (x : Exchange_data) (found : List SwappedState) (rows : List (List ℕ)) → length rows ≡ length found → length (states_along machine x found rows) ≡ length found
unfolding states_along
along_length machine x [] rows e = refl
along_length machine x (s ∷ found) [] e = let bad : ⊥ = omega arith in absurd bad
along_length machine x (s ∷ found) (row ∷ rows) e = ap suc (along_length machine x found rows (omega arith))

along_at : (machine : Machine_data) (x : Exchange_data) (found : List SwappedState) (rows : List (List ℕ)) (k : ℕ) (s : SwappedState) (row : List ℕ) → slice_get found k ≡ Some s
    → slice_get rows k ≡ Some row → slice_get (states_along machine x found rows) k ≡ Some (state_to (swapped_state machine x s) row)
unfolding states_along
along_at machine x [] rows k s row e f = absurd (none-some s e)
along_at machine x (t ∷ found) [] k s row e f = absurd (none-some row f)
along_at machine x (t ∷ found) (r ∷ rows) zero s row e f =
    ap (λ (z : SwappedState). Some (state_to (swapped_state machine x z) r)) (same_Some t s e) ∙ ap (λ (z : List ℕ). Some (state_to (swapped_state machine x s) z)) (same_Some r row f)
along_at machine x (t ∷ found) (r ∷ rows) (suc k) s row e f = along_at machine x found rows k s row e f

-- what comes of one more swap: none, too many states, or the next machine
pub data Next (machine : Machine_data) : Type 0 where
  Nowhere : HasNoExchange machine → Next machine
  TooFar : SwapsToMoreThan machine MOST_STATES → Next machine
  To : (next : Machine_data) → SwapsTo machine next → length next.states ≤ MOST_STATES → Next machine

next_by : (machine : Machine_data) (x : Exchange_data) → IsLeastExchange machine x → Next machine
next_by machine x least = elim (discovered tells_state (swapped_nexts machine x) (Old machine.start) MOST_STATES (suc MOST_STATES) (Old machine.start ∷ []) [] (omega arith) (omega arith)
    (growing_begin (swapped_nexts machine x) (Old machine.start))) [
      | inl w ↦ (let size = along_length machine x w.found w.rows w.discovery.all in
          To (record { role = machine.role; states = states_along machine x w.found w.rows; start = 0 })
          (record {
            exchange = x;
            least = least;
            is_swapped = record { role = refl; start = refl; found = w.found; rows = w.rows; discovery = w.discovery; many = size; each = along_at machine x w.found w.rows };
          })
          (let b = w.bounded in omega arith))
      | inr more ↦ TooFar
          (record { exchange = x; least = least; found = more.some; once = more.once; each = λ s m. (let i = at_in more.some s m in more.reached i.0 s i.1); many = more.many })
    ]

pub next_of : (machine : Machine_data) → Next machine
next_of machine = elim (least_or_none machine) [ inl x ↦ next_by machine x.0 x.1 | inr none ↦ Nowhere none ]

-- ---- one more swap, and all of them

reason_told : (f : SearchFault) → f ≢ fault.NoMemory → (reason : Ceased) × (reason_of f ≡ Some reason)
reason_told (fault.NotFound cut) ne = (ceased.NotFound cut, refl)
reason_told (fault.Forgets node) ne = (ceased.Forgets node, refl)
reason_told fault.TooLarge ne = (ceased.TooLarge, refl)
reason_told fault.NoMemory ne = absurd (ne refl)

-- a reason to cease, or the next machine
abbrev Turn : Machine_data → ℕ → ℕ → ℕ → Machine_data → Type 0
Turn above bound asked m machine = ((reason : Ceased) × CeasesAt above bound asked m machine reason) ⊎ ((next : Machine_data) × (d : Derivation_data) × SwapsOnceMore above bound asked m machine next d)

turn_to : (above : Machine_data) (bound asked m : ℕ) (machine next : Machine_data) → m < asked → IsProper next → SwapsTo machine next → length next.states ≤ MOST_STATES → Decision next above bound
    → Turn above bound asked m machine
turn_to above bound asked m machine next lt w s few (inl d) = inr (next, d.0, record { fewer = lt; swaps = s; few_states = few; derives = d.1; proper = w })
turn_to above bound asked m machine next lt w s few (inr f) = let r = reason_told f.0 f.1 in inl (r.0, IsRefused next f.0 r.0 lt s few f.2 r.1)

turn_by : (above : Machine_data) (bound asked m : ℕ) (machine : Machine_data) → IsProper above → IsProper machine → m < asked → Next machine → Turn above bound asked m machine
turn_by above bound asked m machine wa w lt (Nowhere none) = inl (ceased.NoSwap, HasNoSwap lt none)
turn_by above bound asked m machine wa w lt (TooFar more) = inl (ceased.TooManyStates, HasTooManyStates lt more)
turn_by above bound asked m machine wa w lt (To next s few) =
    let p = swapped_proper machine next w s in turn_to above bound asked m machine next lt p s few (decided next above bound p wa)

abbrev Some_improved : Machine_data → ℕ → ℕ → Type 0
Some_improved above bound asked = (i : Improved_data) × IsImproved above bound asked i

improved_from : (above : Machine_data) (bound asked : ℕ) → IsProper above → (n m : ℕ) (machine : Machine_data) (d : Derivation_data) → m + n ≡ asked → IsSwappedSoFar above bound asked m machine d
    → Some_improved above bound asked
improved_from above bound asked wa zero m machine d e s =
    let i : Improved_data = record { machine = machine; swaps = m; ceased = ceased.Asked; derivation = d } in (i, so_far_ceased above bound asked i s (IsAsked (omega arith)))
improved_from above bound asked wa (suc n) m machine d e s = elim (turn_by above bound asked m machine wa s.proper (omega arith) (next_of machine)) [
  | inl r ↦ (let i : Improved_data = record { machine = machine; swaps = m; ceased = r.0; derivation = d } in (i, so_far_ceased above bound asked i s r.1))
  | inr g ↦ improved_from above bound asked wa n (m + 1) g.0 g.1 (omega arith) (so_far_on above bound asked m (m + 1) machine g.0 d g.1 refl s g.2)
]

pub improved_or_not : (above : Machine_data) (bound asked : ℕ) → IsProper above → 0 < bound → Some_improved above bound asked ⊎ AreMoreThan above above bound MOST_CANDIDATES
improved_or_not above bound asked w some = elim (decided above above bound w w) [
  | inl d ↦ inl (improved_from above bound asked w asked 0 above d.0 (omega arith) (so_far_first above bound asked d.0 w d.1))
  | inr f ↦ elim (itself_is_derived above bound w some f.0 f.2) [
    | inl e ↦ inr (subst (λ (z : SearchFault). SearchRefuses above above bound z) e f.2)
    | inr e ↦ absurd (f.1 e)
  ]
]

-- where the machine has a derivation from itself there is an improved one
pub some_improved : (above : Machine_data) (bound asked : ℕ) (d : Derivation_data) → IsProper above → IsCanonical above above bound d → (i : Improved_data) × IsImproved above bound asked i
some_improved above bound asked d w found = improved_from above bound asked w asked 0 above d (omega arith) (so_far_first above bound asked d w found)
