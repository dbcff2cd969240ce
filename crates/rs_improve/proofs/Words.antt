-- What a swapped machine does: the words of the machine before, but for the order of a receive and a send.
use Rattle.std.proofs.Common.{◌≡◌, ◌≢◌, inl, inr, ℕ, ◌+◌, ◌<◌, Bool, true, false, List, [], ◌∷◌, ◌++◌, length, map, refl, sym, ap, ◌∙◌, subst, arith, zero, suc, Some, Option, slice_get, if◌then◌else◌, eqb}
use Rattle.std.proofs.lemmas.Bool.Decides.{eqb_tells}
use Rattle.std.proofs.lemmas.Option.{none-some, same_Some}
use Rattle.rs_model.specs.Data.{Machine_data}
use Rattle.rs_model.specs.declared.graph.Arm.{Arm}
use Rattle.rs_model.specs.declared.graph.Label.{Label}
use Rattle.rs_model.specs.declared.graph.Role.{Role}
use Rattle.rs_model.specs.declared.machines.Act.{Act}
use Rattle.rs_model.specs.declared.machines.Act.TheVariants as act
use Rattle.rs_model.specs.declared.machines.State.{State}
use Rattle.rs_model.specs.declared.machines.State.TheVariants as state
use Rattle.rs_model.specs.declared.values.Sort.{Sort}
use Rattle.rs_derive.proofs.Mapped.{map_at, map_of}
use Rattle.rs_derive.specs.Derivations.{IsProper}
use Rattle.rs_graph.proofs.Buckets.{got}
use Rattle.rs_graph.proofs.Growth.{at_in, at_short, at_within, in_at}
use Rattle.rs_graph.specs.Lists.{Among, ArePlacesOf}
use Rattle.rs_improve.specs.Swaps.{Exchange_data, HaveSameMessages, IsExchange, IsSwapped, LeadsToSends, SwapsTo, arms_of, arms_to, next_behind, arm_numbers, state_before, state_to, swapped_nexts, swapped_state}
use Rattle.rs_improve.specs.Words.{Walks, Stays, Sends, Receives, SendsEarlier, Ends, Keeps, Swaps, IsEnd, SaysLater, SaysEarlier, receives_of, sends_of}
use Rattle.rs_improve.specs.declared.swaps.SwappedState.{SwappedState}
use Rattle.rs_improve.specs.declared.swaps.SwappedState.TheVariants.{New, Old}

-- ---- arms that lead to numbered states

-- an arm of the swapped machine, and the one that it was made of
record Picked (found : List SwappedState) (arms : List Arm) (ys : List SwappedState) (b : Arm) : Type 0 where
  pub place : ℕ
  pub arm : Arm
  pub stands : slice_get arms place ≡ Some arm
  pub label : b.label ≡ arm.label
  pub sort : b.sort ≡ arm.sort
  pub next : SwappedState
  pub at : slice_get ys place ≡ Some next
  pub leads : slice_get found b.next ≡ Some next

picked : (found : List SwappedState) (arms : List Arm) (row : List ℕ) (ys : List SwappedState) → ArePlacesOf found row ys → (b : Arm) → Among (arms_to arms row) b → Picked found arms ys b
picked found [] ns ys h b m = absurd m
picked found (a ∷ arms) [] ys h b m = absurd m
picked found (a ∷ arms) (n ∷ ns) [] h b m = absurd h
picked found (a ∷ arms) (n ∷ ns) (y ∷ ys) h b (inl e) = record {
  place = 0;
  arm = a;
  stands = refl;
  label = sym (ap (λ (z : Arm). z.label) e);
  sort = sym (ap (λ (z : Arm). z.sort) e);
  next = y;
  at = refl;
  leads = ap (λ (z : Arm). slice_get found z.next) (sym e) ∙ h.0;
}
picked found (a ∷ arms) (n ∷ ns) (y ∷ ys) h b (inr m) =
    let p = picked found arms ns ys h.1 b m in
    record { place = suc p.place; arm = p.arm; stands = p.stands; label = p.label; sort = p.sort; next = p.next; at = p.at; leads = p.leads }

-- the arm of the swapped machine that was made of this one
record Made (found : List SwappedState) (arms : List Arm) (a : Arm) (y : SwappedState) : Type 0 where
  pub arm : Arm
  pub among : Among arms arm
  pub label : a.label ≡ arm.label
  pub sort : a.sort ≡ arm.sort
  pub leads : slice_get found arm.next ≡ Some y

made : (found : List SwappedState) (arms : List Arm) (row : List ℕ) (ys : List SwappedState) → ArePlacesOf found row ys → (i : ℕ) (a : Arm) (y : SwappedState) → slice_get arms i ≡ Some a
    → slice_get ys i ≡ Some y → Made found (arms_to arms row) a y
made found [] ns ys h i a y e f = absurd (none-some a e)
made found (x ∷ arms) [] [] h i a y e f = absurd (none-some y f)
made found (x ∷ arms) [] (z ∷ ys) h i a y e f = absurd h
made found (x ∷ arms) (n ∷ ns) [] h i a y e f = absurd h
made found (x ∷ arms) (n ∷ ns) (z ∷ ys) h zero a y e f =
    let q = same_Some x a e in
    record {
      arm = record x { next = n };
      among = inl refl;
      label = sym (ap (λ (w : Arm). w.label) q);
      sort = sym (ap (λ (w : Arm). w.sort) q);
      leads = h.0 ∙ f;
    }
made found (x ∷ arms) (n ∷ ns) (z ∷ ys) h (suc i) a y e f =
    let p = made found arms ns ys h.1 i a y e f in
    record { arm = p.arm; among = inr p.among; label = p.label; sort = p.sort; leads = p.leads }

numbers_at : (arms : List Arm) (n i : ℕ) (a : Arm) → slice_get arms i ≡ Some a → slice_get (map New (arm_numbers n arms)) i ≡ Some (New (n + i))
numbers_at [] n i a e = absurd (none-some a e)
numbers_at (x ∷ arms) n zero a e = let q : n ≡ n + 0 = omega arith in ap (λ (z : ℕ). Some (New z)) q
numbers_at (x ∷ arms) n (suc i) a e = let q : (n + 1) + i ≡ n + suc i = omega arith in numbers_at arms (n + 1) i a e ∙ ap (λ (z : ℕ). Some (New z)) q

-- the send with the same place among the same messages
record Matched (ours : List Arm) (place : ℕ) (p : Arm) : Type 0 where
  pub arm : Arm
  pub stands : slice_get ours place ≡ Some arm
  pub label : arm.label ≡ p.label
  pub sort : arm.sort ≡ p.sort

matched : (ours theirs : List Arm) → HaveSameMessages ours theirs → (i : ℕ) (p : Arm) → slice_get theirs i ≡ Some p → Matched ours i p
matched ours theirs same i p e =
    let l = map_of (λ (a : Arm). a.label) ours i p.label (ap (λ (z : List Label). slice_get z i) same.labels ∙ map_at (λ (a : Arm). a.label) theirs i p e) in
    record {
      arm = l.0;
      stands = l.1;
      label = l.2;
      sort = same_Some l.0.sort p.sort (sym (map_at (λ (a : Arm). a.sort) ours i l.0 l.1) ∙ ap (λ (z : List Sort). slice_get z i) same.sorts ∙ map_at (λ (a : Arm). a.sort) theirs i p e);
    }

same_back : (ours theirs : List Arm) → HaveSameMessages ours theirs → HaveSameMessages theirs ours
same_back ours theirs same = record { labels = sym same.labels; sorts = sym same.sorts }

-- ---- walks by arms whose labels and sorts are told apart

sends_by : (machine : Machine_data) (s t : ℕ) (peer : Role) (arms : List Arm) (arm : Arm) (acts : List Act) (label : Label) (sort : Sort) → slice_get machine.states s ≡ Some (state.Puts peer arms)
    → Among arms arm
    → label ≡ arm.label → sort ≡ arm.sort → Walks machine arm.next acts t → Walks machine s (act.Puts peer label sort ∷ acts) t
sends_by machine s t peer arms arm acts label sort e m el es w =
    subst (λ (z : Label). Walks machine s (act.Puts peer z sort ∷ acts) t) (sym el)
    (subst (λ (z : Sort). Walks machine s (act.Puts peer arm.label z ∷ acts) t) (sym es) (Sends s t peer arms arm acts e m w))

receives_by : (machine : Machine_data) (s t : ℕ) (peer : Role) (arms : List Arm) (arm : Arm) (acts : List Act) (label : Label) (sort : Sort)
    → slice_get machine.states s ≡ Some (state.Takes peer arms) → Among arms arm
    → label ≡ arm.label → sort ≡ arm.sort → Walks machine arm.next acts t → Walks machine s (act.Takes peer label sort ∷ acts) t
receives_by machine s t peer arms arm acts label sort e m el es w =
    subst (λ (z : Label). Walks machine s (act.Takes peer z sort ∷ acts) t) (sym el)
    (subst (λ (z : Sort). Walks machine s (act.Takes peer arm.label z ∷ acts) t) (sym es) (Receives s t peer arms arm acts e m w))

-- ---- the states of the swapped machine

state_read : (machine : Machine_data) (n : ℕ) (st : State) → slice_get machine.states n ≡ Some st → state_before machine n ≡ st
state_read machine n st e = got machine.states n st state.Done e

-- the row of a state that is found
record Row (machine : Machine_data) (x : Exchange_data) (swapped : Machine_data) (found : List SwappedState) (k : ℕ) (y : SwappedState) : Type 0 where
  pub row : List ℕ
  pub state_is : slice_get swapped.states k ≡ Some (state_to (swapped_state machine x y) row)
  pub leads : ArePlacesOf found row (swapped_nexts machine x y)

row_at : (machine : Machine_data) (x : Exchange_data) (swapped : Machine_data) (s : IsSwapped machine x swapped) (k : ℕ) (y : SwappedState) → slice_get s.found k ≡ Some y
    → Row machine x swapped s.found k y
row_at machine x swapped s k y e =
    let r = at_within s.rows k (let l = at_short s.found k y e in let a = s.discovery.all in omega arith) in
    record { row = r.0; state_is = s.each k y r.0 e r.1; leads = s.discovery.names k y r.0 e r.1 }

-- the state and the nexts of an old state, by the test whether it is the one that is swapped
abbrev old_state : Machine_data → Exchange_data → ℕ → Bool → State
old_state machine x n b = if b then state.Puts x.to x.puts else state_before machine n

abbrev old_nexts : Machine_data → Exchange_data → ℕ → Bool → List SwappedState
old_nexts machine x n b = if b then map New (arm_numbers 0 x.puts) else map (λ (a : Arm). Old a.next) (arms_of (state_before machine n))

-- the one that is swapped sends
record Swapped (x : Exchange_data) (swapped : Machine_data) (found : List SwappedState) (k : ℕ) : Type 0 where
  pub row : List ℕ
  pub state_is : slice_get swapped.states k ≡ Some (state.Puts x.to (arms_to x.puts row))
  pub leads : ArePlacesOf found row (map New (arm_numbers 0 x.puts))

-- any other is as it was
record Kept (machine : Machine_data) (swapped : Machine_data) (found : List SwappedState) (k : ℕ) (st : State) : Type 0 where
  pub row : List ℕ
  pub state_is : slice_get swapped.states k ≡ Some (state_to st row)
  pub leads : ArePlacesOf found row (map (λ (a : Arm). Old a.next) (arms_of st))

at_swapped : (machine : Machine_data) (x : Exchange_data) (swapped : Machine_data) (s : IsSwapped machine x swapped) (k n : ℕ) → slice_get s.found k ≡ Some (Old n) → eqb n x.state ≡ true
    → Swapped x swapped s.found k
at_swapped machine x swapped s k n e t =
    let r = row_at machine x swapped s k (Old n) e in
    record {
      row = r.row;
      state_is = subst (λ (b : Bool). slice_get swapped.states k ≡ Some (state_to (old_state machine x n b) r.row)) t r.state_is;
      leads = subst (λ (b : Bool). ArePlacesOf s.found r.row (old_nexts machine x n b)) t r.leads;
    }

at_kept : (machine : Machine_data) (x : Exchange_data) (swapped : Machine_data) (s : IsSwapped machine x swapped) (k n : ℕ) (st : State) → slice_get s.found k ≡ Some (Old n)
    → slice_get machine.states n ≡ Some st
    → eqb n x.state ≡ false → Kept machine swapped s.found k st
at_kept machine x swapped s k n st e es t =
    let r = row_at machine x swapped s k (Old n) e in
    let q = state_read machine n st es in
    record {
      row = r.row;
      state_is = subst (λ (z : State). slice_get swapped.states k ≡ Some (state_to z r.row)) q
          (subst (λ (b : Bool). slice_get swapped.states k ≡ Some (state_to (old_state machine x n b) r.row)) t r.state_is);
      leads = subst (λ (z : State). ArePlacesOf s.found r.row (map (λ (a : Arm). Old a.next) (arms_of z))) q
          (subst (λ (b : Bool). ArePlacesOf s.found r.row (old_nexts machine x n b)) t r.leads);
    }

-- after a send that was put ahead, by an arm of the receive
behind_is : (machine : Machine_data) (j : ℕ) (arm : Arm) (to : Role) (own : List Arm) (b : Arm) → slice_get machine.states arm.next ≡ Some (state.Puts to own) → slice_get own j ≡ Some b
    → next_behind machine j arm ≡ Old b.next
behind_is machine j arm to own b e eb =
    got (map (λ (a : Arm). Old a.next) (arms_of (state_before machine arm.next))) j (Old b.next) (Old 0)
    (ap (λ (z : State). slice_get (map (λ (a : Arm). Old a.next) (arms_of z)) j) (state_read machine arm.next (state.Puts to own) e) ∙ map_at (λ (a : Arm). Old a.next) own j b eb)

-- the peers and arms of equal states
puts_are : (p q : Role) (xs ys : List Arm) (o : Option State) → o ≡ Some (state.Puts p xs) → o ≡ Some (state.Puts q ys) → (p ≡ q) × (xs ≡ ys)
puts_are p q xs ys o e f = let k : state.Puts p xs ≡ state.Puts q ys = same_Some (state.Puts p xs) (state.Puts q ys) (sym e ∙ f) in (cc, cc)

takes_are : (p q : Role) (xs ys : List Arm) (o : Option State) → o ≡ Some (state.Takes p xs) → o ≡ Some (state.Takes q ys) → (p ≡ q) × (xs ≡ ys)
takes_are p q xs ys o e f = let k : state.Takes p xs ≡ state.Takes q ys = same_Some (state.Takes p xs) (state.Takes q ys) (sym e ∙ f) in (cc, cc)

not_puts_takes : (p q : Role) (xs ys : List Arm) (o : Option State) → o ≡ Some (state.Puts p xs) → o ≡ Some (state.Takes q ys) → ⊥
not_puts_takes p q xs ys o e f = let k : state.Puts p xs ≡ state.Takes q ys = same_Some (state.Puts p xs) (state.Takes q ys) (sym e ∙ f) in cc

not_puts_done : (p : Role) (xs : List Arm) (o : Option State) → o ≡ Some (state.Puts p xs) → o ≡ Some state.Done → ⊥
not_puts_done p xs o e f = let k : state.Puts p xs ≡ state.Done = same_Some (state.Puts p xs) state.Done (sym e ∙ f) in cc

not_takes_done : (p : Role) (xs : List Arm) (o : Option State) → o ≡ Some (state.Takes p xs) → o ≡ Some state.Done → ⊥
not_takes_done p xs o e f = let k : state.Takes p xs ≡ state.Done = same_Some (state.Takes p xs) state.Done (sym e ∙ f) in cc

-- the number of an old state's test
is_state : (n m : ℕ) → eqb n m ≡ true → n ≡ m
is_state n m e = elim (eqb_tells n m) [ inl p ↦ p.1 | inr p ↦ (let bad : true ≡ false = sym e ∙ p.0 in absurd cc) ]

-- ---- each word of the swapped machine

-- a word from after the send with the place: nothing, or the receive that the send was put ahead of, and then a word from where that send led
data Behind (machine : Machine_data) (x : Exchange_data) (swapped : Machine_data) (j : ℕ) (word : List Act) (t : ℕ) : Type 0 where
  Nothing : word ≡ [] → (IsEnd swapped t → ⊥) → Behind machine x swapped j word t
  Then : (arm b : Arm) (own : List Arm) (acts : List Act) → Among x.takes arm → slice_get machine.states arm.next ≡ Some (state.Puts x.to own) → HaveSameMessages own x.puts
      → slice_get own j ≡ Some b
      → word ≡ act.Takes x.from arm.label arm.sort ∷ acts → SaysLater machine b.next swapped acts t → Behind machine x swapped j word t

-- what is said of a word from a state of the swapped machine
abbrev Told : Machine_data → Exchange_data → Machine_data → SwappedState → List Act → ℕ → Type 0
Told machine x swapped (Old n) word t = n < length machine.states → SaysLater machine n swapped word t
Told machine x swapped (New j) word t = (p : Arm) → slice_get x.puts j ≡ Some p → Behind machine x swapped j word t

-- one act more in front of both
later_on : (machine swapped : Machine_data) (n m : ℕ) (a : Act) (acts : List Act) (t : ℕ) → ((late : List Act) (u : ℕ) → Walks machine m late u → Walks machine n (a ∷ late) u)
    → SaysLater machine m swapped acts t
    → SaysLater machine n swapped (a ∷ acts) t
later_on machine swapped n m a acts t go h = record {
  rest = h.rest;
  late = a ∷ h.late;
  to = h.to;
  one_more = h.one_more;
  earlier = Keeps a (acts ++ h.rest) h.late h.earlier;
  walks = go h.late h.to h.walks;
  ends = h.ends;
}

-- no act
later_none : (machine : Machine_data) (x : Exchange_data) (swapped : Machine_data) (s : IsSwapped machine x swapped) → (k n : ℕ) → slice_get s.found k ≡ Some (Old n)
    → n < length machine.states → SaysLater machine n swapped [] k
later_none machine x swapped s k n e lt = record { rest = []; late = []; to = n; one_more = tt; earlier = Ends; walks = Stays n; ends = λ end. (refl, ended (eqb n x.state) refl end) }
  where
    done : (st : State) (row : List ℕ) → slice_get machine.states n ≡ Some st → slice_get swapped.states k ≡ Some (state_to st row) → IsEnd swapped k → IsEnd machine n
    done state.Done row es r end = es
    done (state.Puts p xs) row es r end = absurd (not_puts_done p (arms_to xs row) (slice_get swapped.states k) r end)
    done (state.Takes p xs) row es r end = absurd (not_takes_done p (arms_to xs row) (slice_get swapped.states k) r end)

    ended : (b : Bool) → eqb n x.state ≡ b → IsEnd swapped k → IsEnd machine n
    ended true t end = let r = at_swapped machine x swapped s k n e t in absurd (not_puts_done x.to (arms_to x.puts r.row) (slice_get swapped.states k) r.state_is end)
    ended false t end = let st = at_within machine.states n lt in let r = at_kept machine x swapped s k n st.0 e st.1 t in done st.0 r.row st.1 r.state_is end

-- a send that was put ahead, and what is after it
later_ahead : (machine : Machine_data) (x : Exchange_data) (swapped : Machine_data) (ex : IsExchange machine x) → (n j t : ℕ) → n ≡ x.state → (p : Arm) → slice_get x.puts j ≡ Some p → (acts : List Act)
    → Behind machine x swapped j acts t
    → SaysLater machine n swapped (act.Puts x.to p.label p.sort ∷ acts) t
later_ahead machine x swapped ex n j t en p ep acts (Nothing e not_end) =
    let f = ex.first in
    let at : slice_get machine.states n ≡ Some (state.Takes x.from x.takes) = ap (λ (z : ℕ). slice_get machine.states z) en ∙ ex.stands in
    subst (λ (z : List Act). SaysLater machine n swapped (act.Puts x.to p.label p.sort ∷ z) t) (sym e) record {
      rest = act.Takes x.from f.label f.sort ∷ [];
      late = act.Takes x.from f.label f.sort ∷ act.Puts x.to p.label p.sort ∷ [];
      to = p.next;
      one_more = tt;
      earlier = Swaps x.to x.from p.label f.label p.sort f.sort [] [] Ends;
      walks = Receives n p.next x.from x.takes f (act.Puts x.to p.label p.sort ∷ []) at (in_at x.takes 0 f ex.begins)
          (Sends f.next p.next x.to x.puts p [] ex.sends (in_at x.puts j p ep) (Stays p.next));
      ends = λ end. absurd (not_end end);
    }
later_ahead machine x swapped ex n j t en p ep acts (Then arm b own rest m eo same eb e h) =
    let at : slice_get machine.states n ≡ Some (state.Takes x.from x.takes) = ap (λ (z : ℕ). slice_get machine.states z) en ∙ ex.stands in
    let q = matched x.puts own (same_back own x.puts same) j b eb in
    let pq : q.arm ≡ p = same_Some q.arm p (sym q.stands ∙ ep) in
    let el : p.label ≡ b.label = ap (λ (z : Arm). z.label) (sym pq) ∙ q.label in
    let es : p.sort ≡ b.sort = ap (λ (z : Arm). z.sort) (sym pq) ∙ q.sort in
    subst (λ (z : List Act). SaysLater machine n swapped (act.Puts x.to p.label p.sort ∷ z) t) (sym e) record {
      rest = h.rest;
      late = act.Takes x.from arm.label arm.sort ∷ act.Puts x.to p.label p.sort ∷ h.late;
      to = h.to;
      one_more = h.one_more;
      earlier = Swaps x.to x.from p.label arm.label p.sort arm.sort (rest ++ h.rest) h.late h.earlier;
      walks = Receives n h.to x.from x.takes arm (act.Puts x.to p.label p.sort ∷ h.late) at m
          (sends_by machine arm.next h.to x.to own b h.late p.label p.sort eo (in_at own j b eb) el es h.walks);
      ends = h.ends;
    }

-- a send of the state that is swapped
later_sends : (machine : Machine_data) (x : Exchange_data) (swapped : Machine_data) (ex : IsExchange machine x) (s : IsSwapped machine x swapped) → (k n t : ℕ) → slice_get s.found k ≡ Some (Old n)
    → eqb n x.state ≡ true
    → (peer : Role) (arms : List Arm) (arm : Arm) (acts : List Act) → slice_get swapped.states k ≡ Some (state.Puts peer arms) → Among arms arm
    → ((y : SwappedState) → slice_get s.found arm.next ≡ Some y → Told machine x swapped y acts t)
    → SaysLater machine n swapped (act.Puts peer arm.label arm.sort ∷ acts) t
later_sends machine x swapped ex s k n t e b peer arms arm acts st m on =
    let r = at_swapped machine x swapped s k n e b in
    let same = puts_are peer x.to arms (arms_to x.puts r.row) (slice_get swapped.states k) st r.state_is in
    let p = picked s.found x.puts r.row (map New (arm_numbers 0 x.puts)) r.leads arm (subst (λ (z : List Arm). Among z arm) same.1 m) in
    let y : p.next ≡ New p.place
    = same_Some p.next (New p.place) (sym p.at ∙ numbers_at x.puts 0 p.place p.arm p.stands ∙ (let z : 0 + p.place ≡ p.place = omega arith in ap (λ (w : ℕ). Some (New w)) z)) in
    let h = later_ahead machine x swapped ex n p.place t (is_state n x.state b) p.arm p.stands acts (on (New p.place) (p.leads ∙ ap (λ (z : SwappedState). Some z) y) p.arm p.stands) in
    subst (λ (z : Role). SaysLater machine n swapped (act.Puts z arm.label arm.sort ∷ acts) t) (sym same.0)
    (subst (λ (z : Label). SaysLater machine n swapped (act.Puts x.to z arm.sort ∷ acts) t) (sym p.label)
    (subst (λ (z : Sort). SaysLater machine n swapped (act.Puts x.to p.arm.label z ∷ acts) t) (sym p.sort) h))

-- where an arm of a state that is as it was leads
later_kept : (machine : Machine_data) (x : Exchange_data) (swapped : Machine_data) (s : IsSwapped machine x swapped) (k t : ℕ) (own : List Arm) (row : List ℕ)
    → ArePlacesOf s.found row (map (λ (a : Arm). Old a.next) own)
    → ((i : ℕ) (a : Arm) → slice_get own i ≡ Some a → a.next < length machine.states) → (arm : Arm) → Among (arms_to own row) arm → (acts : List Act)
    → ((y : SwappedState) → slice_get s.found arm.next ≡ Some y → Told machine x swapped y acts t)
    → (a : Arm) × Among own a × (arm.label ≡ a.label) × (arm.sort ≡ a.sort) × SaysLater machine a.next swapped acts t
later_kept machine x swapped s k t own row leads within arm m acts on =
    let p = picked s.found own row (map (λ (a : Arm). Old a.next) own) leads arm m in
    let y : p.next ≡ Old p.arm.next = same_Some p.next (Old p.arm.next) (sym p.at ∙ map_at (λ (a : Arm). Old a.next) own p.place p.arm p.stands) in
    (p.arm, in_at own p.place p.arm p.stands, p.label, p.sort, on (Old p.arm.next) (p.leads ∙ ap (λ (z : SwappedState). Some z) y) (within p.place p.arm p.stands))

later_puts : (machine : Machine_data) (x : Exchange_data) (swapped : Machine_data) → IsProper machine → (s : IsSwapped machine x swapped) (k n t : ℕ) → slice_get s.found k ≡ Some (Old n)
    → n < length machine.states → eqb n x.state ≡ false
    → (peer : Role) (arms : List Arm) (arm : Arm) (acts : List Act) → slice_get swapped.states k ≡ Some (state.Puts peer arms) → Among arms arm
    → ((y : SwappedState) → slice_get s.found arm.next ≡ Some y → Told machine x swapped y acts t)
    → SaysLater machine n swapped (act.Puts peer arm.label arm.sort ∷ acts) t
later_puts machine x swapped w s k n t e lt b peer arms arm acts st m on =
    let o = at_within machine.states n lt in let r = at_kept machine x swapped s k n o.0 e o.1 b in by o.0 r.row o.1 r.state_is r.leads
  where
    by : (o : State) (row : List ℕ) → slice_get machine.states n ≡ Some o → slice_get swapped.states k ≡ Some (state_to o row) → ArePlacesOf s.found row (map (λ (a : Arm). Old a.next) (arms_of o))
        → SaysLater machine n swapped (act.Puts peer arm.label arm.sort ∷ acts) t
    by state.Done row eo r leads = absurd (not_puts_done peer arms (slice_get swapped.states k) st r)
    by (state.Takes q own) row eo r leads = absurd (not_puts_takes peer q arms (arms_to own row) (slice_get swapped.states k) st r)
    by (state.Puts q own) row eo r leads =
        (let same = puts_are peer q arms (arms_to own row) (slice_get swapped.states k) st r in
        let a = later_kept machine x swapped s k t own row leads (w.1.puts n q own eo).nexts arm (subst (λ (z : List Arm). Among z arm) same.1 m) acts on in
        later_on machine swapped n a.0.next (act.Puts peer arm.label arm.sort) acts t
        (λ late u v. sends_by machine n u peer own a.0 late arm.label arm.sort (subst (λ (z : Role). slice_get machine.states n ≡ Some (state.Puts z own)) (sym same.0) eo) a.1 a.2 a.3 v) a.4)

later_takes : (machine : Machine_data) (x : Exchange_data) (swapped : Machine_data) → IsProper machine → (s : IsSwapped machine x swapped) (k n t : ℕ) → slice_get s.found k ≡ Some (Old n)
    → n < length machine.states → eqb n x.state ≡ false
    → (peer : Role) (arms : List Arm) (arm : Arm) (acts : List Act) → slice_get swapped.states k ≡ Some (state.Takes peer arms) → Among arms arm
    → ((y : SwappedState) → slice_get s.found arm.next ≡ Some y → Told machine x swapped y acts t)
    → SaysLater machine n swapped (act.Takes peer arm.label arm.sort ∷ acts) t
later_takes machine x swapped w s k n t e lt b peer arms arm acts st m on =
    let o = at_within machine.states n lt in let r = at_kept machine x swapped s k n o.0 e o.1 b in by o.0 r.row o.1 r.state_is r.leads
  where
    by : (o : State) (row : List ℕ) → slice_get machine.states n ≡ Some o → slice_get swapped.states k ≡ Some (state_to o row) → ArePlacesOf s.found row (map (λ (a : Arm). Old a.next) (arms_of o))
        → SaysLater machine n swapped (act.Takes peer arm.label arm.sort ∷ acts) t
    by state.Done row eo r leads = absurd (not_takes_done peer arms (slice_get swapped.states k) st r)
    by (state.Puts q own) row eo r leads = absurd (not_puts_takes q peer (arms_to own row) arms (slice_get swapped.states k) r st)
    by (state.Takes q own) row eo r leads =
        (let same = takes_are peer q arms (arms_to own row) (slice_get swapped.states k) st r in
        let a = later_kept machine x swapped s k t own row leads (w.1.takes n q own eo).nexts arm (subst (λ (z : List Arm). Among z arm) same.1 m) acts on in
        later_on machine swapped n a.0.next (act.Takes peer arm.label arm.sort) acts t
        (λ late u v. receives_by machine n u peer own a.0 late arm.label arm.sort (subst (λ (z : Role). slice_get machine.states n ≡ Some (state.Takes z own)) (sym same.0) eo) a.1 a.2 a.3 v) a.4)

-- a receive after a send that was put ahead
behind_takes : (machine : Machine_data) (x : Exchange_data) (swapped : Machine_data) → IsProper machine → (ex : IsExchange machine x) (s : IsSwapped machine x swapped) (k j t : ℕ)
    → slice_get s.found k ≡ Some (New j)
    → (p : Arm) → slice_get x.puts j ≡ Some p
    → (peer : Role) (arms : List Arm) (arm : Arm) (acts : List Act) → slice_get swapped.states k ≡ Some (state.Takes peer arms) → Among arms arm
    → ((y : SwappedState) → slice_get s.found arm.next ≡ Some y → Told machine x swapped y acts t)
    → Behind machine x swapped j (act.Takes peer arm.label arm.sort ∷ acts) t
behind_takes machine x swapped w ex s k j t e p ep peer arms arm acts st m on =
    let r = row_at machine x swapped s k (New j) e in
    let same = takes_are peer x.from arms (arms_to x.takes r.row) (slice_get swapped.states k) st r.state_is in
    let a = picked s.found x.takes r.row (map (next_behind machine j) x.takes) r.leads arm (subst (λ (z : List Arm). Among z arm) same.1 m) in
    let l = ex.each a.arm (in_at x.takes a.place a.arm a.stands) in
    let b = matched l.own x.puts l.same j p ep in
    let y : a.next ≡ Old b.arm.next
    = same_Some a.next (Old b.arm.next) (sym a.at ∙ map_at (next_behind machine j) x.takes a.place a.arm a.stands
    ∙ ap (λ (z : SwappedState). Some z) (behind_is machine j a.arm x.to l.own b.arm l.stands b.stands)) in
    Then a.arm b.arm l.own acts (in_at x.takes a.place a.arm a.stands) l.stands l.same b.stands
    (ap (λ (z : Role). act.Takes z arm.label arm.sort ∷ acts) same.0 ∙ ap (λ (z : Label). act.Takes x.from z arm.sort ∷ acts) a.label ∙ ap (λ (z : Sort). act.Takes x.from a.arm.label z ∷ acts) a.sort)
    (on (Old b.arm.next) (a.leads ∙ ap (λ (z : SwappedState). Some z) y) ((w.1.puts a.arm.next x.to l.own l.stands).nexts j b.arm b.stands))

behind_none : (machine : Machine_data) (x : Exchange_data) (swapped : Machine_data) (s : IsSwapped machine x swapped) (k j : ℕ) → slice_get s.found k ≡ Some (New j) → Behind machine x swapped j [] k
behind_none machine x swapped s k j e =
    let r = row_at machine x swapped s k (New j) e in Nothing refl (λ end. not_takes_done x.from (arms_to x.takes r.row) (slice_get swapped.states k) r.state_is end)

-- a walk from an old state, by the test whether it is the one that is swapped
old_sends : (machine : Machine_data) (x : Exchange_data) (swapped : Machine_data) → IsProper machine → (ex : IsExchange machine x) (s : IsSwapped machine x swapped) (k n t : ℕ)
    → slice_get s.found k ≡ Some (Old n)
    → n < length machine.states → (b : Bool) → eqb n x.state ≡ b
    → (peer : Role) (arms : List Arm) (arm : Arm) (acts : List Act) → slice_get swapped.states k ≡ Some (state.Puts peer arms) → Among arms arm
    → ((y : SwappedState) → slice_get s.found arm.next ≡ Some y → Told machine x swapped y acts t)
    → SaysLater machine n swapped (act.Puts peer arm.label arm.sort ∷ acts) t
old_sends machine x swapped w ex s k n t e lt true b peer arms arm acts st m on = later_sends machine x swapped ex s k n t e b peer arms arm acts st m on
old_sends machine x swapped w ex s k n t e lt false b peer arms arm acts st m on = later_puts machine x swapped w s k n t e lt b peer arms arm acts st m on

old_receives : (machine : Machine_data) (x : Exchange_data) (swapped : Machine_data) → IsProper machine → (s : IsSwapped machine x swapped) (k n t : ℕ) → slice_get s.found k ≡ Some (Old n)
    → n < length machine.states → (b : Bool) → eqb n x.state ≡ b
    → (peer : Role) (arms : List Arm) (arm : Arm) (acts : List Act) → slice_get swapped.states k ≡ Some (state.Takes peer arms) → Among arms arm
    → ((y : SwappedState) → slice_get s.found arm.next ≡ Some y → Told machine x swapped y acts t)
    → SaysLater machine n swapped (act.Takes peer arm.label arm.sort ∷ acts) t
old_receives machine x swapped w s k n t e lt true b peer arms arm acts st m on =
    let r = at_swapped machine x swapped s k n e b in absurd (not_puts_takes x.to peer (arms_to x.puts r.row) arms (slice_get swapped.states k) r.state_is st)
old_receives machine x swapped w s k n t e lt false b peer arms arm acts st m on = later_takes machine x swapped w s k n t e lt b peer arms arm acts st m on

told : (machine : Machine_data) (x : Exchange_data) (swapped : Machine_data) → IsProper machine → (ex : IsExchange machine x) (s : IsSwapped machine x swapped) (k : ℕ) (word : List Act) (t : ℕ)
    → Walks swapped k word t
    → (y : SwappedState) → slice_get s.found k ≡ Some y → Told machine x swapped y word t
told machine x swapped w ex s k _ _ (Stays _) (Old n) e = λ lt. later_none machine x swapped s k n e lt
told machine x swapped w ex s k _ _ (Stays _) (New j) e = λ p ep. behind_none machine x swapped s k j e
told machine x swapped w ex s k _ t (Sends _ _ peer arms arm acts st m v) (Old n) e =
    λ lt. old_sends machine x swapped w ex s k n t e lt (eqb n x.state) refl peer arms arm acts st m (λ y f. told machine x swapped w ex s arm.next acts t v y f)
told machine x swapped w ex s k _ t (Sends _ _ peer arms arm acts st m v) (New j) e =
    λ p ep. (let r = row_at machine x swapped s k (New j) e in absurd (not_puts_takes peer x.from arms (arms_to x.takes r.row) (slice_get swapped.states k) st r.state_is))
told machine x swapped w ex s k _ t (Receives _ _ peer arms arm acts st m v) (Old n) e =
    λ lt. old_receives machine x swapped w s k n t e lt (eqb n x.state) refl peer arms arm acts st m (λ y f. told machine x swapped w ex s arm.next acts t v y f)
told machine x swapped w ex s k _ t (Receives _ _ peer arms arm acts st m v) (New j) e =
    λ p ep. behind_takes machine x swapped w ex s k j t e p ep peer arms arm acts st m (λ y f. told machine x swapped w ex s arm.next acts t v y f)

pub says_later : (machine swapped : Machine_data) (word : List Act) (t : ℕ) → IsProper machine → SwapsTo machine swapped → Walks swapped swapped.start word t
    → SaysLater machine machine.start swapped word t
says_later machine swapped word t w s walk =
    told machine s.exchange swapped w s.least.is_exchange s.is_swapped swapped.start word t walk (Old machine.start)
    (ap (λ (z : ℕ). slice_get s.is_swapped.found z) s.is_swapped.start ∙ s.is_swapped.discovery.first) w.1.start

-- ---- each word of the machine

-- a word from a state that the receive leads to: nothing, or a send, and then a word from where that leads
data Ahead (machine swapped : Machine_data) (found : List SwappedState) (to : Role) (own : List Arm) (word : List Act) (u : ℕ) : Type 0 where
  Nothing : word ≡ [] → (IsEnd machine u → ⊥) → Ahead machine swapped found to own word u
  Then : (j : ℕ) (b : Arm) (acts : List Act) → slice_get own j ≡ Some b → word ≡ act.Puts to b.label b.sort ∷ acts
      → ((k : ℕ) → slice_get found k ≡ Some (Old b.next) → SaysEarlier swapped k machine acts u) → Ahead machine swapped found to own word u

-- what is said of a word from a state of the machine
record Heard (machine : Machine_data) (x : Exchange_data) (swapped : Machine_data) (found : List SwappedState) (n : ℕ) (word : List Act) (u : ℕ) : Type 0 where
  pub whole : (k : ℕ) → slice_get found k ≡ Some (Old n) → SaysEarlier swapped k machine word u
  pub sends : (own : List Arm) → slice_get machine.states n ≡ Some (state.Puts x.to own) → Ahead machine swapped found x.to own word u

earlier_on : (machine swapped : Machine_data) (k l : ℕ) (a : Act) (acts : List Act) (u : ℕ) → ((early : List Act) (t : ℕ) → Walks swapped l early t → Walks swapped k (a ∷ early) t)
    → SaysEarlier swapped l machine acts u
    → SaysEarlier swapped k machine (a ∷ acts) u
earlier_on machine swapped k l a acts u go h = record {
  rest = h.rest;
  early = a ∷ h.early;
  to = h.to;
  one_more = h.one_more;
  earlier = Keeps a h.early (acts ++ h.rest) h.earlier;
  walks = go h.early h.to h.walks;
  ends = h.ends;
}

earlier_none : (machine : Machine_data) (x : Exchange_data) (swapped : Machine_data) → IsExchange machine x → (s : IsSwapped machine x swapped) (k n : ℕ) → slice_get s.found k ≡ Some (Old n)
    → SaysEarlier swapped k machine [] n
earlier_none machine x swapped ex s k n e = record { rest = []; early = []; to = k; one_more = tt; earlier = Ends; walks = Stays k; ends = λ end. (refl, ended (eqb n x.state) refl end) }
  where
    ended : (b : Bool) → eqb n x.state ≡ b → IsEnd machine n → IsEnd swapped k
    ended true t end =
        let st : slice_get machine.states n ≡ Some (state.Takes x.from x.takes) = ap (λ (z : ℕ). slice_get machine.states z) (is_state n x.state t) ∙ ex.stands in
        absurd (not_takes_done x.from x.takes (slice_get machine.states n) st end)
    ended false t end = (at_kept machine x swapped s k n state.Done e end t).state_is

-- the send with the place goes ahead, and then the receive by the arm comes
record GoesAhead (x : Exchange_data) (swapped : Machine_data) (found : List SwappedState) (k : ℕ) (arm b p : Arm) : Type 0 where
  pub to : ℕ
  pub leads : slice_get found to ≡ Some (Old b.next)
  pub goes : (acts : List Act) (t : ℕ) → Walks swapped to acts t → Walks swapped k (act.Puts x.to p.label p.sort ∷ act.Takes x.from arm.label arm.sort ∷ acts) t

goes_ahead : (machine : Machine_data) (x : Exchange_data) (swapped : Machine_data) (s : IsSwapped machine x swapped) (k n : ℕ) → slice_get s.found k ≡ Some (Old n) → eqb n x.state ≡ true
    → (i j : ℕ) (arm b p : Arm) (own : List Arm) → slice_get x.takes i ≡ Some arm → slice_get machine.states arm.next ≡ Some (state.Puts x.to own) → slice_get own j ≡ Some b
    → slice_get x.puts j ≡ Some p → GoesAhead x swapped s.found k arm b p
goes_ahead machine x swapped s k n e t i j arm b p own ea eo eb ep =
    let r = at_swapped machine x swapped s k n e t in
    let z : 0 + j ≡ j = omega arith in
    let c = made s.found x.puts r.row (map New (arm_numbers 0 x.puts)) r.leads j p (New j) ep (numbers_at x.puts 0 j p ep ∙ ap (λ (w : ℕ). Some (New w)) z) in
    let q = row_at machine x swapped s c.arm.next (New j) c.leads in
    let d = made s.found x.takes q.row (map (next_behind machine j) x.takes) q.leads i arm (Old b.next) ea
    (map_at (next_behind machine j) x.takes i arm ea ∙ ap (λ (w : SwappedState). Some w) (behind_is machine j arm x.to own b eo eb)) in
    record {
      to = d.arm.next;
      leads = d.leads;
      goes = λ acts u v. sends_by swapped k u x.to (arms_to x.puts r.row) c.arm (act.Takes x.from arm.label arm.sort ∷ acts) p.label p.sort r.state_is c.among c.label c.sort
          (receives_by swapped c.arm.next u x.from (arms_to x.takes q.row) d.arm acts arm.label arm.sort q.state_is d.among d.label d.sort v);
    }

first_of_some : (arms : List Arm) → arms ≢ [] → (p : Arm) × (slice_get arms 0 ≡ Some p)
first_of_some [] ne = absurd (ne refl)
first_of_some (p ∷ arms) ne = (p, refl)

earlier_ahead : (machine : Machine_data) (x : Exchange_data) (swapped : Machine_data) → IsProper machine → IsExchange machine x → (s : IsSwapped machine x swapped) (k n u : ℕ)
    → slice_get s.found k ≡ Some (Old n)
    → eqb n x.state ≡ true → (i : ℕ) (arm : Arm) → slice_get x.takes i ≡ Some arm → (l : LeadsToSends machine x.to x.puts arm) (acts : List Act) → Ahead machine swapped s.found x.to l.own acts u
    → SaysEarlier swapped k machine (act.Takes x.from arm.label arm.sort ∷ acts) u
earlier_ahead machine x swapped w ex s k n u e t i arm ea l acts (Nothing we not_end) =
    let p = first_of_some x.puts (w.1.puts ex.first.next x.to x.puts ex.sends).some in
    let b = matched l.own x.puts l.same 0 p.0 p.1 in
    let g = goes_ahead machine x swapped s k n e t i 0 arm b.arm p.0 l.own ea l.stands b.stands p.1 in
    subst (λ (z : List Act). SaysEarlier swapped k machine (act.Takes x.from arm.label arm.sort ∷ z) u) (sym we) record {
      rest = act.Puts x.to p.0.label p.0.sort ∷ [];
      early = act.Puts x.to p.0.label p.0.sort ∷ act.Takes x.from arm.label arm.sort ∷ [];
      to = g.to;
      one_more = tt;
      earlier = Swaps x.to x.from p.0.label arm.label p.0.sort arm.sort [] [] Ends;
      walks = g.goes [] g.to (Stays g.to);
      ends = λ end. absurd (not_end end);
    }
earlier_ahead machine x swapped w ex s k n u e t i arm ea l acts (Then j b rest eb we on) =
    let p = matched x.puts l.own (same_back l.own x.puts l.same) j b eb in
    let g = goes_ahead machine x swapped s k n e t i j arm b p.arm l.own ea l.stands eb p.stands in
    let h = on g.to g.leads in
    subst (λ (z : List Act). SaysEarlier swapped k machine (act.Takes x.from arm.label arm.sort ∷ z) u)
    (ap (λ (z : Label). act.Puts x.to z p.arm.sort ∷ rest) p.label ∙ ap (λ (z : Sort). act.Puts x.to b.label z ∷ rest) p.sort ∙ sym we) record {
      rest = h.rest;
      early = act.Puts x.to p.arm.label p.arm.sort ∷ act.Takes x.from arm.label arm.sort ∷ h.early;
      to = h.to;
      one_more = h.one_more;
      earlier = Swaps x.to x.from p.arm.label arm.label p.arm.sort arm.sort h.early (rest ++ h.rest) h.earlier;
      walks = g.goes h.early h.to h.walks;
      ends = h.ends;
    }

-- a send of a state that is as it was
earlier_sends : (machine : Machine_data) (x : Exchange_data) (swapped : Machine_data) → IsExchange machine x → (s : IsSwapped machine x swapped) (k n u : ℕ) → slice_get s.found k ≡ Some (Old n)
    → (t : Bool) → eqb n x.state ≡ t → (peer : Role) (arms : List Arm) (arm : Arm) (acts : List Act) → slice_get machine.states n ≡ Some (state.Puts peer arms) → Among arms arm
    → ((l : ℕ) → slice_get s.found l ≡ Some (Old arm.next) → SaysEarlier swapped l machine acts u)
    → SaysEarlier swapped k machine (act.Puts peer arm.label arm.sort ∷ acts) u
earlier_sends machine x swapped ex s k n u e true t peer arms arm acts st m on =
    let at : slice_get machine.states n ≡ Some (state.Takes x.from x.takes) = ap (λ (z : ℕ). slice_get machine.states z) (is_state n x.state t) ∙ ex.stands in
    absurd (not_puts_takes peer x.from arms x.takes (slice_get machine.states n) st at)
earlier_sends machine x swapped ex s k n u e false t peer arms arm acts st m on =
    let r = at_kept machine x swapped s k n (state.Puts peer arms) e st t in
    let i = at_in arms arm m in
    let c = made s.found arms r.row (map (λ (a : Arm). Old a.next) arms) r.leads i.0 arm (Old arm.next) i.1 (map_at (λ (a : Arm). Old a.next) arms i.0 arm i.1) in
    earlier_on machine swapped k c.arm.next (act.Puts peer arm.label arm.sort) acts u
    (λ early v q. sends_by swapped k v peer (arms_to arms r.row) c.arm early arm.label arm.sort r.state_is c.among c.label c.sort q) (on c.arm.next c.leads)

earlier_receives : (machine : Machine_data) (x : Exchange_data) (swapped : Machine_data) → IsProper machine → (ex : IsExchange machine x) (s : IsSwapped machine x swapped) (k n u : ℕ)
    → slice_get s.found k ≡ Some (Old n)
    → (t : Bool) → eqb n x.state ≡ t → (peer : Role) (arms : List Arm) (arm : Arm) (acts : List Act) → slice_get machine.states n ≡ Some (state.Takes peer arms) → Among arms arm
    → Heard machine x swapped s.found arm.next acts u
    → SaysEarlier swapped k machine (act.Takes peer arm.label arm.sort ∷ acts) u
earlier_receives machine x swapped w ex s k n u e true t peer arms arm acts st m on =
    let at : slice_get machine.states n ≡ Some (state.Takes x.from x.takes) = ap (λ (z : ℕ). slice_get machine.states z) (is_state n x.state t) ∙ ex.stands in
    let same = takes_are peer x.from arms x.takes (slice_get machine.states n) st at in
    let i = at_in x.takes arm (subst (λ (z : List Arm). Among z arm) same.1 m) in
    let l = ex.each arm (subst (λ (z : List Arm). Among z arm) same.1 m) in
    subst (λ (z : Role). SaysEarlier swapped k machine (act.Takes z arm.label arm.sort ∷ acts) u) (sym same.0)
    (earlier_ahead machine x swapped w ex s k n u e t i.0 arm i.1 l acts (on.sends l.own l.stands))
earlier_receives machine x swapped w ex s k n u e false t peer arms arm acts st m on =
    let r = at_kept machine x swapped s k n (state.Takes peer arms) e st t in
    let i = at_in arms arm m in
    let c = made s.found arms r.row (map (λ (a : Arm). Old a.next) arms) r.leads i.0 arm (Old arm.next) i.1 (map_at (λ (a : Arm). Old a.next) arms i.0 arm i.1) in
    earlier_on machine swapped k c.arm.next (act.Takes peer arm.label arm.sort) acts u
    (λ early v q. receives_by swapped k v peer (arms_to arms r.row) c.arm early arm.label arm.sort r.state_is c.among c.label c.sort q) (on.whole c.arm.next c.leads)

-- a send of a state that the receive leads to
ahead_sends : (machine : Machine_data) (x : Exchange_data) (swapped : Machine_data) (found : List SwappedState) (n u : ℕ) (peer : Role) (arms : List Arm) (arm : Arm) (acts : List Act)
    → slice_get machine.states n ≡ Some (state.Puts peer arms)
    → Among arms arm
    → ((l : ℕ) → slice_get found l ≡ Some (Old arm.next) → SaysEarlier swapped l machine acts u) → (own : List Arm) → slice_get machine.states n ≡ Some (state.Puts x.to own)
    → Ahead machine swapped found x.to own (act.Puts peer arm.label arm.sort ∷ acts) u
ahead_sends machine x swapped found n u peer arms arm acts st m on own eo =
    let same = puts_are peer x.to arms own (slice_get machine.states n) st eo in
    let i = at_in own arm (subst (λ (z : List Arm). Among z arm) same.1 m) in
    Then i.0 arm acts i.1 (ap (λ (z : Role). act.Puts z arm.label arm.sort ∷ acts) same.0) on

heard : (machine : Machine_data) (x : Exchange_data) (swapped : Machine_data) → IsProper machine → (ex : IsExchange machine x) (s : IsSwapped machine x swapped) (n : ℕ) (word : List Act) (u : ℕ)
    → Walks machine n word u → Heard machine x swapped s.found n word u
heard machine x swapped w ex s n _ _ (Stays _) = record {
  whole = λ k e. earlier_none machine x swapped ex s k n e;
  sends = λ own eo. Nothing refl (λ end. not_puts_done x.to own (slice_get machine.states n) eo end);
}
heard machine x swapped w ex s n _ u (Sends _ _ peer arms arm acts st m v) =
    let h = heard machine x swapped w ex s arm.next acts u v in
    record {
      whole = λ k e. earlier_sends machine x swapped ex s k n u e (eqb n x.state) refl peer arms arm acts st m h.whole;
      sends = ahead_sends machine x swapped s.found n u peer arms arm acts st m h.whole;
    }
heard machine x swapped w ex s n _ u (Receives _ _ peer arms arm acts st m v) =
    let h = heard machine x swapped w ex s arm.next acts u v in
    record {
      whole = λ k e. earlier_receives machine x swapped w ex s k n u e (eqb n x.state) refl peer arms arm acts st m h;
      sends = λ own eo. absurd (not_puts_takes x.to peer own arms (slice_get machine.states n) eo st);
    }

pub says_earlier : (machine swapped : Machine_data) (word : List Act) (u : ℕ) → IsProper machine → SwapsTo machine swapped → Walks machine machine.start word u
    → SaysEarlier swapped swapped.start machine word u
says_earlier machine swapped word u w s walk =
    (heard machine s.exchange swapped w s.least.is_exchange s.is_swapped machine.start word u walk).whole swapped.start
    (ap (λ (z : ℕ). slice_get s.is_swapped.found z) s.is_swapped.start ∙ s.is_swapped.discovery.first)

-- ---- words that send earlier

pub same_sends : (early late : List Act) → SendsEarlier early late → sends_of early ≡ sends_of late
same_sends _ _ Ends = refl
same_sends _ _ (Keeps (act.Puts peer label sort) early late h) = ap (λ (z : List Act). act.Puts peer label sort ∷ z) (same_sends early late h)
same_sends _ _ (Keeps (act.Takes peer label sort) early late h) = same_sends early late h
same_sends _ _ (Swaps to from sent got sent_sort got_sort early late h) = ap (λ (z : List Act). act.Puts to sent sent_sort ∷ z) (same_sends early late h)

pub same_receives : (early late : List Act) → SendsEarlier early late → receives_of early ≡ receives_of late
same_receives _ _ Ends = refl
same_receives _ _ (Keeps (act.Puts peer label sort) early late h) = same_receives early late h
same_receives _ _ (Keeps (act.Takes peer label sort) early late h) = ap (λ (z : List Act). act.Takes peer label sort ∷ z) (same_receives early late h)
same_receives _ _ (Swaps to from sent got sent_sort got_sort early late h) = ap (λ (z : List Act). act.Takes from got got_sort ∷ z) (same_receives early late h)
