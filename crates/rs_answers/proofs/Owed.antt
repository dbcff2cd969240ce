-- What is owed at a candidate are acts of the projection.
use Rattle.std.proofs.Common.{◌≡◌, ◌⊎◌, inl, inr, ℕ, zero, suc, ◌+◌, List, [], ◌∷◌, ◌++◌, map, take, drop, Option, Some, slice_get, refl, sym, subst}
use Rattle.rs_model.specs.Data.{Machine_data}
use Rattle.rs_model.specs.declared.graph.Arm.{Arm}
use Rattle.rs_model.specs.declared.graph.Role.{Role}
use Rattle.rs_model.specs.declared.machines.Act.{Act}
use Rattle.rs_model.specs.declared.machines.Act.TheVariants as act
use Rattle.rs_model.specs.declared.machines.State.TheVariants.{Puts, Takes}
use Rattle.rs_prefix.specs.Earliest.{without}
use Rattle.rs_derive.specs.Moves.{Both, HasMove, Stops, PaysSend, SendsBoth, Guesses, SendsAhead, PaysReceive, ReceivesAhead, Spot, owing_receive}
use Rattle.rs_graph.specs.Lists.{Among}
use Rattle.rs_search.specs.Candidates.{IsCandidate, Start, Onward}

-- an act of the machine: by an arm of one of its states
pub data IsActOf (m : Machine_data) : Act → Type 0 where
  Sends : (s place : ℕ) (peer : Role) (arms : List Arm) (arm : Arm) → slice_get m.states s ≡ Some (Puts peer arms) → slice_get arms place ≡ Some arm → IsActOf m (act.Puts peer arm.label arm.sort)
  Receives : (s place : ℕ) (peer : Role) (arms : List Arm) (arm : Arm) → slice_get m.states s ≡ Some (Takes peer arms) → slice_get arms place ≡ Some arm → IsActOf m (act.Takes peer arm.label arm.sort)

-- all of these are acts of the machine
abbrev pub AreActsOf : Machine_data → List Act → Type 0
AreActsOf m acts = (a : Act) → Among acts a → IsActOf m a

pub in_parts : (xs ys : List Act) (a : Act) → Among (xs ++ ys) a → Among xs a ⊎ Among ys a
in_parts [] ys a h = inr h
in_parts (x ∷ xs) ys a (inl e) = inl (inl e)
in_parts (x ∷ xs) ys a (inr h) = elim (in_parts xs ys a h) [ inl l ↦ inl (inr l) | inr r ↦ inr r ]

in_take : (n : ℕ) (xs : List Act) (a : Act) → Among (take n xs) a → Among xs a
in_take zero xs a h = absurd h
in_take (suc n) [] a h = absurd h
in_take (suc n) (x ∷ xs) a (inl e) = inl e
in_take (suc n) (x ∷ xs) a (inr h) = inr (in_take n xs a h)

in_drop : (n : ℕ) (xs : List Act) (a : Act) → Among (drop n xs) a → Among xs a
in_drop zero xs a h = h
in_drop (suc n) [] a h = absurd h
in_drop (suc n) (x ∷ xs) a h = inr (in_drop n xs a h)

-- fewer are owed
paid : (m : Machine_data) (pending : List Act) (place : ℕ) → AreActsOf m pending → AreActsOf m (without pending place)
paid m pending place owed a h = elim (in_parts (take place pending) (drop (place + 1) pending) a h) [
  | inl l ↦ owed a (in_take place pending a l)
  | inr r ↦ owed a (in_drop (place + 1) pending a r)
]

-- one act more is owed
owes_more : (m : Machine_data) (pending : List Act) (b : Act) → AreActsOf m pending → IsActOf m b → AreActsOf m (pending ++ b ∷ [])
owes_more m pending b owed is a h = elim (in_parts pending (b ∷ []) a h) [
  | inl l ↦ owed a l
  | inr r ↦ elim r [ inl e ↦ subst (λ (z : Act). IsActOf m z) e is | inr none ↦ absurd none ]
]

only : (x r : Spot) (rs : List Spot) → rs ≡ x ∷ [] → Among rs r → x ≡ r
only x r rs e h = elim (subst (λ (z : List Spot). Among z r) e h) [ inl is ↦ is | inr none ↦ absurd none ]

both_owe : (theirs : List Arm) (pending : List Act) (arms : List Arm) (rs : List Spot) → Both theirs pending arms rs → (r : Spot) → Among rs r → r.pending ≡ pending
both_owe theirs pending [] [] h r k = absurd k
both_owe theirs pending [] (x ∷ rs) h r k = absurd h
both_owe theirs pending (a ∷ arms) [] h r k = absurd h
both_owe theirs pending (a ∷ arms) (x ∷ rs) h r (inl e) = cc (e, h.0.3)
both_owe theirs pending (a ∷ arms) (x ∷ rs) h r (inr k) = both_owe theirs pending arms rs h.1 r k

one_of : (f : Arm → Spot) (arms : List Arm) (r : Spot) → Among (map f arms) r → (place : ℕ) × (arm : Arm) × (slice_get arms place ≡ Some arm) × (f arm ≡ r)
one_of f [] r h = absurd h
one_of f (a ∷ arms) r (inl e) = (0, a, refl, e)
one_of f (a ∷ arms) r (inr h) = let k = one_of f arms r h in (suc k.0, k.1, k.2, k.3)

follow_owes : (above : Machine_data) (p : Spot) (o : Role) (theirs : List Arm) (rs : List Spot) → AreActsOf above p.pending → slice_get above.states p.above ≡ Some (Takes o theirs)
    → rs ≡ map (λ b. owing_receive p o b) theirs
    → (r : Spot) → Among rs r → AreActsOf above r.pending
follow_owes above p o theirs rs owed gt re r k =
    let f = one_of (λ b. owing_receive p o b) theirs r (subst (λ (z : List Spot). Among z r) re k) in
    subst (λ (z : Spot). AreActsOf above z.pending) f.3
    (owes_more above p.pending (act.Takes o f.1.label f.1.sort) owed (Receives p.above f.0 o theirs f.1 gt f.2))

moved : (sub above : Machine_data) (p : Spot) (makes : Option ℕ) (rs : List Spot) → AreActsOf above p.pending → HasMove sub above p makes rs → (r : Spot) → Among rs r → AreActsOf above r.pending
moved sub above p makes rs owed (Stops st pe gt mk re) r k = absurd (subst (λ (z : List Spot). Among z r) re k)
moved sub above p makes rs owed (PaysSend q arm place so st found g sv mk re) r k =
    subst (λ (z : Spot). AreActsOf above z.pending) (only _ r rs re k) (paid above p.pending place owed)
moved sub above p makes rs owed (SendsBoth q arms theirs st none gt mk both) r k =
    subst (λ (z : List Act). AreActsOf above z) (sym (both_owe theirs p.pending arms rs both r k)) owed
moved sub above p makes rs owed (Guesses q o arms theirs place b st none gt ne g mk re) r k =
    subst (λ (z : Spot). AreActsOf above z.pending) (only _ r rs re k)
    (owes_more above p.pending (act.Puts o b.label b.sort) owed (Sends p.above place o theirs b gt g))
moved sub above p makes rs owed (SendsAhead q o arms theirs st none gt mk re) r k = follow_owes above p o theirs rs owed gt re r k
moved sub above p makes rs owed (PaysReceive q arms place label so arm st found g ch sv mk re) r k =
    subst (λ (z : Spot). AreActsOf above z.pending) (only _ r rs re k) (paid above p.pending place owed)
moved sub above p makes rs owed (ReceivesAhead q o arms theirs st none gt mk re) r k = follow_owes above p o theirs rs owed gt re r k

-- all that is owed at a candidate
pub owed_acts : (sub above : Machine_data) (bound : ℕ) (p : Spot) → IsCandidate sub above bound p → AreActsOf above p.pending
owed_acts sub above bound _ Start = λ a h. absurd h
owed_acts sub above bound _ (Onward p rs r c m k) = moved sub above p m.makes rs (owed_acts sub above bound p c) m.move r k
