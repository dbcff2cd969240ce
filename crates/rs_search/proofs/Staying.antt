-- Candidates stand at states of both machines.
use Rattle.std.proofs.Common.{◌≡◌, inl, inr, ℕ, ◌<◌, Bool, true, false, List, [], ◌∷◌, length, refl, sym, ◌∙◌, subst, zero, suc, Some, Option, slice_get, cond, eqb}
use Rattle.std.proofs.lemmas.Option.{none-some}
use Rattle.rs_model.specs.Data.{Machine_data}
use Rattle.rs_model.specs.declared.graph.Arm.{Arm}
use Rattle.rs_model.specs.declared.graph.Label.{Label}
use Rattle.rs_model.specs.declared.graph.Role.{Role}
use Rattle.rs_model.specs.declared.machines.Act.{Act}
use Rattle.rs_model.specs.declared.machines.State.TheVariants.{Puts, Takes}
use Rattle.rs_derive.specs.Derivations.{IsProper}
use Rattle.rs_derive.specs.Moves.{Both, HasMove, Stops, PaysSend, SendsBoth, Guesses, SendsAhead, PaysReceive, ReceivesAhead, Spot, arm_of, owing_receive, spot}
use Rattle.rs_graph.specs.Lists.{Among}
use Rattle.rs_search.proofs.Choices.{among_map}
use Rattle.rs_search.specs.Candidates.{IsCandidate, Start, Onward}

-- the spot stands at states of both
pub record IsWithin (sub above : Machine_data) (p : Spot) : Type 0 where
  pub state : p.state < length sub.states
  pub present : p.above < length above.states

-- one of the arms, by its place
abbrev Stands : List Arm → Arm → Type 0
Stands arms a = (i : ℕ) × (slice_get arms i ≡ Some a)

later_stands : (x : Arm) (xs : List Arm) (a : Arm) → Stands xs a → Stands (x ∷ xs) a
later_stands x xs a s = (suc s.0, s.1)

first_stands : (x : Arm) (xs : List Arm) (a : Arm) (b : Bool) (o : Option Arm) → (o ≡ Some a → Stands xs a) → cond b (Some x) o ≡ Some a → Stands (x ∷ xs) a
first_stands x xs a true o on h = (zero, h)
first_stands x xs a false o on h = later_stands x xs a (on h)

arm_stands : (arms : List Arm) (l : Label) (a : Arm) → arm_of arms l ≡ Some a → Stands arms a
arm_stands [] l a e = absurd (none-some a e)
arm_stands (x ∷ xs) l a e = first_stands x xs a (eqb x.label.0 l.0) (arm_of xs l) (λ h. arm_stands xs l a h) e

puts_next : (m : Machine_data) (w : IsProper m) (s : ℕ) (q : Role) (arms : List Arm) (a : Arm) → slice_get m.states s ≡ Some (Puts q arms) → Stands arms a → a.next < length m.states
puts_next m w s q arms a e st = (w.1.puts s q arms e).nexts st.0 a st.1

takes_next : (m : Machine_data) (w : IsProper m) (s : ℕ) (q : Role) (arms : List Arm) (a : Arm) → slice_get m.states s ≡ Some (Takes q arms) → Stands arms a → a.next < length m.states
takes_next m w s q arms a e st = (w.1.takes s q arms e).nexts st.0 a st.1

only : (x r : Spot) → Among (x ∷ []) r → x ≡ r
only x r (inl e) = e
only x r (inr h) = absurd h

one_of : (x r : Spot) (rs : List Spot) → rs ≡ x ∷ [] → Among rs r → x ≡ r
one_of x r rs e m = only x r (subst (λ (z : List Spot). Among z r) e m)

both_of : (theirs : List Arm) (pending : List Act) (arms : List Arm) (rs : List Spot) → Both theirs pending arms rs → (r : Spot) → Among rs r
    → (a b : Arm) × Stands arms a × Stands theirs b × (r ≡ spot a.next pending b.next)
both_of theirs pending [] [] h r m = absurd m
both_of theirs pending [] (x ∷ rs) h r m = absurd h
both_of theirs pending (a ∷ arms) [] h r m = absurd h
both_of theirs pending (a ∷ arms) (x ∷ rs) h r (inl e) = (a, h.0.0, (zero, refl), arm_stands theirs a.label h.0.0 h.0.1, sym e ∙ h.0.3)
both_of theirs pending (a ∷ arms) (x ∷ rs) h r (inr m) = let k = both_of theirs pending arms rs h.1 r m in (k.0, k.1, later_stands a arms k.0 k.2, k.3, k.4)

moved : (sub above : Machine_data) → IsProper sub → IsProper above → (p : Spot) (makes : Option ℕ) (rs : List Spot) → IsWithin sub above p → HasMove sub above p makes rs → (r : Spot) → Among rs r
    → IsWithin sub above r
moved sub above ws wa p makes rs i (Stops st pe gt mk re) r m = absurd (subst (λ (z : List Spot). Among z r) re m)
moved sub above ws wa p makes rs i (PaysSend q arm place so st found g sv mk re) r m =
    subst (λ (z : Spot). IsWithin sub above z) (one_of _ r rs re m)
    record { state = puts_next sub ws p.state q (arm ∷ []) arm st (zero, refl); present = i.present }
moved sub above ws wa p makes rs i (SendsBoth q arms theirs st none gt mk both) r m =
    (let k = both_of theirs p.pending arms rs both r m in
    subst (λ (z : Spot). IsWithin sub above z) (sym k.4)
    record { state = puts_next sub ws p.state q arms k.0 st k.2; present = puts_next above wa p.above q theirs k.1 gt k.3 })
moved sub above ws wa p makes rs i (Guesses q o arms theirs place b st none gt ne g mk re) r m =
    subst (λ (z : Spot). IsWithin sub above z) (one_of _ r rs re m)
    record { state = i.state; present = puts_next above wa p.above o theirs b gt (place, g) }
moved sub above ws wa p makes rs i (SendsAhead q o arms theirs st none gt mk re) r m =
    (let k = among_map (λ b. owing_receive p o b) theirs r (subst (λ (z : List Spot). Among z r) re m) in
    subst (λ (z : Spot). IsWithin sub above z) k.3
    record { state = i.state; present = takes_next above wa p.above o theirs k.1 gt (k.0, k.2) })
moved sub above ws wa p makes rs i (PaysReceive q arms place label so arm st found g ch sv mk re) r m =
    subst (λ (z : Spot). IsWithin sub above z) (one_of _ r rs re m)
    record { state = takes_next sub ws p.state q arms arm st (arm_stands arms label arm ch); present = i.present }
moved sub above ws wa p makes rs i (ReceivesAhead q o arms theirs st none gt mk re) r m =
    (let k = among_map (λ b. owing_receive p o b) theirs r (subst (λ (z : List Spot). Among z r) re m) in
    subst (λ (z : Spot). IsWithin sub above z) k.3
    record { state = i.state; present = takes_next above wa p.above o theirs k.1 gt (k.0, k.2) })

pub stays_within : (sub above : Machine_data) (bound : ℕ) → IsProper sub → IsProper above → (p : Spot) → IsCandidate sub above bound p → IsWithin sub above p
stays_within sub above bound ws wa _ Start = record { state = ws.1.start; present = wa.1.start }
stays_within sub above bound ws wa _ (Onward p rs r c m k) = moved sub above ws wa p m.makes rs (stays_within sub above bound ws wa p c) m.move r k
