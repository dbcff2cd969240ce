-- Nodes have one list of flags.
use Rattle.std.proofs.Common.{◌≡◌, ◌↔◌, ℕ, suc, ◌<◌, Bool, List, [], ◌∷◌, length, refl, sym, ap₂, subst, ◌∙◌, arith, Option}
use Rattle.rs_model.specs.Data.{Protocol_data}
use Rattle.rs_model.specs.declared.graph.Role.{Role}
use Rattle.rs_partings.specs.Flags.{AreFlags}
use Rattle.rs_partings.specs.Meeting.{AreMeeting}
use Rattle.rs_partings.specs.Partings.{MeetsMember}
use Rattle.rs_project.specs.Marks.{IsOn}
use Rattle.rs_reasons.proofs.SomePartings.{same_flag}

same_lists : (one other : List Bool) → length one ≡ length other → ((n : ℕ) → n < length one → IsOn one n ↔ IsOn other n) → one ≡ other
same_lists [] [] e each = refl
same_lists [] (y ∷ ys) e each = absurd (cc e)
same_lists (x ∷ xs) [] e each = absurd (cc e)
same_lists (x ∷ xs) (y ∷ ys) e each =
    ap₂ (λ (z : Bool) (w : List Bool). z ∷ w) (same_flag x y (each 0 (omega arith))) (same_lists xs ys (omega (arith, e)) (λ n lt. each (suc n) (omega (arith, lt))))

-- the flags of the nodes from which the role may meet the member first
pub meeting_of : (pr : Protocol_data) (role : Role) (member : Option ℕ) (flags : List Bool) → AreFlags (length pr.nodes) (λ n. MeetsMember pr role n member) flags → AreMeeting pr role member flags
meeting_of pr role member flags h = record { size = h.size; each = h.each }

-- there is one list of them
pub one_meeting : (pr : Protocol_data) (role : Role) (member : Option ℕ) (one other : List Bool) → AreMeeting pr role member one → AreMeeting pr role member other → one ≡ other
one_meeting pr role member one other h k =
    same_lists one other (h.size ∙ sym k.size) (λ n lt.
    let here = h.each n (subst (λ (z : ℕ). n < z) h.size lt) in
    let there = k.each n (subst (λ (z : ℕ). n < z) h.size lt) in
    ((λ i. there.1 (here.0 i)), (λ i. here.1 (there.0 i))))
