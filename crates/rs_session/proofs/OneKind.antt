-- One kind of stage, and one missing role.
use Rattle.std.proofs.Common.{◌≡◌, ◌≢◌, ◌⊎◌, inl, inr, ⊎_elim, ℕ, ◌<◌, List, Some, sym, ◌∙◌, arith}
use Rattle.std.proofs.lemmas.Bool.Decides.{eqb_tells}
use Rattle.rs_model.specs.declared.machines.State.TheVariants.{Done, Puts, Takes}
use Rattle.rs_rings.specs.Passes.{Rings_data}
use Rattle.rs_session.specs.Data.{Stage_data}
use Rattle.rs_session.specs.Ends.{AreAllThere, IsLeastMissing, IsMissing, IsThere}
use Rattle.rs_session.specs.Stages.{IsEnded, IsReceiving, IsSending}

not_missing : (stages : List Stage_data) (r : ℕ) → IsThere stages r → IsMissing stages r → ⊥
not_missing stages r there missing = missing there.place there.stage there.stands there.role

pub not_all_there : (roles : ℕ) (stages : List Stage_data) (r : ℕ) → IsLeastMissing roles stages r → AreAllThere roles stages → ⊥
not_all_there roles stages r least each = not_missing stages r (each r least.role) least.missing

below : (r s : ℕ) → r ≢ s → (r < s) ⊎ (s < r)
below r s ne = grind arith

pub one_missing : (roles : ℕ) (stages : List Stage_data) (r s : ℕ) → IsLeastMissing roles stages r → IsLeastMissing roles stages s → r ≡ s
one_missing roles stages r s a b = elim (eqb_tells r s) [
  | inl t ↦ t.1
  | inr t ↦ absurd (⊎_elim (λ (e : r < s). not_missing stages r (b.least r e) a.missing) (λ (e : s < r). not_missing stages s (a.least s e) b.missing) (below r s t.1))
]

pub sends_or_receives : (session : Rings_data) (stage : Stage_data) → IsSending session stage → IsReceiving session stage → ⊥
sends_or_receives session stage a b = let both : Some (Puts a.peer a.arms) ≡ Some (Takes b.peer b.arms) = sym a.stands ∙ b.stands in cc (both)

pub sends_or_ends : (session : Rings_data) (stage : Stage_data) → IsSending session stage → IsEnded session stage → ⊥
sends_or_ends session stage a b = let both : Some (Puts a.peer a.arms) ≡ Some Done = sym a.stands ∙ b.stands in cc (both)

pub ends_or_receives : (session : Rings_data) (stage : Stage_data) → IsReceiving session stage → IsEnded session stage → ⊥
ends_or_receives session stage a b = let both : Some (Takes a.peer a.arms) ≡ Some Done = sym a.stands ∙ b.stands in cc (both)
