-- What a call on an open handle tells.
use Rattle.std.proofs.Common.{◌≡◌, Option, Some, subst}
use Rattle.rs_numbered.specs.declared.statuses.CallStatus.{CallStatus}
use Rattle.rs_held.specs.Opens.{Changes, Reads}

module _ {A : Type 0} (old new : Option A) (unwritten : Type 0) (status : CallStatus) where
  pub read : (Tells : A → Type 0) (held : A) → Some held ≡ old → new ≡ Some held → Tells held → Reads old new unwritten Tells status
  read Tells held was is told = subst (λ (o : Option A). Reads o new unwritten Tells status) was (is, told)

  pub changed : (Tells : A → A → Type 0) (before after : A) → Some before ≡ old → new ≡ Some after → Tells before after → Changes old new unwritten Tells status
  changed Tells before after was is told = subst (λ (o : Option A). Changes o new unwritten Tells status) was (after, is, told)
