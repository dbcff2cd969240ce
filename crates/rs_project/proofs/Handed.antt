-- A fault that is handed on by `?`.
use Rattle.std.proofs.Common.{◌≡◌, Result, Ok, Err, sym, subst}
use Rattle.std.specs.Prelude.{IfErr, IsErrAnd}

pub handed_on : {A E : Type 0} (r : Result A E) (f : E) (P : E → Type 0) → IsErrAnd r (λ e. e ≡ f) → P f → IfErr r P
handed_on (Ok x) f P is h = tt
handed_on (Err e) f P is h = subst P (sym is) h
