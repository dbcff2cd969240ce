-- What holds of all in a list, where one is taken off its end or put there.
use Rattle.std.proofs.Common.{◌≡◌, ℕ, zero, suc, ◌<◌, List, [], ◌∷◌, ◌++◌, All, Some, slice_get, get_or, arith, subst}
use Rattle.rs_session.specs.Data.{Stage_data}
use Rattle.rs_session.specs.Ends.{AreAll}

module _ {A : Type 0} (P : A → Type 0) where
  pub front_all : (xs : List A) (x : A) → All P (xs ++ x ∷ []) → All P xs
  front_all [] x all k d below = absurd (omega arith)
  front_all (y ∷ ys) x all zero d below = all zero d (omega arith)
  front_all (y ∷ ys) x all (suc k) d below = front_all ys x (λ j e lt. all (suc j) e (omega arith)) k d (omega arith)

  pub last_all : (xs : List A) (x : A) → All P (xs ++ x ∷ []) → P x
  last_all [] x all = all zero x (omega arith)
  last_all (y ∷ ys) x all = last_all ys x (λ j e lt. all (suc j) e (omega arith))

pub more_all : (P : Stage_data → Type 0) (xs : List Stage_data) (x : Stage_data) → AreAll P xs → P x → AreAll P (xs ++ x ∷ [])
more_all P [] x all one zero stage there = let both : Some x ≡ Some stage = there in let is : x ≡ stage = cc (both) in subst P is one
more_all P [] x all one (suc place) stage there = absurd (cc (there))
more_all P (y ∷ ys) x all one zero stage there = all zero stage there
more_all P (y ∷ ys) x all one (suc place) stage there = more_all P ys x (λ at. all (suc at)) one place stage there
