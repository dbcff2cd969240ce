-- Where the recursion names that are bound lead.
use Rattle.std.proofs.Common.{◌≡◌, ℕ, ◌+◌, ◌<◌, List, ◌∷◌, Bool, true, false, if◌then◌else◌, Option, Some, arith}
use Rattle.std.specs.Str.{bytes_eq}
use Rattle.rs_text.specs.Names.{BoundNames, nearest_binding}
use Rattle.rs_text.proofs.Basics.{some_is}

-- no name leads behind k
abbrev pub Low : BoundNames → ℕ → Type 0
Low bound k = (x : List ℕ) (m : ℕ) → nearest_binding x bound ≡ Some m → m < k + 1

low_pick : (c : Bool) (k : ℕ) (found : Option ℕ) (m : ℕ) → (if c then Some k else found) ≡ Some m → (found ≡ Some m → m < k + 1) → m < k + 1
low_pick true k found m e f = let same : k ≡ m = some_is k m e in omega arith
low_pick false k found m e f = f e

pub low_rec : (bound : BoundNames) (k : ℕ) (x : List ℕ) → Low bound k → Low ((x, k) ∷ bound) k
low_rec bound k x low y m e = low_pick (bytes_eq x y) k (nearest_binding y bound) m e (λ h. low y m h)

pub low_up : (bound : BoundNames) (k j : ℕ) → k < j + 1 → Low bound k → Low bound j
low_up bound k j lt low x m e = let a : m < k + 1 = low x m e in omega arith

-- a name that leads before k leads to a head round the place
abbrev pub Ins : BoundNames → (from k : ℕ) → Type 0
Ins bound from k = (x : List ℕ) (m : ℕ) → nearest_binding x bound ≡ Some m → m < k → m < from

ins_pick : (c : Bool) (k from : ℕ) (found : Option ℕ) (m : ℕ) → m < k → (if c then Some k else found) ≡ Some m → (found ≡ Some m → m < from) → m < from
ins_pick true k from found m lt e f = let same : k ≡ m = some_is k m e in absurd (omega arith)
ins_pick false k from found m lt e f = f e

pub ins_rec : (bound : BoundNames) (from k : ℕ) (x : List ℕ) → Ins bound from k → Ins ((x, k) ∷ bound) from k
ins_rec bound from k x ins y m e lt = ins_pick (bytes_eq x y) k from (nearest_binding y bound) m lt e (λ h. ins y m h lt)
