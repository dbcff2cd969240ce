-- In a graph that a part spells, the end stands behind each head.
use Rattle.std.proofs.Common.{◌≡◌, ℕ, zero, suc, ◌<◌, List, [], ◌∷◌, ◌++◌, map, Bool, true, false, Some, slice_get, sym, subst, arith}
use Rattle.rs_model.specs.declared.graph.Arm.{Arm}
use Rattle.rs_text.proofs.Basics.{some_is}
use Rattle.rs_bodies.specs.declared.dialects.Dialect.{Dialect}
use Rattle.rs_bodies.specs.declared.dialects.Head.{Head}
use Rattle.rs_bodies.specs.declared.places.Place.{Place}
use Rattle.rs_bodies.specs.declared.places.Place.TheVariants as place
use Rattle.rs_bodies.specs.Canonical.{IsSpelt}
use Rattle.rs_bodies.specs.Data.{Point_data}
use Rattle.rs_bodies.specs.Places.{choice, end_of}

-- each head has a lower number than an end
abbrev pub EndIsLast : List Place → Type 0
EndIsLast p = (n m : ℕ) (h : Head) (arms : List Arm) → slice_get p n ≡ Some place.End → slice_get p m ≡ Some (choice h arms) → m < n

pub last_in : (points : List Point_data) (end : Bool) (n m : ℕ) (h : Head) (arms : List Arm) → slice_get (map place.Point points ++ end_of end) n ≡ Some place.End
    → slice_get (map place.Point points ++ end_of end) m ≡ Some (choice h arms) → m < n
last_in [] false n m h arms e k = absurd (cc e)
last_in [] true n zero h arms e k = absurd (cc (some_is place.End (choice h arms) k))
last_in [] true n (suc m) h arms e k = absurd (cc k)
last_in (x ∷ points) end zero m h arms e k = absurd (cc (some_is (place.Point x) place.End e))
last_in (x ∷ points) end (suc n) zero h arms e k = omega arith
last_in (x ∷ points) end (suc n) (suc m) h arms e k = let b : m < n = last_in points end n m h arms e k in omega arith

pub end_is_last : (dia : Dialect) (p : List Place) (root : ℕ) → IsSpelt dia p root → EndIsLast p
end_is_last dia p root s = subst EndIsLast (sym s.places_are) (λ n m h arms e k. last_in s.spelling.points s.spelling.ended n m h arms e k)
