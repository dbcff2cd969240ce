-- The places of a body, and where each of them stands.
use Rattle.std.proofs.Common.{◌≡◌, ℕ, suc, ◌+◌, List, [], ◌∷◌, ◌++◌, length, map, refl, sym, ap, ◌∙◌, arith, length-append, Some, slice_get}
use Rattle.rs_model.specs.declared.graph.Arm.{Arm}
use Rattle.rs_text.specs.Names.{BoundNames}
use Rattle.rs_text.proofs.Basics.{seam}
use Rattle.rs_bodies.specs.declared.dialects.Dialect.{Dialect}
use Rattle.rs_bodies.specs.declared.places.Place.{Place}
use Rattle.rs_bodies.specs.declared.places.Place.TheVariants as place
use Rattle.rs_bodies.specs.Dialects.{BehindRole}
use Rattle.rs_bodies.specs.Graph.{acts_in, acts_in_arms, heads_of, heads_in, Numbering}
use Rattle.rs_bodies.specs.Places.{choice}
use Rattle.rs_bodies.specs.Points.{head_of, point_of, points_of}
use Rattle.rs_bodies.specs.Trees.{Body, Branches}
use Rattle.rs_bodies.proofs.Heads.{heads_mapped, heads_length, heads_in_length}

-- the head that these words stand for, with these arms
abbrev pub point_at : (dia : Dialect) → Numbering → List ℕ → BehindRole dia → List Arm → Place
point_at dia m s r arms = choice (head_of dia m s r) arms

-- the places of a body, in order of text
abbrev pub places_in : {dia : Dialect} → Numbering → Body dia → BoundNames → ℕ → List Place
places_in {dia} m b bound k = heads_of dia (point_at dia m) m b bound k

abbrev pub places_in_arms : {dia : Dialect} → Numbering → Branches dia → BoundNames → ℕ → List Place
places_in_arms {dia} m arms bound k = heads_in dia (point_at dia m) m arms bound k

pub places_are : {dia : Dialect} (m : Numbering) (b : Body dia) (bound : BoundNames) (k : ℕ) → map place.Point (points_of dia m b bound k) ≡ places_in m b bound k
places_are {dia} m b bound k = heads_mapped dia place.Point (point_of dia m) (point_at dia m) (λ x t arms. refl) m b bound k

pub places_length : {dia : Dialect} (m : Numbering) (b : Body dia) (bound : BoundNames) (k : ℕ) → length (places_in m b bound k) ≡ acts_in dia b
places_length {dia} m b bound k = heads_length dia (point_at dia m) m b bound k

pub arms_length : {dia : Dialect} (m : Numbering) (arms : Branches dia) (bound : BoundNames) (k : ℕ) → length (places_in_arms m arms bound k) ≡ acts_in_arms dia arms
arms_length {dia} m arms bound k = heads_in_length dia (point_at dia m) m arms bound k

pub one_longer : (pre : List Place) (x : Place) (k : ℕ) → length pre ≡ k → length (pre ++ x ∷ []) ≡ suc k
one_longer pre x k h = length-append pre (x ∷ []) ∙ ap (λ z. z + 1) h ∙ omega arith

pub at_seam : (places pre : List Place) (x : Place) (post : List Place) (k : ℕ) → places ≡ pre ++ (x ∷ post) → length pre ≡ k → slice_get places k ≡ Some x
at_seam places pre x post k e h = ap (λ z. slice_get z k) e ∙ ap (λ z. slice_get (pre ++ x ∷ post) z) (sym h) ∙ seam Place pre x post
