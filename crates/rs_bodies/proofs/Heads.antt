-- What is made of the heads of a body: of each the same, and as many as there are.
use Rattle.std.proofs.Common.{◌≡◌, ℕ, suc, ◌+◌, List, [], ◌∷◌, ◌++◌, length, map, refl, ap, ◌∙◌, length-append}
use Rattle.std.proofs.lemmas.List.{map-append}
use Rattle.rs_model.specs.declared.graph.Arm.{Arm}
use Rattle.rs_text.specs.Names.{BoundNames}
use Rattle.rs_bodies.specs.declared.dialects.Dialect.{Dialect}
use Rattle.rs_bodies.specs.Dialects.{BehindRole}
use Rattle.rs_bodies.specs.Graph.{acts_in, acts_in_arms, first_of, Numbering, arm_spelt, arms_of, heads_of, heads_in}
use Rattle.rs_bodies.specs.Trees.{Body, ends, again, binds, acts, offers, Branches, one, more}

-- what f makes of each head is what is made of the heads
mutual
  pub heads_mapped : {X Y : Type 0} (dia : Dialect) (f : X → Y) (made : List ℕ → BehindRole dia → List Arm → X) (other : List ℕ → BehindRole dia → List Arm → Y)
      → ((x : List ℕ) (t : BehindRole dia) (arms : List Arm) → f (made x t arms) ≡ other x t arms)
      → (m : Numbering) (b : Body dia) (bound : BoundNames) (k : ℕ) → map f (heads_of dia made m b bound k) ≡ heads_of dia other m b bound k
  heads_mapped dia f made other e m ends bound k = refl
  heads_mapped dia f made other e m (again x) bound k = refl
  heads_mapped dia f made other e m (binds x b) bound k = heads_mapped dia f made other e m b ((x, k) ∷ bound) k
  heads_mapped dia f made other e m (acts x t l sort b) bound k =
      let ours : List Arm = arm_spelt m l sort (first_of dia b bound (suc k) m.last) ∷ [] in
      ap (λ z. z ∷ map f (heads_of dia made m b bound (suc k))) (e x t ours) ∙ ap (λ z. other x t ours ∷ z) (heads_mapped dia f made other e m b bound (suc k))
  heads_mapped dia f made other e m (offers x t arms) bound k =
      let ours : List Arm = arms_of dia m arms bound (suc k) in
      ap (λ z. z ∷ map f (heads_in dia made m arms bound (suc k))) (e x t ours) ∙ ap (λ z. other x t ours ∷ z) (heads_in_mapped dia f made other e m arms bound (suc k))

  heads_in_mapped : {X Y : Type 0} (dia : Dialect) (f : X → Y) (made : List ℕ → BehindRole dia → List Arm → X) (other : List ℕ → BehindRole dia → List Arm → Y)
      → ((x : List ℕ) (t : BehindRole dia) (arms : List Arm) → f (made x t arms) ≡ other x t arms)
      → (m : Numbering) (arms : Branches dia) (bound : BoundNames) (k : ℕ) → map f (heads_in dia made m arms bound k) ≡ heads_in dia other m arms bound k
  heads_in_mapped dia f made other e m (one l sort b) bound k = heads_mapped dia f made other e m b bound k
  heads_in_mapped dia f made other e m (more l sort b arms) bound k =
      let j : ℕ = k + acts_in dia b in
      map-append f (heads_of dia made m b bound k) (heads_in dia made m arms bound j)
      ∙ ap (λ z. z ++ map f (heads_in dia made m arms bound j)) (heads_mapped dia f made other e m b bound k)
      ∙ ap (λ z. heads_of dia other m b bound k ++ z) (heads_in_mapped dia f made other e m arms bound j)

mutual
  pub heads_length : {X : Type 0} (dia : Dialect) (made : List ℕ → BehindRole dia → List Arm → X) (m : Numbering) (b : Body dia) (bound : BoundNames) (k : ℕ)
      → length (heads_of dia made m b bound k) ≡ acts_in dia b
  heads_length dia made m ends bound k = refl
  heads_length dia made m (again x) bound k = refl
  heads_length dia made m (binds x b) bound k = heads_length dia made m b ((x, k) ∷ bound) k
  heads_length dia made m (acts x t l sort b) bound k = ap (λ z. suc z) (heads_length dia made m b bound (suc k))
  heads_length dia made m (offers x t arms) bound k = ap (λ z. suc z) (heads_in_length dia made m arms bound (suc k))

  pub heads_in_length : {X : Type 0} (dia : Dialect) (made : List ℕ → BehindRole dia → List Arm → X) (m : Numbering) (arms : Branches dia) (bound : BoundNames) (k : ℕ)
      → length (heads_in dia made m arms bound k) ≡ acts_in_arms dia arms
  heads_in_length dia made m (one l sort b) bound k = heads_length dia made m b bound k
  heads_in_length dia made m (more l sort b arms) bound k =
      let j : ℕ = k + acts_in dia b in
      length-append (heads_of dia made m b bound k) (heads_in dia made m arms bound j)
      ∙ ap (λ z. z + length (heads_in dia made m arms bound j)) (heads_length dia made m b bound k) ∙ ap (λ z. acts_in dia b + z) (heads_in_length dia made m arms bound j)
