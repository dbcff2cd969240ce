-- What is left of the numbered graph of the candidates is what survives.
use Rattle.std.proofs.Common.{◌≡◌, ◌⊎◌, inl, inr, ℕ, ◌<◌, ◌≤◌, Bool, true, false, List, [], ◌∷◌, length, get_or, refl, ap, ◌∙◌, subst, arith, ◌+◌, suc, zero, Some, slice_get, if◌then◌else◌, nat_lt}
use Rattle.std.proofs.lemmas.Bool.{ltb-true, lt-ltb}
use Rattle.rs_graph.specs.Lists.{Among, ArePlacesOf}
use Rattle.rs_graph.specs.Removal.{moves_at, at, IsRemoval}
use Rattle.rs_graph.proofs.Growth.{in_at, at_in, at_short, at_within}

-- the moves of each item are named, in order
pub record Pictures {X : Type 0} (moves : X → List (List X)) (found : List X) (outs : List (List (List ℕ))) : Type 0 where
  pub size : length outs ≡ length found
  pub count : (n : ℕ) (x : X) → slice_get found n ≡ Some x → moves_at outs n ≡ length (moves x)
  pub names : (n place : ℕ) (x : X) (rs : List X) → slice_get found n ≡ Some x → slice_get (moves x) place ≡ Some rs → ArePlacesOf found (get_or (get_or outs n []) place []) rs

-- the items of the nodes that stay
abbrev stays : {X : Type 0} → List (List (List ℕ)) → List ℕ → ℕ → List X → List X
stays outs current n [] = []
stays outs current n (x ∷ xs) = if nat_lt (at current n) (moves_at outs n) then x ∷ stays outs current (n + 1) xs else stays outs current (n + 1) xs

stays_has : {X : Type 0} (outs : List (List (List ℕ))) (current : List ℕ) (n : ℕ) (xs : List X) (k : ℕ) (x : X) → slice_get xs k ≡ Some x → at current (n + k) < moves_at outs (n + k)
    → Among (stays outs current n xs) x
stays_has outs current n [] k x e h = absurd cc
stays_has outs current n (y ∷ ys) zero x e h =
    let a : n + 0 ≡ n = omega arith in let h' : at current n < moves_at outs n = rw a at h in let b : nat_lt (at current n) (moves_at outs n) ≡ true = lt-ltb (at current n)
    (moves_at outs n) h' in rw b (inl cc)
stays_has outs current n (y ∷ ys) (suc k) x e h =
    let a : n + suc k ≡ (n + 1) + k = omega arith in
    let r = stays_has outs current (n + 1) ys k x e (rw a at h) in
    elim (nat_lt (at current n) (moves_at outs n)) as (λ b. Among (if b then y ∷ stays outs current (n + 1) ys else stays outs current (n + 1) ys) x) [ true ↦ inr r | false ↦ r ]

bool_cases : (b : Bool) → (b ≡ true) ⊎ (b ≡ false)
bool_cases true = inl refl
bool_cases false = inr refl

stays_is : {X : Type 0} (outs : List (List (List ℕ))) (current : List ℕ) (n : ℕ) (xs : List X) (x : X) → Among (stays outs current n xs) x
    → (k : ℕ) × (slice_get xs k ≡ Some x) × (at current (n + k) < moves_at outs (n + k))
stays_is outs current n [] x h = elim h [ ]
stays_is {X = X} outs current n (y ∷ ys) x h =
    let later : Among (stays outs current (n + 1) ys) x → (k : ℕ) × (slice_get (y ∷ ys) k ≡ Some x) × (at current (n + k) < moves_at outs (n + k)) =
    λ h'. let r = stays_is outs current (n + 1) ys x h' in let a : n + suc r.0 ≡ (n + 1) + r.0 = omega arith in (suc r.0, r.1, rw a r.2) in
    elim (bool_cases (nat_lt (at current n) (moves_at outs n))) [
      | inl e ↦ (let h' : Among
          (y ∷ stays outs current (n + 1) ys) x = rw e at h in elim h' [
            | inl q ↦
                (let a : n + 0 ≡ n = omega arith in (zero, ap Some q, rw a (ltb-true (at current n) (moves_at outs n) e)))
            | inr q ↦ later q
          ])
      | inr e ↦ (let h' : Among (stays outs current (n + 1) ys) x = rw e at h in later h')
    ]

pub names_at : {X : Type 0} (found : List X) (ns : List ℕ) (rs : List X) → ArePlacesOf found ns rs → (r : X) → Among rs r → (k : ℕ) × (slice_get found k ≡ Some r) × Among ns k
names_at found [] [] h r m = elim m [ ]
names_at found [] (s ∷ rs) h r m = elim h [ ]
names_at found (n ∷ ns) [] h r m = elim m [ ]
names_at found (n ∷ ns) (s ∷ rs) h r (inl e) = (n, h.0 ∙ ap Some e, inl refl)
names_at found (n ∷ ns) (s ∷ rs) h r (inr m) = let k = names_at found ns rs h.1 r m in (k.0, k.1, inr k.2)

names_of : {X : Type 0} (found : List X) (ns : List ℕ) (rs : List X) → ArePlacesOf found ns rs → (k : ℕ) → Among ns k → (r : X) × (slice_get found k ≡ Some r) × Among rs r
names_of found [] [] h k m = elim m [ ]
names_of found [] (s ∷ rs) h k m = elim h [ ]
names_of found (n ∷ ns) [] h k m = elim h [ ]
names_of found (n ∷ ns) (s ∷ rs) h k (inl e) = (s, subst (λ (z : ℕ). slice_get found z ≡ Some s) e h.0, inl refl)
names_of found (n ∷ ns) (s ∷ rs) h k (inr m) = let r = names_of found ns rs h.1 k m in (r.0, r.1, inr r.2)

-- a set of items in which each has a move whose results all lie in it
abbrev pub Stands : {X : Type 0} → (X → List (List X)) → List X → Type 0
Stands {X} moves set = (x : X) → Among set x → (rs : List X) × Among (moves x) rs × ((r : X) → Among rs r → Among set r)

abbrev pub kept_of : {X : Type 0} → List (List (List ℕ)) → List ℕ → List X → List X
kept_of outs current found = stays outs current 0 found

-- the items that stay are such a set, of found ones
pub kept_stands : {X : Type 0} (moves : X → List (List X)) (found : List X) (outs : List (List (List ℕ))) (current order : List ℕ) → Pictures moves found outs → IsRemoval outs current order
    → Stands moves (kept_of outs current found)
kept_stands moves found outs current order pic rem x h =
    let s = stays_is outs current 0 found x h in
    let z : 0 + s.0 ≡ s.0 = omega arith in
    let lt : at current s.0 < moves_at outs s.0 = rw z at s.2 in
    let c = pic.count s.0 x s.1 in
    let p = at_within (moves x) (at current s.0) (omega arith) in
    let n = pic.names s.0 (at current s.0) x p.0 s.1 p.1 in (
      p.0,
      in_at (moves x) (at current s.0) p.0 p.1,
      λ r hr. let q = names_at found (get_or (get_or outs s.0 []) (at current s.0) []) p.0 n r hr in
          stays_has outs current 0 found q.0 r q.1 (let w : 0 + q.0 ≡ q.0 = omega arith in rw w (rem.stays s.0 q.0 lt q.2)),
    )

pub kept_are_found : {X : Type 0} (found : List X) (outs : List (List (List ℕ))) (current : List ℕ) (x : X) → Among (kept_of outs current found) x → Among found x
kept_are_found found outs current x h = let s = stays_is outs current 0 found x h in in_at found s.0 x s.1

pub kept_has : {X : Type 0} (found : List X) (outs : List (List (List ℕ))) (current : List ℕ) (n : ℕ) (x : X) → slice_get found n ≡ Some x → at current n < moves_at outs n
    → Among (kept_of outs current found) x
kept_has found outs current n x e lt = stays_has outs current 0 found n x e (let w : 0 + n ≡ n = omega arith in rw w lt)

-- what is removed lies in no such set
pub removed_dies : {X : Type 0} (moves : X → List (List X)) (found : List X) (outs : List (List (List ℕ))) (current order : List ℕ) → Pictures moves found outs → IsRemoval outs current order
    → (bound i n : ℕ) (x : X) → i < bound → slice_get order i ≡ Some n → slice_get found n ≡ Some x → (set : List X) → Stands moves set → Among set x → ⊥
removed_dies moves found outs current order pic rem zero i n x lt io e set st h = let bad : ⊥ = omega arith in bad
removed_dies moves found outs current order pic rem (suc bound) i n x lt io e set st h =
    let m = st x h in
    let p = at_in (moves x) m.0 m.1 in
    let c = pic.count n x e in
    let inp : p.0 < moves_at outs n = (let s = at_short (moves x) p.0 m.0 p.1 in omega arith) in
    let b = rem.ordered i n p.0 io inp in
    let q = names_of found (get_or (get_or outs n []) p.0 []) m.0 (pic.names n p.0 x m.0 e p.1) b.result b.leads in
    removed_dies moves found outs current order pic rem bound b.index b.result q.0 (let a = b.early in omega arith) b.stands q.1 set st (m.2 q.0 q.2)

-- a node that doesn't stay is removed
pub gone_dies : {X : Type 0} (moves : X → List (List X)) (found : List X) (outs : List (List (List ℕ))) (current order : List ℕ) → Pictures moves found outs → IsRemoval outs current order
    → (n : ℕ) (x : X) → slice_get found n ≡ Some x → moves_at outs n ≤ at current n → (set : List X) → Stands moves set → Among set x → ⊥
gone_dies moves found outs current order pic rem n x e le set st h =
    let w = rem.within n in
    let s = at_in order n (rem.listed n (let a = at_short found n x e in let b = pic.size in omega arith) (omega arith)) in
    removed_dies moves found outs current order pic rem (suc s.0) s.0 n x (omega arith) s.1 e set st h

-- a move before the one at which a node stays has a result that lies in no such set
pub earlier_dies : {X : Type 0} (moves : X → List (List X)) (found : List X) (outs : List (List (List ℕ))) (current order : List ℕ) → Pictures moves found outs → IsRemoval outs current order
    → (n place : ℕ) (x : X) (rs : List X) → slice_get found n ≡ Some x → slice_get (moves x) place ≡ Some rs → place < at current n
    → (r : X) × Among rs r × ((set : List X) → Stands moves set → Among set r → ⊥)
earlier_dies moves found outs current order pic rem n place x rs e m lt =
    let b = rem.passed n place lt in
    let q = names_of found (get_or (get_or outs n []) place []) rs (pic.names n place x rs e m) b.result b.leads in
    (q.0, q.2, λ set st h. removed_dies moves found outs current order pic rem (suc b.index) b.index b.result q.0 (omega arith) b.stands q.1 set st h)
