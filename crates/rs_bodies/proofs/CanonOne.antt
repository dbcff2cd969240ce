-- A graph that a part spells has one canonical body at most.
use Rattle.std.proofs.Common.{◌≡◌, ℕ, ◌+◌, ◌<◌, ◌≤◌, List, [], ◌∷◌, Option, Some, slice_get, refl, sym, ap, ◌∙◌, subst, arith}
use Rattle.rs_model.specs.Data.{Names_data}
use Rattle.rs_model.specs.declared.graph.Arm.{Arm}
use Rattle.rs_model.specs.declared.values.Sort.{Sort}
use Rattle.rs_text.proofs.Basics.{some_is}
use Rattle.rs_bodies.specs.declared.dialects.Dialect.{Dialect}
use Rattle.rs_bodies.specs.declared.dialects.Dialect.TheVariants.{Talks, Acts}
use Rattle.rs_bodies.specs.declared.dialects.Head.{Head}
use Rattle.rs_bodies.specs.declared.dialects.Head.TheVariants as head
use Rattle.rs_bodies.specs.declared.places.Place.{Place}
use Rattle.rs_bodies.specs.declared.places.Place.TheVariants as place
use Rattle.rs_bodies.specs.Canonical.{IsSpelt, IsHeadOf, IsPointOf, IsArmOf, IsOneArm, AreArms, Draws, DrawsHead, DrawsArms}
use Rattle.rs_bodies.specs.Dialects.{BehindRole, sends_to, with_mark}
use Rattle.rs_bodies.specs.Places.{choice}
use Rattle.rs_bodies.specs.Trees.{Body, ends, again, binds, acts, offers, Branches, one, more}
use Rattle.rs_bodies.proofs.EndsLast.{EndIsLast, end_is_last}

-- ---- what stands at a place

abbrev head_at : Place → Head
head_at place.End = head.Talk (record { 0 = 0 }) (record { 0 = 0 })
head_at (place.Point x) = x.head

abbrev arms_at : Place → List Arm
arms_at place.End = []
arms_at (place.Point x) = x.arms

-- ---- two bodies for one place

-- no end is among the first places
abbrev NoEndBefore : List Place → ℕ → Type 0
NoEndBefore p from = (n : ℕ) → slice_get p n ≡ Some place.End → from ≤ n

behind_head : (p : List Place) (k : ℕ) (h : Head) (arms : List Arm) → EndIsLast p → slice_get p k ≡ Some (choice h arms) → NoEndBefore p (k + 1)
behind_head p k h arms last e n f = let lt : k < n = last n k h arms f e in omega arith

clash : (p : List Place) (n : ℕ) (h : Head) (arms : List Arm) → slice_get p n ≡ Some place.End → slice_get p n ≡ Some (choice h arms) → ⊥
clash p n h arms e f = cc

no_end_head : {dia : Dialect} (names : Names_data) (p : List Place) (n : ℕ) (b : Body dia) → slice_get p n ≡ Some place.End → DrawsHead dia names p n b → ⊥
no_end_head names p n (acts s r l sort b) e h = clash p n h.1.head (h.0 ∷ []) e h.1.stands
no_end_head names p n (offers s r arms) e h = clash p n h.3.head (h.0 ∷ h.1 ∷ h.2) e h.3.stands
no_end_head names p n ends e h = h
no_end_head names p n (again x) e h = h
no_end_head names p n (binds x b) e h = h

-- two heads at one place
record SameHead {dia : Dialect} (s s' : List ℕ) (r r' : BehindRole dia) (arms others : List Arm) : Type 0 where
  words : s ≡ s'
  turns : r ≡ r'
  are : arms ≡ others

head_parts : (h h' : Head) (arms others : List Arm) → Some (choice h arms) ≡ Some (choice h' others) → (h ≡ h') × (arms ≡ others)
head_parts h h' arms others e =
    let same : choice h arms ≡ choice h' others = some_is (choice h arms) (choice h' others) e in
    (ap head_at same, ap arms_at same)

-- a head has one word and one turn
one_head : (dia : Dialect) (names : Names_data) (h : Head) (s s' : List ℕ) (r r' : BehindRole dia) → IsHeadOf dia names h s r → IsHeadOf dia names h s' r' → (s ≡ s') × (r ≡ r')
one_head Talks names (head.Talk a b) s s' (sends_to r) (sends_to r') x y = (some_is s s' (sym x.0 ∙ y.0), ap sends_to (some_is r r' (sym x.1 ∙ y.1)))
one_head Talks names (head.Act a m) s s' r r' x y = absurd x
one_head Acts names (head.Talk a b) s s' r r' x y = absurd x
one_head Acts names (head.Act a m) s s' (with_mark r) (with_mark r') x y = (some_is s s' (sym x.0 ∙ y.0), ap with_mark (sym x.1 ∙ y.1))

same_point : {dia : Dialect} (names : Names_data) (p : List Place) (n : ℕ) (s : List ℕ) (r : BehindRole dia) (s' : List ℕ) (r' : BehindRole dia) (arms others : List Arm)
    → IsPointOf dia names p n s r arms
    → IsPointOf dia names p n s' r' others → SameHead s s' r r' arms others
same_point {dia} names p n s r s' r' arms others x y =
    let parts = head_parts x.head y.head arms others (sym x.stands ∙ y.stands) in
    let same = one_head dia names x.head s s' r r' x.named (subst (λ (h : Head). IsHeadOf dia names h s' r') (sym parts.0) y.named) in
    record { words = same.0; turns = same.1; are = parts.1 }

same_head : (names : Names_data) (l l' : List ℕ) (sort sort' : Option Sort) (a : Arm) → IsArmOf names l sort a → IsArmOf names l' sort' a → (l ≡ l') × (sort ≡ sort')
same_head names l l' sort sort' a x y = (some_is l l' (sym x.0 ∙ y.0), x.1 ∙ sym y.1)

one_arm_is : (a b : Arm) → a ∷ [] ≡ b ∷ [] → a ≡ b
one_arm_is a b h = cc

not_two : (a b c : Arm) (ours : List Arm) → a ∷ [] ≡ b ∷ c ∷ ours → ⊥
not_two a b c ours h = cc

same_acts : {dia : Dialect} (s s' : List ℕ) (r r' : BehindRole dia) (l l' : List ℕ) (sort sort' : Option Sort) (b b' : Body dia) → s ≡ s' → r ≡ r' → l ≡ l' → sort ≡ sort' → b ≡ b'
    → acts s r l sort b ≡ acts s' r' l' sort' b'
same_acts {dia} s s' r r' l l' sort sort' b b' e f g h i = cc

same_offers : {dia : Dialect} (s s' : List ℕ) (r r' : BehindRole dia) (arms arms' : Branches dia) → s ≡ s' → r ≡ r' → arms ≡ arms' → offers s r arms ≡ offers s' r' arms'
same_offers {dia} s s' r r' arms arms' e f g = cc

same_one : {dia : Dialect} (s : List ℕ) (r : BehindRole dia) (l s' : List ℕ) (r' : BehindRole dia) (l' : List ℕ) (sort sort' : Option Sort) (a b : Body dia) (names : Names_data) (p : List Place)
    (n : ℕ)
    → EndIsLast p → ((next : ℕ) → NoEndBefore p (n + 1) → Draws dia names p (n + 1) next a → Draws dia names p (n + 1) next b → a ≡ b)
    → IsOneArm dia names p n s r l sort (λ next. Draws dia names p (n + 1) next a) → IsOneArm dia names p n s' r' l' sort' (λ next. Draws dia names p (n + 1) next b)
    → acts s r l sort a ≡ acts s' r' l' sort' b
same_one {dia} s r l s' r' l' sort sort' a b names p n last k x y =
    let t = same_point names p n s r s' r' (x.0 ∷ []) (y.0 ∷ []) x.1 y.1 in
    let arm : y.0 ≡ x.0 = sym (one_arm_is x.0 y.0 t.are) in
    let h = same_head names l l' sort sort' x.0 x.2 (subst (λ (z : Arm). IsArmOf names l' sort' z) arm y.2) in
    same_acts s s' r r' l l' sort sort' a b t.words t.turns h.0 h.1
    (k x.0.next (behind_head p n x.1.head (x.0 ∷ []) last x.1.stands) x.3 (subst (λ (z : Arm). Draws dia names p (n + 1) z.next b) arm y.3))

same_two : {dia : Dialect} (s : List ℕ) (r : BehindRole dia) (s' : List ℕ) (r' : BehindRole dia) (arms others : Branches dia) (names : Names_data) (p : List Place) (n : ℕ) → EndIsLast p
    → ((ours : List Arm) → NoEndBefore p (n + 1) → DrawsArms dia names p (n + 1) ours arms → DrawsArms dia names p (n + 1) ours others → arms ≡ others)
    → AreArms dia names p n s r (λ ours. DrawsArms dia names p (n + 1) ours arms) → AreArms dia names p n s' r' (λ ours. DrawsArms dia names p (n + 1) ours others)
    → offers s r arms ≡ offers s' r' others
same_two {dia} s r s' r' arms others names p n last k x y =
    let t = same_point names p n s r s' r' (x.0 ∷ x.1 ∷ x.2) (y.0 ∷ y.1 ∷ y.2) x.3 y.3 in
    same_offers s s' r r' arms others t.words t.turns
    (k (x.0 ∷ x.1 ∷ x.2) (behind_head p n x.3.head (x.0 ∷ x.1 ∷ x.2) last x.3.stands) x.4 (subst (λ (z : List Arm). DrawsArms dia names p (n + 1) z others) (sym t.are) y.4))

same_more : {dia : Dialect} (l l' : List ℕ) (sort sort' : Option Sort) (a b : Body dia) (arms others : Branches dia) → l ≡ l' → sort ≡ sort' → a ≡ b → arms ≡ others
    → more l sort a arms ≡ more l' sort' b others
same_more {dia} l l' sort sort' a b arms others e f g h = cc

none_left : {dia : Dialect} (names : Names_data) (p : List Place) (from : ℕ) (arms : Branches dia) → DrawsArms dia names p from [] arms → ⊥
none_left {dia} names p from arms h = h

mutual
  pub same_body : {dia : Dialect} (a b : Body dia) (names : Names_data) (p : List Place) (from n : ℕ) → EndIsLast p → NoEndBefore p from → Draws dia names p from n a → Draws dia names p from n b
      → a ≡ b
  same_body {dia} ends ends names p from n last free x y = refl
  same_body {dia} ends (again name) names p from n last free x y = let le : from ≤ n = free n x in let lt : n < from = y.0 in absurd (omega arith)
  same_body {dia} ends (binds name b) names p from n last free x y = absurd (no_end_head names p n b x y.3)
  same_body {dia} ends (acts s r l sort b) names p from n last free x y = absurd (no_end_head names p n (acts s r l sort b) x y.2)
  same_body {dia} ends (offers s r arms) names p from n last free x y = absurd (no_end_head names p n (offers s r arms) x y.2)
  same_body {dia} (again name) ends names p from n last free x y = let le : from ≤ n = free n y in let lt : n < from = x.0 in absurd (omega arith)
  same_body {dia} (again name) (again other) names p from n last free x y = ap again (x.1 ∙ sym y.1)
  same_body {dia} (again name) (binds other b) names p from n last free x y = let lt : n < from = x.0 in let le : from ≤ n = y.0 in absurd (omega arith)
  same_body {dia} (again name) (acts s r l sort b) names p from n last free x y = let lt : n < from = x.0 in let le : from ≤ n = y.0 in absurd (omega arith)
  same_body {dia} (again name) (offers s r arms) names p from n last free x y = let lt : n < from = x.0 in let le : from ≤ n = y.0 in absurd (omega arith)
  same_body {dia} (binds name a) ends names p from n last free x y = absurd (no_end_head names p n a y x.3)
  same_body {dia} (binds name a) (again other) names p from n last free x y = let le : from ≤ n = x.0 in let lt : n < from = y.0 in absurd (omega arith)
  same_body {dia} (binds name a) (binds other b) names p from n last free x y = ap (λ z. binds z a) (x.1 ∙ sym y.1) ∙ ap (λ z. binds other z) (same_whole a b names p n last x.3 y.3)
  same_body {dia} (binds name a) (acts s r l sort b) names p from n last free x y = absurd (y.1 x.2)
  same_body {dia} (binds name a) (offers s r arms) names p from n last free x y = absurd (y.1 x.2)
  same_body {dia} (acts s r l sort a) ends names p from n last free x y = absurd (no_end_head names p n (acts s r l sort a) y x.2)
  same_body {dia} (acts s r l sort a) (again name) names p from n last free x y = let le : from ≤ n = x.0 in let lt : n < from = y.0 in absurd (omega arith)
  same_body {dia} (acts s r l sort a) (binds name b) names p from n last free x y = absurd (x.1 y.2)
  same_body {dia} (acts s r l sort a) (acts s' r' l' sort' b) names p from n last free x y =
      same_one s r l s' r' l' sort sort' a b names p n last (λ next free h k. same_body a b names p (n + 1) next last free h k) x.2 y.2
  same_body {dia} (acts s r l sort a) (offers s' r' arms) names p from n last free x y =
      let t = same_point names p n s r s' r' (x.2.0 ∷ []) (y.2.0 ∷ y.2.1 ∷ y.2.2) x.2.1 y.2.3 in absurd (not_two x.2.0 y.2.0 y.2.1 y.2.2 t.are)
  same_body {dia} (offers s r arms) ends names p from n last free x y = absurd (no_end_head names p n (offers s r arms) y x.2)
  same_body {dia} (offers s r arms) (again name) names p from n last free x y = let le : from ≤ n = x.0 in let lt : n < from = y.0 in absurd (omega arith)
  same_body {dia} (offers s r arms) (binds name b) names p from n last free x y = absurd (x.1 y.2)
  same_body {dia} (offers s r arms) (acts s' r' l' sort' b) names p from n last free x y =
      let t = same_point names p n s' r' s r (y.2.0 ∷ []) (x.2.0 ∷ x.2.1 ∷ x.2.2) y.2.1 x.2.3 in absurd (not_two y.2.0 x.2.0 x.2.1 x.2.2 t.are)
  same_body {dia} (offers s r arms) (offers s' r' others) names p from n last free x y =
      same_two s r s' r' arms others names p n last (λ ours free h k. same_arms arms others ours names p (n + 1) last free h k) x.2 y.2

  same_whole : {dia : Dialect} (a b : Body dia) (names : Names_data) (p : List Place) (n : ℕ) → EndIsLast p → DrawsHead dia names p n a → DrawsHead dia names p n b → a ≡ b
  same_whole {dia} (acts s r l sort a) (acts s' r' l' sort' b) names p n last x y =
      same_one s r l s' r' l' sort sort' a b names p n last (λ next free h k. same_body a b names p (n + 1) next last free h k) x y
  same_whole {dia} (acts s r l sort a) (offers s' r' arms) names p n last x y = let t = same_point names p n s r s' r' (x.0 ∷ []) (y.0 ∷ y.1 ∷ y.2) x.1 y.3 in absurd (not_two x.0 y.0 y.1 y.2 t.are)
  same_whole {dia} (offers s r arms) (acts s' r' l' sort' b) names p n last x y = let t = same_point names p n s' r' s r (y.0 ∷ []) (x.0 ∷ x.1 ∷ x.2) y.1 x.3 in absurd (not_two y.0 x.0 x.1 x.2 t.are)
  same_whole {dia} (offers s r arms) (offers s' r' others) names p n last x y =
      same_two s r s' r' arms others names p n last (λ ours free h k. same_arms arms others ours names p (n + 1) last free h k) x y
  same_whole {dia} ends b names p n last x y = absurd x
  same_whole {dia} (again name) b names p n last x y = absurd x
  same_whole {dia} (binds name a) b names p n last x y = absurd x
  same_whole {dia} (acts s r l sort a) ends names p n last x y = absurd y
  same_whole {dia} (acts s r l sort a) (again name) names p n last x y = absurd y
  same_whole {dia} (acts s r l sort a) (binds name b) names p n last x y = absurd y
  same_whole {dia} (offers s r arms) ends names p n last x y = absurd y
  same_whole {dia} (offers s r arms) (again name) names p n last x y = absurd y
  same_whole {dia} (offers s r arms) (binds name b) names p n last x y = absurd y

  same_arms : {dia : Dialect} (x y : Branches dia) (ours : List Arm) (names : Names_data) (p : List Place) (from : ℕ) → EndIsLast p → NoEndBefore p from → DrawsArms dia names p from ours x
      → DrawsArms dia names p from ours y → x ≡ y
  same_arms {dia} x y [] names p from last free h k = absurd h
  same_arms {dia} (one l sort a) (one l' sort' b) (o ∷ []) names p from last free h k =
      let e = same_head names l l' sort sort' o h.0 k.0 in
      ap (λ z. one z sort a) e.0 ∙ ap (λ z. one l' z a) e.1 ∙ ap (λ z. one l' sort' z) (same_body a b names p from o.next last free h.1 k.1)
  same_arms {dia} (more l sort a arms) (more l' sort' b others) (o ∷ []) names p from last free h k = absurd (none_left names p from arms h.2)
  same_arms {dia} (more l sort a arms) (more l' sort' b others) (o ∷ c ∷ cs) names p from last free h k =
      let e = same_head names l l' sort sort' o h.0 k.0 in
      same_more l l' sort sort' a b arms others e.0 e.1 (same_body a b names p from o.next last free h.1 k.1) (same_arms arms others (c ∷ cs) names p from last free h.2 k.2)
  same_arms {dia} (one l sort a) (more l' sort' b others) (o ∷ []) names p from last free h k = absurd (none_left names p from others k.2)
  same_arms {dia} (more l sort a arms) (one l' sort' b) (o ∷ []) names p from last free h k = absurd (none_left names p from arms h.2)
  same_arms {dia} (one l sort a) y (o ∷ c ∷ cs) names p from last free h k = absurd h
  same_arms {dia} (more l sort a arms) (one l' sort' b) (o ∷ c ∷ cs) names p from last free h k = absurd k

-- ---- of a graph

pub drawn_once : (dia : Dialect) (names : Names_data) (p : List Place) (root : ℕ) (a b : Body dia) → IsSpelt dia p root → Draws dia names p 0 root a → Draws dia names p 0 root b → a ≡ b
drawn_once dia names p root a b spelt x y = same_body a b names p 0 root (end_is_last dia p root spelt) (λ n e. omega arith) x y
