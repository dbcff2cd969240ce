-- The canonical form of a body has the same places.
use Rattle.std.proofs.Common.{◌≡◌, ◌≢◌, ℕ, suc, ◌+◌, ◌^◌, ◌<◌, ◌≤◌, List, [], ◌∷◌, ◌++◌, length, map, Bool, true, false, ◌||◌, if◌then◌else◌, Option, Some, None, refl, sym, ap, ◌∙◌, arith, slice_get}
use Rattle.std.proofs.Common.{append_assoc, length-append}
use Rattle.std.specs.Str.{bytes_eq}
use Rattle.std.proofs.lemmas.Bool.{ltb-true}
use Rattle.std.proofs.lemmas.List.{map-append}
use Rattle.std.proofs.lemmas.Slice.Eq.{bytes_eq-Decides}
use Rattle.rs_text.specs.Arms.{sort_or_unit}
use Rattle.rs_text.proofs.Arms.{sort_same}
use Rattle.rs_model.specs.declared.graph.Arm.{Arm}
use Rattle.rs_model.specs.declared.values.Sort.{Sort}
use Rattle.rs_text.specs.Arms.{sort_or_unit}
use Rattle.rs_text.specs.Names.{BoundNames, nearest_binding, number_or}
use Rattle.rs_text.proofs.Basics.{some_is}
use Rattle.rs_bodies.specs.declared.dialects.Dialect.{Dialect}
use Rattle.rs_bodies.specs.declared.dialects.Dialect.TheVariants.{Talks, Acts}
use Rattle.rs_bodies.specs.declared.dialects.Head.TheVariants as head
use Rattle.rs_bodies.specs.declared.places.Place.{Place}
use Rattle.rs_bodies.specs.Dialects.{BehindRole, sends_to, with_mark, most}
use Rattle.rs_bodies.specs.Fits.{is_guarded}
use Rattle.rs_bodies.specs.Graph.{acts_in, acts_in_arms, has_end, has_end_arms, labels_of, labels_of_arms, Numbering, role_by_name, label_by_name, first_of, arm_spelt, arms_of}
use Rattle.rs_bodies.specs.Places.{choice, name_of_place}
use Rattle.rs_bodies.specs.Points.{head_of}
use Rattle.rs_bodies.specs.Trees.{Body, ends, again, binds, acts, offers, Branches, one, more}
use Rattle.rs_bodies.proofs.BackFlags.{goes_back, is_back}
use Rattle.rs_bodies.proofs.CanonForms.{Writing, role_as, label_as, turn_as, sort_as, canon, canon_arms, HasRole, HasTurn, HasNames, HasNamesArms}
use Rattle.rs_bodies.proofs.Fitting.{Leads, Fine, FineArms, Named, NamedArms}
use Rattle.rs_bodies.proofs.NamesLead.{Low, low_rec, low_up, Ins, ins_rec}
use Rattle.rs_bodies.proofs.Wrapped.{place_name_is, offered, opened_for, wrapped_acts, offered_acts, wrapped_end, offered_end, wrapped_labels, offered_labels, wrapped_places, wrapped_first}
use Rattle.rs_bodies.proofs.Wrapped.{offered_places, offered_first}
use Rattle.rs_bodies.proofs.PlacesIn.{point_at, places_in, places_in_arms, places_length, one_longer, at_seam}

-- ---- the names of places differ

picked : (c : Bool) (k : ℕ) (found : Option ℕ) (m : ℕ) → (c ≡ true → k ≡ m) → (c ≡ false → found ≡ Some m) → (if c then Some k else found) ≡ Some m
picked true k found m h f = ap Some (h refl)
picked false k found m h f = f refl

-- ---- the canonical names lead where the names lead

abbrev pub Inv : (ℕ → Bool) → BoundNames → BoundNames → ℕ → Type 0
Inv back bound named k = (x : List ℕ) (m : ℕ) → nearest_binding x bound ≡ Some m → back m ≡ true → m < k → nearest_binding (name_of_place m) named ≡ Some m

inv_pick : {P : Type 0} (c : Bool) (k : ℕ) (found : Option ℕ) (m : ℕ) → m < k → (if c then Some k else found) ≡ Some m → (found ≡ Some m → P) → P
inv_pick true k found m lt e f = let same : k ≡ m = some_is k m e in absurd (omega arith)
inv_pick false k found m lt e f = f e

pub inv_rec : (back : ℕ → Bool) (bound named : BoundNames) (k : ℕ) (x : List ℕ) → Inv back bound named k → Inv back ((x, k) ∷ bound) named k
inv_rec back bound named k x inv y m e b lt = inv_pick (bytes_eq x y) k (nearest_binding y bound) m lt e (λ h. inv y m h b lt)

place_named : (k m : ℕ) → k < 2 ^ 64 → m < 2 ^ 64 → bytes_eq (name_of_place k) (name_of_place m) ≡ true → k ≡ m
place_named k m a b h = place_name_is k m a b ((bytes_eq-Decides (name_of_place k) (name_of_place m)).0 h)

not_named : (k m : ℕ) → bytes_eq (name_of_place k) (name_of_place m) ≡ false → k ≢ m
not_named k m h e = cc ((bytes_eq-Decides (name_of_place k) (name_of_place m)).1 (ap name_of_place e), h)

pub inv_head : (back : ℕ → Bool) (bound named : BoundNames) (k : ℕ) (c : Bool) → k < 2 ^ 64 → back k ≡ c → Inv back bound named k → Inv back bound (opened_for c k named) (suc k)
inv_head back bound named k true small bk inv x m e b lt =
    picked (bytes_eq (name_of_place k) (name_of_place m)) k (nearest_binding (name_of_place m) named) m (λ h. place_named k m small (omega arith) h)
    (λ h. let ne : k ≢ m = not_named k m h in inv x m e b (omega arith))
inv_head back bound named k false small bk inv x m e b lt =
    let ne : k ≢ m = λ same. let wrong : back k ≡ true = ap back same ∙ b in cc (bk, wrong) in
    inv x m e b (omega arith)

abbrev pub InvAll : (ℕ → Bool) → BoundNames → BoundNames → Type 0
InvAll back bound named = (x : List ℕ) (m : ℕ) → nearest_binding x bound ≡ Some m → back m ≡ true → nearest_binding (name_of_place m) named ≡ Some m

pub inv_all : (back : ℕ → Bool) (bound named : BoundNames) (k : ℕ) → Low bound k → Inv back bound named (suc k) → InvAll back bound named
inv_all back bound named k low inv x m e b = let lt : m < k + 1 = low x m e in inv x m e b (omega arith)

-- ---- counts and shapes

mutual
  pub canon_acts : {dia : Dialect} (w : Writing) (t : Body dia) (bound : BoundNames) (k : ℕ) → acts_in dia (canon w t bound k) ≡ acts_in dia t
  canon_acts {dia} w ends bound k = refl
  canon_acts {dia} w (again x) bound k = refl
  canon_acts {dia} w (binds x b) bound k = canon_acts w b ((x, k) ∷ bound) k
  canon_acts {dia} w (acts s r l sort b) bound k =
      wrapped_acts (goes_back w.places k) k (acts (role_as w s) (turn_as w r) (label_as w l) (sort_as sort) (canon w b bound (suc k))) ∙ ap (λ z. suc z) (canon_acts w b bound (suc k))
  canon_acts {dia} w (offers s r arms) bound k =
      wrapped_acts (goes_back w.places k) k (offered (role_as w s) (turn_as w r) (canon_arms w arms bound (suc k))) ∙ offered_acts (role_as w s) (turn_as w r) (canon_arms w arms bound (suc k))
      ∙ ap (λ z. suc z) (canon_arms_acts w arms bound (suc k))

  canon_arms_acts : {dia : Dialect} (w : Writing) (arms : Branches dia) (bound : BoundNames) (k : ℕ) → acts_in_arms dia (canon_arms w arms bound k) ≡ acts_in_arms dia arms
  canon_arms_acts {dia} w (one l sort b) bound k = canon_acts w b bound k
  canon_arms_acts {dia} w (more l sort b arms) bound k =
      ap (λ z. z + acts_in_arms dia (canon_arms w arms bound (k + acts_in dia b))) (canon_acts w b bound k) ∙ ap (λ z. acts_in dia b + z) (canon_arms_acts w arms bound (k + acts_in dia b))

mutual
  pub canon_end : {dia : Dialect} (w : Writing) (t : Body dia) (bound : BoundNames) (k : ℕ) → has_end dia (canon w t bound k) ≡ has_end dia t
  canon_end {dia} w ends bound k = refl
  canon_end {dia} w (again x) bound k = refl
  canon_end {dia} w (binds x b) bound k = canon_end w b ((x, k) ∷ bound) k
  canon_end {dia} w (acts s r l sort b) bound k =
      wrapped_end (goes_back w.places k) k (acts (role_as w s) (turn_as w r) (label_as w l) (sort_as sort) (canon w b bound (suc k))) ∙ canon_end w b bound (suc k)
  canon_end {dia} w (offers s r arms) bound k =
      wrapped_end (goes_back w.places k) k (offered (role_as w s) (turn_as w r) (canon_arms w arms bound (suc k))) ∙ offered_end (role_as w s) (turn_as w r) (canon_arms w arms bound (suc k))
      ∙ canon_arms_end w arms bound (suc k)

  canon_arms_end : {dia : Dialect} (w : Writing) (arms : Branches dia) (bound : BoundNames) (k : ℕ) → has_end_arms dia (canon_arms w arms bound k) ≡ has_end_arms dia arms
  canon_arms_end {dia} w (one l sort b) bound k = canon_end w b bound k
  canon_arms_end {dia} w (more l sort b arms) bound k =
      ap (λ z. z || has_end_arms dia (canon_arms w arms bound (k + acts_in dia b))) (canon_end w b bound k) ∙ ap (λ z. has_end dia b || z) (canon_arms_end w arms bound (k + acts_in dia b))

mutual
  pub canon_labels : {dia : Dialect} (w : Writing) (t : Body dia) (bound : BoundNames) (k : ℕ) → labels_of dia (canon w t bound k) ≡ map (label_as w) (labels_of dia t)
  canon_labels {dia} w ends bound k = refl
  canon_labels {dia} w (again x) bound k = refl
  canon_labels {dia} w (binds x b) bound k = canon_labels w b ((x, k) ∷ bound) k
  canon_labels {dia} w (acts s r l sort b) bound k =
      wrapped_labels (goes_back w.places k) k (acts (role_as w s) (turn_as w r) (label_as w l) (sort_as sort) (canon w b bound (suc k))) ∙ ap (λ z. label_as w l ∷ z) (canon_labels w b bound (suc k))
  canon_labels {dia} w (offers s r arms) bound k =
      wrapped_labels (goes_back w.places k) k (offered (role_as w s) (turn_as w r) (canon_arms w arms bound (suc k))) ∙ offered_labels (role_as w s) (turn_as w r) (canon_arms w arms bound (suc k))
      ∙ canon_arms_labels w arms bound (suc k)

  canon_arms_labels : {dia : Dialect} (w : Writing) (arms : Branches dia) (bound : BoundNames) (k : ℕ) → labels_of_arms dia (canon_arms w arms bound k) ≡ map (label_as w) (labels_of_arms dia arms)
  canon_arms_labels {dia} w (one l sort b) bound k = ap (λ z. label_as w l ∷ z) (canon_labels w b bound k)
  canon_arms_labels {dia} w (more l sort b arms) bound k =
      ap (λ z. label_as w l ∷ (z ++ labels_of_arms dia (canon_arms w arms bound (k + acts_in dia b)))) (canon_labels w b bound k)
      ∙ ap (λ z. label_as w l ∷ (map (label_as w) (labels_of dia b) ++ z)) (canon_arms_labels w arms bound (k + acts_in dia b))
      ∙ ap (λ z. label_as w l ∷ z) (sym (map-append (label_as w) (labels_of dia b) (labels_of_arms dia arms)))

-- ---- the same places

-- the names that are written have the numbers of those that were read
pub record SameNumbers (P : List ℕ → Type 0) (w : Writing) (m : Numbering) : Type 0 where
  pub roles : (s : List ℕ) → HasRole w s → role_by_name m (role_as w s) ≡ role_by_name w.numbers s
  pub labels : (l : List ℕ) → P l → label_by_name m (label_as w l) ≡ label_by_name w.numbers l
  pub last : m.last ≡ w.numbers.last

pub record Same {dia : Dialect} (w : Writing) (m : Numbering) (t c : Body dia) (bound named : BoundNames) (k : ℕ) : Type 0 where
  pub places : places_in m c named k ≡ places_in w.numbers t bound k
  pub first : first_of dia c named k m.last ≡ first_of dia t bound k w.numbers.last

record SameArms {dia : Dialect} (w : Writing) (m : Numbering) (t c : Branches dia) (bound named : BoundNames) (k : ℕ) : Type 0 where
  arms : arms_of dia m c named k ≡ arms_of dia w.numbers t bound k
  places : places_in_arms m c named k ≡ places_in_arms w.numbers t bound k

arm_same : (P : List ℕ → Type 0) (w : Writing) (m : Numbering) (l : List ℕ) (sort : Option Sort) (n n' : ℕ) → SameNumbers P w m → P l → n' ≡ n
    → arm_spelt m (label_as w l) (sort_as sort) n' ≡ arm_spelt w.numbers l sort n
arm_same P w m l sort n n' s has e =
    ap (λ z. record { label = z; sort = sort_or_unit (sort_as sort); next = n' }) (s.labels l has)
    ∙ ap (λ z. record { label = label_by_name w.numbers l; sort = z; next = n' }) (sort_same (sort_or_unit sort))
    ∙ ap (λ z. record { label = label_by_name w.numbers l; sort = sort_or_unit sort; next = z }) e

head_same : (dia : Dialect) (P : List ℕ → Type 0) (w : Writing) (m : Numbering) (s : List ℕ) (r : BehindRole dia) → SameNumbers P w m → HasRole w s → HasTurn w r
    → head_of dia m (role_as w s) (turn_as w r) ≡ head_of dia w.numbers s r
head_same Talks P w m s (sends_to r) same has turn = ap (λ z. head.Talk z (role_by_name m (role_as w r))) (same.roles s has) ∙ ap (λ z. head.Talk (role_by_name w.numbers s) z) (same.roles r turn)
head_same Acts P w m s (with_mark r) same has turn = ap (λ z. head.Act z r) (same.roles s has)

point_same : {dia : Dialect} (P : List ℕ → Type 0) (w : Writing) (m : Numbering) (s : List ℕ) (r : BehindRole dia) (arms others : List Arm) → SameNumbers P w m → HasRole w s × HasTurn w r → others
    ≡ arms
    → point_at dia m (role_as w s) (turn_as w r) others ≡ point_at dia w.numbers s r arms
point_same {dia} P w m s r arms others same has e = ap (λ z. choice z others) (head_same dia P w m s r same has.0 has.1) ∙ ap (λ z. choice (head_of dia w.numbers s r) z) e

put : (a b : Place) (xs ys : List Place) → a ≡ b → xs ≡ ys → a ∷ xs ≡ b ∷ ys
put a b xs ys e f = cc

put_arm : (a b : Arm) (xs ys : List Arm) → a ≡ b → xs ≡ ys → a ∷ xs ≡ b ∷ ys
put_arm a b xs ys e f = cc

few_small : (dia : Dialect) (k n : ℕ) → k + suc n ≤ most dia → k < 2 ^ 64
few_small Talks k n h = omega arith
few_small Acts k n h = omega arith

name_first : (back : ℕ → Bool) (bound named : BoundNames) (k : ℕ) (x : List ℕ) (found : Option ℕ) → nearest_binding x bound ≡ found → Leads back found k → Inv back bound named k
    → number_or (nearest_binding (name_of_place (number_or found)) named) ≡ number_or found
name_first back bound named k x None e h inv = absurd h
name_first back bound named k x (Some m) e h inv = ap number_or (inv x m e h.1 h.0)

mutual
  pub same : {dia : Dialect} (P : List ℕ → Type 0) (w : Writing) (m : Numbering) (t : Body dia) (bound named : BoundNames) (k : ℕ) → SameNumbers P w m → k + acts_in dia t ≤ most dia
      → Fine dia (goes_back w.places) t bound k → Inv (goes_back w.places) bound named k → Low bound k → HasNames w P t → Same w m t (canon w t bound k) bound named k
  same {dia} P w m ends bound named k s few h inv low has = record { places = refl; first = s.last }
  same {dia} P w m (again x) bound named k s few h inv low has = record { places = refl; first = name_first (goes_back w.places) bound named k x (nearest_binding x bound) refl h inv }
  same {dia} P w m (binds x b) bound named k s few h inv low has =
      let i = same P w m b ((x, k) ∷ bound) named k s few h (inv_rec (goes_back w.places) bound named k x inv) (low_rec bound k x low) has in
      record { places = i.places; first = i.first }
  same {dia} P w m (acts x y l sort b) bound named k s few h inv low has =
      let back : Bool = goes_back w.places k in
      let inner : BoundNames = opened_for back k named in
      let small : k < 2 ^ 64 = few_small dia k (acts_in dia b) few in
      let c : Body dia = canon w b bound (suc k) in
      let i : Same w m b c bound inner (suc k)
      = same P w m b bound inner (suc k) s (omega arith) h (inv_head (goes_back w.places) bound named k back small refl inv) (low_up bound k (suc k) (omega arith) low) has.2 in
      record {
        places = wrapped_places m back k (acts (role_as w x) (turn_as w y) (label_as w l) (sort_as sort) c) named
            ∙ put (point_at dia m (role_as w x) (turn_as w y) (arm_spelt m (label_as w l) (sort_as sort) (first_of dia c inner (suc k) m.last) ∷ []))
            (point_at dia w.numbers x y (arm_spelt w.numbers l sort (first_of dia b bound (suc k) w.numbers.last) ∷ [])) (places_in m c inner (suc k)) (places_in w.numbers b bound (suc k))
            (point_same P w m x y (arm_spelt w.numbers l sort (first_of dia b bound (suc k) w.numbers.last) ∷ [])
            (arm_spelt m (label_as w l) (sort_as sort) (first_of dia c inner (suc k) m.last) ∷ []) s has.0
            (ap (λ z. z ∷ []) (arm_same P w m l sort (first_of dia b bound (suc k) w.numbers.last) (first_of dia c inner (suc k) m.last) s has.1 i.first))) i.places;
        first = wrapped_first m.last back k (acts (role_as w x) (turn_as w y) (label_as w l) (sort_as sort) c) named;
      }
  same {dia} P w m (offers x y arms) bound named k s few h inv low has =
      let back : Bool = goes_back w.places k in
      let inner : BoundNames = opened_for back k named in
      let small : k < 2 ^ 64 = few_small dia k (acts_in_arms dia arms) few in
      let c : Branches dia = canon_arms w arms bound (suc k) in
      let now : Inv (goes_back w.places) bound inner (suc k) = inv_head (goes_back w.places) bound named k back small refl inv in
      let i : SameArms w m arms c bound inner (suc k)
      = same_arms P w m arms bound inner (suc k) s (omega arith) h (inv_all (goes_back w.places) bound inner k low now) (low_up bound k (suc k) (omega arith) low) has.1 in
      record {
        places = wrapped_places m back k (offered (role_as w x) (turn_as w y) c) named ∙ offered_places m (role_as w x) (turn_as w y) c inner k
            ∙ put (point_at dia m (role_as w x) (turn_as w y) (arms_of dia m c inner (suc k))) (point_at dia w.numbers x y (arms_of dia w.numbers arms bound (suc k)))
            (places_in_arms m c inner (suc k)) (places_in_arms w.numbers arms bound (suc k))
            (point_same P w m x y (arms_of dia w.numbers arms bound (suc k)) (arms_of dia m c inner (suc k)) s has.0 i.arms) i.places;
        first = wrapped_first m.last back k (offered (role_as w x) (turn_as w y) c) named ∙ offered_first m.last (role_as w x) (turn_as w y) c inner k;
      }

  same_arms : {dia : Dialect} (P : List ℕ → Type 0) (w : Writing) (m : Numbering) (arms : Branches dia) (bound named : BoundNames) (k : ℕ) → SameNumbers P w m → k + acts_in_arms dia arms ≤ most dia
      → FineArms dia (goes_back w.places) arms bound k → InvAll (goes_back w.places) bound named → Low bound k → HasNamesArms w P arms → SameArms w m arms (canon_arms w arms bound k) bound named k
  same_arms {dia} P w m (one l sort b) bound named k s few h inv low has =
      let c : Body dia = canon w b bound k in
      let i : Same w m b c bound named k = same P w m b bound named k s few h (λ x n e bk lt. inv x n e bk) low has.1 in
      record { arms = ap (λ z. z ∷ []) (arm_same P w m l sort (first_of dia b bound k w.numbers.last) (first_of dia c named k m.last) s has.0 i.first); places = i.places }
  same_arms {dia} P w m (more l sort b arms) bound named k s few h inv low has =
      let c : Body dia = canon w b bound k in
      let j : ℕ = k + acts_in dia b in
      let d : Branches dia = canon_arms w arms bound j in
      let i : Same w m b c bound named k = same P w m b bound named k s (omega arith) h.0 (λ x n e bk lt. inv x n e bk) low has.1 in
      let o : SameArms w m arms d bound named j = same_arms P w m arms bound named j s (omega arith) h.1 inv (low_up bound k j (omega arith) low) has.2 in
      let step : k + acts_in dia c ≡ j = ap (λ z. k + z) (canon_acts w b bound k) in
      record {
        arms = put_arm (arm_spelt m (label_as w l) (sort_as sort) (first_of dia c named k m.last)) (arm_spelt w.numbers l sort (first_of dia b bound k w.numbers.last))
            (arms_of dia m d named (k + acts_in dia c)) (arms_of dia w.numbers arms bound j)
            (arm_same P w m l sort (first_of dia b bound k w.numbers.last) (first_of dia c named k m.last) s has.0 i.first) (ap (λ z. arms_of dia m d named z) step ∙ o.arms);
        places = ap (λ z. z ++ places_in_arms m d named (k + acts_in dia c)) i.places ∙ ap (λ z. places_in w.numbers b bound k ++ places_in_arms m d named z) step
            ∙ ap (λ z. places_in w.numbers b bound k ++ z) o.places;
      }

-- ---- in the graph of a tree, names lead to heads that are gone back to

fine_name : (p : List Place) (x : List ℕ) (bound : BoundNames) (from k : ℕ) (found : Option ℕ) → nearest_binding x bound ≡ found → is_guarded found k ≡ true → Ins bound from k
    → (number_or found < from → goes_back p (number_or found) ≡ true) → Leads (goes_back p) found k
fine_name p x bound from k None e g ins back = absurd (cc g)
fine_name p x bound from k (Some m) e g ins back = let lt : m < k = ltb-true m k g in (lt, back (ins x m e lt))

mutual
  pub fine : {dia : Dialect} (m : Numbering) (p : List Place) (t : Body dia) (bound : BoundNames) (from k : ℕ) (pre post : List Place) → p ≡ pre ++ (places_in m t bound k ++ post) → length pre ≡ k
      → Named dia t bound k → Low bound k → Ins bound from k
      → (first_of dia t bound k m.last < from → goes_back p (first_of dia t bound k m.last) ≡ true) → Fine dia (goes_back p) t bound k
  fine {dia} m p ends bound from k pre post e h named low ins back = tt
  fine {dia} m p (again x) bound from k pre post e h named low ins back = fine_name p x bound from k (nearest_binding x bound) refl named ins back
  fine {dia} m p (binds x b) bound from k pre post e h named low ins back = fine m p b ((x, k) ∷ bound) from k pre post e h named (low_rec bound k x low) (ins_rec bound from k x ins) back
  fine {dia} m p (acts s r l sort b) bound from k pre post e h named low ins back =
      let a : Arm = arm_spelt m l sort (first_of dia b bound (suc k) m.last) in
      let here : Place = point_at dia m s r (a ∷ []) in
      fine m p b bound (suc k) (suc k) (pre ++ here ∷ []) post (e ∙ sym (append_assoc pre (here ∷ []) (places_in m b bound (suc k) ++ post))) (one_longer pre here k h) named
      (low_up bound k (suc k) (omega arith) low) (λ x n i lt. lt)
      (λ lt. is_back p a.next (record {
        number = k;
        behind = omega arith;
        head = head_of dia m s r;
        arms = a ∷ [];
        stands = at_seam p pre here
            (places_in m b bound (suc k) ++ post) k e h;
        index = 0;
        arm = a;
        holds = refl;
        leads = refl;
      }))
  fine {dia} m p (offers s r arms) bound from k pre post e h named low ins back =
      let ours : List Arm = arms_of dia m arms bound (suc k) in
      let here : Place = point_at dia m s r ours in
      fine_arms m p arms bound k (suc k) (pre ++ here ∷ []) post (e ∙ sym (append_assoc pre (here ∷ []) (places_in_arms m arms bound (suc k) ++ post))) (one_longer pre here k h)
      (omega arith) named low
      (λ index arm stands lt. is_back p arm.next
      (record {
        number = k;
        behind = omega arith;
        head = head_of dia m s r;
        arms = ours;
        stands = at_seam p pre here
            (places_in_arms m arms bound (suc k) ++ post) k e h;
        index = index;
        arm = arm;
        holds = stands;
        leads = refl;
      }))

  fine_arms : {dia : Dialect} (m : Numbering) (p : List Place) (arms : Branches dia) (bound : BoundNames) (n k : ℕ) (pre post : List Place) → p ≡ pre ++ (places_in_arms m arms bound k ++ post)
      → length pre ≡ k → n < k → NamedArms dia arms bound k → Low bound n
      → ((index : ℕ) (arm : Arm) → slice_get (arms_of dia m arms bound k) index ≡ Some arm → arm.next < suc n → goes_back p arm.next ≡ true) → FineArms dia (goes_back p) arms bound k
  fine_arms {dia} m p (one l sort b) bound n k pre post e h le named low back =
      fine m p b bound (suc n) k pre post e h named (low_up bound n k (omega arith) low) (λ x j i lt. let a : j < n + 1 = low x j i in omega arith)
      (λ lt. back 0 (arm_spelt m l sort (first_of dia b bound k m.last)) refl lt)
  fine_arms {dia} m p (more l sort b arms) bound n k pre post e h le named low back =
      let j : ℕ = k + acts_in dia b in (
        fine m p b bound (suc n) k pre (places_in_arms m arms bound j ++ post) (e ∙ ap (λ z. pre ++ z) (append_assoc (places_in m b bound k) (places_in_arms m arms bound j) post)) h named.0
            (low_up bound n k (omega arith) low) (λ x q i lt. let a : q < n + 1 = low x q i in omega arith)
            (λ lt. back 0 (arm_spelt m l sort (first_of dia b bound k m.last)) refl lt),
        fine_arms m p arms bound n j (pre ++ places_in m b bound k) post
            (e ∙ ap (λ z. pre ++ z) (append_assoc (places_in m b bound k) (places_in_arms m arms bound j) post)
            ∙ sym (append_assoc pre (places_in m b bound k) (places_in_arms m arms bound j ++ post)))
            (length-append pre (places_in m b bound k) ∙ ap (λ z. z + length (places_in m b bound k)) h ∙ ap (λ z. k + z) (places_length m b bound k)) (omega arith) named.1 low
            (λ index arm stands lt. back (suc index) arm stands lt),
      )
