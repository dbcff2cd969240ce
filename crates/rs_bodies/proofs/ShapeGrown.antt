-- What the walk has met is spelt by a body.
use Rattle.std.proofs.Common.{◌≡◌, ◌≢◌, ℕ, zero, suc, ◌+◌, ◌-◌, ◌<◌, ◌≤◌, ◌^◌, List, [], ◌∷◌, ◌++◌, length, drop, Bool, true, false, ◌==◌, ◌&&◌, ◌||◌, if◌then◌else◌, nat_lt, nat_le, Option, Some}
use Rattle.std.proofs.Common.{None, inl, inr, refl, sym, ap, ◌∙◌, subst, arith, slice_get, append_assoc}
use Rattle.std.proofs.lemmas.Bool.{ltb-true, ltb-false, lt-ltb, eq-eqb, eqb-true, leb-true}
use Rattle.std.proofs.lemmas.Bool.Decides.{eqb_tells}
use Rattle.std.proofs.lemmas.Slice.Eq.{bytes_eq-Decides}
use Rattle.std.specs.Str.{bytes_eq}
use Rattle.rs_model.specs.declared.graph.Arm.{Arm}
use Rattle.rs_model.specs.declared.graph.Role.{Role}
use Rattle.rs_model.specs.declared.graph.Label.{Label}
use Rattle.rs_model.specs.declared.limits.TheConstants.{MOST_ROLES, MOST_LABELS, MOST_NESTING, MOST_TALKS}
use Rattle.rs_model.specs.declared.values.Sort.{Sort}
use Rattle.rs_text.proofs.Gaps.{true_or_false}
use Rattle.rs_text.proofs.Naming.{grown_append, at_among}
use Rattle.rs_text.proofs.PlainNames.{plain_name, plain_names, plain_stands, plain_place, plain_grown, plain_role, plain_label, plain_count, numbered_word}
use Rattle.rs_text.proofs.Basics.{some_is, two_true, both, or_true, or_false, or_assoc, or_first, any_stands, stands_any, drop_get, or_end}
use Rattle.rs_text.proofs.Arms.{sort_same}
use Rattle.rs_text.specs.Arms.{sort_or_unit}
use Rattle.rs_text.specs.Shown.{shown_sort}
use Rattle.rs_text.specs.Names.{BoundNames, nearest_binding, number_or, names_with, is_among}
use Rattle.rs_text.specs.Words.{is_role_word}
use Rattle.rs_bodies.specs.declared.dialects.Dialect.{Dialect}
use Rattle.rs_bodies.specs.declared.dialects.Dialect.TheVariants.{Talks, Acts}
use Rattle.rs_bodies.specs.declared.dialects.Head.{Head}
use Rattle.rs_bodies.specs.declared.dialects.Head.TheVariants as head
use Rattle.rs_bodies.specs.declared.places.Place.{Place}
use Rattle.rs_bodies.specs.declared.places.Place.TheVariants as place
use Rattle.rs_bodies.specs.declared.shapes.HeadsMet.{HeadsMet}
use Rattle.rs_bodies.specs.Dialects.{BehindRole, sends_to, with_mark, most}
use Rattle.rs_bodies.specs.Fits.{is_guarded, has_room_for, head_fits, body_fits, arms_fit}
use Rattle.rs_bodies.specs.Graph.{labels_of, labels_of_arms, acts_in, acts_in_arms, has_end, has_end_arms, Numbering, role_by_name, first_of, arm_spelt, arms_of}
use Rattle.rs_bodies.specs.Places.{choice, name_of_place}
use Rattle.rs_bodies.specs.Points.{head_of}
use Rattle.rs_bodies.specs.Shapes.{leads_to, place_leads, leads_from, number_of_end, walk_behind_label, walk_behind_next, or_none, walk_behind_arms, walk_where_closed, deeper, are_more}
use Rattle.rs_bodies.specs.Shapes.{nesting_within, is_known, is_fit, one_head_more, Outline, walk_behind_place, walk_behind_head, to_end}
use Rattle.rs_bodies.specs.Trees.{Body, again, ends, Branches, one, more}
use Rattle.rs_bodies.specs.Writable.{IsWordInTurn, AreWordsIn, AreWordsInArms}
use Rattle.rs_bodies.proofs.PlacesIn.{places_in, places_in_arms}
use Rattle.rs_bodies.proofs.Wrapped.{scene, place_name_is, wrapped, offered, opened_for, wrapped_fits, wrapped_acts, offered_acts, wrapped_end, offered_end, wrapped_labels, offered_labels}
use Rattle.rs_bodies.proofs.Wrapped.{wrapped_places, wrapped_first, offered_places, offered_first, one_words}

-- ---- cases of options

if_true : (c : Bool) (x y : Option HeadsMet) → c ≡ true → (if c then x else y) ≡ x
if_true true x y e = refl
if_true false x y e = absurd (cc e)

if_false : (c : Bool) (x y : Option HeadsMet) → c ≡ false → (if c then x else y) ≡ y
if_false true x y e = absurd (cc e)
if_false false x y e = refl

abbrev nothing : Option HeadsMet
nothing = None

not_some : (w : HeadsMet) → nothing ≡ Some w → ⊥
not_some w h = cc

chained : (f : HeadsMet → Option HeadsMet) (o : Option HeadsMet) (w : HeadsMet) → or_none f o ≡ Some w → (v : HeadsMet) × (o ≡ Some v) × (f v ≡ Some w)
chained f None w h = absurd (not_some w h)
chained f (Some v) w h = (v, refl, h)

-- ---- the graph

-- the names that are given, for a count of labels
abbrev pub numbers : Outline → ℕ → Numbering
numbers p n = record { names = record { roles = plain_names 82 p.roles; labels = plain_names 108 n }; last = number_of_end p.places }

pub record Small (dia : Dialect) (p : Outline) : Type 0 where
  pub roles : p.roles ≤ MOST_ROLES
  pub last : number_of_end p.places ≤ most dia
  pub bounded : number_of_end p.places ≤ MOST_TALKS

later_leads : (places : List Place) (a b v : ℕ) → b ≤ a → leads_from places a v ≡ true → leads_from places b v ≡ true
later_leads places a b v le h =
    let f = any_stands Place (place_leads v) (drop a places) h in
    let same : a + f.0 ≡ b + (a + f.0 - b) = omega arith in
    stands_any Place (place_leads v) (drop b places) (a + f.0 - b) f.1 (drop_get Place b places (a + f.0 - b) ∙ ap (λ z. slice_get places z) (sym same) ∙ sym (drop_get Place a places f.0) ∙ f.2) f.3

arm_leads : (places : List Place) (n : ℕ) (h : Head) (arms : List Arm) (index : ℕ) (a : Arm) → slice_get places n ≡ Some (choice h arms) → slice_get arms index ≡ Some a
    → leads_from places n a.next ≡ true
arm_leads places n h arms index a e f =
    let same : n + 0 ≡ n = omega arith in
    stands_any Place (place_leads a.next) (drop n places) 0 (choice h arms) (drop_get Place n places 0 ∙ ap (λ z. slice_get places z) same ∙ e)
    (stands_any Arm (leads_to a.next) arms index a f (eq-eqb a.next a.next refl))

drop_at : (places : List Place) (n : ℕ) (x : Place) → slice_get places n ≡ Some x → drop n places ≡ x ∷ drop (suc n) places
drop_at [] n x e = absurd (cc e)
drop_at (y ∷ places) zero x e = ap (λ z. z ∷ places) (some_is y x e)
drop_at (y ∷ places) (suc n) x e = drop_at places n x e

-- the heads before `count` that are gone back to from there on have names
abbrev pub Bounded : Outline → BoundNames → ℕ → Type 0
Bounded p bound count = (v : ℕ) → v < count → leads_from p.places count v ≡ true → nearest_binding (name_of_place v) bound ≡ Some v

abbrev Closed : Outline → (from count : ℕ) → Type 0
Closed p from count = (v : ℕ) → from ≤ v → v < count → leads_from p.places count v ≡ false

pub record Grown (dia : Dialect) (p : Outline) (bound : BoundNames) (depth : ℕ) (w u : HeadsMet) (to : ℕ) : Type 0 where
  pub body : Body dia
  pub first : first_of dia body bound w.count (number_of_end p.places) ≡ to
  pub parts : (n : ℕ) → u.labels ≤ n → n ≤ MOST_LABELS → drop w.count p.places ≡ places_in (numbers p n) body bound w.count ++ drop u.count p.places
  pub counts : w.count + acts_in dia body ≡ u.count
  pub labels : names_with (plain_names 108 w.labels) (labels_of dia body) ≡ plain_names 108 u.labels
  pub ended : u.ended ≡ (w.ended || has_end dia body)
  pub fits : body_fits dia body (scene (plain_names 82 p.roles) bound depth w.count (plain_names 108 w.labels)) ≡ true
  pub words : AreWordsIn dia body
  pub shut : Closed p w.count u.count
  pub up : w.labels ≤ u.labels
  pub room : u.labels ≤ MOST_LABELS
  pub within : u.count ≤ number_of_end p.places

abbrev two : (dia : Dialect) → Branches dia → Bool
two dia (one l sort b) = false
two dia (more l sort b arms) = true

record GrownArms (dia : Dialect) (p : Outline) (bound : BoundNames) (depth : ℕ) (w u : HeadsMet) (arms : List Arm) : Type 0 where
  branches : Branches dia
  are : (n : ℕ) → u.labels ≤ n → n ≤ MOST_LABELS → arms_of dia (numbers p n) branches bound w.count ≡ arms
  parts : (n : ℕ) → u.labels ≤ n → n ≤ MOST_LABELS → drop w.count p.places ≡ places_in_arms (numbers p n) branches bound w.count ++ drop u.count p.places
  counts : w.count + acts_in_arms dia branches ≡ u.count
  labels : names_with (plain_names 108 w.labels) (labels_of_arms dia branches) ≡ plain_names 108 u.labels
  ended : u.ended ≡ (w.ended || has_end_arms dia branches)
  fits : arms_fit dia branches (scene (plain_names 82 p.roles) bound depth w.count (plain_names 108 w.labels)) ≡ true
  words : AreWordsInArms dia branches
  shut : Closed p w.count u.count
  shape : two dia branches ≡ are_more arms
  up : w.labels ≤ u.labels
  room : u.labels ≤ MOST_LABELS
  within : u.count ≤ number_of_end p.places

-- ---- a way back, and an end

name_back : (k count : ℕ) (found : Option ℕ) → found ≡ Some k → k < count → is_guarded found count ≡ true
name_back k count found e lt = ap (λ z. is_guarded z count) e ∙ lt-ltb k count lt

back_grown : (dia : Dialect) (p : Outline) (bound : BoundNames) (depth to : ℕ) (w : HeadsMet) → Small dia p → to < w.count → w.count ≤ number_of_end p.places → w.labels ≤ MOST_LABELS
    → nearest_binding (name_of_place to) bound ≡ Some to → Grown dia p bound depth w w to
back_grown dia p bound depth to w small lt le room e =
    let few : number_of_end p.places ≤ MOST_TALKS = small.bounded in
    record {
      body = again (name_of_place to);
      first = ap number_or e;
      parts = λ n a b. refl;
      counts = omega arith;
      labels = refl;
      ended = or_false w.ended;
      fits = name_back to w.count (nearest_binding (name_of_place to) bound) e lt;
      words = numbered_word to (omega arith);
      shut = λ v a b. absurd (omega arith);
      up = omega arith;
      room = room;
      within = le;
    }

end_grown : (dia : Dialect) (p : Outline) (bound : BoundNames) (depth : ℕ) (w : HeadsMet) → w.labels ≤ MOST_LABELS → w.count ≤ number_of_end p.places
    → Grown dia p bound depth w (record w { ended = true }) (number_of_end p.places)
end_grown dia p bound depth w room le = record {
  body = ends;
  first = refl;
  parts = λ n a b. refl;
  counts = omega arith;
  labels = refl;
  ended = or_true w.ended;
  fits = refl;
  words = tt;
  shut = λ v a b. absurd (omega arith);
  up = omega arith;
  room = room;
  within = le;
}

-- ---- where an arm leads

abbrev pub Grows : Dialect → Outline → BoundNames → ℕ → (ℕ → HeadsMet → Option HeadsMet) → Type 0
Grows dia p bound depth visit = (n : ℕ) (w u : HeadsMet) → n ≡ w.count → n < number_of_end p.places → w.labels ≤ MOST_LABELS → Bounded p bound w.count → visit n w ≡ Some u
    → Grown dia p bound depth w u n

pub met_grown : (dia : Dialect) (p : Outline) (bound : BoundNames) (depth : ℕ) (visit : ℕ → HeadsMet → Option HeadsMet) (from to : ℕ) (w u : HeadsMet) → Small dia p → Grows dia p bound depth visit
    → from ≤ w.count
    → w.count ≤ number_of_end p.places → w.labels ≤ MOST_LABELS → Bounded p bound w.count
    → (to < from → nearest_binding (name_of_place to) bound ≡ Some to) → walk_behind_next visit (number_of_end p.places) from to w ≡ Some u → Grown dia p bound depth w u to
met_grown dia p bound depth visit from to w u small grows le within room names back h = elim (true_or_false (nat_lt to from)) [
  | inl e ↦ (
      let lt : to < from = ltb-true to from e in
      let same : w ≡ u = some_is w u
      (sym (if_true (nat_lt to from) (Some w) (if to == w.count && nat_lt to (number_of_end p.places) then visit to w else to_end (number_of_end p.places) to w) e) ∙ h) in
      subst (λ (z : HeadsMet). Grown dia p bound depth w z to) same (back_grown dia p bound depth to w small (omega arith) within room (back lt)))
  | inr e ↦ (
      let h2 = sym (if_false (nat_lt to from) (Some w) (if to == w.count && nat_lt to (number_of_end p.places) then visit to w else to_end (number_of_end p.places) to w) e) ∙ h in
      elim (true_or_false (to == w.count && nat_lt to (number_of_end p.places))) [
        | inl f ↦ (
            let q = both (to == w.count) (nat_lt to (number_of_end p.places)) f in
            grows to w u (eqb-true to w.count q.0) (ltb-true to (number_of_end p.places) q.1) room names
            (sym (if_true (to == w.count && nat_lt to (number_of_end p.places)) (visit to w) (to_end (number_of_end p.places) to w) f) ∙ h2))
        | inr f ↦ (
            let h3 = sym (if_false (to == w.count && nat_lt to (number_of_end p.places)) (visit to w) (to_end (number_of_end p.places) to w) f) ∙ h2 in
            elim (true_or_false (to == number_of_end p.places)) [
              | inl i ↦ (
                  let same : record w { ended = true } ≡ u = some_is (record w { ended = true }) u (sym (if_true (to == number_of_end p.places) (Some (record w { ended = true })) None i) ∙ h3) in
                  subst (λ (z : ℕ). Grown dia p bound depth w u z) (sym (eqb-true to (number_of_end p.places) i))
                  (subst (λ (z : HeadsMet). Grown dia p bound depth w z (number_of_end p.places)) same (end_grown dia p bound depth w room within)))
              | inr i ↦ absurd (not_some u (sym (if_false (to == number_of_end p.places) (Some (record w { ended = true })) None i) ∙ h3))
            ])
      ])
]

-- ---- labels

record Labelled (i : ℕ) (w v : HeadsMet) : Type 0 where
  count : v.count ≡ w.count
  ended : v.ended ≡ w.ended
  below : i < v.labels
  grows : names_with (plain_names 108 w.labels) (plain_name 108 i ∷ []) ≡ plain_names 108 v.labels
  up : w.labels ≤ v.labels
  room : v.labels ≤ MOST_LABELS
  fits : (bound : BoundNames) (roles : List (List ℕ)) (depth k : ℕ) → has_room_for (plain_name 108 i) (scene roles bound depth k (plain_names 108 w.labels)) ≡ true

is_labelled : (i : ℕ) (w v : HeadsMet) → w.labels ≤ MOST_LABELS → walk_behind_label i w ≡ Some v → Labelled i w v
is_labelled i w v room h = elim (true_or_false (nat_lt i w.labels)) [
  | inl e ↦ (
      let lt : i < w.labels = ltb-true i w.labels e in
      let there : is_among (plain_name 108 i) (plain_names 108 w.labels) ≡ true = at_among (plain_names 108 w.labels) i (plain_name 108 i) (plain_stands 108 w.labels i lt) in
      let same : w ≡ v = some_is w v (sym (if_true (nat_lt i w.labels) (Some w) (if i == w.labels && nat_lt i MOST_LABELS then Some (record w { labels = suc w.labels }) else None) e) ∙ h) in
      subst (λ (z : HeadsMet). Labelled i w z) same (record {
        count = refl;
        ended = refl;
        below = lt;
        grows = ap (λ z. if z then plain_names 108 w.labels else plain_names 108 w.labels ++ plain_name 108 i ∷ []) there;
        up = omega arith;
        room = room;
        fits = λ bound roles depth k. or_first (is_among (plain_name 108 i) (plain_names 108 w.labels)) (nat_lt (length (plain_names 108 w.labels)) MOST_LABELS) there;
      }))
  | inr e ↦ (
      let h2 = sym (if_false (nat_lt i w.labels) (Some w) (if i == w.labels && nat_lt i MOST_LABELS then Some (record w { labels = suc w.labels }) else None) e) ∙ h in
      elim (true_or_false (i == w.labels && nat_lt i MOST_LABELS)) [
        | inl f ↦ (
            let q = both (i == w.labels) (nat_lt i MOST_LABELS) f in
            let at : i ≡ w.labels = eqb-true i w.labels q.0 in
            let few : i < MOST_LABELS = ltb-true i MOST_LABELS q.1 in
            let same : record w { labels = suc w.labels } ≡ v
            = some_is (record w { labels = suc w.labels }) v (sym (if_true (i == w.labels && nat_lt i MOST_LABELS) (Some (record w { labels = suc w.labels })) None f) ∙ h2) in
            let size : length (plain_names 108 w.labels) ≡ w.labels = plain_count 108 w.labels in
            subst (λ (z : HeadsMet). Labelled i w z) same (record {
              count = refl;
              ended = refl;
              below = omega arith;
              grows = ap (λ z. names_with (plain_names 108 w.labels) (plain_name 108 z ∷ [])) at ∙ plain_grown 108 w.labels (omega arith);
              up = omega arith;
              room = omega arith;
              fits = λ bound roles depth k. or_end (is_among (plain_name 108 i) (plain_names 108 w.labels)) (nat_lt (length (plain_names 108 w.labels)) MOST_LABELS)
                  (lt-ltb (length (plain_names 108 w.labels)) MOST_LABELS (omega arith));
            }))
        | inr f ↦ absurd (not_some v (sym (if_false (i == w.labels && nat_lt i MOST_LABELS) (Some (record w { labels = suc w.labels })) None f) ∙ h2))
      ])
]

-- ---- arms

abbrev relabel : HeadsMet → ℕ → HeadsMet
relabel w n = record w { labels = n }

relabelled : (w v : HeadsMet) → v.count ≡ w.count → v.ended ≡ w.ended → v ≡ relabel w v.labels
relabelled w v e f = ap (λ z. record v { count = z }) e ∙ ap (λ z. record w { labels = v.labels; ended = z }) f

abbrev label_numbered : ℕ → Label
label_numbered n = record { 0 = n }

abbrev arm : Label → Sort → ℕ → Arm
arm label sort next = record { label = label; sort = sort; next = next }

arm_is : (p : Outline) (n : ℕ) (a : Arm) (next : ℕ) → a.label.0 < n → n ≤ MOST_LABELS → next ≡ a.next → arm_spelt (numbers p n) (plain_name 108 a.label.0) (shown_sort a.sort) next ≡ a
arm_is p n a next lt few e =
    ap (λ z. arm (label_numbered (number_or z)) (sort_or_unit (shown_sort a.sort)) next) (plain_place 108 n a.label.0 lt (omega arith))
    ∙ ap (λ z. arm (label_numbered a.label.0) z next) (sort_same a.sort) ∙ ap (λ z. arm (label_numbered a.label.0) a.sort z) e

not_later : (places : List Place) (a b v : ℕ) → a ≤ b → leads_from places a v ≡ false → leads_from places b v ≡ false
not_later places a b v le h = elim (true_or_false (leads_from places b v)) [
  | inl e ↦ absurd (cc (later_leads places b a v le e, h))
  | inr e ↦ e
]

still_bounded : (p : Outline) (bound : BoundNames) (k j : ℕ) → k ≤ j → Bounded p bound k → Closed p k j → Bounded p bound j
still_bounded p bound k j le names shut v lt lead = elim (true_or_false (nat_lt v k)) [
  | inl e ↦ names v (ltb-true v k e) (later_leads p.places j k v le lead)
  | inr e ↦ absurd (cc (lead, shut v (ltb-false v k e) lt))
]

still_closed : (p : Outline) (k j i : ℕ) → j ≤ i → Closed p k j → Closed p j i → Closed p k i
still_closed p k j i le first rest v lo hi = elim (true_or_false (nat_lt v j)) [
  | inl e ↦ not_later p.places j i v le (first v lo (ltb-true v j e))
  | inr e ↦ rest v (ltb-false v j e) hi
]

one_grown : (dia : Dialect) (p : Outline) (bound : BoundNames) (depth : ℕ) (a : Arm) (w v u : HeadsMet) → Labelled a.label.0 w v → Grown dia p bound depth (relabel w v.labels) u a.next
    → GrownArms dia p bound depth w u (a ∷ [])
one_grown dia p bound depth a w v u l g =
    let below : a.label.0 < v.labels = l.below in
    let up : v.labels ≤ u.labels = g.up in
    let first : w.labels ≤ v.labels = l.up in
    let few : u.labels ≤ MOST_LABELS = g.room in
    record {
      branches = one (plain_name 108 a.label.0) (shown_sort a.sort) g.body;
      are = λ n le small. ap (λ z. z ∷ []) (arm_is p n a (first_of dia g.body bound w.count (number_of_end p.places)) (omega arith) small g.first);
      parts = g.parts;
      counts = g.counts;
      labels = ap (λ z. names_with z (labels_of dia g.body)) l.grows ∙ g.labels;
      ended = g.ended;
      fits = two_true (has_room_for (plain_name 108 a.label.0) (scene (plain_names 82 p.roles) bound depth w.count (plain_names 108 w.labels)))
          (body_fits dia g.body (scene (plain_names 82 p.roles) bound depth w.count (names_with (plain_names 108 w.labels) (plain_name 108 a.label.0 ∷ []))))
          (l.fits bound (plain_names 82 p.roles) depth w.count)
          (subst (λ (z : List (List ℕ)). body_fits dia g.body (scene (plain_names 82 p.roles) bound depth w.count z) ≡ true) (sym l.grows) g.fits);
      words = (plain_label a.label.0 (omega arith), g.words);
      shut = g.shut;
      shape = refl;
      up = omega arith;
      room = g.room;
      within = g.within;
    }

more_grown : (dia : Dialect) (p : Outline) (bound : BoundNames) (depth : ℕ) (a b : Arm) (bs : List Arm) (w v x u : HeadsMet) → Labelled a.label.0 w v
    → Grown dia p bound depth (relabel w v.labels) x a.next
    → GrownArms dia p bound depth x u (b ∷ bs) → GrownArms dia p bound depth w u (a ∷ b ∷ bs)
more_grown dia p bound depth a b bs w v x u l g r =
    let below : a.label.0 < v.labels = l.below in
    let up : v.labels ≤ x.labels = g.up in
    let first : w.labels ≤ v.labels = l.up in
    let more_up : x.labels ≤ u.labels = r.up in
    let few : u.labels ≤ MOST_LABELS = r.room in
    let counts : w.count + acts_in dia g.body ≡ x.count = g.counts in
    let rest : x.count + acts_in_arms dia r.branches ≡ u.count = r.counts in
    let roles : List (List ℕ) = plain_names 82 p.roles in
    let labels : names_with (names_with (plain_names 108 w.labels) (plain_name 108 a.label.0 ∷ [])) (labels_of dia g.body) ≡ plain_names 108 x.labels
    = ap (λ z. names_with z (labels_of dia g.body)) l.grows ∙ g.labels in
    record {
      branches = more (plain_name 108 a.label.0) (shown_sort a.sort) g.body r.branches;
      are = λ n le small.
          ap (λ z. z ∷ arms_of dia (numbers p n) r.branches bound (w.count + acts_in dia g.body))
          (arm_is p n a (first_of dia g.body bound w.count (number_of_end p.places)) (omega arith) small g.first)
          ∙ ap (λ z. a ∷ arms_of dia (numbers p n) r.branches bound z) counts ∙ ap (λ z. a ∷ z) (r.are n le small);
      parts = λ n le small.
          g.parts n (omega arith) small ∙ ap (λ z. places_in (numbers p n) g.body bound w.count ++ z)
          (r.parts n le small ∙ ap (λ z. places_in_arms (numbers p n) r.branches bound z ++ drop u.count p.places) (sym counts))
          ∙ sym (append_assoc (places_in (numbers p n) g.body bound w.count) (places_in_arms (numbers p n) r.branches bound (w.count + acts_in dia g.body)) (drop u.count p.places));
      counts = omega arith;
      labels = grown_append (labels_of dia g.body) (labels_of_arms dia r.branches) (names_with (plain_names 108 w.labels) (plain_name 108 a.label.0 ∷ []))
          ∙ ap (λ z. names_with z (labels_of_arms dia r.branches)) labels ∙ r.labels;
      ended = r.ended ∙ ap (λ z. z || has_end_arms dia r.branches) g.ended ∙ or_assoc w.ended (has_end dia g.body) (has_end_arms dia r.branches);
      fits = two_true (has_room_for (plain_name 108 a.label.0) (scene roles bound depth w.count (plain_names 108 w.labels)) && body_fits dia g.body
          (scene roles bound depth w.count (names_with (plain_names 108 w.labels) (plain_name 108 a.label.0 ∷ []))))
          (arms_fit dia r.branches (scene roles bound depth (w.count + acts_in dia g.body) (names_with (names_with (plain_names 108 w.labels) (plain_name 108 a.label.0 ∷ [])) (labels_of dia g.body))))
          (two_true (has_room_for (plain_name 108 a.label.0) (scene roles bound depth w.count (plain_names 108 w.labels)))
          (body_fits dia g.body (scene roles bound depth w.count (names_with (plain_names 108 w.labels) (plain_name 108 a.label.0 ∷ []))))
          (l.fits bound roles depth w.count) (subst (λ (z : List (List ℕ)). body_fits dia g.body (scene roles bound depth w.count z) ≡ true) (sym l.grows) g.fits))
          (subst (λ (z : ℕ). arms_fit dia r.branches (scene roles bound depth z (names_with (names_with (plain_names 108 w.labels) (plain_name 108 a.label.0 ∷ [])) (labels_of dia g.body))) ≡ true)
          (sym counts)
          (subst (λ (z : List (List ℕ)). arms_fit dia r.branches (scene roles bound depth x.count z) ≡ true) (sym labels) r.fits));
      words = (plain_label a.label.0 (omega arith), g.words, r.words);
      shut = still_closed p w.count x.count u.count (omega arith) g.shut r.shut;
      shape = refl;
      up = omega arith;
      room = r.room;
      within = r.within;
    }

abbrev Led : BoundNames → ℕ → List Arm → Type 0
Led bound from arms = (place : ℕ) (b : Arm) → slice_get arms place ≡ Some b → b.next < from → nearest_binding (name_of_place b.next) bound ≡ Some b.next

arms_grown : (dia : Dialect) (arms : List Arm) (p : Outline) (bound : BoundNames) (depth : ℕ) (visit : ℕ → HeadsMet → Option HeadsMet) (from : ℕ) (a : Arm) (w u : HeadsMet) → Small dia p
    → Grows dia p bound depth visit → from ≤ w.count → w.count ≤ number_of_end p.places → w.labels ≤ MOST_LABELS → Bounded p bound w.count → Led bound from (a ∷ arms)
    → walk_behind_arms visit (number_of_end p.places) from (a ∷ arms) w ≡ Some u → GrownArms dia p bound depth w u (a ∷ arms)
arms_grown dia [] p bound depth visit from a w u small grows le within room names led h =
    let d = chained (λ v. or_none (walk_behind_arms visit (number_of_end p.places) from []) (walk_behind_next visit (number_of_end p.places) from a.next v)) (walk_behind_label a.label.0 w) u h in
    let l : Labelled a.label.0 w d.0 = is_labelled a.label.0 w d.0 room d.1 in
    let x = chained (walk_behind_arms visit (number_of_end p.places) from []) (walk_behind_next visit (number_of_end p.places) from a.next d.0) u d.2 in
    let same : d.0 ≡ relabel w d.0.labels = relabelled w d.0 l.count l.ended in
    let g : Grown dia p bound depth (relabel w d.0.labels) x.0 a.next
    = met_grown dia p bound depth visit from a.next (relabel w d.0.labels) x.0 small grows le within l.room names (led 0 a refl)
    (subst (λ (z : HeadsMet). walk_behind_next visit (number_of_end p.places) from a.next z ≡ Some x.0) same x.1) in
    subst (λ (z : HeadsMet). GrownArms dia p bound depth w z (a ∷ [])) (some_is x.0 u x.2) (one_grown dia p bound depth a w d.0 x.0 l g)
arms_grown dia (b ∷ bs) p bound depth visit from a w u small grows le within room names led h =
    let d = chained (λ v. or_none (walk_behind_arms visit (number_of_end p.places) from (b ∷ bs)) (walk_behind_next visit (number_of_end p.places) from a.next v))
    (walk_behind_label a.label.0 w) u h in
    let l : Labelled a.label.0 w d.0 = is_labelled a.label.0 w d.0 room d.1 in
    let x = chained (walk_behind_arms visit (number_of_end p.places) from (b ∷ bs)) (walk_behind_next visit (number_of_end p.places) from a.next d.0) u d.2 in
    let same : d.0 ≡ relabel w d.0.labels = relabelled w d.0 l.count l.ended in
    let g : Grown dia p bound depth (relabel w d.0.labels) x.0 a.next
    = met_grown dia p bound depth visit from a.next (relabel w d.0.labels) x.0 small grows le within l.room names (led 0 a refl)
    (subst (λ (z : HeadsMet). walk_behind_next visit (number_of_end p.places) from a.next z ≡ Some x.0) same x.1) in
    let counts : w.count + acts_in dia g.body ≡ x.0.count = g.counts in
    let r : GrownArms dia p bound depth x.0 u (b ∷ bs)
    = arms_grown dia bs p bound depth visit from b x.0 u small grows (omega arith) g.within g.room (still_bounded p bound w.count x.0.count (omega arith) names g.shut)
    (λ place arm e lt. led (suc place) arm e lt) x.2 in
    more_grown dia p bound depth a b bs w d.0 x.0 u l g r

-- ---- heads

opened_names : (c : Bool) (n v : ℕ) (bound : BoundNames) → n < 2 ^ 64 → v < 2 ^ 64 → (v ≢ n → nearest_binding (name_of_place v) bound ≡ Some v) → (v ≡ n → c ≡ true)
    → nearest_binding (name_of_place v) (opened_for c n bound) ≡ Some v
opened_names true n v bound a b f g = elim (true_or_false (bytes_eq (name_of_place n) (name_of_place v))) [
  | inl e ↦ ap (λ z. if z then Some n else nearest_binding (name_of_place v) bound) e ∙ ap Some (place_name_is n v a b ((bytes_eq-Decides (name_of_place n) (name_of_place v)).0 e))
  | inr e ↦ ap (λ z. if z then Some n else nearest_binding (name_of_place v) bound) e ∙ f (λ same. cc ((bytes_eq-Decides (name_of_place n) (name_of_place v)).1 (ap name_of_place (sym same)), e))
]
opened_names false n v bound a b f g = f (λ same. cc (g same))

offered_fits : (dia : Dialect) (b : Branches dia) (s : List ℕ) (r : BehindRole dia) (roles : List (List ℕ)) (bound : BoundNames) (d k : ℕ) (ls : List (List ℕ))
    → head_fits dia s r (scene roles bound d k ls) ≡ true → deeper (two dia b) d ≤ MOST_NESTING → arms_fit dia b (scene roles bound (deeper (two dia b) d) (suc k) ls) ≡ true
    → body_fits dia (offered s r b) (scene roles bound d k ls) ≡ true
offered_fits dia (one l sort b) s r roles bound d k ls known low h =
    let q = both (has_room_for l (scene roles bound d (suc k) ls)) (body_fits dia b (scene roles bound d (suc k) (names_with ls (l ∷ [])))) h in
    two_true (head_fits dia s r (scene roles bound d k ls) && has_room_for l (scene roles bound d k ls)) (body_fits dia b (scene roles bound d (suc k) (names_with ls (l ∷ []))))
    (two_true (head_fits dia s r (scene roles bound d k ls)) (has_room_for l (scene roles bound d k ls)) known q.0) q.1
offered_fits dia (more l sort b arms) s r roles bound d k ls known low h =
    two_true (head_fits dia s r (scene roles bound d k ls) && nat_lt d MOST_NESTING) (arms_fit dia (more l sort b arms) (scene roles bound (suc d) (suc k) ls))
    (two_true (head_fits dia s r (scene roles bound d k ls)) (nat_lt d MOST_NESTING) known (lt-ltb d MOST_NESTING (omega arith))) h

offered_words : (dia : Dialect) (b : Branches dia) (s : List ℕ) (r : BehindRole dia) → is_role_word s ≡ true → IsWordInTurn dia r → AreWordsInArms dia b → AreWordsIn dia (offered s r b)
offered_words dia (one l sort b) s r x y h = (x, y, h.0, h.1)
offered_words dia (more l sort b arms) s r x y h = (x, y, h)

shallower : (c d : Bool) (depth : ℕ) → deeper d (deeper c depth) ≤ MOST_NESTING → c ≡ true → depth < MOST_NESTING
shallower true true depth h e = omega arith
shallower true false depth h e = omega arith
shallower false d depth h e = absurd (cc e)

abbrev role_number : ℕ → Role
role_number n = record { 0 = n }

role_numbered : (p : Outline) (n : ℕ) (s : Role) → p.roles ≤ MOST_ROLES → s.0 < p.roles → role_by_name (numbers p n) (plain_name 82 s.0) ≡ s
role_numbered p n s few lt = ap (λ z. role_number (number_or z)) (plain_place 82 p.roles s.0 lt (omega arith))

-- a head by its names
record Headed (dia : Dialect) (p : Outline) (h : Head) : Type 0 where
  first : List ℕ
  turn : BehindRole dia
  head_is : (n : ℕ) → head_of dia (numbers p n) first turn ≡ h
  fits : (bound : BoundNames) (d k : ℕ) (ls : List (List ℕ)) → k < most dia → head_fits dia first turn (scene (plain_names 82 p.roles) bound d k ls) ≡ true
  word : is_role_word first ≡ true
  turn_word : IsWordInTurn dia turn

role_among : (p : Outline) (s : Role) → s.0 < p.roles → is_among (plain_name 82 s.0) (plain_names 82 p.roles) ≡ true
role_among p s lt = at_among (plain_names 82 p.roles) s.0 (plain_name 82 s.0) (plain_stands 82 p.roles s.0 lt)

headed : (dia : Dialect) (p : Outline) (h : Head) → p.roles ≤ MOST_ROLES → is_known dia p.roles h ≡ true → Headed dia p h
headed Talks p (head.Talk s r) few known =
    let q = both (nat_lt s.0 p.roles) (nat_lt r.0 p.roles) known in
    let sent : s.0 < p.roles = ltb-true s.0 p.roles q.0 in
    let received : r.0 < p.roles = ltb-true r.0 p.roles q.1 in
    record {
      first = plain_name 82 s.0;
      turn = sends_to (plain_name 82 r.0);
      head_is = λ n. ap (λ z. head.Talk z (role_by_name (numbers p n) (plain_name 82 r.0))) (role_numbered p n s few sent) ∙ ap (λ z. head.Talk s z) (role_numbered p n r few received);
      fits = λ bound d k ls lt. two_true (is_among (plain_name 82 s.0) (plain_names 82 p.roles) && nat_lt k (most Talks)) (is_among (plain_name 82 r.0) (plain_names 82 p.roles))
          (two_true (is_among (plain_name 82 s.0) (plain_names 82 p.roles)) (nat_lt k (most Talks)) (role_among p s sent) (lt-ltb k (most Talks) lt)) (role_among p r received);
      word = plain_role s.0 (omega arith);
      turn_word = plain_role r.0 (omega arith);
    }
headed Talks p (head.Act x m) few known = absurd (cc known)
headed Acts p (head.Talk s r) few known = absurd (cc known)
headed Acts p (head.Act x m) few known =
    let there : x.0 < p.roles = ltb-true x.0 p.roles known in
    record {
      first = plain_name 82 x.0;
      turn = with_mark m;
      head_is = λ n. ap (λ z. head.Act z m) (role_numbered p n x few there);
      fits = λ bound d k ls lt. two_true (is_among (plain_name 82 x.0) (plain_names 82 p.roles)) (nat_lt k (most Acts)) (role_among p x there) (lt-ltb k (most Acts) lt);
      word = plain_role x.0 (omega arith);
      turn_word = tt;
    }

head_grown : (dia : Dialect) (p : Outline) (bound : BoundNames) (depth : ℕ) (h : Head) (a : Arm) (arms : List Arm) (w u : HeadsMet) → Small dia p → slice_get p.places w.count
    ≡ Some (choice h (a ∷ arms))
    → is_known dia p.roles h ≡ true → w.count < number_of_end p.places → nesting_within p.places depth w.count (a ∷ arms) ≤ MOST_NESTING
    → leads_from p.places u.count w.count ≡ false → GrownArms dia p (opened_for (leads_from p.places w.count w.count) w.count bound) (nesting_within p.places depth w.count (a ∷ arms))
    (one_head_more w) u
    (a ∷ arms) → Grown dia p bound depth w u w.count
head_grown dia p bound depth h a arms w u small there known lt low free g =
    let n : ℕ = w.count in
    let c : Bool = leads_from p.places n n in
    let inner : BoundNames = opened_for c n bound in
    let few : number_of_end p.places ≤ MOST_TALKS = small.bounded in
    let within : number_of_end p.places ≤ most dia = small.last in
    let x : Headed dia p h = headed dia p h small.roles known in
    let roles : List (List ℕ) = plain_names 82 p.roles in
    let whole : Body dia = offered x.first x.turn g.branches in
    let counts : suc w.count + acts_in_arms dia g.branches ≡ u.count = g.counts in
    let size : acts_in dia (wrapped c n whole) ≡ suc (acts_in_arms dia g.branches) = wrapped_acts c n whole ∙ offered_acts x.first x.turn g.branches in
    record {
      body = wrapped c n whole;
      first = wrapped_first (number_of_end p.places) c n whole bound ∙ offered_first (number_of_end p.places) x.first x.turn g.branches inner n;
      parts = λ k le small'.
          drop_at p.places n (choice h (a ∷ arms)) there ∙ ap (λ z. choice h (a ∷ arms) ∷ z) (g.parts k le small')
          ∙ ap (λ z. z ++ drop u.count p.places) (sym (wrapped_places (numbers p k) c n whole bound ∙ offered_places (numbers p k) x.first x.turn g.branches inner n
          ∙ ap (λ z. z ∷ places_in_arms (numbers p k) g.branches inner (suc n))
          (ap (λ z. choice z (arms_of dia (numbers p k) g.branches inner (suc n))) (x.head_is k) ∙ ap (choice h) (g.are k le small'))));
      counts = omega arith;
      labels = ap (λ z. names_with (plain_names 108 w.labels) z) (wrapped_labels c n whole ∙ offered_labels x.first x.turn g.branches) ∙ g.labels;
      ended = g.ended ∙ ap (λ z. w.ended || z) (sym (wrapped_end c n whole ∙ offered_end x.first x.turn g.branches));
      fits = wrapped_fits c n whole roles bound depth (plain_names 108 w.labels) (shallower c (are_more (a ∷ arms)) depth low)
          (offered_fits dia g.branches x.first x.turn roles inner (deeper c depth) n (plain_names 108 w.labels) (x.fits inner (deeper c depth) n (plain_names 108 w.labels) (omega arith))
          (subst (λ (z : Bool). deeper z (deeper c depth) ≤ MOST_NESTING) (sym g.shape) low)
          (subst (λ (z : Bool). arms_fit dia g.branches (scene roles inner (deeper z (deeper c depth)) (suc n) (plain_names 108 w.labels)) ≡ true) (sym g.shape) g.fits));
      words = one_words c n whole (omega arith) (offered_words dia g.branches x.first x.turn x.word x.turn_word g.words);
      shut = λ v lo hi. elim (eqb_tells v n) [
        | inl e ↦ ap (λ z. leads_from p.places u.count z) e.1 ∙ free
        | inr e ↦ (let ne : v ≢ n = e.1 in g.shut v (omega arith) hi)
      ];
      up = g.up;
      room = g.room;
      within = g.within;
    }

point_grown : (dia : Dialect) (p : Outline) (bound : BoundNames) (depth : ℕ) (visit : ℕ → ℕ → HeadsMet → Option HeadsMet) (w u : HeadsMet) (x : Head) (arms : List Arm) → Small dia p
    → ((outer : BoundNames) (inner : ℕ) → inner ≤ MOST_NESTING → Grows dia p outer inner (visit inner)) → slice_get p.places w.count ≡ Some (choice x arms) → w.count < number_of_end p.places
    → w.labels ≤ MOST_LABELS → Bounded p bound w.count
    → walk_behind_place visit dia p depth w.count w (Some (choice x arms)) ≡ Some u → Grown dia p bound depth w u w.count
point_grown dia p bound depth visit w u x [] small grows there lt room names h = elim (true_or_false (is_fit dia p.roles (nesting_within p.places depth w.count []) (record { head = x; arms = [] }))) [
  | inl e ↦ absurd (cc (both (is_known dia p.roles x && nat_le (nesting_within p.places depth w.count []) MOST_NESTING) false e).1)
  | inr e ↦ absurd (not_some u
      (sym (if_false (is_fit dia p.roles (nesting_within p.places depth w.count []) (record { head = x; arms = [] }))
      (or_none (walk_where_closed p.places w.count) (walk_behind_arms (visit (nesting_within p.places depth w.count [])) (number_of_end p.places) (suc w.count) [] (one_head_more w))) None e) ∙ h))
]
point_grown dia p bound depth visit w u x (a ∷ arms) small grows there lt room names h =
    let n : ℕ = w.count in
    let ours : List Arm = a ∷ arms in
    let inner : ℕ = nesting_within p.places depth n ours in
    let c : Bool = leads_from p.places n n in
    let outer : BoundNames = opened_for c n bound in
    let few : number_of_end p.places ≤ MOST_TALKS = small.bounded in
    elim (true_or_false (is_fit dia p.roles inner (record { head = x; arms = ours }))) [
      | inl e ↦ (
          let q2 = both (is_known dia p.roles x && nat_le inner MOST_NESTING) true e in
          let q1 = both (is_known dia p.roles x) (nat_le inner MOST_NESTING) q2.0 in
          let low : inner ≤ MOST_NESTING = leb-true inner MOST_NESTING q1.1 in
          let h2 = sym (if_true (is_fit dia p.roles inner (record { head = x; arms = ours }))
          (or_none (walk_where_closed p.places n) (walk_behind_arms (visit inner) (number_of_end p.places) (suc n) ours (one_head_more w))) None e) ∙ h in
          let y = chained (walk_where_closed p.places n) (walk_behind_arms (visit inner) (number_of_end p.places) (suc n) ours (one_head_more w)) u h2 in
          let named : (v : ℕ) → v < suc n → leads_from p.places n v ≡ true → nearest_binding (name_of_place v) outer ≡ Some v =
          λ v le lead. opened_names c n v bound (omega arith) (omega arith) (λ ne. names v (omega arith) lead) (λ same. ap (λ z. leads_from p.places n z) (sym same) ∙ lead) in
          let g : GrownArms dia p outer inner (one_head_more w) y.0 ours =
          arms_grown dia arms p outer inner (visit inner) (suc n) a (one_head_more w) y.0 small (grows outer inner low) (omega arith) (omega arith) room
          (λ v le lead. named v le (later_leads p.places (suc n) n v (omega arith) lead)) (λ index b i le. named b.next le (arm_leads p.places n x ours index b there i)) y.1 in
          elim (true_or_false (leads_from p.places y.0.count n)) [
            | inl f ↦ absurd (not_some u (sym (if_true (leads_from p.places y.0.count n) None (Some y.0) f) ∙ y.2))
            | inr f ↦ (
                let same : y.0 ≡ u = some_is y.0 u (sym (if_false (leads_from p.places y.0.count n) None (Some y.0) f) ∙ y.2) in
                subst (λ (z : HeadsMet). Grown dia p bound depth w z n) same (head_grown dia p bound depth x a arms w y.0 small there q1.0 lt low f g))
          ])
      | inr e ↦ absurd (not_some u
          (sym (if_false (is_fit dia p.roles inner (record { head = x; arms = ours }))
          (or_none (walk_where_closed p.places n) (walk_behind_arms (visit inner) (number_of_end p.places) (suc n) ours (one_head_more w))) None e) ∙ h))
    ]

place_grown : (dia : Dialect) (p : Outline) (bound : BoundNames) (depth : ℕ) (visit : ℕ → ℕ → HeadsMet → Option HeadsMet) (w u : HeadsMet) (o : Option Place) → Small dia p
    → ((outer : BoundNames) (inner : ℕ) → inner ≤ MOST_NESTING → Grows dia p outer inner (visit inner)) → slice_get p.places w.count ≡ o → w.count < number_of_end p.places → w.labels ≤ MOST_LABELS
    → Bounded p bound w.count
    → walk_behind_place visit dia p depth w.count w o ≡ Some u → Grown dia p bound depth w u w.count
place_grown dia p bound depth visit w u None small grows there lt room names h = absurd (not_some u h)
place_grown dia p bound depth visit w u (Some place.End) small grows there lt room names h = absurd (not_some u h)
place_grown dia p bound depth visit w u (Some (place.Point x)) small grows there lt room names h = point_grown dia p bound depth visit w u x.head x.arms small grows there lt room names h

pub visited_grown : (dia : Dialect) (fuel : ℕ) (p : Outline) (bound : BoundNames) (depth : ℕ) → Small dia p → Grows dia p bound depth (walk_behind_head fuel dia p depth)
visited_grown dia zero p bound depth small n w u e lt room names h = absurd (not_some u h)
visited_grown dia (suc fuel) p bound depth small n w u e lt room names h =
    subst (λ (z : ℕ). Grown dia p bound depth w u z) (sym e)
    (place_grown dia p bound depth (λ inner next v. walk_behind_head fuel dia p inner next v) w u (slice_get p.places w.count) small
    (λ outer inner low. visited_grown dia fuel p outer inner small) refl (subst (λ (z : ℕ). z < number_of_end p.places) e lt) room names
    (subst (λ (z : ℕ). walk_behind_head (suc fuel) dia p depth z w ≡ Some u) e h))
