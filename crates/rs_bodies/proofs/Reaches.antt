-- The reaches of places tell which places lead back, and what the walk does with them.
use Rattle.std.proofs.Common.{◌≡◌, ℕ, zero, suc, ◌+◌, ◌-◌, ◌<◌, ◌≤◌, List, [], ◌∷◌, length, drop, replicate, set, slice_get, Bool, true, false, ◌==◌, ◌||◌, if◌then◌else◌, nat_lt, Option, Some, None}
use Rattle.std.proofs.Common.{inl, inr, refl, sym, ap, ◌∙◌, subst, arith}
use Rattle.std.proofs.lemmas.Bool.{lt-ltb, le-ltb}
use Rattle.std.proofs.lemmas.Bool.Decides.{eqb_tells, leb_tells}
use Rattle.std.proofs.lemmas.List.{get_or-set_same, get_or-set_other, length-set, length-replicate}
use Rattle.std.specs.List.{list_any}
use Rattle.rs_model.specs.declared.graph.Arm.{Arm}
use Rattle.rs_model.specs.declared.limits.TheConstants.{MOST_TALKS}
use Rattle.rs_bodies.specs.declared.dialects.Dialect.{Dialect}
use Rattle.rs_bodies.specs.declared.places.Place.{Place}
use Rattle.rs_bodies.specs.declared.places.Place.TheVariants as place
use Rattle.rs_bodies.specs.declared.shapes.Trail.{Trail}
use Rattle.rs_bodies.specs.declared.shapes.HeadsMet.{HeadsMet}
use Rattle.rs_bodies.specs.Data.{Point_data}
use Rattle.rs_bodies.specs.Shapes.{leads_to, place_leads, leads_from, number_of_end, walk_behind_next, or_none, walk_behind_arms, walk_where_closed, nesting_within, deeper, are_more, is_fit}
use Rattle.rs_bodies.specs.Shapes.{one_head_more, Outline, walk_behind_place, walk_behind_head, start_of_walk, is_whole, walk_from, reach_of, reaches_behind_arms, reaches_behind_place, there_reached}
use Rattle.rs_bodies.specs.Shapes.{reaches_behind_places, AreReaches, IsTrailOf, outline}

set_reach : (reaches : List ℕ) (i n k : ℕ) → k < length reaches → reach_of (set reaches i n) k ≡ (if i == k then n else reach_of reaches k)
set_reach reaches i n k lt = elim (eqb_tells i k) [
  | inl e ↦ rw (e.0, e.1) (get_or-set_same reaches k n 0 lt)
  | inr e ↦ rw e.0 (get_or-set_other reaches i k n 0 (λ same. e.1 (sym same)))
]

arms_length : (n : ℕ) (arms : List Arm) (reaches : List ℕ) → length (reaches_behind_arms n arms reaches) ≡ length reaches
arms_length n [] reaches = refl
arms_length n (a ∷ arms) reaches = arms_length n arms (set reaches a.next (suc n)) ∙ length-set reaches a.next (suc n)

place_length : (n : ℕ) (x : Place) (reaches : List ℕ) → length (reaches_behind_place n x reaches) ≡ length reaches
place_length n place.End reaches = refl
place_length n (place.Point p) reaches = arms_length n p.arms reaches

pub reached_length : (n : ℕ) (places : List Place) (reaches : List ℕ) → length (reaches_behind_places n places reaches) ≡ length reaches
reached_length n [] reaches = refl
reached_length n (x ∷ places) reaches = reached_length (suc n) places (reaches_behind_place n x reaches) ∙ place_length n x reaches

two_picks : (a b : Bool) (n k : ℕ) → (if b then n else if a then n else k) ≡ (if a || b then n else k)
two_picks true true n k = refl
two_picks true false n k = refl
two_picks false true n k = refl
two_picks false false n k = refl

arms_reach : (n : ℕ) (arms : List Arm) (reaches : List ℕ) (k : ℕ) → k < length reaches
    → reach_of (reaches_behind_arms n arms reaches) k ≡ (if list_any (leads_to k) arms then suc n else reach_of reaches k)
arms_reach n [] reaches k lt = refl
arms_reach n (a ∷ arms) reaches k lt =
    let size : length (set reaches a.next (suc n)) ≡ length reaches = length-set reaches a.next (suc n) in
    arms_reach n arms (set reaches a.next (suc n)) k (omega arith)
    ∙ ap (λ z. if list_any (leads_to k) arms then suc n else z) (set_reach reaches a.next (suc n) k lt)
    ∙ two_picks (a.next == k) (list_any (leads_to k) arms) (suc n) (reach_of reaches k)

place_reach : (n : ℕ) (x : Place) (reaches : List ℕ) (k : ℕ) → k < length reaches → reach_of (reaches_behind_place n x reaches) k ≡ (if place_leads k x then suc n else reach_of reaches k)
place_reach n place.End reaches k lt = refl
place_reach n (place.Point p) reaches k lt = arms_reach n p.arms reaches k lt

drop_none : (n : ℕ) (test : Place → Bool) → list_any test (drop n []) ≡ false
drop_none zero test = refl
drop_none (suc n) test = refl

-- a place that leads to k from before n, or none
early : (c rest : Bool) (from n reach : ℕ) → from ≤ n → (rest || nat_lt from (if c then suc n else reach)) ≡ ((c || rest) || nat_lt from reach)
early true true from n reach le = refl
early true false from n reach le = lt-ltb from (suc n) (omega arith)
early false rest from n reach le = refl

late : (c rest : Bool) (from n reach : ℕ) → n < from → reach ≤ n → (rest || nat_lt from (if c then suc n else reach)) ≡ (rest || nat_lt from reach)
late true rest from n reach lt few = ap (λ z. rest || z) (le-ltb from (suc n) (omega arith) ∙ sym (le-ltb from reach (omega arith)))
late false rest from n reach lt few = refl

picked_few : (c : Bool) (n k : ℕ) → k ≤ n → (if c then suc n else k) ≤ suc n
picked_few true n k le = omega arith
picked_few false n k le = omega arith

all_reach : (n : ℕ) (places : List Place) (reaches : List ℕ) (from k : ℕ) → k < length reaches → reach_of reaches k ≤ n
    → nat_lt from (reach_of (reaches_behind_places n places reaches) k) ≡ (list_any (place_leads k) (drop (from - n) places) || nat_lt from (reach_of reaches k))
all_reach n [] reaches from k lt few = ap (λ z. z || nat_lt from (reach_of reaches k)) (sym (drop_none (from - n) (place_leads k)))
all_reach n (x ∷ places) reaches from k lt few =
    let size : length (reaches_behind_place n x reaches) ≡ length reaches = place_length n x reaches in
    let here : reach_of (reaches_behind_place n x reaches) k ≡ (if place_leads k x then suc n else reach_of reaches k) = place_reach n x reaches k lt in
    let more_few : reach_of (reaches_behind_place n x reaches) k ≤ suc n = subst (λ (z : ℕ). z ≤ suc n) (sym here) (picked_few (place_leads k x) n (reach_of reaches k) few) in
    let later = all_reach (suc n) places (reaches_behind_place n x reaches) from k (omega arith) more_few ∙ ap (λ z. list_any (place_leads k) (drop (from - suc n) places) || nat_lt from z) here in
    elim (leb_tells from n) [
      | inl e ↦ (
          let le : from ≤ n = e.1 in
          let none : from - suc n ≡ 0 = omega arith in
          let zero' : from - n ≡ 0 = omega arith in
          later ∙ ap (λ z. list_any (place_leads k) (drop z places) || nat_lt from (if place_leads k x then suc n else reach_of reaches k)) none
          ∙ early (place_leads k x) (list_any (place_leads k) places) from n (reach_of reaches k) le
          ∙ ap (λ z. list_any (place_leads k) (drop z (x ∷ places)) || nat_lt from (reach_of reaches k)) (sym zero'))
      | inr e ↦ (
          let lt' : n < from = e.1 in
          let one : from - n ≡ suc (from - suc n) = omega arith in
          later ∙ late (place_leads k x) (list_any (place_leads k) (drop (from - suc n) places)) from n (reach_of reaches k) lt' few
          ∙ ap (λ z. list_any (place_leads k) (drop z (x ∷ places)) || nat_lt from (reach_of reaches k)) (sym one))
    ]

none_yet : (count k : ℕ) → reach_of (replicate count 0) k ≡ 0
none_yet zero k = refl
none_yet (suc count) zero = refl
none_yet (suc count) (suc k) = none_yet count k

or_none_yet : (a : Bool) (from reach : ℕ) → reach ≡ 0 → (a || nat_lt from reach) ≡ a
or_none_yet true from reach e = refl
or_none_yet false from reach e = ap (nat_lt from) e ∙ le-ltb from 0 (omega arith)

pub reaches_are : (places : List Place) (count : ℕ) → AreReaches places (reaches_behind_places 0 places (replicate count 0))
reaches_are places count from k lt =
    let within : k < length (replicate count 0) = subst (λ (z : ℕ). k < z) (reached_length 0 places (replicate count 0)) lt in
    let none : reach_of (replicate count 0) k ≡ 0 = none_yet count k in
    let same : from - 0 ≡ from = omega arith in
    sym (all_reach 0 places (replicate count 0) from k within (subst (λ (z : ℕ). z ≤ 0) (sym none) (omega arith))
    ∙ ap (λ z. list_any (place_leads k) (drop z places) || nat_lt from (reach_of (replicate count 0) k)) same ∙ or_none_yet (leads_from places from k) from (reach_of (replicate count 0) k) none)

pub trail_is : (places : List Place) (trail : Trail) → length places ≤ MOST_TALKS + 1 → trail.last ≡ number_of_end places
    → trail.reaches ≡ reaches_behind_places 0 places (replicate (MOST_TALKS + 1) 0) → IsTrailOf places trail
trail_is places trail few last e = record {
  bounded = few;
  last = last;
  room = ap length e ∙ reached_length 0 places (replicate (MOST_TALKS + 1) 0) ∙ length-replicate {A = ℕ} (MOST_TALKS + 1) 0;
  reaches = subst (AreReaches places) (sym e) (reaches_are places (MOST_TALKS + 1));
}

-- ---- the code's steps

pub nested_is : (places : List Place) (trail : Trail) (depth n : ℕ) (arms : List Arm) → IsTrailOf places trail → n < MOST_TALKS + 1
    → deeper (are_more arms) (deeper (nat_lt n (reach_of trail.reaches n)) depth) ≡ nesting_within places depth n arms
nested_is places trail depth n arms t lt = ap (λ z. deeper (are_more arms) (deeper z depth)) (sym (t.reaches n n (subst (λ (z : ℕ). n < z) (sym t.room) lt)))

fit_met : (visit : ℕ → ℕ → HeadsMet → Option HeadsMet) (dia : Dialect) (o : Outline) (depth n : ℕ) (w : HeadsMet) (p : Point_data) → is_fit dia o.roles (nesting_within o.places depth n p.arms) p
    ≡ true
    → walk_behind_place visit dia o depth n w (Some (place.Point p)) ≡ or_none (walk_where_closed o.places n)
    (walk_behind_arms (visit (nesting_within o.places depth n p.arms)) (number_of_end o.places) (suc n) p.arms (one_head_more w))
fit_met visit dia o depth n w p fit =
    ap (λ z. if z then or_none (walk_where_closed o.places n) (walk_behind_arms (visit (nesting_within o.places depth n p.arms)) (number_of_end o.places) (suc n) p.arms (one_head_more w)) else None)
    fit

pub begun_is : (w : HeadsMet) (k : ℕ) → k ≡ suc w.count → record w { count = k } ≡ one_head_more w
begun_is w k e = ap (λ z. record w { count = z }) e

pub point_goes : (places : List Place) (trail : Trail) (fuel depth n inner next : ℕ) (arms : List Arm) (w begun v : HeadsMet) (p : Point_data) (r : Option HeadsMet) → IsTrailOf places trail
    → n < MOST_TALKS + 1 → arms ≡ p.arms → next ≡ suc n → begun ≡ one_head_more w → inner ≡ nesting_within places depth n arms → is_fit trail.dialect trail.roles inner p ≡ true
    → Some v ≡ walk_behind_arms (walk_behind_head fuel trail.dialect (outline places trail) inner) (number_of_end places) next arms begun
    → r ≡ (if nat_lt v.count (reach_of trail.reaches n) then None else Some v)
    → r ≡ walk_behind_place (λ inner next v. walk_behind_head fuel trail.dialect (outline places trail) inner next v) trail.dialect (outline places trail) depth n w (Some (place.Point p))
point_goes places trail fuel depth n inner next arms w begun v p r t lt same one more deep fit goes e =
    let visit : ℕ → ℕ → HeadsMet → Option HeadsMet = λ inner next v. walk_behind_head fuel trail.dialect (outline places trail) inner next v in
    let nesting : inner ≡ nesting_within places depth n p.arms = deep ∙ ap (nesting_within places depth n) same in
    e ∙ ap (λ z. if z then None else Some v) (sym (t.reaches v.count n (subst (λ (z : ℕ). n < z) (sym t.room) lt)))
    ∙ ap (or_none (walk_where_closed places n))
    (goes ∙ ap (λ z. walk_behind_arms (visit inner) (number_of_end places) z arms begun) one ∙ ap (λ z. walk_behind_arms (visit inner) (number_of_end places) (suc n) z begun) same
    ∙ ap (walk_behind_arms (visit inner) (number_of_end places) (suc n) p.arms) more)
    ∙ ap (λ z. or_none (walk_where_closed places n) (walk_behind_arms (visit z) (number_of_end places) (suc n) p.arms (one_head_more w))) nesting
    ∙ sym (fit_met visit trail.dialect (outline places trail) depth n w p (subst (λ (z : ℕ). is_fit trail.dialect trail.roles z p ≡ true) nesting fit))

pub walk_is : (places : List Place) (trail : Trail) (fuel start root labels : ℕ) (b : Bool) (o : Option HeadsMet) → fuel ≡ suc trail.last → trail.last ≡ number_of_end places → start ≡ root
    → b ≡ is_whole places o → o ≡ walk_behind_next (walk_behind_head fuel trail.dialect (outline places trail) 0) (number_of_end places) 0 start (start_of_walk labels)
    → b ≡ is_whole places (walk_from trail.dialect (outline places trail) root labels)
walk_is places trail fuel start root labels b o f last s e m =
    e ∙ ap (is_whole places)
    (m ∙ ap (λ z. walk_behind_next (walk_behind_head z trail.dialect (outline places trail) 0) (number_of_end places) 0 start (start_of_walk labels)) (f ∙ ap suc last)
    ∙ ap (λ z. walk_behind_next (walk_behind_head (suc (number_of_end places)) trail.dialect (outline places trail) 0) (number_of_end places) 0 z (start_of_walk labels)) s)

one_reached : (places : List Place) (i n : ℕ) (reaches : List ℕ) → reaches_behind_places (suc n) (drop (suc i) places)
    (there_reached n (slice_get places i) reaches) ≡ reaches_behind_places n (drop i places) reaches
one_reached [] zero n reaches = refl
one_reached [] (suc i) n reaches = refl
one_reached (x ∷ places) zero n reaches = refl
one_reached (x ∷ places) (suc i) n reaches = one_reached places i n reaches

pub reached_step : (places : List Place) (n next : ℕ) (reaches : List ℕ) → next ≡ suc n
    → reaches_behind_places next (drop next places) (there_reached n (slice_get places n) reaches) ≡ reaches_behind_places n (drop n places) reaches
reached_step places n next reaches e = ap (λ z. reaches_behind_places z (drop z places) (there_reached n (slice_get places n) reaches)) e ∙ one_reached places n n reaches
