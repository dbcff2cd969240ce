-- The walk over the places that a body spells goes to its end.
use Rattle.std.proofs.Common.{◌≡◌, ℕ, zero, suc, ◌+◌, ◌<◌, ◌≤◌, List, [], ◌∷◌, ◌++◌, length, drop, Bool, true, false, ◌==◌, ◌&&◌, ◌||◌, if◌then◌else◌, nat_lt, Option, Some, None, inl, inr, refl, sym}
use Rattle.std.proofs.Common.{ap, ◌∙◌, subst, arith, slice_get, append_assoc, length-append}
use Rattle.std.proofs.lemmas.Bool.{ltb-true, lt-ltb, eq-eqb, le-ltb, le-leb}
use Rattle.std.proofs.lemmas.Bool.Decides.{leb_tells}
use Rattle.std.proofs.lemmas.List.Folds.{list_any-append}
use Rattle.std.proofs.lemmas.Option.{slice_get_within}
use Rattle.std.proofs.Math.Seq.{drop-append_seam}
use Rattle.std.specs.List.{list_any}
use Rattle.rs_model.specs.declared.graph.Arm.{Arm}
use Rattle.rs_model.specs.declared.limits.TheConstants.{MOST_LABELS, MOST_NESTING}
use Rattle.rs_text.proofs.Naming.{grown_append, grown_stays, not_among, among, place_of_new, place_stands, none_or_some}
use Rattle.rs_text.specs.Names.{BoundNames, nearest_binding, number_or, names_with, is_among, place_of}
use Rattle.rs_text.proofs.Basics.{both, two_true, or_true, or_false, or_assoc, false_or, and_false}
use Rattle.rs_bodies.specs.declared.dialects.Dialect.{Dialect}
use Rattle.rs_bodies.specs.declared.dialects.Dialect.TheVariants.{Talks, Acts}
use Rattle.rs_bodies.specs.declared.dialects.Head.{Head}
use Rattle.rs_bodies.specs.declared.places.Place.{Place}
use Rattle.rs_bodies.specs.declared.shapes.HeadsMet.{HeadsMet}
use Rattle.rs_bodies.specs.Dialects.{BehindRole, sends_to, with_mark}
use Rattle.rs_bodies.specs.Fits.{has_room_for, head_fits, body_fits, arms_fit}
use Rattle.rs_bodies.specs.Graph.{labels_of, labels_of_arms, acts_in, acts_in_arms, has_end, has_end_arms, Numbering, first_of, arm_spelt, arms_of}
use Rattle.rs_bodies.specs.Places.{choice}
use Rattle.rs_bodies.specs.Points.{head_of}
use Rattle.rs_bodies.specs.Scenes.{Scene}
use Rattle.rs_bodies.specs.Shapes.{place_leads, leads_from, number_of_end, walk_behind_label, walk_behind_next, or_none, walk_behind_arms, walk_where_closed, deeper, are_more, is_none}
use Rattle.rs_bodies.specs.Shapes.{nesting_within, is_known, is_fit, one_head_more, Outline, walk_behind_place, walk_behind_head}
use Rattle.rs_bodies.specs.Trees.{Body, ends, again, binds, acts, offers, Branches, one, more}
use Rattle.rs_bodies.proofs.Fitting.{Named, NamedArms, Recs, RecsArms, few_labels, fits_labels}
use Rattle.rs_bodies.proofs.NamesLead.{Low, low_rec, low_up, Ins, ins_rec}
use Rattle.rs_bodies.proofs.PlacesIn.{point_at, places_in, places_in_arms, places_length, arms_length, one_longer, at_seam}
use Rattle.rs_bodies.proofs.ShapeForms.{low_unbound, name_from, arm_places_else}
use Rattle.rs_bodies.proofs.Wrapped.{scene}

abbrev walk : ℕ → ℕ → Bool → HeadsMet
walk count labels ended = record { count = count; labels = labels; ended = ended }

walk_is : (a b c d : ℕ) (e f : Bool) → a ≡ b → c ≡ d → e ≡ f → Some (walk a c e) ≡ Some (walk b d f)
walk_is a b c d e f g h i = ap (λ z. Some (walk z c e)) g ∙ ap (λ z. Some (walk b z e)) h ∙ ap (λ z. Some (walk b d z)) i

-- ---- the labels that are known: so many before the body, or those that were met

abbrev pub top : (base n : ℕ) → ℕ
top base n = if nat_lt n base then base else n

top_low : (base n : ℕ) → n < base → top base n ≡ base
top_low base n lt = rw (lt-ltb n base lt) refl

top_high : (base n : ℕ) → base ≤ n → top base n ≡ n
top_high base n le = rw (le-ltb n base le) refl

top_up : (base n : ℕ) → n < base → top base (suc n) ≡ base
top_up base n lt = elim (leb_tells base (suc n)) [
  | inl e ↦ (let le : base ≤ suc n = e.1 in let same : suc n ≡ base = omega arith in top_high base (suc n) le ∙ same)
  | inr e ↦ top_low base (suc n) e.1
]

top_more : (base n : ℕ) → n ≤ top base n
top_more base n = elim (leb_tells base n) [
  | inl e ↦ subst (λ (z : ℕ). n ≤ z) (sym (top_high base n e.1)) (omega arith)
  | inr e ↦ (let lt : n < base = e.1 in subst (λ (z : ℕ). n ≤ z) (sym (top_low base n lt)) (omega arith))
]

pub top_base : (base n : ℕ) → n ≤ base → top base n ≡ base
top_base base n le = elim (leb_tells base n) [
  | inl e ↦ (let same : n ≡ base = (let h : base ≤ n = e.1 in omega arith) in top_high base n e.1 ∙ same)
  | inr e ↦ top_low base n e.1
]

-- ---- steps of the walk

met_back : (visit : ℕ → HeadsMet → Option HeadsMet) (last from next : ℕ) (w : HeadsMet) → next < from → walk_behind_next visit last from next w ≡ Some w
met_back visit last from next w lt = rw (lt-ltb next from lt) refl

met_new : (visit : ℕ → HeadsMet → Option HeadsMet) (last from k : ℕ) (labels : ℕ) (ended : Bool) → from ≤ k → k < last
    → walk_behind_next visit last from k (walk k labels ended) ≡ visit k (walk k labels ended)
met_new visit last from k labels ended le lt = rw (le-ltb k from le, eq-eqb k k refl, lt-ltb k last lt) refl

met_end : (visit : ℕ → HeadsMet → Option HeadsMet) (last from : ℕ) (count labels : ℕ) (ended : Bool) → from ≤ last
    → walk_behind_next visit last from last (walk count labels ended) ≡ Some (walk count labels true)
met_end visit last from count labels ended le = rw (le-ltb last from le, le-ltb last last (omega arith), and_false (last == count), eq-eqb last last refl) refl

fit_is : (dia : Dialect) (roles nesting : ℕ) (h : Head) (arms : List Arm) → is_known dia roles h ≡ true → nesting ≤ MOST_NESTING → is_none arms ≡ false
    → is_fit dia roles nesting (record { head = h; arms = arms }) ≡ true
fit_is dia roles nesting h arms a c d = rw (a, le-leb nesting MOST_NESTING c, d) refl

visit_goes : (dia : Dialect) (p : Outline) (f inner k : ℕ) (h : Head) (arms : List Arm) (w u : HeadsMet) → slice_get p.places k ≡ Some (choice h arms)
    → is_fit dia p.roles (nesting_within p.places inner k arms) (record { head = h; arms = arms }) ≡ true
    → walk_behind_arms (walk_behind_head f dia p (nesting_within p.places inner k arms)) (number_of_end p.places) (suc k) arms (one_head_more w) ≡ Some u → leads_from p.places u.count k ≡ false
    → walk_behind_head (suc f) dia p inner k w ≡ Some u
visit_goes dia p f inner k h arms w u there fit goes free =
    ap (walk_behind_place (λ inner next v. walk_behind_head f dia p inner next v) dia p inner k w) there
    ∙ ap (λ z. if z then or_none (walk_where_closed p.places k)
    (walk_behind_arms (walk_behind_head f dia p (nesting_within p.places inner k arms)) (number_of_end p.places) (suc k) arms (one_head_more w)) else None) fit
    ∙ ap (or_none (walk_where_closed p.places k)) goes ∙ ap (λ z. if z then None else Some u) free

one_goes : (visit : ℕ → HeadsMet → Option HeadsMet) (last from : ℕ) (a : Arm) (arms : List Arm) (w v u : HeadsMet) → walk_behind_label a.label.0 w ≡ Some v
    → walk_behind_next visit last from a.next v ≡ Some u
    → walk_behind_arms visit last from (a ∷ arms) w ≡ walk_behind_arms visit last from arms u
one_goes visit last from a arms w v u l h =
    ap (or_none (λ v. or_none (walk_behind_arms visit last from arms) (walk_behind_next visit last from a.next v))) l ∙ ap (or_none (walk_behind_arms visit last from arms)) h

old_label : (i n count : ℕ) (ended : Bool) → i < n → walk_behind_label i (walk count n ended) ≡ Some (walk count n ended)
old_label i n count ended lt = rw (lt-ltb i n lt) refl

new_label : (n count : ℕ) (ended : Bool) → n < MOST_LABELS → walk_behind_label n (walk count n ended) ≡ Some (walk count (suc n) ended)
new_label n count ended lt = rw (le-ltb n n (omega arith), eq-eqb n n refl, lt-ltb n MOST_LABELS lt) refl

-- a label that is new in the text
next_label : (base n count : ℕ) (ended : Bool) → n < MOST_LABELS → walk_behind_label n (walk count (top base n) ended) ≡ Some (walk count (top base (suc n)) ended)
next_label base n count ended few = elim (leb_tells base n) [
  | inl e ↦ (
      let le : base ≤ n = e.1 in
      ap (λ z. walk_behind_label n (walk count z ended)) (top_high base n le) ∙ new_label n count ended few ∙ ap (λ z. Some (walk count z ended)) (sym (top_high base (suc n) (omega arith))))
  | inr e ↦ (
      let lt : n < base = e.1 in
      ap (λ z. walk_behind_label n (walk count z ended)) (top_low base n lt) ∙ old_label n base count ended lt ∙ ap (λ z. Some (walk count z ended)) (sym (top_up base n lt)))
]

label_goes : (base : ℕ) (final ls rest : List (List ℕ)) (l : List ℕ) (count : ℕ) (ended : Bool) → final ≡ names_with (names_with ls (l ∷ [])) rest → length (names_with ls (l ∷ [])) ≤ MOST_LABELS
    → walk_behind_label (number_or (place_of l final)) (walk count (top base (length ls)) ended) ≡ Some (walk count (top base (length (names_with ls (l ∷ [])))) ended)
label_goes base final ls rest l count ended e few = elim (none_or_some (place_of l ls)) [
  | inl none ↦ (
      let new : is_among l ls ≡ false = not_among ls l 0 none in
      let more : names_with ls (l ∷ []) ≡ ls ++ l ∷ [] = ap (λ z. if z then ls else ls ++ l ∷ []) new in
      let size : length (names_with ls (l ∷ [])) ≡ suc (length ls) = ap length more ∙ length-append ls (l ∷ []) ∙ omega arith in
      let place : place_of l final ≡ Some (length ls) = ap (place_of l) e ∙ grown_stays rest (names_with ls (l ∷ [])) l (length ls) (ap (place_of l) more ∙ place_of_new ls l none) in
      ap (λ z. walk_behind_label (number_or z) (walk count (top base (length ls)) ended)) place ∙ next_label base (length ls) count ended (omega arith)
      ∙ ap (λ z. Some (walk count (top base z) ended)) (sym size))
  | inr some ↦ (
      let old : is_among l ls ≡ true = among ls l 0 some.0 some.1 in
      let same : names_with ls (l ∷ []) ≡ ls = ap (λ z. if z then ls else ls ++ l ∷ []) old in
      let place : place_of l final ≡ Some some.0 = ap (place_of l) e ∙ grown_stays rest (names_with ls (l ∷ [])) l some.0 (grown_stays (l ∷ []) ls l some.0 some.1) in
      let within : some.0 < length ls = slice_get_within ls some.0 l (place_stands ls l some.0 some.1).present in
      let up : length ls ≤ top base (length ls) = top_more base (length ls) in
      ap (λ z. walk_behind_label (number_or z) (walk count (top base (length ls)) ended)) place ∙ old_label some.0 (top base (length ls)) count ended (omega arith)
      ∙ ap (λ z. Some (walk count (top base (length z)) ended)) (sym same))
]

pub deeper_within : (c here : Bool) (inner d : ℕ) → (c ≡ true → here ≡ true) → inner ≤ d → (here ≡ true → inner < d) → deeper c inner ≤ d
deeper_within true here inner d f le lt = let h = lt (f refl) in omega arith
deeper_within false here inner d f le lt = le

braces_within : (c : Bool) (inner d : ℕ) → inner ≤ d → deeper c inner ≤ suc d
braces_within true inner d le = omega arith
braces_within false inner d le = omega arith

some_arms : (dia : Dialect) (m : Numbering) (arms : Branches dia) (bound : BoundNames) (k : ℕ) → is_none (arms_of dia m arms bound k) ≡ false
some_arms dia m (one l sort b) bound k = refl
some_arms dia m (more l sort b arms) bound k = refl

drop_post : (places pre xs post : List Place) (n : ℕ) → places ≡ pre ++ (xs ++ post) → n ≡ length pre + length xs → drop n places ≡ post
drop_post places pre xs post n e h =
    let size : n ≡ length (pre ++ xs) = h ∙ sym (length-append pre xs) in
    ap (drop n) (e ∙ sym (append_assoc pre xs post)) ∙ ap (λ z. drop z ((pre ++ xs) ++ post)) size ∙ drop-append_seam (pre ++ xs) post

-- ---- the walk

number_below : (name : List ℕ) (names : List (List ℕ)) → is_among name names ≡ true → number_or (place_of name names) < length names
number_below name names h = elim (none_or_some (place_of name names)) [
  | inl none ↦ absurd (cc (not_among names name 0 none, h))
  | inr some ↦ (let lt : some.0 < length names = slice_get_within names some.0 name (place_stands names name some.0 some.1).present in subst (λ (z : Option ℕ). number_or z < length names)
      (sym some.1) lt)
]

-- there are roles enough, and the end is numbered so
pub record IsOutlineBy (m : Numbering) (p : Outline) : Type 0 where
  pub roles : length m.names.roles ≤ p.roles
  pub last : number_of_end p.places ≡ m.last

role_fits : (m : Numbering) (p : Outline) (name : List ℕ) → IsOutlineBy m p → is_among name m.names.roles ≡ true → nat_lt (number_or (place_of name m.names.roles)) p.roles ≡ true
role_fits m p name g h =
    let a : number_or (place_of name m.names.roles) < length m.names.roles = number_below name m.names.roles h in
    let b : length m.names.roles ≤ p.roles = g.roles in
    lt-ltb (number_or (place_of name m.names.roles)) p.roles (omega arith)

head_known : (dia : Dialect) (m : Numbering) (p : Outline) (x : List ℕ) (t : BehindRole dia) (s : Scene) → IsOutlineBy m p → s.roles ≡ m.names.roles → head_fits dia x t s ≡ true
    → is_known dia p.roles (head_of dia m x t) ≡ true
head_known Talks m p x (sends_to y) s g same h =
    let q = both _ _ h in
    let r = both _ _ q.0 in
    two_true _ _ (role_fits m p x g (ap (λ z. is_among x z) (sym same) ∙ r.0)) (role_fits m p y g (ap (λ z. is_among y z) (sym same) ∙ q.1))
head_known Acts m p x (with_mark y) s g same h = role_fits m p x g (ap (λ z. is_among x z) (sym same) ∙ (both _ _ h).0)

-- the head k with the arms that are met from there
head_goes : (dia : Dialect) (m : Numbering) (p : Outline) (g : IsOutlineBy m p) (s : List ℕ) (r : BehindRole dia) (arms : List Arm) (xs : List Place) (from k inner fuel count labels labels' : ℕ)
    (ended ended' : Bool) (pre post : List Place)
    → p.places ≡ pre ++ ((point_at dia m s r arms ∷ xs) ++ post) → length pre ≡ k → from ≤ k → k < m.last → is_known dia p.roles (head_of dia m s r) ≡ true
    → nesting_within p.places inner k arms ≤ MOST_NESTING → is_none arms ≡ false → count ≡ suc k + length xs
    → walk_behind_arms (walk_behind_head fuel dia p (nesting_within p.places inner k arms)) m.last (suc k) arms (walk (suc k) labels ended) ≡ Some (walk count labels' ended')
    → list_any (place_leads k) post ≡ false
    → walk_behind_next (walk_behind_head (suc fuel) dia p inner) m.last from k (walk k labels ended) ≡ Some (walk count labels' ended')
head_goes dia m p g s r arms xs from k inner fuel count labels labels' ended ended' pre post e h le lt known shallow some size goes free =
    let there : slice_get p.places k ≡ Some (point_at dia m s r arms) = at_seam p.places pre (point_at dia m s r arms) (xs ++ post) k e h in
    met_new (walk_behind_head (suc fuel) dia p inner) m.last from k labels ended le lt
    ∙ visit_goes dia p fuel inner k (head_of dia m s r) arms (walk k labels ended) (walk count labels' ended') there
    (fit_is dia p.roles (nesting_within p.places inner k arms) (head_of dia m s r) arms known shallow some)
    (ap (λ z. walk_behind_arms (walk_behind_head fuel dia p (nesting_within p.places inner k arms)) z (suc k) arms (walk (suc k) labels ended)) g.last ∙ goes)
    (ap (list_any (place_leads k)) (drop_post p.places pre (point_at dia m s r arms ∷ xs) post count e (size ∙ (let z : length pre ≡ k = h in omega arith))) ∙ free)

mutual
  pub goes : (dia : Dialect) (m : Numbering) (p : Outline) (g : IsOutlineBy m p) (base : ℕ) (b : Body dia) (fuel : ℕ) (bound : BoundNames) (here : Bool) (from k d inner : ℕ) (ended : Bool)
      (ls rest : List (List ℕ)) (pre post : List Place)
      → p.places ≡ pre ++ (places_in m b bound k ++ post) → length pre ≡ k → from ≤ k → k + acts_in dia b ≤ m.last → acts_in dia b < fuel → d ≤ MOST_NESTING → inner ≤ d → (here ≡ true → inner < d)
      → body_fits dia b (scene m.names.roles bound d k ls) ≡ true → length ls ≤ MOST_LABELS
      → Recs dia (λ v. leads_from p.places v v) b here k → Named dia b bound k → Low bound k → Ins bound from k → m.names.labels ≡ names_with (names_with ls (labels_of dia b)) rest
      → ((v : ℕ) → k ≤ v → v < k + acts_in dia b → list_any (place_leads v) post ≡ false)
      → walk_behind_next (walk_behind_head fuel dia p inner) m.last from (first_of dia b bound k m.last) (walk k (top base (length ls)) ended) ≡ Some
      (walk (k + acts_in dia b) (top base (length (names_with ls (labels_of dia b)))) (ended || has_end dia b))
  goes dia m p g base ends fuel bound here from k d inner ended ls rest pre post e h le few fl du di dh fits room recs named low ins labels free =
      met_end (walk_behind_head fuel dia p inner) m.last from k (top base (length ls)) ended (omega arith)
      ∙ walk_is k (k + 0) (top base (length ls)) (top base (length ls)) true (ended || true) (omega arith) refl (or_true ended)
  goes dia m p g base (again x) fuel bound here from k d inner ended ls rest pre post e h le few fl du di dh fits room recs named low ins labels free =
      met_back (walk_behind_head fuel dia p inner) m.last from (number_or (nearest_binding x bound)) (walk k (top base (length ls)) ended)
      (name_from x bound from k (nearest_binding x bound) refl named ins) ∙ walk_is k (k + 0) (top base (length ls)) (top base (length ls)) ended (ended || false) (omega arith) refl (or_false ended)
  goes dia m p g base (binds x b) fuel bound here from k d inner ended ls rest pre post e h le few fl du di dh fits room recs named low ins labels free =
      let q = both (nat_lt d MOST_NESTING) (body_fits dia b (scene m.names.roles ((x, k) ∷ bound) (suc d) k ls)) fits in
      let below : d < MOST_NESTING = ltb-true d MOST_NESTING q.0 in
      goes dia m p g base b fuel ((x, k) ∷ bound) true from k (suc d) inner ended ls rest pre post e h le few fl (omega arith) (omega arith) (λ _. omega arith) q.1 room recs named
      (low_rec bound k x low) (ins_rec bound from k x ins) labels free
  goes dia m p g base (acts s r l sort b) zero bound here from k d inner ended ls rest pre post e h le few fl du di dh fits room recs named low ins labels free = absurd (omega arith)
  goes dia m p g base (acts s r l sort b) (suc f) bound here from k d inner ended ls rest pre post e h le few fl du di dh fits room recs named low ins labels free =
      let a : Arm = arm_spelt m l sort (first_of dia b bound (suc k) m.last) in
      let q = both (head_fits dia s r (scene m.names.roles bound d k ls) && has_room_for l (scene m.names.roles bound d k ls))
      (body_fits dia b (scene m.names.roles bound d (suc k) (names_with ls (l ∷ [])))) fits in
      let q2 = both (head_fits dia s r (scene m.names.roles bound d k ls)) (has_room_for l (scene m.names.roles bound d k ls)) q.0 in
      let more_room : length (names_with ls (l ∷ [])) ≤ MOST_LABELS = few_labels ls l room q2.1 in
      let depth : deeper (leads_from p.places k k) inner ≤ d = deeper_within (leads_from p.places k k) here inner d recs.0 di dh in
      let inner' : ℕ = deeper (leads_from p.places k k) inner in
      let all : List (List ℕ) = names_with ls (l ∷ []) in
      let x : Place = point_at dia m s r (a ∷ []) in
      let size : length (places_in m b bound (suc k)) ≡ acts_in dia b = places_length m b bound (suc k) in
      let here_goes : walk_behind_next (walk_behind_head f dia p inner') m.last (suc k) a.next (walk (suc k) (top base (length all)) ended) ≡ Some
      (walk (suc k + acts_in dia b) (top base (length (names_with all (labels_of dia b)))) (ended || has_end dia b)) =
      goes dia m p g base b f bound false (suc k) (suc k) d inner' ended all rest (pre ++ x ∷ []) post (e ∙ sym (append_assoc pre (x ∷ []) (places_in m b bound (suc k) ++ post)))
      (one_longer pre x k h) (omega arith) (omega arith) (omega arith) du depth (λ z. absurd (cc z)) q.1 more_room recs.1 named (low_up bound k (suc k) (omega arith) low) (λ x v i j. j) labels
      (λ v lo hi. free v (omega arith) (omega arith)) in
      head_goes dia m p g s r (a ∷ []) (places_in m b bound (suc k)) from k inner f (suc k + acts_in dia b) (top base (length ls)) (top base (length (names_with all (labels_of dia b)))) ended
      (ended || has_end dia b) pre post e h le (omega arith) (head_known dia m p s r (scene m.names.roles bound d k ls) g refl q2.0) (omega arith) refl (omega arith)
      (one_goes (walk_behind_head f dia p inner') m.last (suc k) a [] (walk (suc k) (top base (length ls)) ended) (walk (suc k) (top base (length all)) ended)
      (walk (suc k + acts_in dia b) (top base (length (names_with all (labels_of dia b)))) (ended || has_end dia b))
      (label_goes base m.names.labels ls (labels_of dia b ++ rest) l (suc k) ended (labels ∙ sym (grown_append (labels_of dia b) rest all)) more_room) here_goes)
      (free k (omega arith) (omega arith))
      ∙ walk_is (suc k + acts_in dia b) (k + suc (acts_in dia b)) (top base (length (names_with all (labels_of dia b)))) (top base (length (names_with all (labels_of dia b)))) (ended || has_end dia b)
      (ended || has_end dia b) (omega arith) refl refl
  goes dia m p g base (offers s r arms) zero bound here from k d inner ended ls rest pre post e h le few fl du di dh fits room recs named low ins labels free = absurd (omega arith)
  goes dia m p g base (offers s r arms) (suc f) bound here from k d inner ended ls rest pre post e h le few fl du di dh fits room recs named low ins labels free =
      let ours : List Arm = arms_of dia m arms bound (suc k) in
      let q = both (head_fits dia s r (scene m.names.roles bound d k ls) && nat_lt d MOST_NESTING) (arms_fit dia arms (scene m.names.roles bound (suc d) (suc k) ls)) fits in
      let q2 = both (head_fits dia s r (scene m.names.roles bound d k ls)) (nat_lt d MOST_NESTING) q.0 in
      let below : d < MOST_NESTING = ltb-true d MOST_NESTING q2.1 in
      let depth : deeper (leads_from p.places k k) inner ≤ d = deeper_within (leads_from p.places k k) here inner d recs.0 di dh in
      let inner' : ℕ = nesting_within p.places inner k ours in
      let deep : inner' ≤ suc d = braces_within (are_more ours) (deeper (leads_from p.places k k) inner) d depth in
      let x : Place = point_at dia m s r ours in
      let size : length (places_in_arms m arms bound (suc k)) ≡ acts_in_arms dia arms = arms_length m arms bound (suc k) in
      let here_goes : walk_behind_arms (walk_behind_head f dia p inner') m.last (suc k) ours (walk (suc k) (top base (length ls)) ended) ≡ Some
      (walk (suc k + acts_in_arms dia arms) (top base (length (names_with ls (labels_of_arms dia arms)))) (ended || has_end_arms dia arms)) =
      arms_go dia m p g base arms f bound k (suc k) (suc d) inner' ended ls rest (pre ++ x ∷ []) post (e ∙ sym (append_assoc pre (x ∷ []) (places_in_arms m arms bound (suc k) ++ post)))
      (one_longer pre x k h) (omega arith) (omega arith) (omega arith) (omega arith) deep q.1 room recs.1 named low labels
      (λ v lo hi. free v (omega arith) (omega arith)) in
      head_goes dia m p g s r ours (places_in_arms m arms bound (suc k)) from k inner f (suc k + acts_in_arms dia arms) (top base (length ls))
      (top base (length (names_with ls (labels_of_arms dia arms)))) ended (ended || has_end_arms dia arms) pre post e h le (omega arith)
      (head_known dia m p s r (scene m.names.roles bound d k ls) g refl q2.0) (omega arith) (some_arms dia m arms bound (suc k)) (omega arith) here_goes
      (free k (omega arith) (omega arith))
      ∙ walk_is (suc k + acts_in_arms dia arms) (k + suc (acts_in_arms dia arms)) (top base (length (names_with ls (labels_of_arms dia arms))))
      (top base (length (names_with ls (labels_of_arms dia arms)))) (ended || has_end_arms dia arms) (ended || has_end_arms dia arms) (omega arith) refl refl

  arms_go : (dia : Dialect) (m : Numbering) (p : Outline) (g : IsOutlineBy m p) (base : ℕ) (arms : Branches dia) (fuel : ℕ) (bound : BoundNames) (n k d inner : ℕ) (ended : Bool)
      (ls rest : List (List ℕ))
      (pre post : List Place)
      → p.places ≡ pre ++ (places_in_arms m arms bound k ++ post) → length pre ≡ k → n < k → k + acts_in_arms dia arms ≤ m.last → acts_in_arms dia arms < fuel → d ≤ MOST_NESTING → inner ≤ d
      → arms_fit dia arms (scene m.names.roles bound d k ls) ≡ true → length ls ≤ MOST_LABELS
      → RecsArms dia (λ v. leads_from p.places v v) arms k → NamedArms dia arms bound k → Low bound n → m.names.labels ≡ names_with (names_with ls (labels_of_arms dia arms)) rest
      → ((v : ℕ) → k ≤ v → v < k + acts_in_arms dia arms → list_any (place_leads v) post ≡ false)
      → walk_behind_arms (walk_behind_head fuel dia p inner) m.last (suc n) (arms_of dia m arms bound k) (walk k (top base (length ls)) ended) ≡ Some
      (walk (k + acts_in_arms dia arms) (top base (length (names_with ls (labels_of_arms dia arms)))) (ended || has_end_arms dia arms))
  arms_go dia m p g base (one l sort b) fuel bound n k d inner ended ls rest pre post e h lt few fl du di fits room recs named low labels free =
      let a : Arm = arm_spelt m l sort (first_of dia b bound k m.last) in
      let q = both (has_room_for l (scene m.names.roles bound d k ls)) (body_fits dia b (scene m.names.roles bound d k (names_with ls (l ∷ [])))) fits in
      let all : List (List ℕ) = names_with ls (l ∷ []) in
      let more_room : length all ≤ MOST_LABELS = few_labels ls l room q.0 in
      one_goes (walk_behind_head fuel dia p inner) m.last (suc n) a [] (walk k (top base (length ls)) ended) (walk k (top base (length all)) ended)
      (walk (k + acts_in dia b) (top base (length (names_with all (labels_of dia b)))) (ended || has_end dia b))
      (label_goes base m.names.labels ls (labels_of dia b ++ rest) l k ended (labels ∙ sym (grown_append (labels_of dia b) rest all)) more_room)
      (goes dia m p g base b fuel bound false (suc n) k d inner ended all rest pre post e h (omega arith) few fl du di (λ z. absurd (cc z)) q.1 more_room recs named
      (low_up bound n k (omega arith) low) (λ x v i j. let c : v < n + 1 = low x v i in omega arith) labels free)
  arms_go dia m p g base (more l sort b arms) fuel bound n k d inner ended ls rest pre post e h lt few fl du di fits room recs named low labels free =
      let a : Arm = arm_spelt m l sort (first_of dia b bound k m.last) in
      let j : ℕ = k + acts_in dia b in
      let q0 = both (has_room_for l (scene m.names.roles bound d k ls) && body_fits dia b (scene m.names.roles bound d k (names_with ls (l ∷ []))))
      (arms_fit dia arms (scene m.names.roles bound d j (names_with (names_with ls (l ∷ [])) (labels_of dia b)))) fits in
      let q = both (has_room_for l (scene m.names.roles bound d k ls)) (body_fits dia b (scene m.names.roles bound d k (names_with ls (l ∷ [])))) q0.0 in
      let all : List (List ℕ) = names_with ls (l ∷ []) in
      let more_room : length all ≤ MOST_LABELS = few_labels ls l room q.0 in
      let later : List (List ℕ) = names_with all (labels_of dia b) in
      let later_room : length later ≤ MOST_LABELS = fits_labels dia b (scene m.names.roles bound d k all) q.1 more_room in
      let parts : m.names.labels ≡ names_with (names_with later (labels_of_arms dia arms)) rest = labels ∙ ap (λ z. names_with z rest) (grown_append (labels_of dia b) (labels_of_arms dia arms) all) in
      let first : m.names.labels ≡ names_with later (labels_of_arms dia arms ++ rest) = parts ∙ sym (grown_append (labels_of_arms dia arms) rest later) in
      one_goes (walk_behind_head fuel dia p inner) m.last (suc n) a (arms_of dia m arms bound j) (walk k (top base (length ls)) ended) (walk k (top base (length all)) ended)
      (walk j (top base (length later)) (ended || has_end dia b))
      (label_goes base m.names.labels ls (labels_of dia b ++ (labels_of_arms dia arms ++ rest)) l k ended
      (first ∙ sym (grown_append (labels_of dia b) (labels_of_arms dia arms ++ rest) all)) more_room)
      (goes dia m p g base b fuel bound false (suc n) k d inner ended all (labels_of_arms dia arms ++ rest) pre (places_in_arms m arms bound j ++ post)
      (e ∙ ap (λ z. pre ++ z) (append_assoc (places_in m b bound k) (places_in_arms m arms bound j) post)) h (omega arith) (omega arith) (omega arith) du di
      (λ z. absurd (cc z)) q.1 more_room recs.0 named.0 (low_up bound n k (omega arith) low) (λ x v i c. let z : v < n + 1 = low x v i in omega arith) first
      (λ v lo hi. list_any-append (place_leads v) (places_in_arms m arms bound j) post
      ∙ false_or (list_any (place_leads v) (places_in_arms m arms bound j)) (list_any (place_leads v) post)
      (arm_places_else dia m arms bound j v named.1 (low_unbound bound n v low (omega arith)) hi (omega arith)) (free v lo (omega arith))))
      ∙ arms_go dia m p g base arms fuel bound n j d inner (ended || has_end dia b) later rest (pre ++ places_in m b bound k) post
      (e ∙ ap (λ z. pre ++ z) (append_assoc (places_in m b bound k) (places_in_arms m arms bound j) post) ∙ sym (append_assoc pre (places_in m b bound k) (places_in_arms m arms bound j ++ post)))
      (length-append pre (places_in m b bound k) ∙ ap (λ z. z + length (places_in m b bound k)) h ∙ ap (λ z. k + z) (places_length m b bound k)) (omega arith) (omega arith)
      (omega arith) du di q0.1 later_room recs.1 named.1 low parts (λ v lo hi. free v (omega arith) (omega arith))
      ∙ walk_is (j + acts_in_arms dia arms) (k + (acts_in dia b + acts_in_arms dia arms)) (top base (length (names_with later (labels_of_arms dia arms))))
      (top base (length (names_with all (labels_of dia b ++ labels_of_arms dia arms)))) ((ended || has_end dia b) || has_end_arms dia arms) (ended || (has_end dia b || has_end_arms dia arms))
      (omega arith) (ap (λ z. top base (length z)) (sym (grown_append (labels_of dia b) (labels_of_arms dia arms) all))) (or_assoc ended (has_end dia b) (has_end_arms dia arms))
