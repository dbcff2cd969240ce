-- The walk goes to its end exactly where some body spells the places.
use Rattle.std.proofs.Common.{◌≡◌, ℕ, zero, suc, ◌+◌, ◌-◌, ◌≤◌, ◌↔◌, List, [], ◌∷◌, ◌++◌, length, map, drop, Bool, true, false, not, ◌==◌, ◌||◌, if◌then◌else◌, nat_le, Option, Some, None, inl, inr}
use Rattle.std.proofs.Common.{refl, sym, ap, ◌∙◌, arith, slice_get, append-nil, length-append}
use Rattle.std.proofs.lemmas.List.{drop_all}
use Rattle.std.proofs.lemmas.Bool.{eq-eqb, eqb-true, le-leb, leb-true}
use Rattle.std.specs.Bool.{IsTrue}
use Rattle.std.specs.List.{list_any}
use Rattle.rs_model.specs.Data.{Names_data}
use Rattle.rs_model.specs.declared.limits.TheConstants.{MOST_ROLES, MOST_LABELS, MOST_TALKS}
use Rattle.rs_text.proofs.Gaps.{true_or_false}
use Rattle.rs_text.proofs.Naming.{decides_sound}
use Rattle.rs_text.proofs.PlainNames.{plain_names, plain_count, plain_differ, plain_all, plain_role, plain_label}
use Rattle.rs_text.proofs.Basics.{some_is, both, seam}
use Rattle.rs_text.specs.Names.{names_with}
use Rattle.rs_text.specs.Sound.{IsSound}
use Rattle.rs_bodies.proofs.Few.{most_small}
use Rattle.rs_text.specs.Words.{is_word, is_role_word}
use Rattle.rs_bodies.specs.declared.dialects.Dialect.{Dialect}
use Rattle.rs_bodies.specs.declared.places.Place.{Place}
use Rattle.rs_bodies.specs.declared.places.Place.TheVariants as place
use Rattle.rs_bodies.specs.declared.shapes.HeadsMet.{HeadsMet}
use Rattle.rs_bodies.specs.Bodied.{numbering_behind, SpellsPlaces, HasBody}
use Rattle.rs_bodies.specs.Data.{Point_data}
use Rattle.rs_bodies.specs.Dialects.{most}
use Rattle.rs_bodies.specs.Fits.{body_fits}
use Rattle.rs_bodies.specs.Graph.{labels_of, acts_in, has_end, Numbering, first_of}
use Rattle.rs_bodies.specs.Places.{end_of}
use Rattle.rs_bodies.specs.Points.{points_of}
use Rattle.rs_bodies.specs.Scenes.{first_scene}
use Rattle.rs_bodies.specs.Shapes.{place_leads, leads_from, is_end_at, ends_last, number_of_end, walk_behind_next, Outline, walk_behind_head, same_bool, is_whole, start_of_walk, walk_from, is_walked}
use Rattle.rs_bodies.specs.Trees.{Body}
use Rattle.rs_bodies.proofs.Fitting.{fits_named, Recs, fits_heads, Named}
use Rattle.rs_bodies.proofs.PlacesIn.{places_in, places_are, places_length}
use Rattle.rs_bodies.proofs.ShapeGoes.{top, top_base, goes}
use Rattle.rs_bodies.proofs.ShapeGrown.{Small, Grown, numbers, met_grown, visited_grown}
use Rattle.rs_bodies.proofs.Recs.{body_recs}

-- ---- the end of a graph

no_end : (points : List Point_data) (i : ℕ) → is_end_at (slice_get (map place.Point points) i) ≡ false
no_end [] i = refl
no_end (p ∷ points) zero = refl
no_end (p ∷ points) (suc i) = no_end points i

ends_as : (points : List Point_data) (c : Bool) → ends_last (map place.Point points ++ end_of c) ≡ c
ends_as points true =
    let xs : List Place = map place.Point points in
    let size : length (xs ++ place.End ∷ []) ≡ length xs + 1 = length-append xs (place.End ∷ []) in
    let last : length (xs ++ place.End ∷ []) - 1 ≡ length xs = omega arith in
    ap (λ z. is_end_at (slice_get (xs ++ place.End ∷ []) z)) last ∙ ap is_end_at (seam Place xs place.End [])
ends_as points false = ap ends_last (append-nil (map place.Point points)) ∙ no_end points (length (map place.Point points) - 1)

last_if : (c : Bool) (n k : ℕ) → (c ≡ true → n - 1 ≡ k) → (c ≡ false → n ≡ k) → (if c then n - 1 else n) ≡ k
last_if true n k f g = f refl
last_if false n k f g = g refl

one_end : (c : Bool) → c ≡ true → length (end_of c) ≡ 1
one_end true e = refl
one_end false e = absurd (cc e)

without_end : (c : Bool) → c ≡ false → length (end_of c) ≡ 0
without_end true e = absurd (cc e)
without_end false e = refl

last_as : (points : List Point_data) (c : Bool) → number_of_end (map place.Point points ++ end_of c) ≡ length (map place.Point points)
last_as points c =
    let xs : List Place = map place.Point points in
    let all : length (xs ++ end_of c) ≡ length xs + length (end_of c) = length-append xs (end_of c) in
    let test : ends_last (xs ++ end_of c) ≡ c = ends_as points c in
    last_if (ends_last (xs ++ end_of c)) (length (xs ++ end_of c)) (length xs)
    (λ e. let one : length (end_of c) ≡ 1 = one_end c (sym test ∙ e) in omega arith)
    (λ e. let none : length (end_of c) ≡ 0 = without_end c (sym test ∙ e) in omega arith)

-- ---- what a body spells is walked to its end

same_true : (a b : Bool) → a ≡ b → same_bool a b ≡ true
same_true true b e = sym e
same_true false b e = ap not (sym e)

true_same : (a b : Bool) → same_bool a b ≡ true → a ≡ b
true_same true b e = sym e
true_same false true e = absurd (cc e)
true_same false false e = refl

whole_by : (places : List Place) (count labels : ℕ) (ended : Bool) → count ≡ number_of_end places → ended ≡ ends_last places
    → is_whole places (Some (record { count = count; labels = labels; ended = ended })) ≡ true
whole_by places count labels ended e f = rw (eq-eqb count (number_of_end places) e) (same_true ended (ends_last places) f)

walked_by : (dia : Dialect) (p : Outline) (start labels : ℕ) (o : Option HeadsMet) → number_of_end p.places ≤ most dia → walk_from dia p start labels ≡ o → is_whole p.places o ≡ true
    → is_walked dia p start labels ≡ true
walked_by dia p start labels o few e w = rw (le-leb (number_of_end p.places) (most dia) few) (ap (is_whole p.places) e ∙ w)

end_leads : (c : Bool) (v : ℕ) → list_any (place_leads v) (end_of c) ≡ false
end_leads true v = refl
end_leads false v = refl

abbrev outlined : ℕ → List Place → Outline
outlined roles places = record { roles = roles; places = places }

body_walked : (dia : Dialect) (old : Names_data) (b : Body dia) (roles labels : ℕ) (places : List Place) → body_fits dia b (first_scene old.roles old.labels) ≡ true → length old.roles ≤ roles
    → length old.labels ≤ labels → length old.labels ≤ MOST_LABELS
    → places ≡ map place.Point (points_of dia (numbering_behind dia old b) b [] 0) ++ end_of (has_end dia b) → is_walked dia (outlined roles places) (first_of dia b [] 0 (acts_in dia b)) labels ≡ true
body_walked dia old b roles labels places fits few_roles few_labels room e =
    let m : Numbering = numbering_behind dia old b in
    let p : Outline = outlined roles places in
    let c : Bool = has_end dia b in
    let points : List Point_data = points_of dia m b [] 0 in
    let same : map place.Point points ≡ places_in m b [] 0 = places_are m b [] 0 in
    let all : places ≡ places_in m b [] 0 ++ end_of c = e ∙ ap (λ z. z ++ end_of c) same in
    let size : length (map place.Point points) ≡ acts_in dia b = ap length same ∙ places_length m b [] 0 in
    let last : number_of_end places ≡ acts_in dia b = ap number_of_end e ∙ last_as points c ∙ size in
    let few : 0 + acts_in dia b ≤ most dia = fits_heads dia b (first_scene old.roles old.labels) fits (omega arith) in
    let named : Named dia b [] 0 = fits_named dia b (first_scene old.roles old.labels) fits in
    let recs : Recs dia (λ v. leads_from places v v) b false 0 = body_recs dia m places b c all refl named in
    let start : ℕ = first_of dia b [] 0 (acts_in dia b) in
    let run : walk_behind_next (walk_behind_head (suc (number_of_end places)) dia p 0) (acts_in dia b) 0 start (record { count = 0; labels = top labels (length old.labels); ended = false }) ≡ Some
    (record { count = 0 + acts_in dia b; labels = top labels (length (names_with old.labels (labels_of dia b))); ended = false || c }) =
    goes dia m p (record { roles = few_roles; last = last }) labels b (suc (number_of_end places)) [] false 0 0 0 0 false old.labels [] [] (end_of c) all refl (omega arith) (omega arith) (omega arith)
    (omega arith) (omega arith) (λ h. absurd (cc h)) fits room recs
    named (λ x n h. absurd (cc h)) (λ x n h lt. lt) refl (λ v lo hi. end_leads c v) in
    walked_by dia p start labels (Some (record { count = 0 + acts_in dia b; labels = top labels (length (names_with old.labels (labels_of dia b))); ended = false || c })) (omega arith)
    (ap (λ z. walk_behind_next (walk_behind_head (suc (number_of_end places)) dia p 0) z 0 start (start_of_walk labels)) last
    ∙ ap (λ z. walk_behind_next (walk_behind_head (suc (number_of_end places)) dia p 0) (acts_in dia b) 0 start (start_of_walk z)) (sym (top_base labels (length old.labels) few_labels)) ∙ run)
    (whole_by places (0 + acts_in dia b) (top labels (length (names_with old.labels (labels_of dia b)))) (false || c) (omega arith) (sym (ap ends_last e ∙ ends_as points c)))

-- ---- what is walked to its end has a body

ends_at : (o : Option Place) → is_end_at o ≡ true → o ≡ Some place.End
ends_at None h = absurd (cc h)
ends_at (Some place.End) h = refl
ends_at (Some (place.Point p)) h = absurd (cc h)

drop_end : (places : List Place) → slice_get places (length places - 1) ≡ Some place.End → drop (length places - 1) places ≡ place.End ∷ []
drop_end [] e = absurd (cc e)
drop_end (x ∷ []) e = ap (λ z. z ∷ []) (some_is x place.End e)
drop_end (x ∷ y ∷ places) e =
    let one : length (x ∷ y ∷ places) - 1 ≡ suc (length (y ∷ places) - 1) = omega arith in
    ap (λ z. drop z (x ∷ y ∷ places)) one ∙ drop_end (y ∷ places) (ap (λ z. slice_get (x ∷ y ∷ places) z) (sym one) ∙ e)

drop_last : (places : List Place) → drop (number_of_end places) places ≡ end_of (ends_last places)
drop_last places = elim (true_or_false (ends_last places)) [
  | inl e ↦ ap (λ z. drop (if z then length places - 1 else length places) places) e ∙ drop_end places (ends_at (slice_get places (length places - 1)) e) ∙ ap end_of (sym e)
  | inr e ↦ ap (λ z. drop (if z then length places - 1 else length places) places) e ∙ drop_all (length places) places (omega arith) ∙ ap end_of (sym e)
]

record Walked (dia : Dialect) (p : Outline) (start labels : ℕ) : Type 0 where
  small : number_of_end p.places ≤ most dia
  end : HeadsMet
  run : walk_from dia p start labels ≡ Some end
  count : end.count ≡ number_of_end p.places
  ended : end.ended ≡ ends_last p.places

some_end : (places : List Place) (o : Option HeadsMet) → is_whole places o ≡ true → (u : HeadsMet) × (o ≡ Some u) × (u.count ≡ number_of_end places) × (u.ended ≡ ends_last places)
some_end places None h = absurd (cc h)
some_end places (Some u) h =
    let q = both (u.count == number_of_end places) (same_bool u.ended (ends_last places)) h in
    (u, refl, eqb-true u.count (number_of_end places) q.0, true_same u.ended (ends_last places) q.1)

walk_ends : (dia : Dialect) (p : Outline) (start labels : ℕ) → is_walked dia p start labels ≡ true → Walked dia p start labels
walk_ends dia p start labels h =
    let q = both (nat_le (number_of_end p.places) (most dia)) (is_whole p.places (walk_from dia p start labels)) h in
    let e = some_end p.places (walk_from dia p start labels) q.1 in
    record { small = leb-true (number_of_end p.places) (most dia) q.0; end = e.0; run = e.1; count = e.2; ended = e.3 }

abbrev numbering_by : List (List ℕ) → List (List ℕ) → ℕ → Numbering
numbering_by roles labels last = record { names = record { roles = roles; labels = labels }; last = last }

abbrev names_by : ℕ → ℕ → Names_data
names_by roles labels = record { roles = plain_names 82 roles; labels = plain_names 108 labels }

names_sound : (roles labels : ℕ) → roles ≤ MOST_ROLES → labels ≤ MOST_LABELS → IsSound (names_by roles labels)
names_sound roles labels few room =
    (decides_sound (names_by roles labels)).0
    (rw (
      plain_differ 82 roles (omega arith),
      plain_differ 108 labels (omega arith),
      plain_all is_role_word 82 roles (λ i lt. plain_role i (omega arith)),
      plain_all is_word 108 labels
          (λ i lt. plain_label i (omega arith)),
    ) refl)

walked_body : (dia : Dialect) (p : Outline) (start labels : ℕ) → p.roles ≤ MOST_ROLES → labels ≤ MOST_LABELS → Walked dia p start labels → HasBody dia p.roles labels p.places start
walked_body dia p start labels few room w =
    let low : most dia ≤ MOST_TALKS = most_small dia in
    let under : number_of_end p.places ≤ most dia = w.small in
    let small : Small dia p = record { roles = few; last = under; bounded = omega arith } in
    let g : Grown dia p [] 0 (start_of_walk labels) w.end start
    = met_grown dia p [] 0 (walk_behind_head (suc (number_of_end p.places)) dia p 0) 0 start (start_of_walk labels) w.end small (visited_grown dia (suc (number_of_end p.places)) p [] 0 small)
    (omega arith) (omega arith) room (λ v lt e. absurd (omega arith)) (λ lt. absurd (omega arith)) w.run in
    let old : Names_data = names_by p.roles labels in
    let count : w.end.count ≡ number_of_end p.places = w.count in
    let counts : 0 + acts_in dia g.body ≡ w.end.count = g.counts in
    let heads_are : acts_in dia g.body ≡ number_of_end p.places = omega arith in
    let same : numbering_behind dia old g.body ≡ numbers p w.end.labels
    = ap (λ z. numbering_by old.roles z (acts_in dia g.body)) g.labels ∙ ap (λ z. numbering_by old.roles (plain_names 108 w.end.labels) z) heads_are in
    let end : has_end dia g.body ≡ ends_last p.places = sym g.ended ∙ w.ended in
    record {
      old = old;
      sound = names_sound p.roles labels few room;
      roles_are = plain_count 82 p.roles;
      labels_are = plain_count 108 labels;
      body = g.body;
      words = g.words;
      spells = record {
        fits = g.fits;
        places_are = g.parts w.end.labels (omega arith) g.room
            ∙ ap (λ z. places_in (numbers p w.end.labels) g.body [] 0 ++ z) (ap (λ z. drop z p.places) count ∙ drop_last p.places ∙ ap end_of (sym end))
            ∙ ap (λ z. places_in z g.body [] 0 ++ end_of (has_end dia g.body)) (sym same)
            ∙ ap (λ z. z ++ end_of (has_end dia g.body)) (sym (places_are (numbering_behind dia old g.body) g.body [] 0));
        start_is = sym g.first ∙ ap (λ z. first_of dia g.body [] 0 z) (sym heads_are);
      };
    }

pub walked_has_body : (dia : Dialect) (roles start labels : ℕ) (places : List Place) → roles ≤ MOST_ROLES → labels ≤ MOST_LABELS → is_walked dia (outlined roles places) start labels ≡ true
    → HasBody dia roles labels places start
walked_has_body dia roles start labels places few room h = walked_body dia (outlined roles places) start labels few room (walk_ends dia (outlined roles places) start labels h)

-- what a body spells with no more names is walked
pub spelt_is_walked : (dia : Dialect) (old : Names_data) (b : Body dia) (roles start labels : ℕ) (places : List Place) → length old.roles ≤ roles → length old.labels ≤ labels → labels ≤ MOST_LABELS
    → SpellsPlaces dia old b places start → is_walked dia (outlined roles places) start labels ≡ true
spelt_is_walked dia old b roles start labels places few_roles few_labels room s =
    ap (λ z. is_walked dia (outlined roles places) z labels) s.start_is ∙ body_walked dia old b roles labels places s.fits few_roles few_labels (omega arith) s.places_are

pub walked_exactly : (dia : Dialect) (roles start labels : ℕ) (places : List Place) → roles ≤ MOST_ROLES → labels ≤ MOST_LABELS
    → IsTrue (is_walked dia (outlined roles places) start labels) ↔ HasBody dia roles labels places start
walked_exactly dia roles start labels places few room = (
  walked_has_body dia roles start labels places few room,
  λ b.
      let r : length b.old.roles ≡ roles = b.roles_are in
      let l : length b.old.labels ≡ labels = b.labels_are in
      spelt_is_walked dia b.old b.body roles start labels places (omega arith) (omega arith) room b.spells,
)

-- what a body spells, a body of words spells, with any greater number of names before it
pub spelt_has_body : (dia : Dialect) (old : Names_data) (b : Body dia) (roles start labels : ℕ) (places : List Place) → length old.roles ≤ roles → length old.labels ≤ labels → roles ≤ MOST_ROLES
    → labels ≤ MOST_LABELS → SpellsPlaces dia old b places start → HasBody dia roles labels places start
spelt_has_body dia old b roles start labels places few_roles few_labels few room s =
    walked_has_body dia roles start labels places few room (spelt_is_walked dia old b roles start labels places few_roles few_labels room s)
