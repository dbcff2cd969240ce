-- In a graph that a part spells each head has known roles and some arms, and leads to its places.
use Rattle.std.proofs.Common.{◌≡◌, ℕ, zero, suc, ◌+◌, ◌<◌, List, [], ◌∷◌, ◌++◌, length, map, Bool, true, false, Some, slice_get, refl, sym, ap, ◌∙◌, subst, length-append}
use Rattle.std.proofs.lemmas.List.{length-map}
use Rattle.rs_bodies.specs.declared.dialects.Dialect.{Dialect}
use Rattle.rs_bodies.specs.declared.places.Place.{Place}
use Rattle.rs_bodies.specs.declared.places.Place.TheVariants as place
use Rattle.rs_bodies.specs.Canonical.{IsSpelt}
use Rattle.rs_bodies.specs.Data.{Point_data, Spelling_data}
use Rattle.rs_bodies.specs.Leads.{LeadsInside, PointLeads, ends_in, places_in}
use Rattle.rs_bodies.specs.Places.{end_of, places_spelt}
use Rattle.rs_bodies.proofs.Leading.{leads_inside}

ends_are : (ended : Bool) → length (end_of ended) ≡ ends_in ended
ends_are true = refl
ends_are false = refl

count : (s : Spelling_data) → length (places_spelt s) ≡ places_in s
count s = length-append (map place.Point s.points) (end_of s.ended) ∙ ap (λ z. z + length (end_of s.ended)) (length-map s.points place.Point) ∙ ap (λ z. length s.points + z) (ends_are s.ended)

same_point : (x p : Point_data) → Some (place.Point x) ≡ Some (place.Point p) → Some x ≡ Some p
same_point x p e = cc e

no_point : (p : Point_data) → Some place.End ≡ Some (place.Point p) → ⊥
no_point p e = cc e

point_there : (points : List Point_data) (ended : Bool) (n : ℕ) (p : Point_data) → slice_get (map place.Point points ++ end_of ended) n ≡ Some (place.Point p) → slice_get points n ≡ Some p
point_there [] true zero p e = absurd (no_point p e)
point_there [] true (suc n) p e = absurd (cc e)
point_there [] false n p e = absurd (cc e)
point_there (x ∷ points) ended zero p e = same_point x p e
point_there (x ∷ points) ended (suc n) p e = point_there points ended n p e

-- the graph begins at one of its places, and so do its heads lead to them
pub record PlacesLead (roles : ℕ) (places : List Place) (root : ℕ) : Type 0 where
  pub start : root < length places
  pub heads : (n : ℕ) (p : Point_data) → slice_get places n ≡ Some (place.Point p) → PointLeads roles (length places) p

pub spelt_leads : (dia : Dialect) (places : List Place) (root : ℕ) (s : IsSpelt dia places root) → PlacesLead (length s.new.roles) places root
spelt_leads dia places root s =
    let inside : LeadsInside (length s.new.roles) s.spelling = leads_inside dia s.bytes s.at s.old s.new s.spelling s.until s.spells in
    let size : places_in s.spelling ≡ length places = sym (ap length s.places_are ∙ count s.spelling) in
    record {
      start = subst (λ (z : ℕ). z < length places) (sym s.root_is) (subst (λ (z : ℕ). s.spelling.start < z) size inside.start);
      heads = λ n p e. subst (λ (z : ℕ). PointLeads (length s.new.roles) z p) size
          (inside.points n p (point_there s.spelling.points s.spelling.ended n p (ap (λ z. slice_get z n) (sym s.places_are) ∙ e)));
    }
