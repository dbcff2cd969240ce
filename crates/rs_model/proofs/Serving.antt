-- Which sorts serve: by the test, and by the values that they have.
use Rattle.std.proofs.Common.{◌≡◌, inl, inr, true, refl, sym, subst}
use Rattle.rs_model.proofs.EmptyValues.{empty_fits}
use Rattle.rs_model.specs.Serving.{Serves, serves}
use Rattle.rs_model.specs.Sorts.{HasSort}
use Rattle.rs_model.specs.Values.{empty_value}
use Rattle.rs_model.specs.declared.values.Sort.{Sort}
use Rattle.rs_model.specs.declared.values.Sort.TheVariants as sort
use Rattle.rs_model.specs.declared.values.Value.{Value}
use Rattle.rs_model.specs.declared.values.Value.TheVariants as value

-- what passes the test serves
pub serves_by_test : (a b : Sort) → serves a b ≡ true → Serves a b
serves_by_test sort.Unit sort.Unit h = inl refl
serves_by_test sort.Flag sort.Flag h = inl refl
serves_by_test sort.Natural sort.Natural h = inl refl
serves_by_test sort.Natural sort.Whole h = inr (refl, refl)
serves_by_test sort.Whole sort.Whole h = inl refl
serves_by_test sort.Octets sort.Octets h = inl refl
serves_by_test sort.Numbers sort.Numbers h = inl refl
serves_by_test a b h = absurd (cc (h))

itself : (a : Sort) → serves a a ≡ true
itself sort.Unit = refl
itself sort.Flag = refl
itself sort.Natural = refl
itself sort.Whole = refl
itself sort.Octets = refl
itself sort.Numbers = refl

-- what serves passes the test
pub test_by_serves : (a b : Sort) → Serves a b → serves a b ≡ true
test_by_serves a b (inl e) = subst (λ (z : Sort). serves a z ≡ true) e (itself a)
test_by_serves a b (inr e) = rw (e.0, e.1) refl

natural_is_whole : (v : Value) → HasSort v sort.Natural → HasSort v sort.Whole
natural_is_whole (value.Natural n) h = h
natural_is_whole v h = absurd (cc (h))

-- a value of a sort that serves is one of the other sort
pub has_served_sort : (v : Value) (a b : Sort) → HasSort v a → Serves a b → HasSort v b
has_served_sort v a b h (inl e) = subst (λ (z : Sort). HasSort v z) e h
has_served_sort v a b h (inr e) = subst (λ (z : Sort). HasSort v z) (sym e.1) (natural_is_whole v (subst (λ (z : Sort). HasSort v z) e.0 h))

by_empty : (a b : Sort) → HasSort (empty_value a) b → Serves a b
by_empty sort.Unit sort.Unit h = inl refl
by_empty sort.Flag sort.Flag h = inl refl
by_empty sort.Natural sort.Natural h = inl refl
by_empty sort.Natural sort.Whole h = inr (refl, refl)
by_empty sort.Whole sort.Whole h = inl refl
by_empty sort.Octets sort.Octets h = inl refl
by_empty sort.Numbers sort.Numbers h = inl refl
by_empty a b h = absurd (cc (h))

-- a sort all of whose values are of the other sort serves
pub serves_by_values : (a b : Sort) → ((v : Value) → HasSort v a → HasSort v b) → Serves a b
serves_by_values a b h = by_empty a b (h (empty_value a) (empty_fits a))
