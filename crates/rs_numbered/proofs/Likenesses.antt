-- The sorts of a value are those of what stands for its kind.
use Rattle.std.proofs.Common.{◌≡◌, ℕ, ℤ, List, [], Bool, false, Some, refl}
use Rattle.std.specs.Prelude.{pos}
use Rattle.rs_model.specs.Sorts.{fits}
use Rattle.rs_model.specs.declared.values.Sort.{Sort}
use Rattle.rs_model.specs.declared.values.Sort.TheVariants as sort
use Rattle.rs_model.specs.declared.values.Value.{Value}
use Rattle.rs_model.specs.declared.values.Value.TheVariants as value
use Rattle.rs_numbered.specs.Kinds.{kind_of_value, natural_of, stand_in}

flags : (flag : Bool) (s : Sort) → fits (value.Flag flag) s ≡ fits (value.Flag false) s
flags flag sort.Unit = refl
flags flag sort.Flag = refl
flags flag sort.Natural = refl
flags flag sort.Whole = refl
flags flag sort.Octets = refl
flags flag sort.Numbers = refl

wholes : (whole : ℤ) (s : Sort) → fits (value.Whole whole) s ≡ fits (value.Whole (pos 0)) s
wholes whole sort.Unit = refl
wholes whole sort.Flag = refl
wholes whole sort.Natural = refl
wholes whole sort.Whole = refl
wholes whole sort.Octets = refl
wholes whole sort.Numbers = refl

octets : (bytes : List ℕ) (s : Sort) → fits (value.Octets bytes) s ≡ fits (value.Octets []) s
octets bytes sort.Unit = refl
octets bytes sort.Flag = refl
octets bytes sort.Natural = refl
octets bytes sort.Whole = refl
octets bytes sort.Octets = refl
octets bytes sort.Numbers = refl

numbers : (items : List ℤ) (s : Sort) → fits (value.Numbers items) s ≡ fits (value.Numbers []) s
numbers items sort.Unit = refl
numbers items sort.Flag = refl
numbers items sort.Natural = refl
numbers items sort.Whole = refl
numbers items sort.Octets = refl
numbers items sort.Numbers = refl

pub stands_for : (v : Value) → (other : Value) × (stand_in (kind_of_value v) (natural_of v) ≡ Some other) × ((s : Sort) → fits v s ≡ fits other s)
stands_for value.Unit = (value.Unit, refl, λ s. refl)
stands_for (value.Flag flag) = (value.Flag false, refl, flags flag)
stands_for (value.Natural n) = (value.Natural n, refl, λ s. refl)
stands_for (value.Whole whole) = (value.Whole (pos 0), refl, wholes whole)
stands_for (value.Octets bytes) = (value.Octets [], refl, octets bytes)
stands_for (value.Numbers items) = (value.Numbers [], refl, numbers items)
