-- Each sort has its empty value.
use Rattle.std.proofs.Common.{refl}
use Rattle.rs_model.specs.Sorts.{HasSort}
use Rattle.rs_model.specs.Values.{empty_value}
use Rattle.rs_model.specs.declared.values.Sort.{Sort}
use Rattle.rs_model.specs.declared.values.Sort.TheVariants as sort

pub empty_fits : (s : Sort) → HasSort (empty_value s) s
empty_fits sort.Unit = refl
empty_fits sort.Flag = refl
empty_fits sort.Natural = refl
empty_fits sort.Whole = refl
empty_fits sort.Octets = refl
empty_fits sort.Numbers = refl
