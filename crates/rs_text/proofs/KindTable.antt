-- The table of what bytes begin, held against the definition at each of the 256 bytes by computing.
use Rattle.std.proofs.Common.{◌≡◌, ℕ, ◌<◌, map, get_or, refl, ap, ◌∙◌, arith}
use Rattle.std.proofs.lemmas.List.FromFn.{get_or-map-range_with_len}
use Rattle.std.specs.List.{range_with_len}
use Rattle.rs_text.specs.ByteKinds.{kind_of}
use Rattle.rs_text.specs.declared.byte_kinds.ByteKind.{ByteKind}
use Rattle.rs_text.specs.declared.byte_kinds.TheConstants.{KINDS}

table_is : KINDS ≡ map kind_of (range_with_len 0 256)
table_is = refl

pub kind_read : (b : ℕ) (d : ByteKind) → b < 256 → get_or KINDS b d ≡ kind_of b
kind_read b d h = ap (λ t. get_or t b d) table_is ∙ get_or-map-range_with_len kind_of 0 256 b b d h (omega arith)
