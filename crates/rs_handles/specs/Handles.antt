-- Steps: what a handle owns. Assumes nothing: this is a definition.
use Rattle.std.specs.Prelude.{Option, None, Some}
use Rattle.std.specs.Global.{Global}
use base.Fml.{Fml, feq}
use denote.RattleType.{RattleType}
use denote.RawPtr.{Ptr, null_ptr}
use Rattle.std_alloc.specs.Box.Ownership.{box_owns}
use Rattle.std_heap.specs.contracts.GlobalAllocator.TheImpl.{ghosts}

-- a handle behind which nothing is open is null; one behind which a value is open owns it, at its pointer, with the right to free it
abbrev pub handle_owns : (R : RattleType) → Global → Ptr → Option R.Denot → Fml
handle_owns R alloc at None = feq Ptr at null_ptr
handle_owns R alloc at (Some value) = box_owns (ghosts.dealloc_token alloc) R at value
