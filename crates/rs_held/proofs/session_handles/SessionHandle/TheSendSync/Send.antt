use mir.Raw.{raw}
use base.Shift.{Keyless}
use denote.Memory.{lone}
use denote.RawPtr.{Ptr}
use denote.Struct.Struct.{exits_of}
use denote.Struct.Owning.{shape, fields, to}
use denote.Param.Send.{IsSend, AllSend, owning_send, struct_send, sendable}
use Rattle.std.specs.Prelude.{Option, Some, None}
use Rattle.std.specs.Global.{Global}
use Rattle.std.proofs.Crossing as heap
use Rattle.std_alloc.proofs.SendSync.{quiet, lies}
use Rattle.std_heap.proofs.Global.TheSendSync as handle
use Rattle.rs_handles.specs.Handles.{handle_owns}
use Rattle.rs_held.specs.contracts.session_handles.BegunSession as inner
use Rattle.rs_held.proofs.session_handles.BegunSession.TheSendSync.{the_send as inner_send}
use Rattle.rs_held.specs.contracts.session_handles.SessionHandle.{the_row, the_type}

keyless : (a : Global) (p : Ptr) (v : Option inner.the_row.Denot) → Keyless (handle_owns inner.the_row a p v)
keyless a p None = tt
keyless a p (Some x) = (lies inner.the_row inner_send p x, heap.frees.frees a (raw (lone inner.the_row.mir)) p)

pub send : IsSend the_row
send =
    let all : AllSend (fields the_type) = (search sendable, (handle.the_field_send, tt)) in
    owning_send the_type all (λ d. keyless d.alloc d.at d.value)
    (λ k. quiet (to the_type) (exits_of k (fields the_type)) ((struct_send (shape the_type) all).leaving k))
