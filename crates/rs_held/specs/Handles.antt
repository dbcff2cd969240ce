-- Steps: what the handles own.
use Rattle.std.specs.Prelude.{Option}
use Rattle.std.specs.Global.{Global}
use base.Fml.{Fml}
use denote.RawPtr.{Ptr}
use Rattle.rs_handles.specs.Handles.{handle_owns}
use Rattle.rs_held.specs.contracts.endpoint_handles.HeldEndpoint as endpoint
use Rattle.rs_held.specs.contracts.monitor_handles.HeldMonitor as monitor
use Rattle.rs_held.specs.contracts.session_handles.BegunSession as session
use Rattle.rs_held.specs.contracts.text_handles.KeptText as text

abbrev pub text_owns : Global → Ptr → Option text.the_row.Denot → Fml
text_owns = handle_owns text.the_row

abbrev pub session_owns : Global → Ptr → Option session.the_row.Denot → Fml
session_owns = handle_owns session.the_row

abbrev pub endpoint_owns : Global → Ptr → Option endpoint.the_row.Denot → Fml
endpoint_owns = handle_owns endpoint.the_row

abbrev pub monitor_owns : Global → Ptr → Option monitor.the_row.Denot → Fml
monitor_owns = handle_owns monitor.the_row
