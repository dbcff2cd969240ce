use Rattle.std.proofs.Common.{ℕ, List, slice_get, sym, ap, ◌∙◌}
use Rattle.rs_model.specs.Data.{Machine_data}
use Rattle.rs_core.specs.Configurations.{state_of}
use Rattle.rs_rings.specs.Rule.{machines_in_key}
use Rattle.rs_rings.proofs.ByLabel.{arms_read, takes_some}
use Rattle.rs_rings.proofs.StatesRead.{state_read}
use Rattle.rs_rings.proofs.tables.RingTable.take.Goals as goal

pub arms_of-arms-requires : goal.arms_of-arms-requires
arms_of-arms-requires c =
    let ms : List Machine_data = machines_in_key c.args.self.now.board.shared.key in
    let state = state_read c.args.receiver.0 c.args.seat.now.me c.args.rows.now.items c.state-state.result c.requires.may c.state-state.ensures in
    takes_some (state_of (slice_get ms c.args.receiver.0) c.state-state.result) c.args.sender c.requires.can.arms
    (ap (λ (s : ℕ). state_of (slice_get ms c.args.receiver.0) s) state ∙ c.requires.can.takes)

pub take_by-requires-clause-stands : goal.take_by-requires-clause-stands
take_by-requires-clause-stands c =
    let ms : List Machine_data = machines_in_key c.args.self.now.board.shared.key in
    let state = state_read c.args.receiver.0 c.args.seat.now.me c.args.rows.now.items c.state-state.result c.requires.may c.state-state.ensures in
    let here = ap (λ (s : ℕ). state_of (slice_get ms c.args.receiver.0) s) state in
    sym here ∙ arms_read (state_of (slice_get ms c.args.receiver.0) c.state-state.result) c.args.sender c.requires.can.arms c.arms_of-arms.result.now
    (here ∙ c.requires.can.takes) c.arms_of-arms.ensures
