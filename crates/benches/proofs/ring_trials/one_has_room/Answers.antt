use Rattle.std.proofs.Common.{◌<◌, ◌^◌, ◌∙◌, ap, arith}
use Rattle.rs_model.specs.declared.graph.Role.{Role}
use Rattle.benches.specs.Sessions.{machines_of_stream}
use Rattle.benches.proofs.Plays.{stand_first, stays_at}
use Rattle.benches.proofs.Sends.{stream_puts}
use Rattle.benches.proofs.ring_trials.one_has_room.Goals as goal

pub pair_of-a-requires : goal.pair_of-a-requires
pair_of-a-requires c =
    let stand = stand_first c.as_slice.result.now machines_of_stream c.in_ok-rings.rings c.in_ok-rings.pass (c.as_slice.ensures.value ∙ c.in_ok-machines.ensures) c.in_ok-rings.ensures.stand in
    let a : 0 < 2 = omega arith in
    let b : 1 < 2 = omega arith in
    record { stand = (stand 0 a, stand 1 b) }

pub try_send-first-requires-clause-may : goal.try_send-first-requires-clause-may
try_send-first-requires-clause-may c =
    let machines = c.in_ok-rings.ensures.rings.2 ∙ c.as_slice.ensures.value ∙ c.in_ok-machines.ensures in
    let small : 7 < 2 ^ 63 = omega arith in
    stream_puts c.in_ok-rings.rings.machines c.pair_of-a.result.0.role.0 c.pair_of-a.result.0.state 7 c.natural.result machines c.pair_of-a.ensures.roles.0 c.pair_of-a.ensures.start.0
    c.natural.ensures small

pub try_send-second-requires-clause-may : goal.try_send-second-requires-clause-may
try_send-second-requires-clause-may c =
    let machines = c.in_ok-rings.ensures.rings.2 ∙ c.as_slice.ensures.value ∙ c.in_ok-machines.ensures in
    let small : 8 < 2 ^ 63 = omega arith in
    let role = ap (λ (r : Role). r.0) c.try_send-first.ensures.role.0 ∙ c.pair_of-a.ensures.roles.0 in
    let state = stays_at c.try_send-first.result c.try_send-first.new.player.state c.pair_of-a.result.0.state c.try_send-first.new.player.acts c.pair_of-a.result.0.acts c.natural.result
    c.pair_of-a.ensures.start.0 c.try_send-first.ensures.went c.try_send-first.ensures.full in
    stream_puts c.in_ok-rings.rings.machines c.try_send-first.new.player.role.0 c.try_send-first.new.player.state 8 c.natural-2.result machines role state c.natural-2.ensures small
