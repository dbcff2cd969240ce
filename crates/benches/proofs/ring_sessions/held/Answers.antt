use Rattle.std.proofs.Common.{◌≡◌, ◌<◌, ◌∙◌, arith}
use Rattle.benches.specs.Sessions.{machines_of_relay}
use Rattle.benches.proofs.Plays.{stand_first}
use Rattle.benches.proofs.ring_sessions.held.Goals as goal

pub player_of-c-requires : goal.player_of-c-requires
player_of-c-requires g c =
    let stand = stand_first c.as_slice.result.now machines_of_relay c.in_ok-rings.rings c.in_ok-rings.pass (c.as_slice.ensures.value ∙ c.in_ok-machines.ensures) c.in_ok-rings.ensures.stand in
    let there : 2 < 3 = omega arith in
    record { stands = c.player_of-b.ensures.others 2 0 0 (λ (e : 2 ≡ 1). omega arith) (stand 2 there) }

pub hear-told-requires-clause-at : goal.hear-told-requires-clause-at
hear-told-requires-clause-at g c =
    let stand = stand_first c.as_slice.result.now machines_of_relay c.in_ok-rings.rings c.in_ok-rings.pass (c.as_slice.ensures.value ∙ c.in_ok-machines.ensures) c.in_ok-rings.ensures.stand in
    let there : 0 < 3 = omega arith in
    c.player_of-c.ensures.others 0 0 0 (λ (e : 0 ≡ 2). omega arith) (c.player_of-b.ensures.others 0 0 0 (λ (e : 0 ≡ 1). omega arith) (stand 0 there))
