use Rattle.std.proofs.Common.{rules, ◌+◌, ◌≡◌, ◌<◌, ◌^◌, ◌∙◌, List, None, length, ap, subst, sym, ℕ}
use Rattle.rs_core.specs.Configurations.{role_of}
use Rattle.rs_core.specs.Core.{configuration_of}
use Rattle.rs_room.specs.Counts.{counts_behind}
use Rattle.rs_room.specs.Looks.{full_ring, pair_of_receive}
use Rattle.rs_room.specs.Rings.{Bounded_data, CountsStep, HasSteppedWithin, IsRingSession}
use Rattle.rs_room.proofs.Stepping.{counts, is_bounded, stays_session}
use Rattle.rs_room.proofs.rings.Bounded.step.Goals as goal

pub invariant_of-self : goal.invariant_of-self
invariant_of-self c =
    let b : Bounded_data = record { core = c.self.inside.core; capacity = c.self.inside.capacity; room = c.self.inside.room; steps = c.self.inside.steps; taken = c.self.inside.taken } in
    let table : c.count.new.self ≡ counts_behind b.taken (pair_of_receive b c.args.event) =
    c.count.ensures ∙ ap (counts_behind b.taken) (c.taking-taking.ensures ∙ ap (λ (z : Bounded_data). pair_of_receive z c.args.event) (sym c.self.view_is)) in
    let R : Bounded_data → Type 0 = λ z. role_of c.args.event < length z.core.machines in
    let F : Bounded_data → Type 0 = λ z. z.steps < 2 ^ 63 in
    let N : Bounded_data → Type 0 = λ z. full_ring z c.args.event ≡ None in
    let T : List (List ℕ) → Type 0 = λ t. IsRingSession record { core = c.step.new.self; capacity = b.capacity; room = b.room; steps = b.steps + 1; taken = t } in
    let bounded = is_bounded b c.args.event (configuration_of c.step.new.self) c.in-Ok.stepped (subst N (sym c.self.view_is) (search rules)) c.in-Ok.ensures.step in (
      subst T (sym table) (stays_session b c.args.event c.step.new.self c.self.invariant.0 (subst F (sym c.self.view_is) c.requires.bounded)
          (subst R (sym c.self.view_is) c.requires.present) c.step.ensures.machines bounded.step),
      c.self.invariant.1 ∙ sym c.step.ensures.machines,
    )

pub returns-in-Ok-clause-step : goal.returns-in-Ok-clause-step
returns-in-Ok-clause-step c =
    let b : Bounded_data = record { core = c.self.inside.core; capacity = c.self.inside.capacity; room = c.self.inside.room; steps = c.self.inside.steps; taken = c.self.inside.taken } in
    let N : Bounded_data → Type 0 = λ z. full_ring z c.args.event ≡ None in
    let P : Bounded_data → Type 0 = λ z. HasSteppedWithin z.core.machines z.capacity (configuration_of z.core) c.args.event (configuration_of c.step.new.self) c.in-Ok.stepped in
    subst P c.self.view_is (is_bounded b c.args.event (configuration_of c.step.new.self) c.in-Ok.stepped (subst N (sym c.self.view_is) (search rules)) c.in-Ok.ensures.step)

pub returns-in-Ok-clause-counts : goal.returns-in-Ok-clause-counts
returns-in-Ok-clause-counts c =
    let b : Bounded_data = record { core = c.self.inside.core; capacity = c.self.inside.capacity; room = c.self.inside.room; steps = c.self.inside.steps; taken = c.self.inside.taken } in
    let table : c.count.new.self ≡ counts_behind b.taken (pair_of_receive b c.args.event) =
    c.count.ensures ∙ ap (counts_behind b.taken) (c.taking-taking.ensures ∙ ap (λ (z : Bounded_data). pair_of_receive z c.args.event) (sym c.self.view_is)) in
    let R : Bounded_data → Type 0 = λ z. role_of c.args.event < length z.core.machines in
    let F : Bounded_data → Type 0 = λ z. z.steps < 2 ^ 63 in
    let P : Bounded_data → Type 0 = λ z. CountsStep z c.args.event record { core = c.step.new.self; capacity = b.capacity; room = b.room; steps = b.steps + 1; taken = c.count.new.self } in
    let T : List (List ℕ) → Type 0 = λ t. CountsStep b c.args.event record { core = c.step.new.self; capacity = b.capacity; room = b.room; steps = b.steps + 1; taken = t } in
    subst P c.self.view_is (subst T (sym table)
    (counts b c.self.invariant.0 (subst F (sym c.self.view_is) c.requires.bounded) c.args.event c.step.new.self c.in-Ok.stepped (subst R (sym c.self.view_is) c.requires.present) c.in-Ok.ensures.step))
