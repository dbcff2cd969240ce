use Rattle.std.proofs.Common.{rules, ◌≡◌, ◌∙◌, ℕ, ◌+◌, true, false, Option, Some, slice_get, length, ap, subst, sym, refl, arith}
use Rattle.std.proofs.lemmas.Option.{slice_get_read}
use Rattle.rs_core.specs.Turns.{KeepsWell, TurnTells}
use Rattle.rs_core.specs.declared.turns.Turned.{Turned}
use Rattle.rs_core.specs.declared.turns.Turned.TheVariants.{AtLimit, Moved, Waits, Full, Ended}
use Rattle.rs_core.proofs.Lifting.{noted_after, or_true, or_false, at_tells, sofar_start, sofar_on, sofar_stops, sofar_moved, sofar_idle}
use Rattle.rs_core.proofs.playing.round.Goals as goal
use Rattle.rs_core.proofs.playing.round.Goals.{in-Moved, in-Waits, in-Full, in-Ended}

pub loop-i-init : goal.loop-i-init
loop-i-init g c = record {
  count = c.roles-count.ensures;
  so_far = sofar_start g.A.Actor.behaviour c.args.limit (g.Q.Queues.capacity c.args.queues.now) (g.Q.Queues.core c.args.queues.now) c.args.players.now.items c.requires.ready;
  noted = c.requires.noted;
  capacity = refl;
}

pub turn-requires-clause-keeps : goal.turn-requires-clause-keeps
turn-requires-clause-keeps g c =
    let s = c.loop-i.invariant.so_far in
    let is : slice_get c.loop-i.players.items c.loop-i.i ≡ Some c.index_mut.result.now =
    slice_get_read c.loop-i.players.items (length (g.Q.Queues.core c.loop-i.queues).machines) c.loop-i.i c.index_mut.result.now (sym s.ready.many)
    (let n = c.loop-i.invariant.count in let e = ap length s.machines in let t = c.loop-i-test.true in omega arith) c.index_mut.ensures.value in
    let P : _ → Type 0 = λ n. KeepsWell (g.Q.Queues.core c.loop-i.queues) n c.index_mut.result.now in
    subst P (sym c.role_at-role.ensures) (s.ready.keeps c.loop-i.i c.index_mut.result.now is)

pub turn-requires-clause-noted : goal.turn-requires-clause-noted
turn-requires-clause-noted g c =
    let s = c.loop-i.invariant.so_far in
    let is : slice_get c.loop-i.players.items c.loop-i.i ≡ Some c.index_mut.result.now =
    slice_get_read c.loop-i.players.items (length (g.Q.Queues.core c.loop-i.queues).machines) c.loop-i.i c.index_mut.result.now (sym s.ready.many)
    (let n = c.loop-i.invariant.count in let e = ap length s.machines in let t = c.loop-i-test.true in omega arith) c.index_mut.ensures.value in
    subst (λ (n : ℕ). g.Q.Queues.notes c.loop-i.queues n c.index_mut.result.now.transcript) (sym c.role_at-role.ensures) (c.loop-i.invariant.noted c.loop-i.i c.index_mut.result.now is)

pub role_at-role-requires : goal.role_at-role-requires
role_at-role-requires g c = let n = c.loop-i.invariant.count in let e = ap length c.loop-i.invariant.so_far.machines in let t = c.loop-i-test.true in omega arith

pub turn-requires-clause-present : goal.turn-requires-clause-present
turn-requires-clause-present g c = let n = c.loop-i.invariant.count in let e = ap length c.loop-i.invariant.so_far.machines in let t = c.loop-i-test.true in let r = c.role_at-role.ensures in
    omega arith

pub returns-in-AtLimit : goal.returns-in-AtLimit
returns-in-AtLimit g c =
    let s = c.loop-i.invariant.so_far in
    let is : slice_get c.loop-i.players.items c.loop-i.i ≡ Some c.index_mut.result.now =
    slice_get_read c.loop-i.players.items (length (g.Q.Queues.core c.loop-i.queues).machines) c.loop-i.i c.index_mut.result.now (sym s.ready.many)
    (let n = c.loop-i.invariant.count in let e = ap length s.machines in let t = c.loop-i-test.true in omega arith) c.index_mut.ensures.value in
    record {
      round = sofar_stops g.A.Actor.behaviour c.args.limit (g.Q.Queues.capacity c.args.queues.now) (g.Q.Queues.core c.args.queues.now) c.args.players.now.items (g.Q.Queues.core c.loop-i.queues)
          (g.Q.Queues.core c.turn.new.queues) c.loop-i.players.items c.loop-i.i c.role_at-role.result c.loop-i.moved c.index_mut.result.now c.turn.new.player
          s is (at_tells g.A.Actor.behaviour c.args.limit (g.Q.Queues.capacity c.args.queues.now) (g.Q.Queues.core c.loop-i.queues) c.index_mut.result.now c.role_at-role.result.0 c.loop-i.i
          (g.Q.Queues.core c.turn.new.queues) c.turn.new.player c.in_ok-turn.field-0 AtLimit c.role_at-role.ensures c.in-AtLimit.is
          (subst (λ (z : Option ℕ). TurnTells g.A.Actor.behaviour c.args.limit z (g.Q.Queues.core c.loop-i.queues) c.index_mut.result.now c.role_at-role.result.0
          (g.Q.Queues.core c.turn.new.queues) c.turn.new.player c.in_ok-turn.field-0) c.loop-i.invariant.capacity c.in_ok-turn.ensures.tells)) c.role_at-role.ensures;
      noted = noted_after (g.Q.Queues.notes c.loop-i.queues) (g.Q.Queues.notes c.turn.new.queues)
          c.loop-i.players.items c.loop-i.i c.role_at-role.result.0 c.turn.new.player c.role_at-role.ensures c.loop-i.invariant.noted c.in_ok-turn.ensures.noted;
      capacity = c.in_ok-turn.ensures.capacity ∙ c.loop-i.invariant.capacity;
    }

pub loop-i-preserved : goal.loop-i-preserved
loop-i-preserved g c =
    let s = c.loop-i.invariant.so_far in
    let is : slice_get c.loop-i.players.items c.loop-i.i ≡ Some c.index_mut.result.now =
    slice_get_read c.loop-i.players.items (length (g.Q.Queues.core c.loop-i.queues).machines) c.loop-i.i c.index_mut.result.now (sym s.ready.many)
    (let n = c.loop-i.invariant.count in let e = ap length s.machines in let t = c.loop-i-test.true in omega arith) c.index_mut.ensures.value in
    let tells = λ (u : Turned) (e : c.in_ok-turn.field-0 ≡ u). at_tells g.A.Actor.behaviour c.args.limit (g.Q.Queues.capacity c.args.queues.now) (g.Q.Queues.core c.loop-i.queues)
    c.index_mut.result.now c.role_at-role.result.0 c.loop-i.i (g.Q.Queues.core c.turn.new.queues) c.turn.new.player
    c.in_ok-turn.field-0 u c.role_at-role.ensures e (subst (λ (z : Option ℕ). TurnTells g.A.Actor.behaviour c.args.limit z (g.Q.Queues.core c.loop-i.queues)
    c.index_mut.result.now c.role_at-role.result.0 (g.Q.Queues.core c.turn.new.queues) c.turn.new.player c.in_ok-turn.field-0) c.loop-i.invariant.capacity c.in_ok-turn.ensures.tells) in
    record {
      count = c.loop-i.invariant.count;
      so_far = elim c.match-branch-2.branch [
        | in-Moved w ↦ sofar_on g.A.Actor.behaviour c.args.limit (g.Q.Queues.capacity c.args.queues.now) (g.Q.Queues.core c.args.queues.now) c.args.players.now.items (g.Q.Queues.core c.loop-i.queues)
            (g.Q.Queues.core c.turn.new.queues) c.loop-i.players.items c.loop-i.i (c.loop-i.i + 1) c.loop-i.moved true _ c.index_mut.result.now c.turn.new.player Moved s is refl
            (tells Moved w.in-Moved.is) (omega arith) (or_true c.loop-i.moved ∙ sym w.moved-is)
        | in-Waits w ↦ sofar_on g.A.Actor.behaviour c.args.limit (g.Q.Queues.capacity c.args.queues.now) (g.Q.Queues.core c.args.queues.now) c.args.players.now.items (g.Q.Queues.core c.loop-i.queues)
            (g.Q.Queues.core c.turn.new.queues) c.loop-i.players.items c.loop-i.i (c.loop-i.i + 1) c.loop-i.moved false _ c.index_mut.result.now c.turn.new.player Waits s is refl
            (tells Waits w.in-Waits.is) (omega arith) (or_false c.loop-i.moved ∙ sym w.moved-is)
        | in-Full w ↦ sofar_on g.A.Actor.behaviour c.args.limit (g.Q.Queues.capacity c.args.queues.now) (g.Q.Queues.core c.args.queues.now) c.args.players.now.items (g.Q.Queues.core c.loop-i.queues)
            (g.Q.Queues.core c.turn.new.queues) c.loop-i.players.items c.loop-i.i (c.loop-i.i + 1) c.loop-i.moved false _ c.index_mut.result.now c.turn.new.player Full s is refl
            (tells Full w.in-Full.is)
            (omega arith) (or_false c.loop-i.moved ∙ sym w.moved-is)
        | in-Ended w ↦ sofar_on g.A.Actor.behaviour c.args.limit (g.Q.Queues.capacity c.args.queues.now) (g.Q.Queues.core c.args.queues.now) c.args.players.now.items (g.Q.Queues.core c.loop-i.queues)
            (g.Q.Queues.core c.turn.new.queues) c.loop-i.players.items c.loop-i.i (c.loop-i.i + 1) c.loop-i.moved false _ c.index_mut.result.now c.turn.new.player Ended s is refl
            (tells Ended w.in-Ended.is) (omega arith) (or_false c.loop-i.moved ∙ sym w.moved-is)
      ];
      noted = noted_after (g.Q.Queues.notes c.loop-i.queues) (g.Q.Queues.notes c.turn.new.queues)
          c.loop-i.players.items c.loop-i.i c.role_at-role.result.0 c.turn.new.player c.role_at-role.ensures c.loop-i.invariant.noted c.in_ok-turn.ensures.noted;
      capacity = c.in_ok-turn.ensures.capacity ∙ c.loop-i.invariant.capacity;
    }

pub returns-then-moved : goal.returns-then-moved
returns-then-moved g c = record {
  round = sofar_moved g.A.Actor.behaviour c.args.limit (g.Q.Queues.capacity c.args.queues.now) (g.Q.Queues.core c.args.queues.now) c.args.players.now.items (g.Q.Queues.core c.loop-i.queues)
      c.loop-i.players.items c.loop-i.i c.loop-i.moved c.loop-i.invariant.so_far (let n = c.loop-i.invariant.count in search rules) c.if-moved.true;
  noted = c.loop-i.invariant.noted;
  capacity = c.loop-i.invariant.capacity;
}

pub returns-else-moved : goal.returns-else-moved
returns-else-moved g c = record {
  round = sofar_idle g.A.Actor.behaviour c.args.limit (g.Q.Queues.capacity c.args.queues.now) (g.Q.Queues.core c.args.queues.now) c.args.players.now.items (g.Q.Queues.core c.loop-i.queues)
      c.loop-i.players.items c.loop-i.i c.loop-i.moved c.loop-i.invariant.so_far (let n = c.loop-i.invariant.count in search rules) c.if-moved.false;
  noted = c.loop-i.invariant.noted;
  capacity = c.loop-i.invariant.capacity;
}
