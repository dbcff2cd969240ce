use Rattle.std.proofs.Common.{◌≡◌, ◌∙◌, List, Option, ℕ, length, ap, refl, subst, sym, arith}
use Rattle.rs_core.specs.Queues.{AreTranscripts}
use Rattle.rs_core.specs.Runs.{IsAmong}
use Rattle.rs_core.specs.Rounds.{HasRound}
use Rattle.rs_core.proofs.RunsSoFar.{RunSoFar}
use Rattle.rs_core.specs.declared.players.Player.{Player}
use Rattle.rs_core.specs.declared.playing.Rounded.{Rounded}
use Rattle.rs_core.proofs.Running.{fresh_noted, run_start, run_moves, run_less, run_ends, run_among, run_stops}
use Rattle.rs_core.proofs.playing.play.Goals as goal

pub loop-players-init : goal.loop-players-init
loop-players-init g c =
    let P : List (Player g.row.A.Denot) → Type 0 = λ z. RunSoFar g.A.Actor.behaviour (g.Q.Queues.core c.args.queues.now).machines c.args.limit (g.Q.Queues.capacity c.args.queues.now)
    c.args.actors.items (g.Q.Queues.core c.args.queues.now) z in
    let N : List (Player g.row.A.Denot) → Type 0 = λ z. AreTranscripts (g.Q.Queues.notes c.args.queues.now) z in
    record {
      so_far = subst P (sym c.in_ok-players.ensures) (run_start g.A.Actor.behaviour (g.Q.Queues.core c.args.queues.now).machines c.args.limit (g.Q.Queues.capacity c.args.queues.now)
          c.args.actors.items (g.Q.Queues.core c.args.queues.now) refl c.requires.fresh.starts c.requires.actors);
      noted = subst N (sym c.in_ok-players.ensures) (fresh_noted (g.Q.Queues.notes c.args.queues.now) (length (g.Q.Queues.core c.args.queues.now).machines)
          c.args.actors.items c.requires.actors c.requires.fresh.nothing);
      capacity = refl;
    }

pub loop-players-smaller : goal.loop-players-smaller
loop-players-smaller g c =
    let inv = c.loop-players.invariant in
    let P : Option ℕ × Rounded → Type 0 = λ z. HasRound g.A.Actor.behaviour c.args.limit z.0 (g.Q.Queues.core c.loop-players.queues) c.loop-players.players.items (g.Q.Queues.core c.round.new.queues)
    c.round.new.players.items z.1 in
    let less = run_less g.A.Actor.behaviour (g.Q.Queues.core c.args.queues.now).machines c.args.limit (g.Q.Queues.capacity c.args.queues.now) c.args.actors.items
    (g.Q.Queues.core c.loop-players.queues) (g.Q.Queues.core c.round.new.queues) c.loop-players.players.items c.round.new.players.items
    inv.so_far (subst P (λ i. (inv.capacity i, c.in-Moved.is i)) c.in_ok-round.ensures.round) in
    let a = less.0 in let m = less.1 in omega arith

pub loop-players-preserved : goal.loop-players-preserved
loop-players-preserved g c =
    let inv = c.loop-players.invariant in
    let P : Option ℕ × Rounded → Type 0 = λ z. HasRound g.A.Actor.behaviour c.args.limit z.0 (g.Q.Queues.core c.loop-players.queues) c.loop-players.players.items (g.Q.Queues.core c.round.new.queues)
    c.round.new.players.items z.1 in
    record {
      so_far = run_moves g.A.Actor.behaviour (g.Q.Queues.core c.args.queues.now).machines c.args.limit (g.Q.Queues.capacity c.args.queues.now) c.args.actors.items
          (g.Q.Queues.core c.loop-players.queues) (g.Q.Queues.core c.round.new.queues) c.loop-players.players.items c.round.new.players.items
          inv.so_far (subst P (λ i. (inv.capacity i, c.in-Moved.is i)) c.in_ok-round.ensures.round);
      noted = c.in_ok-round.ensures.noted;
      capacity = c.in_ok-round.ensures.capacity ∙ inv.capacity;
    }

pub returns-in-Idle : goal.returns-in-Idle
returns-in-Idle g c =
    let inv = c.loop-players.invariant in
    let P : Option ℕ × Rounded → Type 0 = λ z. HasRound g.A.Actor.behaviour c.args.limit z.0 (g.Q.Queues.core c.loop-players.queues) c.loop-players.players.items (g.Q.Queues.core c.round.new.queues)
    c.round.new.players.items z.1 in
    let r = subst P (λ i. (inv.capacity i, c.in-Idle.is i)) c.in_ok-round.ensures.round in
    let many : length c.round.new.players.items ≡ length (g.Q.Queues.core c.args.queues.now).machines = r.ready.many ∙ ap length (r.machines ∙ inv.so_far.machines) in
    record {
      played = record {
        plain = run_ends g.A.Actor.behaviour (g.Q.Queues.core c.args.queues.now).machines c.args.limit (g.Q.Queues.capacity c.args.queues.now) c.args.actors.items
            (g.Q.Queues.core c.loop-players.queues) (g.Q.Queues.core c.round.new.queues) c.loop-players.players.items c.round.new.players.items c.end_of-end.result
            g.met.A.Actor.chooses_well c.requires.fresh.safe c.requires.fresh.well_formed inv.so_far r c.end_of-end.ensures;
        machines = r.machines ∙ inv.so_far.machines;
        many = many;
        among = subst (λ (n : ℕ). IsAmong n c.end_of-end.result) (sym many)
            (run_among g.A.Actor.behaviour (g.Q.Queues.core c.args.queues.now).machines c.args.limit (g.Q.Queues.capacity c.args.queues.now) c.args.actors.items (g.Q.Queues.core c.loop-players.queues)
            (g.Q.Queues.core c.round.new.queues) c.loop-players.players.items c.round.new.players.items c.end_of-end.result
            c.requires.fresh.well_formed inv.so_far r c.end_of-end.ensures);
      };
      noted = c.in_ok-round.ensures.noted;
      capacity = c.in_ok-round.ensures.capacity ∙ inv.capacity;
    }

pub returns-in-Stopped : goal.returns-in-Stopped
returns-in-Stopped g c =
    let inv = c.loop-players.invariant in
    let P : Option ℕ × Rounded → Type 0 = λ z. HasRound g.A.Actor.behaviour c.args.limit z.0 (g.Q.Queues.core c.loop-players.queues) c.loop-players.players.items (g.Q.Queues.core c.round.new.queues)
    c.round.new.players.items z.1 in
    let r = subst P (λ i. (inv.capacity i, c.in-Stopped.is i)) c.in_ok-round.ensures.round in
    record {
      played = record {
        plain = run_stops g.A.Actor.behaviour (g.Q.Queues.core c.args.queues.now).machines c.args.limit (g.Q.Queues.capacity c.args.queues.now) c.args.actors.items
            (g.Q.Queues.core c.loop-players.queues) (g.Q.Queues.core c.round.new.queues) c.loop-players.players.items c.round.new.players.items c.in-Stopped.role
            inv.so_far r;
        machines = r.machines ∙ inv.so_far.machines;
        many = r.ready.many ∙ ap length (r.machines ∙ inv.so_far.machines);
        among = tt;
      };
      noted = c.in_ok-round.ensures.noted;
      capacity = c.in_ok-round.ensures.capacity ∙ inv.capacity;
    }
