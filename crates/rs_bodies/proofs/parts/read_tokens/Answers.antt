use Rattle.std.proofs.Common.{rules, ◌-◌, ◌<◌, ℕ, length, refl, sym, subst, arith}
use Rattle.rs_text.specs.Lexing.{next_lexeme}
use Rattle.rs_text.proofs.Standing.{Stands, advances, fails_in, goes_on}
use Rattle.rs_text.proofs.Taking.{Came, came_on, left_names, names_behind}
use Rattle.rs_bodies.specs.Ends.{part_stops_at_end}
use Rattle.rs_bodies.specs.PartFeeding.{feeding_part, names_of_part}
use Rattle.rs_bodies.proofs.TurnsSeen.{came_behind, fails_behind, stands_behind}
use Rattle.rs_bodies.proofs.parts.read_tokens.Goals as goal

pub loop-token-smaller : goal.loop-token-smaller
loop-token-smaller c =
    let one : length c.args.bytes.now - c.next_token-token.result.until < length c.args.bytes.now - c.loop-token.until
    = advances part_stops_at_end c.args.bytes.now c.loop-token.until c.next_token-token.result (next_lexeme c.args.bytes.now c.next_token-token.result.until)
    c.loop-token.part c.feed.new.self c.next_token-token.ensures.token c.next_token-token.ensures.ahead c.next_token-token.ensures.within c.in_ok-feed.ensures in
    let same = c.until.ensures in
    let ahead = c.in_ok-until.ensures.ahead in
    let within = c.in_ok-until.ensures.within in
    omega (arith, one, same, ahead, within)

pub loop-token-preserved : goal.loop-token-preserved
loop-token-preserved c =
    let on = goes_on part_stops_at_end c.args.part.now c.args.bytes.now c.args.at c.loop-token.until c.next_token-token.result
    (next_lexeme c.args.bytes.now c.next_token-token.result.until) c.loop-token.part c.feed.new.self c.next_token-token.ensures.token refl c.loop-token.invariant.1
    (search rules) c.in_ok-feed.ensures in
    let came = came_on part_stops_at_end c.args.part.now c.args.bytes.now c.args.at c.loop-token.until c.next_token-token.result
    c.loop-token.part c.feed.new.self c.next_token-token.ensures.token c.in_ok-feed.ensures c.loop-token.invariant.2 in
    let same = sym c.until.ensures in (
      c.in_ok-until.ensures.within,
      stands_behind part_stops_at_end c.args.part.now c.args.bytes.now c.args.at _ c.feed.new.self _ c.take_marks.new.self c.in_ok-until.ensures.passes (subst (λ (z : ℕ). Stands feeding_part c.args.part.now c.args.bytes.now c.args.at c.feed.new.self z) same on),
      came_behind part_stops_at_end c.args.part.now c.args.bytes.now c.args.at _ c.feed.new.self _ c.take_marks.new.self c.in_ok-until.ensures.passes (subst (λ (z : ℕ). Came feeding_part c.args.part.now c.args.bytes.now c.args.at c.feed.new.self z) same came),
    )

pub returns-in_err-feed-clause-err : goal.returns-in_err-feed-clause-err
returns-in_err-feed-clause-err c =
    let fails = fails_in part_stops_at_end c.args.part.now c.args.bytes.now c.args.at c.loop-token.until c.next_token-token.result
    (next_lexeme c.args.bytes.now c.next_token-token.result.until) c.loop-token.part c.in_err-feed.field-0.0 c.next_token-token.ensures.token refl c.loop-token.invariant.1
    (search rules) c.in_err-feed.ensures.0 in
    search (fails.0, rules)

pub returns-in_err-feed-clause-left : goal.returns-in_err-feed-clause-left
returns-in_err-feed-clause-left c =
    let fails = fails_in part_stops_at_end c.args.part.now c.args.bytes.now c.args.at c.loop-token.until c.next_token-token.result
    (next_lexeme c.args.bytes.now c.next_token-token.result.until) c.loop-token.part c.in_err-feed.field-0.0 c.next_token-token.ensures.token refl c.loop-token.invariant.1
    (search rules) c.in_err-feed.ensures.0 in
    let left = left_names feeding_part names_of_part c.in_err-feed.field-0.0 c.args.part.now c.args.bytes.now c.args.at c.loop-token.part _ fails.1 c.in_err-feed.ensures.1 in
    search (left, rules)

pub returns-in_err-feed-clause-names : goal.returns-in_err-feed-clause-names
returns-in_err-feed-clause-names c =
    names_behind feeding_part names_of_part c.args.part.now c.args.bytes.now c.args.at c.loop-token.part c.loop-token.until _ c.loop-token.invariant.0 c.loop-token.invariant.2
    c.in_err-feed.ensures.1

pub returns-clause-names : goal.returns-clause-names
returns-clause-names c =
    names_behind feeding_part names_of_part c.args.part.now c.args.bytes.now c.args.at c.loop-token.part c.loop-token.until _ c.loop-token.invariant.0 c.loop-token.invariant.2
    refl

pub returns-in_err-until-clause-err : goal.returns-in_err-until-clause-err
returns-in_err-until-clause-err c =
    let on = goes_on part_stops_at_end c.args.part.now c.args.bytes.now c.args.at c.loop-token.until c.next_token-token.result
    (next_lexeme c.args.bytes.now c.next_token-token.result.until) c.loop-token.part c.feed.new.self c.next_token-token.ensures.token refl c.loop-token.invariant.1
    (search rules) c.in_ok-feed.ensures in
    let stands = subst (λ (z : ℕ). Stands feeding_part c.args.part.now c.args.bytes.now c.args.at c.feed.new.self z) (sym c.until.ensures) on in
    let fails = fails_behind part_stops_at_end names_of_part c.args.part.now c.args.bytes.now c.args.at c.until.result c.feed.new.self c.take_marks.new.self c.in_err-until.field-0.0 c.in_err-until.ensures.err stands in
    search (fails.0, rules)

pub returns-in_err-until-clause-left : goal.returns-in_err-until-clause-left
returns-in_err-until-clause-left c =
    let on = goes_on part_stops_at_end c.args.part.now c.args.bytes.now c.args.at c.loop-token.until c.next_token-token.result
    (next_lexeme c.args.bytes.now c.next_token-token.result.until) c.loop-token.part c.feed.new.self c.next_token-token.ensures.token refl c.loop-token.invariant.1
    (search rules) c.in_ok-feed.ensures in
    let stands = subst (λ (z : ℕ). Stands feeding_part c.args.part.now c.args.bytes.now c.args.at c.feed.new.self z) (sym c.until.ensures) on in
    let fails = fails_behind part_stops_at_end names_of_part c.args.part.now c.args.bytes.now c.args.at c.until.result c.feed.new.self c.take_marks.new.self c.in_err-until.field-0.0 c.in_err-until.ensures.err stands in
    search (fails.1, rules)

pub returns-in_err-until-clause-names : goal.returns-in_err-until-clause-names
returns-in_err-until-clause-names c =
    let came = came_on part_stops_at_end c.args.part.now c.args.bytes.now c.args.at c.loop-token.until c.next_token-token.result
    c.loop-token.part c.feed.new.self c.next_token-token.ensures.token c.in_ok-feed.ensures c.loop-token.invariant.2 in
    names_behind feeding_part names_of_part c.args.part.now c.args.bytes.now c.args.at c.feed.new.self c.next_token-token.result.until _ c.next_token-token.ensures.within came
    c.in_err-until.ensures.err.names_are
