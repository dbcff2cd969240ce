use Rattle.std.proofs.Common.{rules, ◌-◌, ◌<◌, ℕ, length, refl, sym, subst}
use Rattle.rs_text.specs.Lexing.{next_lexeme}
use Rattle.rs_text.proofs.Standing.{Stands, advances, fails_in, goes_on}
use Rattle.rs_text.proofs.Taking.{Came, came_on, left_names, names_behind}
use Rattle.rs_text.proofs.token_readers.read_tokens.Goals as goal

pub loop-token-smaller : goal.loop-token-smaller
loop-token-smaller g c =
    subst (λ (z : ℕ). length c.args.bytes.now - z < length c.args.bytes.now - c.loop-token.until) (sym c.until-until.ensures)
    (advances g.R.TokenReader.stops_at_end c.args.bytes.now c.loop-token.until c.next_token-token.result
    (next_lexeme c.args.bytes.now c.next_token-token.result.until)
    c.loop-token.reader c.feed.new.self c.next_token-token.ensures.token c.next_token-token.ensures.ahead c.next_token-token.ensures.within c.in_ok-feed.ensures)

pub loop-token-preserved : goal.loop-token-preserved
loop-token-preserved g c =
    let on = goes_on g.R.TokenReader.stops_at_end c.args.reader.now c.args.bytes.now c.args.at c.loop-token.until c.next_token-token.result
    (next_lexeme c.args.bytes.now c.next_token-token.result.until) c.loop-token.reader c.feed.new.self c.next_token-token.ensures.token refl c.loop-token.invariant.1
    (search rules) c.in_ok-feed.ensures in
    let came = came_on g.R.TokenReader.stops_at_end c.args.reader.now c.args.bytes.now c.args.at c.loop-token.until c.next_token-token.result
    c.loop-token.reader c.feed.new.self c.next_token-token.ensures.token c.in_ok-feed.ensures c.loop-token.invariant.2 in
    let same = sym c.until-until.ensures in (
      search rules,
      subst (λ (z : ℕ). Stands g.R.TokenReader.automaton c.args.reader.now c.args.bytes.now c.args.at c.feed.new.self z) same on,
      subst (λ (z : ℕ). Came g.R.TokenReader.automaton c.args.reader.now c.args.bytes.now c.args.at c.feed.new.self z) same came,
    )

pub returns-in_err-feed-clause-err : goal.returns-in_err-feed-clause-err
returns-in_err-feed-clause-err g c =
    let fails = fails_in g.R.TokenReader.stops_at_end c.args.reader.now c.args.bytes.now c.args.at c.loop-token.until c.next_token-token.result
    (next_lexeme c.args.bytes.now c.next_token-token.result.until) c.loop-token.reader c.in_err-feed.field-0.0 c.next_token-token.ensures.token refl c.loop-token.invariant.1
    (search rules) c.in_err-feed.ensures.0 in
    search (fails.0, rules)

pub returns-in_err-feed-clause-left : goal.returns-in_err-feed-clause-left
returns-in_err-feed-clause-left g c =
    let fails = fails_in g.R.TokenReader.stops_at_end c.args.reader.now c.args.bytes.now c.args.at c.loop-token.until c.next_token-token.result
    (next_lexeme c.args.bytes.now c.next_token-token.result.until) c.loop-token.reader c.in_err-feed.field-0.0 c.next_token-token.ensures.token refl c.loop-token.invariant.1
    (search rules) c.in_err-feed.ensures.0 in
    let left = left_names g.R.TokenReader.automaton g.R.TokenReader.names c.in_err-feed.field-0.0 c.args.reader.now c.args.bytes.now c.args.at c.loop-token.reader _ fails.1 c.in_err-feed.ensures.1 in
    search (left, rules)

pub returns-in_err-feed-clause-names : goal.returns-in_err-feed-clause-names
returns-in_err-feed-clause-names g c =
    names_behind g.R.TokenReader.automaton g.R.TokenReader.names c.args.reader.now c.args.bytes.now c.args.at c.loop-token.reader c.loop-token.until _ c.loop-token.invariant.0 c.loop-token.invariant.2
    c.in_err-feed.ensures.1

pub returns-clause-names : goal.returns-clause-names
returns-clause-names g c =
    names_behind g.R.TokenReader.automaton g.R.TokenReader.names c.args.reader.now c.args.bytes.now c.args.at c.loop-token.reader c.loop-token.until _ c.loop-token.invariant.0 c.loop-token.invariant.2
    refl
