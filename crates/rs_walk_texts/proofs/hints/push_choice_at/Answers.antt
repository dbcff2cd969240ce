use Rattle.std.proofs.Common.{codes}
use Rattle.std.proofs.lemmas.Result.{on_ok_weaker}
use Rattle.rs_walk_texts.specs.Heads.{placed_talk_text}
use Rattle.rs_walk_texts.proofs.Joins.{three}
use Rattle.rs_walk_texts.proofs.hints.push_choice_at.Goals as goal

pub returns : goal.returns
returns c =
    on_ok_weaker c.push-2.result
    (λ e.
    three c.args.text.now (codes "not chosen yet: ") (placed_talk_text c.args.source.now.names c.args.source.now.protocol.nodes c.args.source.now.talks c.args.number) (codes "\n") c.push.new.self c.push_talk_at.new.text c.push-2.new.self
    c.in_ok-push.ensures.ok c.in_ok-push_talk_at.ensures e) c.push-2.ensures.ok
