use Rattle.std.proofs.Common.{rules, ◌≡◌, ◌+◌, ◌<◌, ℕ, Some, length, slice_get, get_or, subst}
use Rattle.std.proofs.lemmas.Option.{get_or_from_slice_get, slice_get-get_or, slice_get_within}
use Rattle.rs_project.specs.Noted.{AreNotedTalks}
use Rattle.rs_project.proofs.Lists.{read_via}
use Rattle.rs_project.proofs.Notes.{noted_agree, noted_more}
use Rattle.rs_project.proofs.clashes.clash_at.Goals as goal

noted : (c : goal.Then-joins) → AreNotedTalks c.args.protocol.now c.args.role c.args.sender c.joins.new.sorts.items c.args.talks.now (c.args.later + 1)
noted c =
    let t = get_or c.args.talks.now c.args.later 0 in
    let w : t < length c.args.protocol.now.nodes = c.requires.talks c.args.later 0 c.requires.later in
    let at = read_via c.args.protocol.now.nodes c.protocol.inside.nodes.items t c.index-talk.result.now (search rules) w c.index-talk.ensures in
    noted_more c.args.protocol.now c.args.role c.args.sender c.args.notes.now.sorts.items c.joins.new.sorts.items c.args.talks.now c.args.later t c.index-talk.result.now c.joins.ensures.keeps
    (slice_get-get_or c.args.talks.now c.args.later 0 c.requires.later) at (c.joins.ensures.noted c.if-joins.true) (c.requires.noted c.if-notes.true)

pub returns-then-joins-clause-clash : goal.returns-then-joins-clause-clash
returns-then-joins-clause-clash c =
    let within : (k t : ℕ) → slice_get c.args.talks.now k ≡ Some t → t < length c.args.protocol.now.nodes = λ k t e.
    (let P : ℕ → Type 0 = λ z. z < length c.args.protocol.now.nodes in subst P (get_or_from_slice_get c.args.talks.now k t 0 e) (c.requires.talks k 0 (slice_get_within c.args.talks.now k t e))) in
    noted_agree c.args.protocol.now c.args.role c.args.sender c.joins.new.sorts.items c.args.talks.now c.args.later within (noted c)

pub returns-then-joins-clause-noted : goal.returns-then-joins-clause-noted
returns-then-joins-clause-noted c = λ _. noted c
