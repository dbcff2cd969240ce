use Rattle.std.proofs.Common.{rules, arith, ◌≡◌, ℕ, List, Some, get_or, length, vec_len, ap, sym, ◌∙◌}
use Rattle.rs_project.proofs.Lists.{contains, read_via}
use Rattle.rs_project.proofs.Meetings.{place_among}
use Rattle.rs_project.proofs.Surveys.{role_by, role_eq}
use Rattle.rs_project.proofs.Behind.{no_finish, involved_within, send_each, receive_each, some_talks, not_none}
use Rattle.rs_project.proofs.Alone.{no_nexts, no_talks}
use Rattle.rs_project.specs.Projection.{merged_choices}
use Rattle.rs_project.proofs.projecting.act_of.Goals as goal

pub returns-then-is_empty-clause-nexts : goal.returns-then-is_empty-clause-nexts
returns-then-is_empty-clause-nexts c = no_nexts c.args.arms (c.requires.choices ∙ ap (λ (z : List ℕ). merged_choices c.args.protocol.now z) (no_talks c.args.talks.now c.if-is_empty.ensures))

pub index-requires : goal.index-requires
index-requires c =
    let n = some_talks c.args.talks.now c.if-is_empty.ensures in
    let w = involved_within c.args.protocol.now c.args.role (get_or c.args.talks.now 0 0) (c.requires.involved (get_or c.args.talks.now 0 0) (place_among c.args.talks.now 0 0 n)) in
    let l : vec_len c.protocol.inside.nodes ≡ length c.args.protocol.now.nodes = search rules in
    omega arith

pub returns-in-Finished-clause-shape : goal.returns-in-Finished-clause-shape
returns-in-Finished-clause-shape c =
    let t = get_or c.args.talks.now 0 0 in
    let n = some_talks c.args.talks.now c.if-is_empty.ensures in
    let i = c.requires.involved t (place_among c.args.talks.now 0 0 n) in
    let w = involved_within c.args.protocol.now c.args.role t i in
    absurd (no_finish c.args.protocol.now c.args.role t c.index.result.now i
    (read_via c.args.protocol.now.nodes c.protocol.inside.nodes.items t c.index.result.now (search rules) w c.index.ensures) c.in-Finished.is)

pub returns-in-Finished-clause-nexts : goal.returns-in-Finished-clause-nexts
returns-in-Finished-clause-nexts c =
    let t = get_or c.args.talks.now 0 0 in
    let n = some_talks c.args.talks.now c.if-is_empty.ensures in
    let i = c.requires.involved t (place_among c.args.talks.now 0 0 n) in
    let w = involved_within c.args.protocol.now c.args.role t i in
    absurd (no_finish c.args.protocol.now c.args.role t c.index.result.now i
    (read_via c.args.protocol.now.nodes c.protocol.inside.nodes.items t c.index.result.now (search rules) w c.index.ensures) c.in-Finished.is)

pub returns-then-eq-clause-shape : goal.returns-then-eq-clause-shape
returns-then-eq-clause-shape c =
    let t = get_or c.args.talks.now 0 0 in
    let n = some_talks c.args.talks.now c.if-is_empty.ensures in
    let m = place_among c.args.talks.now 0 0 n in
    let w = involved_within c.args.protocol.now c.args.role t (c.requires.involved t m) in
    let at = read_via c.args.protocol.now.nodes c.protocol.inside.nodes.items t c.index.result.now (search rules) w c.index.ensures ∙ ap Some c.in-Talk.is in (
      not_none c.args.talks.now n,
      (λ u k. send_each c.args.protocol.now c.args.role t u c.in-Talk.sender c.in-Talk.receiver c.in-Talk.arms c.requires.well_formed at
          (role_by c.in-Talk.sender c.args.role (sym c.eq.ensures ∙ c.if-eq.true)) (c.requires.agree t u (contains c.args.talks.now t m) k)),
      c.requires.choices,
    )

pub returns-else-eq-clause-shape : goal.returns-else-eq-clause-shape
returns-else-eq-clause-shape c =
    let t = get_or c.args.talks.now 0 0 in
    let n = some_talks c.args.talks.now c.if-is_empty.ensures in
    let m = place_among c.args.talks.now 0 0 n in
    let w = involved_within c.args.protocol.now c.args.role t (c.requires.involved t m) in
    let at = read_via c.args.protocol.now.nodes c.protocol.inside.nodes.items t c.index.result.now (search rules) w c.index.ensures ∙ ap Some c.in-Talk.is in (
      not_none c.args.talks.now n,
      (λ u k. receive_each c.args.protocol.now c.args.role t u c.in-Talk.sender c.in-Talk.receiver c.in-Talk.arms at
          (λ e. (let o = role_eq c.in-Talk.sender c.args.role e in cc (c.eq.ensures ∙ o, c.if-eq.false))) (c.requires.agree t u (contains c.args.talks.now t m) k)),
      c.requires.choices,
    )
