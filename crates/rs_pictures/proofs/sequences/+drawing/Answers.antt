use Rattle.std.proofs.Common.{rules, ◌≡◌, length, ◌+◌, ◌++◌, false, slice_index_or, ◌∙◌, sym, ap, arith}
use Rattle.std.proofs.lemmas.Bool.{ltb-true}
use Rattle.std.proofs.lemmas.Option.{MatchOption-at_none}
use Rattle.std.proofs.lemmas.Result.{on_ok_weaker}
use Rattle.rs_model.specs.Data.{Protocol_data}
use Rattle.rs_model.specs.declared.values.Sort.TheVariants as sort
use Rattle.rs_bodies.specs.Places.{name_of_place}
use Rattle.rs_pictures.specs.Lines.{all_end, at, goes_back, line_text}
use Rattle.rs_pictures.proofs.Pieces.{only_arm}
use Rattle.rs_pictures.proofs.Drawn.{back_added, choice_added, end_added, end_found, cases_behind, loop_added, none_below, none_found, not_only, only_added, plain_added, talk_found}
use Rattle.rs_pictures.proofs.sequences.+drawing.Goals as goal

pub draw_loop-returns-in_ok-draw_talk : goal.draw_loop-returns-in_ok-draw_talk
draw_loop-returns-in_ok-draw_talk t c =
    on_ok_weaker c.push_close.result (λ h. loop_added c.args.names.now c.args.protocol.now c.args.depth c.args.number c.args.sender c.args.receiver c.args.arms.now c.args.text.now c.push_loop.new.text
    c.draw_talk.new.text c.push_close.new.text (sym c.is_gone_back_to.ensures ∙ c.if-is_gone_back_to.true) c.requires.stands (c.in_ok-push_loop.ensures c.args.protocol.now.roles)
    c.in_ok-draw_talk.ensures h)
    (c.push_close.ensures c.args.protocol.now.roles)

pub draw_loop-returns-else-is_gone_back_to : goal.draw_loop-returns-else-is_gone_back_to
draw_loop-returns-else-is_gone_back_to t c =
    on_ok_weaker c.draw_talk-else-is_gone_back_to.result (λ h. plain_added c.args.names.now c.args.protocol.now c.args.depth c.args.number c.args.sender c.args.receiver c.args.arms.now c.args.text.now c.draw_talk-else-is_gone_back_to.new.text
    (sym c.is_gone_back_to.ensures ∙ c.if-is_gone_back_to.false) c.requires.stands h) c.draw_talk-else-is_gone_back_to.ensures

pub draw_place-returns-then-number-from : goal.draw_place-returns-then-number-from
draw_place-returns-then-number-from t c =
    on_ok_weaker c.push_back.result (λ h. back_added c.args.names.now c.args.protocol.now c.args.depth c.args.from c.args.number c.args.text.now c.push_back.new.text
    c.if-number-from.true c.requires.behind
    (h ∙ ap (λ z. c.args.text.now ++ line_text z (at c.args.depth (goes_back (name_of_place c.args.number)))) (ap (λ (p : Protocol_data). p.roles) c.protocol.view_is))) c.push_back.ensures

pub draw_place-draw_loop-requires : goal.draw_place-draw_loop-requires
draw_place-draw_loop-requires t c =
    let p = c.args.protocol.now in
    let same = c.deref.ensures.value ∙ ap (λ (q : Protocol_data). q.nodes) c.protocol.view_is in
    let low = ltb-true c.args.number (length c.deref.result.now) (sym c.in-Some-Talk.ensures.lookup.0) in
    let few : length c.deref.result.now ≡ length p.nodes = ap length same in (
      let d = c.decreases in omega arith,
      (
        c.requires.few,
        (
          c.requires.roles,
          (
            c.requires.ends_last,
            (
              c.requires.sound,
              (
                omega arith,
                (
                  omega arith,
                  talk_found p c.args.number c.deref.result.now c.in-Some-Talk.field-0.now c.in-Some-Talk.sender c.in-Some-Talk.receiver c.in-Some-Talk.arms c.as_slice.result.now same low
                      c.in-Some-Talk.ensures.lookup.1 c.in-Some-Talk.field-0-is c.as_slice.ensures,
                ),
              ),
            ),
          ),
        ),
      ),
    )

pub draw_place-returns-in-Some-Finished : goal.draw_place-returns-in-Some-Finished
draw_place-returns-in-Some-Finished t c =
    let same = c.deref.ensures.value ∙ ap (λ (q : Protocol_data). q.nodes) c.protocol.view_is in
    let low = ltb-true c.args.number (length c.deref.result.now) (sym c.in-Some-Finished.ensures.lookup.0) in
    on_ok_weaker c.push_all_end.result (λ h. end_added c.args.names.now c.args.protocol.now c.args.depth c.args.from c.args.number c.args.text.now c.push_all_end.new.text (search rules)
    (end_found c.args.protocol.now c.args.number c.deref.result.now c.in-Some-Finished.field-0.now same low c.in-Some-Finished.ensures.lookup.1 c.in-Some-Finished.field-0-is)
    (h ∙ ap (λ z. c.args.text.now ++ line_text z (at c.args.depth all_end)) (ap (λ (q : Protocol_data). q.roles) c.protocol.view_is))) c.push_all_end.ensures

pub draw_place-returns-in-None : goal.draw_place-returns-in-None
draw_place-returns-in-None t c =
    let same = c.deref.ensures.value ∙ ap (λ (q : Protocol_data). q.nodes) c.protocol.view_is in
    let far = c.get.ensures.lookup in
    on_ok_weaker c.push_all_end-in-None.result (λ h. end_added c.args.names.now c.args.protocol.now c.args.depth c.args.from c.args.number c.args.text.now c.push_all_end-in-None.new.text (search rules)
    (none_found c.args.protocol.now c.args.number c.deref.result.now same (MatchOption-at_none _ _ c.in-None.is far.3))
    (h ∙ ap (λ z. c.args.text.now ++ line_text z (at c.args.depth all_end)) (ap (λ (q : Protocol_data). q.roles) c.protocol.view_is))) c.push_all_end-in-None.ensures

pub draw_talk-returns-in_ok-push_message : goal.draw_talk-returns-in_ok-push_message
draw_talk-returns-in_ok-push_message t c =
    on_ok_weaker c.draw_place.result (λ h. only_added c.args.names.now c.args.protocol.now c.args.depth c.args.number c.args.sender c.args.receiver c.args.arms.now (slice_index_or c.args.arms.now 0 (record { label = record { 0 = 0 }; sort = sort.Unit; next = 0 })) c.args.text.now
    c.push_message.new.text c.draw_place.new.text c.requires.sound c.requires.stands (only_arm c.args.arms.now c.if-arms-eq1.true) (c.in_ok-push_message.ensures c.args.protocol.now.roles) h) c.draw_place.ensures

pub draw_talk-returns-in_ok-draw_cases : goal.draw_talk-returns-in_ok-draw_cases
draw_talk-returns-in_ok-draw_cases t c =
    let several = c.if-arms-eq1.false in
    on_ok_weaker c.push_close.result (λ h. choice_added c.args.names.now c.args.protocol.now c.args.depth c.args.number c.args.sender c.args.receiver c.args.arms.now c.args.text.now
    c.draw_cases.new.text c.push_close.new.text (not_only c.args.arms.now several) c.requires.stands c.in_ok-draw_cases.ensures h) (c.push_close.ensures c.args.protocol.now.roles)

pub draw_cases-returns-in_ok-draw_place-in-Some : goal.draw_cases-returns-in_ok-draw_place-in-Some
draw_cases-returns-in_ok-draw_place-in-Some t c =
    on_ok_weaker c.draw_cases.result (λ h. cases_behind c.args.arms.now c.in-Some.later.now c.args.names.now c.args.protocol.now c.args.depth c.args.from c.args.sender c.args.receiver c.args.first
    c.in-Some.arm.now c.args.text.now c.push_case.new.text c.push_message.new.text c.draw_place.new.text c.draw_cases.new.text c.requires.sound (search rules)
    (c.in_ok-push_case-in-Some.ensures c.args.protocol.now.roles) (c.in_ok-push_message-in-Some.ensures c.args.protocol.now.roles) c.in_ok-draw_place-in-Some.ensures h) c.draw_cases.ensures

pub draw_talk-draw_place-requires : goal.draw_talk-draw_place-requires
draw_talk-draw_place-requires t c = (
  let d = c.decreases in let low = c.requires.present in omega arith,
  (
    c.requires.few,
    (
      c.requires.roles,
      (
        c.requires.ends_last,
        (
          c.requires.sound,
          (
            omega arith,
            (
              omega arith,
              none_below c.args.protocol.now c.args.number c.args.sender c.args.receiver c.args.arms.now c.requires.ends_last c.requires.stands,
            ),
          ),
        ),
      ),
    ),
  ),
)

pub draw_talk-draw_cases-requires : goal.draw_talk-draw_cases-requires
draw_talk-draw_cases-requires t c = (
  let d = c.decreases in let low = c.requires.present in omega arith,
  (
    c.requires.few,
    (
      c.requires.roles,
      (
        c.requires.ends_last,
        (
          c.requires.sound,
          (
            omega arith,
            (
              omega arith,
              none_below c.args.protocol.now c.args.number c.args.sender c.args.receiver c.args.arms.now c.requires.ends_last c.requires.stands,
            ),
          ),
        ),
      ),
    ),
  ),
)
