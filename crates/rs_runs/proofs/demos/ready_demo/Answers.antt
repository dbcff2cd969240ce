use Rattle.std.proofs.Common.{ℕ, ◌≡◌, ◌≤◌, ◌<◌, true, length, ap, refl, subst, arith, ◌∙◌}
use Rattle.rs_answers.specs.Accepting.{IsAcceptedDocument, IsRefusedDocument}
use Rattle.rs_runs.specs.DemoSessions.{GivesDemo}
use Rattle.rs_answers.specs.RefusalTexts.{too_small}
use Rattle.rs_runs.specs.Runs.{capacity_of}
use Rattle.rs_runs.proofs.Leading.{made_leads, made_leads_crew, told_refusal}
use Rattle.rs_runs.proofs.Opening.{has_session_for, some_opening}
use Rattle.rs_runs.proofs.Performed.{actor_each, demo_leads, refused_alone, small_alone, unstopped}
use Rattle.rs_demos.specs.Sessions.{has_session}
use Rattle.rs_demos.specs.Texts.{document_of}
use Rattle.rs_model.specs.declared.limits.TheConstants.{DEFAULT_BOUND}
use Rattle.rs_model.specs.declared.runs.Workers.TheVariants.{One, Several}
use Rattle.rs_runs.proofs.demos.ready_demo.Goals as goal

pub overflow_cast-len : goal.overflow_cast-len
overflow_cast-len c = let s = has_session_for c.args.kind c.args.bytes.now c.in-Ok.actors.items c.in-Ok.ensures.ok in let few = s.bounded in omega (arith, few, c.len.ensures)

pub demo_session_document-requires : goal.demo_session_document-requires
demo_session_document-requires c =
    let s = has_session_for c.args.kind c.args.bytes.now c.in-Ok.actors.items c.in-Ok.ensures.ok in
    let many : length c.in-Ok.actors.items ≡ c.len.result = omega (arith, c.len.ensures) in
    subst (λ (n : ℕ). has_session c.args.kind n ≡ true) many s.has

pub returns-in-Err-clause-alone : goal.returns-in-Err-clause-alone
returns-in-Err-clause-alone c =
    let many : c.len.result ≡ length c.in-Ok.actors.items = omega (arith, c.len.ensures) in
    let own = c.in_ok-document.ensures.document ∙ ap (document_of c.args.kind) many in
    let opening = some_opening c.args.kind c.args.bytes.now c.in-Ok.actors.items c.in-Ok.ensures.ok in
    let refused = subst (λ (b : ℕ). IsRefusedDocument b c.in_ok-document.document c.in-Err.refused) c.standard.ensures c.in-Err.ensures.refused in
    made_leads One _ (GivesDemo c.args.kind c.args.ring c.args.bytes.now) c.answer.result c.answered-in-Err.result c.answered-in-Err.ensures
    (told_refusal DEFAULT_BOUND c.in_ok-document.document c.in-Err.refused c.answer.result refused c.answer.ensures.answer c.answer.ensures.memory)
    (λ a h. refused_alone c.args.kind c.args.ring c.args.bytes.now c.in-Ok.actors.items c.in_ok-document.document opening own c.in-Err.refused.refusal a h)

pub returns-in-Err-clause-crew : goal.returns-in-Err-clause-crew
returns-in-Err-clause-crew c =
    let many : c.len.result ≡ length c.in-Ok.actors.items = omega (arith, c.len.ensures) in
    let own = c.in_ok-document.ensures.document ∙ ap (document_of c.args.kind) many in
    let opening = some_opening c.args.kind c.args.bytes.now c.in-Ok.actors.items c.in-Ok.ensures.ok in
    let refused = subst (λ (b : ℕ). IsRefusedDocument b c.in_ok-document.document c.in-Err.refused) c.standard.ensures c.in-Err.ensures.refused in
    λ short. made_leads_crew _ (GivesDemo c.args.kind c.args.ring c.args.bytes.now) c.answer.result c.answered-in-Err.result c.answered-in-Err.ensures
    (told_refusal DEFAULT_BOUND c.in_ok-document.document c.in-Err.refused c.answer.result refused c.answer.ensures.answer c.answer.ensures.memory)
    (λ a h. refused_alone c.args.kind c.args.ring c.args.bytes.now c.in-Ok.actors.items c.in_ok-document.document opening own c.in-Err.refused.refusal a h)

pub returns-in-Ok-capacity_for-clause-alone : goal.returns-in-Ok-capacity_for-clause-alone
returns-in-Ok-capacity_for-clause-alone c =
    let many : c.len.result ≡ length c.in-Ok.actors.items = omega (arith, c.len.ensures) in
    let own = c.in_ok-document.ensures.document ∙ ap (document_of c.args.kind) many in
    let opening = some_opening c.args.kind c.args.bytes.now c.in-Ok.actors.items c.in-Ok.ensures.ok in
    let accepted = c.in-Ok-accept_document.accepted in
    let is = subst (λ (b : ℕ). IsAcceptedDocument b c.in_ok-document.document accepted) c.standard.ensures c.in-Ok-accept_document.ensures.accepted in
    let ok = c.in-Ok-capacity_for.ensures.ok in
    demo_leads c.args.kind c.args.ring c.args.bytes.now c.in-Ok.actors.items c.in_ok-document.document opening own One accepted _ is refl refl refl
    (ok.0 ∙ ap (capacity_of c.args.ring) c.room-room.ensures) (record {
      actors = actor_each c.args.kind c.args.ring c.args.bytes.now c.in-Ok.actors.items c.in_ok-document.document opening own accepted is;
      room = subst (λ (n : ℕ). n ≤ c.in-Ok-capacity_for.capacity) c.room-room.ensures ok.1;
      limit = refl;
    })
    (λ fit. fit)

pub returns-in-Ok-capacity_for-clause-crew : goal.returns-in-Ok-capacity_for-clause-crew
returns-in-Ok-capacity_for-clause-crew c =
    let many : c.len.result ≡ length c.in-Ok.actors.items = omega (arith, c.len.ensures) in
    let own = c.in_ok-document.ensures.document ∙ ap (document_of c.args.kind) many in
    let opening = some_opening c.args.kind c.args.bytes.now c.in-Ok.actors.items c.in-Ok.ensures.ok in
    let accepted = c.in-Ok-accept_document.accepted in
    let is = subst (λ (b : ℕ). IsAcceptedDocument b c.in_ok-document.document accepted) c.standard.ensures c.in-Ok-accept_document.ensures.accepted in
    let ok = c.in-Ok-capacity_for.ensures.ok in
    λ short crew. demo_leads c.args.kind c.args.ring c.args.bytes.now c.in-Ok.actors.items c.in_ok-document.document opening own (Several crew) accepted _ is refl refl refl
    (ok.0 ∙ ap (capacity_of c.args.ring) c.room-room.ensures) (record {
      actors = actor_each c.args.kind c.args.ring c.args.bytes.now c.in-Ok.actors.items c.in_ok-document.document opening own accepted is;
      room = subst (λ (n : ℕ). n ≤ c.in-Ok-capacity_for.capacity) c.room-room.ensures ok.1;
      limit = refl;
    })
    (λ fit. (fit, unstopped c.args.kind c.args.ring c.args.bytes.now c.in-Ok.actors.items c.in_ok-document.document opening own accepted is short))

pub returns-in-Err-capacity_for-clause-alone : goal.returns-in-Err-capacity_for-clause-alone
returns-in-Err-capacity_for-clause-alone c =
    let many : c.len.result ≡ length c.in-Ok.actors.items = omega (arith, c.len.ensures) in
    let own = c.in_ok-document.ensures.document ∙ ap (document_of c.args.kind) many in
    let opening = some_opening c.args.kind c.args.bytes.now c.in-Ok.actors.items c.in-Ok.ensures.ok in
    let accepted = c.in-Ok-accept_document.accepted in
    let capacity = c.in-Err-capacity_for.capacity in
    let is = subst (λ (b : ℕ). IsAcceptedDocument b c.in_ok-document.document accepted) c.standard.ensures c.in-Ok-accept_document.ensures.accepted in
    let small = subst (λ (n : ℕ). (capacity ≡ capacity_of c.args.ring n) × (capacity < n)) c.room-room.ensures c.in-Err-capacity_for.ensures.err in
    made_leads One _ (GivesDemo c.args.kind c.args.ring c.args.bytes.now) c.too_small.result c.answered-in-Err-capacity_for.result c.answered-in-Err-capacity_for.ensures c.too_small.ensures
    (λ a e. small_alone c.args.kind c.args.ring c.args.bytes.now c.in-Ok.actors.items c.in_ok-document.document opening own accepted capacity a is small
    (e ∙ ap (λ (n : ℕ). too_small n c.room-room.result) c.messages.ensures.messages ∙ ap (λ (n : ℕ). too_small capacity n) c.room-room.ensures))

pub returns-in-Err-capacity_for-clause-crew : goal.returns-in-Err-capacity_for-clause-crew
returns-in-Err-capacity_for-clause-crew c =
    let many : c.len.result ≡ length c.in-Ok.actors.items = omega (arith, c.len.ensures) in
    let own = c.in_ok-document.ensures.document ∙ ap (document_of c.args.kind) many in
    let opening = some_opening c.args.kind c.args.bytes.now c.in-Ok.actors.items c.in-Ok.ensures.ok in
    let accepted = c.in-Ok-accept_document.accepted in
    let capacity = c.in-Err-capacity_for.capacity in
    let is = subst (λ (b : ℕ). IsAcceptedDocument b c.in_ok-document.document accepted) c.standard.ensures c.in-Ok-accept_document.ensures.accepted in
    let small = subst (λ (n : ℕ). (capacity ≡ capacity_of c.args.ring n) × (capacity < n)) c.room-room.ensures c.in-Err-capacity_for.ensures.err in
    λ short. made_leads_crew _ (GivesDemo c.args.kind c.args.ring c.args.bytes.now) c.too_small.result c.answered-in-Err-capacity_for.result c.answered-in-Err-capacity_for.ensures c.too_small.ensures
    (λ a e. small_alone c.args.kind c.args.ring c.args.bytes.now c.in-Ok.actors.items c.in_ok-document.document opening own accepted capacity a is small
    (e ∙ ap (λ (n : ℕ). too_small n c.room-room.result) c.messages.ensures.messages ∙ ap (λ (n : ℕ). too_small capacity n) c.room-room.ensures))
