use Rattle.std.proofs.Common.{rules, subst, sym}
use Rattle.rs_answers.specs.declared.accepting.AcceptedDocument.{AcceptedDocument}
use Rattle.rs_endpoints.specs.Endpoints.{AreBegun}
use Rattle.rs_model.specs.declared.limits.TheConstants.{DEFAULT_BOUND}
use Rattle.rs_numbered.specs.declared.statuses.CallStatus.{CallStatus}
use Rattle.rs_open.specs.Opening.{IsCertifiedText}
use Rattle.rs_safety.specs.Room.{room_of}
use Rattle.rs_held.specs.Sessions.{OpenTells, capacity_for}
use Rattle.rs_held.proofs.Telling.{is_refusal, refuses_to_open}
use Rattle.rs_held.proofs.sessions.open_text.Goals as goal

pub returns-in-Ok-begun : goal.returns-in-Ok-begun
returns-in-Ok-begun c = (
  c.in-Ok-begun.begun.value,
  c.put.ensures,
  record {
    opened = subst (λ (d : AcceptedDocument). IsCertifiedText DEFAULT_BOUND c.args.text.now d) (sym c.in-Ok-begun.ensures.same) c.in-Ok.ensures.opened;
    endpoints = subst (λ (d : AcceptedDocument). AreBegun d.session.machines (capacity_for c.args.capacity (room_of d.session.derivations)) c.in-Ok-begun.begun.value.endpoints.items) (sym c.in-Ok-begun.ensures.same) c.in-Ok-begun.ensures.begun;
  },
  search rules,
)

pub returns-in-Ok-kept : goal.returns-in-Ok-kept
returns-in-Ok-kept c = subst (λ (s : CallStatus). OpenTells c.args.text.now c.args.capacity c.args.session.now.value c.args.session.now.value c.args.refusal.now.value c.put-in-Ok-kept.new.self.value s) (sym c.status_of.ensures)
    (refuses_to_open _ _ _ _ _ _ c.in-Err-Answered.verdict (search rules)
    (is_refusal c.args.text.now c.args.refusal.now.value _ c.in-Ok-kept.kept.value c.in-Err-Answered.text c.in-Err-Answered.verdict c.put-in-Ok-kept.ensures (search rules) _ (search rules) c.in-Err-Answered.ensures.refused))
