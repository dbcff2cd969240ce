use Rattle.std.proofs.Common.{List, inr, ap, subst}
use Rattle.rs_derive.specs.Data.{Derivation_data}
use Rattle.rs_safety.specs.Accepting.{AcceptRefused_data, FirstRefused}
use Rattle.rs_safety.specs.Sessions.{AreDerivations}
use Rattle.rs_answers.specs.declared.refusals.Refusal.TheVariants as refusal
use Rattle.rs_answers.specs.declared.verifying.Blame.TheVariants as blame
use Rattle.rs_answers.proofs.Verified.{none_is_blamed, refused_is_blamed}
use Rattle.rs_answers.proofs.verifying.accept_session.Goals as goal

pub returns-in-Ok-clause-none : goal.returns-in-Ok-clause-none
returns-in-Ok-clause-none c =
    let ms = c.args.session.machines.items in
    let ps = c.args.session.projections.items in
    none_is_blamed c.args.own.items ms ps c.requires.there (subst (λ (z : List Derivation_data). AreDerivations ms ps z) c.in_ok-derivations.ensures c.in-Ok.ensures.derived)

pub returns-in-Err-clause-refused : goal.returns-in-Err-clause-refused
returns-in-Err-clause-refused c =
    let ms = c.args.session.machines.items in
    let ps = c.args.session.projections.items in
    let role = c.in-Err.refused.role in
    let cause = c.in-Err.refused.cause in
    inr (
      record { role = role; blame = blame.Fault cause },
      refused_is_blamed c.args.own.items ms ps role cause c.requires.there (subst (λ (z : List Derivation_data). FirstRefused ms ps z role.0 cause) c.in_ok-derivations.ensures c.in-Err.ensures.refused),
      ap (λ (r : AcceptRefused_data). refusal.Blamed r.role (blame.Fault r.cause)) c.refused.view_is,
    )
