use Rattle.std.proofs.Common.{ℕ, inl, inr, sym, subst}
use Rattle.std.specs.Prelude.{IfOk}
use Rattle.rs_answers.specs.declared.refusals.Refusal.{Refusal}
use Rattle.rs_documents.specs.Data.{Document_data}
use Rattle.rs_wellformed.specs.WellFormed.{IsWellFormed}
use Rattle.rs_reasons.specs.Explains.{TellsWhy}
use Rattle.rs_reasons.proofs.Reasons.{not_blamed, not_underivable, well_formed_here}
use Rattle.rs_reasons.proofs.explaining.no_session_text.Goals as goal

pub unprojectable_text-requires-clause-well_formed : goal.unprojectable_text-requires-clause-well_formed
unprojectable_text-requires-clause-well_formed c =
    subst (λ (x : Document_data). IsWellFormed x.protocol) (sym c.document.view_is)
    (well_formed_here c.args.document.now c.args.refusal.now c.in-Unprojectable.fault c.in-Unprojectable.is c.requires.none)

pub unreachable-requires : goal.unreachable-requires
unreachable-requires c = elim c.in-Underivable.is [
  | inl u ↦ not_underivable c.args.document.now c.args.refusal.now u.0 u.1 c.requires.none
  | inr b ↦ not_blamed c.args.document.now c.args.refusal.now b.0 b.1 b.2 c.requires.none
]

pub returns-in-IllFormed : goal.returns-in-IllFormed
returns-in-IllFormed c =
    subst (λ (w : Refusal). IfOk c.talk_text.result (λ text. (bound : ℕ) → TellsWhy bound c.args.document.now c.args.places.now w text)) (sym c.in-IllFormed.is) c.talk_text.ensures

pub returns-in-IllMachine : goal.returns-in-IllMachine
returns-in-IllMachine c =
    subst (λ (w : Refusal). IfOk c.state_text.result (λ text. (bound : ℕ) → TellsWhy bound c.args.document.now c.args.places.now w text)) (sym c.in-IllMachine.is) c.state_text.ensures
