use Rattle.std.proofs.Common.{List, All, sym, subst}
use Rattle.rs_derive.specs.Data.{Derivation_data}
use Rattle.rs_safety.specs.Figures.{OwesFew}
use Rattle.rs_safety.proofs.Accepts.{all_owe_few_shown}
use Rattle.rs_answers.proofs.verifying.report_of.Goals as goal

pub report-requires : goal.report-requires
report-requires c = subst (λ (z : List Derivation_data). All OwesFew z) (sym c.derivations.ensures.derivations) (all_owe_few_shown _ c.derivations.ensures.session)
