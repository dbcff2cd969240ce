use Rattle.std.proofs.Common.{◌≡◌, ◌∙◌, sym}
use Rattle.rs_safety.proofs.laws.derivations_name_their_roles.Goals as goal

pub returns : goal.returns
returns c session place machine derivation accepted runs derives =
    let same : derivation.role.0 ≡ machine.role.0 = accepted.one_each.role place derivation derives ∙ sym (accepted.is_session.machines_fit.role place machine runs) in
    (λ i. record { 0 = same i })
