use Rattle.std.proofs.Common.{drop, ap, ◌∙◌}
use Rattle.rs_run_pictures.proofs.Pieces.{drop_next}
use Rattle.rs_run_pictures.proofs.scenes.RoleActs.pass.Goals as goal

pub returns-then-self-len : goal.returns-then-self-len
returns-then-self-len c = drop_next c.self.inside.next c.self.inside.acts.items ∙ ap (λ z. drop 1 z) c.self.view_is
