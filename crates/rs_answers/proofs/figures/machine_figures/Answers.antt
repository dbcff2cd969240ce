use Rattle.rs_answers.proofs.Figuring.{owes_few}
use Rattle.rs_answers.proofs.figures.machine_figures.Goals as goal

pub figures_of-requires : goal.figures_of-requires
figures_of-requires c =
    owes_few c.args.machine.now c.args.projection.now c.args.bound c.in-Ok.derivation c.requires.bound c.requires.ours c.requires.theirs c.in-Ok.ensures.ok
