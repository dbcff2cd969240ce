use Rattle.rs_run_pictures.proofs.AllDrawn.{all_drawn}
use Rattle.rs_run_pictures.proofs.laws.drawn_acts_are_the_transcripts.Goals as goal

pub returns : goal.returns
returns c = all_drawn
