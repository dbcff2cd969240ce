use Rattle.rs_runs.proofs.Computing.{computed}
use Rattle.rs_runs.proofs.laws.demos_print_what_they_compute.Goals as goal

pub returns : goal.returns
returns c = computed
