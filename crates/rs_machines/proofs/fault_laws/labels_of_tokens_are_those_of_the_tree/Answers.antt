use Rattle.rs_machines.proofs.TreeLabels.{tree_labels}
use Rattle.rs_machines.proofs.fault_laws.labels_of_tokens_are_those_of_the_tree.Goals as goal

pub returns : goal.returns
returns c = tree_labels
