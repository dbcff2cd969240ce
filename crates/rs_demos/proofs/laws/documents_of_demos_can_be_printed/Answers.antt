use Rattle.rs_demos.proofs.Printable.{printable}
use Rattle.rs_demos.proofs.laws.documents_of_demos_can_be_printed.Goals as goal

pub returns : goal.returns
returns c = printable
