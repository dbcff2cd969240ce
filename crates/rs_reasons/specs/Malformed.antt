-- Public: what `explain` answers to a text that is at fault.
use Rattle.std.specs.Prelude.{ℕ, List, [], codes}
use Rattle.rs_answers.specs.Data.{Answer_data}
use Rattle.rs_answers.specs.RefusalTexts.{fault_answer}
use Rattle.rs_reasons.specs.Explains.{with_lines}
use Rattle.rs_text.specs.declared.faults.TextKind.{TextKind}
use Rattle.rs_text.specs.declared.faults.TextKind.TheVariants as kind
use Rattle.rs_text.specs.declared.faults.Wanted.{Wanted}
use Rattle.rs_text.specs.declared.faults.Wanted.TheVariants as wanted

-- the line of what was wanted: where that is a sort, all sorts, in the order of the grammar
abbrev pub wanted_line : Wanted → List ℕ
wanted_line wanted.SortOrCloseParen = codes "sorts: unit, bool, nat, int, bytes, list\n"
wanted_line _ = []

-- what is said of the fault after its answer
abbrev pub fault_lines : TextKind → List ℕ
fault_lines (kind.Expected w) = wanted_line w
fault_lines _ = []

-- what `check` answers to the first fault of the text, and after it these lines
abbrev pub explained_fault : List ℕ → TextKind → ℕ → Answer_data
explained_fault bytes fault at = with_lines (fault_answer bytes fault at) (fault_lines fault)
