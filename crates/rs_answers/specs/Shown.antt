-- Public: what `show` answers to a document: its canonical text.
use Rattle.std.specs.Prelude.{◌≡◌}
use Rattle.rs_documents.specs.Canonical.{IsCanonicalDocument}
use Rattle.rs_documents.specs.Data.{Document_data}
use Rattle.rs_answers.specs.Data.{Answer_data}
use Rattle.rs_answers.specs.declared.verdicts.Verdict.TheVariants.{Fine}

-- the document is shown, whether it is well formed or not
pub record Shows (d : Document_data) (answer : Answer_data) : Type 0 where
  pub text : IsCanonicalDocument d answer.text
  pub fine : answer.verdict ≡ Fine
