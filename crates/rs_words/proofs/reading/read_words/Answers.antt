use Rattle.std.proofs.Common.{◌∙◌, ap, sym, subst, true≢false, List, ℕ}
use Rattle.std.proofs.lemmas.Result.{IfOk-weaker}
use Rattle.rs_words.specs.Words.{bytes_of_words}
use Rattle.rs_words.specs.Clap.{ClapFinds, task_found}
use Rattle.rs_words.proofs.Exact.{meaning_of_refused, meaning_of_taken}
use Rattle.rs_words.proofs.reading.read_words.Goals as goal

pub returns-then-not-dashes_are_allowed : goal.returns-then-not-dashes_are_allowed
returns-then-not-dashes_are_allowed c = meaning_of_refused (bytes_of_words c.args.words.now)
    (λ allowed e. true≢false (sym allowed ∙ sym c.dashes_are_allowed.ensures ∙ c.if-not-dashes_are_allowed.true))

pub returns-in-None : goal.returns-in-None
returns-in-None c = meaning_of_refused (bytes_of_words c.args.words.now) (λ allowed e. subst (ClapFinds (bytes_of_words c.args.words.now)) c.in-None.is c.in_ok-matches_in.ensures e)

pub returns-in-Some : goal.returns-in-Some
returns-in-Some c =
    let words : List (List ℕ) = bytes_of_words c.args.words.now in
    let told = subst (ClapFinds words) c.in-Some.is c.in_ok-matches_in.ensures in
    IfOk-weaker c.task_in.result _ _ (λ r h. meaning_of_taken words r (sym c.dashes_are_allowed.ensures ∙ c.if-not-dashes_are_allowed.false) told.0 (h ∙ ap task_found told.1)) c.task_in.ensures
