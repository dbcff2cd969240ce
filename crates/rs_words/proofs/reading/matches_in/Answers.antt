use Rattle.std.proofs.Common.{◌≡◌, ◌∙◌, ap, sym, subst, true, true≢false, refl, ⊎_elim, List, ℕ}
use Rattle.rs_words.specs.Words.{bytes_of_words}
use Rattle.clap.specs.Words.{app_of, fault_of, is_simple, is_simple_and_free, kind_of, subcommand_of, IsAmong}
use Rattle.clap.specs.declared.error.kind.ErrorKind.TheVariants.{OutOfMemory}
use Rattle.rs_words.specs.Clap.{app}
use Rattle.rs_words.proofs.reading.matches_in.Goals as goal

free : is_simple_and_free app ≡ true
free = refl

simple : is_simple app ≡ true
simple = refl

-- src/reading.rt:21:1
pub returns-in-Ok : goal.returns-in-Ok
returns-in-Ok c =
    let words : List (List ℕ) = bytes_of_words c.args.words.now in
    let app_is : app_of c.in_ok-program.program ≡ app = c.in_ok-program.ensures in (
      ap (λ a. fault_of a words) (sym app_is) ∙ c.in-Ok.ensures.kinds (ap is_simple_and_free app_is ∙ free),
      (c.in-Ok.ensures.matches (ap is_simple app_is ∙ simple)).1 ∙ ap (λ a. subcommand_of a words) app_is,
    )

-- src/reading.rt:19:1
pub returns : goal.returns
returns c = λ none.
    let words : List (List ℕ) = bytes_of_words c.args.words.now in
    let app_is : app_of c.in_ok-program.program ≡ app = c.in_ok-program.ensures in
    ⊎_elim (λ memory. let kind : c.kind.result ≡ OutOfMemory = c.kind.ensures ∙ memory in let same : c.eq.result ≡ true = c.eq.ensures ∙ rw kind refl in true≢false (sym same ∙ c.if-eq.false))
    (λ among. subst (IsAmong (kind_of c.in-Err.error)) (ap (λ a. fault_of a words) app_is ∙ none) among)
    (c.in-Err.ensures.kinds (ap is_simple_and_free app_is ∙ free))
