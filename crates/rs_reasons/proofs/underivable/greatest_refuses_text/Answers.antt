use Rattle.std.proofs.Common.{◌≡◌, ◌∙◌, sym, ap}
use Rattle.rs_search.specs.declared.faults.SearchFault.TheVariants as search
use Rattle.rs_reasons.specs.Underivable.{GreatestRefuses, is_forgetting}
use Rattle.rs_reasons.proofs.Reasons.{mapped}
use Rattle.rs_reasons.proofs.underivable.greatest_refuses_text.Goals as goal

pub returns-in-NotFound : goal.returns-in-NotFound
returns-in-NotFound c =
    let is : c.args.fault ≡ search.NotFound c.in-NotFound.cut = c.in-NotFound.is in
    mapped _ _ c.refusing_text.result
    (λ lines e.
    GreatestRefuses c.args.explanation.now c.requires.explained c.requires.hopeful c.args.fault (λ q. (let bad : search.NotFound c.in-NotFound.cut ≡ search.NoMemory = sym is ∙ q in cc bad))
    (ap is_forgetting is) c.requires.refused e) c.refusing_text.ensures

pub returns-in-TooLarge : goal.returns-in-TooLarge
returns-in-TooLarge c =
    let is : c.args.fault ≡ search.TooLarge = c.in-TooLarge.is in
    mapped _ _ c.refusing_text-in-TooLarge.result
    (λ lines e.
    GreatestRefuses c.args.explanation.now c.requires.explained c.requires.hopeful c.args.fault (λ q. (let bad : search.TooLarge ≡ search.NoMemory = sym is ∙ q in cc bad))
    (ap is_forgetting is) c.requires.refused e) c.refusing_text-in-TooLarge.ensures
