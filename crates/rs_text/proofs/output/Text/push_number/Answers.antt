use Rattle.std.proofs.Common.{arith, ◌≡◌, ℕ, ◌+◌, ◌/◌, ◌%◌, ◌<◌, ◌≤◌, List, [], ◌∷◌, ◌++◌, OnOk, sym, ap, ◌∙◌, subst}
use Rattle.std.proofs.lemmas.Fmt.{decimal_digit, decimal_step}
use Rattle.std.specs.Fmt.{decimal}
use Rattle.rs_text.proofs.output.Text.push_number.Goals as goal

two_digits : (n : ℕ) → 10 ≤ n → n < 100 → decimal n ≡ (48 + n / 10) ∷ (48 + n % 10) ∷ []
two_digits n many few = decimal_step n many (omega arith) ∙ ap (λ z. z ++ ((48 + n % 10) ∷ [])) (decimal_digit (n / 10) (omega arith))

pub returns-then-n-lt10-clause-ok : goal.returns-then-n-lt10-clause-ok
returns-then-n-lt10-clause-ok c =
    subst (λ (z : List ℕ). OnOk c.push_byte.result (c.push_byte.new.self ≡ c.args.self.now ++ z)) (ap (λ z. z ∷ []) c.digit.ensures ∙ sym (decimal_digit c.args.n c.if-n-lt10.true)) c.push_byte.ensures.ok

pub returns-then-n-lt100-clause-ok : goal.returns-then-n-lt100-clause-ok
returns-then-n-lt100-clause-ok c =
    let tens = ap (λ z. z ∷ c.digit-then-n-lt100-2.result ∷ []) c.digit-then-n-lt100.ensures in
    let ones = ap (λ z. (48 + c.args.n / 10) ∷ z ∷ []) c.digit-then-n-lt100-2.ensures in
    subst (λ (z : List ℕ). OnOk c.push_all.result (c.push_all.new.self ≡ c.args.self.now ++ z)) (tens ∙ ones ∙ sym (two_digits c.args.n c.if-n-lt10.false c.if-n-lt100.true)) c.push_all.ensures.ok
